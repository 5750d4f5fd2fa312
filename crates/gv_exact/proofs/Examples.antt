-- A small space: what some accesses touch. Frames 0 to 3 are a tree of four levels, whose first page is frame 4 and
-- whose second is the table 3, which is read only.
use Rattle.std.proofs.Common.{◌≡◌, ℕ, true, false, List, [], ◌∷◌, None, replicate, refl, Some}
use Rattle.gv_cmd.specs.declared.kind.Kind.TheVariants.{Store, LoadRegister, SemaphoreWait, CopyMemory}
use Rattle.gv_private.specs.Space.{PrivateSpace}
use Rattle.gv_exact.specs.Asked.{operands_asked}
use Rattle.gv_exact.specs.Exact.{given_by}
use Rattle.gv_exact.specs.Touched.{touch}

abbrev rest : List ℕ
rest = replicate 511 0

abbrev space : PrivateSpace
space = record {
  memory = (0x1003 ∷ rest) ∷ (0x2003 ∷ rest) ∷ (0x3003 ∷ rest) ∷ (0x4003 ∷ 0x3003 ∷ replicate 510 0) ∷ (7 ∷ rest) ∷ [];
  ranges = record { low = record { first = 0; pages = 0 }; high = record { first = 0; pages = 0 } };
  entries = [];
  roots = 0 ∷ [];
  root = 0;
  general = λ n. 0;
}

-- a store of one dword writes its four bytes, at an address whose bits from 48 on are ignored
stores : given_by space (operands_asked 0 (Store false 8 7 None)) ≡ touch true 4 8 ∷ touch true 4 9 ∷ touch true 4 10 ∷ touch true 4 11 ∷ []
stores = refl

-- a table isn't written
table_stays : given_by space (operands_asked 0 (Store false 0x1008 7 (Some 9))) ≡ []
table_stays = refl

-- but it is read
table_is_read : given_by space (operands_asked 0 (LoadRegister false 0x2600 0x1008)) ≡ touch false 3 8 ∷ touch false 3 9 ∷ touch false 3 10 ∷ touch false 3 11 ∷ []
table_is_read = refl

-- a load into a register that isn't general reads nothing
not_loaded : given_by space (operands_asked 0 (LoadRegister false 0x2000 0x1008)) ≡ []
not_loaded = refl

-- nothing is mapped there
unmapped : given_by space (operands_asked 0 (SemaphoreWait false 4 1 0x2000)) ≡ []
unmapped = refl

-- a copy from a table to itself reads it, and writes nothing
half : given_by space (operands_asked 0 (CopyMemory false 0x1008 false 0x1010)) ≡ touch false 3 8 ∷ touch false 3 9 ∷ touch false 3 10 ∷ touch false 3 11 ∷ []
half = refl

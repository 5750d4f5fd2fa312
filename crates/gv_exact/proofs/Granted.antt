-- The private device's grants stay while a command runs; so it touches what is asked for and granted at first.
use Rattle.std.proofs.Common.{◌≡◌, ℕ, zero, suc, ◌+◌, ◌*◌, ◌/◌, ◌%◌, ◌^◌, ◌<◌, Bool, true, false, List, [], ◌∷◌, Option, Some, None, All, map, cond, length, refl, ap, ◌∙◌, subst, arith}
use Rattle.std.proofs.lemmas.List.Elements.{All-append}
use Rattle.gv_types.specs.Bits.{with_byte}
use Rattle.gv_types.specs.declared.event.Width.{Width}
use Rattle.gv_types.specs.declared.event.Width.TheVariants.{Four, Eight}
use Rattle.gv_cmd.specs.Effect.{colour_byte}
use Rattle.gv_entry.specs.Global.{global_entry}
use Rattle.gv_entry.specs.Grants.{global_grant, read_grant, write_grant}
use Rattle.gv_entry.specs.SameTables.{SameTables, SameMeaning, has}
use Rattle.gv_entry.specs.Tables.{is_guarded}
use Rattle.gv_entry.proofs.SameTables.{tables_decide, same_tables_chain}
use Rattle.gv_private.specs.Grants.{page_grant_in, frame_read, frame_written}
use Rattle.gv_private.specs.Space.{PrivateSpace, reads, writes, byte_read, word_at, bytes_written, private_operations}
use Rattle.gv_private.proofs.Effects.{writes-free}
use Rattle.gv_private.proofs.Granted.{IsFree, tables-same, frame_written-tables}
use Rattle.gv_exact.specs.Touched.{Touch, touch, byte_touched, dword_touched}
use Rattle.gv_exact.specs.Asked.{Ask, given, given_one, grant_of, command_asked}
use Rattle.gv_exact.specs.Exact.{command_touched, given_by}
use Rattle.gv_exact.proofs.Asked.{Steady, command_given}

module _ (p : PrivateSpace) where
  -- a space with the same tables and entries
  pub record Like (x : PrivateSpace) : Type 0 where
    pub ranges : x.ranges ≡ p.ranges
    pub entries : x.entries ≡ p.entries
    pub roots : x.roots ≡ p.roots
    pub root : x.root ≡ p.root
    pub tables : SameTables p.memory x.memory p.roots

  pub itself : Like p
  itself = record { ranges = refl; entries = refl; roots = refl; root = refl; tables = tables-same p.memory p.roots }

  meaning : (x : PrivateSpace) → Like x → SameMeaning p.memory x.memory p.roots
  meaning x like = tables_decide p.memory x.memory p.roots like.tables

  guarded : (x : PrivateSpace) → Like x → is_guarded x.memory x.roots ≡ is_guarded p.memory p.roots
  guarded x like = (λ i. is_guarded x.memory (like.roots i)) ∙ (meaning x like).guarded

  pages : (x : PrivateSpace) → Like x → (page : ℕ) → page_grant_in x.ranges x.entries x.memory x.roots page ≡ page_grant_in p.ranges p.entries p.memory p.roots page
  pages x like page = λ i. global_grant (like.ranges i) (like.tables.frames i) (guarded x like i) (global_entry (like.ranges i) (like.entries i)) page

  pub same_reads : (x : PrivateSpace) → Like x → has p.roots p.root ≡ true → (global : Bool) (at : ℕ) → reads x global at ≡ reads p global at
  same_reads x like member true at = pages x like (at / 4096)
  same_reads x like member false at = ap (λ root. read_grant x.memory root at) like.root ∙ (meaning x like).read p.root at member

  pub same_writes : (x : PrivateSpace) → Like x → has p.roots p.root ≡ true → (global : Bool) (at : ℕ) → writes x global at ≡ writes p global at
  same_writes x like member true at = pages x like (at / 4096)
  same_writes x like member false at = (λ i. write_grant x.memory (like.roots i) (like.root i) at) ∙ (meaning x like).write p.root at member

  -- a free frame is written
  pub free_written : (x : PrivateSpace) → Like x → (width : Width) (at value : ℕ) (grant : Option ℕ) → IsFree x.memory x.roots grant → Like (record x { memory = frame_written x.memory width at value grant })
  free_written x like width at value grant free =
      let n = frame_written x.memory width at value grant in
      record {
        ranges = like.ranges;
        entries = like.entries;
        roots = like.roots;
        root = like.root;
        tables = same_tables_chain p.memory x.memory n p.roots like.tables (subst (λ roots. SameTables x.memory n roots) like.roots (frame_written-tables x.memory x.roots width at value grant free));
      }

  pub bytes_like : (x : PrivateSpace) → Like x → (at : ℕ) (bytes : ℕ → ℕ) (n : ℕ) → Like (bytes_written x at bytes n)
  unfolding bytes_written
  bytes_like x like at bytes zero = like
  bytes_like x like at bytes (suc n) =
      let q = bytes_written x at bytes n in
      free_written q (bytes_like x like at bytes n) Eight (word_at (at + n)) (with_byte (frame_read q.memory Eight (word_at (at + n)) (writes q false (at + n))) (at + n) (bytes n)) (writes q false (at + n)) (writes-free q false (at + n))

  steady : has p.roots p.root ≡ true → Steady private_operations (record { reads = reads; writes = writes }) Like (reads p) (writes p)
  steady member = record {
    reads = λ x like global at. same_reads x like member global at;
    writes = λ x like global at. same_writes x like member global at;
    load = λ x global at like. like;
    stored = λ x global at value like. free_written x like Four at value (writes x global at) (writes-free x global at);
    copied = λ x to from n like. bytes_like x like (to % 2 ^ 48) (λ k. byte_read x (from % 2 ^ 48 + k)) n;
    filled = λ x to n colour depth like. bytes_like x like (to % 2 ^ 48) (colour_byte colour depth) n;
    set = λ x n value like. record { ranges = like.ranges; entries = like.entries; roots = like.roots; root = like.root; tables = like.tables };
  }

  pub asked_and_granted : has p.roots p.root ≡ true → (ws : List ℕ) (engine : ℕ) (privileged : Bool) → command_touched ws engine privileged p ≡ given (reads p) (writes p) (command_asked ws engine privileged)
  asked_and_granted member ws engine privileged = command_given private_operations (record { reads = reads; writes = writes }) Like (reads p) (writes p) (steady member) ws engine privileged p itself

-- ---- each byte is granted

abbrev pub IsGranted : PrivateSpace → Touch → Type 0
IsGranted p x = (global : Bool) × (at : ℕ) × (cond x.write (writes p global at) (reads p global at) ≡ Some x.page)

none_of : {X : Type 0} (P : X → Type 0) → All P []
none_of P k e low = absurd (omega arith)

with_one : {X : Type 0} (P : X → Type 0) (x : X) (xs : List X) → P x → All P xs → All P (x ∷ xs)
with_one P x xs first all zero e low = first
with_one P x xs first all (suc k) e low = let within : k < length xs = omega arith in all k e within

module _ (p : PrivateSpace) where
  abbrev Fine : Touch → Type 0
  Fine x = IsGranted p x

  on_page : (write : Bool) (f : ℕ) → ((global : Bool) × (at : ℕ) × (cond write (writes p global at) (reads p global at) ≡ Some f)) → (bytes : List ℕ) → All Fine (map (touch write f) bytes)
  on_page write f granted [] = none_of Fine
  on_page write f granted (b ∷ bytes) = with_one Fine (touch write f b) (map (touch write f) bytes) granted (on_page write f granted bytes)

  pieces : (write global dword : Bool) (at : ℕ) (o : Option ℕ) → cond write (writes p global at) (reads p global at) ≡ o → All Fine (cond dword (dword_touched write o at) (byte_touched write o at))
  pieces write global true at None is = none_of Fine
  pieces write global false at None is = none_of Fine
  pieces write global true at (Some f) is =
      let first = at % 4096 / 4 * 4 in
      on_page write f (global, at, is) (first ∷ (first + 1) ∷ (first + 2) ∷ (first + 3) ∷ [])
  pieces write global false at (Some f) is = on_page write f (global, at, is) (at % 4096 ∷ [])

  pub all_granted : (asks : List Ask) → All Fine (given_by p asks)
  all_granted [] = none_of Fine
  all_granted (a ∷ asks) =
      All-append Fine (given_one (reads p) (writes p) a) (given_by p asks) (pieces a.write a.global a.dword a.at (grant_of (reads p) (writes p) a) refl) (all_granted asks)

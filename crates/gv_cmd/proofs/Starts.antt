-- What is known of a command that starts a batch.
use Rattle.std.proofs.Common.{◌≡◌, ℕ, ◌+◌, ◌*◌, ◌/◌, ◌%◌, ◌^◌, ◌<◌, subst, arith, Bool, true, false, List, [], ◌∷◌, ◌++◌, length, get_or, is_some, Option, Some, None, cond, eqb, refl, ap, sym, ◌∙◌}
use Rattle.std.proofs.lemmas.Bool.{eqb-true}
use Rattle.gv_types.specs.Bits.{has_bit}
use Rattle.gv_cmd.specs.Bits.{bits, dword_address}
use Rattle.gv_cmd.specs.Table.{exactly, length_of, batch_start, interface_rows, blit_rows, table, kind_in, kind_of}
use Rattle.gv_cmd.specs.Command.{IsCommand}
use Rattle.gv_cmd.specs.declared.kind.Kind.{Kind}
use Rattle.gv_cmd.specs.declared.kind.Kind.TheVariants.{BatchStart}

-- a choice that isn't the one meant, in one of its branches or in both
past : (b : Bool) {x y k : Option Kind} → (x ≡ k → ⊥) → cond b x y ≡ k → (b ≡ false) × (y ≡ k)
past true never e = absurd (never e)
past false never e = (refl, e)

neither : (b : Bool) {x y k : Option Kind} → (x ≡ k → ⊥) → (y ≡ k → ⊥) → cond b x y ≡ k → ⊥
neither true never nor e = never e
neither false never nor e = nor e

here : (n m : ℕ) (b : Bool) → eqb n m ≡ b → {x y k : Option Kind} → (y ≡ k → ⊥) → cond b x y ≡ k → (n ≡ m) × (x ≡ k)
here n m true is never e = (eqb-true n m is, e)
here n m false is never e = absurd (never e)

-- the header of a BATCH_BUFFER_START
pub record IsStart (h : ℕ) : Type 0 where
  pub pipe : eqb (bits h 31 16) 0x7A00 ≡ false
  pub opcode : bits h 31 23 ≡ 0x31

module _ (live second : Bool) (at : ℕ) where
  blit_by : (b : Bool) (k : Kind) → (Some k ≡ Some (BatchStart live second at) → ⊥) → cond b (Some k) None ≡ Some (BatchStart live second at) → ⊥
  blit_by b k never e = neither b never (λ n. cc) e

  blit_not : (h : ℕ) (ws : List ℕ) → kind_in blit_rows h ws ≡ Some (BatchStart live second at) → ⊥
  blit_not h ws e =
      neither (eqb (bits h 31 22) 0x150) (λ n. blit_by _ _ (λ q. cc) n)
      (λ n. neither (eqb (bits h 31 22) 0x153) (λ q. blit_by _ _ (λ r. cc) q) (λ q. cc) n) e

  interface_start : (o h : ℕ) (ws : List ℕ) → o ≡ bits h 31 23 → kind_in (interface_rows ++ blit_rows) h ws ≡ Some (BatchStart live second at) → o ≡ 0x31
  interface_start o h ws is given =
      let e = rw (← is) at given in
      let a = past (eqb o 0x00) (λ n. cc) e in
      let b = past (eqb o 0x02) (λ n. cc) a.1 in
      let c = past (eqb o 0x05) (λ n. cc) b.1 in
      let d = past (eqb o 0x08) (λ n. cc) c.1 in
      let f = past (eqb o 0x0A) (λ n. cc) d.1 in
      let g = past (eqb o 0x1C) (λ n. cc) f.1 in
      let h2 = past (eqb o 0x20) (λ n. cc) g.1 in
      let i = past (eqb o 0x22) (λ n. cc) h2.1 in
      let j = past (eqb o 0x24) (λ n. cc) i.1 in
      let k = past (eqb o 0x26) (λ n. cc) j.1 in
      let l = past (eqb o 0x29) (λ n. cc) k.1 in
      let m = past (eqb o 0x2A) (λ n. cc) l.1 in
      let p = past (eqb o 0x2E) (λ n. cc) m.1 in
      (here o 0x31 (eqb o 0x31) refl (λ n. blit_not h ws n) p.1).0

  pub header_start : (h : ℕ) (ws : List ℕ) → kind_in table h ws ≡ Some (BatchStart live second at) → IsStart h
  header_start h ws e =
      let p = past (eqb (bits h 31 16) 0x7A00) (λ n. blit_by _ _ (λ q. cc) n) e in
      record { pipe = p.0; opcode = interface_start (bits h 31 23) h ws refl p.1 }

pub length_start : (h : ℕ) → IsStart h → length_of h ≡ exactly 3 (bits h 7 0)
length_start h s = rw (s.pipe, s.opcode) refl

pub kind_start : (h : ℕ) (ws : List ℕ) → IsStart h → kind_in table h ws ≡ Some (batch_start ws)
kind_start h ws s = rw (s.pipe, s.opcode) refl

abbrev exactly_by : Bool → ℕ → Option ℕ
exactly_by b n = cond b (Some n) None

three : (b : Bool) (n : ℕ) → exactly_by b 3 ≡ Some n → exactly_by b 3 ≡ Some 3
three true n e = refl
three false n e = cc

-- the shape of such a command is a command
pub shape_command : (live second : Bool) (at : ℕ) (ws : List ℕ) → IsCommand ws → kind_of ws ≡ Some (BatchStart live second at) → IsCommand (get_or ws 0 0 ∷ 0 ∷ 0 ∷ [])
unfolding kind_of
shape_command live second at ws command is =
    let s = header_start live second at (get_or ws 0 0) ws is in
    let named = length_start (get_or ws 0 0) s in
    record {
      length = named ∙ three (eqb (bits (get_or ws 0 0) 7 0 + 2) 3) (length ws) (sym named ∙ command.length);
      kind = ap is_some (kind_start (get_or ws 0 0) (get_or ws 0 0 ∷ 0 ∷ 0 ∷ []) s);
    }

same_at : (live second other more : Bool) (at to : ℕ) → (let k : Option Kind = Some (BatchStart other more to) in k ≡ Some (BatchStart live second at)) → to ≡ at
same_at live second other more at to is = cc

address_low : (x y : ℕ) → y < 2 ^ 32 → x % 2 ^ 16 * 2 ^ 32 + y / 4 * 4 < 2 ^ 48
address_low x y h = omega arith

-- the address of a start has 48 bits, where its low half is a dword
pub start-low : (ws : List ℕ) (live second : Bool) (at : ℕ) → get_or ws 1 0 < 2 ^ 32 → kind_of ws ≡ Some (BatchStart live second at) → at < 2 ^ 48
unfolding kind_of
start-low ws live second at low is =
    let s = header_start live second at (get_or ws 0 0) ws is in
    let e = same_at live second (has_bit (get_or ws 0 0) 8) (has_bit (get_or ws 0 0) 22) at (dword_address ws 1) (sym (kind_start (get_or ws 0 0) ws s) ∙ is) in
    let P : ℕ → Type 0 = λ n. n < 2 ^ 48 in
    subst P e (address_low (get_or ws 2 0) (get_or ws 1 0) low)

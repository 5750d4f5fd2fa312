-- The dwords of a command where it stands among others, as an engine reads them.
use Rattle.std.proofs.Common.{◌≡◌, ℕ, suc, zero, ◌+◌, ◌*◌, ◌<◌, ◌≤◌, Bool, true, List, [], ◌∷◌, ◌++◌, length, get_or, take, Some, refl, ap, sym, subst, ◌∙◌, arith, append_assoc, length-append}
use Rattle.std.specs.List.{concat}
use Rattle.std.proofs.Math.Seq.{take-suc}
use Rattle.std.proofs.lemmas.List.{append-nil, get_or_append_left, get_or-append-add, take_all}
use Rattle.gv_cmd.specs.Table.{length_of, read_length}
use Rattle.gv_gpu.specs.Device.{Device, Loaded}
use Rattle.gv_gpu.specs.Physical.{read_page, byte_at, operand_at, dword_at}
use Rattle.gv_gpu.specs.Step.{dwords_from, dwords_stray, head_read_from}
use Rattle.gv_scan.specs.Layout.{Begins}
use Rattle.gv_sring.specs.Copy.{Shown, HasCopy}

concat-append : (xs ys : List (List ℕ)) → concat (xs ++ ys) ≡ concat xs ++ concat ys
concat-append [] ys = refl
concat-append (x ∷ xs) ys = ap (λ zs. x ++ zs) (concat-append xs ys) ∙ sym (append_assoc x (concat xs) (concat ys))

-- where a command stands among all dwords
module _ (base : ℕ) (commands : List (List ℕ)) (at : ℕ) (c : List ℕ) (rest : List (List ℕ)) (b : Begins base commands at (c ∷ rest)) where
  abbrev first : ℕ
  first = length (concat b.before)

  joined : concat commands ≡ concat b.before ++ (c ++ concat rest)
  joined = ap concat b.split ∙ concat-append b.before (c ∷ rest)

  long : length (concat commands) ≡ first + (length c + length (concat rest))
  long = ap length joined ∙ length-append (concat b.before) (c ++ concat rest) ∙ ap (λ n. first + n) (length-append c (concat rest))

  pub ends-within : at + 4 * length c ≤ base + 4 * length (concat commands)
  ends-within = let l = long in let n = b.count in omega arith

  pub begins-past : Begins base commands (at + 4 * length c) rest
  begins-past = record {
    before = b.before ++ c ∷ [];
    split = b.split ∙ sym (append_assoc b.before (c ∷ []) rest);
    count = let n = b.count in
        let l : length (concat (b.before ++ c ∷ [])) ≡ first + length c
        = ap length (concat-append b.before (c ∷ [])) ∙ length-append (concat b.before) (c ++ []) ∙ ap (λ xs. first + length xs) (append-nil c) in
        omega arith;
  }

  there : (k : ℕ) → k < length c → get_or (concat commands) (first + k) 0 ≡ get_or c k 0
  there k h =
      ap (λ xs. get_or xs (first + k) 0) joined
      ∙ get_or-append-add (concat b.before) (c ++ concat rest) k 0
      ∙ get_or_append_left c (concat rest) 0 k h

  pub dword-here : (d : Device) (guest image : ℕ) → HasCopy d guest image base (concat commands) → (k : ℕ) → k < length c → dword_at d 0 true (at + 4 * k) ≡ get_or c k 0
  dword-here d guest image holds k h =
      let l = long in
      let n = b.count in
      let within : first + k < length (concat commands) = omega arith in
      let here : at + 4 * k ≡ base + 4 * (first + k) = omega arith in
      ap (dword_at d 0 true) here ∙ holds.dword (first + k) within ∙ there k h

  pub shown-here : (d : Device) (guest image : ℕ) → HasCopy d guest image base (concat commands) → (k : ℕ) → k < length c → Shown d guest image (at + 4 * k)
  shown-here d guest image holds k h =
      let l = long in
      let n = b.count in
      let within : first + k < length (concat commands) = omega arith in
      let here : base + 4 * (first + k) ≡ at + 4 * k = omega arith in
      subst (Shown d guest image) here (holds.shown (first + k) within)

-- a global dword isn't read through a root
pub any-root : (d : Device) (root at : ℕ) → dword_at d root true at ≡ dword_at d 0 true at
unfolding dword_at operand_at byte_at read_page
any-root d root at = refl

pub dwords-are : (d : Device) (root : ℕ) (global : Bool) (at : ℕ) (c : List ℕ) → ((k : ℕ) → k < length c → dword_at d root global (at + 4 * k) ≡ get_or c k 0) → (n : ℕ) → n ≤ length c → dwords_from d root global at n ≡ take n c
unfolding dwords_from
dwords-are d root global at c each zero h = refl
dwords-are d root global at c each (suc n) h =
    let less : n < length c = omega arith in
    let before : n ≤ length c = omega arith in
    ap (λ xs. xs ++ dword_at d root global (at + 4 * n) ∷ []) (dwords-are d root global at c each n before)
    ∙ ap (λ v. take n c ++ v ∷ []) (each n less)
    ∙ sym (take-suc c n 0 less)

-- a command is fetched where its dwords stand
module _ (d : Device) (l : Loaded) (global : Bool) (at : ℕ) (c : List ℕ) (each : (k : ℕ) → k < length c → dword_at d l.root global (at + 4 * k) ≡ get_or c k 0) (some : 1 ≤ length c) (names : length_of (get_or c 0 0) ≡ Some (length c)) where
  count : read_length (length_of (dword_at d l.root global at)) ≡ length c
  count =
      let zero_there : 0 < length c = omega arith in
      let at_zero : at + 4 * 0 ≡ at = omega arith in
      let header : dword_at d l.root global at ≡ get_or c 0 0 = ap (dword_at d l.root global) (sym at_zero) ∙ each 0 zero_there in
      ap (λ h. read_length (length_of h)) header ∙ ap read_length names

  pub fetched-are : (head_read_from d l global at).words ≡ c
  fetched-are =
      let same : length c ≤ length c = omega arith in
      ap (dwords_from d l.root global at) count ∙ dwords-are d l.root global at c each (length c) same ∙ take_all (length c) c same

  pub fetched-strays : (head_read_from d l global at).strayed ≡ dwords_stray d l global at (length c)
  fetched-strays = ap (dwords_stray d l global at) count

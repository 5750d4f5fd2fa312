-- The words of all frames, one after another.
use Rattle.std.proofs.Common.{◌≡◌, ◌≢◌, Bool, true, false, ◌^◌, ℕ, suc, ◌+◌, ◌*◌, ◌-◌, ◌/◌, ◌%◌, ◌<◌, ◌≤◌, List, [], ◌∷◌, ◌++◌, length, get_or, drop, cond, eqb, refl, ap, sym, ◌∙◌, arith, ⊎_elim, length-append}
use Rattle.std.proofs.lemmas.Bool.{cases_lt, eqb-true, lt-ltb}
use Rattle.std.proofs.lemmas.Grind.{common_steps}
use Rattle.std.specs.List.{concat}
use Rattle.std.proofs.lemmas.List.{append-nil, at_drop_more, get_or-map, length-map, drop_all}
use Rattle.gv_types.specs.Memory.{Memory, word_of, memory_read}
use Rattle.gv_types.specs.declared.event.Width.TheVariants.{Eight}
use Rattle.gv_gpu.specs.Device.{Device}
use Rattle.gv_guest.specs.Placed.{Placed, Hosts, memory_in}
use Rattle.gv_text.specs.Report.{text_of}
use Rattle.gv_text.specs.declared.report_line.ReportLine.{ReportLine}
use Rattle.gv_text.specs.declared.report_line.ReportLine.TheVariants.{Memory as Told}
use Rattle.gv_machine.specs.Report.{words_said}
use Rattle.gv_machine.proofs.Text.{said_more, said_none}

-- each frame has 512 words
abbrev pub IsWhole : Memory → Type 0
IsWhole m = (i : ℕ) → i < length m → length (get_or m i []) ≡ 512

rest_whole : (frame : List ℕ) (m : Memory) → IsWhole (frame ∷ m) → IsWhole m
rest_whole frame m whole i h = whole (suc i) (omega arith)

pub length-concat : (m : Memory) → IsWhole m → length (concat m) ≡ length m * 512
length-concat [] whole = refl
length-concat (frame ∷ m) whole =
    let first : length frame ≡ 512 = whole 0 (omega arith) in
    let more = length-concat m (rest_whole frame m whole) in
    length-append frame (concat m) ∙ omega arith

front_word : (frame : List ℕ) (m : Memory) (k : ℕ) → length frame ≡ 512 → k < 512 → get_or (frame ++ concat m) k 0 ≡ word_of (frame ∷ m) k
front_word frame m k long h =
    let front : get_or (frame ++ concat m) k 0 ≡ get_or frame k 0 = grind (arith, common_steps) in
    let place : k / 512 ≡ 0 = omega arith in
    let index : k % 512 ≡ k = omega arith in
    front ∙ sym (ap (λ i. get_or (get_or (frame ∷ m) i []) (k % 512) 0) place ∙ ap (λ i. get_or frame i 0) index)

later_word : (frame : List ℕ) (m : Memory) (j : ℕ) → length frame ≡ 512 → get_or (frame ++ concat m) (512 + j) 0 ≡ get_or (concat m) j 0
later_word frame m j long = grind (arith, common_steps)

word_later : (frame : List ℕ) (m : Memory) (j : ℕ) → word_of (frame ∷ m) (512 + j) ≡ word_of m j
word_later frame m j =
    let place : (512 + j) / 512 ≡ suc (j / 512) = omega arith in
    let index : (512 + j) % 512 ≡ j % 512 = omega arith in
    ap (λ i. get_or (get_or (frame ∷ m) i []) ((512 + j) % 512) 0) place ∙ ap (λ i. get_or (get_or m (j / 512) []) i 0) index

pub get_or-concat : (m : Memory) (k : ℕ) → IsWhole m → k < length m * 512 → get_or (concat m) k 0 ≡ word_of m k
get_or-concat [] k whole h = absurd (omega arith)
get_or-concat (frame ∷ m) k whole h = by_frame (λ j rest. get_or-concat m j (rest_whole frame m whole) rest)
  where
    long : length frame ≡ 512
    long = whole 0 (omega arith)

    by_frame : ((j : ℕ) → j < length m * 512 → get_or (concat m) j 0 ≡ word_of m j) → get_or (frame ++ concat m) k 0 ≡ word_of (frame ∷ m) k
    by_frame later = ⊎_elim
        (λ h. front_word frame m k long h)
        (λ (past : 512 ≤ k).
        let is : k ≡ 512 + (k - 512) = omega arith in
        ap (λ k. get_or (frame ++ concat m) k 0) is ∙ later_word frame m (k - 512) long ∙ later (k - 512) (omega arith)
        ∙ sym (ap (word_of (frame ∷ m)) is ∙ word_later frame m (k - 512)))
        (cases_lt k 512)

-- one word of those that are said
pub words_more : (g : ℕ) (m : Memory) (k : ℕ) → IsWhole m → k < length m * 512 → words_said g (k * 8) (drop k (concat m)) ≡ words_said g (k * 8) (word_of m k ∷ []) ++ words_said g ((k + 1) * 8) (drop (k + 1) (concat m))
words_more g m k whole h =
    let within : k < length (concat m) = rw (length-concat m whole) h in
    let next : k * 8 + 8 ≡ (k + 1) * 8 = omega arith in
    at_drop_more (words_said g (k * 8)) (concat m) k 0 within
    ∙ ap (λ word. words_said g (k * 8) (word ∷ drop (k + 1) (concat m))) (get_or-concat m k whole h)
    ∙ ap (λ at. said_word (k * 8) ++ words_said g at (drop (k + 1) (concat m))) next
    ∙ ap (λ said. said ++ words_said g ((k + 1) * 8) (drop (k + 1) (concat m))) (sym (append-nil (said_word (k * 8))))
  where
    said_word : ℕ → List ReportLine
    said_word at = cond (eqb (word_of m k) 0) [] (Told (record { 0 = g }) at (word_of m k) ∷ [])

-- a word that isn't 0
pub one_word : (g at value : ℕ) → value ≢ 0 → words_said g at (value ∷ []) ≡ Told (record { 0 = g }) at value ∷ []
one_word g at value some = by_test (eqb value 0) refl
  where
    by_test : (b : Bool) → eqb value 0 ≡ b → words_said g at (value ∷ []) ≡ Told (record { 0 = g }) at value ∷ []
    by_test true is = absurd (some (eqb-true value 0 is))
    by_test false is = ap (λ b. cond b [] (Told (record { 0 = g }) at value ∷ []) ++ []) is

-- a read of eight bytes gives a word
pub read_word : (m : Memory) (k : ℕ) → k < length m * 512 → memory_read m Eight (k * 8) ≡ word_of m k
read_word m k h =
    let inside : k * 8 < length m * 4096 = omega arith in
    let number : k * 8 / 8 ≡ k = omega arith in
    ap (λ b. cond b (word_of m (k * 8 / 8)) (2 ^ 64 - 1)) (lt-ltb (k * 8) (length m * 4096) inside) ∙ ap (word_of m) number

pub whole-stands : (d : Device) (placed : Placed) → Hosts d placed → IsWhole (memory_in d placed)
whole-stands d placed stands i h =
    let within : i < length placed.pages = rw length-map at h in
    ap length (get_or-map d.words placed.pages i 0 [] within) ∙ stands.long i within

module _ (m : Memory) (g k : ℕ) (whole : IsWhole m) (within : k < length m * 512) (before after all : List ℕ) (value : ℕ) (is : value ≡ memory_read m Eight (k * 8)) (said : after ≡ before ++ text_of (words_said g (k * 8) (value ∷ []))) (kept : before ++ text_of (words_said g (k * 8) (drop k (concat m))) ≡ all) where
  pub words_kept : after ++ text_of (words_said g ((k + 1) * 8) (drop (k + 1) (concat m))) ≡ all
  words_kept =
      let word = is ∙ read_word m k within in
      let told : after ≡ before ++ text_of (words_said g (k * 8) (word_of m k ∷ [])) = said ∙ ap (λ w. before ++ text_of (words_said g (k * 8) (w ∷ []))) word in
      said_more before after (words_said g (k * 8) (word_of m k ∷ [])) (words_said g ((k + 1) * 8) (drop (k + 1) (concat m))) told
      ∙ ap (λ lines. before ++ text_of lines) (sym (words_more g m k whole within)) ∙ kept

pub words_done : (m : Memory) (g k : ℕ) → IsWhole m → length m * 512 ≤ k → (before all : List ℕ) → before ++ text_of (words_said g (k * 8) (drop k (concat m))) ≡ all → before ≡ all
words_done m g k whole past before all kept =
    let none : drop k (concat m) ≡ [] = drop_all k (concat m) (rw (length-concat m whole) past) in
    said_none before ∙ sym (ap (λ words. before ++ text_of (words_said g (k * 8) words)) none) ∙ kept

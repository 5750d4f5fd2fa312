-- What of a text was told, and what of that was written, or summed up.
use Rattle.std.specs.Io.KnownBytes.{Appends}
use Rattle.std.proofs.Common.{◌≡◌, ℕ, ◌+◌, ◌<◌, ◌≤◌, List, [], ◌∷◌, ◌++◌, Option, Result, Ok, Err, OnOk, length, take, drop, ap, sym, ◌∙◌, arith, subst, ⊎_elim, append-nil}
use Rattle.std.proofs.lemmas.Bool.{cases_lt}
use Rattle.std.proofs.lemmas.List.{take-append-le, take-append-drop, take_all}
use Rattle.std.proofs.Math.Seq.{take-append_seam}
use Rattle.gv_outside.proofs.Pieces.{front_more}
use Rattle.gv_lines.specs.Outlet.{Delivery, Gets, GetsFront, Passes, got, in_sink, in_totals}
use Rattle.gv_lines.specs.declared.outlet.Outlet.{Outlet}
use Rattle.gv_lines.specs.declared.outlet.Outlet.TheVariants as outlets
use Rattle.gv_lines.proofs.Passing.{gets-none, gets-more, passes-more, passes-none, passes-trans}
use Rattle.gv_text.specs.Report.{text_of}
use Rattle.gv_text.specs.declared.report_line.ReportLine.{ReportLine}
use Rattle.gv_run.specs.Streamed.{WritesFront}
use Rattle.gv_machine.proofs.Text.{said_more}

pub front-none : (text : List ℕ) (a : Delivery) → GetsFront text a a
front-none text a = (0, gets-none a)

-- a front of a text is one of a longer text
pub front-longer : (xs ys : List ℕ) (a b : Delivery) → GetsFront xs a b → GetsFront (xs ++ ys) a b
front-longer xs ys a b front =
    let n = front.0 in
    ⊎_elim
    (λ (past : length xs < n). (length xs, subst (Gets a b) (take_all n xs (omega arith) ∙ sym (take-append_seam xs ys)) front.1))
    (λ (within : n ≤ length xs). (n, subst (Gets a b) (sym (take-append-le n xs ys within)) front.1))
    (cases_lt (length xs) n)

pub passes-part : (xs held : List ℕ) (a b : Delivery) → Passes xs held a b → GetsFront xs a b
passes-part xs held a b passes = (passes.count, passes.written)

-- of what is held, a front is written then
pub passes-front : (xs held : List ℕ) (a b c : Delivery) → Passes xs held a b → GetsFront held b c → GetsFront xs a c
passes-front xs held a b c passes front =
    let m = passes.count in
    let n = front.0 in
    (m + n, subst (Gets a c) (front_more m n xs) (gets-more a b c (take m xs) (take n (drop m xs)) passes.written (subst (λ l. Gets b c (take n l)) passes.rest front.1)))

-- where nothing is held, all was written
pub passes-all : (xs : List ℕ) (a b : Delivery) → Passes xs [] a b → Gets a b xs
passes-all xs a b passes =
    let n = passes.count in
    subst (Gets a b) (sym (append-nil (take n xs)) ∙ ap (λ l. take n xs ++ l) passes.rest ∙ take-append-drop n xs) passes.written

-- Of a text all but `left` was told; what of that isn't written yet is held.
pub record Saying (all left held : List ℕ) (old new : Delivery) : Type 0 where
  pub said : List ℕ
  pub passed : Passes said held old new
  pub whole : said ++ left ≡ all

module _ (all left held : List ℕ) (a b : Delivery) (saying : Saying all left held a b) where
  pub saying-part : GetsFront all a b
  saying-part = subst (λ l. GetsFront l a b) saying.whole (front-longer saying.said left a b (passes-part saying.said held a b saying.passed))

  -- a further part of the text is told
  module _ (text later : List ℕ) (is : saying.said ++ text ++ later ≡ all) where
    pub saying-more : (now : List ℕ) (c : Delivery) → Passes (held ++ text) now b c → Saying all later now a c
    saying-more now c passes = record {
      said = saying.said ++ text;
      passed = passes-trans (saying.said ++ text) (held ++ text) now a b c (passes-more saying.said held text a b saying.passed) passes;
      whole = is;
    }

    pub saying-front : (c : Delivery) → GetsFront (held ++ text) b c → GetsFront all a c
    saying-front c front = subst (λ l. GetsFront l a c) is
        (front-longer (saying.said ++ text) later a c (passes-front (saying.said ++ text) (held ++ text) a b c (passes-more saying.said held text a b saying.passed) front))

  -- nothing is left
  pub saying-done : saying.said ≡ all → Passes all held a b
  saying-done is = subst (λ l. Passes l held a b) is saying.passed

pub saying-all : (before text : List ℕ) (a : Delivery) → Saying (before ++ text) text before a a
saying-all before text a = record { said = before; passed = passes-none before a; whole = λ _. before ++ text }

-- ---- report lines

-- all but the last line was told
pub record TellsFront (before : List ℕ) (all : List ReportLine) (last : ReportLine) (held : List ℕ) (old new : Delivery) : Type 0 where
  pub front : List ReportLine
  pub whole : front ++ last ∷ [] ≡ all
  pub passed : Passes (before ++ text_of front) held old new

-- what is behind some bytes is told in two parts
pub said-parts : (before : List ℕ) (xs ys : List ReportLine) → (before ++ text_of xs) ++ text_of ys ≡ before ++ text_of (xs ++ ys)
said-parts before xs ys = said_more before (before ++ text_of xs) xs ys (λ _. before ++ text_of xs)

-- a front of the lines' text is one of the text of more lines
pub front-said : (before : List ℕ) (xs ys : List ReportLine) (a b : Delivery) → GetsFront (before ++ text_of xs) a b → GetsFront (before ++ text_of (xs ++ ys)) a b
front-said before xs ys a b front = subst (λ l. GetsFront l a b) (said-parts before xs ys) (front-longer (before ++ text_of xs) (text_of ys) a b front)

module _ (before : List ℕ) (all : List ReportLine) (last : ReportLine) (held : List ℕ) (a b : Delivery) (tells : TellsFront before all last held a b) where
  pub last-told : (now : List ℕ) → now ≡ held ++ text_of (last ∷ []) → Passes (before ++ text_of all) now a b
  last-told now told =
      let passes = passes-more (before ++ text_of tells.front) held (text_of (last ∷ [])) a b tells.passed in
      subst (λ l. Passes l now a b) (said-parts before tells.front (last ∷ []) ∙ ap (λ lines. before ++ text_of lines) tells.whole)
      (subst (λ l. Passes ((before ++ text_of tells.front) ++ text_of (last ∷ [])) l a b) (sym told) passes)

  pub last-front : GetsFront (before ++ text_of all) a b
  last-front = subst (λ lines. GetsFront (before ++ text_of lines) a b) tells.whole
      (front-said before tells.front (last ∷ []) a b (passes-part (before ++ text_of tells.front) held a b tells.passed))

-- a fact of an Ok that follows from another
pub ok_then : {T E : Type 0} {P Q : Type 0} (r : Result T E) → (P → Q) → OnOk r P → OnOk r Q
ok_then (Ok x) f h = f h
ok_then (Err e) f h = tt

-- ---- an outlet that is a sink, or totals

-- it still is
pub sink-appends : (text : List ℕ) (outlet : Outlet) (a b : Option (List ℕ)) → Gets (in_sink a) (got outlet b) text → Appends a b text
sink-appends text outlets.Sink a b gets = gets
sink-appends text (outlets.Totals totals) a b gets = absurd gets

pub sink-front : (text : List ℕ) (outlet : Outlet) (a b : Option (List ℕ)) → GetsFront text (in_sink a) (got outlet b) → WritesFront text a b
sink-front text outlets.Sink a b front = front
sink-front text (outlets.Totals totals) a b front = absurd front.1

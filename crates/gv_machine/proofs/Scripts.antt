-- A script by the front of its source that is read, and what goes by the script alone.
use Rattle.std.proofs.Common.{◌≡◌, ℕ, ◌+◌, ◌<◌, ◌≤◌, Bool, true, false, List, length, take, cond, leb, ap, sym, ◌∙◌, arith, ⊎_elim}
use Rattle.std.proofs.lemmas.Bool.{cases_lt, le-leb, lt-leb}
use Rattle.std.proofs.lemmas.List.{take-take, take_all, length-take-le}
use Rattle.gv_text.specs.Report.{text_of}
use Rattle.gv_text.specs.Script.{Script, script_of, script_in, script_limit}
use Rattle.gv_machine.specs.Machine.{new_machine, ran_all}
use Rattle.gv_machine.specs.Report.{report_of, ending_of, machine_of, commands_in, course_of, script_said}

by_length : (source : List ℕ) (b : Bool) → leb (length source) script_limit ≡ b → script_of source ≡ cond b (script_in true source) (script_in false (take script_limit source))
unfolding script_of
by_length source b is = ap (λ b. cond b (script_in true source) (script_in false (take script_limit source))) is

pub script-whole : (source : List ℕ) → length source ≤ script_limit → script_of source ≡ script_in true source
script-whole source h = by_length source true (le-leb (length source) script_limit h)

pub script-cut : (source : List ℕ) → script_limit < length source → script_of source ≡ script_in false (take script_limit source)
script-cut source h = by_length source false (lt-leb (length source) script_limit h)

-- one byte past the limit tells that there are more
pub script_of-take : (source : List ℕ) → script_of (take (script_limit + 1) source) ≡ script_of source
script_of-take source = ⊎_elim
    (λ (more : script_limit < length source).
    let long : length (take (script_limit + 1) source) ≡ script_limit + 1 = length-take-le (script_limit + 1) source (omega arith) in
    script-cut (take (script_limit + 1) source) (omega arith)
    ∙ ap (script_in false) (take-take script_limit (script_limit + 1) source (omega arith))
    ∙ sym (script-cut source more))
    (λ (few : length source ≤ script_limit). ap script_of (take_all (script_limit + 1) source (omega arith)))
    (cases_lt script_limit (length source))

-- what goes by the script alone is the same for two sources with one script
module _ (a b : List ℕ) (is : script_of a ≡ script_of b) where
  pub same-report : report_of a ≡ report_of b
  unfolding report_of
  same-report = ap (λ s. text_of (script_said new_machine s)) is

  pub same-ending : ending_of a ≡ ending_of b
  unfolding ending_of
  same-ending = ap (λ (s : Script). s.ending) is

  pub same-machine : machine_of a ≡ machine_of b
  unfolding machine_of
  same-machine = ap (λ (s : Script). (course_of new_machine s).left) is

  pub same-commands : commands_in a ≡ commands_in b
  unfolding commands_in
  same-commands = ap (λ (s : Script). ran_all (course_of new_machine s).came) is

module _ (source : List ℕ) (s : Script) (is : script_of source ≡ s) where
  pub report_of-script : report_of source ≡ text_of (script_said new_machine s)
  unfolding report_of
  report_of-script = ap (λ s. text_of (script_said new_machine s)) is

  pub ending_of-script : ending_of source ≡ s.ending
  unfolding ending_of
  ending_of-script = ap (λ (s : Script). s.ending) is

  pub machine_of-script : machine_of source ≡ (course_of new_machine s).left
  unfolding machine_of
  machine_of-script = ap (λ (s : Script). (course_of new_machine s).left) is

  pub commands_in-script : commands_in source ≡ ran_all (course_of new_machine s).came
  unfolding commands_in
  commands_in-script = ap (λ (s : Script). ran_all (course_of new_machine s).came) is

-- The course of a number's script tells no reason of failsafe, and leaves no device in failsafe.
use Rattle.std.proofs.Common.{◌≡◌, ℕ, ◌+◌, Bool, true, false, List, [], ◌∷◌, ◌++◌, cond, refl, sym, ap, ◌∙◌, subst}
use Rattle.std.specs.Bool.{OnFalse}
use Rattle.gv_text.specs.Script.{Script, ends, is_end, known_after, nothing_known, onto_script}
use Rattle.gv_text.specs.declared.ending.Ending.TheVariants.{Done}
use Rattle.gv_text.specs.declared.known.Known.{Known}
use Rattle.gv_text.specs.declared.script_line.Line.{Line}
use Rattle.gv_gen.specs.Made.{AreAccepted, script_of_lines, script_made}
use Rattle.gv_gen.specs.Script.{guest_lines, set_up_lines, rounds_from, script_of_number}
use Rattle.gv_gen.proofs.Accepted.{all_accepted, first-accepted}
use Rattle.gv_machine.specs.Machine.{new_machine}
use Rattle.gv_machine.specs.Report.{course_of}
use Rattle.gv_calm.specs.Calm.{NoReplyTellsFailsafe, NoDeviceIsInFailsafe}
use Rattle.gv_calm.proofs.Rounds.{IsCalm, LeadsOn, rounds-lead, up_to_end}
use Rattle.gv_calm.proofs.Starting.{start-leads}

-- ---- the lines of the script that is made

lines_by_end : (line : Line) (more : Script) (rest : List Line) (b : Bool) → OnFalse b (more.lines ≡ rest) → (cond b (ends Done) (onto_script line more)).lines ≡ cond b [] (line ∷ rest)
lines_by_end line more rest true same = refl
lines_by_end line more rest false same = ap (λ lines. line ∷ lines) same

on_false : {P Q : Type 0} (b : Bool) → (P → Q) → OnFalse b P → OnFalse b Q
on_false true f p = tt
on_false false f p = f p

accepted-lines : (known : Known) (n : ℕ) (lines : List Line) → AreAccepted known lines → (script_of_lines known n lines).lines ≡ up_to_end lines
unfolding up_to_end
accepted-lines known n [] accepted = absurd accepted
accepted-lines known n (line ∷ lines) accepted =
    ap (λ (s : Script). s.lines) (first-accepted known n line lines accepted)
    ∙ lines_by_end line (script_of_lines (known_after known line) (n + 1) lines) (up_to_end lines) (is_end line) (on_false (is_end line) (accepted-lines (known_after known line) (n + 1) lines) accepted.2)

behind_first : (rest : List Line) → up_to_end (guest_lines ++ (set_up_lines 0 ++ (set_up_lines 1 ++ rest))) ≡ guest_lines ++ (set_up_lines 0 ++ (set_up_lines 1 ++ up_to_end rest))
unfolding up_to_end
behind_first rest = refl

made-lines : (number : ℕ) → (script_made number).lines ≡ guest_lines ++ (set_up_lines 0 ++ (set_up_lines 1 ++ up_to_end (rounds_from 4096 number)))
unfolding script_made
made-lines number = accepted-lines nothing_known 1 (script_of_number number) (all_accepted number) ∙ behind_first (rounds_from 4096 number)

-- ---- its course

pub made-calm : (number : ℕ) → IsCalm (course_of new_machine (script_made number))
made-calm number =
    subst (λ lines. LeadsOn lines new_machine) (sym (made-lines number))
    (start-leads (up_to_end (rounds_from 4096 number)) (λ m s. rounds-lead 4096 number m s))

pub no_reply_tells_failsafe : NoReplyTellsFailsafe
no_reply_tells_failsafe number = (made-calm number).quiet

pub no_device_is_in_failsafe : NoDeviceIsInFailsafe
no_device_is_in_failsafe number = (made-calm number).devices

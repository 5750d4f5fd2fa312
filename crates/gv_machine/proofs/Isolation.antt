-- Each guest is told what its own device alone would tell it.
use Rattle.std.proofs.Common.{◌≡◌, ℕ, ◌+◌, ◌<◌, ◌≤◌, Bool, List, [], ◌++◌, cond, length, filter, ap, sym, ◌∙◌, subst, arith, false}
use Rattle.std.proofs.lemmas.List.Elements.{filter-append}
use Rattle.std.specs.List.{AllByRecursion, flat_map}
use Rattle.gv_types.specs.declared.ranges.Ranges.{Ranges}
use Rattle.gv_balloon.specs.Shares.{nothing_given}
use Rattle.gv_text.specs.Guest.{speaks_of, lines_of_guest}
use Rattle.gv_text.specs.Report.{text_of}
use Rattle.gv_text.specs.Script.{Script, script_of}
use Rattle.gv_text.specs.declared.report_line.ReportLine.{ReportLine}
use Rattle.gv_text.specs.declared.script_line.Guest.{Guest as GuestForm}
use Rattle.gv_text.proofs.ReportLines.{lines_of_guest-text_of}
use Rattle.gv_private.specs.Device.{PrivateDevice, new_device}
use Rattle.gv_private.specs.Inputs.{Input}
use Rattle.gv_machine.specs.Course.{Course, play}
use Rattle.gv_machine.specs.Laws.{EachGuestIsToldItsOwn, EqualGuestsAreToldTheSame}
use Rattle.gv_machine.specs.Machine.{Machine, Done, new_machine, device_at, device_course, input_course, inputs_in}
use Rattle.gv_machine.specs.Report.{said_all, memory_said, ending_said, course_of, script_said, report_of}
use Rattle.gv_machine.specs.Solo.{solo, guests_of, frames_of, ranges_of, own_done, inputs_done, inputs_of, is_done_ending}
use Rattle.gv_machine.proofs.Joined.{devices_from, length-devices_from, device-from, length-played, lines-joined}
use Rattle.gv_machine.proofs.Named.{AreBelow, IsRun, run-script_of, run-small, run-below}
use Rattle.gv_machine.proofs.OwnCourse.{IsWhole, IsTold, seen, own-course, all-told}
use Rattle.gv_machine.proofs.OwnLines.{said-spoken, ending-spoken}
use Rattle.gv_machine.proofs.Printable.{Printable, printable-append, told-printable, ending-printable}

module _ (script : Script) (run : IsRun false 0 script.lines) where
  abbrev pub guests : List GuestForm
  guests = guests_of script.lines

  -- the machine of all guests, before the first event
  abbrev pub machine : Machine
  machine = record new_machine { devices = devices_from 0 nothing_given guests }

  abbrev pub all : Course Machine Done
  all = play input_course machine (flat_map inputs_in script.lines)

  none_more : 0 + length guests ≡ length guests
  none_more = omega arith

  pub few : length guests ≤ 8
  few = let small : 0 + length guests ≤ 8 = run-small false 0 script.lines run in omega arith

  pub joined : course_of new_machine script ≡ all
  joined = lines-joined false new_machine script.lines run

  pub count : length machine.devices ≡ length guests
  count = length-devices_from 0 nothing_given guests

  pub whole : IsWhole machine
  whole = record {
    numbers = λ g h.
        let same : 0 + g ≡ g = omega arith in
        ap (λ (p : PrivateDevice). p.number) (device-from 0 nothing_given guests g (subst (λ n. g < n) count h)) ∙ same;
    owners = λ engine. omega arith;
  }

  pub below : AreBelow (length machine.devices) (flat_map inputs_in script.lines)
  below = subst (λ n. AreBelow n (flat_map inputs_in script.lines)) (none_more ∙ sym count) (run-below false 0 script.lines run)

  told : AllByRecursion (IsTold (length machine.devices)) all.came
  told = all-told machine (flat_map inputs_in script.lines) whole below

  all_said : script_said new_machine script ≡ said_all all.came ++ ending_said script.ending all.left
  all_said = ap (λ (c : Course Machine Done). said_all c.came ++ ending_said script.ending c.left) joined

  same_length : length all.left.devices ≡ length guests
  same_length = length-played machine (flat_map inputs_in script.lines) ∙ count

  -- the report names no guest but those that there are
  pub printable : Printable (script_said new_machine script)
  printable =
      subst Printable (sym all_said) (printable-append (said_all all.came) (ending_said script.ending all.left)
      (told-printable (length machine.devices) all.came (subst (λ n. n ≤ 8) (sym count) few) told)
      (ending-printable script.ending all.left (subst (λ n. n ≤ 8) (sym same_length) few)))

  module _ (g : ℕ) (there : g < length guests) where
    abbrev alone : PrivateDevice
    alone = new_device g (frames_of script.lines g) (ranges_of script.lines g)

    abbrev inputs : List Input
    inputs = inputs_of g script.lines

    at_first : device_at machine.devices g ≡ alone
    at_first =
        let same : 0 + g ≡ g = omega arith in
        device-from 0 nothing_given guests g there
        ∙ ap (λ number. new_device number (frames_of script.lines g) (ranges_of script.lines g)) same

    same_inputs : inputs_done (own_done g all.came) ≡ inputs
    same_inputs = ap (λ (c : Course Machine Done). inputs_done (own_done g c.came)) (sym joined)

    by_itself : seen g all ≡ play device_course alone inputs
    by_itself =
        (own-course g machine (flat_map inputs_in script.lines) whole below).own
        ∙ ap (play device_course (device_at machine.devices g)) same_inputs
        ∙ ap (λ (p : PrivateDevice). play device_course p inputs) at_first

    spoken : filter (speaks_of g) (script_said new_machine script) ≡ said_all (play device_course alone inputs).came ++ cond (is_done_ending script.ending) (memory_said g (play device_course alone inputs).left.memory) []
    spoken =
        ap (filter (speaks_of g)) all_said
        ∙ filter-append (speaks_of g) (said_all all.came) (ending_said script.ending all.left)
        ∙ ap (λ (z : List ReportLine). z ++ filter (speaks_of g) (ending_said script.ending all.left)) (said-spoken g (length machine.devices) all.came told)
        ∙ ap (λ (z : List ReportLine). said_all (own_done g all.came) ++ z) (ending-spoken g script.ending all.left (subst (λ n. g < n) (sym same_length) there))
        ∙ ap (λ (c : Course PrivateDevice Done). said_all c.came ++ cond (is_done_ending script.ending) (memory_said g c.left.memory) []) by_itself

    pub private : lines_of_guest g (text_of (script_said new_machine script)) ≡ solo g (frames_of script.lines g) (ranges_of script.lines g) inputs (is_done_ending script.ending)
    unfolding solo
    private =
        let small : g < 8 = let most = few in omega arith in
        lines_of_guest-text_of g (script_said new_machine script) small printable ∙ ap text_of spoken

pub each_guest_is_told_its_own : EachGuestIsToldItsOwn
unfolding report_of
each_guest_is_told_its_own source g there = private (script_of source) (run-script_of source) g there

same_solo : (g m n : ℕ) (r s : Ranges) (xs ys : List Input) (b c : Bool) → m ≡ n → r ≡ s → xs ≡ ys → b ≡ c → solo g m r xs b ≡ solo g n s ys c
same_solo g m n r s xs ys b c frames ranges inputs done =
    ap (λ frames. solo g frames r xs b) frames ∙ ap (λ ranges. solo g n ranges xs b) ranges ∙ ap (λ inputs. solo g n s inputs b) inputs ∙ ap (λ done. solo g n s ys done) done

pub equal_guests_are_told_the_same : EqualGuestsAreToldTheSame
equal_guests_are_told_the_same g a b alike =
    each_guest_is_told_its_own a g alike.first ∙ same_solo g _ _ _ _ _ _ _ _ alike.frames alike.ranges alike.inputs alike.done ∙ sym (each_guest_is_told_its_own b g alike.second)

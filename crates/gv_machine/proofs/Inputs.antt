-- A guest's inputs, but for turns, are those that name it.
use Rattle.std.proofs.Common.{◌≡◌, ℕ, Bool, true, false, not, ◌&&◌, List, [], ◌∷◌, ◌++◌, cond, eqb, length, filter, refl, ap, sym, ◌∙◌}
use Rattle.std.proofs.Math.Bool.{and-true}
use Rattle.std.proofs.lemmas.List.{map-append}
use Rattle.std.proofs.lemmas.List.Elements.{filter-append}
use Rattle.std.specs.List.{flat_map}
use Rattle.gv_types.specs.declared.event.Event.{Event}
use Rattle.gv_types.specs.declared.event.Event.TheVariants.{Turn, Switch}
use Rattle.gv_types.specs.declared.ids.EngineId.{EngineId}
use Rattle.gv_text.specs.Script.{Script, script_of}
use Rattle.gv_private.specs.Inputs.{Input, event, turns}
use Rattle.gv_machine.specs.Course.{Course, play}
use Rattle.gv_machine.specs.Laws.{is_of_turns, names, names_event, InputsNameTheirGuest}
use Rattle.gv_machine.specs.Machine.{Machine, Done, Receiver, device, rota, receiver, received, device_at, input_course, inputs_in}
use Rattle.gv_machine.specs.Solo.{is_taken_by, own_done, inputs_done, inputs_of}
use Rattle.gv_machine.proofs.Isolation.{machine, joined, whole, below}
use Rattle.gv_machine.proofs.Named.{AreBelow, IsRun, run-script_of}
use Rattle.gv_machine.proofs.OwnCourse.{IsWhole, AreNumbered, ReceivedBelow, goes, whole-input, below-input}

abbrev plain : Input → Bool
plain input = not (is_of_turns input)

and_false : (b : Bool) → (b && false) ≡ false
and_false true = refl
and_false false = refl

module _ (g : ℕ) where
  abbrev own_plain : List Done → List Input
  own_plain came = filter plain (inputs_done (own_done g came))

  plain_append : (xs ys : List Done) → own_plain (xs ++ ys) ≡ own_plain xs ++ own_plain ys
  plain_append xs ys =
      ap (λ (came : List Done). filter plain (inputs_done came)) (filter-append (λ (d : Done). is_taken_by g d.whose) xs ys)
      ∙ ap (filter plain) (map-append (λ (d : Done). d.input) (own_done g xs) (own_done g ys))
      ∙ filter-append plain (inputs_done (own_done g xs)) (inputs_done (own_done g ys))

  one_plain : (d : Done) (b : Bool) → filter plain (inputs_done (cond b (d ∷ []) [])) ≡ cond (b && plain d.input) (d.input ∷ []) []
  one_plain d true = refl
  one_plain d false = refl

  -- a device's input names its guest, unless it is of turns
  module _ (owners : ℕ → ℕ) (k number : ℕ) (same : number ≡ k) where
    event_named : (one : Event) → receiver owners (event one) ≡ device k → (eqb number g && plain (event one)) ≡ names_event g one
    event_named (Turn engine) is = and_false (eqb number g)
    event_named (Switch engine) is = absurd (cc)
    event_named one is = and-true (eqb number g) ∙ (cc)

    input_named : (input : Input) → receiver owners input ≡ device k → (eqb number g && plain input) ≡ names g input
    input_named (event one) is = event_named one is
    input_named (turns engine count) is = and_false (eqb number g)

  switch_named : (owners : ℕ → ℕ) (engine : EngineId) (one : Event) → receiver owners (event one) ≡ rota engine → names_event g one ≡ false
  switch_named owners engine (Turn other) is = refl
  switch_named owners engine (Switch other) is = refl
  switch_named owners engine one is = absurd (cc)

  rota_named : (owners : ℕ → ℕ) (engine : EngineId) (input : Input) → receiver owners input ≡ rota engine → names g input ≡ false
  rota_named owners engine (event one) is = switch_named owners engine one is
  rota_named owners engine (turns other count) is = refl

  received_plain : (m : Machine) (input : Input) (r : Receiver) → receiver m.owners input ≡ r → AreNumbered m.devices → ReceivedBelow (length m.devices) r → own_plain (received m input r).came ≡ filter (names g) (input ∷ [])
  received_plain m input (device k) is numbers there =
      let number = (device_at m.devices k).number in
      one_plain _ (eqb number g)
      ∙ ap (λ b. cond b (input ∷ []) []) (input_named m.owners k number (numbers k there) input is)
  received_plain m input (rota engine) is numbers there = ap (λ b. cond b (input ∷ []) []) (sym (rota_named m.owners engine input is))

  played_plain : (m : Machine) (inputs : List Input) → IsWhole m → AreBelow (length m.devices) inputs → own_plain (play input_course m inputs).came ≡ filter (names g) inputs
  played_plain m [] fits there = refl
  played_plain m (input ∷ inputs) fits there =
      let next = (input_course m input).left in
      plain_append (input_course m input).came (play input_course next inputs).came
      ∙ ap (λ z. z ++ own_plain (play input_course next inputs).came) (received_plain m input (receiver m.owners input) refl fits.numbers (goes m input fits there.0))
      ∙ ap (λ z. filter (names g) (input ∷ []) ++ z) (played_plain next inputs (whole-input m input fits there.0) (below-input m input fits there.0 inputs there.1))
      ∙ sym (filter-append (names g) (input ∷ []) inputs)

  script_plain : (script : Script) → IsRun false 0 script.lines → filter plain (inputs_of g script.lines) ≡ filter (names g) (flat_map inputs_in script.lines)
  script_plain script run =
      ap (λ (c : Course Machine Done). own_plain c.came) (joined script run)
      ∙ played_plain (machine script run) (flat_map inputs_in script.lines) (whole script run) (below script run)

pub inputs_name_their_guest : InputsNameTheirGuest
inputs_name_their_guest source g = script_plain g (script_of source) (run-script_of source)

-- The inputs of an accepted script go to guests and engines that are there.
use Rattle.std.proofs.Common.{◌≡◌, ℕ, ◌+◌, ◌<◌, ◌≤◌, Bool, true, false, not, ◌&&◌, List, [], ◌∷◌, ◌++◌, Option, None, Some, cond, length, take, refl, ap, sym, ◌∙◌, subst, arith}
use Rattle.std.proofs.lemmas.Bool.{ltb-true}
use Rattle.std.proofs.lemmas.Bool.Decides.{nat_tests}
use Rattle.std.specs.Prelude.{nat_le, nat_lt}
use Rattle.std.specs.List.{AllByRecursion, flat_map}
use Rattle.gv_balloon.specs.Shares.{fits}
use Rattle.gv_types.specs.Memory.{bytes_of}
use Rattle.gv_types.specs.declared.event.Event.{Event}
use Rattle.gv_types.specs.declared.event.Event.TheVariants as events
use Rattle.gv_types.specs.declared.event.Place.{Place}
use Rattle.gv_types.specs.declared.event.Width.{Width}
use Rattle.gv_types.specs.declared.ids.GuestId.{GuestId}
use Rattle.gv_text.specs.Number.{◌>>=◌, provided}
use Rattle.gv_text.specs.Script.{Script, want_of, nothing_known, accepts, known_after, is_end, ends, onto_script, script_on, script_from, script_in, script_of, script_limit, lines_of, counts_last, accepted}
use Rattle.gv_text.specs.Grammar.{line_of}
use Rattle.gv_text.specs.declared.ending.Ending.TheVariants.{Done}
use Rattle.gv_text.specs.declared.known.Known.{Known}
use Rattle.gv_text.specs.declared.script_line.Line.{Line}
use Rattle.gv_text.specs.declared.script_line.Line.TheVariants.{Blank, Guest, Read, Write, Elsp, Turn, Switch, Move, Reset, End}
use Rattle.gv_private.specs.Inputs.{Input, event, turns}
use Rattle.gv_machine.specs.Machine.{writes_of, port_writes, port_values, inputs_in}
use Rattle.gv_machine.specs.Solo.{guests_of}

-- ---- inputs

-- an event of one of the first n guests, or of an engine that one of them owns
abbrev pub IsEventBelow : ℕ → Event → Type 0
IsEventBelow n (events.Read guest place width at) = guest.0 < n
IsEventBelow n (events.Write guest place width at value) = guest.0 < n
IsEventBelow n (events.Turn engine) = (0 < n) × (engine.0 < 4)
IsEventBelow n (events.Switch engine) = (0 < n) × (engine.0 < 4)
IsEventBelow n (events.Move guest frame) = guest.0 < n
IsEventBelow n (events.Reset guest) = guest.0 < n

abbrev pub IsInputBelow : ℕ → Input → Type 0
IsInputBelow n (event one) = IsEventBelow n one
IsInputBelow n (turns engine count) = (0 < n) × (engine.0 < 4)

abbrev pub AreBelow : ℕ → List Input → Type 0
AreBelow n inputs = AllByRecursion (IsInputBelow n) inputs

-- ---- lines

abbrev pub guests_after : ℕ → Line → ℕ
guests_after n (Guest g) = n + 1
guests_after n line = n

-- whether an event came
abbrev pub begun_after : Bool → Line → Bool
begun_after begun Blank = begun
begun_after begun (Guest g) = begun
begun_after begun line = true

-- What a script keeps at each line, where there are n guests: `guest` lines come first, and a line names guests
-- and engines that are there.
abbrev pub IsLine : Bool → ℕ → Line → Type 0
IsLine begun n (Guest g) = begun ≡ false
IsLine begun n (Read guest place width at) = guest < n
IsLine begun n (Write guest place width at values) = guest < n
IsLine begun n (Elsp guest engine second first) = (guest < n) × (engine < 4)
IsLine begun n (Turn engine count) = (0 < n) × (engine < 4)
IsLine begun n (Switch engine) = (0 < n) × (engine < 4)
IsLine begun n (Move guest frame) = guest < n
IsLine begun n (Reset guest) = guest < n
IsLine begun n line = Unit {0}

-- Lines that come where there are n guests, of whom there are at most 8 in the end.
abbrev pub IsRun : Bool → ℕ → List Line → Type 0
IsRun begun n [] = n ≤ 8
IsRun begun n (line ∷ lines) = IsLine begun n line × IsRun (begun_after begun line) (guests_after n line) lines

-- ---- a script that is accepted is such a run

accepted_first : (a b : Bool) → (not a && b) ≡ true → a ≡ false
accepted_first true b is = cc
accepted_first false b is = refl

line_fits : (known : Known) (line : Line) → accepts known line ≡ true → IsLine known.begun known.guests line
line_fits known Blank is = tt
line_fits known (Guest g) is = accepted_first known.begun _ is
line_fits known (Read guest place width at) is = ltb-true guest known.guests is
line_fits known (Write guest place width at values) is = ltb-true guest known.guests is
line_fits known (Elsp guest engine second first) is = (grind (arith, nat_tests), grind (arith, nat_tests))
line_fits known (Turn engine count) is = (grind (arith, nat_tests), grind (arith, nat_tests))
line_fits known (Switch engine) is = (grind (arith, nat_tests), grind (arith, nat_tests))
line_fits known (Move guest frame) is = grind (arith, nat_tests)
line_fits known (Reset guest) is = ltb-true guest known.guests is
line_fits known End is = tt

abbrev After : Known → Line → Type 0
After known line = ((known_after known line).guests ≡ guests_after known.guests line) × ((known_after known line).begun ≡ begun_after known.begun line)

known_is : (known : Known) (line : Line) → After known line
known_is known Blank = (refl, refl)
known_is known (Guest g) = (refl, refl)
known_is known line = (refl, refl)

room_first : (a b c d : Bool) → (not a && (b && c && d)) ≡ true → b ≡ true
room_first true b c d is = cc
room_first false true c d is = refl
room_first false false c d is = is

room : (known : Known) (line : Line) → known.guests ≤ 8 → accepts known line ≡ true → guests_after known.guests line ≤ 8
room known (Guest g) small is =
    let below : known.guests < 8 = ltb-true known.guests 8 (room_first known.begun (nat_lt known.guests 8) (nat_le (known.frames + g.frames) 16384) (fits known.given (want_of g)) is) in
    omega arith
room known line small is = small

by_test : (known : Known) (l line : Line) (b : Bool) → accepts known l ≡ b → provided b l ≡ Some line → accepts known line ≡ true
by_test known l line true holds is =
    let same : l ≡ line = cc in
    ap (accepts known) (sym same) ∙ holds
by_test known l line false holds is = absurd (cc)

accepted_is : (known : Known) (o : Option Line) (line : Line) → (o >>= λ line. provided (accepts known line) line) ≡ Some line → accepts known line ≡ true
accepted_is known None line is = absurd (cc)
accepted_is known (Some l) line is = by_test known l line (accepts known l) refl is

abbrev IsKnownRun : Known → List Line → Type 0
IsKnownRun known lines = IsRun known.begun known.guests lines

by_end : (known : Known) (line : Line) (rest : Script) (b : Bool) → known.guests ≤ 8 → accepts known line ≡ true → IsKnownRun (known_after known line) rest.lines → IsKnownRun known (cond b (ends Done) (onto_script line rest)).lines
by_end known line rest true small is more = small
by_end known line rest false small is more =
    let after = known_is known line in (
      line_fits known line is,
      subst (λ n. IsRun (begun_after known.begun line) n rest.lines) after.0
          (subst (λ b. IsRun b (known_after known line).guests rest.lines) after.1 more),
    )

on_line : (known : Known) (n : ℕ) (o : Option Line) (rest : Known → Script) → known.guests ≤ 8 → ((line : Line) → o ≡ Some line → accepts known line ≡ true) → ((next : Known) → next.guests ≤ 8 → IsKnownRun next (rest next).lines) → IsKnownRun known (script_on known n o rest).lines
on_line known n None rest small is more = small
on_line known n (Some line) rest small is more =
    let few : (known_after known line).guests ≤ 8 = subst (λ k. k ≤ 8) (sym (known_is known line).0) (room known line small (is line refl)) in
    by_end known line (rest (known_after known line)) (is_end line) small (is line refl) (more (known_after known line) few)

pub script_run : (whole : Bool) (raw : List (List ℕ)) (known : Known) (n : ℕ) → known.guests ≤ 8 → IsKnownRun known (script_from whole known n raw).lines
script_run whole [] known n small = small
script_run whole (bytes ∷ raw) known n small = on_line known n (accepted known bytes) (λ next. script_from whole next (n + 1) raw) small (accepted_is known (line_of bytes)) (λ next few. script_run whole raw next (n + 1) few)

none_small : 0 ≤ 8
none_small = omega arith

by_length : (b : Bool) (source front : List ℕ) → IsRun false 0 (cond b (script_in true source) (script_in false front)).lines
by_length true source front = script_run true (lines_of (counts_last true) source) nothing_known 1 none_small
by_length false source front = script_run false (lines_of (counts_last false) front) nothing_known 1 none_small

pub run-script_of : (source : List ℕ) → IsRun false 0 (script_of source).lines
unfolding script_of
run-script_of source = by_length (nat_le (length source) script_limit) source (take script_limit source)

-- ---- what a run keeps

pub run-small : (begun : Bool) (n : ℕ) (lines : List Line) → IsRun begun n lines → n + length (guests_of lines) ≤ 8
run-small begun n [] run = omega arith
run-small begun n (Guest g ∷ lines) run =
    let more : n + 1 + length (guests_of lines) ≤ 8 = run-small begun (n + 1) lines run.1 in
    omega arith
run-small begun n (line ∷ lines) run = run-small (begun_after begun line) n lines run.1

-- no guest comes behind an event
pub run-begun : (n : ℕ) (lines : List Line) → IsRun true n lines → guests_of lines ≡ []
run-begun n [] run = refl
run-begun n (Guest g ∷ lines) run =
    let no : true ≡ false = run.0 in
    absurd (cc)
run-begun n (line ∷ lines) run = run-begun n lines run.1

-- ---- the inputs of such lines

writes_below : (n : ℕ) (guest : GuestId) (place : Place) (width : Width) (at : ℕ) (values : List ℕ) → guest.0 < n → AreBelow n (writes_of guest place width at values)
writes_below n guest place width at [] h = tt
writes_below n guest place width at (value ∷ values) h = (h, writes_below n guest place width (at + bytes_of width) values h)

port_below : (n : ℕ) (guest : GuestId) (engine : ℕ) (values : List ℕ) → guest.0 < n → AreBelow n (port_writes guest engine values)
port_below n guest engine [] h = tt
port_below n guest engine (value ∷ values) h = (h, port_below n guest engine values h)

pub line_below : (begun : Bool) (n : ℕ) (line : Line) → IsLine begun n line → AreBelow n (inputs_in line)
line_below begun n (Read guest place width at) is = (is, tt)
line_below begun n (Write guest place width at values) is = writes_below n (record { 0 = guest }) place width at values is
line_below begun n (Elsp guest engine second first) is = port_below n (record { 0 = guest }) engine (port_values second first) is.0
line_below begun n (Turn engine count) is = (is, tt)
line_below begun n (Switch engine) is = (is, tt)
line_below begun n (Move guest frame) is = (is, tt)
line_below begun n (Reset guest) is = (is, tt)
line_below begun n line is = tt

below_append : (n : ℕ) (xs ys : List Input) → AreBelow n xs → AreBelow n ys → AreBelow n (xs ++ ys)
below_append n [] ys first second = second
below_append n (x ∷ xs) ys first second = (first.0, below_append n xs ys first.1 second)

event_more : (n k : ℕ) (one : Event) → n ≤ k → IsEventBelow n one → IsEventBelow k one
event_more n k (events.Turn engine) h is = let some : 0 < n = is.0 in (omega arith, is.1)
event_more n k (events.Switch engine) h is = let some : 0 < n = is.0 in (omega arith, is.1)
event_more n k one h is = omega arith

input_more : (n k : ℕ) (input : Input) → n ≤ k → IsInputBelow n input → IsInputBelow k input
input_more n k (event one) h is = event_more n k one h is
input_more n k (turns engine count) h is = let some : 0 < n = is.0 in (omega arith, is.1)

pub below-more : (n k : ℕ) (xs : List Input) → n ≤ k → AreBelow n xs → AreBelow k xs
below-more n k [] h below = tt
below-more n k (x ∷ xs) h below = (input_more n k x h below.0, below-more n k xs h below.1)

pub run-below : (begun : Bool) (n : ℕ) (lines : List Line) → IsRun begun n lines → AreBelow (n + length (guests_of lines)) (flat_map inputs_in lines)
run-below begun n [] run = tt
run-below begun n (Guest g ∷ lines) run =
    let same : n + 1 + length (guests_of lines) ≡ n + length (guests_of (Guest g ∷ lines)) = omega arith in
    subst (λ k. AreBelow k (flat_map inputs_in lines)) same (run-below begun (n + 1) lines run.1)
run-below begun n (line ∷ lines) run =
    let wide : n ≤ n + length (guests_of lines) = omega arith in
    below_append (n + length (guests_of lines)) (inputs_in line) (flat_map inputs_in lines)
    (below-more n (n + length (guests_of lines)) (inputs_in line) wide (line_below begun n line run.0))
    (run-below (begun_after begun line) n lines run.1)

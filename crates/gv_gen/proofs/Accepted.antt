-- Every line of a number's script is accepted, so the script is done.
use Rattle.std.proofs.Common.{◌≡◌, ℕ, zero, suc, ◌+◌, ◌%◌, ◌^◌, ◌<◌, true, false, Bool, cond, List, [], ◌∷◌, ◌++◌, refl, ap, ◌∙◌, arith, ltb, ◌&&◌, Some, None}
use Rattle.std.proofs.lemmas.Bool.{lt-ltb}
use Rattle.std.specs.Bool.{OnFalse}
use Rattle.gv_text.specs.Script.{Script, accepts, ends, is_end, known_after, nothing_known, onto_script, script_on}
use Rattle.gv_text.specs.declared.ending.Ending.TheVariants.{Done}
use Rattle.gv_text.specs.declared.known.Known.{Known}
use Rattle.gv_text.specs.declared.script_line.Line.{Line}
use Rattle.gv_text.specs.declared.script_line.Line.TheVariants as lines
use Rattle.gv_gen.specs.declared.draw.Kind.{Kind}
use Rattle.gv_gen.specs.declared.draw.Kind.TheVariants.{Store, Load, Submit, Turns, Switch, Map, Pointer, Move}
use Rattle.gv_gen.specs.Draw.{next_state, drawn, draw_at, state_after}
use Rattle.gv_gen.specs.Made.{AreAccepted, script_of_lines, script_made}
use Rattle.gv_gen.specs.Script.{made_guest_line, set_up_lines, lines_by, rounds_from, script_of_number}

-- both guests are there
abbrev two_known : Bool → Known
two_known begun = record (known_after (known_after nothing_known made_guest_line) made_guest_line) { begun = begun }

-- what is drawn has 31 bits
drawn-small : (x : ℕ) → drawn x < 2 ^ 31
drawn-small x = omega arith

-- a frame that is moved is one of its guest's
frame_there : (g v : ℕ) → g < 2 → accepts (two_known true) (lines.Move g (12 + v % 4)) ≡ true
frame_there zero v there = lt-ltb (12 + v % 4) 32 (omega arith)
frame_there (suc zero) v there = lt-ltb (12 + v % 4) 32 (omega arith)
frame_there (suc (suc g)) v there = absurd (omega arith)

module _ (g v : ℕ) (there : g < 2) (small : v < 2 ^ 31) (rest : List Line) (behind : AreAccepted (two_known true) rest) where
  is_there : ltb g 2 ≡ true
  is_there = lt-ltb g 2 there

  -- the set-up of a guest
  set_up : (begun : Bool) → AreAccepted (two_known begun) (set_up_lines g ++ rest)
  set_up begun = (
    is_there,
    (omega arith, omega arith, omega arith, omega arith, omega arith, (omega arith, (omega arith, (omega arith, (omega arith, (omega arith, tt)))))),
    (
      is_there,
      (omega arith, omega arith, omega arith, omega arith, omega arith, (omega arith, tt)),
      (
        is_there,
        (omega arith, omega arith, omega arith, omega arith, omega arith, (omega arith, tt)),
        (
          is_there,
          (omega arith, omega arith, omega arith, omega arith, omega arith, (omega arith, tt)),
          (
            is_there,
            (omega arith, omega arith, omega arith, omega arith, omega arith, (omega arith, tt)),
            (
              is_there,
              (omega arith, omega arith, omega arith, omega arith, omega arith, (omega arith, tt)),
              (
                is_there,
                (omega arith, omega arith, omega arith, omega arith, omega arith, (omega arith, tt)),
                (
                  is_there,
                  (omega arith, omega arith, omega arith, omega arith, omega arith, (omega arith, tt)),
                  (
                    is_there,
                    (omega arith, omega arith, omega arith, omega arith, omega arith, (omega arith, (omega arith, (omega arith, tt)))),
                    behind,
                  ),
                ),
              ),
            ),
          ),
        ),
      ),
    ),
  )

  -- a round
  round : (kind : Kind) → AreAccepted (two_known true) (lines_by kind g v ++ rest)
  round Store = (is_there, (omega arith, omega arith, omega arith, omega arith, omega arith, (omega arith, tt)), behind)
  round Load = (is_there, (omega arith, omega arith, omega arith), behind)
  round Submit = (
    is_there,
    (omega arith, omega arith, omega arith, omega arith, omega arith, (omega arith, (omega arith, (omega arith, (omega arith, tt))))),
    (
      is_there,
      (omega arith, omega arith, omega arith, omega arith, omega arith, (omega arith, tt)),
      (
        is_there,
        (omega arith, omega arith, omega arith, omega arith, omega arith, (omega arith, tt)),
        (ap (λ b. b && true) is_there, (omega arith, omega arith, omega arith, omega arith), behind),
      ),
    ),
  )
  round Turns = (refl, (omega arith, omega arith, omega arith), behind)
  round Switch = (refl, omega arith, behind)
  round Map = (is_there, (omega arith, omega arith, omega arith, omega arith, omega arith, (omega arith, tt)), behind)
  round Pointer = (is_there, (omega arith, omega arith, omega arith), behind)
  round Move = (frame_there g v there, (omega arith, omega arith), behind)

rounds : (n x : ℕ) → AreAccepted (two_known true) (rounds_from n x)
unfolding rounds_from
rounds zero x = (refl, tt, tt)
rounds (suc n) x =
    let d = draw_at x in
    round d.guest d.value (omega arith) (drawn-small (next_state (next_state x))) (rounds_from n (state_after x)) (rounds n (state_after x)) d.kind

-- each line of a number's script is accepted
pub all_accepted : (number : ℕ) → AreAccepted nothing_known (script_of_number number)
all_accepted number = (
  refl,
  (omega arith, omega arith),
  (
    refl,
    (omega arith, omega arith),
    set_up 0 0 (omega arith) (omega arith) (set_up_lines 1 ++ rounds_from 4096 number)
        (set_up 1 0 (omega arith) (omega arith) (rounds_from 4096 number) (rounds 4096 number) true) false,
  ),
)

-- ---- what that makes of the script

-- the first line is accepted
pub first-accepted : (known : Known) (n : ℕ) (line : Line) (lines : List Line) → AreAccepted known (line ∷ lines)
    → script_of_lines known n (line ∷ lines) ≡ cond (is_end line) (ends Done) (onto_script line (script_of_lines (known_after known line) (n + 1) lines))
first-accepted known n line lines accepted = ap (λ b. script_on known n (cond b (Some line) None) (λ next. script_of_lines next (n + 1) lines)) accepted.0

ending_by : (known : Known) (n : ℕ) (line : Line) (lines : List Line) (b : Bool) → OnFalse b ((script_of_lines (known_after known line) (n + 1) lines).ending ≡ Done)
    → (cond b (ends Done) (onto_script line (script_of_lines (known_after known line) (n + 1) lines))).ending ≡ Done
ending_by known n line lines true done = refl
ending_by known n line lines false done = done

behind_by : {P Q : Type 0} (b : Bool) → (P → Q) → OnFalse b P → OnFalse b Q
behind_by true f p = p
behind_by false f p = f p

accepted-done : (known : Known) (n : ℕ) (lines : List Line) → AreAccepted known lines → (script_of_lines known n lines).ending ≡ Done
accepted-done known n [] accepted = absurd accepted
accepted-done known n (line ∷ lines) accepted =
    ap (λ (s : Script). s.ending) (first-accepted known n line lines accepted)
    ∙ ending_by known n line lines (is_end line) (behind_by (is_end line) (accepted-done (known_after known line) (n + 1) lines) accepted.2)

-- the script is done
pub made-done : (number : ℕ) → (script_made number).ending ≡ Done
unfolding script_made
made-done number = accepted-done nothing_known 1 (script_of_number number) (all_accepted number)

-- Where clap takes the words of `gen`, they hold one number.
use Rattle.std.proofs.Common.{◌≡◌, ◌⊎◌, Result, lit<, inl, inr, ℕ, zero, suc, Bool, true, false, List, [], ◌∷◌, Option, Some, None, length, slice_get, is_some, option_map, refl, ap, sym, ◌∙◌, subst, codes, fold, if◌then◌else◌}
use Rattle.std.specs.Option.{option_map_or}
use Rattle.std.specs.Str.{bytes_eq, chars}
use Rattle.clap.proofs.OnLiterals.{clap_on_literals}
use Rattle.clap.specs.Kinds.{Kinds, or_else}
use Rattle.clap.specs.Lexer.{long_of, short_of}
use Rattle.clap.specs.Walk.{Walk, Held, Row, Rule, Text, Outcome, walk, walked, walk_from, nothing_held, rows_after, Step, answers_to, settled, finished, idle, plain, trailing, value, bundle, after_flag, bundle_met, bundle_step, after_step, long_or_other, short_or_plain}
use Rattle.clap.specs.Simple.{Shape, built, entered, names_of, label_of, rows_at, subcommand_of}
use Rattle.clap.specs.Faults.{fault_of, entered_fault, level_fault, settle_fault, defaults_fault, check_fault, walk_fault, turn_fault, flags_fault, bundle_fault, bundle_step_fault, flag_word_fault, step_fault}
use Rattle.clap.specs.declared.builder.action.ArgAction.TheVariants.{Set}
use Rattle.clap.specs.Values.{refused_kind}
use Rattle.clap.specs.declared.error.kind.ErrorKind.{ErrorKind}
use Rattle.clap.specs.ValueTests.{accepts}
use Rattle.clap.specs.Lexer.{without_minus}
use Rattle.clap.specs.Matches.{ReadsOne}
use Rattle.clap.specs.declared.builder.value_parser.ValueParser.TheVariants as parsers
use Rattle.clap.proofs.CallerReads.{signed_reads}
use Rattle.clap.proofs.ValueTestLemmas.{accepts-Accepts}
use Rattle.std.specs.Prelude.{pos}
use Rattle.std.specs.Str.Parse.{ParsesUnsigned}
use Rattle.gv_words.specs.Task.{command_app, gen_shape, run_shape, number_rule, number_spelled, number_given, task_named}
use Rattle.gv_words.specs.declared.task.Task.{Task}
use Rattle.gv_words.specs.declared.task.Task.TheVariants.{Run, Gen}
use Rattle.gv_words.proofs.Spelled.{reads_spelled}

-- two steps of which neither fails
pub neither : (a b : Kinds) → or_else a b ≡ [] → (a ≡ []) × (b ≡ [])
neither [] b none = (refl, none)
neither (k ∷ ks) b none = cc

-- the subcommands as they are built
abbrev pub number_built : Rule
number_built = record number_rule { index = Some 1; action = Some Set; range = Some (record { start_inclusive = 1; end_inclusive = 1 }) }

abbrev pub run_built : Shape
run_built = record run_shape { no_binary_name = true; disable_help_flag = true; disable_help_subcommand = true; is_built = true }

abbrev pub gen_built : Shape
gen_built = record gen_shape { rules = number_built ∷ []; no_binary_name = true; disable_help_flag = true; disable_help_subcommand = true; is_built = true }

pub subs_built : (built command_app).subs ≡ run_built ∷ gen_built ∷ []
unfolding clap_on_literals
subs_built = refl

abbrev rules : List Rule
rules = number_built ∷ []

-- what is held before the number, and behind it
abbrev before : Held
before = nothing_held

abbrev behind : Text → Held
behind text = record { rows = []; pending = Some (codes "number", text ∷ []); skip = 0 }

-- a walk that holds no number, and one that does
abbrev without_number : Bool → Walk
without_number t = record { held = before; waiting = idle; position = 1; is_trailing = t; stopped = None }

abbrev with_number : Bool → Text → Walk
with_number t text = record { held = behind text; waiting = idle; position = 2; is_trailing = t; stopped = None }

-- a word with a dash that isn't refused is plain
module _ (flags : Text) (h : Held) (fresh : record h { skip = 0 } ≡ h) where
  at_character : (k : ℕ) (o : Option ℕ) → bundle_step_fault rules false o flags 0 h (flags_fault rules false k) ≡ [] → bundle_step rules o flags 0 plain h (bundle_met rules k) ≡ (h, plain)
  at_character k None none = refl
  at_character k (Some x) none = cc

  at_flags : (k : ℕ) → flags_fault rules false k flags 0 h ≡ [] → bundle_met rules k flags 0 plain h ≡ (h, plain)
  unfolding clap_on_literals
  at_flags zero none = refl
  at_flags (suc k) none = at_character k (slice_get (chars flags) 0) none

-- one word behind a walk that waits for nothing: it is `--`, or goes to a positional
module _ (w : Text) (pending : Option (Text × List Text)) (position : ℕ) (here : Walk) where
  abbrev held : Held
  held = record { rows = []; pending = pending; skip = 0 }

  abbrev met : Bool → Option (Text × Option Text) → Held × Step
  met b l = if b then (held, trailing position) else long_or_other rules idle w l held

  abbrev fault : Bool → Option (Text × Option Text) → Kinds
  fault b l = or_else (if b then [] else flag_word_fault rules false l w held) (step_fault gen_built position (met b l).0 (met b l).1)

  abbrev Passes : Held × Step → Type 0
  Passes m = (step_fault gen_built position held value ≡ []) × (after_step rules w here m.0 m.1 ≡ after_step rules w here held value)

  by_short : (s : Option Text) → or_else (option_map_or (λ flags. bundle_fault rules false flags held) s []) (step_fault gen_built position (short_or_plain rules idle w s held).0 (short_or_plain rules idle w s held).1) ≡ [] → Passes (short_or_plain rules idle w s held)
  by_short None none = (none, refl)
  by_short (Some flags) none =
      let parts = neither (bundle_fault rules false flags held) (step_fault gen_built position (short_or_plain rules idle w (Some flags) held).0 (short_or_plain rules idle w (Some flags) held).1) none in
      let plain_word : bundle rules flags held ≡ (held, plain) = at_flags flags held refl (length flags) parts.0 in (
        subst (λ (x : Held × Outcome). step_fault gen_built position (after_flag rules idle w x.0 x.1).0 (after_flag rules idle w x.0 x.1).1 ≡ []) plain_word parts.1,
        ap (λ (x : Held × Outcome). after_step rules w here (after_flag rules idle w x.0 x.1).0 (after_flag rules idle w x.0 x.1).1) plain_word,
      )

  by_word : (b : Bool) (l : Option (Text × Option Text)) → fault b l ≡ [] → (after_step rules w here (met b l).0 (met b l).1 ≡ after_step rules w here held (trailing position)) ⊎ Passes (met b l)
  by_word true l none = inl refl
  by_word false (Some p) none = cc
  by_word false None none = inr (by_short (short_of w) none)

-- behind the number no further word is taken but `--`
step_behind : (t : Bool) (text w : Text) → turn_fault gen_built [] (with_number t text) w ≡ [] → (u : Bool) × (walked rules [] (with_number t text) w ≡ with_number u text)
unfolding clap_on_literals
step_behind true text w none = cc
step_behind false text w none = elim (by_word w (Some (codes "number", text ∷ [])) 2 (with_number false text) (bytes_eq w (45 ∷ 45 ∷ [])) (long_of w) none) [
  | inl end ↦ (true, end)
  | inr passes ↦ let stray = passes.0 in cc
]

abbrev Ends : Walk → Type 0
Ends end = ((u : Bool) × (end ≡ without_number u)) ⊎ ((u : Bool) × (text : Text) × (end ≡ with_number u text))

step_before : (t : Bool) (w : Text) → turn_fault gen_built [] (without_number t) w ≡ [] → Ends (walked rules [] (without_number t) w)
unfolding clap_on_literals
step_before true w none = inr (true, w, refl)
step_before false w none = elim (by_word w None 1 (without_number false) (bytes_eq w (45 ∷ 45 ∷ [])) (long_of w) none) [
  | inl end ↦ inl (true, end)
  | inr passes ↦ inr (false, w, passes.1)
]

all_behind : (ws : List Text) (t : Bool) (text : Text) → walk_fault gen_built [] (with_number t text) ws ≡ [] → (u : Bool) × (fold (walked rules []) (with_number t text) ws ≡ with_number u text)
unfolding walk_fault
all_behind [] t text none = (t, refl)
all_behind (w ∷ ws) t text none =
    let parts = neither (turn_fault gen_built [] (with_number t text) w) (walk_fault gen_built [] (walked rules [] (with_number t text) w) ws) none in
    let step = step_behind t text w parts.0 in
    let rest = all_behind ws step.0 text (subst (λ (s : Walk). walk_fault gen_built [] s ws ≡ []) step.1 parts.1) in
    (rest.0, ap (λ (s : Walk). fold (walked rules []) s ws) step.1 ∙ rest.1)

all_before : (ws : List Text) (t : Bool) → walk_fault gen_built [] (without_number t) ws ≡ [] → Ends (fold (walked rules []) (without_number t) ws)
unfolding walk_fault
all_before [] t none = inl (t, refl)
all_before (w ∷ ws) t none =
    let parts = neither (turn_fault gen_built [] (without_number t) w) (walk_fault gen_built [] (walked rules [] (without_number t) w) ws) none in
    elim (step_before t w parts.0) [
      | inl (u, is) ↦ subst (λ (s : Walk). Ends (fold (walked rules []) s ws)) (sym is) (all_before ws u (subst (λ (s : Walk). walk_fault gen_built [] s ws ≡ []) is parts.1))
      | inr (u, text, is) ↦
          let rest = all_behind ws u text (subst (λ (s : Walk). walk_fault gen_built [] s ws ≡ []) is parts.1) in
          inr (rest.0, text, ap (λ (s : Walk). fold (walked rules []) s ws) is ∙ rest.1)
    ]

-- the number that a text which passed spells, as it is read
spelled_as_read : (text : Text) → ReadsOne (λ u (r : Result ℕ (Unit {0})). ParsesUnsigned 32 10 u r) text (number_spelled text)
spelled_as_read text = reads_spelled text

number_passed : (text : Text) → accepts false (parsers.Signed (pos 0) (pos 4294967295)) text ≡ true → (n : ℕ) × (number_spelled (without_minus text) ≡ Some n)
number_passed text passes =
    let found = signed_reads (Unit {0}) (λ u (r : Result ℕ (Unit {0})). ParsesUnsigned 32 10 u r) 32 0 4294967295 text (number_spelled (without_minus text)) (spelled_as_read (without_minus text)) (λ u x h. h) (lit< tt) (accepts-Accepts false (parsers.Signed (pos 0) (pos 4294967295)) text passes) in
    (found.0, found.1)

-- what is judged behind the last word
abbrev end_fault : Walk → Kinds
end_fault end = or_else (settle_fault rules false end.held) (or_else (defaults_fault (settled rules end.held).rows rules) (check_fault gen_built (finished rules end.held) false))

number_wanted : (u : Bool) → end_fault (without_number u) ≡ [] → ⊥
unfolding clap_on_literals
number_wanted u none = cc

accepted : (b : Bool) (k : ErrorKind) → or_else (if b then [] else k ∷ []) [] ≡ [] → b ≡ true
accepted true k none = refl
accepted false k none = cc

number_accepted : (u : Bool) (text : Text) → end_fault (with_number u text) ≡ [] → accepts false (parsers.Signed (pos 0) (pos 4294967295)) text ≡ true
unfolding clap_on_literals
number_accepted u text none =
    accepted (accepts false (parsers.Signed (pos 0) (pos 4294967295)) text) (refused_kind (parsers.Signed (pos 0) (pos 4294967295)))
    (neither (settle_fault rules false (behind text)) (or_else (defaults_fault (settled rules (behind text)).rows rules) (check_fault gen_built (finished rules (behind text)) false)) none).0

number_there : (u : Bool) (text : Text) → number_given (finished rules (with_number u text).held) ≡ number_spelled (without_minus text)
unfolding clap_on_literals
number_there u text = refl

-- what `gen` finds where its words are taken
pub gen_number : (ws : List Text) → level_fault gen_built [] nothing_held ws false [] ≡ [] → (n : ℕ) × (number_given (rows_after gen_built.rules [] ws) ≡ Some n)
gen_number ws none =
    let end = fold (walked rules []) (without_number false) ws in
    let parts = neither (walk_fault gen_built [] (without_number false) ws) (end_fault end) none in
    elim (all_before ws false parts.0) [
      | inl (u, is) ↦ absurd (number_wanted u (subst (λ (s : Walk). end_fault s ≡ []) is parts.1))
      | inr (u, text, is) ↦
          let passes = number_accepted u text (subst (λ (s : Walk). end_fault s ≡ []) is parts.1) in
          let found = number_passed text passes in
          (found.0, ap (λ (s : Walk). number_given (finished rules s.held)) is ∙ number_there u text ∙ found.1)
    ]

-- the subcommand that was met, by its name
module _ (ws : List Text) where
  abbrev chosen : Bool → Bool → Option Shape
  chosen is_run is_gen = if is_run then Some run_built else (if is_gen then Some gen_built else None)

  abbrev chosen_rows : Option Shape → Option (Text × List Row)
  chosen_rows = option_map (λ s. rows_at s ws)

  chosen_task : (is_run is_gen : Bool) → option_map_or (λ s. level_fault s [] nothing_held ws false []) (chosen is_run is_gen) [] ≡ [] → is_some (chosen_rows (chosen is_run is_gen)) ≡ true → (task : Task) × (task_named (chosen_rows (chosen is_run is_gen)) ≡ Some task)
  chosen_task true is_gen none there = (Run, refl)
  chosen_task false true none there = let number = gen_number ws none in (Gen number.0, ap (option_map Gen) number.1)
  chosen_task false false none there = cc

met_task : (stop : Option (Text × List Text)) → entered_fault (built command_app) stop ≡ [] → is_some (entered (built command_app) stop) ≡ true → (task : Task) × (task_named (entered (built command_app) stop) ≡ Some task)
unfolding clap_on_literals
met_task None none there = cc
met_task (Some (name, ws)) none there = chosen_task ws (answers_to name (label_of run_built)) (answers_to name (label_of gen_built)) none there

-- one of the subcommands is wanted
subcommand_wanted : (there : Bool) (rows : List Row) → check_fault (built command_app).top rows there ≡ [] → there ≡ true
unfolding clap_on_literals
subcommand_wanted true rows none = refl
subcommand_wanted false rows none = cc

-- where clap takes the words, they name a task
pub taken_task : (words : List Text) → fault_of command_app words ≡ [] → (task : Task) × (task_named (subcommand_of command_app words) ≡ Some task)
taken_task words none =
    let a = built command_app in
    let end = walk a.top.rules (names_of a) nothing_held words in
    let stop = end.stopped in
    let there = is_some (entered a stop) in
    let settle = settle_fault a.top.rules a.top.args_override_self end.held in
    let defaults = defaults_fault (settled a.top.rules end.held).rows a.top.rules in
    let check = check_fault a.top (finished a.top.rules end.held) there in
    let below = (neither (walk_fault a.top (names_of a) (walk_from nothing_held) words) (or_else (entered_fault a stop) (or_else settle (or_else defaults check))) none).1 in
    let parts = neither (entered_fault a stop) (or_else settle (or_else defaults check)) below in
    let after = neither settle (or_else defaults check) parts.1 in
    let last = neither defaults check after.1 in
    met_task stop parts.0 (subcommand_wanted there (finished a.top.rules end.held) last.1)

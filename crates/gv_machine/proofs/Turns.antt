-- Turns of an engine, one more at a time: what comes of them, their alarms, and their six counts.
use Rattle.std.proofs.Common.{◌≡◌, ℕ, zero, suc, ◌+◌, ◌<◌, ◌≤◌, List, [], ◌∷◌, ◌++◌, cond, eqb, length, get_or, set, replicate, refl, ap, sym, ◌∙◌, add-zero, arith}
use Rattle.std.proofs.lemmas.List.{append-nil, replicate_more, length-replicate}
use Rattle.std.proofs.lemmas.List.Elements.{All-from_recursion}
use Rattle.std.proofs.lemmas.List.Sums.{sum_by_push, count_by-le-length}
use Rattle.std.proofs.lemmas.Grind.{flat_map-append}
use Rattle.std.specs.List.{All, flat_map, count_by}
use Rattle.gv_types.specs.declared.event.Event.{Event}
use Rattle.gv_types.specs.declared.event.Event.TheVariants as events
use Rattle.gv_types.specs.declared.ids.EngineId.{EngineId}
use Rattle.gv_types.specs.declared.reply.Answer.{Answer}
use Rattle.gv_types.specs.declared.reply.Answer.TheVariants.{Turn}
use Rattle.gv_types.specs.declared.reply.Outcome.{Outcome}
use Rattle.gv_types.specs.declared.reply.Outcome.TheVariants.{Ran, Waited, Ended, Loaded, Failed, Idle}
use Rattle.gv_text.specs.declared.report_line.ReportLine.{ReportLine}
use Rattle.gv_text.specs.declared.report_line.ReportLine.TheVariants as said
use Rattle.gv_private.specs.Device.{PrivateDevice}
use Rattle.gv_private.specs.Inputs.{answer}
use Rattle.gv_machine.specs.Course.{Course, onto, play}
use Rattle.gv_machine.specs.Machine.{Happened, event_course}
use Rattle.gv_machine.specs.Report.{alarms_said, column_of, counts_of, turn_said}
use Rattle.gv_machine.proofs.Courses.{play-append}

-- as many things came as there were events
pub length-events : (p : PrivateDevice) (events : List Event) → length (play event_course p events).came ≡ length events
length-events p [] = refl
length-events p (one ∷ events) = ap suc (length-events (answer p one).left events)

module _ (p : PrivateDevice) (engine : EngineId) where
  -- so many turns
  abbrev pub turns_from : ℕ → Course PrivateDevice Happened
  turns_from count = play event_course p (replicate count (events.Turn engine))

  pub turns-more : (count : ℕ) → turns_from (count + 1) ≡ onto (turns_from count) (event_course (turns_from count).left (events.Turn engine))
  turns-more count =
      ap (play event_course p) (sym (replicate_more count (events.Turn engine)))
      ∙ play-append event_course p (replicate count (events.Turn engine)) (events.Turn engine ∷ [])

  pub length-turns : (count : ℕ) → length (turns_from count).came ≡ count
  length-turns count = length-events p (replicate count (events.Turn engine)) ∙ length-replicate count (events.Turn engine)

  -- Turns are told with the guest's number, where there are any.
  pub turns-said : (count : ℕ) → 0 < count → turn_said engine (turns_from count).came ≡ said.Turn (record { 0 = p.number }) engine (counts_of (turns_from count).came) ∷ []
  turns-said zero some = absurd (omega arith)
  turns-said (suc count) some = refl

-- the alarms of one more
pub alarms-more : (came : List Happened) (h : Happened) → flat_map (λ (h : Happened). alarms_said h.reply) (came ++ h ∷ []) ≡ flat_map (λ (h : Happened). alarms_said h.reply) came ++ alarms_said h.reply
alarms-more came h =
    let alarms = λ (h : Happened). alarms_said h.reply in
    flat_map-append alarms came (h ∷ []) ∙ ap (λ (z : List ReportLine). flat_map alarms came ++ z) (append-nil (alarms h))

-- ---- counts

abbrev count_at : List Happened → ℕ → ℕ
count_at came column = count_by (λ (h : Happened). eqb (column_of h.reply.answer) column) came

-- no count is more than there are turns
pub counts-small : (came : List Happened) → All (λ n. n ≤ length came) (counts_of came)
counts-small came =
    let small = λ (column : ℕ). count_by-le-length (λ (h : Happened). eqb (column_of h.reply.answer) column) came in
    All-from_recursion (λ n. n ≤ length came) (counts_of came) (small 0, (small 1, (small 2, (small 3, (small 4, (small 5, tt))))))

-- one count goes up
raised : (a b c d e f : ℕ) (outcome : Outcome) →
    (a + cond (eqb (column_of (Turn outcome)) 0) 1 0)
    ∷ (b + cond (eqb (column_of (Turn outcome)) 1) 1 0)
    ∷ (c + cond (eqb (column_of (Turn outcome)) 2) 1 0)
    ∷ (d + cond (eqb (column_of (Turn outcome)) 3) 1 0)
    ∷ (e + cond (eqb (column_of (Turn outcome)) 4) 1 0)
    ∷ (f + cond (eqb (column_of (Turn outcome)) 5) 1 0)
    ∷ []
    ≡ set (a ∷ b ∷ c ∷ d ∷ e ∷ f ∷ []) (column_of (Turn outcome)) (get_or (a ∷ b ∷ c ∷ d ∷ e ∷ f ∷ []) (column_of (Turn outcome)) 0 + 1)
raised a b c d e f Ran = simp add-zero
raised a b c d e f Waited = simp add-zero
raised a b c d e f Ended = simp add-zero
raised a b c d e f Loaded = simp add-zero
raised a b c d e f Failed = simp add-zero
raised a b c d e f Idle = simp add-zero

module _ (came : List Happened) (h : Happened) (outcome : Outcome) (is : h.reply.answer ≡ Turn outcome) where
  one_more : (column : ℕ) → count_at (came ++ h ∷ []) column ≡ count_at came column + cond (eqb (column_of (Turn outcome)) column) 1 0
  one_more column =
      sum_by_push (λ (h : Happened). cond (eqb (column_of h.reply.answer) column) 1 0) came h
      ∙ ap (λ (a : Answer). count_at came column + cond (eqb (column_of a) column) 1 0) is

  -- One more turn raises the count of its outcome.
  pub counts-more : counts_of (came ++ h ∷ []) ≡ set (counts_of came) (column_of (Turn outcome)) (get_or (counts_of came) (column_of (Turn outcome)) 0 + 1)
  counts-more =
      (λ i. one_more 0 i ∷ one_more 1 i ∷ one_more 2 i ∷ one_more 3 i ∷ one_more 4 i ∷ one_more 5 i ∷ [])
      ∙ raised (count_at came 0) (count_at came 1) (count_at came 2) (count_at came 3) (count_at came 4) (count_at came 5) outcome

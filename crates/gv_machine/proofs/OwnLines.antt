-- The lines of a report that speak of one guest.
use Rattle.std.proofs.Common.{◌≡◌, ◌≢◌, ℕ, zero, suc, ◌+◌, ◌<◌, Bool, true, false, Option, None, Some, List, [], ◌∷◌, ◌++◌, cond, eqb, length, filter, refl, ap, sym, ◌∙◌, subst, arith}
use Rattle.std.proofs.lemmas.Bool.{eqb-true, eq-eqb}
use Rattle.std.proofs.lemmas.List.{append-nil}
use Rattle.std.proofs.lemmas.List.Elements.{filter-append}
use Rattle.std.specs.List.{concat, flat_map, AllByRecursion}
use Rattle.gv_types.specs.declared.event.Event.{Event}
use Rattle.gv_types.specs.declared.event.Event.TheVariants.{Read, Switch, Move, Reset}
use Rattle.gv_types.specs.declared.ids.EngineId.{EngineId}
use Rattle.gv_types.specs.declared.ids.GuestId.{GuestId}
use Rattle.gv_types.specs.declared.reply.Answer.{Answer}
use Rattle.gv_types.specs.declared.reply.Answer.TheVariants.{Value}
use Rattle.gv_types.specs.declared.reply.Reason.{Reason}
use Rattle.gv_types.specs.declared.reply.Reply.{Reply}
use Rattle.gv_text.specs.Guest.{speaks_of}
use Rattle.gv_text.specs.declared.ending.Ending.{Ending}
use Rattle.gv_text.specs.declared.ending.Ending.TheVariants.{Done as done, BadScript, TooLong}
use Rattle.gv_text.specs.declared.report_line.ReportLine.{ReportLine}
use Rattle.gv_text.specs.declared.report_line.ReportLine.TheVariants as said
use Rattle.gv_private.specs.Device.{PrivateDevice}
use Rattle.gv_private.specs.Inputs.{Input, event, turns}
use Rattle.gv_machine.specs.Machine.{Machine, Happened, Done, device_at}
use Rattle.gv_machine.specs.Report.{irq_said, failsafe_said, answer_said, alarms_said, told, turn_said, said_by, said_of, said_all, words_said, memory_said, memories_said, ending_said}
use Rattle.gv_machine.specs.Solo.{is_done_ending, is_taken_by, own_done}
use Rattle.gv_machine.proofs.Devices.{NamesGuest, is_switch, is_of_switch}
use Rattle.gv_machine.proofs.OwnCourse.{IsTold, IsToldBy}

abbrev nothing_said : List ReportLine
nothing_said = []

-- nothing is said, whatever the test
neither : (b : Bool) → nothing_said ≡ cond b nothing_said nothing_said
neither true = refl
neither false = refl

module _ (g : ℕ) where
  abbrev spoken : List ReportLine → List ReportLine
  spoken lines = filter (speaks_of g) lines

  -- these lines speak of guest k
  record SpeakOf (k : ℕ) (lines : List ReportLine) : Type 0 where
    all : spoken lines ≡ cond (eqb k g) lines []

  spoken-append : (xs ys : List ReportLine) → spoken (xs ++ ys) ≡ spoken xs ++ spoken ys
  spoken-append xs ys = filter-append (speaks_of g) xs ys

  cond_append : (b : Bool) (xs ys : List ReportLine) → cond b xs [] ++ cond b ys [] ≡ cond b (xs ++ ys) []
  cond_append true xs ys = refl
  cond_append false xs ys = refl

  speak-append : (k : ℕ) (xs ys : List ReportLine) → SpeakOf k xs → SpeakOf k ys → SpeakOf k (xs ++ ys)
  speak-append k xs ys first second = record {
    all = spoken-append xs ys
        ∙ ap (λ (z : List ReportLine). z ++ spoken ys) first.all
        ∙ ap (λ (z : List ReportLine). cond (eqb k g) xs [] ++ z) second.all
        ∙ cond_append (eqb k g) xs ys;
  }

  irq_speaks : (guest : GuestId) (irq : Option ℕ) → SpeakOf guest.0 (irq_said guest irq)
  irq_speaks guest None = record { all = neither (eqb guest.0 g) }
  irq_speaks guest (Some pending) = record { all = refl }

  failsafe_speaks : (guest : GuestId) (reason : Option Reason) → SpeakOf guest.0 (failsafe_said guest reason)
  failsafe_speaks guest None = record { all = neither (eqb guest.0 g) }
  failsafe_speaks guest (Some reason) = record { all = refl }

  -- but for a switch, which speaks of no guest, though it names the new owner
  answer_speaks : (one : Event) (guest : GuestId) (answer : Answer) → is_switch one ≡ false → SpeakOf guest.0 (answer_said one guest answer)
  answer_speaks (Read from place width at) guest (Value value) is = record { all = refl }
  answer_speaks (Switch engine) guest answer is = absurd (cc)
  answer_speaks (Move from frame) guest answer is = record { all = refl }
  answer_speaks (Reset from) guest answer is = record { all = refl }
  answer_speaks one guest answer is = record { all = neither (eqb guest.0 g) }

  alarms_speak : (reply : Reply) → SpeakOf reply.guest.0 (alarms_said reply)
  alarms_speak reply = speak-append reply.guest.0 (irq_said reply.guest reply.irq) (failsafe_said reply.guest reply.failsafe) (irq_speaks reply.guest reply.irq) (failsafe_speaks reply.guest reply.failsafe)

  told_speaks : (one : Event) (reply : Reply) → is_switch one ≡ false → SpeakOf reply.guest.0 (told one reply)
  told_speaks one reply is = speak-append reply.guest.0 (alarms_said reply) (answer_said one reply.guest reply.answer) (alarms_speak reply) (answer_speaks one reply.guest reply.answer is)

  -- what each says speaks of the guest that its reply names
  each_speaks : (f : Happened → List ReportLine) → ((h : Happened) → SpeakOf h.reply.guest.0 (f h)) → (k : ℕ) (came : List Happened) → AllByRecursion (NamesGuest k) came → SpeakOf k (flat_map f came)
  each_speaks f speaks k [] names = record { all = neither (eqb k g) }
  each_speaks f speaks k (h ∷ came) names =
      speak-append k (f h) (flat_map f came) (subst (λ k. SpeakOf k (f h)) names.0 (speaks h)) (each_speaks f speaks k came names.1)

  turn_speaks : (engine : EngineId) (k : ℕ) (came : List Happened) → AllByRecursion (NamesGuest k) came → SpeakOf k (turn_said engine came)
  turn_speaks engine k [] names = record { all = neither (eqb k g) }
  turn_speaks engine k (h ∷ came) names = subst (λ k. SpeakOf k (turn_said engine (h ∷ came))) names.0 (record { all = refl })

  input_speaks : (input : Input) (k : ℕ) (came : List Happened) → is_of_switch input ≡ false → AllByRecursion (NamesGuest k) came → SpeakOf k (said_by input came)
  input_speaks (event one) k came is names = each_speaks (λ (h : Happened). told one h.reply) (λ h. told_speaks one h.reply is) k came names
  input_speaks (turns engine count) k came is names =
      speak-append k (flat_map (λ (h : Happened). alarms_said h.reply) came) (turn_said engine came)
      (each_speaks (λ (h : Happened). alarms_said h.reply) (λ h. alarms_speak h.reply) k came names) (turn_speaks engine k came names)

  -- no guest's own line tells of a switch
  done_speaks : (n : ℕ) (d : Done) (o : Option ℕ) → IsToldBy n d o → spoken (said_of d) ≡ cond (is_taken_by g o) (said_of d) []
  done_speaks n d (Some k) is = (input_speaks d.input k d.events is.taken is.names).all
  done_speaks n d None (engine, owner, small, there, is) = ap (λ (d : Done). spoken (said_of d)) is

  by_owner : (d : Done) (came : List Done) (b : Bool) → cond b (said_of d) [] ++ said_all came ≡ said_all (cond b (d ∷ came) came)
  by_owner d came true = refl
  by_owner d came false = refl

  -- The lines that speak of a guest are those of its inputs.
  pub said-spoken : (n : ℕ) (came : List Done) → AllByRecursion (IsTold n) came → spoken (said_all came) ≡ said_all (own_done g came)
  said-spoken n [] told = refl
  said-spoken n (d ∷ came) told =
      spoken-append (said_of d) (said_all came)
      ∙ ap (λ (z : List ReportLine). z ++ spoken (said_all came)) (done_speaks n d d.whose told.0)
      ∙ ap (λ (z : List ReportLine). cond (is_taken_by g d.whose) (said_of d) [] ++ z) (said-spoken n came told.1)
      ∙ by_owner d (own_done g came) (is_taken_by g d.whose)

  word_spoken : (k : ℕ) (at word : ℕ) (b t : Bool) → eqb k g ≡ b → spoken (cond t [] (said.Memory (record { 0 = k }) at word ∷ [])) ≡ cond b (cond t [] (said.Memory (record { 0 = k }) at word ∷ [])) []
  word_spoken k at word b true is = neither b
  word_spoken k at word b false is = ap (λ (b : Bool). cond b (said.Memory (record { 0 = k }) at word ∷ []) []) is

  -- what is told of a memory speaks of its guest
  words_spoken : (k : ℕ) (b : Bool) → eqb k g ≡ b → (at : ℕ) (words : List ℕ) → spoken (words_said k at words) ≡ cond b (words_said k at words) []
  words_spoken k b is at [] = neither b
  words_spoken k b is at (word ∷ words) =
      let first = cond (eqb word 0) [] (said.Memory (record { 0 = k }) at word ∷ []) in
      spoken-append first (words_said k (at + 8) words)
      ∙ ap (λ (z : List ReportLine). z ++ spoken (words_said k (at + 8) words)) (word_spoken k at word b (eqb word 0) is)
      ∙ ap (λ (z : List ReportLine). cond b first [] ++ z) (words_spoken k b is (at + 8) words)
      ∙ cond_append b first (words_said k (at + 8) words)

  module _ (k : ℕ) (p : PrivateDevice) (m : List PrivateDevice) where
    memories_step : (b : Bool) → eqb k g ≡ b → spoken (memories_said k (p ∷ m)) ≡ cond b (memory_said k p.memory) [] ++ spoken (memories_said (k + 1) m)
    memories_step b is =
        spoken-append (memory_said k p.memory) (memories_said (k + 1) m)
        ∙ ap (λ (z : List ReportLine). z ++ spoken (memories_said (k + 1) m)) (words_spoken k b is 0 (concat p.memory))

  differs : (k : ℕ) → g ≢ k → (b : Bool) → eqb k g ≡ b → eqb k g ≡ false
  differs k differ true is = absurd (differ (sym (eqb-true k g is)))
  differs k differ false is = is

  memories_further : (k : ℕ) (m : List PrivateDevice) → g < k → spoken (memories_said k m) ≡ []
  memories_further k [] past = refl
  memories_further k (p ∷ m) past =
      let differ : g ≢ k = λ same. omega arith in
      memories_step k p m false (differs k differ (eqb k g) refl) ∙ memories_further (k + 1) m (omega arith)

  memories_own : (k : ℕ) (m : List PrivateDevice) (j : ℕ) → j < length m → k + j ≡ g → spoken (memories_said k m) ≡ memory_said g (device_at m j).memory
  memories_own k [] j there is = absurd (omega arith)
  memories_own k (p ∷ m) zero there is =
      let same : k ≡ g = omega arith in
      memories_step k p m true (eq-eqb k g same)
      ∙ ap (λ (z : List ReportLine). memory_said k p.memory ++ z) (memories_further (k + 1) m (omega arith))
      ∙ append-nil (memory_said k p.memory)
      ∙ ap (λ (i : ℕ). memory_said i p.memory) same
  memories_own k (p ∷ m) (suc j) there is =
      let differ : g ≢ k = λ same. omega arith in
      memories_step k p m false (differs k differ (eqb k g) refl) ∙ memories_own (k + 1) m j (omega arith) (omega arith)

  pub ending-spoken : (ending : Ending) (m : Machine) → g < length m.devices → spoken (ending_said ending m) ≡ cond (is_done_ending ending) (memory_said g (device_at m.devices g).memory) []
  ending-spoken done m there =
      spoken-append (memories_said 0 m.devices) (said.Done ∷ [])
      ∙ append-nil (spoken (memories_said 0 m.devices))
      ∙ memories_own 0 m.devices g there (omega arith)
  ending-spoken (BadScript n) m there = refl
  ending-spoken TooLong m there = refl

-- Turns of an engine over the shared device, one more at a time.
use Rattle.std.proofs.Common.{◌≡◌, ℕ, zero, suc, ◌+◌, ◌-◌, ◌^◌, ◌<◌, List, [], ◌∷◌, ◌++◌, All, length, map, get_or, set, replicate, refl, ap, sym, ◌∙◌, subst, arith}
use Rattle.std.specs.List.{flat_map}
use Rattle.std.proofs.lemmas.List.{append-nil, length-set, map-append, replicate-append-replicate, set-set, set-get_or}
use Rattle.std.proofs.lemmas.Grind.{flat_map-append}
use Rattle.gv_types.specs.declared.event.Event.{Event}
use Rattle.gv_types.specs.declared.event.Event.TheVariants.{Turn}
use Rattle.gv_types.specs.declared.ids.EngineId.{EngineId}
use Rattle.gv_types.specs.declared.ids.GuestId.{GuestId}
use Rattle.gv_types.specs.declared.reply.Reply.{Reply}
use Rattle.gv_gpu.specs.Change.{Ran, RanPart}
use Rattle.gv_gpu.specs.Device.{Device, JournalEntry}
use Rattle.gv_private.specs.Device.{PrivateDevice, new_device}
use Rattle.gv_private.specs.Inputs.{turns, answer}
use Rattle.gv_private.specs.Turn.{RanCommand, turned}
use Rattle.gv_machine.specs.Course.{Course, play}
use Rattle.gv_machine.specs.Machine.{Machine, Happened, happened, no_ranges, device_at, event_course, input_course, ran_of}
use Rattle.gv_machine.specs.Report.{alarms_said, column_of, counts_of, turn_said}
use Rattle.gv_machine.proofs.Courses.{play-append}
use Rattle.gv_machine.proofs.Devices.{events-same}
use Rattle.gv_machine.proofs.OwnCourse.{set_own}
use Rattle.gv_machine.proofs.Text.{said_more, said_none}
use Rattle.gv_machine.proofs.Turns.{turns_from, turns-more, length-turns, alarms-more, counts-more, counts-small}
use Rattle.gv_mediator.specs.Event.{event_done, entries_ran}
use Rattle.gv_vgpu.specs.Changes.{journal_entry}
use Rattle.gv_text.specs.Report.{text_of}
use Rattle.gv_text.specs.declared.report_line.ReportLine.{ReportLine}
use Rattle.gv_run.specs.Lines.{turns_line}
use Rattle.gv_run.specs.Tied.{Plays, entries_in}
use Rattle.gv_run.proofs.Left.{ran-none, ran-then, ran-still}

abbrev alarms : List Happened → List ReportLine
alarms came = flat_map (λ (h : Happened). alarms_said h.reply) came

abbrev ran_entries : List Happened → List JournalEntry
ran_entries came = map journal_entry (ran_of came)

-- the engine's owner is guest g
module _ (m0 : Machine) (engine : EngineId) where
  abbrev g : ℕ
  g = m0.owners engine.0

  abbrev p : PrivateDevice
  p = device_at m0.devices g

  abbrev so_far : ℕ → Course PrivateDevice Happened
  so_far i = turns_from p engine i

  abbrev machine_after : ℕ → Machine
  machine_after i = record m0 { devices = set m0.devices g (so_far i).left }

  -- what one more turn makes
  abbrev next : ℕ → Happened
  next i = happened (answer (so_far i).left (Turn engine))

  left-more : (i : ℕ) → (so_far (i + 1)).left ≡ (answer (so_far i).left (Turn engine)).left
  left-more i = ap (λ (c : Course PrivateDevice Happened). c.left) (turns-more p engine i)

  came-more : (i : ℕ) → (so_far (i + 1)).came ≡ (so_far i).came ++ next i ∷ []
  came-more i = ap (λ (c : Course PrivateDevice Happened). c.came) (turns-more p engine i)

  -- the turns behind the first ones
  abbrev behind : ℕ → ℕ → Course PrivateDevice Happened
  behind j k = play event_course (so_far j).left (replicate k (Turn engine))

  came-split : (j k : ℕ) → (so_far (j + k)).came ≡ (so_far j).came ++ (behind j k).came
  came-split j k =
      ap (λ (events : List Event). (play event_course p events).came) (sym (replicate-append-replicate j k (Turn engine)))
      ∙ ap (λ (c : Course PrivateDevice Happened). c.came) (play-append event_course p (replicate j (Turn engine)) (replicate k (Turn engine)))

  -- where these ran, they are a front of what runs in all
  part-upto : (j k count : ℕ) → j + k ≡ count → (start e : Device) → Ran start e (ran_entries (so_far j).came) → RanPart start e (entries_in (input_course m0 (turns engine count)).came)
  part-upto j k count is start e ran = record {
    left = ran_entries (behind j k).came;
    part = record {
      done = ran_entries (so_far j).came;
      ran = ran;
      front =
          sym (map-append journal_entry (ran_of (so_far j).came) (ran_of (behind j k).came))
          ∙ ap (λ (z : List RanCommand). map journal_entry z) (sym (flat_map-append (λ (h : Happened). h.ran) (so_far j).came (behind j k).came))
          ∙ ap ran_entries (sym (came-split j k))
          ∙ ap (λ n. ran_entries (so_far n).came) is
          ∙ ap (λ (z : List RanCommand). map journal_entry z) (sym (append-nil (ran_of (so_far count).came)));
    };
  }

  -- So many turns were taken: the machine, the text, the counts, and the guest of the last reply.
  pub record Turning (i : ℕ) (start : Device) (before : List ℕ) (m : Machine) (now counts : List ℕ) (owner : GuestId) (d : Device) : Type 0 where
    pub machine : m ≡ machine_after i
    pub report : now ≡ before ++ text_of (alarms (so_far i).came)
    pub counts_are : counts ≡ counts_of (so_far i).came
    pub ran : Ran start d (ran_entries (so_far i).came)
    pub named : 0 < i → owner.0 ≡ p.number

  pub turning-none : (start : Device) (before : List ℕ) → Turning 0 start before m0 before (replicate 6 0) (record { 0 = 0 }) start
  turning-none start before = record {
    machine = ap (λ (devices : List PrivateDevice). record m0 { devices = devices }) (sym (set-get_or m0.devices g (new_device 0 0 no_ranges)));
    report = said_none before;
    counts_are = refl;
    ran = ran-none start;
    named = λ some. absurd (omega arith);
  }

  -- there are as many guests
  pub turning-count : {i : ℕ} {start : Device} {before : List ℕ} {m : Machine} {now counts : List ℕ} {owner : GuestId} {d : Device} → Turning i start before m now counts owner d → length m.devices ≡ length m0.devices
  turning-count {i} {start} {before} {m} {now} {counts} {owner} {d} turning = ap (λ (k : Machine). length k.devices) turning.machine ∙ length-set m0.devices g (so_far i).left

  -- all of what runs in so many turns ran
  pub turning-ran : {count : ℕ} {start : Device} {before : List ℕ} {m : Machine} {now counts : List ℕ} {owner : GuestId} {d : Device} → Turning count start before m now counts owner d → Ran start d (entries_in (input_course m0 (turns engine count)).came)
  turning-ran {count} {start} {before} {m} {now} {counts} {owner} {d} turning = subst (λ (l : List RanCommand). Ran start d (map journal_entry l)) (sym (append-nil (ran_of (so_far count).came))) turning.ran

  line-is : (count : ℕ) (owner : GuestId) → (0 < count → owner.0 ≡ p.number) → turns_line count owner engine (counts_of (so_far count).came) ≡ turn_said engine (so_far count).came
  line-is zero owner named = refl
  line-is (suc count) owner named =
      let is : owner.0 ≡ p.number = named (omega arith) in
      ap (λ n. turns_line (suc count) (record { 0 = n }) engine (counts_of (so_far (suc count)).came)) is

  -- all were taken
  pub turning-done : (count : ℕ) (start d : Device) (before now later : List ℕ) (m : Machine) (counts : List ℕ) (owner : GuestId) → Turning count start before m now counts owner d → later ≡ now ++ text_of (turns_line count owner engine counts) → Plays (input_course m0 (turns engine count)) start before d m later
  turning-done count start d before now later m counts owner turning told = record {
    machine = turning.machine;
    report = told
        ∙ ap (λ (xs : List ℕ). now ++ text_of (turns_line count owner engine xs)) turning.counts_are
        ∙ ap (λ (lines : List ReportLine). now ++ text_of lines) (line-is count owner turning.named)
        ∙ said_more before now (alarms (so_far count).came) (turn_said engine (so_far count).came) turning.report
        ∙ ap (λ (lines : List ReportLine). before ++ text_of lines) (sym (append-nil (alarms (so_far count).came ++ turn_said engine (so_far count).came)));
    ran = subst (λ (l : List RanCommand). Ran start d (map journal_entry l)) (sym (append-nil (ran_of (so_far count).came))) turning.ran;
  }

  -- the owner is there
  module _ (there : m0.owners engine.0 < length m0.devices) where
    own : (i : ℕ) → device_at (machine_after i).devices g ≡ (so_far i).left
    own i = set_own m0.devices g (so_far i).left there

    step-left : (i : ℕ) → (event_done (machine_after i) (Turn engine)).left ≡ machine_after (i + 1)
    step-left i =
        ap (λ (q : PrivateDevice). record m0 { devices = set (machine_after i).devices g (answer q (Turn engine)).left }) (own i)
        ∙ ap (λ (devices : List PrivateDevice). record m0 { devices = devices }) (set-set m0.devices g (so_far i).left (answer (so_far i).left (Turn engine)).left)
        ∙ ap (λ (q : PrivateDevice). record m0 { devices = set m0.devices g q }) (sym (left-more i))

    step-came : (i : ℕ) → (event_done (machine_after i) (Turn engine)).came ≡ next i ∷ []
    step-came i = ap (λ (q : PrivateDevice). happened (answer q (Turn engine)) ∷ []) (own i)

    module _ (i : ℕ) (start d : Device) (before now : List ℕ) (m : Machine) (counts : List ℕ) (owner : GuestId) (turning : Turning i start before m now counts owner d) where
      done-left : (event_done m (Turn engine)).left ≡ machine_after (i + 1)
      done-left = ap (λ (k : Machine). (event_done k (Turn engine)).left) turning.machine ∙ step-left i

      done-came : (event_done m (Turn engine)).came ≡ next i ∷ []
      done-came = ap (λ (k : Machine). (event_done k (Turn engine)).came) turning.machine ∙ step-came i

      -- the counts have room for one more
      pub counts-room : i < 2 ^ 32 - 1 → All (λ n. n < 2 ^ 32 - 1) counts
      counts-room small = subst (λ (xs : List ℕ). All (λ n. n < 2 ^ 32 - 1) xs) (sym turning.counts_are) (λ k x h.
          let few = counts-small (so_far i).came k x h in
          let many = length-turns p engine i in
          omega arith)

      entries-more : ran_entries ((so_far i).came ++ next i ∷ []) ≡ ran_entries (so_far i).came ++ ran_entries (next i ∷ [])
      entries-more =
          ap (λ (z : List RanCommand). map journal_entry z) (flat_map-append (λ (h : Happened). h.ran) (so_far i).came (next i ∷ []))
          ∙ map-append journal_entry (ran_of (so_far i).came) (ran_of (next i ∷ []))

      module _ (e : Device) (ran : Ran d e (entries_ran (event_done m (Turn engine)).came)) where
        ran-more : Ran start e (ran_entries (so_far (i + 1)).came)
        ran-more =
            subst (λ (came : List Happened). Ran start e (ran_entries came)) (sym (came-more i))
            (subst (λ (l : List JournalEntry). Ran start e l) (sym entries-more)
            (ran-then turning.ran (subst (λ (came : List Happened). Ran d e (ran_entries came)) done-came ran)))

        pub turning-part : (count : ℕ) → i < count → RanPart start e (entries_in (input_course m0 (turns engine count)).came)
        turning-part count within = part-upto (i + 1) (count - (i + 1)) count (omega arith) start e (ran-more)

      pub turning-still : (e : Device) → Ran d e [] → (count : ℕ) → i < count → RanPart start e (entries_in (input_course m0 (turns engine count)).came)
      turning-still e none count within = part-upto i (count - i) count (omega arith) start e (ran-still turning.ran none)

      module _ (reply : Reply) (replied : map (λ (h : Happened). h.reply) (event_done m (Turn engine)).came ≡ reply ∷ []) where
        reply-is : (next i).reply ≡ reply
        reply-is =
            let only : (next i).reply ∷ [] ≡ reply ∷ [] = sym (ap (λ (came : List Happened). map (λ (h : Happened). h.reply) came) done-came) ∙ replied in
            cc

        same-number : (next i).reply.guest.0 ≡ p.number
        same-number = (events-same p (replicate i (Turn engine))).number

        pub reply-named : reply.guest.0 ≡ p.number
        reply-named = sym (ap (λ (r : Reply). r.guest.0) reply-is) ∙ same-number

        pub turning-more : (e : Device) (after : Machine) (later more : List ℕ) → after ≡ (event_done m (Turn engine)).left → later ≡ now ++ text_of (alarms_said reply) → more ≡ set counts (column_of reply.answer) (get_or counts (column_of reply.answer) 0 + 1)
            → Ran d e (entries_ran (event_done m (Turn engine)).came) → Turning (i + 1) start before after later more reply.guest e
        turning-more e after later more moved told counted ran = record {
          machine = moved ∙ done-left;
          report = told
              ∙ ap (λ (r : Reply). now ++ text_of (alarms_said r)) (sym reply-is)
              ∙ said_more before now (alarms (so_far i).came) (alarms_said (next i).reply) turning.report
              ∙ ap (λ (lines : List ReportLine). before ++ text_of lines) (sym (ap alarms (came-more i) ∙ alarms-more (so_far i).came (next i)));
          counts_are = counted
              ∙ ap (λ (r : Reply). set counts (column_of r.answer) (get_or counts (column_of r.answer) 0 + 1)) (sym reply-is)
              ∙ ap (λ (xs : List ℕ). set xs (column_of (next i).reply.answer) (get_or xs (column_of (next i).reply.answer) 0 + 1)) turning.counts_are
              ∙ sym (ap counts_of (came-more i) ∙ counts-more (so_far i).came (next i) (turned (so_far i).left engine.0).outcome refl);
          ran = ran-more e ran;
          named = λ some. reply-named;
        }

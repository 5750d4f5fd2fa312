-- A turn of an element at work neither reads nor writes a frame that no grant gives: with other words in it the turn
-- does the same.
use Rattle.std.proofs.Common.{◌≡◌, ◌≢◌, ℕ, suc, zero, ◌+◌, ◌*◌, ◌/◌, ◌%◌, ◌^◌, Bool, true, false, not, ◌&&◌, List, [], ◌∷◌, Option, None, Some, Result, Ok, Err, cond, get_or, set, refl, sym, ap, ◌∙◌, subst}
use Rattle.std.proofs.lemmas.List.{get_or-set_other}
use Rattle.std.specs.Option.{option_or}
use Rattle.gv_types.specs.Bits.{byte_of, with_byte, has_bit}
use Rattle.gv_types.specs.Memory.{Memory, word_of, with_word, half_of, with_half}
use Rattle.gv_types.specs.declared.event.Width.{Width}
use Rattle.gv_types.specs.declared.event.Width.TheVariants.{Four, Eight}
use Rattle.gv_types.specs.declared.ranges.Ranges.{Ranges}
use Rattle.gv_types.specs.declared.reply.Outcome.TheVariants as outcomes
use Rattle.gv_types.specs.declared.reply.Reason.{Reason}
use Rattle.gv_types.specs.declared.reply.Reason.TheVariants.{Command}
use Rattle.gv_cmd.specs.Allowed.{is_allowed}
use Rattle.gv_cmd.specs.Command.{decoded}
use Rattle.gv_cmd.specs.Effect.{effect, colour_byte}
use Rattle.gv_cmd.specs.Simulation.{Simulates, SameEffect}
use Rattle.gv_cmd.specs.Table.{kind_of}
use Rattle.gv_cmd.specs.declared.command.Unlisted.{Unlisted}
use Rattle.gv_cmd.proofs.Simulation.{effects_agree}
use Rattle.gv_csb.specs.Slots.{completion_events}
use Rattle.gv_csb.specs.declared.status.Status.{Status}
use Rattle.gv_ctx.specs.Descriptor.{descriptor_of}
use Rattle.gv_entry.specs.Global.{global_entry}
use Rattle.gv_entry.specs.Grants.{global_grant, frame_of, if_writable, read_grant}
use Rattle.gv_entry.specs.SameTables.{has, SameTables}
use Rattle.gv_entry.specs.Tables.{Mapped, walk, is_guarded}
use Rattle.gv_entry.proofs.SameTables.{tables_decide, unguarded_frame_keeps_tables}
use Rattle.gv_fetch.specs.Left.{front, live_command, is_done, is_privileged, stands_of}
use Rattle.std.specs.Prelude.{IfOk}
use Rattle.std.specs.List.{filter}
use Rattle.gv_private.specs.Device.{PrivateDevice, Working, Written, and_then, front_context, quietly, fails}
use Rattle.gv_private.specs.Grants.{page_grant_in, page_grant, frame_read, frame_written, global_written}
use Rattle.gv_private.specs.Laws.{with_frame, turned_with_frame, UngrantedIsUntouched, LoadsWriteNothing}
use Rattle.gv_private.specs.Load.{loaded}
use Rattle.gv_private.specs.Space.{PrivateSpace, space_of, reads, writes, operand_read, operand_written, byte_read, byte_written, word_at, bytes_written, private_operations}
use Rattle.gv_private.specs.Status.{bit_raised, bits_raised, status_at, in_ring, event_given, events_given, context_switch, user_interrupt, notify}
use Rattle.gv_private.specs.Turn.{Turned, turned_as, front_words, front_effect, ran_after, run_by, command_by, tail_written, without_front, finished, load_by, next_by, turned_by}
use Rattle.gv_private.proofs.Effects.{May, may_do, writes-free}
use Rattle.gv_private.proofs.Granted.{frame_at, page-free, frame_written-tables}
use Rattle.gv_private.proofs.Keeps.{loaded-good}

-- ---- lists

set_commute : {A : Type 0} (l : List A) (i j : ℕ) (a b : A) → i ≢ j → set (set l i a) j b ≡ set (set l j b) i a
set_commute [] i j a b other = refl
set_commute (x ∷ l) zero zero a b other = absurd (other refl)
set_commute (x ∷ l) zero (suc j) a b other = refl
set_commute (x ∷ l) (suc i) zero a b other = refl
set_commute (x ∷ l) (suc i) (suc j) a b other = ap (λ k. x ∷ k) (set_commute l i j a b (λ same. other (ap suc same)))

-- ---- frames

word_other : (m : Memory) (frame : ℕ) (words : List ℕ) (n : ℕ) → n / 512 ≢ frame → word_of (set m frame words) n ≡ word_of m n
word_other m frame words n other = ap (λ l. get_or l (n % 512) 0) (get_or-set_other m frame (n / 512) words [] other)

with_word_other : (m : Memory) (frame : ℕ) (words : List ℕ) (n value : ℕ) → n / 512 ≢ frame → with_word (set m frame words) n value ≡ set (with_word m n value) frame words
with_word_other m frame words n value other =
    ap (λ l. set (set m frame words) (n / 512) (set l (n % 512) value)) (get_or-set_other m frame (n / 512) words [] other)
    ∙ set_commute m frame (n / 512) words (set (get_or m (n / 512) []) (n % 512) value) (λ same. other (sym same))

in_other : (frame h at : ℕ) → Some h ≢ Some frame → (h * 4096 + at % 4096) / 8 / 512 ≢ frame
in_other frame h at other = λ same. other (ap Some (sym (frame_at h at) ∙ same))

pub read_other : (m : Memory) (frame : ℕ) (words : List ℕ) (width : Width) (at : ℕ) (grant : Option ℕ) → grant ≢ Some frame → frame_read (set m frame words) width at grant ≡ frame_read m width at grant
read_other m frame words width at None other = refl
read_other m frame words Four at (Some h) other =
    let a = h * 4096 + at % 4096 in ap (λ u. half_of u a) (word_other m frame words (a / 8) (in_other frame h at other))
read_other m frame words Eight at (Some h) other = word_other m frame words ((h * 4096 + at % 4096) / 8) (in_other frame h at other)

write_other : (m : Memory) (frame : ℕ) (words : List ℕ) (width : Width) (at value : ℕ) (grant : Option ℕ) → grant ≢ Some frame → frame_written (set m frame words) width at value grant ≡ set (frame_written m width at value grant) frame words
write_other m frame words width at value None other = refl
write_other m frame words Four at value (Some h) other =
    let a = h * 4096 + at % 4096 in
    ap (λ u. with_word (set m frame words) (a / 8) (with_half u a value)) (word_other m frame words (a / 8) (in_other frame h at other))
    ∙ with_word_other m frame words (a / 8) (with_half (word_of m (a / 8)) a value) (in_other frame h at other)
write_other m frame words Eight at value (Some h) other = with_word_other m frame words ((h * 4096 + at % 4096) / 8) value (in_other frame h at other)

-- ---- grants

pub page_same : (ranges : Ranges) (entries : List ℕ) (m n : Memory) (roots : List ℕ) (page : ℕ) → SameTables m n roots → page_grant_in ranges entries n roots page ≡ page_grant_in ranges entries m roots page
page_same ranges entries m n roots page same =
    let meaning = tables_decide m n roots same in
    λ i. global_grant ranges (same.frames i) (meaning.guarded i) (global_entry ranges entries) page

written_frame : (frame : ℕ) (f : ℕ) (writable b : Bool) → cond (writable && not b) (Some f) None ≡ Some frame → Some f ≡ Some frame
written_frame frame f true true is = cc
written_frame frame f true false is = is
written_frame frame f false b is = cc

written_is_read : (frame : ℕ) (guarded : ℕ → Bool) (page : Option Mapped) → if_writable guarded page ≡ Some frame → frame_of page ≡ Some frame
written_is_read frame guarded None is = cc
written_is_read frame guarded (Some page) is = written_frame frame page.frame page.writable (guarded page.frame) is

-- ---- the space of an element

module _ (frame : ℕ) (words : List ℕ) where
  record Spared (s : PrivateSpace) : Type 0 where
    pub rooted : has s.roots s.root ≡ true
    pub table : is_guarded s.memory s.roots frame ≡ false
    pub global : (page : ℕ) → page_grant_in s.ranges s.entries s.memory s.roots page ≢ Some frame
    pub process : (at : ℕ) → read_grant s.memory s.root at ≢ Some frame

  abbrev other_words : PrivateSpace → PrivateSpace
  other_words s = record s { memory = set s.memory frame words }

  spared-memory : (s : PrivateSpace) (m : Memory) → SameTables s.memory m s.roots → Spared s → Spared (record s { memory = m })
  spared-memory s m same spared =
      let meaning = tables_decide s.memory m s.roots same in record {
        rooted = spared.rooted;
        table = ap (λ (g : ℕ → Bool). g frame) meaning.guarded ∙ spared.table;
        global = λ page is. spared.global page (sym (page_same s.ranges s.entries s.memory m s.roots page same) ∙ is);
        process = λ at is. spared.process at (sym (meaning.read s.root at spared.rooted) ∙ is);
      }

  same_tables : (s : PrivateSpace) → Spared s → SameTables s.memory (set s.memory frame words) s.roots
  same_tables s spared = unguarded_frame_keeps_tables s.memory s.roots frame words spared.table

  reads_same : (s : PrivateSpace) (global : Bool) (at : ℕ) → Spared s → reads (other_words s) global at ≡ reads s global at
  reads_same s true at spared = page_same s.ranges s.entries s.memory (set s.memory frame words) s.roots (at / 4096) (same_tables s spared)
  reads_same s false at spared = (tables_decide s.memory (set s.memory frame words) s.roots (same_tables s spared)).read s.root at spared.rooted

  writes_same : (s : PrivateSpace) (global : Bool) (at : ℕ) → Spared s → writes (other_words s) global at ≡ writes s global at
  writes_same s true at spared = page_same s.ranges s.entries s.memory (set s.memory frame words) s.roots (at / 4096) (same_tables s spared)
  writes_same s false at spared = (tables_decide s.memory (set s.memory frame words) s.roots (same_tables s spared)).write s.root at spared.rooted

  reads_other : (s : PrivateSpace) (global : Bool) (at : ℕ) → Spared s → reads s global at ≢ Some frame
  reads_other s true at spared = spared.global (at / 4096)
  reads_other s false at spared = spared.process at

  writes_other : (s : PrivateSpace) (global : Bool) (at : ℕ) → Spared s → writes s global at ≢ Some frame
  writes_other s true at spared = spared.global (at / 4096)
  writes_other s false at spared = λ is. spared.process at (written_is_read frame (is_guarded s.memory s.roots) (walk s.memory s.root at) is)

  access_same : (s : PrivateSpace) (width : Width) (global : Bool) (at where_at : ℕ) → Spared s → frame_read (set s.memory frame words) width where_at (reads (other_words s) global at) ≡ frame_read s.memory width where_at (reads s global at)
  access_same s width global at where_at spared =
      ap (λ g. frame_read (set s.memory frame words) width where_at g) (reads_same s global at spared)
      ∙ read_other s.memory frame words width where_at (reads s global at) (reads_other s global at spared)

  old_same : (s : PrivateSpace) (at where_at : ℕ) → Spared s → frame_read (set s.memory frame words) Eight where_at (writes (other_words s) false at) ≡ frame_read s.memory Eight where_at (writes s false at)
  old_same s at where_at spared =
      ap (λ g. frame_read (set s.memory frame words) Eight where_at g) (writes_same s false at spared)
      ∙ read_other s.memory frame words Eight where_at (writes s false at) (writes_other s false at spared)

  store_same : (s : PrivateSpace) (width : Width) (global : Bool) (at where_at value : ℕ) → Spared s → frame_written (set s.memory frame words) width where_at value (writes (other_words s) global at) ≡ set (frame_written s.memory width where_at value (writes s global at)) frame words
  store_same s width global at where_at value spared =
      ap (λ g. frame_written (set s.memory frame words) width where_at value g) (writes_same s global at spared)
      ∙ write_other s.memory frame words width where_at value (writes s global at) (writes_other s global at spared)

  dword_same : (s : PrivateSpace) (global : Bool) (at value : ℕ) → Spared s → operand_written (other_words s) global at value ≡ other_words (operand_written s global at value)
  dword_same s global at value spared = ap (λ m. record s { memory = m }) (store_same s Four global at at value spared)

  byte_same : (s : PrivateSpace) (at value : ℕ) → Spared s → byte_written (other_words s) at value ≡ other_words (byte_written s at value)
  byte_same s at value spared =
      ap (λ u. record s { memory = frame_written (set s.memory frame words) Eight (word_at at) (with_byte u at value) (writes (other_words s) false at) }) (old_same s at (word_at at) spared)
      ∙ ap (λ m. record s { memory = m }) (store_same s Eight false at (word_at at) (with_byte (frame_read s.memory Eight (word_at at) (writes s false at)) at value) spared)

  -- two spaces that differ in the words of the frame alone
  record Twins (x y : PrivateSpace) : Type 0 where
    pub equal : y ≡ other_words x
    pub spared : Spared x

  twins-dword : (x y : PrivateSpace) (global : Bool) (at value : ℕ) → Twins x y → Twins (operand_written x global at value) (operand_written y global at value)
  twins-dword x y global at value twins = record {
    equal = ap (λ s. operand_written s global at value) twins.equal ∙ dword_same x global at value twins.spared;
    spared = spared-memory x (frame_written x.memory Four at value (writes x global at)) (frame_written-tables x.memory x.roots Four at value (writes x global at) (writes-free x global at)) twins.spared;
  }

  twins-byte : (x y : PrivateSpace) (at value : ℕ) → Twins x y → Twins (byte_written x at value) (byte_written y at value)
  twins-byte x y at value twins =
      let word = with_byte (frame_read x.memory Eight (word_at at) (writes x false at)) at value in record {
        equal = ap (λ s. byte_written s at value) twins.equal ∙ byte_same x at value twins.spared;
        spared = spared-memory x (frame_written x.memory Eight (word_at at) word (writes x false at)) (frame_written-tables x.memory x.roots Eight (word_at at) word (writes x false at) (writes-free x false at)) twins.spared;
      }

  twins-bytes : (x y : PrivateSpace) (at : ℕ) (bytes : ℕ → ℕ) (n : ℕ) → Twins x y → Twins (bytes_written x at bytes n) (bytes_written y at bytes n)
  unfolding bytes_written
  twins-bytes x y at bytes zero twins = twins
  twins-bytes x y at bytes (suc n) twins = twins-byte (bytes_written x at bytes n) (bytes_written y at bytes n) (at + n) (bytes n) (twins-bytes x y at bytes n twins)

  byte_read_same : (x y : PrivateSpace) (at : ℕ) → Twins x y → byte_read x at ≡ byte_read y at
  byte_read_same x y at twins = sym (ap (λ s. byte_read s at) twins.equal ∙ ap (λ u. byte_of u at) (access_same x Eight false at (word_at at) twins.spared))

  twins-copied : (x y : PrivateSpace) (to from n : ℕ) → Twins x y → Twins (private_operations.row_copied x to from n) (private_operations.row_copied y to from n)
  twins-copied x y to from n twins =
      let bytes = λ (k : ℕ). byte_read x (from % 2 ^ 48 + k) in
      let same : bytes ≡ (λ (k : ℕ). byte_read y (from % 2 ^ 48 + k)) = λ i k. byte_read_same x y (from % 2 ^ 48 + k) twins i in
      subst (λ (b : ℕ → ℕ). Twins (bytes_written x (to % 2 ^ 48) bytes n) (bytes_written y (to % 2 ^ 48) b n)) same (twins-bytes x y (to % 2 ^ 48) bytes n twins)

  twins-simulate : Simulates private_operations private_operations Twins May
  twins-simulate = record {
    load_gives = λ x y global at twins may. sym (ap (λ s. operand_read s global at) twins.equal ∙ access_same x Four global at at twins.spared);
    load_leaves = λ x y global at twins may. twins;
    stored = λ x y global at value twins may. twins-dword x y global at value twins;
    row_copied = λ x y to from n twins. twins-copied x y to from n twins;
    row_filled = λ x y to n colour depth twins. twins-bytes x y (to % 2 ^ 48) (colour_byte colour depth) n twins;
    general_gives = λ x y n small twins. sym (ap (λ s. private_operations.general_gives s n) twins.equal);
    general_set = λ x y n value small twins. record {
      equal = ap (λ s. private_operations.general_set s n value) twins.equal;
      spared = record { rooted = twins.spared.rooted; table = twins.spared.table; global = twins.spared.global; process = twins.spared.process };
    };
  }

  effect-twins : (ws : List ℕ) (engine : ℕ) (privileged : Bool) (s : PrivateSpace) → Spared s → SameEffect Twins (effect private_operations ws engine privileged s) (effect private_operations ws engine privileged (other_words s))
  effect-twins ws engine privileged s spared =
      effects_agree private_operations private_operations Twins May twins-simulate ws engine privileged s (other_words s) (record { equal = refl; spared = spared }) (may_do engine privileged (kind_of ws))

  -- ---- the device

  abbrev other : PrivateDevice → PrivateDevice
  other q = with_frame q frame words

  abbrev other_left : Written → Written
  other_left w = record w { device = other w.device }

  abbrev other_turn : Turned → Turned
  other_turn t = turned_with_frame t frame words

  record Apart (q : PrivateDevice) : Type 0 where
    pub table : is_guarded q.memory q.roots frame ≡ false
    pub global : (page : ℕ) → page_grant q page ≢ Some frame

  written-tables : (q : PrivateDevice) (at value : ℕ) → SameTables q.memory (global_written q at value).memory q.roots
  written-tables q at value = frame_written-tables q.memory q.roots Four at value (page_grant q (at / 4096)) (page-free q.ranges q.entries q.memory q.roots (at / 4096))

  apart-written : (q : PrivateDevice) (at value : ℕ) → Apart q → Apart (global_written q at value)
  apart-written q at value apart =
      let same = written-tables q at value in
      let meaning = tables_decide q.memory (global_written q at value).memory q.roots same in record {
        table = ap (λ (g : ℕ → Bool). g frame) meaning.guarded ∙ apart.table;
        global = λ page is. apart.global page (sym (page_same q.ranges q.entries q.memory (global_written q at value).memory q.roots page same) ∙ is);
      }

  written_same : (q : PrivateDevice) (at value : ℕ) → Apart q → global_written (other q) at value ≡ other (global_written q at value)
  written_same q at value apart =
      let same = unguarded_frame_keeps_tables q.memory q.roots frame words apart.table in
      ap (λ m. record q { memory = m })
      (ap (λ g. frame_written (set q.memory frame words) Four at value g) (page_same q.ranges q.entries q.memory (set q.memory frame words) q.roots (at / 4096) same)
      ∙ write_other q.memory frame words Four at value (page_grant q (at / 4096)) (apart.global (at / 4096)))

  then_by : (b : Bool) (first : Written) (next : PrivateDevice → Written) → next (other first.device) ≡ other_left (next first.device) → cond b (other_left first) (record (next (other first.device)) { irq = option_or first.irq (next (other first.device)).irq }) ≡ other_left (cond b first (record (next first.device) { irq = option_or first.irq (next first.device).irq }))
  then_by true first next same = refl
  then_by false first next same = ap (λ (t : Written). record t { irq = option_or first.irq t.irq }) same

  then_same : (first : Written) (next : PrivateDevice → Written) → next (other first.device) ≡ other_left (next first.device) → and_then (other_left first) next ≡ other_left (and_then first next)
  then_same first next same = then_by first.device.failsafe first next same

  bits_same : (q : PrivateDevice) (engine : ℕ) (bits : List ℕ) → bits_raised (other q) engine bits ≡ other_left (bits_raised q engine bits)
  bits_same q engine [] = refl
  bits_same q engine (n ∷ more) = then_same (bit_raised q engine n) (λ r. bits_raised r engine more) (bits_same (bit_raised q engine n).device engine more)

  -- what an event leaves, step by step
  module _ (q : PrivateDevice) (engine : ℕ) (status : Status) where
    abbrev ring : PrivateDevice
    ring = in_ring q engine status

    abbrev index : ℕ
    index = (ring.engines engine).slots.write

    abbrev one : PrivateDevice
    one = global_written ring (status_at ring engine (0x10 + 2 * index)) status.word

    abbrev two : PrivateDevice
    two = global_written one (status_at ring engine (0x11 + 2 * index)) status.number

    abbrev three : PrivateDevice
    three = global_written two (status_at ring engine 0x1F) index

    apart-ring : Apart q → Apart ring
    apart-ring apart = record { table = apart.table; global = apart.global }

    apart-one : Apart q → Apart one
    apart-one apart = apart-written ring (status_at ring engine (0x10 + 2 * index)) status.word (apart-ring apart)

    apart-two : Apart q → Apart two
    apart-two apart = apart-written one (status_at ring engine (0x11 + 2 * index)) status.number (apart-one apart)

    event_same : Apart q → event_given (other q) engine status ≡ other_left (event_given q engine status)
    event_same apart =
        ap (λ r. bit_raised (global_written (global_written r (status_at ring engine (0x11 + 2 * index)) status.number) (status_at ring engine 0x1F) index) engine context_switch)
        (written_same ring (status_at ring engine (0x10 + 2 * index)) status.word (apart-ring apart))
        ∙ (ap (λ r. bit_raised (global_written r (status_at ring engine 0x1F) index) engine context_switch)
        (written_same one (status_at ring engine (0x11 + 2 * index)) status.number (apart-one apart))
        ∙ ap (λ r. bit_raised r engine context_switch) (written_same two (status_at ring engine 0x1F) index (apart-two apart)))

    apart-event : Apart q → Apart (event_given q engine status).device
    apart-event apart =
        let last = apart-written two (status_at ring engine 0x1F) index (apart-two apart) in
        record { table = last.table; global = last.global }

  events_same : (q : PrivateDevice) (engine : ℕ) (events : List Status) → Apart q → events_given (other q) engine events ≡ other_left (events_given q engine events)
  events_same q engine [] apart = refl
  events_same q engine (status ∷ more) apart =
      ap (λ first. and_then first (λ r. events_given r engine more)) (event_same q engine status apart)
      ∙ then_same (event_given q engine status) (λ r. events_given r engine more) (events_same (event_given q engine status).device engine more (apart-event q engine status apart))

  -- ---- the turn

  either_same : (b : Bool) (x y s t : Turned) → x ≡ other_turn s → y ≡ other_turn t → cond b x y ≡ other_turn (cond b s t)
  either_same true x y s t first second = first
  either_same false x y s t first second = second

  run_same : (p : PrivateDevice) (engine : ℕ) (w : Working) (ws : List ℕ) (dwords : ℕ) (s : PrivateSpace) (raise : Option ℕ) → run_by (other p) engine w ws dwords (other_words s) raise ≡ other_turn (run_by p engine w ws dwords s raise)
  run_same p engine w ws dwords s None = refl
  run_same p engine w ws dwords s (Some bits) =
      ap (λ (left : Written). record (run_by p engine w ws dwords s (Some bits)) { left = left }) (bits_same (ran_after p engine w ws dwords s) engine (filter (has_bit bits) (user_interrupt ∷ notify ∷ [])))

  command_same : (p : PrivateDevice) (engine : ℕ) (w : Working) (r : Result (List ℕ × ℕ) Unlisted) → Spared (space_of p engine w.root) → command_by (other p) engine w r ≡ other_turn (command_by p engine w r)
  command_same p engine w (Err unlisted) spared = refl
  command_same p engine w (Ok (ws, dwords)) spared =
      let e = front_effect p engine w ws in
      let f = front_effect (other p) engine w ws in
      let twins = effect-twins ws engine (is_privileged w.left) (space_of p engine w.root) spared in
      either_same (is_allowed ws (stands_of w.left) engine)
      (run_by (other p) engine w ws dwords f.after f.raise) (turned_as outcomes.Failed (fails (other p) Command))
      (run_by p engine w ws dwords e.after e.raise) (turned_as outcomes.Failed (fails p Command))
      (ap (λ s. run_by (other p) engine w ws dwords s f.raise) twins.after.equal
      ∙ (ap (λ raise. run_by (other p) engine w ws dwords (other_words e.after) raise) (sym twins.raise)
      ∙ run_same p engine w ws dwords e.after e.raise))
      refl

  words_same : (p : PrivateDevice) (engine : ℕ) (w : Working) → Spared (space_of p engine w.root) → front_words (other p) engine w ≡ front_words p engine w
  words_same p engine w spared =
      let s = space_of p engine w.root in
      let same : operand_read (other_words s) false ≡ operand_read s false = λ i at. access_same s Four false at at spared i in
      ap (λ (read : ℕ → ℕ). front (live_command read) w.left) same

  finished_same : (p : PrivateDevice) (engine : ℕ) (w : Working) → Apart p → finished (other p) engine w ≡ other_left (finished p engine w)
  finished_same p engine w apart =
      let at = ((front_context (p.engines engine)).page + 1) * 4096 + 4 * 0x05 in
      let events = completion_events (p.engines engine).slots.running (p.engines engine).slots.pending in
      let after = apart-written p at w.tail apart in
      ap (λ q. events_given (without_front q engine) engine events) (written_same p at w.tail apart)
      ∙ events_same (without_front (tail_written p engine w) engine) engine events (record { table = after.table; global = after.global })

  by_same : (p : PrivateDevice) (engine : ℕ) (w : Working) → Apart p → Spared (space_of p engine w.root) → turned_by (other p) engine (Some w) ≡ other_turn (turned_by p engine (Some w))
  by_same p engine w apart spared =
      either_same (is_done w.left)
      (turned_as outcomes.Ended (finished (other p) engine w)) (command_by (other p) engine w (decoded (front_words (other p) engine w)))
      (turned_as outcomes.Ended (finished p engine w)) (command_by p engine w (decoded (front_words p engine w)))
      (ap (turned_as outcomes.Ended) (finished_same p engine w apart))
      (ap (λ ws. command_by (other p) engine w (decoded ws)) (words_same p engine w spared) ∙ command_same p engine w (decoded (front_words p engine w)) spared)

pub ungranted_is_untouched : UngrantedIsUntouched
ungranted_is_untouched p engine frame words w works rooted ungranted =
    either_same frame words p.failsafe
    (turned_as outcomes.Idle (quietly (with_frame p frame words))) (turned_by (with_frame p frame words) engine (p.engines engine).element)
    (turned_as outcomes.Idle (quietly p)) (turned_by p engine (p.engines engine).element)
    refl
    (ap (turned_by (with_frame p frame words) engine) works
    ∙ (by_same frame words p engine w (record { table = ungranted.table; global = ungranted.global }) (record { rooted = rooted; table = ungranted.table; global = ungranted.global; process = ungranted.process })
    ∙ sym (ap (λ element. turned_with_frame (turned_by p engine element) frame words) works)))

-- ---- loads

abbrev SameMemory : PrivateDevice → PrivateDevice → Type 0
SameMemory p q = q.memory ≡ p.memory

load_memory : (p : PrivateDevice) (r : Result PrivateDevice Reason) → IfOk r (SameMemory p) → (load_by p r).left.device.memory ≡ p.memory
load_memory p (Ok q) same = same
load_memory p (Err reason) same = refl

next_memory : (p : PrivateDevice) (engine : ℕ) (running : List ℕ) → (next_by p engine running).left.device.memory ≡ p.memory
next_memory p engine [] = refl
next_memory p engine (descriptor ∷ more) =
    load_memory p (loaded p engine descriptor) (loaded-good (SameMemory p) engine (λ q root here. here) (λ q w there here. here) p (descriptor_of descriptor) refl)

still_memory : (p : PrivateDevice) (b : Bool) (t : Turned) → t.left.device.memory ≡ p.memory → (cond b (turned_as outcomes.Idle (quietly p)) t).left.device.memory ≡ p.memory
still_memory p true t same = refl
still_memory p false t same = same

pub loads_write_nothing : LoadsWriteNothing
loads_write_nothing p engine none =
    still_memory p p.failsafe (turned_by p engine (p.engines engine).element)
    (ap (λ element. (turned_by p engine element).left.device.memory) none ∙ next_memory p engine (p.engines engine).slots.running)

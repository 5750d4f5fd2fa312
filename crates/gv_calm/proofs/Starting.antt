-- The set-up of a number's script: it tells no reason, and leaves two such devices.
use Rattle.std.proofs.Common.{◌≡◌, ℕ, zero, suc, ◌+◌, ◌*◌, Bool, true, false, List, [], ◌∷◌, ◌++◌, cond, eqb, refl, ap, ◌∙◌, replicate, arith, None}
use Rattle.std.specs.List.{AllByRecursion}
use Rattle.std.specs.Prelude.{slice_set}
use Rattle.gv_types.specs.Memory.{Memory, memory_write, zero_memory, zero_words}
use Rattle.gv_types.specs.declared.event.Event.{Event}
use Rattle.gv_types.specs.declared.event.Event.TheVariants.{Write}
use Rattle.gv_types.specs.declared.event.Place.TheVariants as places
use Rattle.gv_types.specs.declared.event.Width.{Width}
use Rattle.gv_types.specs.declared.event.Width.TheVariants.{Four, Eight}
use Rattle.gv_types.specs.declared.ids.GuestId.{GuestId}
use Rattle.gv_types.specs.declared.reply.Reason.TheVariants.{Entry}
use Rattle.gv_irq.specs.Irq.{reset_irq}
use Rattle.gv_regs.specs.Registers.{reset_registers}
use Rattle.gv_regs.specs.Table.{row_at}
use Rattle.gv_text.specs.declared.script_line.Line.{Line}
use Rattle.gv_text.specs.declared.script_line.Line.TheVariants as lines
use Rattle.gv_gen.specs.Script.{guest_lines, set_up_lines}
use Rattle.gv_private.specs.Access.{memory_written}
use Rattle.gv_private.specs.Device.{Engine, PrivateDevice, Written, reset_engine, quietly, fails}
use Rattle.gv_private.specs.Inputs.{event, answer}
use Rattle.gv_machine.specs.Course.{Course, play}
use Rattle.gv_machine.specs.Machine.{Machine, Done, new_machine, device_at, guest_course, line_course}
use Rattle.gv_calm.specs.Calm.{AreQuiet}
use Rattle.gv_calm.proofs.Machines.{Stands, pair_of, all-append, at-this, set-this}
use Rattle.gv_calm.proofs.Memories.{Holds, Words, image_words, page_words, ring_words, table_words, twelve, thirteen, fourteen}
use Rattle.gv_calm.proofs.Rings.{guest_entries, guest_ranges, start_of}
use Rattle.gv_calm.proofs.Rounds.{LeadsOn, all_of, whose}
use Rattle.gv_calm.proofs.States.{State, idle, IsGood, bad-none, device_of, guest_registers, number_of}
use Rattle.gv_calm.proofs.Writing.{Anything}

-- ---- a device that is set up: its global entries, its registers and its memory

abbrev setting : Bool → List ℕ → (ℕ → ℕ) → Memory → PrivateDevice
setting g entries registers m = record {
  number = number_of g;
  ranges = guest_ranges g;
  memory = m;
  entries = entries;
  registers = registers;
  interrupts = reset_irq;
  roots = [];
  failsafe = false;
  engines = λ engine. reset_engine;
}

-- an event that tells no reason, and what it leaves
record Sets (p : PrivateDevice) (one : Event) (q : PrivateDevice) : Type 0 where
  pub quiet : (answer p one).reply.failsafe ≡ None
  pub left : (answer p one).left ≡ q

-- without roots no write in memory fails
memory-sets : (g : Bool) (entries : List ℕ) (registers : ℕ → ℕ) (m : Memory) (guest : GuestId) (width : Width) (at value : ℕ) → Sets (setting g entries registers m) (Write guest places.Memory width at value) (setting g entries registers (memory_write m width at value))
memory-sets g entries registers m guest width at value =
    let p = setting g entries registers (memory_write m width at value) in
    let whole : memory_written (setting g entries registers m) width at value ≡ quietly p = λ i. cond (bad-none (memory_write m width at value) i) (fails p Entry) (quietly p) in
    record { quiet = ap (λ (x : Written). x.reason) whole; left = ap (λ (x : Written). x.device) whole }

-- the register of the status page
register-sets : (g : Bool) (entries : List ℕ) (m : Memory) (guest : GuestId) → Sets (setting g entries reset_registers m) (Write guest places.Registers Four 0x22080 (0x3000 + 0x10000 * number_of g)) (setting g entries (guest_registers g) m)
unfolding row_at
register-sets true entries m guest = record { quiet = refl; left = refl }
register-sets false entries m guest = record { quiet = refl; left = refl }

-- the entries, one by one
abbrev entries_to : ℕ → List ℕ
entries_to zero = replicate 16 0
entries_to (suc zero) = 1 ∷ replicate 15 0
entries_to (suc (suc zero)) = 1 ∷ 0x1001 ∷ replicate 14 0
entries_to (suc (suc (suc zero))) = 1 ∷ 0x1001 ∷ 0x2001 ∷ replicate 13 0
entries_to (suc (suc (suc (suc zero)))) = 1 ∷ 0x1001 ∷ 0x2001 ∷ 0x3001 ∷ replicate 12 0
entries_to (suc (suc (suc (suc (suc k))))) = guest_entries

abbrev table_of : Bool → ℕ
table_of g = 0x800000 + 0x80 * number_of g

abbrev entry_write : GuestId → ℕ → ℕ → Event
entry_write guest at value = Write guest places.Registers Eight at value

module _ (registers : ℕ → ℕ) (m : Memory) (guest : GuestId) where
  entry_0 : (g : Bool) → Sets (setting g (entries_to 0) registers m) (entry_write guest (table_of g) 1) (setting g (entries_to 1) registers m)
  entry_0 true = record { quiet = refl; left = refl }
  entry_0 false = record { quiet = refl; left = refl }

  entry_1 : (g : Bool) → Sets (setting g (entries_to 1) registers m) (entry_write guest (table_of g + 8) 0x1001) (setting g (entries_to 2) registers m)
  entry_1 true = record { quiet = refl; left = refl }
  entry_1 false = record { quiet = refl; left = refl }

  entry_2 : (g : Bool) → Sets (setting g (entries_to 2) registers m) (entry_write guest (table_of g + 8 + 8) 0x2001) (setting g (entries_to 3) registers m)
  entry_2 true = record { quiet = refl; left = refl }
  entry_2 false = record { quiet = refl; left = refl }

  entry_3 : (g : Bool) → Sets (setting g (entries_to 3) registers m) (entry_write guest (table_of g + 8 + 8 + 8) 0x3001) (setting g (entries_to 4) registers m)
  entry_3 true = record { quiet = refl; left = refl }
  entry_3 false = record { quiet = refl; left = refl }

  entry_4 : (g : Bool) → Sets (setting g (entries_to 4) registers m) (entry_write guest (table_of g + 8 + 8 + 8 + 8) 0x4001) (setting g guest_entries registers m)
  entry_4 true = record { quiet = refl; left = refl }
  entry_4 false = record { quiet = refl; left = refl }

-- ---- the machine

-- guest g has this device, and the other guest that one; guest 0 owns the engine
record IsPair (g : Bool) (p other : PrivateDevice) (m : Machine) : Type 0 where
  pub devices : m.devices ≡ pair_of g p other
  pub owner : m.owners 1 ≡ 0

record Was (g : Bool) (p other : PrivateDevice) (c : Course Machine Done) : Type 0 where
  pub quiet : AllByRecursion AreQuiet c.came
  pub pair : IsPair g p other c.left

module _ (g : Bool) (p q other : PrivateDevice) where
  event-was : (m : Machine) (one : Event) → IsPair g p other m → Sets p one q → Was g q other (guest_course m (number_of g) (event one))
  event-was m one pair sets =
      let is : device_at m.devices (number_of g) ≡ p = ap (λ devices. device_at devices (number_of g)) pair.devices ∙ at-this g p other in
      record {
        quiet = (((λ i. (answer (is i) one).reply.failsafe) ∙ sets.quiet, tt), tt);
        pair = record {
          devices = (λ i. slice_set (pair.devices i) (number_of g) (answer (is i) one).left) ∙ set-this g p other (answer p one).left ∙ ap (λ (x : PrivateDevice). pair_of g x other) sets.left;
          owner = pair.owner;
        };
      }

  -- the last of some events
  last-was : (m : Machine) (one : Event) → IsPair g p other m → Sets p one q → Was g q other (all_of g m (one ∷ []))
  last-was m one pair sets = let first = event-was m one pair sets in record { quiet = all-append AreQuiet (guest_course m (number_of g) (event one)).came [] first.quiet tt; pair = first.pair }

  -- one of them, with others behind it
  next-was : (r : PrivateDevice) (m : Machine) (one : Event) (more : List Event) → IsPair g p other m → Sets p one q → ((n : Machine) → IsPair g q other n → Was g r other (all_of g n more)) → Was g r other (all_of g m (one ∷ more))
  next-was r m one more pair sets go =
      let course = guest_course m (number_of g) (event one) in
      let first = event-was m one pair sets in
      let rest = go course.left first.pair in
      record { quiet = all-append AreQuiet course.came (all_of g course.left more).came first.quiet rest.quiet; pair = rest.pair }

line-was : (g : Bool) (q other : PrivateDevice) (line : Line) (rest : List Line) (m : Machine) → Was g q other (line_course m line) → ((n : Machine) → IsPair g q other n → LeadsOn rest n) → LeadsOn (line ∷ rest) m
line-was g q other line rest m first go =
    let course = line_course m line in
    let behind = go course.left first.pair in
    record { quiet = all-append AreQuiet course.came (play line_course course.left rest).came first.quiet behind.quiet; devices = behind.devices }

-- ---- the lines of a guest's set-up

-- with its global entries and its registers
abbrev ready : Bool → Memory → PrivateDevice
ready g m = setting g guest_entries (guest_registers g) m

abbrev table_line : Bool → Line
table_line g = lines.Write (number_of g) places.Registers Eight (table_of g) (1 ∷ 0x1001 ∷ 0x2001 ∷ 0x3001 ∷ 0x4001 ∷ [])

abbrev register_line : Bool → Line
register_line g = lines.Write (number_of g) places.Registers Four 0x22080 ((0x3000 + 0x10000 * number_of g) ∷ [])

abbrev memory_line : Bool → Width → ℕ → ℕ → Line
memory_line g width at value = lines.Write (number_of g) places.Memory width at (value ∷ [])

abbrev pages_line : Bool → Line
pages_line g = lines.Write (number_of g) places.Memory Eight 0xB000 (0xC003 ∷ 0xD003 ∷ 0xE003 ∷ [])

-- from the tables on, and from the image on
abbrev tables_on : Bool → List Line → List Line
tables_on g rest = memory_line g Eight 0x8000 0x9003 ∷ memory_line g Eight 0x9000 0xA003 ∷ memory_line g Eight 0xA000 0xB003 ∷ pages_line g ∷ rest

abbrev image_on : Bool → List Line → List Line
image_on g rest = memory_line g Four 0x1024 (0x2000 + 0x10000 * number_of g) ∷ memory_line g Four 0x102C 1 ∷ memory_line g Four 0x10CC 0x8000 ∷ tables_on g rest

-- the memory behind the lines of the image, of the tables, and of the pages
abbrev with_image : Bool → Memory → Memory
with_image g m = memory_write (memory_write (memory_write m Four 0x1024 (0x2000 + 0x10000 * number_of g)) Four 0x102C 1) Four 0x10CC 0x8000

abbrev with_tables : Memory → Memory
with_tables m = memory_write (memory_write (memory_write m Eight 0x8000 0x9003) Eight 0x9000 0xA003) Eight 0xA000 0xB003

abbrev with_pages : Memory → Memory
with_pages m = memory_write (memory_write (memory_write m Eight 0xB000 0xC003) Eight 0xB008 0xD003) Eight 0xB010 0xE003

unfoldable full_memory : Bool → Memory
full_memory g = with_pages (with_tables (with_image g (zero_memory 32)))

full_is : (g : Bool) → with_pages (with_tables (with_image g (zero_memory 32))) ≡ full_memory g
unfolding full_memory
full_is g = refl

module _ (g : Bool) (other : PrivateDevice) where
  write_sets : (m : Memory) (width : Width) (at value : ℕ) → Sets (ready g m) (Write (whose g) places.Memory width at value) (ready g (memory_write m width at value))
  write_sets m width at value = memory-sets g guest_entries (guest_registers g) m (whose g) width at value

  -- the five global entries
  table_was : (m : Machine) (memory : Memory) → IsPair g (setting g (entries_to 0) reset_registers memory) other m → Was g (setting g guest_entries reset_registers memory) other (line_course m (table_line g))
  table_was m memory pair =
      let at = table_of g in
      let a = entry_write (whose g) at 1 in
      let b = entry_write (whose g) (at + 8) 0x1001 in
      let c = entry_write (whose g) (at + 8 + 8) 0x2001 in
      let d = entry_write (whose g) (at + 8 + 8 + 8) 0x3001 in
      let e = entry_write (whose g) (at + 8 + 8 + 8 + 8) 0x4001 in
      let has = λ (k : ℕ). setting g (entries_to k) reset_registers memory in
      next-was g (has 0) (has 1) other (has 5) m a (b ∷ c ∷ d ∷ e ∷ []) pair (entry_0 reset_registers memory (whose g) g)
      (λ m1 p1. next-was g (has 1) (has 2) other (has 5) m1 b (c ∷ d ∷ e ∷ []) p1 (entry_1 reset_registers memory (whose g) g)
      (λ m2 p2. next-was g (has 2) (has 3) other (has 5) m2 c (d ∷ e ∷ []) p2 (entry_2 reset_registers memory (whose g) g)
      (λ m3 p3. next-was g (has 3) (has 4) other (has 5) m3 d (e ∷ []) p3 (entry_3 reset_registers memory (whose g) g)
      (λ m4 p4. last-was g (has 4) (has 5) other m4 e p4 (entry_4 reset_registers memory (whose g) g)))))

  -- the three process pages
  pages_was : (m : Machine) (memory : Memory) → IsPair g (ready g memory) other m → Was g (ready g (with_pages memory)) other (line_course m (pages_line g))
  pages_was m memory pair =
      let first = memory_write memory Eight 0xB000 0xC003 in
      let second = memory_write first Eight 0xB008 0xD003 in
      let b = Write (whose g) places.Memory Eight 0xB008 0xD003 in
      let c = Write (whose g) places.Memory Eight 0xB010 0xE003 in
      let all = ready g (with_pages memory) in
      next-was g (ready g memory) (ready g first) other all m (Write (whose g) places.Memory Eight 0xB000 0xC003) (b ∷ c ∷ []) pair (write_sets memory Eight 0xB000 0xC003)
      (λ m1 p1. next-was g (ready g first) (ready g second) other all m1 b (c ∷ []) p1 (write_sets first Eight 0xB008 0xD003)
      (λ m2 p2. last-was g (ready g second) all other m2 c p2 (write_sets second Eight 0xB010 0xE003)))

  -- a line that writes one value in memory
  memory_leads : (m : Machine) (memory : Memory) (width : Width) (at value : ℕ) (rest : List Line) → IsPair g (ready g memory) other m
      → ((k : Machine) → IsPair g (ready g (memory_write memory width at value)) other k → LeadsOn rest k) → LeadsOn (memory_line g width at value ∷ rest) m
  memory_leads m memory width at value rest pair go =
      let after = ready g (memory_write memory width at value) in
      line-was g after other (memory_line g width at value) rest m
      (last-was g (ready g memory) after other m (Write (whose g) places.Memory width at value) pair (write_sets memory width at value)) go

  module _ (rest : List Line) (go : (m : Machine) → IsPair g (ready g (full_memory g)) other m → LeadsOn rest m) where
    tables_lead : (memory : Memory) (m : Machine) → with_pages (with_tables memory) ≡ full_memory g → IsPair g (ready g memory) other m → LeadsOn (tables_on g rest) m
    tables_lead memory m is pair =
        let a = memory_write memory Eight 0x8000 0x9003 in
        let b = memory_write a Eight 0x9000 0xA003 in
        let c = memory_write b Eight 0xA000 0xB003 in
        memory_leads m memory Eight 0x8000 0x9003 (memory_line g Eight 0x9000 0xA003 ∷ memory_line g Eight 0xA000 0xB003 ∷ pages_line g ∷ rest) pair
        (λ m1 p1. memory_leads m1 a Eight 0x9000 0xA003 (memory_line g Eight 0xA000 0xB003 ∷ pages_line g ∷ rest) p1
        (λ m2 p2. memory_leads m2 b Eight 0xA000 0xB003 (pages_line g ∷ rest) p2
        (λ m3 p3. line-was g (ready g (with_pages c)) other (pages_line g) rest m3 (pages_was m3 c p3)
        (λ m4 p4. go m4 (record { devices = p4.devices ∙ ap (λ (k : Memory). pair_of g (ready g k) other) is; owner = p4.owner })))))

    image_leads : (memory : Memory) (m : Machine) → with_pages (with_tables (with_image g memory)) ≡ full_memory g → IsPair g (ready g memory) other m → LeadsOn (image_on g rest) m
    image_leads memory m is pair =
        let start = 0x2000 + 0x10000 * number_of g in
        let a = memory_write memory Four 0x1024 start in
        let b = memory_write a Four 0x102C 1 in
        memory_leads m memory Four 0x1024 start (memory_line g Four 0x102C 1 ∷ memory_line g Four 0x10CC 0x8000 ∷ tables_on g rest) pair
        (λ m1 p1. memory_leads m1 a Four 0x102C 1 (memory_line g Four 0x10CC 0x8000 ∷ tables_on g rest) p1
        (λ m2 p2. memory_leads m2 b Four 0x10CC 0x8000 (tables_on g rest) p2
        (λ m3 p3. tables_lead (with_image g memory) m3 is p3)))

    set_up_leads : (memory : Memory) (m : Machine) → with_pages (with_tables (with_image g memory)) ≡ full_memory g → IsPair g (setting g (entries_to 0) reset_registers memory) other m → LeadsOn (set_up_lines (number_of g) ++ rest) m
    set_up_leads memory m is pair =
        let has = setting g guest_entries reset_registers memory in
        let one = Write (whose g) places.Registers Four 0x22080 (0x3000 + 0x10000 * number_of g) in
        line-was g has other (table_line g) (register_line g ∷ image_on g rest) m (table_was m memory pair)
        (λ m1 p1. line-was g (ready g memory) other (register_line g) (image_on g rest) m1 (last-was g has (ready g memory) other m1 one p1 (register-sets g guest_entries memory (whose g)))
        (λ m2 p2. image_leads memory m2 is p2))

-- ---- what is left

abbrev first_words : Words
first_words = record { head = false; tail = false; x = 0; y = 0; a = twelve; b = thirteen; c = fourteen }

full_holds : (g : Bool) → Holds (start_of g) (full_memory g) first_words
unfolding full_memory zero_words image_words ring_words table_words page_words
full_holds true = record { frames = refl; image = refl; ring = refl; fourth = refl; third = refl; second = refl; first = refl }
full_holds false = record { frames = refl; image = refl; ring = refl; fourth = refl; third = refl; second = refl; first = refl }

abbrev start_state : Bool → State
start_state g = record { memory = full_memory g; interrupts = reset_irq; rooted = false; others = λ engine. reset_engine; general = λ n. 0; pairs = replicate 6 (0, 0); write = 7; read = 0; stage = idle; words = first_words }

start_good : (g : Bool) → IsGood g (start_state g)
start_good g = record { holds = full_holds g; index = omega arith; ready = tt }

put_same : (b : Bool) (e : Engine) → e ≡ cond b e e
put_same true e = refl
put_same false e = refl

abbrev with_engines : Bool → (ℕ → Engine) → PrivateDevice
with_engines g engines = record (device_of g [] (start_state g)) { engines = engines }

start_is : (g : Bool) → ready g (full_memory g) ≡ device_of g [] (start_state g)
start_is g = λ i. with_engines g (λ engine. put_same (eqb engine 1) reset_engine i)

-- both guests are set up
both_stand : (m : Machine) → IsPair true (ready true (full_memory true)) (ready false (full_memory false)) m → Stands false [] Anything m
both_stand m pair = record {
  this = start_state false;
  that = start_state true;
  devices = pair.devices ∙ (λ i. start_is false i ∷ start_is true i ∷ []);
  good = start_good false;
  also = tt;
  other = start_good true;
  owner = false;
  owns = pair.owner;
}

-- no line but those of the guests has come
abbrev at_first : Bool → PrivateDevice
at_first g = setting g (entries_to 0) reset_registers (zero_memory 32)

abbrev two_guests : Machine
two_guests = (play line_course new_machine guest_lines).left

first_pair : IsPair false (at_first false) (at_first true) two_guests
first_pair = record { devices = refl; owner = refl }

-- the script's first lines, and what comes behind them
pub start-leads : (rest : List Line) → ((m : Machine) → Stands false [] Anything m → LeadsOn rest m) → LeadsOn (guest_lines ++ (set_up_lines 0 ++ (set_up_lines 1 ++ rest))) new_machine
start-leads rest go =
    set_up_leads false (at_first true) (set_up_lines 1 ++ rest)
    (λ m pair. set_up_leads true (ready false (full_memory false)) rest
    (λ k both. go k (both_stand k both))
    (zero_memory 32) m (full_is true) (record { devices = pair.devices; owner = pair.owner }))
    (zero_memory 32) two_guests (full_is false) first_pair

-- The definitions on one small device, worked out by hand: the global pages 0 to 4 map the frames 0 to 4; the context
-- is at page 0, its ring at page 2, the status page is page 3; frame 8 is a root over the frames 9 to 11, whose pages
-- 0, 1 and 2 are the frames 12, 13 and 14.
use Rattle.std.proofs.Common.{Option, Bool, true, false, ◌≡◌, ℕ, ◌*◌, ◌^◌, List, [], ◌∷◌, ◌++◌, None, Some, cond, eqb, replicate, set, refl, ap, ◌∙◌}
use Rattle.gv_types.specs.Maps.{put}
use Rattle.gv_types.specs.declared.event.Place.TheVariants as places
use Rattle.gv_types.specs.declared.event.Width.TheVariants.{Four, Eight}
use Rattle.gv_types.specs.declared.reply.Answer.TheVariants.{Moved, Kept}
use Rattle.gv_regs.specs.Table.{row_at}
use Rattle.gv_types.specs.Memory.{Memory}
use Rattle.gv_types.specs.declared.ranges.Ranges.{Ranges}
use Rattle.gv_types.specs.declared.reply.Outcome.TheVariants as outcomes
use Rattle.gv_types.specs.declared.reply.Reason.TheVariants.{Command, Range, Context, Entry}
use Rattle.gv_cmd.specs.Table.{kind_of}
use Rattle.gv_csb.specs.Slots.{reset_execlists}
use Rattle.gv_csb.specs.Status.{element_switch}
use Rattle.gv_fetch.specs.Fetch.{dwords, owns_dwords, batch_items, ring_items, owns_pages}
use Rattle.gv_fetch.specs.Items.{Items, none, command, batch}
use Rattle.gv_fetch.specs.Left.{Fetched, At, begun}
use Rattle.gv_irq.specs.Irq.{Interrupts, reset_irq}
use Rattle.gv_private.specs.Device.{Engine, PrivateDevice, Working, reset_engine, quietly, fails, failed}
use Rattle.gv_private.specs.Access.{value_read, value_written}
use Rattle.gv_entry.specs.Entry.{global_frame}
use Rattle.gv_entry.specs.Global.{entry_at, slot_of}
use Rattle.gv_entry.specs.Grants.{unless}
use Rattle.gv_entry.specs.Ranges.{owns_page}
use Rattle.gv_entry.specs.Tables.{is_guarded}
use Rattle.gv_private.specs.Grants.{page_grant, move_answer}
use Rattle.gv_private.specs.Laws.{IsUngranted}
use Rattle.gv_private.specs.Space.{bytes_written}
use Rattle.gv_private.specs.Status.{events_given}
use Rattle.gv_private.specs.Submission.{list_submitted, port_written}
use Rattle.gv_private.specs.Roots.{root_created, root_destroyed}
use Rattle.gv_private.specs.Turn.{turned, turned_as}

-- ---- the device

abbrev ranges : Ranges
ranges = record { low = record { first = 0; pages = 16 }; high = record { first = 0x10000; pages = 0 } }

abbrev entries : List ℕ
entries = 0x1 ∷ 0x1001 ∷ 0x2001 ∷ 0x3001 ∷ 0x4001 ∷ replicate 11 0

-- the words of an image
abbrev image : ℕ → ℕ → List ℕ
image head tail = 0 ∷ 0 ∷ head * 2 ^ 32 ∷ tail * 2 ^ 32 ∷ 0x200000000000 ∷ 0x100000000 ∷ replicate 19 0 ++ 0x800000000000 ∷ []

abbrev empty : List ℕ
empty = []

-- by the words of the image, of the ring, of the status page, of global page 4, and of per-process page 0; no other
-- frame has more words than are listed
abbrev memory : List ℕ → List ℕ → List ℕ → List ℕ → List ℕ → Memory
memory second ring status code page =
    empty ∷ second ∷ ring ∷ status ∷ code ∷ empty ∷ empty ∷ empty
    ∷ (0x9003 ∷ []) ∷ (0xa003 ∷ []) ∷ (0xb003 ∷ []) ∷ (0xc003 ∷ 0xd003 ∷ 0xe003 ∷ [])
    ∷ page ∷ replicate 19 empty

abbrev zeros : List ℕ
zeros = replicate 16 0

abbrev device : Memory → List ℕ → ℕ → Engine → PrivateDevice
device m roots engine e = record {
  number = 0;
  ranges = ranges;
  memory = m;
  entries = entries;
  registers = λ offset. cond (eqb offset 0x22080) 0x3000 (cond (eqb offset 0x12080) 0x3000 0);
  interrupts = reset_irq;
  roots = roots;
  failsafe = false;
  engines = put (λ n. reset_engine) engine e;
}

abbrev descriptor : ℕ
descriptor = 0x500000119

-- an engine with a list, or with one at work
abbrev listed : List ℕ → List ℕ → Engine
listed running pending = record reset_engine { slots = record reset_execlists { running = running; pending = pending } }

abbrev at_work : Items → Working
at_work items = record { root = 8; tail = 0x10; left = begun items }

abbrev busy : Working → Engine
busy w = record (listed (descriptor ∷ []) []) { element = Some w }

-- ---- loads

abbrev unlisted : PrivateDevice
unlisted = device (memory (image 0 8) (0x7b000005 ∷ []) zeros [] []) [] 1 (listed (descriptor ∷ []) [])

unlisted_in_the_ring : turned unlisted 1 ≡ turned_as outcomes.Failed (fails unlisted Command)
unfolding owns_pages dwords owns_dwords batch_items ring_items kind_of
unlisted_in_the_ring = refl

abbrev tail_of_four : PrivateDevice
tail_of_four = device (memory (image 0 4) [] zeros [] []) [] 1 (listed (descriptor ∷ []) [])

bad_context : turned tail_of_four 1 ≡ turned_as outcomes.Failed (fails tail_of_four Context)
unfolding dwords
bad_context = refl

-- mode 1; and a context whose second page isn't owned
abbrev of_mode : PrivateDevice
of_mode = device (memory (image 0 8) [] zeros [] []) [] 1 (listed (0x500000109 ∷ []) [])

other_mode : turned of_mode 1 ≡ turned_as outcomes.Failed (fails of_mode Context)
other_mode = refl

abbrev of_page : PrivateDevice
of_page = device (memory (image 0 8) [] zeros [] []) [] 1 (listed (0x50000f119 ∷ []) [])

context_not_owned : turned of_page 1 ≡ turned_as outcomes.Failed (fails of_page Range)
context_not_owned = refl

abbrev first_left : PrivateDevice → Option Working
first_left p = ((turned p 1).left.device.engines 1).element

-- a store across the ring's end
abbrev wrap : PrivateDevice
wrap = device (memory (image 0xff8 8) (0x3300000000 ∷ replicate 510 0 ++ 0x280010400002 ∷ []) zeros [] []) [] 1 (listed (descriptor ∷ []) [])

wrap_is_loaded : first_left wrap ≡ Some (record { root = 8; tail = 8; left = begun (command (0x10400002 ∷ 0x2800 ∷ 0 ∷ 0x33 ∷ []) none) })
unfolding owns_pages dwords owns_dwords batch_items ring_items kind_of
wrap_is_loaded = refl

its_root_is_announced : (turned wrap 1).left.device.roots ≡ 8 ∷ []
unfolding owns_pages dwords owns_dwords batch_items ring_items kind_of
its_root_is_announced = refl

-- an empty ring
abbrev nothing_in_it : PrivateDevice
nothing_in_it = device (memory (image 8 8) [] zeros [] []) (8 ∷ []) 1 (listed (descriptor ∷ []) [])

empty_ring : first_left nothing_in_it ≡ Some (record { root = 8; tail = 8; left = begun none })
unfolding owns_pages dwords owns_dwords batch_items ring_items kind_of
empty_ring = refl

-- ---- a fetched batch

abbrev start : List ℕ
start = 0x18800001 ∷ 0 ∷ 0 ∷ []

abbrev batch_items_of : Items
batch_items_of = command (0x10400002 ∷ 0x2800 ∷ 0 ∷ 0x11 ∷ []) (command (0x5000000 ∷ []) none)

abbrev rest : Items
rest = command (0 ∷ []) none

abbrev with_batch : PrivateDevice
with_batch = device (memory (image 0 0x10) (0x400018800001 ∷ 0 ∷ []) zeros (0x280010400002 ∷ 0x1100000000 ∷ 0x5000000 ∷ []) []) [] 1 (listed (descriptor ∷ []) [])

batch_is_loaded : first_left with_batch ≡ Some (at_work (batch start batch_items_of rest))
unfolding owns_pages dwords owns_dwords batch_items ring_items kind_of
batch_is_loaded = refl

-- it is entered, and what is written to it later changes nothing of it
abbrev changed : PrivateDevice
changed = device (memory (image 0 0x10) (0x400018800001 ∷ 0 ∷ []) zeros (0x280010400002 ∷ 0x2200000000 ∷ 0x5000000 ∷ []) []) (8 ∷ []) 1 (busy (at_work (batch start batch_items_of rest)))

changed_after_load : first_left changed ≡ Some (record (at_work rest) { left = record { ring = rest; first = Some (Fetched batch_items_of); second = None } })
unfolding kind_of
changed_after_load = refl

its_shape : (turned changed 1).ran ≡ record { engine = 1; guest = 0; shape = start } ∷ []
unfolding kind_of
its_shape = refl

-- the store in it goes to the global page 2
abbrev in_batch : PrivateDevice
in_batch = device (memory (image 0 0x10) (replicate 257 0) zeros [] []) (8 ∷ []) 1 (busy (record (at_work rest) { left = record { ring = rest; first = Some (Fetched batch_items_of); second = None } }))

store_runs : (turned in_batch 1).left.device.memory ≡ memory (image 0 0x10) (replicate 256 0 ++ 0x11 ∷ []) zeros [] []
unfolding kind_of
store_runs = refl

-- ---- an element that has ended

abbrev ended : PrivateDevice
ended = device (memory (image 0xff8 8) [] zeros [] []) (8 ∷ []) 1 (record (listed (descriptor ∷ []) (0x700000119 ∷ [])) { element = Some (record (at_work none) { tail = 8 }) })

ends : (turned ended 1).outcome ≡ outcomes.Ended
ends = refl

-- The tail is in the image, and the events 0x18 with number 5 and 0x1 are in the pairs 0 and 1 of the status page.
tail_and_events : (turned ended 1).left.device.memory ≡ memory (image 8 8) [] (replicate 8 0 ++ 0x500000018 ∷ 0x1 ∷ replicate 5 0 ++ 0x100000000 ∷ []) [] []
tail_and_events = refl

next_list_runs : ((turned ended 1).left.device.engines 1).slots ≡ record { running = 0x700000119 ∷ []; pending = []; pairs = (0x18, 5) ∷ (0x1, 0) ∷ replicate 4 (0, 0); write = 1; read = 0 }
next_list_runs = refl

nothing_at_work : first_left ended ≡ None
nothing_at_work = refl

-- ---- submission

abbrev idle : PrivateDevice
idle = device (memory (image 0 0) [] zeros [] []) [] 1 reset_engine

a_list_starts : ((list_submitted idle 1 descriptor 0).device.engines 1).slots ≡ record { running = descriptor ∷ []; pending = []; pairs = (0x1, 0) ∷ replicate 5 (0, 0); write = 0; read = 0 }
a_list_starts = refl

abbrev started : PrivateDevice
started = device (memory (image 0 0) [] zeros [] []) [] 1 (listed (descriptor ∷ []) [])

a_second_one_waits : ((list_submitted started 1 0x700000119 0).device.engines 1).slots ≡ record reset_execlists { running = descriptor ∷ []; pending = 0x700000119 ∷ [] }
a_second_one_waits = refl

abbrev full : PrivateDevice
full = device (memory (image 0 0) [] zeros [] []) [] 1 (listed (descriptor ∷ []) (0x700000119 ∷ []))

both_slots_full : ((list_submitted full 1 0x900000119 0).device.engines 1).slots ≡ (full.engines 1).slots
both_slots_full = refl

-- element 1 high and low, then element 0 high; the fourth write submits
abbrev half_made : PrivateDevice
half_made = device (memory (image 0 0) [] zeros [] []) [] 1 (record reset_engine { writes = 7 ∷ 0x119 ∷ 5 ∷ [] })

the_fourth_submits : ((port_written half_made 1 0x119).device.engines 1).slots.running ≡ descriptor ∷ 0x700000119 ∷ []
the_fourth_submits = refl

-- the pointer goes from 5 to 0
abbrev last_pair : PrivateDevice
last_pair = device (memory (image 0 0) [] zeros [] []) [] 1 (record reset_engine { slots = record reset_execlists { write = 5 } })

status_ring_wraps : ((events_given last_pair 1 (element_switch 9 ∷ [])).device.engines 1).slots.pairs ≡ (0x14, 9) ∷ replicate 5 (0, 0)
status_ring_wraps = refl

-- ---- guards

-- a store to per-process page 0: 10000002 0 0 77
abbrev stores : List ℕ → PrivateDevice
stores roots = device (memory (image 0 0x10) [] zeros [] (0 ∷ [])) roots 1 (busy (at_work (command (0x10000002 ∷ 0 ∷ 0 ∷ 0x77 ∷ []) none)))

a_page_is_written : (turned (stores (8 ∷ [])) 1).left.device.memory ≡ memory (image 0 0x10) [] zeros [] (0x77 ∷ [])
unfolding kind_of
a_page_is_written = refl

a_table_is_not : (turned (stores (8 ∷ 12 ∷ [])) 1).left.device.memory ≡ (stores []).memory
unfolding kind_of
a_table_is_not = refl

a_root_comes_in_order : (root_created (stores (12 ∷ [])) 8).device.roots ≡ 8 ∷ 12 ∷ []
a_root_comes_in_order = refl

one_that_is_at_work_stays : (root_destroyed (stores (8 ∷ 12 ∷ [])) 8).roots ≡ 8 ∷ 12 ∷ []
one_that_is_at_work_stays = refl

another_goes : (root_destroyed (stores (8 ∷ 12 ∷ [])) 12).roots ≡ 8 ∷ []
another_goes = refl

past_memory : root_created (stores []) 32 ≡ fails (stores []) Entry
past_memory = refl

-- ---- a wait

-- until the dword at global 0x2800 is 1: the page is there, its word is 0
abbrev waiting : PrivateDevice
waiting = device (memory (image 0 0x10) [] zeros [] []) (8 ∷ []) 1 (busy (at_work (command (0xe40c002 ∷ 1 ∷ 0x2800 ∷ 0 ∷ []) none)))

a_wait_changes_nothing : turned waiting 1 ≡ turned_as outcomes.Waited (quietly waiting)
unfolding kind_of
a_wait_changes_nothing = refl

-- ---- interrupts of the third engine

abbrev told : Interrupts
told = record reset_irq { master = true; one = record { imr = 0; iir = 0; ier = 0xFFFFFFFF } }

abbrev third : PrivateDevice
third = record (device (memory (image 0 8) (0x1000000 ∷ []) zeros [] []) [] 2 reset_engine) { interrupts = told }

its_submission_interrupts : (list_submitted third 2 descriptor 0).irq ≡ Some 0x100
its_submission_interrupts = refl

abbrev third_at_work : PrivateDevice
third_at_work =
    record (device (memory (image 0 8) [] zeros [] []) (8 ∷ []) 2 (busy (at_work (command (0x1000000 ∷ []) none)))) { interrupts = record told { one = record { imr = 0; iir = 0x100; ier = 0xFFFFFFFF } } }

its_user_interrupt : (turned third_at_work 2).left.irq ≡ Some 0x101
unfolding kind_of
its_user_interrupt = refl

-- ---- first turns of other engines and rings

-- a ring that waits: e40c002 1 2800 0
abbrev semaphore : PrivateDevice
semaphore = device (memory (image 0 0x10) (0x10e40c002 ∷ 0x2800 ∷ []) zeros [] []) [] 1 (listed (descriptor ∷ []) [])

a_wait_is_loaded : first_left semaphore ≡ Some (at_work (command (0xe40c002 ∷ 1 ∷ 0x2800 ∷ 0 ∷ []) none))
unfolding owns_pages dwords owns_dwords batch_items ring_items kind_of
a_wait_is_loaded = refl

abbrev third_listed : PrivateDevice
third_listed = device (memory (image 0 8) (0x1000000 ∷ []) zeros [] []) [] 2 (listed (descriptor ∷ []) [])

third_is_loaded : ((turned third_listed 2).left.device.engines 2).element ≡ Some (record { root = 8; tail = 8; left = begun (command (0x1000000 ∷ []) (command (0 ∷ []) none)) })
unfolding owns_pages dwords owns_dwords batch_items ring_items kind_of
third_is_loaded = refl

-- two roots are there; the ring goes to its tail and not further
abbrev guarding : PrivateDevice
guarding = device (memory (image 0 0x10) (0x10000002 ∷ 0x7700000000 ∷ 0x10000002 ∷ 0x8800000000 ∷ []) zeros [] (0 ∷ [])) (8 ∷ 12 ∷ []) 1 (listed (descriptor ∷ []) [])

one_store_is_loaded : first_left guarding ≡ Some (at_work (command (0x10000002 ∷ 0 ∷ 0 ∷ 0x77 ∷ []) none))
unfolding owns_pages dwords owns_dwords batch_items ring_items kind_of
one_store_is_loaded = refl

-- a context whose root isn't in memory, and one by whose root a live table has a bad entry
abbrev root_at : ℕ → List ℕ → PrivateDevice
root_at root entry = device (empty ∷ (0 ∷ 0 ∷ 0 ∷ 0x800000000 ∷ 0x200000000000 ∷ 0x100000000 ∷ replicate 19 0 ++ root * 2 ^ 44 ∷ []) ∷ entry ∷ []) [] 1 (listed (descriptor ∷ []) [])

no_root : turned (root_at 3 []) 1 ≡ turned_as outcomes.Failed (fails (root_at 3 []) Entry)
unfolding dwords
no_root = refl

bad_root : turned (root_at 2 (0x3001 ∷ [])) 1 ≡ turned_as outcomes.Failed (fails (root_at 2 (0x3001 ∷ [])) Entry)
unfolding dwords
bad_root = refl

-- ---- live batches

-- per-process address 0 is frame 12
abbrev live : List ℕ → PrivateDevice
live page = device (memory (image 0 0x10) [] zeros [] page) (8 ∷ []) 1 (busy (record (at_work rest) { left = record { ring = rest; first = Some (At 0); second = None } }))

unlisted_in_a_live_batch : turned (live (0x7b000005 ∷ [])) 1 ≡ turned_as outcomes.Failed (fails (live (0x7b000005 ∷ [])) Command)
unfolding dwords kind_of
unlisted_in_a_live_batch = refl

-- a global store to page 4 is skipped, and the batch goes on behind it
skipped : first_left (live (0x400010400002 ∷ 0x1100000000 ∷ [])) ≡ Some (record (at_work rest) { left = record { ring = rest; first = Some (At 0x10); second = None } })
unfolding dwords kind_of
skipped = refl

nothing_is_stored : (turned (live (0x400010400002 ∷ 0x1100000000 ∷ [])) 1).left.device.memory ≡ (live (0x400010400002 ∷ 0x1100000000 ∷ [])).memory
unfolding dwords kind_of
nothing_is_stored = refl

-- ---- a row of three bytes from the per-process address 1

abbrev fills : PrivateDevice
fills = device (memory (image 0 0x10) [] zeros [] (0x1111111111111111 ∷ [])) (8 ∷ []) 1 (busy (at_work (command (0x54000005 ∷ 0xF00000 ∷ 0 ∷ 0x10003 ∷ 1 ∷ 0 ∷ 0xAB ∷ []) none)))

a_row_is_filled : (turned fills 1).left.device.memory ≡ memory (image 0 0x10) [] zeros [] (0x11111111ABABAB11 ∷ [])
unfolding kind_of bytes_written
a_row_is_filled = refl

-- three bytes from address 0 to address 1, over themselves: the row is read whole first
abbrev copies : PrivateDevice
copies = device (memory (image 0 0x10) [] zeros [] (0x44332211 ∷ [])) (8 ∷ []) 1 (busy (at_work (command (0x54C00008 ∷ 0xCC0000 ∷ 0 ∷ 0x10003 ∷ 1 ∷ 0 ∷ 0 ∷ 0 ∷ 0 ∷ 0 ∷ []) none)))

a_row_over_itself : (turned copies 1).left.device.memory ≡ memory (image 0 0x10) [] zeros [] (0x33221111 ∷ [])
unfolding kind_of bytes_written
a_row_over_itself = refl

-- ---- registers, by their offsets

abbrev plain : PrivateDevice
plain = device (memory (image 0 8) [] zeros [] []) (8 ∷ []) 1 (busy (at_work none))

identity : value_read plain places.Registers Four 0x78000 ≡ 0x76544776
unfolding row_at
identity = refl

nothing_in_failsafe : value_read (failed plain) places.Registers Four 0x78000 ≡ 0
nothing_in_failsafe = refl

memory_in_failsafe : value_read (failed plain) places.Memory Eight 0x1020 ≡ 0x200000000000
memory_in_failsafe = refl

-- ELSP takes the low dword of eight bytes: the dword behind it is absent
one_write : ((value_written plain places.Registers Eight 0x22230 0x900000007).device.engines 1).writes ≡ 7 ∷ []
unfolding row_at
one_write = refl

general_registers : value_read (value_written plain places.Registers Eight 0x22608 0x500000006).device places.Registers Eight 0x22608 ≡ 0x500000006
unfolding row_at
general_registers = refl

abbrev ended_after : PrivateDevice
ended_after = (turned ended 1).left.device

status_pairs : value_read ended_after places.Registers Eight 0x22370 ≡ 0x500000018
unfolding row_at
status_pairs = refl

the_pointer : value_read ended_after places.Registers Four 0x223a0 ≡ 1
unfolding row_at
the_pointer = refl

-- bit 3 resets BCS, and bit 1 doesn't; roots stay
a_reset_ends_it : ((value_written plain places.Registers Four 0x941c 8).device.engines 1).element ≡ None
unfolding row_at
a_reset_ends_it = refl

roots_remain : (value_written plain places.Registers Four 0x941c 8).device.roots ≡ 8 ∷ []
unfolding row_at
roots_remain = refl

another_reset_does_not : ((value_written plain places.Registers Four 0x941c 2).device.engines 1).element ≡ Some (at_work none)
unfolding row_at
another_reset_does_not = refl

-- 4 creates the root that PDP0 names, here frame 12
abbrev names_twelve : PrivateDevice
names_twelve = record plain { registers = λ offset. cond (eqb offset 0x78838) 0xc000 0 }

notify_creates : (value_written names_twelve places.Registers Four 0x78818 4).device.roots ≡ 8 ∷ 12 ∷ []
unfolding row_at
notify_creates = refl

notify_does_not : (value_written names_twelve places.Registers Four 0x78818 6).device.roots ≡ 8 ∷ []
unfolding row_at
notify_does_not = refl

-- ---- the global table and the aperture

half_an_entry : (value_written plain places.Registers Four 0x80002c 7).device.entries ≡ 0x1 ∷ 0x1001 ∷ 0x2001 ∷ 0x3001 ∷ 0x4001 ∷ 0x700000000 ∷ replicate 10 0
half_an_entry = refl

through_the_aperture : value_read plain places.Aperture Eight 0x1020 ≡ 0x200000000000
through_the_aperture = refl

-- an entry that names the root grants nothing
abbrev names_a_table : PrivateDevice
names_a_table = record plain { entries = 0x8001 ∷ replicate 15 0 }

a_table_is_hidden : value_read names_a_table places.Aperture Eight 0 ≡ 0
a_table_is_hidden = refl

and_not_written : (value_written names_a_table places.Aperture Eight 0 7).device.memory ≡ plain.memory
and_not_written = refl

-- ---- writes to tables

-- An entry of the table at level 1 names a frame past memory. What was written stays.
abbrev memory_with : ℕ → Memory
memory_with entry = set plain.memory 11 (entry ∷ 0xd003 ∷ 0xe003 ∷ [])

a_bad_entry_fails : value_written plain places.Memory Eight 0xb000 0xfffff003 ≡ fails (record plain { memory = memory_with 0xfffff003 }) Entry
a_bad_entry_fails = refl

without_roots_it_does_not : (value_written (record plain { roots = [] }) places.Memory Eight 0xb000 0xfffff003).reason ≡ None
without_roots_it_does_not = refl

-- ---- moves

mapped_is_kept : move_answer plain 13 ≡ Kept
mapped_is_kept = refl

granted_is_kept : move_answer plain 2 ≡ Kept
granted_is_kept = refl

a_table_moves : move_answer plain 8 ≡ Moved
a_table_moves = refl

a_named_table_moves : move_answer names_a_table 8 ≡ Moved
a_named_table_moves = refl

all_move_in_failsafe : move_answer (failed plain) 2 ≡ Moved
all_move_in_failsafe = refl

-- ---- a frame that no grant gives: frame 1, where no page is owned and the root has no entries

abbrev two_frames : PrivateDevice
two_frames = record (device (empty ∷ zeros ∷ []) (0 ∷ []) 1 (busy (record (at_work none) { root = 0 }))) {
  ranges = record { low = record { first = 0; pages = 0 }; high = record { first = 0x10000; pages = 0 } };
  entries = [];
}

no_entry : (place : Option ℕ) → entry_at [] place ≡ 0
no_entry None = refl
no_entry (Some place) = refl

abbrev no_frame : Option ℕ
no_frame = None

no_page : (b : Bool) → cond b no_frame no_frame ≡ no_frame
no_page true = refl
no_page false = refl

no_grant : (page : ℕ) → page_grant two_frames page ≡ None
no_grant page =
    ap (λ entry. cond (owns_page two_frames.ranges page) (unless (is_guarded two_frames.memory two_frames.roots) (global_frame entry 2)) None) (no_entry (slot_of two_frames.ranges page))
    ∙ no_page (owns_page two_frames.ranges page)

nobody_reaches_it : IsUngranted two_frames (record (at_work none) { root = 0 }) 1
nobody_reaches_it = record {
  table = refl;
  global = λ page is. let none_there = no_grant page in cc;
  process = λ at is. cc;
}

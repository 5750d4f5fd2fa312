-- The definitions on one small device, worked out by hand. Page 1 is the second page of a context's
-- image, page 2 the ring, pages 3 to 6 are a root and the tables below it, page 7 is a frame, page 8 a
-- live batch, and page 9 is another guest's.
use Rattle.std.proofs.Common.{◌≡◌, ℕ, ◌∷◌, [], List, true, false, None, Some, refl, eqb, cond, Option}
use Rattle.std.specs.Prelude.{slice_index, slice_index_or}
use Rattle.gv_types.specs.declared.ids.Label.{Label}
use Rattle.gv_gpu.specs.Device.{Device, Loaded, empty_device}
use Rattle.gv_gpu.specs.Physical.{third_table, second_table, first_table, leaf, read_page, write_page, byte_at, byte_stored, operand_at, dword_at, operand_stored, walk_strays, read_strays, dword_strays, write_strays, is_own_image}
use Rattle.gv_gpu.specs.Context.{context_of, fields_stored, context_submitted, stopped}
use Rattle.gv_gpu.specs.Step.{Stepped, dwords_from, dwords_stray, head_read, front_step, physical_step}
use Rattle.gv_gpu.specs.declared.step.Step.TheVariants.{Ran}
use Rattle.gv_cmd.specs.Table.{kind_of}

abbrev none : List ℕ
none = []

-- the dwords 0x05, 0x07, 0x09, 0x31 and 0x33 are 8, 0x40, 0x12000, 0 and 0x3000
abbrev image : List ℕ
image = 0 ∷ 0 ∷ 0x800000000 ∷ 0x4000000000 ∷ 0x1200000000000 ∷ 0 ∷ 0 ∷ 0 ∷ 0 ∷ 0 ∷ 0 ∷ 0 ∷ 0 ∷ 0 ∷ 0 ∷ 0 ∷ 0 ∷ 0 ∷ 0 ∷ 0 ∷ 0 ∷ 0 ∷ 0 ∷ 0 ∷ 0 ∷ 0x300000000000 ∷ []

-- a store of 5 at the per-process address 4
abbrev ring : List ℕ
ring = 0 ∷ 0x410000002 ∷ 0x500000000 ∷ []

abbrev pages : List (List ℕ)
pages = none ∷ image ∷ ring ∷ (0x4001 ∷ []) ∷ (0x5001 ∷ []) ∷ (0x6003 ∷ []) ∷ (0x7003 ∷ 0x8001 ∷ 0x9003 ∷ 0xa003 ∷ []) ∷ (0x8877665544332211 ∷ 0xff00 ∷ []) ∷ none ∷ (5 ∷ []) ∷ []

abbrev own : Label
own = record { guest = record { 0 = 0 }; shadow = false }

abbrev shadow : Label
shadow = record { guest = record { 0 = 0 }; shadow = true }

abbrev other : Label
other = record { guest = record { 0 = 1 }; shadow = false }

abbrev labels : List (Option Label)
labels = None ∷ Some shadow ∷ Some shadow ∷ Some shadow ∷ Some shadow ∷ Some shadow ∷ Some shadow ∷ Some own ∷ Some own ∷ Some other ∷ []

abbrev device : Device
device = record (empty_device 4) {
  label = λ n. slice_index_or labels n None;
  words = λ n. slice_index_or pages n [];
  global = λ i. cond (eqb i 0x11) 0x1003 (cond (eqb i 0x12) 0x2001 (cond (eqb i 0x13) 0x9003 0));
}

abbrev context : Loaded
context = context_of device 0 0x10119

-- ---- walks

mapped : read_page device 3 false 0x4 ≡ Some 7
unfolding third_table second_table first_table leaf read_page
mapped = refl

higher_bits_are_ignored : read_page device 3 false 0xffff000000000004 ≡ Some 7
unfolding third_table second_table first_table leaf read_page
higher_bits_are_ignored = refl

read_only : write_page device 3 false 0x1000 ≡ None
unfolding third_table second_table first_table leaf write_page
read_only = refl

not_live : read_page device 3 false 0x3000 ≡ None
unfolding third_table second_table first_table leaf read_page
not_live = refl

dead_root : read_page device 10 false 0x0 ≡ None
unfolding third_table second_table first_table leaf read_page
dead_root = refl

global_page : read_page device 3 true 0x12ffc ≡ Some 2
unfolding read_page
global_page = refl

past_the_table : read_page device 3 true 0x100012000 ≡ None
unfolding read_page
past_the_table = refl

-- ---- dwords and bytes

low_half : dword_at device 3 false 0x0 ≡ 0x44332211
unfolding third_table second_table first_table leaf read_page operand_at dword_at
low_half = refl

high_half : dword_at device 3 false 0x4 ≡ 0x88776655
unfolding third_table second_table first_table leaf read_page operand_at dword_at
high_half = refl

byte_by_byte : dword_at device 3 false 0x6 ≡ 0xff008877
unfolding third_table second_table first_table leaf read_page byte_at operand_at dword_at
byte_by_byte = refl

stored : (operand_stored device 3 false 0x4 1).words 7 ≡ 0x144332211 ∷ 0xff00 ∷ []
unfolding third_table second_table first_table leaf write_page operand_stored
stored = refl

byte_in_a_word : (byte_stored device 3 false 0x1 0xab).words 7 ≡ 0x887766554433ab11 ∷ 0xff00 ∷ []
unfolding third_table second_table first_table leaf write_page byte_stored
byte_in_a_word = refl

-- ---- contexts

place : context.place ≡ record { ring = 8; first = None; second = None }
unfolding read_page operand_at dword_at context_of
place = refl

tail : context.tail ≡ 0x40
unfolding read_page operand_at dword_at context_of
tail = refl

ring_start : context.ring_start ≡ 0x12000
unfolding read_page operand_at dword_at context_of
ring_start = refl

root : context.root ≡ 3
unfolding read_page operand_at dword_at context_of
root = refl

-- ---- strays

own_page : read_strays device (record context { root = 3 }) false 0x0 ≡ false
unfolding third_table second_table first_table leaf read_page operand_at dword_at context_of walk_strays read_strays
own_page = refl

anothers_page : read_strays device (record context { root = 3 }) false 0x2000 ≡ true
unfolding third_table second_table first_table leaf read_page operand_at dword_at context_of walk_strays read_strays
anothers_page = refl

image_is_own : write_strays device context true 0x11014 ≡ false
unfolding read_page write_page operand_at dword_at context_of walk_strays write_strays is_own_image
image_is_own = refl

globally_anothers : write_strays device context true 0x13000 ≡ true
unfolding read_page write_page operand_at dword_at context_of walk_strays write_strays is_own_image
globally_anothers = refl

-- ---- a step

abbrev after : Stepped
after = physical_step (context_submitted device 1 0 0x10119) 1

runs : after.answer ≡ Ran (0x10000002 ∷ 4 ∷ 0 ∷ 5 ∷ []) 0
unfolding third_table second_table first_table leaf read_page write_page operand_at dword_at operand_stored context_of context_submitted walk_strays read_strays dword_strays write_strays is_own_image dwords_from dwords_stray head_read front_step physical_step kind_of
runs = refl

writes : after.after.words 7 ≡ 0x544332211 ∷ 0xff00 ∷ []
unfolding third_table second_table first_table leaf read_page write_page operand_at dword_at operand_stored context_of context_submitted walk_strays read_strays dword_strays write_strays is_own_image dwords_from dwords_stray head_read front_step physical_step kind_of
writes = refl

no_stray : after.after.strays ≡ 0
unfolding third_table second_table first_table leaf read_page write_page operand_at dword_at operand_stored context_of context_submitted walk_strays read_strays dword_strays write_strays is_own_image dwords_from dwords_stray head_read front_step physical_step kind_of
no_stray = refl

-- The place behind the command is saved: the dword 0x05 is 8 + 16.
saves : slice_index ((stopped after.after 1).words 1) 2 ≡ 0x1800000000
unfolding third_table second_table first_table leaf read_page write_page operand_at dword_at operand_stored context_of context_submitted walk_strays read_strays dword_strays write_strays is_own_image dwords_from dwords_stray head_read front_step physical_step kind_of fields_stored stopped
saves = refl

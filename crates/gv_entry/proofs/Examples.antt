-- The definitions on one small memory, worked out by hand: frame 8 is the root of a tree over the frames
-- 9, 10 and 11, whose pages are the frames 12, 13 and 14.
use Rattle.std.proofs.Common.{◌≡◌, ℕ, ◌∷◌, [], List, true, false, None, Some, refl, ◌++◌, replicate}
use Rattle.gv_types.specs.Memory.{Memory}
use Rattle.gv_types.specs.declared.ranges.Ranges.{Ranges}
use Rattle.gv_entry.specs.declared.process.Process.TheVariants.{Large, Bad}
use Rattle.gv_entry.specs.Entry.{process_entry}
use Rattle.gv_entry.specs.Tables.{walk, live, names_large, has_bad_entry, is_guarded}
use Rattle.gv_entry.specs.Grants.{global_grant, read_grant, write_grant, is_mapped}

abbrev none : List ℕ
none = []

-- sixteen frames, of which only the front words are listed
abbrev memory_of : List ℕ → List ℕ → Memory
memory_of third second = none ∷ none ∷ none ∷ none ∷ none ∷ none ∷ none ∷ none ∷ (0x9003 ∷ []) ∷ third ∷ second ∷ (0xc003 ∷ 0xd001 ∷ 0xb003 ∷ []) ∷ none ∷ none ∷ none ∷ none ∷ []

abbrev memory : List ℕ → Memory
memory third = memory_of third (0xb003 ∷ [])

abbrev good : Memory
good = memory (0xa003 ∷ [])

abbrev roots : List ℕ
roots = 8 ∷ []

a_page_is_mapped : walk good 8 0x1004 ≡ Some (record { frame = 13; writable = false })
a_page_is_mapped = refl

higher_bits_are_ignored : walk good 8 0xffff000000000004 ≡ Some (record { frame = 12; writable = true })
higher_bits_are_ignored = refl

past_the_entries : walk good 8 0x3000 ≡ None
past_the_entries = refl

one_table_a_level : live good roots 1 ≡ 11 ∷ []
one_table_a_level = refl

tables_are_guarded : is_guarded good roots 11 ≡ true
tables_are_guarded = refl

pages_are_not : is_guarded good roots 12 ≡ false
pages_are_not = refl

nothing_bad : has_bad_entry good roots ≡ false
nothing_bad = refl

bits_seven_and_eleven_are_bad : has_bad_entry (memory_of (0xa003 ∷ []) (0xb883 ∷ [])) roots ≡ true
bits_seven_and_eleven_are_bad = refl

a_large_page_past_memory_is_bad : has_bad_entry (memory_of (0xa003 ∷ []) (0x83 ∷ [])) roots ≡ true
a_large_page_past_memory_is_bad = refl

bit_seven_at_level_three_is_bad : has_bad_entry (memory (0xa083 ∷ [])) roots ≡ true
bit_seven_at_level_three_is_bad = refl

-- 512 frames, whose second entry of level 2 is frame 11's table and whose first maps all of them
abbrev large : Memory
large = memory_of (0xa003 ∷ []) (0x1ff083 ∷ 0xb003 ∷ []) ++ replicate 496 none

abbrev read_only_large : Memory
read_only_large = memory_of (0xa003 ∷ []) (0x81 ∷ []) ++ replicate 496 none

a_large_page_is_mapped : walk large 8 0x1ff004 ≡ Some (record { frame = 511; writable = true })
a_large_page_is_mapped = refl

a_large_page_that_is_read_only : walk read_only_large 8 0xc004 ≡ Some (record { frame = 12; writable = false })
a_large_page_that_is_read_only = refl

nothing_written_through_it : write_grant read_only_large roots 8 0xc004 ≡ None
nothing_written_through_it = refl

its_frame_is_written_through_a_writable_one : write_grant large roots 8 0xc004 ≡ Some 12
its_frame_is_written_through_a_writable_one = refl

a_split_key_by_its_first_frame : names_large 0 true (process_entry 0x1ff083 2 512) ≡ true
a_split_key_by_its_first_frame = refl

and_by_its_writable_bit : names_large 0 false (process_entry 0x1ff083 2 512) ≡ false
and_by_its_writable_bit = refl

the_next_split_key : process_entry 0x3ff081 2 1024 ≡ Large 512 false
the_next_split_key = refl

with_one_frame_less : process_entry 0x3ff081 2 1023 ≡ Bad
with_one_frame_less = refl

beside_a_table : walk large 8 0x201000 ≡ Some (record { frame = 13; writable = false })
beside_a_table = refl

a_large_page_is_good : has_bad_entry large roots ≡ false
a_large_page_is_good = refl

all_is_mapped : is_mapped large roots 511 ≡ true
all_is_mapped = refl

a_page_is_mapped_too : is_mapped good roots 13 ≡ true
a_page_is_mapped_too = refl

a_table_alone_is_not : is_mapped good roots 10 ≡ false
a_table_alone_is_not = refl

-- A large page maps tables for reading alone.
tables_in_a_large_page : write_grant large roots 8 0xb000 ≡ None
tables_in_a_large_page = refl

-- Read-only pages and guarded frames aren't granted for writing.
written : write_grant good roots 8 0x0 ≡ Some 12
written = refl

read_only : write_grant good roots 8 0x1000 ≡ None
read_only = refl

guarded : write_grant good roots 8 0x2000 ≡ None
guarded = refl

guarded_is_read : read_grant good 8 0x2000 ≡ Some 11
guarded_is_read = refl

abbrev ranges : Ranges
ranges = record { low = record { first = 4; pages = 2 }; high = record { first = 0x10000; pages = 1 } }

abbrev entries : ℕ → ℕ
entries page = 0xb001

granted : global_grant ranges 16 (λ frame. false) entries 5 ≡ Some 11
granted = refl

not_owned : global_grant ranges 16 (λ frame. false) entries 6 ≡ None
not_owned = refl

guarded_globally : global_grant ranges 16 (is_guarded good roots) entries 5 ≡ None
guarded_globally = refl

-- The memory that an engine reaches, through the physical entries of the global table or through the
-- four levels of a root's physical tables; and which accesses stray.
use Rattle.std.specs.Prelude.{ℕ, ◌+◌, ◌*◌, ◌/◌, ◌%◌, ◌^◌, ◌==◌, ◌&&◌, ◌||◌, not, nat_lt, Bool, true, false, ◌∷◌, [], slice_index, if◌then◌else◌, Option, None, Some, is_some}
use Rattle.std.specs.Int.{from_le_bytes, w32}
use Rattle.gv_types.specs.Bits.{byte_of, has_bit, has_lowest_bit, with_byte}
use Rattle.gv_types.specs.declared.ids.Label.{Label}
use Rattle.gv_types.specs.Memory.{half_of, with_half}
use Rattle.gv_ctx.specs.Descriptor.{descriptor_of}
use Rattle.gv_gpu.specs.Device.{Device, Loaded, with_page_word}

-- ---- entries

-- a page by its number, where it is live
abbrev pub live_page : Device → ℕ → Option ℕ
live_page d page = if is_some (d.label page) then Some page else None

-- The page that an entry names: bit 0 is set, and bits 63..12 are the number of a live page.
abbrev pub page_of : Device → ℕ → Option ℕ
page_of d entry = if has_lowest_bit entry then live_page d (entry / 4096) else None

-- an entry of a table; where there is no table, an absent entry
abbrev pub entry_in : Device → Option ℕ → ℕ → ℕ
entry_in d None index = 0
entry_in d (Some page) index = slice_index (d.words page) index

-- The walk of a per-process address. The root is the table of level 4; its entries, and those below,
-- go by bits 47..39, 38..30, 29..21 and 20..12 of the address. A root that isn't live maps nothing.
unfoldable pub third_table : Device → ℕ → ℕ → Option ℕ
third_table d root at = page_of d (entry_in d (live_page d root) (at / 2 ^ 39 % 512))

unfoldable pub second_table : Device → ℕ → ℕ → Option ℕ
second_table d root at = page_of d (entry_in d (third_table d root at) (at / 2 ^ 30 % 512))

unfoldable pub first_table : Device → ℕ → ℕ → Option ℕ
first_table d root at = page_of d (entry_in d (second_table d root at) (at / 2 ^ 21 % 512))

unfoldable pub leaf : Device → ℕ → ℕ → ℕ
leaf d root at = entry_in d (first_table d root at) (at / 2 ^ 12 % 512)

-- The entry that an address goes through at last. A global address from 2^32 on has none.
abbrev pub physical_entry : Device → ℕ → Bool → ℕ → ℕ
physical_entry d root true at = if nat_lt at (2 ^ 32) then d.global (at / 4096) else 0
physical_entry d root false at = leaf d root at

-- the page that an address reads, if any, and the page that it writes, which bit 1 of the entry allows
unfoldable pub read_page : Device → ℕ → Bool → ℕ → Option ℕ
read_page d root global at = page_of d (physical_entry d root global at)

unfoldable pub write_page : Device → ℕ → Bool → ℕ → Option ℕ
write_page d root global at = if has_bit (physical_entry d root global at) 1 then page_of d (physical_entry d root global at) else None

-- ---- reading and writing

-- the word of a page that an address lies in; an absent page reads 0, and isn't written
abbrev pub word_in : Device → Option ℕ → ℕ → ℕ
word_in d None at = 0
word_in d (Some page) at = slice_index (d.words page) (at % 4096 / 8)

abbrev pub word_stored : Device → Option ℕ → ℕ → ℕ → Device
word_stored d None at word = d
word_stored d (Some page) at word = with_page_word d page (at % 4096 / 8) word

unfoldable pub byte_at : Device → ℕ → Bool → ℕ → ℕ
byte_at d root global at = byte_of (word_in d (read_page d root global at) at) at

unfoldable pub byte_stored : Device → ℕ → Bool → ℕ → ℕ → Device
byte_stored d root global at value =
    word_stored d (write_page d root global at) at (with_byte (word_in d (write_page d root global at) at) at value)

-- A dword at a multiple of 4, as each operand of a command and each field of a context is.
unfoldable pub operand_at : Device → ℕ → Bool → ℕ → ℕ
operand_at d root global at = half_of (word_in d (read_page d root global at) at) at

unfoldable pub operand_stored : Device → ℕ → Bool → ℕ → ℕ → Device
operand_stored d root global at value =
    word_stored d (write_page d root global at) at (with_half (word_in d (write_page d root global at) at) at value)

-- A dword at any address. Where that isn't a multiple of 4 it is read byte by byte, each by its own page.
unfoldable pub dword_at : Device → ℕ → Bool → ℕ → ℕ
dword_at d root global at =
    if at % 4 == 0 then operand_at d root global at
    else from_le_bytes w32 (byte_at d root global at ∷ byte_at d root global (at + 1) ∷ byte_at d root global (at + 2) ∷ byte_at d root global (at + 3) ∷ [])

-- ---- strays

-- a page that is labelled for another guest than the owner
abbrev pub is_anothers : ℕ → Option Label → Bool
is_anothers owner None = false
is_anothers owner (Some label) = not (label.guest.0 == owner)

abbrev pub is_shadow : Option Label → Bool
is_shadow None = false
is_shadow (Some label) = label.shadow

abbrev pub page_strays : Device → ℕ → Option ℕ → Bool
page_strays d owner None = false
page_strays d owner (Some page) = is_anothers owner (d.label page)

-- the reading of a walk: a table of another guest's
unfoldable pub walk_strays : Device → Loaded → Bool → ℕ → Bool
walk_strays d l true at = false
walk_strays d l false at =
    page_strays d l.owner (live_page d l.root)
    || page_strays d l.owner (third_table d l.root at)
    || page_strays d l.owner (second_table d l.root at)
    || page_strays d l.owner (first_table d l.root at)

unfoldable pub read_strays : Device → Loaded → Bool → ℕ → Bool
read_strays d l global at = walk_strays d l global at || page_strays d l.owner (read_page d l.root global at)

unfoldable pub dword_strays : Device → Loaded → Bool → ℕ → Bool
dword_strays d l global at =
    if at % 4 == 0 then read_strays d l global at
    else read_strays d l global at || read_strays d l global (at + 1) || read_strays d l global (at + 2) || read_strays d l global (at + 3)

-- The context's own image is the two pages that the descriptor's global page and the next one name.
abbrev pub is_page : Option ℕ → ℕ → Bool
is_page None page = false
is_page (Some n) page = n == page

-- where the image begins, as a global address
abbrev pub image_address : ℕ → ℕ
image_address descriptor = (descriptor_of descriptor).page * 4096

unfoldable pub is_own_image : Device → Loaded → ℕ → Bool
is_own_image d l page =
    is_page (read_page d l.root true (image_address l.descriptor)) page
    || is_page (read_page d l.root true (image_address l.descriptor + 4096)) page

-- A write strays to another guest's page, and to a shadow page that isn't of the context's own image.
abbrev pub written_strays : Device → Loaded → Option ℕ → Bool
written_strays d l None = false
written_strays d l (Some page) = is_anothers l.owner (d.label page) || (is_shadow (d.label page) && not (is_own_image d l page))

unfoldable pub write_strays : Device → Loaded → Bool → ℕ → Bool
write_strays d l global at = walk_strays d l global at || written_strays d l (write_page d l.root global at)

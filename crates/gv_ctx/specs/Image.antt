-- The register state of a context: what an engine reads of its second page, given as dwords.
use Rattle.std.specs.Prelude.{ℕ, ◌≡◌, ◌+◌, ◌*◌, ◌/◌, ◌%◌, ◌^◌, ◌<◌, ◌≤◌, ◌==◌, ◌&&◌, nat_le, nat_lt, Bool, List, slice_index, if◌then◌else◌, Result, Ok, Err}
use Rattle.gv_types.specs.Bits.{has_lowest_bit}
use Rattle.gv_ctx.specs.declared.image.Image.{Image}
use Rattle.gv_ctx.specs.declared.image.BadContext.{BadContext}

-- ring control
abbrev pub control_of : List ℕ → ℕ
control_of page = slice_index page 0x0B

-- the head is bits 20..2 of its dword, the ring has bits 20..12 of its control plus 1 pages, and the
-- root is bits 47..12 of PDP0
abbrev pub image_of : List ℕ → Image
image_of page = record {
  head = slice_index page 0x05 / 4 % 2 ^ 19 * 4;
  tail = slice_index page 0x07;
  start = slice_index page 0x09;
  pages = control_of page / 2 ^ 12 % 2 ^ 9 + 1;
  root = slice_index page 0x31 % 2 ^ 16 * 2 ^ 20 + slice_index page 0x33 / 2 ^ 12;
}

-- The ring is enabled and has at most 16 pages, it starts at a page, the tail is a multiple of 8 below
-- the ring's size, and the head is below it.
abbrev pub is_good : Image → ℕ → Bool
is_good image control =
    has_lowest_bit control
    && nat_le image.pages 16
    && image.start % 4096 == 0
    && image.tail % 8 == 0
    && nat_lt image.tail (image.pages * 4096)
    && nat_lt image.head (image.pages * 4096)

abbrev pub image_read : List ℕ → Result Image BadContext
image_read page = if is_good (image_of page) (control_of page) then Ok (image_of page) else Err record {}

-- what every image that is read is
pub record IsImage (image : Image) : Type 0 where
  pub some_pages : 1 ≤ image.pages
  pub few_pages : image.pages ≤ 16
  pub start : image.start % 4096 ≡ 0
  pub head_aligned : image.head % 4 ≡ 0
  pub head : image.head < image.pages * 4096
  pub tail_aligned : image.tail % 8 ≡ 0
  pub tail : image.tail < image.pages * 4096
  pub root : image.root < 2 ^ 36

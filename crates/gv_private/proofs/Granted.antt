-- What a grant for writing names is no live table, so a write through it leaves all tables as they are.
use Rattle.std.proofs.Common.{◌≡◌, ℕ, ◌+◌, ◌*◌, ◌/◌, ◌%◌, Bool, true, false, not, ◌&&◌, List, Option, None, Some, cond, length, refl, ap, ◌∙◌, arith}
use Rattle.std.specs.Prelude.{IfSome}
use Rattle.gv_types.specs.Memory.{Memory, word_of, with_half}
use Rattle.gv_types.specs.declared.event.Width.{Width}
use Rattle.gv_types.specs.declared.event.Width.TheVariants.{Four, Eight}
use Rattle.gv_types.specs.declared.ranges.Ranges.{Ranges}
use Rattle.gv_entry.specs.Entry.{global_frame}
use Rattle.gv_entry.specs.Global.{global_entry}
use Rattle.gv_entry.specs.Grants.{unless, if_writable, write_grant}
use Rattle.gv_entry.specs.Ranges.{owns_page}
use Rattle.gv_entry.specs.SameTables.{SameTables}
use Rattle.gv_entry.specs.Tables.{Mapped, walk, is_guarded}
use Rattle.gv_entry.proofs.SameTables.{unguarded_word_keeps_tables}
use Rattle.gv_private.specs.Grants.{page_grant_in, frame_written}

abbrev pub IsFree : Memory → List ℕ → Option ℕ → Type 0
IsFree m roots grant = IfSome grant (λ frame. is_guarded m roots frame ≡ false)

free : (m : Memory) (roots : List ℕ) (frame : ℕ) (b : Bool) → is_guarded m roots frame ≡ b → IsFree m roots (cond b None (Some frame))
free m roots frame true guarded = tt
free m roots frame false guarded = guarded

unless-free : (m : Memory) (roots : List ℕ) (o : Option ℕ) → IsFree m roots (unless (is_guarded m roots) o)
unless-free m roots None = tt
unless-free m roots (Some frame) = free m roots frame (is_guarded m roots frame) refl

owned-free : (m : Memory) (roots : List ℕ) (b : Bool) (o : Option ℕ) → IsFree m roots o → IsFree m roots (cond b o None)
owned-free m roots true o is = is
owned-free m roots false o is = tt

pub page-free : (ranges : Ranges) (entries : List ℕ) (m : Memory) (roots : List ℕ) (page : ℕ) → IsFree m roots (page_grant_in ranges entries m roots page)
page-free ranges entries m roots page =
    owned-free m roots (owns_page ranges page) (unless (is_guarded m roots) (global_frame (global_entry ranges entries page) (length m)))
    (unless-free m roots (global_frame (global_entry ranges entries page) (length m)))

free_writable : (m : Memory) (roots : List ℕ) (frame : ℕ) (writable b : Bool) → is_guarded m roots frame ≡ b → IsFree m roots (cond (writable && not b) (Some frame) None)
free_writable m roots frame true true guarded = tt
free_writable m roots frame true false guarded = guarded
free_writable m roots frame false b guarded = tt

mapped-free : (m : Memory) (roots : List ℕ) (page : Option Mapped) → IsFree m roots (if_writable (is_guarded m roots) page)
mapped-free m roots None = tt
mapped-free m roots (Some page) = free_writable m roots page.frame page.writable (is_guarded m roots page.frame) refl

pub write-free : (m : Memory) (roots : List ℕ) (root at : ℕ) → IsFree m roots (write_grant m roots root at)
write-free m roots root at = mapped-free m roots (walk m root at)

-- ---- writes

pub frame_at : (frame at : ℕ) → (frame * 4096 + at % 4096) / 8 / 512 ≡ frame
frame_at frame at = omega arith

pub tables-same : (m : Memory) (roots : List ℕ) → SameTables m m roots
tables-same m roots = record { frames = refl; words = λ frame guarded. refl }

pub frame_written-tables : (m : Memory) (roots : List ℕ) (width : Width) (at value : ℕ) (grant : Option ℕ) → IsFree m roots grant → SameTables m (frame_written m width at value grant) roots
frame_written-tables m roots width at value None is = tables-same m roots
frame_written-tables m roots Four at value (Some frame) is =
    unguarded_word_keeps_tables m roots ((frame * 4096 + at % 4096) / 8)
    (with_half (word_of m ((frame * 4096 + at % 4096) / 8)) (frame * 4096 + at % 4096) value)
    (ap (is_guarded m roots) (frame_at frame at) ∙ is)
frame_written-tables m roots Eight at value (Some frame) is =
    unguarded_word_keeps_tables m roots ((frame * 4096 + at % 4096) / 8) value (ap (is_guarded m roots) (frame_at frame at) ∙ is)

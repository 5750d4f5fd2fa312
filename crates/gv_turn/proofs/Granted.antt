-- What is granted is a frame in memory, and for writing one that is no live table.
use Rattle.std.proofs.Common.{◌≡◌, ℕ, ◌<◌, Bool, true, false, not, ◌&&◌, List, Option, Some, None, IfSome, cond, length, refl, ltb}
use Rattle.std.proofs.lemmas.Bool.{ltb-true}
use Rattle.gv_types.specs.Memory.{Memory}
use Rattle.gv_types.specs.declared.ranges.Ranges.{Ranges}
use Rattle.gv_types.specs.Bits.{has_bit}
use Rattle.gv_entry.specs.Entry.{global_frame, global_frame_of}
use Rattle.gv_entry.specs.Global.{global_entry}
use Rattle.gv_entry.specs.Grants.{unless, frame_of, if_writable}
use Rattle.gv_entry.specs.Ranges.{owns_page}
use Rattle.gv_entry.specs.Tables.{Mapped, is_guarded}
use Rattle.gv_private.specs.Grants.{page_grant_in}

abbrev pub IsLow : ℕ → Option ℕ → Type 0
IsLow frames grant = IfSome grant (λ f. f < frames)

low_or_none : (frames : ℕ) (o : Option ℕ) (b : Bool) → IsLow frames o → IsLow frames (cond b o None)
low_or_none frames o true low = low
low_or_none frames o false low = tt

none_or_low : (frames f : ℕ) (b : Bool) → f < frames → IsLow frames (cond b None (Some f))
none_or_low frames f true low = tt
none_or_low frames f false low = low

unless-low : (frames : ℕ) (guarded : ℕ → Bool) (o : Option ℕ) → IsLow frames o → IsLow frames (unless guarded o)
unless-low frames guarded None low = tt
unless-low frames guarded (Some f) low = none_or_low frames f (guarded f) low

global-low : (entry frames : ℕ) → IsLow frames (global_frame entry frames)
global-low entry frames = by_tests (has_bit entry 0) (ltb (global_frame_of entry) frames) refl
  where
    by_tests : (a b : Bool) → ltb (global_frame_of entry) frames ≡ b → IsLow frames (cond (a && b) (Some (global_frame_of entry)) None)
    by_tests true true is = ltb-true (global_frame_of entry) frames is
    by_tests true false is = tt
    by_tests false b is = tt

pub page-low : (ranges : Ranges) (entries : List ℕ) (m : Memory) (roots : List ℕ) (page : ℕ) → IsLow (length m) (page_grant_in ranges entries m roots page)
page-low ranges entries m roots page =
    low_or_none (length m) (unless (is_guarded m roots) (global_frame (global_entry ranges entries page) (length m))) (owns_page ranges page)
    (unless-low (length m) (is_guarded m roots) (global_frame (global_entry ranges entries page) (length m)) (global-low (global_entry ranges entries page) (length m)))

abbrev pub IsMappedLow : ℕ → Option Mapped → Type 0
IsMappedLow frames o = IfSome o (λ page. page.frame < frames)

pub read-low : (frames : ℕ) (o : Option Mapped) → IsMappedLow frames o → IsLow frames (frame_of o)
read-low frames None low = tt
read-low frames (Some page) low = low

pub write-low : (frames : ℕ) (guarded : ℕ → Bool) (o : Option Mapped) → IsMappedLow frames o → IsLow frames (if_writable guarded o)
write-low frames guarded None low = tt
write-low frames guarded (Some page) low = low_or_none frames (Some page.frame) (page.writable && not (guarded page.frame)) low

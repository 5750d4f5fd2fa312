-- Calls that change the guest's frames and owned entries alone.
use Rattle.std.proofs.Common.{◌≡◌, ℕ, ◌+◌, ◌≤◌, Result, Ok, Err, OnOk, subst}
use Rattle.gv_types.specs.declared.ranges.Ranges.{Ranges}
use Rattle.gv_gpu.specs.Change.{ChangesOnly}
use Rattle.gv_gpu.specs.Device.{Device}
use Rattle.gv_gpu.specs.Part.{access_part, entries_part, frames_part}
use Rattle.gv_gpu.proofs.Changes.{changes-more, changes-none, changes-then, changes-widen}
use Rattle.gv_gpu.proofs.Guests.{entries-access, frames-access}
use Rattle.gv_gtt.specs.Gtt.{number_of, ranges_of}
use Rattle.gv_vgpu.specs.Plain.{ChangesAccess}
use Rattle.gv_vgpu.specs.declared.vgpu.Vgpu.{Vgpu}

pub access-none : (most : ℕ) (d : Device) (v : Vgpu) → ChangesAccess most d d v
access-none most d v = changes-none (access_part (number_of v.gtt) (ranges_of v.gtt)) most d

pub access-frames : (few most : ℕ) (d e : Device) (v : Vgpu) → few ≤ most → ChangesOnly (frames_part (number_of v.gtt)) few d e → ChangesAccess most d e v
access-frames few most d e v more changes = changes-more most more (changes-widen (frames-access (number_of v.gtt) (ranges_of v.gtt)) changes)

pub access-entries : (few most : ℕ) (d e : Device) (v : Vgpu) → few ≤ most → ChangesOnly (entries_part (ranges_of v.gtt)) few d e → ChangesAccess most d e v
access-entries few most d e v more changes = changes-more most more (changes-widen (entries-access (number_of v.gtt) (ranges_of v.gtt)) changes)

-- one after another
pub access-then : (m n : ℕ) (d e f : Device) (a b : Vgpu) → number_of b.gtt ≡ number_of a.gtt → ranges_of b.gtt ≡ ranges_of a.gtt → ChangesAccess m d e a → ChangesAccess n e f b → ChangesAccess (m + n) d f a
access-then m n d e f a b number ranges first second =
    changes-then first
    (subst (λ (r : Ranges). ChangesOnly (access_part (number_of a.gtt) r) n e f) ranges (subst (λ g. ChangesOnly (access_part g (ranges_of b.gtt)) n e f) number second))

-- what is so is so of each answer
pub ok-anyway : {T E : Type 0} (answer : Result T E) (P : Type 0) → P → OnOk answer P
ok-anyway (Ok value) P so = so
ok-anyway (Err failed) P so = tt

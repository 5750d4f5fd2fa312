-- The journal of a device that was empty, by what ran.
use Rattle.std.proofs.Common.{◌≡◌, ℕ, List, [], ◌++◌, length, take, ap, sym, ◌∙◌}
use Rattle.std.proofs.lemmas.Grind.{common_steps}
use Rattle.std.proofs.Common.{arith}
use Rattle.std.proofs.lemmas.List.{append-nil}
use Rattle.gv_gpu.specs.Change.{Ran, RanPart}
use Rattle.gv_gpu.specs.Device.{Device, JournalEntry, IsEmpty}
use Rattle.gv_gpu.specs.Part.{Part, outside}

pub journal-all : {d e : Device} {xs : List JournalEntry} → IsEmpty d → Ran d e xs → e.journal ≡ xs
journal-all {d} {e} {xs} empty ran = ran.journal ∙ ap (λ (z : List JournalEntry). z ++ xs) (ap (λ (x : Device). x.journal) empty)

-- a list is a front of itself with more behind it
front : (xs ys : List JournalEntry) → take (length xs) (xs ++ ys) ≡ xs
front xs ys = grind (arith, common_steps)

pub journal-part : {d e : Device} {xs : List JournalEntry} → IsEmpty d → RanPart d e xs → (n : ℕ) × (e.journal ≡ take n xs)
journal-part {d} {e} {xs} empty ran =
    let part = ran.part in
    (length part.done, journal-all empty part.ran ∙ sym (front part.done ran.left) ∙ ap (take (length part.done)) part.front)

pub strays-none : {d e : Device} {xs : List JournalEntry} → IsEmpty d → RanPart d e xs → e.strays ≡ 0
strays-none empty ran = ran.part.ran.strays ∙ ap (λ (x : Device). x.strays) empty

-- what changes a part alone runs nothing
pub ran-outside : (p : Part) (d e : Device) → outside p e ≡ outside p d → Ran d e []
ran-outside p d e same = record { journal = ap (λ (x : Device). x.journal) same ∙ sym (append-nil d.journal); strays = ap (λ (x : Device). x.strays) same }

-- The roots of a guest's tables, with their shadow tables, and what the announcement of one leaves.
use Rattle.std.proofs.Common.{◌≡◌, ℕ, ◌+◌, ◌-◌, ◌*◌, ◌/◌, ◌<◌, ◌≤◌, Bool, true, Option, None, Some, Ok, Err, is_some, length, refl, sym, ◌∙◌, subst, arith}
use Rattle.gv_types.specs.declared.reply.Reason.TheVariants.{Entry}
use Rattle.gv_types.specs.declared.reply.Stop.TheVariants.{OutOfMemory, DeviceFault}
use Rattle.gv_entry.specs.SameTables.{has}
use Rattle.gv_gpu.specs.Device.{Device, with_faults}
use Rattle.gv_gpu.specs.Part.{guest_part, outside}
use Rattle.gv_gtt.specs.Changes.{Changes}
use Rattle.gv_gtt.specs.Gtt.{frames_of, memory_of, nodes_in, number_of, over, own_pages, ranges_of, roots_in}
use Rattle.gv_gtt.specs.Standing.{Stands}
use Rattle.gv_gtt.specs.declared.gtt.Gtt.{Gtt}
use Rattle.gv_gtt.proofs.Standing.{translation_is_small}
use Rattle.gv_private.specs.Roots.{announced}
use Rattle.gv_sppgtt.specs.Clearing.{IsWithin}
use Rattle.gv_sppgtt.specs.Grown.{count_of}
use Rattle.gv_sppgtt.proofs.Serving.{among-roots}
use Rattle.gv_vgpu.specs.Changes.{MayFail, Stops}
use Rattle.gv_vgpu.specs.Vgpu.{private_of}
use Rattle.gv_vgpu.specs.Standing.{HasRoomToLoad, Holds}
use Rattle.gv_vgpu.specs.declared.vgpu.Vgpu.{Vgpu}
use Rattle.gv_vgpu.proofs.Failing.{may-fail-after}
use Rattle.gv_vgpu.proofs.Kept.{KeepsRoots, private-after}
use Rattle.gv_vgpu.proofs.Working.{over-private}

-- ---- where roots are

page-there : (page : Option ℕ) → is_some page ≡ true → (n : ℕ) × (page ≡ Some n)
page-there None is = cc
page-there (Some n) is = (n, refl)

module _ (d : Device) (g : Gtt) (stands : Stands d g) where
  root-has-node : (root : ℕ) → is_some (nodes_in g 4 root) ≡ has (roots_in g) root
  root-has-node root = sym (among-roots d g.memory.frames g.tables g.memory.pins stands.holds root)

  pub root-page : (root : ℕ) → has (roots_in g) root ≡ true → (page : ℕ) × (nodes_in g 4 root ≡ Some page)
  root-page root is = page-there (nodes_in g 4 root) (root-has-node root ∙ is)

  pub root-small : (root : ℕ) → has (roots_in g) root ≡ true → root < 16384
  root-small root is =
      let page = root-page root is in
      let low : root < length (frames_of g).pages = (stands.holds.sound.boarded.low 4 root page.0 page.1).0 in
      let few : length (frames_of g).pages ≤ 16384 = stands.holds.few in
      omega arith

  pub shadow-low : (root page : ℕ) → nodes_in g 4 root ≡ Some page → page < 131072
  shadow-low root page is = stands.holds.sound.boarded.below 4 root page is

  -- there is room for a window
  pub room-for-window : d.live + (4 * length (frames_of g).pages + 338) ≤ 131072 + own_pages g → d.live + 274 ≤ 131072
  room-for-window room =
      let small : own_pages g ≤ 4 * length (frames_of g).pages + 2 * (length (frames_of g).pages / 512) = translation_is_small d g stands in
      let few : length (frames_of g).pages ≤ 16384 = stands.holds.few in
      omega arith

-- Where shadow tables stay, each root stays one, with the same.
pub roots-stay : (d e : Device) (old new : Gtt) → Stands d old → Stands e new → IsWithin (nodes_in old) (nodes_in new) → KeepsRoots old new
roots-stay d e old new before after stay root is =
    let page = root-page d old before root is in
    let there : nodes_in new 4 root ≡ Some page.0 = stay 4 root page.0 page.1 in
    (sym (root-has-node e new after root) ∙ (λ i. is_some (there i)), there ∙ sym page.1)

-- ---- room

room-moves :
    (frames after p q d e : ℕ) → after ≡ frames → frames ≤ 16384 → e - q ≡ d - p → (p ≤ d → e + p ≡ d + q) → d + (4 * frames + 338) ≤ 131072 + p → e + (4 * after + 338) ≤ 131072 + q
room-moves frames after p q d e same few others exact room = omega arith

-- The room for a load is the same, whatever shadow tables come.
pub room-stays : (d e : Device) (old new : Vgpu) → Stands d old.gtt → Changes d e old.gtt new.gtt → HasRoomToLoad d old → HasRoomToLoad e new
room-stays d e old new stands changes room =
    let frames : length (frames_of new.gtt).pages ≡ length (frames_of old.gtt).pages = λ i. length (changes.frames i).pages in
    subst (λ q. e.live + (4 * length (frames_of new.gtt).pages + 338) ≤ 131072 + q) (λ i. count_of (sym frames i) (nodes_in new.gtt))
    (room-moves (length (frames_of old.gtt).pages) (length (frames_of new.gtt).pages) (own_pages old.gtt) (count_of (length (frames_of old.gtt).pages) (nodes_in new.gtt)) d.live e.live
    frames stands.holds.few changes.live.others changes.live.exact room)

-- ---- a call that stopped for memory, or after which the guest is to fail

-- Nothing changed but the guest's part.
pub lacks-memory :
    (here : ℕ → Bool) (d e : Device) (old : Vgpu) → outside (guest_part (number_of old.gtt) (ranges_of old.gtt) here) e ≡ outside (guest_part (number_of old.gtt) (ranges_of old.gtt) here) d → Stops here d e old OutOfMemory
lacks-memory here d e old same =
    let faults : d.faults ≡ e.faults = λ i. (sym same i).faults in
    record {
      outside = same ∙ (λ i. with_faults (outside (guest_part (number_of old.gtt) (ranges_of old.gtt) here) d) (faults i));
      cause = λ (is : OutOfMemory ≡ DeviceFault). absurd cc;
      memory = λ is. sym faults;
    }

module _ (d e : Device) (old new : Vgpu) (here : ℕ → Bool) (holds : Holds d old here) (changes : Changes d e old.gtt new.gtt) (registers : new.mmio ≡ old.mmio) (engines : new.engines ≡ old.engines) (failsafe : new.failsafe ≡ old.failsafe) (root : ℕ) where
  pub root-announced : announced (over (private_of d old here) d old.gtt) root ≡ Ok (over (private_of d old here) e new.gtt) → announced (private_of d old here) root ≡ Ok (private_of e new here)
  root-announced is = (λ i. announced (sym (over-private d old here holds) i) root) ∙ is ∙ (λ i. Ok (private-after d e old new here holds changes registers engines failsafe i))

  pub root-refused :
      announced (over (private_of d old here) d old.gtt) root ≡ Err Entry → Stands e new.gtt → memory_of e new.gtt ≡ memory_of d old.gtt
      → (announced (private_of d old here) root ≡ Err Entry) × MayFail here d e old new (memory_of d old.gtt)
  root-refused is stands memory = (
    (λ i. announced (sym (over-private d old here holds) i) root) ∙ is,
    subst (λ m. MayFail here d e old new m) memory (may-fail-after d e old new here holds changes registers engines failsafe stands),
  )

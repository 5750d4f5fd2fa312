-- What follows for a guest's memory and tables that translate, for the layers above.
use Rattle.std.specs.Prelude.{ℕ, ◌+◌, ◌*◌, ◌/◌, ◌≤◌, ◌≡◌, Bool, true, false, None, Some, length}
use Rattle.gv_types.specs.declared.ids.Label.{Label}
use Rattle.gv_entry.specs.Ranges.{owns_page}
use Rattle.gv_entry.specs.SameTables.{SameTables}
use Rattle.gv_gpu.specs.Change.{Leaves}
use Rattle.gv_gpu.specs.Device.{Device}
use Rattle.gv_gpu.specs.Part.{Part, outside, guest_part, shadow_label}
use Rattle.gv_guest.specs.Placed.{Hosts, frame_label}
use Rattle.gv_private.specs.Device.{PrivateDevice}
use Rattle.gv_private.specs.Grants.{page_grant}
use Rattle.gv_sggtt.specs.Mirror.{NamesFrame}
use Rattle.gv_shape.specs.Shadows.{Shadows, KeepsPages}
use Rattle.gv_gtt.specs.Gtt.{gtt_part, frames_of, number_of, ranges_of, memory_of, roots_in, nodes_in, own_pages, over, HasRoomFor}
use Rattle.gv_gtt.specs.Changes.{Changes}
use Rattle.gv_gtt.specs.Standing.{Stands, Translates}
use Rattle.gv_gtt.specs.declared.gtt.Gtt.{Gtt}

-- a part has the guest's frames, the entries of its ranges and the pages of its shadow tables
pub record Covers (w : Part) (g : Gtt) : Type 0 where
  pub frames : (page : ℕ) → w.page page (Some (frame_label (number_of g))) ≡ true
  pub entries : (page : ℕ) → owns_page (ranges_of g) page ≡ true → w.entry page ≡ true
  pub nodes : (level frame page : ℕ) → nodes_in g level frame ≡ Some page → w.page page (Some (shadow_label (number_of g))) ≡ true

-- Where such a part is as it was, and there is room, they translate as before, and stand for the same private device.
abbrev pub TranslationStays : Type 0
TranslationStays = (w : Part) (d e : Device) (g : Gtt) → Covers w g → Leaves w d e → HasRoomFor e g → Translates d g → Translates e g

abbrev pub TranslatedStays : Type 0
TranslatedStays = (w : Part) (d e : Device) (g : Gtt) (p : PrivateDevice) → Covers w g → Leaves w d e → Translates d g → over p e g ≡ over p d g

-- Stores of an engine to frames that are no live tables keep them translating.
abbrev pub TranslationKeeps : Type 0
TranslationKeeps = (d e : Device) (g : Gtt) → Translates d g → Hosts e (frames_of g) → SameTables (memory_of d g) (memory_of e g) (roots_in g) → KeepsPages (nodes_in g) d e
    → ((page : ℕ) → owns_page (ranges_of g) page ≡ true → e.global page ≡ d.global page) → HasRoomFor e g → Translates e g

-- Per process, each access through a root's shadow table reaches what the guest's own tables grant.
abbrev pub TranslationShadows : Type 0
TranslationShadows = (d : Device) (g : Gtt) → Translates d g → Shadows d (frames_of g) (memory_of d g) (roots_in g) (nodes_in g)

-- Globally, the physical entry of an owned page names the host page of the frame that the page grants, or is absent.
abbrev pub TranslationMirrors : Type 0
TranslationMirrors = (d : Device) (g : Gtt) (p : PrivateDevice) → Translates d g → (page : ℕ) → owns_page (ranges_of g) page ≡ true
    → NamesFrame (frames_of g) (page_grant (over p d g) page) (d.global page)

-- Whatever a call answered, there are at most four shadow tables for each frame, and two for each large page that is
-- whole in memory.
abbrev pub TranslationIsSmall : Type 0
TranslationIsSmall = (d : Device) (g : Gtt) → Stands d g → own_pages g ≤ 4 * length (frames_of g).pages + 2 * (length (frames_of g).pages / 512)

-- ---- what calls leave

-- A call changes no more than the guest's part of the device.
abbrev pub ChangesStayInside : Type 0
ChangesStayInside = (d e : Device) (old new : Gtt) (here : ℕ → Bool) → Changes d e old new
    → outside (guest_part (number_of old) (ranges_of old) here) e ≡ outside (guest_part (number_of old) (ranges_of old) here) d

-- Another part of the same guest's, as of a shadow ring: each of its pages is live with the label that it has there,
-- and is neither a frame's nor a shadow table's; and no entry of it is of the guest's ranges.
pub record OtherPart (q : Part) (d : Device) (g : Gtt) : Type 0 where
  pub dead : (n : ℕ) → q.page n None ≡ false
  pub page : (n : ℕ) (l : Label) → q.page n (Some l) ≡ true → (d.label n ≡ Some l) × ((gtt_part g).page n (Some l) ≡ false)
  pub entry : (i : ℕ) → q.entry i ≡ true → owns_page (ranges_of g) i ≡ false

-- a call leaves such a part
abbrev pub ChangesLeaveOthers : Type 0
ChangesLeaveOthers = (d e : Device) (old new : Gtt) (q : Part) → Changes d e old new → OtherPart q d old → Leaves q d e

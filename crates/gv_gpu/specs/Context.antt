-- Loading a context and putting it away, by the seven fields of its place and by its ring and root.
-- They stand in the second page of the context's image, which is reached through the global table.
use Rattle.std.specs.Prelude.{ℕ, suc, zero, ◌+◌, ◌*◌, ◌/◌, ◌^◌, true, List, [], ◌∷◌, slice_index, Option, None, Some}
use Rattle.gv_ctx.specs.Saved.{fields_of, saved_of}
use Rattle.gv_gpu.specs.Device.{Device, Loaded, with_loaded}
use Rattle.gv_gpu.specs.Physical.{image_address, operand_at, operand_stored}

-- the global address of a dword of the image's second page
abbrev pub state_at : ℕ → ℕ → ℕ
state_at descriptor n = image_address descriptor + 4096 + 4 * n

abbrev pub state_dword : Device → ℕ → ℕ → ℕ
state_dword d descriptor n = operand_at d 0 true (state_at descriptor n)

-- which dwords hold the fields of the place
abbrev pub field_dwords : List ℕ
field_dwords = 0x05 ∷ 0x0D ∷ 0x0F ∷ 0x11 ∷ 0x13 ∷ 0x15 ∷ 0x17 ∷ []

-- so many of the fields, in order
unfoldable pub fields_stored : Device → ℕ → List ℕ → ℕ → Device
fields_stored d descriptor fields zero = d
fields_stored d descriptor fields (suc n) =
    operand_stored (fields_stored d descriptor fields n) 0 true (state_at descriptor (slice_index field_dwords n)) (slice_index fields n)

-- the place of a loaded context goes into its image
abbrev pub context_saved : Device → Option Loaded → Device
context_saved d None = d
context_saved d (Some l) = fields_stored d l.descriptor (fields_of l.place) 7

-- the context that an image holds: place, tail, ring start, and the root's page by the two dwords of PDP0
unfoldable pub context_of : Device → ℕ → ℕ → Loaded
context_of d owner descriptor = record {
  descriptor = descriptor;
  owner = owner;
  place = saved_of (state_dword d descriptor 0x05 ∷ state_dword d descriptor 0x0D ∷ state_dword d descriptor 0x0F
      ∷ state_dword d descriptor 0x11 ∷ state_dword d descriptor 0x13 ∷ state_dword d descriptor 0x15 ∷ state_dword d descriptor 0x17 ∷ []);
  tail = state_dword d descriptor 0x07;
  ring_start = state_dword d descriptor 0x09;
  root = (state_dword d descriptor 0x31 * 2 ^ 32 + state_dword d descriptor 0x33) / 4096;
}

-- a context is loaded, after the one that was there is put away
abbrev pub loaded_after : Device → ℕ → ℕ → ℕ → Device
loaded_after d engine owner descriptor = with_loaded d engine (Some (context_of d owner descriptor))

unfoldable pub context_submitted : Device → ℕ → ℕ → ℕ → Device
context_submitted d engine owner descriptor = loaded_after (context_saved d (d.loaded engine)) engine owner descriptor

-- with none loaded nothing changes
abbrev pub stopped_with : Device → ℕ → Option Loaded → Device
stopped_with d engine None = d
stopped_with d engine (Some l) = with_loaded (context_saved d (Some l)) engine None

unfoldable pub stopped : Device → ℕ → Device
stopped d engine = stopped_with d engine (d.loaded engine)

-- The image of a private device: all that it holds as bytes, in this order, each number with its lowest byte first.
use Rattle.std.specs.Prelude.{ℕ, ◌+◌, List, [], ◌∷◌, ◌++◌, length, map, Option, None, Some, option_to_list}
use Rattle.std.specs.List.{flat_map, concat, range_with_len}
use Rattle.gv_types.specs.Engines.{register_base}
use Rattle.gv_fetch.specs.Flat.{flat}
use Rattle.gv_fetch.specs.Left.{Left, Level, Fetched, At}
use Rattle.gv_irq.specs.Irq.{Group}
use Rattle.gv_private.specs.Device.{Engine, PrivateDevice, Working}
use Rattle.gv_private.specs.Registers.{general_read}
use Rattle.gv_private.specs.Roots.{engine_numbers}
use Rattle.gv_image.specs.Bytes.{dwords, quadwords, list, flag}

-- GVTGIMG1, the guest's number, whether it is in failsafe, and two zeros
abbrev pub head : PrivateDevice → List ℕ
head p = 71 ∷ 86 ∷ 84 ∷ 71 ∷ 73 ∷ 77 ∷ 71 ∷ 49 ∷ p.number ∷ flag p.failsafe ∷ 0 ∷ 0 ∷ []

-- frames, and first page and pages of the low and of the high range
abbrev pub size : PrivateDevice → List ℕ
size p = length p.memory ∷ p.ranges.low.first ∷ p.ranges.low.pages ∷ p.ranges.high.first ∷ p.ranges.high.pages ∷ []

-- ---- registers

-- tail, head, start and control of the ring, the page of the status page and mode, and the 32 general dwords
abbrev pub engine_registers : PrivateDevice → ℕ → List ℕ
engine_registers p engine =
    map (λ at. p.registers (register_base engine + at)) (0x30 ∷ 0x34 ∷ 0x38 ∷ 0x3C ∷ 0x80 ∷ 0x29C ∷ [])
    ++ map (general_read (p.engines engine)) (range_with_len 0 32)

-- the force-wake requests of media, render and blitter; PDP0, low and high; and the display plane's control, stride, size and
-- surface
abbrev pub shared_offsets : List ℕ
shared_offsets = 0xA270 ∷ 0xA278 ∷ 0xA188 ∷ 0x78838 ∷ 0x7883C ∷ 0x70180 ∷ 0x70188 ∷ 0x70190 ∷ 0x7019C ∷ []

abbrev pub registers : PrivateDevice → List ℕ
registers p = flat_map (engine_registers p) engine_numbers ++ map p.registers shared_offsets

abbrev pub group : Group → List ℕ
group g = g.imr ∷ g.iir ∷ g.ier ∷ []

abbrev pub groups : PrivateDevice → List ℕ
groups p = group p.interrupts.zero ++ (group p.interrupts.one ++ group p.interrupts.three)

-- ---- an engine

-- what is left of a fetched batch, or the address in a live one
abbrev pub level : Level → List ℕ
level (Fetched items) = 0 ∷ list (flat items)
level (At at) = 1 ∷ quadwords (at ∷ [])

-- the outer one first
abbrev pub levels : Left → List Level
levels w = option_to_list w.first ++ option_to_list w.second

-- the element at work: its root, its tail, and what is left of it
abbrev pub element : Option Working → List ℕ
element None = 0 ∷ []
element (Some w) =
    1 ∷ dwords (w.root ∷ w.tail ∷ [])
    ++ (length (levels w.left) ∷ list (flat w.left.ring)
    ++ flat_map level (levels w.left))

abbrev pub descriptors : List ℕ → List ℕ
descriptors ds = length ds ∷ quadwords ds

-- half-made submissions, the status ring, the lists, and the element
abbrev pub engine : Engine → List ℕ
engine e =
    length e.writes ∷ dwords e.writes
    ++ (dwords (flat_map (λ pair. pair.0 ∷ pair.1 ∷ []) e.slots.pairs)
    ++ (e.slots.write ∷ e.slots.read ∷ descriptors e.slots.running
    ++ (descriptors e.slots.pending
    ++ element e.element)))

abbrev pub engines : PrivateDevice → List ℕ
engines p = flat_map (λ n. engine (p.engines n)) engine_numbers

-- ---- the whole image

abbrev pub image : PrivateDevice → List ℕ
image p =
    head p
    ++ (dwords (size p)
    ++ (dwords (registers p)
    ++ (flag p.interrupts.master ∷ dwords (groups p)
    ++ (engines p
    ++ (list p.roots
    ++ (quadwords p.entries
    ++ quadwords (concat p.memory)))))))

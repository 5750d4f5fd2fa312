-- The script of a number.
use Rattle.std.specs.Prelude.{ℕ, zero, suc, ◌+◌, ◌*◌, ◌%◌, ◌==◌, List, [], ◌∷◌, ◌++◌, if◌then◌else◌}
use Rattle.gv_types.specs.declared.event.Width.TheVariants.{Four, Eight}
use Rattle.gv_types.specs.declared.event.Place.TheVariants.{Memory, Registers}
use Rattle.gv_text.specs.declared.script_line.Line.{Line}
use Rattle.gv_text.specs.declared.script_line.Line.TheVariants as lines
use Rattle.gv_gen.specs.declared.draw.Draw.{Draw}
use Rattle.gv_gen.specs.declared.draw.Kind.{Kind}
use Rattle.gv_gen.specs.declared.draw.Kind.TheVariants.{Store, Load, Submit, Turns, Switch, Map, Pointer, Move}
use Rattle.gv_gen.specs.declared.group.Group.{Group}
use Rattle.gv_gen.specs.declared.group.Group.TheVariants.{Guests, SetUp, Round, End}
use Rattle.gv_gen.specs.Draw.{draw_at, state_after}

-- Each guest has 32 frames, and 16 pages of the global table's low part.
abbrev pub made_guest_line : Line
made_guest_line = lines.Guest (record { frames = 0x20; low = 0x10; high = 0 })

abbrev pub guest_lines : List Line
guest_lines = made_guest_line ∷ made_guest_line ∷ []

-- A guest's first five global pages map its frames 0 to 4. The context is at the first of them, the ring at the
-- third, the status page at the fourth. The root is frame 8, and the process pages 0, 1 and 2 map the frames c, d
-- and e.
abbrev pub set_up_lines : ℕ → List Line
set_up_lines g =
    lines.Write g Registers Eight (0x800000 + 0x80 * g) (1 ∷ 0x1001 ∷ 0x2001 ∷ 0x3001 ∷ 0x4001 ∷ [])
    ∷ lines.Write g Registers Four 0x22080 ((0x3000 + 0x10000 * g) ∷ [])
    ∷ lines.Write g Memory Four 0x1024 ((0x2000 + 0x10000 * g) ∷ [])
    ∷ lines.Write g Memory Four 0x102C (1 ∷ [])
    ∷ lines.Write g Memory Four 0x10CC (0x8000 ∷ [])
    ∷ lines.Write g Memory Eight 0x8000 (0x9003 ∷ [])
    ∷ lines.Write g Memory Eight 0x9000 (0xA003 ∷ [])
    ∷ lines.Write g Memory Eight 0xA000 (0xB003 ∷ [])
    ∷ lines.Write g Memory Eight 0xB000 (0xC003 ∷ 0xD003 ∷ 0xE003 ∷ [])
    ∷ []

-- the descriptor of a guest's context
abbrev pub descriptor : ℕ → ℕ
descriptor g = 0x500000119 + 0x100010000 * g

-- a dword of frame d
abbrev pub data_address : ℕ → ℕ
data_address v = 0xD000 + 4 * (v % 1024)

abbrev pub submit_lines : ℕ → ℕ → List Line
submit_lines g v =
    lines.Write g Memory Four 0x2000 (0x10000002 ∷ (0x1000 + 4 * (v % 1024)) ∷ 0 ∷ v ∷ [])
    ∷ lines.Write g Memory Four 0x1014 (0 ∷ [])
    ∷ lines.Write g Memory Four 0x101C (0x10 ∷ [])
    ∷ lines.Elsp g 1 0 (descriptor g)
    ∷ []

abbrev pub lines_by : Kind → ℕ → ℕ → List Line
lines_by Store g v = lines.Write g Memory Four (data_address v) (v ∷ []) ∷ []
lines_by Load g v = lines.Read g Memory Four (data_address v) ∷ []
lines_by Submit g v = submit_lines g v
lines_by Turns g v = lines.Turn 1 (1 + v % 64) ∷ []
lines_by Switch g v = lines.Switch 1 ∷ []
lines_by Map g v = lines.Write g Memory Eight (0xB000 + 8 * (v % 3)) ((0x1000 * (12 + v % 4) + 3) ∷ []) ∷ []
lines_by Pointer g v = lines.Read g Registers Four 0x223A0 ∷ []
lines_by Move g v = lines.Move g (12 + v % 4) ∷ []

abbrev pub round_lines : Draw → List Line
round_lines d = lines_by d.kind d.guest d.value

-- so many rounds from a state on, and the end
unfoldable pub rounds_from : ℕ → ℕ → List Line
rounds_from zero x = lines.End ∷ []
rounds_from (suc n) x = round_lines (draw_at x) ++ rounds_from n (state_after x)

-- The script of a number: two guests, their set-up, 4,096 rounds, and the end.
abbrev pub script_of_number : ℕ → List Line
script_of_number n = guest_lines ++ (set_up_lines 0 ++ (set_up_lines 1 ++ rounds_from 4096 n))

-- the lines of a group
abbrev pub group_lines : Group → List Line
group_lines Guests = guest_lines
group_lines (SetUp g) = set_up_lines g
group_lines (Round d) = round_lines d
group_lines End = lines.End ∷ []

-- the lines behind a group, where so many rounds follow from a state on
abbrev pub lines_behind : Group → ℕ → ℕ → List Line
lines_behind Guests n x = set_up_lines 0 ++ (set_up_lines 1 ++ rounds_from n x)
lines_behind (SetUp g) n x = if g == 0 then set_up_lines 1 ++ rounds_from n x else rounds_from n x
lines_behind (Round d) n x = rounds_from n x
lines_behind End n x = []

-- Accesses that reach no live table.
use Rattle.std.proofs.Common.{◌≡◌, ℕ, ◌+◌, ◌*◌, ◌/◌, ◌%◌, ◌^◌, ◌<◌, ◌≤◌, Bool, true, false, ◌||◌, cond, eqb, Option, None, Some, length, refl, sym, ap, ◌∙◌, subst, arith}
use Rattle.std.specs.Prelude.{IfSome}
use Rattle.std.proofs.lemmas.Bool.Decides.{nat_tests}
use Rattle.gv_types.specs.Memory.{Memory, half_of, memory_write, word_of}
use Rattle.gv_types.specs.declared.event.Width.{Width}
use Rattle.gv_types.specs.declared.event.Width.TheVariants.{Eight}
use Rattle.gv_types.specs.declared.ranges.Ranges.{Ranges}
use Rattle.gv_entry.specs.Entry.{global_frame}
use Rattle.gv_entry.specs.Grants.{unless}
use Rattle.gv_entry.specs.Ranges.{InParts, is_in, owns_page}
use Rattle.gv_entry.specs.SameTables.{SameTables}
use Rattle.gv_entry.specs.Tables.{is_guarded}
use Rattle.gv_entry.proofs.SameTables.{unguarded_write_keeps_tables}
use Rattle.gv_fetch.specs.Space.{dword_in}
use Rattle.gv_gpu.specs.Change.{ChangesOnly}
use Rattle.gv_gpu.specs.Device.{Device}
use Rattle.gv_gpu.specs.Part.{frames_part}
use Rattle.gv_guest.specs.Placed.{Hosts}
use Rattle.gv_private.specs.Grants.{frame_read}
use Rattle.gv_sggtt.specs.Table.{Table, guards, table_entry, table_grant}
use Rattle.gv_gtt.specs.Gtt.{memory_of, roots_in, nodes_in, own_pages, HasRoomFor}
use Rattle.gv_gtt.specs.Standing.{Translates}
use Rattle.gv_gtt.specs.declared.gtt.Gtt.{Gtt}
use Rattle.gv_gtt.proofs.Parts.{pages-frames, entries-frames}
use Rattle.gv_gtt.proofs.Standing.{translation_keeps, guards-live}

-- as many pages are live, so there is room as before
pub room-same : (d e : Device) (g : Gtt) → e.live ≡ d.live → HasRoomFor d g → HasRoomFor e g
room-same d e g same room = subst (λ (n : ℕ). n + (4 * length g.memory.frames.pages + 64) ≤ 131072 + own_pages g) (sym same) room

-- a write to a frame that is no live table, or outside of memory
pub translates-written : (d e : Device) (g : Gtt) (n : ℕ) (width : Width) (at value : ℕ) → Translates d g → Hosts e g.memory.frames → ChangesOnly (frames_part g.memory.frames.guest) n d e
    → memory_of e g ≡ memory_write (memory_of d g) width at value → is_guarded (memory_of d g) (roots_in g) (at / 4096) ≡ false → Translates e g
translates-written d e g n width at value s hosts changes memory free =
    translation_keeps d e g s hosts
    (subst (λ m. SameTables (memory_of d g) m (roots_in g)) (sym memory) (unguarded_write_keeps_tables (memory_of d g) (roots_in g) width at value free))
    (pages-frames (nodes_in g) g.memory.frames.guest d e s.serving.stands.holds.sound.local.labelled n changes)
    (λ page own. entries-frames g.memory.frames.guest n d e changes page)
    (room-same d e g changes.live s.serving.stands.holds.room)

-- ---- grants

unless-open : (guarded : ℕ → Bool) (o : Option ℕ) (frame : ℕ) → unless guarded o ≡ Some frame → guarded frame ≡ false
unless-open guarded None frame is = cc
unless-open guarded (Some k) frame is = by (guarded k) refl is
  where
    by : (b : Bool) → guarded k ≡ b → cond b None (Some k) ≡ Some frame → guarded frame ≡ false
    by true at is = cc
    by false at is = let same : k ≡ frame = cc in ap guarded (sym same) ∙ at

granted-open : (t : Table) (page frame : ℕ) → table_grant t page ≡ Some frame → guards t.guarded frame ≡ false
granted-open t page frame is = by (owns_page t.ranges page) is
  where
    by : (b : Bool) → cond b (unless (guards t.guarded) (global_frame (table_entry t page) t.frames)) None ≡ Some frame → guards t.guarded frame ≡ false
    by true is = unless-open (guards t.guarded) (global_frame (table_entry t page) t.frames) frame is
    by false is = cc

-- what a page grants is no live table
pub grant-open : (g : Gtt) (page : ℕ) (o : Option ℕ) → o ≡ table_grant g.table page → IfSome o (λ frame. (d : Device) → Translates d g → is_guarded (memory_of d g) (roots_in g) frame ≡ false)
grant-open g page None is = tt
grant-open g page (Some frame) is = λ d s. sym (guards-live d g s frame) ∙ granted-open g.table page frame (sym is)

-- below 65,536 a page that is owned is in the low range
pub low-grant : (r : Ranges) (page : ℕ) (o : Option ℕ) → InParts r → page < 65536 → cond (owns_page r page) o None ≡ cond (is_in r.low page) (cond (owns_page r page) o None) None
low-grant r page o parts low = by (is_in r.low page)
  where
    high : is_in r.high page ≡ false
    high = let from = parts.from in grind (arith, nat_tests)

    by : (b : Bool) → cond (b || is_in r.high page) o None ≡ cond b (cond (b || is_in r.high page) o None) None
    by true = refl
    by false = ap (λ c. cond c o None) high

-- ---- dwords

-- a dword is the half of its word
pub dword-half : (m : Memory) (at : ℕ) (o : Option ℕ) → half_of (frame_read m Eight (at / 8 * 8) o) at ≡ dword_in m o at
dword-half m at None = by (eqb (at % 8) 0)
  where
    by : (b : Bool) → cond b (0 % 2 ^ 32) (0 / 2 ^ 32) ≡ 0
    by true = refl
    by false = refl
dword-half m at (Some frame) =
    let word : (frame * 4096 + at / 8 * 8 % 4096) / 8 ≡ (frame * 4096 + at % 4096) / 8 = omega arith in
    let rest : at % 8 ≡ (frame * 4096 + at % 4096) % 8 = omega arith in
    λ i. cond (eqb (rest i) 0) (word_of m (word i) % 2 ^ 32) (word_of m (word i) / 2 ^ 32)

-- Between calls: memory and tables translate on where their part of the device stays, and what they mean.
use Rattle.std.proofs.Common.{◌≡◌, ℕ, ◌+◌, List, Option, None, Some, [], length, get_or, refl, sym, ap, ◌∙◌, subst, true}
use Rattle.std.proofs.lemmas.List.{length-map}
use Rattle.gv_entry.specs.Grants.{global_grant}
use Rattle.gv_entry.specs.Ranges.{owns_page}
use Rattle.gv_entry.specs.Tables.{is_guarded}
use Rattle.gv_gpu.specs.Change.{Leaves}
use Rattle.gv_gpu.specs.Device.{Device}
use Rattle.gv_gpu.specs.Part.{Part}
use Rattle.gv_gpu.proofs.Seen.{global-same}
use Rattle.gv_guest.specs.Placed.{memory_in}
use Rattle.gv_guest.proofs.Kept.{stands-kept, memory-kept}
use Rattle.gv_private.specs.Device.{PrivateDevice}
use Rattle.gv_private.specs.Grants.{page_grant}
use Rattle.gv_shape.specs.Counts.{leaves}
use Rattle.gv_shape.specs.Shadow.{Readings}
use Rattle.gv_shape.specs.Shadows.{KeepsPages}
use Rattle.gv_sggtt.specs.Mirror.{Mirrors, NamesFrame}
use Rattle.gv_sggtt.specs.Pins.{table_pins}
use Rattle.gv_sggtt.specs.Table.{guards, table_grant, table_entry}
use Rattle.gv_sppgtt.specs.Sound.{decode, reading_at}
use Rattle.gv_sppgtt.specs.State.{pages_of, readings_of}
use Rattle.gv_sppgtt.specs.declared.tables.Tables.{Tables}
use Rattle.gv_sppgtt.proofs.Few.{tables_are_few}
use Rattle.gv_sppgtt.proofs.Meaning.{serving_tables_shadow, serving_tables_tell}
use Rattle.gv_sppgtt.proofs.Standing.{serving_tables_stay, serving_tables_keep}
use Rattle.gv_gtt.specs.Gtt.{ranges_of, memory_of, roots_in, nodes_in, leaves_of, over, HasRoomFor}
use Rattle.gv_gtt.specs.Laws.{Covers, TranslationStays, TranslatedStays, TranslationKeeps, TranslationShadows, TranslationMirrors, TranslationIsSmall}
use Rattle.gv_gtt.specs.Standing.{Translates}
use Rattle.gv_gtt.specs.declared.gtt.Gtt.{Gtt}
use Rattle.gv_gtt.proofs.Parts.{pages-left}

-- ---- what stays

-- what the words of nodes stand for is the same where their pages are
pub readings-kept : (d e : Device) (t : Tables) → KeepsPages (pages_of t) d e → readings_of e t ≡ readings_of d t
readings-kept d e t keeps = λ j k f i. read_same k f i (pages_of t k f) refl j
  where
    read_same : (k f i : ℕ) (o : Option ℕ) → pages_of t k f ≡ o → reading_at e.words t.owners.items k o i ≡ reading_at d.words t.owners.items k o i
    read_same k f i None is = refl
    read_same k f i (Some p) is = ap (λ (ws : List ℕ). decode t.owners.items k (get_or ws i 0)) (keeps.words k f p is)

pub leaves-kept : (d e : Device) (g : Gtt) → KeepsPages (nodes_in g) d e → (frame : ℕ) → leaves_of e g frame ≡ leaves_of d g frame
leaves-kept d e g keeps frame = ap (λ (r : Readings). leaves (length g.memory.frames.pages) r frame) (readings-kept d e g.tables keeps)

pub mirrors-same : (d e : Device) (g : Gtt) → ((page : ℕ) → owns_page (ranges_of g) page ≡ true → e.global page ≡ d.global page) → Mirrors d g.table g.memory.frames → Mirrors e g.table g.memory.frames
mirrors-same d e g same mirrors = record { each = λ page own. subst (NamesFrame g.memory.frames (table_grant g.table page)) (sym (same page own)) (mirrors.each page own) }

pub translation_keeps : TranslationKeeps
translation_keeps d e g s hosts same pages entries room =
    let placed = g.memory.frames in
    let pins = g.memory.pins in
    let stands = s.serving.stands in
    let served = serving_tables_keep d placed pins g.tables (memory_in e placed) s.serving.serves same in
    let serves = serving_tables_stay d e placed pins pins g.tables (memory_in e placed) served hosts pages stands.holds.pinned room in
    record {
      serving = record {
        stands = record {
          table = stands.table;
          ranges = stands.ranges;
          frames = stands.frames;
          mirrors = mirrors-same d e g entries stands.mirrors;
          pins = λ frame low. stands.pins frame low ∙ ap (λ n. table_pins g.table frame + n) (sym (leaves-kept d e g pages frame));
          holds = serves.holds;
        };
        serves = serves;
      };
      guarded = s.guarded;
    }

module _ (w : Part) (d e : Device) (g : Gtt) (covers : Covers w g) (left : Leaves w d e) where
  memory : Translates d g → memory_of e g ≡ memory_of d g
  memory s = memory-kept w d e g.memory.frames covers.frames left s.serving.stands.holds.stands

  pub stays : HasRoomFor e g → Translates d g → Translates e g
  stays room s =
      let holds = s.serving.stands.holds in
      translation_keeps d e g s
      (stands-kept w d e g.memory.frames covers.frames left holds.stands)
      (record { frames = ap length (memory s); words = λ frame is. ap (λ m. get_or m frame []) (memory s) })
      (pages-left (nodes_in g) g.memory.frames.guest d e holds.sound.local.labelled w covers.nodes left)
      (λ page own. global-same w d e left.same page (covers.entries page own))
      room

  pub stays-over : (p : PrivateDevice) → Translates d g → over p e g ≡ over p d g
  stays-over p s = λ i. record (over p d g) { memory = memory s i }

pub translation_stays : TranslationStays
translation_stays w d e g covers left room s = stays w d e g covers left room s

pub translated_stays : TranslatedStays
translated_stays w d e g p covers left s = stays-over w d e g covers left p s

-- ---- what it means

pub translation_shadows : TranslationShadows
translation_shadows d g s = serving_tables_shadow d g.memory.frames g.memory.pins g.tables s.serving.serves

-- the global table guards the live tables
pub guards-live : (d : Device) (g : Gtt) → Translates d g → (frame : ℕ) → guards g.table.guarded frame ≡ is_guarded (memory_of d g) (roots_in g) frame
guards-live d g s frame = s.guarded frame ∙ serving_tables_tell d g.memory.frames g.memory.pins g.tables s.serving.serves frame

-- so it grants what the private device grants
pub grants-same : (d : Device) (g : Gtt) (p : PrivateDevice) → Translates d g → (page : ℕ) → table_grant g.table page ≡ page_grant (over p d g) page
grants-same d g p s page = λ i. global_grant g.table.ranges (count i) (λ frame. guards-live d g s frame i) (table_entry g.table) page
  where
    count : g.table.frames ≡ length (memory_of d g)
    count = sym s.serving.stands.frames ∙ sym (length-map g.memory.frames.pages d.words)

pub translation_mirrors : TranslationMirrors
translation_mirrors d g p s page own = subst (λ grant. NamesFrame g.memory.frames grant (d.global page)) (grants-same d g p s page) (s.serving.stands.mirrors.each page own)

pub translation_is_small : TranslationIsSmall
translation_is_small d g s = tables_are_few d g.memory.frames g.memory.pins g.tables s.holds

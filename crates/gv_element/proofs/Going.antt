-- An element behind a step.
use Rattle.std.proofs.Common.{◌≡◌, ℕ, suc, zero, ◌+◌, ◌*◌, ◌/◌, ◌%◌, ◌^◌, ◌<◌, ◌≤◌, Bool, true, false, cond, List, get_or, Option, None, Some, refl, ap, sym, subst, ◌∙◌, arith, lit<}
use Rattle.gv_types.specs.Bits.{has_bit}
use Rattle.gv_cmd.specs.Bits.{dword_address}
use Rattle.gv_cmd.specs.Table.{kind_of}
use Rattle.gv_cmd.specs.declared.kind.Kind.{Kind}
use Rattle.gv_cmd.specs.declared.kind.Kind.TheVariants.{BatchEnd, BatchStart}
use Rattle.gv_cmd.proofs.Starts.{header_start, kind_start}
use Rattle.gv_ctx.specs.Saved.{high_of, low_of, state_of}
use Rattle.gv_ctx.specs.declared.saved.Batch.{Batch}
use Rattle.gv_ctx.specs.declared.saved.Saved.{Saved}
use Rattle.gv_fetch.specs.Items.{Items, none, command, batch, depth}
use Rattle.gv_fetch.specs.Laws.{most_commands}
use Rattle.gv_fetch.specs.Left.{Level, Fetched, At, Left, IsLeft, started, behind, level_started, started_by, level_past, past, past_by, level_of, moved, moved_by, batch_left}
use Rattle.gv_gpu.specs.Context.{context_of}
use Rattle.gv_gpu.specs.Device.{Device, Loaded}
use Rattle.gv_gpu.specs.Step.{next_place, next_place_by, advanced, advanced_by, returned_by}
use Rattle.gv_place.specs.Place.{StandsFor}
use Rattle.gv_place.specs.Seen.{IsShort, LevelIsShort}
use Rattle.gv_sctx.specs.Context.{FitsDwords}
use Rattle.gv_sring.specs.Window.{page_at, descriptor_at}
use Rattle.gv_element.specs.Works.{Held, loaded_or, context_now, left_of, Works, WorksWith, WorksAs, Rests, KeepsWindow}
use Rattle.gv_element.proofs.Staying.{works-with, runs-kept, shows-kept}

-- ---- a step that ran

pub goes-on : (d e : Device) (guest engine root_page : ℕ) (x : Held) (works : Works d guest engine true root_page x) (place : Saved) (left : Left) → KeepsWindow x.window d e
    → e.loaded engine ≡ Some (record (context_now d guest engine true) { place = place })
    → StandsFor e (page_at x.window 1) works.runs.layout (record (context_now d guest engine true) { place = place }) left
    → IsLeft engine left → IsShort left → FitsDwords place
    → WorksWith e guest engine true root_page x left
goes-on d e guest engine root_page x works place left keeps loaded stands form short small =
    let l = context_now d guest engine true in
    let moved_on : Loaded = record l { place = place } in
    let same = runs-kept guest engine root_page d e x.window works.window works.runs.shows keeps l (left_of d guest engine true) works.runs in
    let P : ℕ → Type 0 = λ n. IsLeft n left in
    let runs : WorksAs e x.window root_page moved_on left = record {
      shows = same.shows;
      context = record { descriptor = same.context.descriptor; owner = same.context.owner; start = same.context.start; tail = same.context.tail; root = same.context.root };
      image = record { tail = same.image.tail; ring_start = same.image.ring_start; root = same.image.root };
      small = small;
      layout = works.runs.layout;
      base = works.runs.base;
      few = works.runs.few;
      stands = stands;
      form = subst P (sym works.window.engine_is) form;
      short = short;
    } in
    works-with e guest engine true root_page x moved_on left works.window runs (λ h. loaded) (ap (λ o. loaded_or o (context_of e guest (descriptor_at guest engine))) loaded)

-- ---- what is left is no deeper

behind-short : (items : Items) → depth (behind items) ≤ depth items
behind-short none = omega arith
behind-short (command ws more) = omega arith
behind-short (batch ws inside more) = omega arith

started-short : (items : Items) → depth (started items) ≤ depth items
started-short none = omega arith
started-short (command ws more) = omega arith
started-short (batch ws inside more) = omega arith

level-past-short : (level : Level) (n : ℕ) → LevelIsShort (Some level) → LevelIsShort (Some (level_past level n))
level-past-short (Fetched items) n h = let b = behind-short items in omega arith
level-past-short (At at) n h = tt

level-started-short : (level : Level) → LevelIsShort (Some level) → depth (level_started level) ≤ most_commands
level-started-short (Fetched items) h = let b = started-short items in omega arith
level-started-short (At at) h = omega arith

past-short : (w : Left) (n : ℕ) (first second : Option Level) → IsShort w → LevelIsShort first → LevelIsShort second → IsShort (past_by w n first second)
past-short w n first (Some level) short one two = record { ring = short.ring; first = short.first; second = level-past-short level n two }
past-short w n (Some level) None short one two = record { ring = short.ring; first = level-past-short level n one; second = short.second }
past-short w n None None short one two = record { ring = (let b = behind-short w.ring in let r = short.ring in omega arith); first = short.first; second = short.second }

started-by-short : (ring : Items) (first second : Option Level) → depth ring ≤ most_commands → LevelIsShort first → LevelIsShort second → depth (started_by ring first second) ≤ most_commands
started-by-short ring first (Some level) short one two = level-started-short level two
started-by-short ring (Some level) None short one two = level-started-short level one
started-by-short ring None None short one two = let b = started-short ring in omega arith

level-of-short : (live : Bool) (at : ℕ) (items : Items) → depth items ≤ most_commands → LevelIsShort (Some (level_of live at items))
level-of-short true at items h = tt
level-of-short false at items h = h

left-short : (w : Left) (second : Option Level) → IsShort w → IsShort (batch_left w second)
left-short w (Some level) short = record { ring = short.ring; first = short.first; second = tt }
left-short w None short = record { ring = short.ring; first = tt; second = short.second }

kind-short : (w : Left) (items : Items) (kind : Option Kind) → IsShort w → depth items ≤ most_commands → IsShort (moved_by w items kind)
kind-short w items (Some BatchEnd) short few = left-short w w.second short
kind-short w items (Some (BatchStart live true at)) short few = record { ring = short.ring; first = short.first; second = level-of-short live at items few }
kind-short w items (Some (BatchStart live false at)) short few = record { ring = short.ring; first = level-of-short live at items few; second = short.second }
kind-short w items kind short few = short

pub moves-short : (w : Left) (ws : List ℕ) (dwords : ℕ) → IsShort w → IsShort (moved w ws dwords)
moves-short w ws dwords short =
    kind-short (past w dwords) (started_by w.ring w.first w.second) (kind_of ws)
    (past-short w dwords w.first w.second short short.first short.second)
    (started-by-short w.ring w.first w.second short.ring short.first short.second)

-- ---- the place fits its fields

abbrev BatchFits : Option Batch → Type 0
BatchFits None = Unit {0}
BatchFits (Some b) = b.at / 2 ^ 32 < 2 ^ 32

record Fits (place : Saved) : Type 0 where
  ring : place.ring < 2 ^ 32
  first : BatchFits place.first
  second : BatchFits place.second

high-fits : (b : Option Batch) → BatchFits b → high_of b < 2 ^ 32
high-fits None h = lit< tt
high-fits (Some b) h = h

low-fits : (b : Option Batch) → low_of b < 2 ^ 32
low-fits None = lit< tt
low-fits (Some b) = omega arith

live-fits : (live : Bool) → cond live 3 1 < 2 ^ 32
live-fits true = lit< tt
live-fits false = lit< tt

state-fits : (b : Option Batch) → state_of b < 2 ^ 32
state-fits None = lit< tt
state-fits (Some b) = live-fits b.live

batch-fits : (b : Option Batch) → high_of b < 2 ^ 32 → BatchFits b
batch-fits None h = tt
batch-fits (Some b) h = h

fits-from : (place : Saved) → FitsDwords place → Fits place
fits-from place h = record { ring = h 0; first = batch-fits place.first (h 1); second = batch-fits place.second (h 4) }

fits-fields : (place : Saved) → Fits place → FitsDwords place
fits-fields place f zero = f.ring
fits-fields place f (suc zero) = high-fits place.first f.first
fits-fields place f (suc (suc zero)) = low-fits place.first
fits-fields place f (suc (suc (suc zero))) = state-fits place.first
fits-fields place f (suc (suc (suc (suc zero)))) = high-fits place.second f.second
fits-fields place f (suc (suc (suc (suc (suc zero))))) = low-fits place.second
fits-fields place f (suc (suc (suc (suc (suc (suc zero)))))) = state-fits place.second
fits-fields place f (suc (suc (suc (suc (suc (suc (suc k))))))) = lit< tt

past-fits : (place : Saved) (n : ℕ) (first second : Option Batch) → Fits place → Fits (advanced_by place n first second)
past-fits place n first (Some b) f = record { ring = f.ring; first = f.first; second = omega arith }
past-fits place n (Some b) None f = record { ring = f.ring; first = omega arith; second = f.second }
past-fits place n None None f = record { ring = omega arith; first = f.first; second = f.second }

same-at : (live second l s : Bool) (at x : ℕ) → Some (BatchStart l s x) ≡ Some (BatchStart live second at) → x ≡ at
same-at live second l s at x e = cc

low-address : (x y : ℕ) → y < 2 ^ 32 → (x % 2 ^ 16 * 2 ^ 32 + y / 4 * 4) / 2 ^ 32 < 2 ^ 32
low-address x y h = omega arith

-- the address of a start of a batch
start-fits : (ws : List ℕ) (live second : Bool) (at : ℕ) → get_or ws 1 0 < 2 ^ 32 → kind_of ws ≡ Some (BatchStart live second at) → at / 2 ^ 32 < 2 ^ 32
unfolding kind_of
start-fits ws live second at low is =
    let s = header_start live second at (get_or ws 0 0) ws is in
    let e = same-at live second (has_bit (get_or ws 0 0) 8) (has_bit (get_or ws 0 0) 22) at (dword_address ws 1) (sym (kind_start (get_or ws 0 0) ws s) ∙ is) in
    let P : ℕ → Type 0 = λ n. n / 2 ^ 32 < 2 ^ 32 in
    subst P e (low-address (get_or ws 2 0) (get_or ws 1 0) low)

left-fits : (place : Saved) (second : Option Batch) → Fits place → Fits (returned_by place second)
left-fits place (Some b) f = record { ring = f.ring; first = f.first; second = tt }
left-fits place None f = record { ring = f.ring; first = tt; second = f.second }

kind-fits : (place : Saved) (ws : List ℕ) (kind : Option Kind) → kind_of ws ≡ kind → get_or ws 1 0 < 2 ^ 32 → Fits place → Fits (next_place_by place kind)
kind-fits place ws (Some BatchEnd) is low f = left-fits place place.second f
kind-fits place ws (Some (BatchStart live true at)) is low f = record { ring = f.ring; first = f.first; second = start-fits ws live true at low is }
kind-fits place ws (Some (BatchStart live false at)) is low f = record { ring = f.ring; first = start-fits ws live false at low is; second = f.second }
kind-fits place ws kind is low f = f

pub moves-small : (place : Saved) (ws : List ℕ) (dwords : ℕ) → get_or ws 1 0 < 2 ^ 32 → FitsDwords place → FitsDwords (next_place place ws dwords)
moves-small place ws dwords low fits =
    fits-fields (next_place place ws dwords) (kind-fits (advanced place dwords) ws (kind_of ws) refl low (past-fits place dwords place.first place.second (fits-from place fits)))

-- ---- a step that ended

pub ended-rests : (d e : Device) (guest engine : ℕ) (here : Bool) (root_page : ℕ) (x : Held) → Works d guest engine here root_page x → KeepsWindow x.window d e → e.loaded engine ≡ None → Rests e x.window
ended-rests d e guest engine here root_page x works keeps none_there = record {
  shows = shows-kept guest engine root_page d e x.window works.window works.runs.shows keeps;
  unloaded = λ l is. let empty : e.loaded x.window.engine ≡ None = ap e.loaded works.window.engine_is ∙ none_there in let no = sym empty ∙ is in cc;
}

pub away-rests : (d : Device) (guest engine : ℕ) (here : Bool) (root_page : ℕ) (x : Held) → Works d guest engine here root_page x → ((l : Loaded) → d.loaded engine ≡ Some l → l.owner ≡ guest → ⊥) → Rests d x.window
away-rests d guest engine here root_page x works away = record {
  shows = works.runs.shows;
  unloaded = λ l is own. away l (ap d.loaded (sym works.window.engine_is) ∙ is) (own ∙ works.window.guest_is);
}

-- What a call leaves: nothing, one thing after another, and counts of parents alone.
use Rattle.std.proofs.Common.{ℕ, ◌+◌, ◌≡◌, Bool, false, ◌||◌, is_some, List, length, get_or, refl, sym, ap, ◌∙◌, arith}
use Rattle.gv_gpu.specs.Device.{Device}
use Rattle.gv_gpu.specs.Part.{Part, outside}
use Rattle.gv_guest.specs.Placed.{Placed}
use Rattle.gv_nodes.specs.NodeMap.{AreNodes}
use Rattle.gv_shape.specs.Shadow.{Pages}
use Rattle.gv_shape.specs.Counts.{leaves}
use Rattle.gv_sppgtt.specs.Sound.{readings_in}
use Rattle.gv_sppgtt.specs.State.{own_in, is_table, pages_of, readings_of}
use Rattle.gv_sppgtt.specs.Holding.{Keeps}
use Rattle.gv_sppgtt.specs.declared.tables.Tables.{Tables}
use Rattle.gv_sppgtt.proofs.LiveCounts.{live-none, live-same, live_trans}
use Rattle.gv_sppgtt.proofs.OwnPages.{own-same, part-same}

pub is_table-same : (p q : Pages) (f : ℕ) → ((k : ℕ) → p k f ≡ q k f) → is_table p f ≡ is_table q f
is_table-same p q f same = λ i. is_some (same 4 i) || (is_some (same 3 i) || (is_some (same 2 i) || is_some (same 1 i)))

pub keeps-none : (placed : Placed) (d : Device) (t : Tables) (pins : List ℕ) → Keeps placed d d t t pins pins
keeps-none placed d t pins = record { memory = refl; outside = refl; live = live-none (length placed.pages) d (pages_of t); guest = refl; told = refl; pins = λ h. refl; blocks = λ b h. h; tables = λ f h. refl }

pub keeps_trans : (placed : Placed) (d e f : Device) (t u v : Tables) (x y z : List ℕ) → Keeps placed d e t u x y → Keeps placed e f u v y z → Keeps placed d f t v x z
keeps_trans placed d e f t u v x y z first second = record {
  memory = second.memory ∙ first.memory;
  outside = second.outside ∙ first.outside;
  live = live_trans (length placed.pages) d e f (pages_of t) (pages_of u) (pages_of v) first.live second.live;
  guest = second.guest ∙ first.guest;
  told = second.told ∙ first.told;
  pins = λ h. let a = first.pins h in let b = second.pins h in omega arith;
  blocks = λ b h. first.blocks b (second.blocks b h);
  tables = λ f h. second.tables f h ∙ first.tables f (second.blocks _ h);
}

-- the nodes keep their pages
pub keeps-nodes : (placed : Placed) (d : Device) (t u : Tables) (pins : List ℕ) → AreNodes t.nodes → AreNodes u.nodes → ((k f : ℕ) → pages_of u k f ≡ pages_of t k f)
    → u.owners ≡ t.owners → u.guest ≡ t.guest → u.told ≡ t.told → u.touched ≡ t.touched → Keeps placed d d t u pins pins
keeps-nodes placed d t u pins before after pages owners guest told touched =
    let same : pages_of u ≡ pages_of t = λ i k f. pages k f i in
    let readings : readings_of d u ≡ readings_of d t = λ i. readings_in d.words (owners i).items (same i) in
    record {
      memory = refl;
      outside = ap (λ (p : Part). outside p d) (part-same placed.guest (own_in t.nodes) (own_in u.nodes) (own-same t.nodes u.nodes before after pages));
      live = live-same (length placed.pages) d d (pages_of t) (pages_of u) refl same;
      guest = guest;
      told = told;
      pins = λ h. ap (λ r. get_or pins h 0 + leaves (length placed.pages) r h) (sym readings);
      blocks = λ b h. ap (λ (l : List Bool). get_or l b false) (sym touched) ∙ h;
      tables = λ f h. is_table-same (pages_of u) (pages_of t) f (λ k. pages k f);
    }

-- Memory and tables stand on where their part of the device is as it was, whatever a call answered.
use Rattle.std.proofs.Common.{ℕ, ◌+◌, ◌≡◌, List, length, get_or, sym, ap, ◌∙◌, subst}
use Rattle.gv_entry.specs.declared.process.Process.{Process}
use Rattle.gv_gpu.specs.Change.{Leaves}
use Rattle.gv_gpu.specs.Device.{Device}
use Rattle.gv_gpu.proofs.Seen.{global-same}
use Rattle.gv_guest.proofs.Kept.{stands-kept, memory-kept}
use Rattle.gv_shape.specs.Shadow.{Names, Readings}
use Rattle.gv_shape.specs.Shadows.{KeepsPages}
use Rattle.gv_sggtt.specs.Pins.{table_pins}
use Rattle.gv_sppgtt.specs.Holding.{Holds as TablesHold}
use Rattle.gv_sppgtt.specs.Sound.{flag, Chained, Counted, Pinned}
use Rattle.gv_sppgtt.specs.State.{parents_of, readings_of}
use Rattle.gv_gtt.specs.Gtt.{gtt_part, memory_of, nodes_in, HasRoomFor}
use Rattle.gv_gtt.specs.Standing.{Stands}
use Rattle.gv_gtt.specs.declared.gtt.Gtt.{Gtt}
use Rattle.gv_gtt.proofs.Others.{part-covers}
use Rattle.gv_gtt.proofs.Parts.{pages-left}
use Rattle.gv_gtt.proofs.Standing.{leaves-kept, mirrors-same, readings-kept}

module _ (d e : Device) (g : Gtt) (left : Leaves (gtt_part g) d e) (stands : Stands d g) where
  pages : KeepsPages (nodes_in g) d e
  pages = pages-left (nodes_in g) g.memory.frames.guest d e stands.holds.sound.local.labelled (gtt_part g) (part-covers g).nodes left

  readings : readings_of e g.tables ≡ readings_of d g.tables
  readings = readings-kept d e g.tables pages

  tables : HasRoomFor e g → TablesHold e g.memory.frames g.tables g.memory.pins
  tables room =
      let sound = stands.holds.sound in
      record {
        stands = stands-kept (gtt_part g) d e g.memory.frames (part-covers g).frames left stands.holds.stands;
        sound = record {
          frames = sound.frames;
          chains_long = sound.chains_long;
          told_long = sound.told_long;
          owners_long = sound.owners_long;
          boarded = record {
            low = sound.boarded.low;
            whole = sound.boarded.whole;
            long = λ k f p is. ap length (pages.words k f p is) ∙ sound.boarded.long k f p is;
            below = sound.boarded.below;
            apart = sound.boarded.apart;
            owner = sound.boarded.owner;
          };
          local = record {
            labelled = λ k f p is. pages.label k f p is ∙ sound.local.labelled k f p is;
            names = λ k f p i is small.
                subst (λ (r : Process). Names g.memory.frames (nodes_in g) (flag g.tables.told.items) k r (get_or (e.words p) i 0)) (λ j. sym readings j k f i)
                (subst (λ (ws : List ℕ). Names g.memory.frames (nodes_in g) (flag g.tables.told.items) k (readings_of d g.tables k f i) (get_or ws i 0)) (sym (pages.words k f p is)) (sound.local.names k f p i is small));
          };
          chained = subst (λ (r : Readings). Chained (nodes_in g) r g.tables.chains) (sym readings) sound.chained;
          counted = subst (λ (r : Readings). Counted (length g.memory.frames.pages) (parents_of g.tables) r) (sym readings) sound.counted;
        };
        pinned = (stands.holds.pinned.0, subst (λ (r : Readings). Pinned (length g.memory.frames.pages) g.memory.pins r) (sym readings) stands.holds.pinned.1);
        guest = stands.holds.guest;
        few = stands.holds.few;
        nodes = stands.holds.nodes;
        room = room;
      }

  pub stands-left : HasRoomFor e g → Stands e g
  stands-left room = record {
    table = stands.table;
    ranges = stands.ranges;
    frames = stands.frames;
    mirrors = mirrors-same d e g (λ page own. global-same (gtt_part g) d e left.same page ((part-covers g).entries page own)) stands.mirrors;
    pins = λ frame low. stands.pins frame low ∙ ap (λ n. table_pins g.table frame + n) (sym (leaves-kept d e g pages frame));
    holds = tables room;
  }

  pub memory-left : memory_of e g ≡ memory_of d g
  memory-left = memory-kept (gtt_part g) d e g.memory.frames (part-covers g).frames left stands.holds.stands

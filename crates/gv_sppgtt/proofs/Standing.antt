-- Between calls: tables serve on while their pages stay, and while the words of guarded frames stay.
use Rattle.std.proofs.Common.{ℕ, ◌≡◌, List, Option, None, Some, length, get_or, refl, sym, ap, ◌∙◌, subst, arith, ⊎_elim}
use Rattle.std.proofs.lemmas.Bool.{cases_lt}
use Rattle.gv_types.specs.Memory.{Memory}
use Rattle.gv_entry.specs.declared.process.Process.{Process}
use Rattle.gv_entry.specs.Entry.{process_entry}
use Rattle.gv_entry.specs.Tables.{frame_words}
use Rattle.gv_gpu.specs.Device.{Device}
use Rattle.gv_guest.specs.Placed.{Placed, Hosts, memory_in}
use Rattle.gv_shape.specs.Shadow.{Names, Readings}
use Rattle.gv_shape.specs.Shadows.{KeepsPages}
use Rattle.gv_shape.proofs.Levels.{wanted-low, wanted-high}
use Rattle.gv_sppgtt.specs.Sound.{decode, flag, reading_at, Chained, Counted, Pinned}
use Rattle.gv_sppgtt.specs.Grown.{Rests}
use Rattle.gv_sppgtt.specs.State.{pages_of, parents_of, readings_of, IsPinned, HasRoom}
use Rattle.gv_sppgtt.specs.Serving.{roots_of, Serves}
use Rattle.gv_sppgtt.specs.Laws.{ServingTablesStay, ServingTablesKeep}
use Rattle.gv_sppgtt.specs.declared.tables.Tables.{Tables}
use Rattle.gv_sppgtt.proofs.Meaning.{serving_tables_shadow}

module _ (d e : Device) (placed : Placed) (pins after : List ℕ) (t : Tables) (m : Memory) (s : Serves d placed pins t m) (stands : Hosts e placed) (keeps : KeepsPages (pages_of t) d e)
    (pinned : IsPinned d placed t after) (room : HasRoom e placed t) where
  read_same : (k f i : ℕ) (o : Option ℕ) → pages_of t k f ≡ o → reading_at e.words t.owners.items k o i ≡ reading_at d.words t.owners.items k o i
  read_same k f i None is = refl
  read_same k f i (Some p) is = ap (λ (ws : List ℕ). decode t.owners.items k (get_or ws i 0)) (keeps.words k f p is)

  readings : readings_of e t ≡ readings_of d t
  readings = λ j k f i. read_same k f i (pages_of t k f) refl j

  stays : Serves e placed after t m
  stays = record {
    holds = record {
      stands = stands;
      sound = record {
        frames = s.holds.sound.frames;
        chains_long = s.holds.sound.chains_long;
        told_long = s.holds.sound.told_long;
        owners_long = s.holds.sound.owners_long;
        boarded = record {
          low = s.holds.sound.boarded.low;
          whole = s.holds.sound.boarded.whole;
          long = λ k f p is. ap length (keeps.words k f p is) ∙ s.holds.sound.boarded.long k f p is;
          below = s.holds.sound.boarded.below;
          apart = s.holds.sound.boarded.apart;
          owner = s.holds.sound.boarded.owner;
        };
        local = record {
          labelled = λ k f p is. keeps.label k f p is ∙ s.holds.sound.local.labelled k f p is;
          names = λ k f p i is small.
              subst (λ (r : Process). Names placed (pages_of t) (flag t.told.items) k r (get_or (e.words p) i 0)) (sym (read_same k f i (pages_of t k f) refl))
              (subst (λ (ws : List ℕ). Names placed (pages_of t) (flag t.told.items) k (readings_of d t k f i) (get_or ws i 0)) (sym (keeps.words k f p is)) (s.holds.sound.local.names k f p i is small));
        };
        chained = subst (λ (r : Readings). Chained (pages_of t) r t.chains) (sym readings) s.holds.sound.chained;
        counted = subst (λ (r : Readings). Counted (length placed.pages) (parents_of t) r) (sym readings) s.holds.sound.counted;
      };
      pinned = (pinned.0, subst (λ (r : Readings). Pinned (length placed.pages) after r) (sym readings) pinned.1);
      guest = s.holds.guest;
      few = s.holds.few;
      nodes = s.holds.nodes;
      room = room;
    };
    rests = subst (λ (r : Readings). Rests (length placed.pages) m (roots_of t) 0 0 0 (record { pages = pages_of t; parents = parents_of t; readings = r })) (sym readings) s.rests;
    told = s.told;
    untouched = s.untouched;
  }

pub serving_tables_stay : ServingTablesStay
serving_tables_stay d e placed pins after t m s stands keeps pinned room = stays d e placed pins after t m s stands keeps pinned room

pub serving_tables_keep : ServingTablesKeep
serving_tables_keep d placed pins t n s same =
    let m = memory_in d placed in
    let shadow = serving_tables_shadow d placed pins t s in
    record {
      holds = s.holds;
      rests = record {
        counted = s.rests.counted;
        alive = s.rests.alive;
        same = λ k f p i is small apart. s.rests.same k f p i is small apart ∙ sym (⊎_elim
            (λ low. wanted-low n k f i low
            ∙ ap (λ (ws : List ℕ). process_entry (get_or ws i 0) k (length n)) (same.words f (shadow.tables k f p (omega arith) is))
            ∙ ap (process_entry (get_or (frame_words m f) i 0) k) same.frames
            ∙ sym (wanted-low m k f i low))
            (λ high. wanted-high n k f i high ∙ sym (wanted-high m k f i high))
            (cases_lt k 5));
      };
      told = s.told;
      untouched = s.untouched;
    }

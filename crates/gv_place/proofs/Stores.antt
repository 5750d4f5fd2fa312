-- A command whose stores go to no shadow page of the guest's leaves the copies.
use Rattle.std.proofs.Common.{◌≡◌, ◌≢◌, ℕ, suc, zero, ◌+◌, Bool, false, List, Option, None, Some, refl, ap, sym, subst, ◌∙◌, arith}
use Rattle.std.proofs.lemmas.Bool.Decides.{nat_tests}
use Rattle.gv_types.specs.Maps.{put}
use Rattle.gv_types.specs.declared.ids.Label.{Label}
use Rattle.gv_cmd.specs.Effect.{effect}
use Rattle.gv_cmd.specs.Table.{kind_of}
use Rattle.gv_cmd.specs.Simulation.{Access, access, MayDo, Simulates}
use Rattle.gv_cmd.proofs.Simulation.{effects_agree}
use Rattle.gv_gpu.specs.Device.{Device}
use Rattle.gv_gpu.specs.Physical.{write_page, word_stored, operand_stored, byte_stored}
use Rattle.gv_gpu.specs.Step.{Stepping, bytes_stored, operations}
use Rattle.gv_place.specs.Place.{KeepsShadow, Unchanged, GoesElsewhere}
use Rattle.gv_place.specs.Laws.{StoresKeep}
use Rattle.gv_gpu.specs.Part.{shadow_label}

-- No access that may be made, and no address of the root's memory, writes a shadow page of the guest's,
-- whatever else was written before.
pub record WritesFrames (guest root : ℕ) (d : Device) (May : Access → Type 0) : Type 0 where
  pub accessed : (e : Device) → Unchanged guest d e → (global : Bool) (at page : ℕ) → May (access global at) → write_page e root global at ≡ Some page → d.label page ≢ Some (shadow_label guest)
  pub drawn : (e : Device) → Unchanged guest d e → (at page : ℕ) → write_page e root false at ≡ Some page → d.label page ≢ Some (shadow_label guest)

module _ (guest root : ℕ) (d : Device) where
  put-elsewhere : (f : ℕ → List ℕ) (p : ℕ) (ws : List ℕ) (q : ℕ) → q ≢ p → put f p ws q ≡ f q
  put-elsewhere f p ws q differ = grind (arith, nat_tests)

  word-stored : (e : Device) → Unchanged guest d e → (page : Option ℕ) (at word : ℕ) → ((p : ℕ) → page ≡ Some p → d.label p ≢ Some (shadow_label guest)) → Unchanged guest d (word_stored e page at word)
  word-stored e same None at word away = record { label = same.label; global = same.global; words = same.words }
  word-stored e same (Some p) at word away = record {
    label = same.label;
    global = same.global;
    words = λ q own. put-elsewhere e.words p _ q (λ is. away p refl (ap d.label (sym is) ∙ own)) ∙ same.words q own;
  }

  module _ (May : Access → Type 0) (frames : WritesFrames guest root d May) where
    operand-stored : (e : Device) → Unchanged guest d e → (global : Bool) (at value : ℕ) → May (access global at) → Unchanged guest d (operand_stored e root global at value)
    unfolding operand_stored
    operand-stored e same global at value may = word-stored e same (write_page e root global at) at _ (λ p is. frames.accessed e same global at p may is)

    byte-stored : (e : Device) → Unchanged guest d e → (at value : ℕ) → Unchanged guest d (byte_stored e root false at value)
    unfolding byte_stored
    byte-stored e same at value = word-stored e same (write_page e root false at) at _ (λ p is. frames.drawn e same at p is)

    -- what stays of a step's state
    pub record Stays (s : Stepping) : Type 0 where
      pub rooted : s.context.root ≡ root
      pub device : Unchanged guest d s.device

    bytes-stored : (s : Stepping) (at : ℕ) (bytes : ℕ → ℕ) (n : ℕ) → Stays s → Stays (bytes_stored s at bytes n)
    unfolding bytes_stored
    bytes-stored s at bytes zero stays = stays
    bytes-stored s at bytes (suc n) stays =
        let t = bytes_stored s at bytes n in
        let before = bytes-stored s at bytes n stays in
        record {
          rooted = before.rooted;
          device = let P : ℕ → Type 0 = λ r. Unchanged guest d (byte_stored t.device r false (at + n) (bytes n)) in subst P (sym before.rooted) (byte-stored t.device before.device (at + n) (bytes n));
        }

    pub record Same (x y : Stepping) : Type 0 where
      pub equal : x ≡ y
      pub stays : Stays y

    simulates : Simulates operations operations Same May
    simulates = record {
      load_gives = λ x y global at same may. ap (λ s. operations.load_gives s global at) same.equal;
      load_leaves = λ x y global at same may. record { equal = ap (λ s. operations.load_leaves s global at) same.equal; stays = record { rooted = same.stays.rooted; device = same.stays.device } };
      stored = λ x y global at value same may. record {
        equal = ap (λ s. operations.stored s global at value) same.equal;
        stays = record {
          rooted = same.stays.rooted;
          device = let P : ℕ → Type 0 = λ r. Unchanged guest d (operand_stored y.device r global at value) in subst P (sym same.stays.rooted) (operand-stored y.device same.stays.device global at value may);
        };
      };
      row_copied = λ x y to from bytes same. record { equal = ap (λ s. operations.row_copied s to from bytes) same.equal; stays = bytes-stored _ _ _ bytes (record { rooted = same.stays.rooted; device = same.stays.device }) };
      row_filled = λ x y to bytes colour depth same. record { equal = ap (λ s. operations.row_filled s to bytes colour depth) same.equal; stays = bytes-stored y _ _ bytes same.stays };
      general_gives = λ x y n small same. ap (λ s. operations.general_gives s n) same.equal;
      general_set = λ x y n value small same. record { equal = ap (λ s. operations.general_set s n value) same.equal; stays = record { rooted = same.stays.rooted; device = record { label = same.stays.device.label; global = same.stays.device.global; words = same.stays.device.words } } };
    }

    pub effect-keeps : (image : ℕ) (ws : List ℕ) (engine : ℕ) (privileged : Bool) (s : Stepping) → s.context.root ≡ root → s.device ≡ d → MayDo May engine privileged (kind_of ws)
        → KeepsShadow guest image d (effect operations ws engine privileged s).after.device
    effect-keeps image ws engine privileged s rooted is may =
        let P : Device → Type 0 = λ e. Unchanged guest d e in
        let here : Unchanged guest d d = record { label = refl; global = refl; words = λ q own. refl } in
        let start : Same s s = record { equal = refl; stays = record { rooted = rooted; device = subst P (sym is) here } } in
        let done = (effects_agree operations operations Same May simulates ws engine privileged s s start may).after.stays.device in
        record {
          entry = λ i window. ap (λ (f : ℕ → ℕ). f i) done.global;
          label = λ q own. ap (λ (f : ℕ → Option Label). f q) done.label;
          words = λ q own differ. done.words q own;
        }

pub stores-keep : StoresKeep
stores-keep guest root image d drawn ws engine privileged s rooted is may =
    effect-keeps guest root d (GoesElsewhere guest root d)
    (record { accessed = λ e same global at page may there. may e same page there; drawn = λ e same at page there. drawn at e same page there })
    image ws engine privileged s rooted is may

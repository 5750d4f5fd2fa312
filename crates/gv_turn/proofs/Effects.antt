-- What a command leaves of the device: a wait that doesn't hold all, and any other the shadow pages and the rest.
use Rattle.std.proofs.Common.{◌≡◌, ℕ, Bool, true, false, not, ◌&&◌, List, [], Option, Some, None, cond, refl, ap, ◌∙◌, eqb}
use Rattle.gv_cmd.specs.Effect.{Effect, effect, effect_of, performed, is_skipped, compares, waited}
use Rattle.gv_cmd.specs.Table.{kind_of}
use Rattle.gv_cmd.specs.declared.kind.Kind.{Kind}
use Rattle.gv_cmd.specs.declared.kind.Kind.TheVariants.{SemaphoreWait}
use Rattle.gv_gpu.specs.Device.{Device, counted}
use Rattle.gv_gpu.specs.Part.{Part, outside, step_part, is_frame_of, shadow_label}
use Rattle.gv_gpu.specs.Step.{Stepping, operations, settled}
use Rattle.gv_place.specs.Place.{KeepsShadow, Unchanged}
use Rattle.gv_types.specs.declared.ids.Label.{Label}

-- ---- a wait

waits-device : (b : Bool) (s : Stepping) → (waited b s).after.device ≡ s.device
waits-device true s = refl
waits-device false s = refl

performed-waits : (ws : List ℕ) (engine : ℕ) (s : Stepping) (kind : Kind) → (performed operations ws engine s kind).raise ≡ None → (performed operations ws engine s kind).after.device ≡ s.device
performed-waits ws engine s (SemaphoreWait global compare operand at) is = waits-device (compares compare (operations.load_gives s global at) operand) (operations.load_leaves s global at)
performed-waits ws engine s kind is = cc

skipped-waits : (ws : List ℕ) (engine : ℕ) (s : Stepping) (kind : Kind) (b : Bool) → (let e : Effect Stepping = cond b (record { after = s; raise = Some 0 }) (performed operations ws engine s kind) in e.raise ≡ None) → (let e : Effect Stepping = cond b (record { after = s; raise = Some 0 }) (performed operations ws engine s kind) in e.after.device ≡ s.device)
skipped-waits ws engine s kind true is = refl
skipped-waits ws engine s kind false is = performed-waits ws engine s kind is

kind-waits : (ws : List ℕ) (engine : ℕ) (privileged : Bool) (s : Stepping) (kind : Option Kind) → (effect_of operations ws engine privileged s kind).raise ≡ None → (effect_of operations ws engine privileged s kind).after.device ≡ s.device
kind-waits ws engine privileged s None is = refl
kind-waits ws engine privileged s (Some kind) is = skipped-waits ws engine s kind (not privileged && is_skipped engine kind) is

-- a command that waits leaves the device as it is
pub wait-leaves : (ws : List ℕ) (engine : ℕ) (privileged : Bool) (s : Stepping) → (effect operations ws engine privileged s).raise ≡ None → (effect operations ws engine privileged s).after.device ≡ s.device
wait-leaves ws engine privileged s is = kind-waits ws engine privileged s (kind_of ws) is

-- ---- strays

pub settled-straight : (s : Stepping) → s.strayed ≡ false → settled s ≡ s.device
settled-straight s is = ap (λ b. record (s.device) { strays = cond b (counted s.device.strays) s.device.strays }) is

-- ---- shadow pages

hidden : {A : Type 0} (b c : Bool) (x y none : A) → b ≡ false → c ≡ false → cond b none x ≡ cond c none y → x ≡ y
hidden true c x y none ib ic h = cc
hidden false true x y none ib ic h = cc
hidden false false x y none ib ic h = h

words-others : (p : Part) (d e : Device) (n : ℕ) → p.page n (d.label n) ≡ false → p.page n (e.label n) ≡ false → outside p e ≡ outside p d → e.words n ≡ d.words n
words-others p d e n before after same = hidden (p.page n (e.label n)) (p.page n (d.label n)) (e.words n) (d.words n) [] after before (ap (λ (x : Device). x.words n) same)

no_frame : (guest : ℕ) → is_frame_of guest (Some (shadow_label guest)) ≡ false
no_frame guest = neither (eqb guest guest)
  where
    neither : (b : Bool) → (b && false) ≡ false
    neither true = refl
    neither false = refl

-- What a command leaves of the device's pages and entries.
pub unchanged : (guest engine : ℕ) (d e : Device) → e.label ≡ d.label → e.global ≡ d.global → outside (step_part guest engine) e ≡ outside (step_part guest engine) d → Unchanged guest d e
unchanged guest engine d e labels entries same = record {
  label = labels;
  global = entries;
  words = λ q own.
      let before : is_frame_of guest (d.label q) ≡ false = ap (is_frame_of guest) own ∙ no_frame guest in
      words-others (step_part guest engine) d e q before (ap (λ (f : ℕ → Option Label). is_frame_of guest (f q)) labels ∙ before) same;
}

pub keeps-shadow : (guest image : ℕ) (d e : Device) → Unchanged guest d e → KeepsShadow guest image d e
keeps-shadow guest image d e same = record {
  entry = λ i window. ap (λ (f : ℕ → ℕ). f i) same.global;
  label = λ q own. ap (λ (f : ℕ → Option Label). f q) same.label;
  words = λ q own differ. same.words q own;
}

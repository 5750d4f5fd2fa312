-- What two devices with the same part have in common.
use Rattle.std.proofs.Common.{◌≡◌, ℕ, Bool, true, false, [], None, Some, refl, ap, ◌∙◌, cond}
use Rattle.gv_gpu.specs.Device.{Device}
use Rattle.gv_gpu.specs.Part.{Part, inside, outside}
use Rattle.gv_types.specs.declared.ids.Label.{Label}

shown : {A : Type 0} (b : Bool) (x y none : A) → b ≡ true → cond b x none ≡ y → x ≡ y
shown true x y none is h = h
shown false x y none is h = cc

module _ (w : Part) (d e : Device) (same : inside w e ≡ inside w d) where
  shown_label : (n : ℕ) (l : Label) → (b : Bool) → w.page n (e.label n) ≡ b → cond b (e.label n) None ≡ Some l → (b ≡ true) × (e.label n ≡ Some l)
  shown_label n l true at h = (refl, h)
  shown_label n l false at h = cc

  both_labels : (n : ℕ) (l : Label) → w.page n (Some l) ≡ true → d.label n ≡ Some l → (w.page n (e.label n) ≡ true) × (e.label n ≡ Some l)
  both_labels n l own is =
      let here : w.page n (d.label n) ≡ true = ap (w.page n) is ∙ own in
      shown_label n l (w.page n (e.label n)) refl (ap (λ (x : Device). x.label n) same ∙ ap (λ b. cond b (d.label n) None) here ∙ is)

  -- A page of the part keeps its label and its words.
  pub label-same : (n : ℕ) (l : Label) → w.page n (Some l) ≡ true → d.label n ≡ Some l → e.label n ≡ Some l
  label-same n l own is = (both_labels n l own is).1

  pub words-same : (n : ℕ) (l : Label) → w.page n (Some l) ≡ true → d.label n ≡ Some l → e.words n ≡ d.words n
  words-same n l own is =
      let here : w.page n (d.label n) ≡ true = ap (w.page n) is ∙ own in
      shown (w.page n (e.label n)) (e.words n) (d.words n) [] (both_labels n l own is).0 (ap (λ (x : Device). x.words n) same ∙ ap (λ b. cond b (d.words n) []) here)

  pub global-same : (i : ℕ) → w.entry i ≡ true → e.global i ≡ d.global i
  global-same i own = shown (w.entry i) (e.global i) (d.global i) 0 own (ap (λ (x : Device). x.global i) same ∙ ap (λ b. cond b (d.global i) 0) own)

  pub general-same : (k : ℕ) → w.engine k ≡ true → e.general k ≡ d.general k
  general-same k own = shown (w.engine k) (e.general k) (d.general k) (λ _. 0) own (ap (λ (x : Device). x.general k) same ∙ ap (λ b. cond b (d.general k) (λ _. 0)) own)

  pub loaded-same : (k : ℕ) → w.engine k ≡ true → e.loaded k ≡ d.loaded k
  loaded-same k own = shown (w.engine k) (e.loaded k) (d.loaded k) None own (ap (λ (x : Device). x.loaded k) same ∙ ap (λ b. cond b (d.loaded k) None) own)

hidden : {A : Type 0} (b : Bool) (x y none : A) → b ≡ false → cond b none x ≡ cond b none y → x ≡ y
hidden true x y none is h = cc
hidden false x y none is h = h

-- An entry that isn't in the part that changed is as before.
pub global-others : (p : Part) (d e : Device) (i : ℕ) → p.entry i ≡ false → outside p e ≡ outside p d → e.global i ≡ d.global i
global-others p d e i other same = hidden (p.entry i) (e.global i) (d.global i) 0 other (ap (λ (x : Device). x.global i) same)

-- An engine that isn't in the part that changed is as before.
module _ (p : Part) (d e : Device) (k : ℕ) (other : p.engine k ≡ false) (same : outside p e ≡ outside p d) where
  pub general-others : e.general k ≡ d.general k
  general-others = hidden (p.engine k) (e.general k) (d.general k) (λ _. 0) other (ap (λ (x : Device). x.general k) same)

  pub loaded-others : e.loaded k ≡ d.loaded k
  loaded-others = hidden (p.engine k) (e.loaded k) (d.loaded k) None other (ap (λ (x : Device). x.loaded k) same)

-- A page that isn't in the part that changed, before or after, keeps its label.
pub label-others : (p : Part) (d e : Device) (n : ℕ) → p.page n (d.label n) ≡ false → p.page n (e.label n) ≡ false → outside p e ≡ outside p d → e.label n ≡ d.label n
label-others p d e n before after same =
    let shown_label : cond (p.page n (e.label n)) None (e.label n) ≡ cond (p.page n (d.label n)) None (d.label n) = ap (λ (x : Device). x.label n) same in
    rw (before, after) at shown_label

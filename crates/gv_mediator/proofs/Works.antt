-- Which guests have work on an engine, one after another.
use Rattle.std.proofs.Common.{◌≡◌, ℕ, ◌+◌, ◌<◌, ◌≤◌, Bool, false, Option, List, [], ◌∷◌, length, get_or, set, take, map, ap, sym, ◌∙◌, ⊎_elim, subst, refl, arith, length-take, get_or-take}
use Rattle.std.proofs.lemmas.Bool.{cases_eq}
use Rattle.std.proofs.lemmas.List.{same_lists, length-map, get_or-map, get_or_default, get_or-set_same, get_or-set_other}
use Rattle.gv_gpu.specs.Device.{Device}
use Rattle.gv_gtt.specs.Gtt.{number_of}
use Rattle.gv_machine.specs.Machine.{work_on}
use Rattle.gv_private.specs.Work.{has_work}
use Rattle.gv_vgpu.specs.Vgpu.{private_of}
use Rattle.gv_vgpu.specs.declared.vgpu.Vgpu.{Vgpu}
use Rattle.gv_mediator.specs.Rota.{owns}
use Rattle.gv_mediator.specs.Tied.{devices_in}
use Rattle.gv_mediator.proofs.OneGuest.{device_in}

-- of the first n guests, whichever engines they own
abbrev pub AreWorks : List Bool → List Vgpu → ℕ → ℕ → Type 0
AreWorks works guests engine n = (k : ℕ) (v : Vgpu) (d : Device) (here : ℕ → Bool) → k < n → get_or guests k v ≡ v → get_or works k false ≡ has_work engine (private_of d v here)

pub works-more :
    (works : List Bool) (guests : List Vgpu) (engine n : ℕ) (x : Vgpu) (b : Bool) → n < length works → n < length guests → AreWorks works guests engine n
    → ((d : Device) (here : ℕ → Bool) → b ≡ has_work engine (private_of d (get_or guests n x) here)) → AreWorks (set works n b) guests engine (n + 1)
works-more works guests engine n x b within there before is = λ k v d here h at. ⊎_elim
    (λ same.
    ap (λ j. get_or (set works n b) j false) same
    ∙ get_or-set_same works n b false within
    ∙ is d here
    ∙ ap (λ (y : Vgpu). has_work engine (private_of d y here)) (get_or_default guests n x v there ∙ ap (λ j. get_or guests j v) (sym same) ∙ at))
    (λ differ. let less : k < n = omega arith in get_or-set_other works n k b false differ ∙ before k v d here less at)
    (cases_eq k n)

module _ (works : List Bool) (guests : List Vgpu) (engine : ℕ) (d : Device) (owners : ℕ → Option ℕ) (enough : length guests ≤ length works) (all : AreWorks works guests engine (length guests)) where
  at : (first : Vgpu) (k : ℕ) (b : Bool) → k < length guests → get_or (take (length guests) works) k b ≡ get_or (work_on engine (devices_in d owners guests)) k b
  at first k b h =
      let v = get_or guests k first in
      let private = device_in d owners in
      let there : k < length (map private guests) = subst (λ n. k < n) (sym (length-map guests private)) h in
      get_or-take (length guests) works k b h
      ∙ get_or_default works k b false (omega arith)
      ∙ all k v d (owns owners (number_of v.gtt)) h (get_or_default guests k v first h)
      ∙ sym (get_or-map (has_work engine) (map private guests) k (private first) b there ∙ ap (has_work engine) (get_or-map private guests k first (private first) h))

  length_same : length (take (length guests) works) ≡ length (work_on engine (devices_in d owners guests))
  length_same = simp (length-take, length-map) (omega arith)

pub works-all : (works : List Bool) (guests : List Vgpu) (engine : ℕ) (d : Device) (owners : ℕ → Option ℕ) → length guests ≤ length works → AreWorks works guests engine (length guests) → take (length guests) works ≡ work_on engine (devices_in d owners guests)
works-all works [] engine d owners enough all = refl
works-all works (first ∷ more) engine d owners enough all =
    same_lists (take (length (first ∷ more)) works) (work_on engine (devices_in d owners (first ∷ more))) (length_same works (first ∷ more) engine d owners enough all)
    (λ k b h. at works (first ∷ more) engine d owners enough all first k b (omega (arith, simp length-take at h)))

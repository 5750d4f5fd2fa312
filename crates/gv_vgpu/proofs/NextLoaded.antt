-- The turn of an engine that has a list and no element: the next one is loaded.
use Rattle.std.proofs.Common.{◌≡◌, ℕ, Bool, false, List, [], ◌∷◌, None, Some, Result, Ok, Err, if◌then◌else◌, refl, sym, ◌∙◌, subst}
use Rattle.std.proofs.lemmas.List.{append-nil}
use Rattle.gv_types.specs.declared.reply.Outcome.TheVariants.{Failed, Idle, Loaded}
use Rattle.gv_types.specs.declared.reply.Reason.{Reason}
use Rattle.gv_csb.specs.Slots.{current_of}
use Rattle.gv_gpu.specs.Device.{Device}
use Rattle.gv_gtt.specs.Gtt.{memory_of, number_of}
use Rattle.gv_mmio.specs.Mmio.{ports_at}
use Rattle.gv_private.specs.Device.{PrivateDevice, fails, quietly}
use Rattle.gv_private.specs.Load.{loaded}
use Rattle.gv_private.specs.Turn.{load_by, next_by, turned, turned_as, turned_by}
use Rattle.gv_vgpu.specs.Changes.{Makes, MayFail, MayLoad, Turns, injected, journalled}
use Rattle.gv_vgpu.specs.Loading.{Refuses}
use Rattle.gv_vgpu.specs.Vgpu.{element_in, engine_at, private_of}
use Rattle.gv_vgpu.specs.Standing.{Holds}
use Rattle.gv_vgpu.specs.declared.load.Refusal.{Refusal}
use Rattle.gv_vgpu.specs.declared.load.Refusal.TheVariants.{Fails}
use Rattle.gv_vgpu.specs.declared.vgpu.Vgpu.{Vgpu}
use Rattle.gv_vgpu.specs.declared.notice.Notice.{Notice}
use Rattle.gv_vgpu.proofs.Copies.{may-load}
use Rattle.gv_vgpu.proofs.Failing.{fails-then}

-- ---- what a refusal says

pub refused-fails :
    (here : ℕ → Bool) (d e : Device) (old new : Vgpu) (outcome : Result PrivateDevice Reason) (refusal : Refusal) (reason : Reason) → refusal ≡ Fails reason → Refuses here d e old new outcome refusal
    → (outcome ≡ Err reason) × MayFail here d e old new (memory_of d old.gtt)
refused-fails here d e old new outcome refusal reason is refused = subst (λ r. Refuses here d e old new outcome r) is refused

-- ---- lists

next-loads : (p : PrivateDevice) (engine word : ℕ) (running : List ℕ) → current_of running ≡ Some word → next_by p engine running ≡ load_by p (loaded p engine word)
next-loads p engine word [] is = cc
next-loads p engine word (first ∷ more) is = let same : first ≡ word = cc in λ i. load_by p (loaded p engine (same i))

-- nothing ran
none-ran : (d : Device) → d ≡ journalled d []
none-ran d = λ i. record d { journal = sym (append-nil d.journal) i }

-- ---- the turn

module _ (d : Device) (v : Vgpu) (here : ℕ → Bool) (engine word : ℕ) (none : (engine_at v engine).element ≡ None) (awake : v.failsafe ≡ false) (front : Some word ≡ current_of (ports_at v.mmio engine).slots.running) where
  abbrev p : PrivateDevice
  p = private_of d v here

  turn-loads : turned p engine ≡ load_by p (loaded p engine word)
  turn-loads =
      (λ i. if awake i then turned_as Idle (quietly p) else turned_by p engine (element_in d (number_of v.gtt) engine (here engine) (none i)))
      ∙ next-loads p engine word (ports_at v.mmio engine).slots.running (sym front)

  -- The element is loaded.
  pub turns-loaded : (e : Device) (new : Vgpu) (notice : Notice) → notice ≡ injected None → loaded p engine word ≡ Ok (private_of e new here) → MayLoad here d e v new → Turns here d e v new (turned p engine) Loaded notice
  turns-loaded e new notice same is keeps =
      subst (λ n. Turns here d e v new (turned p engine) Loaded n) (sym same)
      (subst (λ t. Turns here d e v new t Loaded (injected None)) (sym (turn-loads ∙ (λ i. load_by p (is i))))
      (record { outcome_is = refl; left = refl; keeps = subst (λ x. MayLoad here x e v new) (none-ran d) keeps }))

  -- It isn't, and the guest fails.
  pub turns-failed :
      (e f : Device) (mid new : Vgpu) (reason : Reason) (notice : Notice) → Holds d v here → loaded p engine word ≡ Err reason → MayFail here d e v mid (memory_of d v.gtt) → Makes here e f mid new (fails (private_of e mid here) reason) notice
      → Turns here d f v new (turned p engine) Failed notice
  turns-failed e f mid new reason notice holds is may_fail made =
      let makes : Makes here d f v new (fails p reason) notice = fails-then here d e f v mid new (memory_of d v.gtt) reason notice holds.number holds.ranges may_fail made in
      subst (λ t. Turns here d f v new t Failed notice) (sym (turn-loads ∙ (λ i. load_by p (is i))))
      (record { outcome_is = refl; left = makes.written; keeps = subst (λ x. MayLoad here x f v new) (none-ran d) (may-load here d f v new makes.keeps) })

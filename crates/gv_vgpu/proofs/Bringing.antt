-- What a guest has of an engine is brought.
use Rattle.std.proofs.Common.{◌≡◌, ℕ, ◌<◌, ◌≤◌, ◌==◌, Bool, true, false, Option, None, Some, List, cond, ltb, length, get_or, refl, sym, ◌∙◌, subst, arith}
use Rattle.std.specs.Prelude.{Result, Ok, Err, OnOk, OnErr}
use Rattle.std.proofs.lemmas.Bool.{false≢true}
use Rattle.std.proofs.lemmas.Bool.Decides.{nat_tests}
use Rattle.std.proofs.lemmas.List.{get_or_past}
use Rattle.gv_element.specs.Works.{Held, Works, WorksWith, left_of}
use Rattle.gv_element.proofs.Away.{submitted-works}
use Rattle.gv_element.proofs.Staying.{work-stays}
use Rattle.gv_gpu.specs.Context.{context_of, context_submitted}
use Rattle.gv_gpu.specs.Device.{Device, Loaded, counted, with_faults, with_loaded}
use Rattle.gv_gpu.specs.Part.{context_part, engine_part, guest_part, outside}
use Rattle.gv_gtt.specs.Gtt.{number_of, ranges_of}
use Rattle.gv_mmio.specs.Mmio.{guest_of}
use Rattle.gv_sctx.proofs.Saving.{submitted-context}
use Rattle.gv_sring.specs.Window.{descriptor_at, page_at}
use Rattle.gv_switch.specs.Exchange.{brought, with_registers}
use Rattle.gv_types.specs.declared.reply.Stop.TheVariants.{DeviceFault, OutOfMemory}
use Rattle.gv_vgpu.specs.Changes.{Stops}
use Rattle.gv_vgpu.specs.Exchange.{Exchanges, HasSixteen, owning, shadow_of}
use Rattle.gv_vgpu.specs.Vgpu.{engine_at}
use Rattle.gv_vgpu.specs.Standing.{Holds, StandsOn}
use Rattle.gv_vgpu.specs.declared.vgpu.Vgpu.{Vgpu}
use Rattle.gv_vgpu.proofs.Exchanging.{GoesOn, exchanges, part_of}
use Rattle.gv_vgpu.proofs.General.{put-own}
use Rattle.gv_vgpu.proofs.PuttingAway.{hidden, owning-other, owning-own}

-- ---- the registers

module _ (d : Device) (engine : ℕ) (kept : List ℕ) (long : length kept ≡ 16) (sixteen : HasSixteen d engine) where
  registers-by : (n : ℕ) (b : Bool) → ltb n 16 ≡ b → cond b (get_or kept n 0) (d.general engine n) ≡ get_or kept n 0
  registers-by n true is = refl
  registers-by n false is =
      let above : 16 ≤ n = grind (arith, nat_tests) in
      sixteen n above ∙ sym (get_or_past kept n 0 (subst (λ m. m ≤ n) (sym long) above))

  -- the engine has those that were kept
  registers-own : (with_registers d engine kept).general engine ≡ (λ n. get_or kept n 0)
  registers-own = put-own d.general engine (λ n. cond (ltb n 16) (get_or kept n 0) (d.general engine n)) ∙ (λ i n. registers-by n (ltb n 16) refl i)

  registers-none-past : HasSixteen (with_registers d engine kept) engine
  registers-none-past n above = (λ i. registers-own i n) ∙ get_or_past kept n 0 (subst (λ m. m ≤ n) (sym long) above)

-- ---- the device then

record IsBrought (d e : Device) (guest engine : ℕ) (kept : List ℕ) (element : Option Held) : Type 0 where
  pub general : e.general engine ≡ (λ n. get_or kept n 0)
  pub live : e.live ≡ d.live
  pub idle : element ≡ None → e.loaded engine ≡ None
  pub outside : outside (part_of guest engine element) e ≡ outside (part_of guest engine element) d
  pub work : (x : Held) (root_page : ℕ) → element ≡ Some x → Works d guest engine false root_page x → WorksWith e guest engine true root_page x (left_of d guest engine false)

module _ (d : Device) (guest engine : ℕ) (kept : List ℕ) (long : length kept ≡ 16) (sixteen : HasSixteen d engine) (idle : d.loaded engine ≡ None) where
  abbrev middle : Device
  middle = with_registers d engine kept

  abbrev registers : ℕ → ℕ
  registers n = cond (ltb n 16) (get_or kept n 0) (d.general engine n)

  brought-none : IsBrought d middle guest engine kept None
  brought-none = record {
    general = registers-own d engine kept long sixteen;
    live = refl;
    idle = λ none. idle;
    outside = λ i. record (outside (engine_part engine) d) { general = λ k. hidden d.general engine k registers (λ _. 0) i };
    work = λ x root_page is works. cc;
  }

  brought-some : (x : Held) → IsBrought d (context_submitted middle engine guest (descriptor_at guest engine)) guest engine kept (Some x)
  brought-some x =
      let l : Loaded = context_of middle guest (descriptor_at guest engine) in
      subst (λ e. IsBrought d e guest engine kept (Some x)) (sym (submitted-context middle engine guest (descriptor_at guest engine) idle)) (record {
        general = registers-own d engine kept long sixteen;
        live = refl;
        idle = λ none. cc;
        outside = λ i. record (outside (context_part guest engine (page_at x.window 1)) d) {
          general = λ k. hidden d.general engine k registers (λ _. 0) i;
          loaded = λ k. hidden d.loaded engine k (Some l) None i;
        };
        work = λ y root_page is works.
            let on = work-stays d middle guest engine false root_page y works (record { entry = λ i h. refl; label = λ k h. refl; words = λ k h. refl }) (λ mine. refl) in
            subst (WorksWith (with_loaded middle engine (Some l)) guest engine true root_page y) on.remains
            (subst (λ e. WorksWith e guest engine true root_page y (left_of middle guest engine false)) (submitted-context middle engine guest (descriptor_at guest engine) idle)
            (submitted-works middle guest engine root_page y on.works idle));
      })

  is-brought : (v : Vgpu) (o : Option Held) (owner : ℕ) → guest ≡ number_of v.gtt → owner ≡ guest → StandsOn d v engine false o → IsBrought d (brought middle engine owner (shadow_of o)) guest engine kept o
  is-brought v None owner is mine stands = brought-none
  is-brought v (Some x) owner is mine stands =
      let own : x.window.guest ≡ guest = stands.works.window.guest_is ∙ sym is in
      subst (λ e. IsBrought d e guest engine kept (Some x))
      ((λ i. context_submitted middle engine (sym mine i) (descriptor_at guest engine)) ∙ (λ i. context_submitted middle engine owner (descriptor_at (sym own i) (sym stands.works.window.engine_is i))))
      (brought-some x)

-- ---- the guest's device

module _ (d e : Device) (v : Vgpu) (here : ℕ → Bool) (engine owner : ℕ) (four : engine < 4) (holds : Holds d v here) (away : here engine ≡ false) (idle : d.loaded engine ≡ None) (sixteen : HasSixteen d engine)
    (guest_is : owner ≡ guest_of v.mmio) (ran : e ≡ brought (with_registers d engine (engine_at v engine).kept) engine owner (shadow_of (engine_at v engine).element)) where
  abbrev kept : List ℕ
  kept = (engine_at v engine).kept

  comes : IsBrought d e (number_of v.gtt) engine kept (engine_at v engine).element
  comes =
      subst (λ e. IsBrought d e (number_of v.gtt) engine kept (engine_at v engine).element) (sym ran)
      (is-brought d (number_of v.gtt) engine kept (holds.kept engine four) sixteen idle v (engine_at v engine).element owner refl (guest_is ∙ holds.number)
      (subst (λ b. StandsOn d v engine b (engine_at v engine).element) away (holds.engines engine four)))

  goes-by : (before after : Bool) → before ≡ false → after ≡ true → GoesOn d e (number_of v.gtt) engine before after kept kept (engine_at v engine).element
  goes-by true after is isnt = absurd (false≢true (sym is))
  goes-by false false is isnt = absurd (false≢true isnt)
  goes-by false true is isnt = record {
    general = comes.general;
    work = comes.work;
    idle = λ none mine. comes.idle none;
    away = λ other. absurd (false≢true (sym other));
    sixteen = λ mine n above. (λ i. comes.general i n) ∙ get_or_past kept n 0 (subst (λ m. m ≤ n) (sym (holds.kept engine four)) above);
    long = holds.kept engine four;
    live = comes.live;
    outside = comes.outside;
  }

  pub bring-in : Exchanges (owning here engine true) here (owning here engine true) d e v v
  bring-in =
      exchanges d e v v here (owning here engine true) engine four holds refl refl refl (λ k. refl) (λ k differ. refl) (owning-other here engine true)
      (goes-by (here engine) (owning here engine true engine) away (owning-own here engine true)) (owning here engine true) (owning-own here engine true)

-- ---- after a fault

pub bring-fails :
    (d e : Device) (v : Vgpu) (here : ℕ → Bool) (engine : ℕ) (kept : List ℕ) → e ≡ with_faults (with_registers d engine kept) e.faults → counted d.faults ≤ e.faults → Stops (owning here engine true) d e v DeviceFault
bring-fails d e v here engine kept same cause = record {
  outside =
      (λ i. outside (guest_part (number_of v.gtt) (ranges_of v.gtt) (owning here engine true)) (same i))
      ∙ (λ i. record (outside (guest_part (number_of v.gtt) (ranges_of v.gtt) (owning here engine true)) (with_faults d e.faults)) { general = λ k. lost k (k == engine) refl i });
  cause = λ is. cause;
  memory = λ (is : DeviceFault ≡ OutOfMemory). absurd cc;
}
  where
    lost : (k : ℕ) (b : Bool) → (k == engine) ≡ b
        → cond (cond b true (here k)) (λ _. 0) (cond b (λ n. cond (ltb n 16) (get_or kept n 0) (d.general engine n)) (d.general k)) ≡ cond (cond b true (here k)) (λ _. 0) (d.general k)
    lost k true is = refl
    lost k false is = refl

-- ---- by what a call answered

pub on-ok-then : {T E : Type 0} (a : Result T E) (P Q : Type 0) → (P → Q) → OnOk a P → OnOk a Q
on-ok-then (Ok value) P Q next holds = next holds
on-ok-then (Err failed) P Q next holds = tt

pub on-err-both : {T E : Type 0} (a : Result T E) (P Q R : Type 0) → (P → Q → R) → OnErr a P → OnErr a Q → OnErr a R
on-err-both (Ok value) P Q R next first second = tt
on-err-both (Err failed) P Q R next first second = next first second

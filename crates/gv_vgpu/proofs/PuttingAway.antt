-- What a guest has of an engine is put away.
use Rattle.std.proofs.Common.{◌≡◌, ◌≢◌, ℕ, ◌<◌, ◌≤◌, ◌==◌, ◌&&◌, Bool, true, false, Option, None, Some, List, [], cond, eqb, ltb, length, get_or, if◌then◌else◌, refl, sym, ap, ◌∙◌, subst, arith}
use Rattle.std.proofs.lemmas.Bool.{eq-eqb, false≢true}
use Rattle.std.proofs.lemmas.Bool.Decides.{nat_tests}
use Rattle.std.proofs.lemmas.List.{get_or_past}
use Rattle.gv_types.specs.Maps.{put}
use Rattle.gv_ctx.specs.Saved.{fields_of}
use Rattle.gv_element.specs.Works.{Held, Works, WorksWith, context_now, left_of}
use Rattle.gv_element.proofs.Away.{is-put-away, stopped-unloads, stopped-works}
use Rattle.gv_gpu.specs.Context.{stopped, stopped_with}
use Rattle.gv_gpu.specs.Device.{Device, Loaded, with_loaded}
use Rattle.gv_gpu.specs.Part.{context_part, engine_part, is_shadow_of, outside, shadow_label}
use Rattle.gv_gtt.specs.Gtt.{number_of}
use Rattle.gv_sctx.proofs.Dwords.{fields_in}
use Rattle.gv_sctx.proofs.Saving.{with_words}
use Rattle.gv_sring.specs.Window.{page_at}
use Rattle.gv_sring.proofs.Named.{shadow-own}
use Rattle.gv_switch.specs.Exchange.{AreRegisters}
use Rattle.gv_vgpu.specs.Exchange.{Exchanges, HasSixteen, owning}
use Rattle.gv_vgpu.specs.Vgpu.{engine_at}
use Rattle.gv_vgpu.specs.Standing.{Holds, StandsOn}
use Rattle.gv_vgpu.specs.declared.vgpu.Vgpu.{Vgpu}
use Rattle.gv_vgpu.proofs.Exchanging.{GoesOn, exchanges, part_of}
use Rattle.gv_vgpu.proofs.General.{not-equal, same-number}

-- the engine that was given or taken, and the others
pub owning-own : (here : ℕ → Bool) (engine : ℕ) (owned : Bool) → owning here engine owned engine ≡ owned
owning-own here engine owned = λ i. if eq-eqb engine engine refl i then owned else here engine

pub owning-other : (here : ℕ → Bool) (engine : ℕ) (owned : Bool) (k : ℕ) → k ≢ engine → owning here engine owned k ≡ here k
owning-other here engine owned k differ = λ i. if not-equal k engine differ i then owned else here k

pub hidden : {A : Type 0} (f : ℕ → A) (engine k : ℕ) (x none : A) → cond (eqb k engine) none (put f engine x k) ≡ cond (eqb k engine) none (f k)
hidden f engine k x none = by (eqb k engine) refl
  where
    by : (b : Bool) → eqb k engine ≡ b → cond b none (cond b x (f k)) ≡ cond b none (f k)
    by true is = refl
    by false is = refl

-- registers that are kept, as a function of their number: there are sixteen
pub kept-are : (kept : List ℕ) (d : Device) (engine : ℕ) → AreRegisters kept d engine → length kept ≡ 16 → HasSixteen d engine → (n : ℕ) → get_or kept n 0 ≡ d.general engine n
kept-are kept d engine are long sixteen n = choose (ltb n 16) refl
  where
    choose : (b : Bool) → ltb n 16 ≡ b → get_or kept n 0 ≡ d.general engine n
    choose true is = are n (grind (arith, nat_tests))
    choose false is =
        let above : 16 ≤ n = grind (arith, nat_tests) in
        get_or_past kept n 0 (subst (λ m. m ≤ n) (sym long) above) ∙ sym (sixteen n above)

-- ---- with no element

stopped-none : (d : Device) (engine : ℕ) → d.loaded engine ≡ None → stopped d engine ≡ d
unfolding stopped
stopped-none d engine idle = ap (stopped_with d engine) idle

-- ---- with an element at work

module _ (d : Device) (guest engine root_page : ℕ) (x : Held) (works : Works d guest engine true root_page x) where
  abbrev l : Loaded
  l = context_now d guest engine true

  abbrev image : ℕ
  image = page_at x.window 1

  abbrev words : List ℕ
  words = fields_in (d.words image) (fields_of l.place) 7

  stopped-so : stopped d engine ≡ with_loaded (with_words d image words) engine None
  stopped-so = is-put-away d guest engine root_page x works

  image-own : is_shadow_of guest (d.label image) ≡ true
  image-own =
      let two = works.window.two in
      ap (is_shadow_of guest) (works.runs.shows.label 1 (omega arith))
      ∙ ap (λ g. is_shadow_of g (Some (shadow_label x.window.guest))) (sym works.window.guest_is)
      ∙ shadow-own x.window.guest

  words-by : (n : ℕ) (b : Bool) → eqb n image ≡ b → cond (b && is_shadow_of guest (d.label n)) [] (cond b words (d.words n)) ≡ cond (b && is_shadow_of guest (d.label n)) [] (d.words n)
  words-by n true same =
      let own : is_shadow_of guest (d.label n) ≡ true = ap (λ n. is_shadow_of guest (d.label n)) (same-number n image same) ∙ image-own in
      ap (λ b. cond b [] words) own ∙ sym (ap (λ b. cond b [] (d.words n)) own)
  words-by n false same = refl

  stopped-outside : outside (context_part guest engine image) (stopped d engine) ≡ outside (context_part guest engine image) d
  stopped-outside =
      (λ i. outside (context_part guest engine image) (stopped-so i))
      ∙ (λ i. record (outside (context_part guest engine image) d) {
        words = λ n. words-by n (eqb n image) refl i;
        loaded = λ k. hidden d.loaded engine k None None i;
      })

  stopped-general : (stopped d engine).general ≡ d.general
  stopped-general = λ i. (stopped-so i).general

  stopped-live : (stopped d engine).live ≡ d.live
  stopped-live = λ i. (stopped-so i).live

-- ---- both

-- What holds of the device then. Its general registers are as they were.
record IsStopped (d e : Device) (guest engine : ℕ) (element : Option Held) : Type 0 where
  pub general : e.general ≡ d.general
  pub live : e.live ≡ d.live
  pub idle : e.loaded engine ≡ None
  pub outside : outside (part_of guest engine element) e ≡ outside (part_of guest engine element) d
  pub work : (x : Held) (root_page : ℕ) → element ≡ Some x → Works d guest engine true root_page x → WorksWith e guest engine false root_page x (left_of d guest engine true)

is-stopped : (d : Device) (v : Vgpu) (engine : ℕ) (o : Option Held) → StandsOn d v engine true o → IsStopped d (stopped d engine) (number_of v.gtt) engine o
is-stopped d v engine None stands =
    let same : stopped d engine ≡ d = stopped-none d engine (stands.idle refl) in
    record {
      general = λ i. (same i).general;
      live = λ i. (same i).live;
      idle = stopped-unloads d engine;
      outside = λ i. outside (engine_part engine) (same i);
      work = λ x root_page is works. cc;
    }
is-stopped d v engine (Some x) stands = record {
  general = stopped-general d (number_of v.gtt) engine stands.root_page x stands.works;
  live = stopped-live d (number_of v.gtt) engine stands.root_page x stands.works;
  idle = stopped-unloads d engine;
  outside = stopped-outside d (number_of v.gtt) engine stands.root_page x stands.works;
  work = λ y root_page is works. stopped-works d (number_of v.gtt) engine root_page y works;
}

module _ (d e : Device) (old new : Vgpu) (here : ℕ → Bool) (engine : ℕ) (kept : List ℕ) (four : engine < 4) (holds : Holds d old here) (own : here engine ≡ true) (ran : e ≡ stopped d engine)
    (are : AreRegisters kept d engine) (long : length kept ≡ 16)
    (gtt : new.gtt ≡ old.gtt) (registers : new.mmio ≡ old.mmio) (failsafe : new.failsafe ≡ old.failsafe)
    (mine : engine_at new engine ≡ record (engine_at old engine) { kept = kept }) (others : (k : ℕ) → k ≢ engine → engine_at new k ≡ engine_at old k) where
  stops : IsStopped d e (number_of old.gtt) engine (engine_at old engine).element
  stops =
      subst (λ e. IsStopped d e (number_of old.gtt) engine (engine_at old engine).element) (sym ran)
      (is-stopped d old engine (engine_at old engine).element (subst (λ b. StandsOn d old engine b (engine_at old engine).element) own (holds.engines engine four)))

  sixteen : HasSixteen d engine
  sixteen n above = holds.sixteen engine n own above

  pub still-sixteen : HasSixteen e engine
  still-sixteen n above = (λ i. stops.general i engine n) ∙ sixteen n above

  pub idle-then : e.loaded engine ≡ None
  idle-then = stops.idle

  kept-now : (engine_at new engine).kept ≡ kept
  kept-now = λ i. (mine i).kept

  goes-by : (before after : Bool) → before ≡ true → after ≡ false → GoesOn d e (number_of old.gtt) engine before after (engine_at old engine).kept (engine_at new engine).kept (engine_at old engine).element
  goes-by false after is isnt = absurd (false≢true is)
  goes-by true true is isnt = absurd (false≢true (sym isnt))
  goes-by true false is isnt = record {
    general = (λ i n. get_or (kept-now i) n 0) ∙ (λ i n. kept-are kept d engine are long sixteen n i);
    work = stops.work;
    idle = λ none mine. absurd (false≢true mine);
    away = λ other l there. absurd (none-loaded l (sym stops.idle ∙ there));
    sixteen = λ mine n above. absurd (false≢true mine);
    long = ap length kept-now ∙ long;
    live = stops.live;
    outside = stops.outside;
  }
    where
      none-loaded : (l : Loaded) → ◌≡◌ {A = Option Loaded} None (Some l) → ⊥
      none-loaded l same = cc

  elements-same : (k : ℕ) → (engine_at new k).element ≡ (engine_at old k).element
  elements-same k = choose (k == engine) refl
    where
      choose : (b : Bool) → (k == engine) ≡ b → (engine_at new k).element ≡ (engine_at old k).element
      choose true is = subst (λ k. (engine_at new k).element ≡ (engine_at old k).element) (sym (same-number k engine is)) (λ i. (mine i).element)
      choose false is = λ i. (others k (grind (arith, nat_tests)) i).element

  pub put-away : Exchanges here here (owning here engine false) d e old new
  put-away =
      exchanges d e old new here (owning here engine false) engine four holds gtt registers failsafe elements-same (λ k differ i. (others k differ i).kept) (owning-other here engine false)
      (goes-by (here engine) (owning here engine false engine) own (owning-own here engine false)) here own

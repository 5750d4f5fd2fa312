-- What an engine touches of memory, wherever the guest's device stands.
use Rattle.std.proofs.Common.{◌≡◌, ℕ, ◌<◌, Bool, [], true, Option, None, Some, refl, sym, ◌∙◌, ap, subst}
use Rattle.gv_element.specs.Works.{Held, context_now}
use Rattle.gv_exact.specs.Exact.{StepsExactly, step_touched, touched_with}
use Rattle.gv_exact.proofs.Steps.{exact_grants}
use Rattle.gv_gpu.specs.Device.{Device}
use Rattle.gv_gtt.specs.Gtt.{frames_of, nodes_in, number_of}
use Rattle.gv_private.specs.Device.{PrivateDevice, Working}
use Rattle.gv_sring.specs.Window.{page_at}
use Rattle.gv_vgpu.specs.Exact.{GrantsStayExact}
use Rattle.gv_vgpu.specs.Followed.{IsLoadedFor}
use Rattle.gv_vgpu.specs.Vgpu.{element_in, engine_at, private_of, working_in}
use Rattle.gv_vgpu.specs.Standing.{Holds}
use Rattle.gv_vgpu.specs.declared.vgpu.Vgpu.{Vgpu}
use Rattle.gv_vgpu.proofs.Followed.{elements_are_loaded}
use Rattle.gv_vgpu.proofs.Working.{elements_at_work_stand}

-- without a context nothing is touched
unloaded-touches : (d : Device) (engine : ℕ) → d.loaded engine ≡ None → step_touched d engine ≡ []
unfolding step_touched
unloaded-touches d engine none = ap (touched_with d engine) none

module _ (d : Device) (v : Vgpu) (here : ℕ → Bool) (holds : Holds d v here) (engine : ℕ) (four : engine < 4) (own : here engine ≡ true) where
  abbrev number : ℕ
  number = number_of v.gtt

  abbrev p : PrivateDevice
  p = private_of d v here

  exact-at : (x : Held) → (engine_at v engine).element ≡ Some x → StepsExactly d engine (frames_of v.gtt) p (working_in d number engine true x)
  exact-at x is =
      let stands = elements_at_work_stand d v here engine x holds four own is in
      exact_grants d (frames_of v.gtt) (nodes_in v.gtt) p engine (working_in d number engine true x) (context_now d number engine true) (page_at x.window 1) stands.0 stands.1

  pub exact-work : (w : Working) (o : Option Held) → (engine_at v engine).element ≡ o → element_in d number engine true o ≡ Some w → StepsExactly d engine (frames_of v.gtt) p w
  exact-work w None is at = cc
  exact-work w (Some x) is at = let same : working_in d number engine true x ≡ w = cc in subst (StepsExactly d engine (frames_of v.gtt) p) same (exact-at x is)

  pub untouched-idle : (o : Option Held) → IsLoadedFor d number engine o → element_in d number engine true o ≡ None → step_touched d engine ≡ []
  untouched-idle None none at = unloaded-touches d engine none
  untouched-idle (Some x) loaded at = cc

pub grants_stay_exact : GrantsStayExact
grants_stay_exact d v here holds = record {
  work = λ engine w four own is. exact-work d v here holds engine four own w (engine_at v engine).element refl
      ((λ i. element_in d (number_of v.gtt) engine (sym own i) (engine_at v engine).element) ∙ is);
  idle = λ engine four own is. untouched-idle d v here holds engine four own (engine_at v engine).element (elements_are_loaded d v here engine holds four own)
      ((λ i. element_in d (number_of v.gtt) engine (sym own i) (engine_at v engine).element) ∙ is);
}

-- What is left where roots of per-process tables come or go.
use Rattle.std.proofs.Common.{◌≡◌, ℕ, zero, suc, ◌<◌, ◌≤◌, ◌||◌, ◌&&◌, ◌==◌, nat_lt, not, Bool, true, false, Option, None, Some, Ok, Err, List, length, is_some, if◌then◌else◌, refl, sym, ◌∙◌, subst, arith}
use Rattle.std.proofs.lemmas.Bool.{eqb-true, false≢true}
use Rattle.std.proofs.lemmas.Bool.Decides.{nat_tests}
use Rattle.std.proofs.lemmas.Map.Views.{any-filter_same}
use Rattle.gv_types.specs.declared.reply.Reason.TheVariants.{Entry}
use Rattle.gv_element.specs.Works.{Held}
use Rattle.gv_entry.specs.SameTables.{has}
use Rattle.gv_gpu.specs.Device.{Device}
use Rattle.gv_gtt.specs.Changes.{Changes}
use Rattle.gv_gtt.specs.Gtt.{frames_of, gtt_part, memory_of, nodes_in, number_of, over, roots_in}
use Rattle.gv_gtt.specs.Standing.{Stands, Translates}
use Rattle.gv_gtt.specs.declared.gtt.Gtt.{Gtt}
use Rattle.gv_gtt.proofs.Announced.{without-none}
use Rattle.gv_mmio.specs.Mmio.{ports_at}
use Rattle.gv_private.specs.Device.{PrivateDevice, fails}
use Rattle.gv_private.specs.Roots.{announced, is_at_work, left_or_failed, root_created, root_destroyed, without_root, works_over}
use Rattle.gv_sppgtt.specs.Clearing.{IsWithin}
use Rattle.gv_sppgtt.specs.State.{pages_of}
use Rattle.gv_sppgtt.proofs.Serving.{among-roots, is-root}
use Rattle.gv_vgpu.specs.Changes.{Keeps, Makes, MayFail, injected}
use Rattle.gv_vgpu.specs.Vgpu.{element_in, engine_at, private_of}
use Rattle.gv_vgpu.specs.Standing.{Holds, StandsOn}
use Rattle.gv_vgpu.specs.declared.vgpu.Vgpu.{Vgpu}
use Rattle.gv_vgpu.specs.declared.notice.Notice.{Notice}
use Rattle.gv_vgpu.proofs.Copies.{comes-tables}
use Rattle.gv_vgpu.proofs.Failing.{fails-then, may-fail-after}
use Rattle.gv_vgpu.proofs.Kept.{engine-same, idle-on, private-after, stands-on}
use Rattle.gv_vgpu.proofs.Working.{over-private}

-- ---- the roots of memory and tables

-- the roots are the frames that have a shadow table of level 4
among : (d : Device) (g : Gtt) → Stands d g → (frame : ℕ) → has (roots_in g) frame ≡ is_some (nodes_in g 4 frame)
among d g stands frame = among-roots d g.memory.frames g.tables g.memory.pins stands.holds frame

-- A root is one still, with the same shadow table.
abbrev IsRootStill : Gtt → Gtt → ℕ → Type 0
IsRootStill old new root = (has (roots_in new) root ≡ true) × (nodes_in new 4 root ≡ nodes_in old 4 root)

-- where more come
with-more : (e : Device) (old new : Gtt) (root page : ℕ) → Stands e new → IsWithin (nodes_in old) (nodes_in new) → nodes_in old 4 root ≡ Some page → IsRootStill old new root
with-more e old new root page stands stay is = (among e new stands root ∙ (λ i. is_some (stay 4 root page is i)), stay 4 root page is ∙ sym is)

without-keeps : (roots : List ℕ) (gone root : ℕ) → (root == gone) ≡ false → has roots root ≡ true → has (without_root roots gone) root ≡ true
without-keeps roots gone root other there =
    any-filter_same (λ y. y == root) (λ y. not (y == gone)) true (λ y same. (λ i. not (eqb-true y root same i == gone)) ∙ (λ i. not (other i))) roots ∙ there

-- where another goes
with-less : (e : Device) (old new : Gtt) (gone root : ℕ) → Stands e new → IsWithin (nodes_in new) (nodes_in old) → roots_in new ≡ without_root (roots_in old) gone → (root == gone) ≡ false → has (roots_in old) root ≡ true
    → IsRootStill old new root
with-less e old new gone root stands stay roots other was = by (nodes_in new 4 root) refl
  where
    there : has (roots_in new) root ≡ true
    there = (λ i. has (roots i) root) ∙ without-keeps (roots_in old) gone root other was

    by : (o : Option ℕ) → nodes_in new 4 root ≡ o → IsRootStill old new root
    by None is = absurd (false≢true (sym (λ i. is_some (is i)) ∙ sym (among e new stands root) ∙ there))
    by (Some page) is = (there, is ∙ sym (stay 4 root page is))

-- a frame that isn't in memory is no root
no-root : (d : Device) (g : Gtt) (frame : ℕ) → Stands d g → length (frames_of g).pages ≤ frame → has (roots_in g) frame ≡ false
no-root d g frame stands past =
    is-root g.tables frame ∙ (λ i. outside i && is_some (pages_of g.tables 4 frame))
  where
    outside : nat_lt frame g.tables.nodes.frames ≡ false
    outside = let same : g.tables.nodes.frames ≡ length (frames_of g).pages = stands.holds.sound.frames in grind (arith, nat_tests)

-- ---- the elements at work

or-left : (a b : Bool) → (a || b) ≡ false → a ≡ false
or-left true b is = is
or-left false b is = refl

or-right : (a b : Bool) → (a || b) ≡ false → b ≡ false
or-right true b is = absurd (false≢true (sym is))
or-right false b is = is

-- None of four is so.
none-of : (on : ℕ → Bool) (k : ℕ) → k < 4 → (on 0 || (on 1 || (on 2 || (on 3 || false)))) ≡ false → on k ≡ false
none-of on zero below none = or-left (on 0) (on 1 || (on 2 || (on 3 || false))) none
none-of on (suc zero) below none = or-left (on 1) (on 2 || (on 3 || false)) (or-right (on 0) (on 1 || (on 2 || (on 3 || false))) none)
none-of on (suc (suc zero)) below none =
    or-left (on 2) (on 3 || false) (or-right (on 1) (on 2 || (on 3 || false)) (or-right (on 0) (on 1 || (on 2 || (on 3 || false))) none))
none-of on (suc (suc (suc zero))) below none =
    or-left (on 3) false (or-right (on 2) (on 3 || false) (or-right (on 1) (on 2 || (on 3 || false)) (or-right (on 0) (on 1 || (on 2 || (on 3 || false))) none)))
none-of on (suc (suc (suc (suc k)))) below none = absurd (omega arith)

-- ---- the guest's device

module _ (d e : Device) (old new : Vgpu) (here : ℕ → Bool) (holds : Holds d old here) (changes : Changes d e old.gtt new.gtt) (registers : new.mmio ≡ old.mmio) (engines : new.engines ≡ old.engines) (failsafe : new.failsafe ≡ old.failsafe) where
  -- the roots of its elements stay
  abbrev KeepsElements : Type 0
  KeepsElements = (k root : ℕ) (x : Held) → k < 4 → (engine_at old k).element ≡ Some x → has (roots_in old.gtt) x.root ≡ true → nodes_in old.gtt 4 x.root ≡ Some root → IsRootStill old.gtt new.gtt x.root

  keeps-elements : Translates e new.gtt → KeepsElements → Keeps here d e old new
  keeps-elements translates roots = record {
    holds = record {
      translates = translates;
      parts = left.occupies.parts;
      number = left.occupies.number;
      ranges = left.occupies.ranges;
      below = left.occupies.below;
      engines = λ k four. subst (λ x. StandsOn e new k (here k) x.element) (sym (engine-same d e old new here holds changes registers engines failsafe k)) (stands-after k four (engine_at old k).element refl (holds.engines k four));
      beside = left.occupies.beside;
      away = left.occupies.away;
      none_above = left.occupies.none_above;
      sixteen = left.occupies.sixteen;
      kept = left.occupies.kept;
    };
    changes = left.changes;
    copies = comes-tables d e old new here (gtt_part new.gtt) holds changes.outside (λ k i. (engine-same d e old new here holds changes registers engines failsafe k i).element);
  }
    where
      left : MayFail here d e old new (memory_of e new.gtt)
      left = may-fail-after d e old new here holds changes registers engines failsafe translates.serving.stands

      stands-after : (k : ℕ) → k < 4 → (element : Option Held) → (engine_at old k).element ≡ element → StandsOn d old k (here k) element → StandsOn e new k (here k) element
      stands-after k four None is stands = idle-on d e old new k (here k) holds.parts changes stands
      stands-after k four (Some x) is stands =
          let still : IsRootStill old.gtt new.gtt x.root = roots k stands.root_page x four is stands.root stands.shadow_root in
          stands-on d e old new k (here k) x holds.parts changes still.0 still.1
          (subst (λ m. 0 < length (ports_at m k).slots.running) (sym registers) stands.running) (failsafe ∙ stands.awake) stands

  -- ---- creation

  pub more-keeps : Translates e new.gtt → IsWithin (nodes_in old.gtt) (nodes_in new.gtt) → Keeps here d e old new
  more-keeps translates stay = keeps-elements translates (λ k root x four is was node. with-more e old.gtt new.gtt x.root root translates.serving.stands stay node)

  pub root-created :
      (root : ℕ) → Translates e new.gtt → IsWithin (nodes_in old.gtt) (nodes_in new.gtt) → ((p : PrivateDevice) → announced (over p d old.gtt) root ≡ Ok (over p e new.gtt))
      → (notice : Notice) → notice ≡ injected None → Makes here d e old new (root_created (private_of d old here) root) notice
  root-created root translates stay announces notice is = record {
    written =
        (λ i. left_or_failed (private_of d old here) (ok i))
        ∙ (λ i. record { device = private-after d e old new here holds changes registers engines failsafe i; irq = (sym is i).irq; reason = (sym is i).failsafe });
    keeps = more-keeps translates stay;
  }
    where
      ok : announced (private_of d old here) root ≡ Ok (over (private_of d old here) e new.gtt)
      ok = subst (λ q. announced q root ≡ Ok (over (private_of d old here) e new.gtt)) (over-private d old here holds) (announces (private_of d old here))

  -- and where the root is refused
  pub root-refused :
      (root : ℕ) (f : Device) (c : Vgpu) (notice : Notice) → Stands e new.gtt → memory_of e new.gtt ≡ memory_of d old.gtt → announced (private_of d old here) root ≡ Err Entry
      → Makes here e f new c (fails (private_of e new here) Entry) notice → Makes here d f old c (root_created (private_of d old here) root) notice
  root-refused root f c notice stands memory refused made = record {
    written =
        (λ i. left_or_failed (private_of d old here) (refused i))
        ∙ (λ i. fails (record (private_of d old here) { memory = sym memory i }) Entry)
        ∙ failed.written;
    keeps = failed.keeps;
  }
    where
      failed : Makes here d f old c (fails (record (private_of d old here) { memory = memory_of e new.gtt }) Entry) notice
      failed = fails-then here d e f old new c (memory_of e new.gtt) Entry notice holds.number holds.ranges
          (may-fail-after d e old new here holds changes registers engines failsafe stands) made

  -- ---- destruction

  module _
      (root : ℕ) (translates : Translates e new.gtt) (stay : IsWithin (nodes_in new.gtt) (nodes_in old.gtt)) (free : is_at_work (private_of d old here) root ≡ false)
      (without : (p : PrivateDevice) → over p e new.gtt ≡ record (over p d old.gtt) { roots = without_root (roots_in old.gtt) root })
    where
      elsewhere : (k : ℕ) (x : Held) → k < 4 → (engine_at old k).element ≡ Some x → (x.root == root) ≡ false
      elsewhere k x four is = (λ i. works_over root (element_in d (number_of old.gtt) k (here k) (sym is i))) ∙ none-of (λ n. works_over root ((private_of d old here).engines n).element) k four free

      pub less-keeps : Keeps here d e old new
      less-keeps = keeps-elements translates
          (λ k page x four is was node. with-less e old.gtt new.gtt root x.root translates.serving.stands stay (λ i. (without (private_of d old here) i).roots) (elsewhere k x four is) was)

      pub root-destroyed : private_of e new here ≡ root_destroyed (private_of d old here) root
      root-destroyed =
          sym (private-after d e old new here holds changes registers engines failsafe)
          ∙ without (private_of d old here)
          ∙ (λ i. record (over-private d old here holds i) { roots = without_root (roots_in old.gtt) root })
          ∙ (λ i. if sym free i then private_of d old here else record (private_of d old here) { roots = without_root (roots_in old.gtt) root })

-- what of an announcement is refused, as the private device has it
pub refused-here :
    (d : Device) (v : Vgpu) (here : ℕ → Bool) (root : ℕ) → Holds d v here → ((p : PrivateDevice) → announced (over p d v.gtt) root ≡ Err Entry) → announced (private_of d v here) root ≡ Err Entry
refused-here d v here root holds refused = subst (λ q. announced q root ≡ Err Entry) (over-private d v here holds) (refused (private_of d v here))

-- Nothing is done where the root is that of an element at work, and where the frame isn't in memory.
pub at-work-stays : (p : PrivateDevice) (root : ℕ) → is_at_work p root ≡ true → p ≡ root_destroyed p root
at-work-stays p root works = λ i. if sym works i then p else record p { roots = without_root p.roots root }

pub none-destroyed : (d : Device) (v : Vgpu) (here : ℕ → Bool) (root : ℕ) → Holds d v here → length (frames_of v.gtt).pages ≤ root → private_of d v here ≡ root_destroyed (private_of d v here) root
none-destroyed d v here root holds past = choose (is_at_work (private_of d v here) root)
  where
    same : private_of d v here ≡ record (private_of d v here) { roots = without_root (roots_in v.gtt) root }
    same = λ i. record (private_of d v here) { roots = sym (without-none (roots_in v.gtt) root (no-root d v.gtt root holds.translates.serving.stands past)) i }

    choose : (b : Bool) → private_of d v here ≡ (if b then private_of d v here else record (private_of d v here) { roots = without_root (roots_in v.gtt) root })
    choose true = refl
    choose false = same

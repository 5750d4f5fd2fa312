-- What a move of a frame leaves: another host page is the frame's, and the private device is as it was.
use Rattle.std.proofs.Common.{◌≡◌, ◌≢◌, ℕ, ◌+◌, ◌%◌, ◌<◌, ◌&&◌, ◌||◌, Bool, true, false, Option, None, Some, List, length, slice_index_or, if◌then◌else◌, refl, sym, ◌∙◌, subst}
use Rattle.std.proofs.lemmas.List.{append-nil, length-map}
use Rattle.gv_types.specs.declared.event.Event.{Event}
use Rattle.gv_types.specs.declared.event.Event.TheVariants.{Move, Write}
use Rattle.gv_types.specs.declared.event.Place.{Place}
use Rattle.gv_types.specs.declared.event.Width.{Width}
use Rattle.gv_types.specs.declared.ids.GuestId.{GuestId}
use Rattle.gv_types.specs.declared.reply.Answer.{Answer}
use Rattle.gv_types.specs.declared.reply.Answer.TheVariants.{Kept, Moved, Nothing}
use Rattle.gv_types.specs.declared.reply.Reply.{Reply}
use Rattle.gv_element.specs.Works.{Held, HasNoPage, WorksWith, left_of}
use Rattle.gv_entry.specs.Grants.{is_mapped}
use Rattle.gv_entry.specs.Ranges.{InParts}
use Rattle.gv_entry.specs.SameTables.{has}
use Rattle.gv_gpu.specs.Change.{ChangesOnly}
use Rattle.gv_gpu.specs.Device.{Device}
use Rattle.gv_gpu.specs.Part.{first_of_window, frames_part, is_frame_of, is_shadow_of, shadow_label}
use Rattle.gv_gtt.specs.Changes.{Changes}
use Rattle.gv_gtt.specs.Gtt.{frames_of, gtt_part, nodes_in, number_of, over, ranges_of, roots_in}
use Rattle.gv_gtt.specs.Standing.{Translates}
use Rattle.gv_gtt.proofs.Others.{changes_stay_inside}
use Rattle.gv_gtt.proofs.Steps.{frames-changes}
use Rattle.gv_mmio.specs.Mmio.{behind, guest_of, ports_at, ranges_of as mmio_ranges}
use Rattle.gv_private.specs.Device.{PrivateDevice, new_device, reset_engine}
use Rattle.gv_private.specs.Grants.{is_granted, move_answer}
use Rattle.gv_private.specs.Access.{value_written}
use Rattle.gv_private.specs.Inputs.{answer, reply_of}
use Rattle.gv_sppgtt.specs.Grown.{count_of}
use Rattle.gv_sppgtt.proofs.OwnPages.{own-same}
use Rattle.gv_sring.specs.Window.{Window, WindowIsAbsent, page_at}
use Rattle.gv_turn.specs.Owned.{OwnsLeft}
use Rattle.gv_vgpu.specs.Changes.{Keeps, Makes, MayLoad, held_on, injected, journalled, own_live, replied, window_pages}
use Rattle.gv_vgpu.specs.Access.{Replies}
use Rattle.gv_vgpu.specs.Vgpu.{element_in, engine_at, engine_in, engines_of, general_in, no_engine, private_of}
use Rattle.gv_vgpu.specs.Standing.{Holds, StandsAtWork, StandsOn}
use Rattle.gv_vgpu.specs.declared.notice.Notice.{Notice}
use Rattle.gv_vgpu.specs.declared.vgpu.Vgpu.{Vgpu}
use Rattle.gv_vgpu.proofs.Copies.{comes-tables, may-load}
use Rattle.gv_vgpu.proofs.Engines.{each-engine}
use Rattle.gv_vgpu.proofs.Kept.{works-on}
use Rattle.gv_vgpu.proofs.Same.{beside-same}

module _
    (d e : Device) (old new : Vgpu) (here : ℕ → Bool) (holds : Holds d old here) (registers : new.mmio ≡ old.mmio) (engines : new.engines ≡ old.engines) (failsafe : new.failsafe ≡ old.failsafe)
    (device : (p : PrivateDevice) → over p e new.gtt ≡ over p d old.gtt) (translates : Translates e new.gtt) (ranges : ranges_of new.gtt ≡ ranges_of old.gtt) (nodes : nodes_in new.gtt ≡ nodes_in old.gtt)
    (changes : ChangesOnly (frames_part (number_of old.gtt)) 512 d e)
  where
    number : number_of new.gtt ≡ number_of old.gtt
    number = λ i. (device (private_of d old here) i).number

    roots : roots_in new.gtt ≡ roots_in old.gtt
    roots = λ i. (device (private_of d old here) i).roots

    frames : length (frames_of new.gtt).pages ≡ length (frames_of old.gtt).pages
    frames = sym (length-map (frames_of new.gtt).pages e.words) ∙ (λ i. length (device (private_of d old here) i).memory) ∙ length-map (frames_of old.gtt).pages d.words

    -- of the device the frames alone changed
    of-frames : Changes d e old.gtt old.gtt
    of-frames = frames-changes 512 d e old.gtt changes

    engine-same : (k : ℕ) → engine_at new k ≡ engine_at old k
    engine-same k = λ i. slice_index_or (engines i) k no_engine

    -- ---- elements at work

    works-as : (k : ℕ) (x : Held) → (stands : StandsAtWork d old k (here k) x) → WorksWith e (number_of new.gtt) k (here k) stands.root_page x (left_of d (number_of old.gtt) k (here k))
    works-as k x stands =
        subst (λ guest. WorksWith e guest k (here k) stands.root_page x (left_of d (number_of old.gtt) k (here k))) (sym number)
        (works-on d e old.gtt old.gtt k (here k) stands.root_page x holds.parts of-frames stands.apart stands.works)

    apart-as : (w : Window) → HasNoPage (gtt_part old.gtt) w → HasNoPage (gtt_part new.gtt) w
    apart-as w apart j within =
        (λ i. (own-same old.gtt.tables.nodes new.gtt.tables.nodes holds.translates.serving.stands.holds.nodes translates.serving.stands.holds.nodes (λ k frame i. nodes i k frame) (page_at w j) i
        && is_shadow_of (number i) (Some (shadow_label w.guest))) || is_frame_of (number i) (Some (shadow_label w.guest)))
        ∙ apart j within

    stands-as : (k : ℕ) (element : Option Held) → StandsOn d old k (here k) element → StandsOn e new k (here k) element
    stands-as k None stands = record {
      window = subst (λ guest. WindowIsAbsent e guest k) (sym number)
          (λ i within. subst (λ entry. entry % 2 ≡ 0) (λ j. (sym changes.outside j).global (first_of_window (number_of old.gtt) k + i)) (stands.window i within));
      idle = λ own. (λ i. (changes.outside i).loaded k) ∙ stands.idle own;
    }
    stands-as k (Some x) stands = record {
      root_page = stands.root_page;
      root = (λ i. has (roots i) x.root) ∙ stands.root;
      shadow_root = (λ i. nodes i 4 x.root) ∙ stands.shadow_root;
      works = (works-as k x stands).works;
      owned = subst (λ left. OwnsLeft (ranges_of new.gtt) left) (sym (works-as k x stands).remains) (subst (λ r. OwnsLeft r (left_of d (number_of old.gtt) k (here k))) (sym ranges) stands.owned);
      apart = apart-as x.window stands.apart;
      running = subst (λ m. 0 < length (ports_at m k).slots.running) (sym registers) stands.running;
      awake = failsafe ∙ stands.awake;
    }

    -- ---- the private device

    element-as : (k : ℕ) (element : Option Held) → StandsOn d old k (here k) element → element_in e (number_of new.gtt) k (here k) element ≡ element_in d (number_of old.gtt) k (here k) element
    element-as k None stands = refl
    element-as k (Some x) stands = λ i. Some (record { root = x.root; tail = x.tail; left = (works-as k x stands).remains i })

    element-at : (k : ℕ) → element_in e (number_of new.gtt) k (here k) (engine_at old k).element ≡ element_in d (number_of old.gtt) k (here k) (engine_at old k).element
    element-at k = each-engine old (λ k element. element_in e (number_of new.gtt) k (here k) element ≡ element_in d (number_of old.gtt) k (here k) element)
        (λ k four. element-as k (engine_at old k).element (holds.engines k four)) (λ k. refl) k

    general-as : (k : ℕ) (kept : List ℕ) → general_in e k (here k) kept ≡ general_in d k (here k) kept
    general-as k kept = λ i. if here k then (changes.outside i).general k else (λ n. slice_index_or kept n 0)

    engine-as : (k : ℕ) → engine_in e (number_of new.gtt) k (here k) (engine_at new k) ≡ engine_in d (number_of old.gtt) k (here k) (engine_at old k)
    engine-as k =
        (λ i. engine_in e (number_of new.gtt) k (here k) (engine-same k i))
        ∙ (λ i. record reset_engine { general = general-as k (engine_at old k).kept i; element = element-at k i })

    engines-as : engines_of e new here ≡ engines_of d old here
    engines-as = λ i. record (new_device 0 0 (ranges i)) { failsafe = failsafe i; engines = λ k. engine-as k i }

    pub moved-private : private_of e new here ≡ private_of d old here
    moved-private =
        (λ i. behind (device (engines_of e new here) i) new.mmio)
        ∙ (λ i. behind (over (engines-as i) d old.gtt) (registers i))

    -- ---- what is kept

    pages-as : own_live new ≡ own_live old
    pages-as = λ i. frames i + count_of (frames i) (nodes i) + (held 0 i + held 1 i + held 2 i + held 3 i)
      where
        held : (k : ℕ) → held_on new k ≡ held_on old k
        held k = λ i. window_pages (engine-same k i).element

    pub moved-keeps : Keeps here d e old new
    moved-keeps = record {
      holds = record {
        translates = translates;
        parts = subst InParts (sym ranges) holds.parts;
        number = (λ i. guest_of (registers i)) ∙ holds.number ∙ sym number;
        ranges = (λ i. mmio_ranges (registers i)) ∙ holds.ranges ∙ sym ranges;
        below = subst (λ g. g < 8) (sym number) holds.below;
        engines = λ k four. subst (λ x. StandsOn e new k (here k) x.element) (sym (engine-same k)) (stands-as k (engine_at old k).element (holds.engines k four));
        beside = beside-same old new (λ k i. (engine-same k i).element) holds.beside;
        away = λ k below other l is. subst (λ g. l.owner ≢ g) (sym number) (holds.away k below other l ((λ i. (sym changes.outside i).loaded k) ∙ is));
        none_above = holds.none_above;
        sixteen = λ k n own above. (λ i. (changes.outside i).general k n) ∙ holds.sixteen k n own above;
        kept = λ k four. subst (λ x. length x.kept ≡ 16) (sym (engine-same k)) (holds.kept k four);
      };
      changes = record {
        number = number;
        frames = frames;
        ranges = ranges;
        outside = changes_stay_inside d e old.gtt old.gtt here of-frames;
        live = λ enough i. changes.live i + sym pages-as i;
      };
      copies = comes-tables d e old new here (gtt_part old.gtt) holds of-frames.outside (λ k i. (engine-same k i).element);
    }

-- where a frame isn't kept it is moved
pub unless-kept : (p : PrivateDevice) (frame : ℕ) → (move_answer p frame ≡ Kept → ⊥) → Moved ≡ move_answer p frame
unless-kept p frame other = choose (is_mapped p.memory p.roots frame || is_granted p frame) other
  where
    choose : (b : Bool) → ((if b then Kept else Moved) ≡ Kept → ⊥) → ◌≡◌ {A = Answer} Moved (if b then Kept else Moved)
    choose true not_kept = absurd (not_kept refl)
    choose false not_kept = refl

-- the reply to a move, of which no command ran
pub move-replies :
    (here : ℕ → Bool) (d e : Device) (old new : Vgpu) (event : Event) (guest : GuestId) (frame : ℕ) (kept : Answer) (reply : Reply) → event ≡ Move guest frame → kept ≡ move_answer (private_of d old here) frame
    → private_of e new here ≡ private_of d old here → Keeps here d e old new → reply ≡ replied guest kept (injected None) → Replies here d e old new (answer (private_of d old here) event) reply
move-replies here d e old new event guest frame kept reply is same left keeps told = record {
  reply_is = (λ i. (answer (private_of d old here) (is i)).reply) ∙ (λ i. replied guest (sym same i) (injected None)) ∙ sym told;
  left = (λ i. (answer (private_of d old here) (is i)).left) ∙ sym left;
  keeps = subst (λ ran. MayLoad here (journalled d ran) e old new) (λ i. (answer (private_of d old here) (sym is i)).ran)
      (subst (λ (x : Device). MayLoad here x e old new) (λ i. record d { journal = sym (append-nil d.journal) i }) (may-load here d e old new keeps));
}

-- the reply to a write, of which no command ran
pub write-replies :
    (here : ℕ → Bool) (d e : Device) (old new : Vgpu) (event : Event) (guest : GuestId) (place : Place) (width : Width) (at value : ℕ) (notice : Notice) (reply : Reply) → event ≡ Write guest place width at value
    → Makes here d e old new (value_written (private_of d old here) place width at value) notice → reply ≡ replied guest Nothing notice → Replies here d e old new (answer (private_of d old here) event) reply
write-replies here d e old new event guest place width at value notice reply is makes told = record {
  reply_is = (λ i. (answer (private_of d old here) (is i)).reply) ∙ (λ i. reply_of guest Nothing (makes.written i)) ∙ sym told;
  left = (λ i. (answer (private_of d old here) (is i)).left) ∙ (λ i. (makes.written i).device);
  keeps = subst (λ ran. MayLoad here (journalled d ran) e old new) (λ i. (answer (private_of d old here) (sym is i)).ran)
      (subst (λ (x : Device). MayLoad here x e old new) (λ i. record d { journal = sym (append-nil d.journal) i }) (may-load here d e old new makes.keeps));
}

-- A load reads no frame that no owned entry names, but for tables.
use Rattle.std.proofs.Common.{◌≡◌, ◌≢◌, ℕ, ◌+◌, ◌*◌, ◌/◌, Bool, true, false, not, ◌&&◌, List, [], ◌∷◌, Option, None, Some, Result, Ok, Err, cond, length, set, refl, sym, ap, ◌∙◌, eqb, ltb}
use Rattle.gv_types.specs.Memory.{Memory}
use Rattle.gv_types.specs.declared.event.Width.TheVariants.{Four}
use Rattle.gv_types.specs.declared.reply.Outcome.TheVariants as outcomes
use Rattle.gv_types.specs.declared.reply.Reason.{Reason}
use Rattle.gv_types.specs.declared.reply.Reason.TheVariants.{Context, Range, Entry}
use Rattle.gv_ctx.specs.Descriptor.{descriptor_of}
use Rattle.gv_ctx.specs.Image.{image_read}
use Rattle.gv_ctx.specs.declared.descriptor.Descriptor.{Descriptor}
use Rattle.gv_ctx.specs.declared.image.Image.{Image}
use Rattle.gv_entry.specs.Entry.{global_frame}
use Rattle.gv_entry.specs.Global.{global_entry}
use Rattle.gv_entry.specs.Grants.{unless, nothing_guarded}
use Rattle.gv_entry.specs.Ranges.{owns_page}
use Rattle.gv_entry.specs.Tables.{has_bad_entry, is_guarded}
use Rattle.gv_entry.proofs.SameTables.{tables_decide, unguarded_frame_keeps_tables}
use Rattle.gv_fetch.specs.Fetch.{GlobalSpace, dwords, check, then, fetched}
use Rattle.gv_fetch.specs.Items.{Items}
use Rattle.gv_fetch.specs.Space.{dword_in}
use Rattle.gv_private.specs.Device.{PrivateDevice, with_element, quietly, front_descriptor}
use Rattle.gv_private.specs.Grants.{page_grant_in, page_grant}
use Rattle.gv_private.specs.Laws.{with_frame, turned_with_frame, IsUnnamed, UnnamedIsUntouched}
use Rattle.gv_private.specs.Load.{global_space, good_or_context, image_in, work_of, fetched_into, loaded_by, loaded}
use Rattle.gv_private.specs.Roots.{with_root, announced}
use Rattle.gv_private.specs.Turn.{Turned, turned_as, load_by, next_by, turned_by}
use Rattle.gv_private.proofs.Untouched.{page_same, read_other}

-- ---- what a page grants is named by its entry

some_named : (frame f : ℕ) (b : Bool) → cond b None (Some f) ≡ Some frame → Some f ≡ Some frame
some_named frame f true is = cc
some_named frame f false is = is

unless_named : (frame : ℕ) (guarded : ℕ → Bool) (o : Option ℕ) → unless guarded o ≡ Some frame → unless nothing_guarded o ≡ Some frame
unless_named frame guarded None is = is
unless_named frame guarded (Some f) is = some_named frame f (guarded f) is

owned_named : (frame : ℕ) (b : Bool) (x y : Option ℕ) → (x ≡ Some frame → y ≡ Some frame) → cond b x None ≡ Some frame → cond b y None ≡ Some frame
owned_named frame true x y next is = next is
owned_named frame false x y next is = is

module _ (frame : ℕ) (words : List ℕ) where
  abbrev other : PrivateDevice → PrivateDevice
  other q = with_frame q frame words

  -- a device with no grant of the frame, by the roots of the moment, nor is it a table
  record Apart (q : PrivateDevice) : Type 0 where
    pub table : is_guarded q.memory q.roots frame ≡ false
    pub global : (page : ℕ) → page_grant q page ≢ Some frame

  frame_same : (m : Memory) (at : ℕ) (grant : Option ℕ) → grant ≢ Some frame → dword_in (set m frame words) grant at ≡ dword_in m grant at
  frame_same m at None apart = refl
  frame_same m at (Some h) apart = read_other m frame words Four at (Some h) apart

  word_same : (q : PrivateDevice) (at : ℕ) → Apart q → (global_space (other q)).word at ≡ (global_space q).word at
  word_same q at apart =
      let same = unguarded_frame_keeps_tables q.memory q.roots frame words apart.table in
      ap (λ g. dword_in (set q.memory frame words) g at) (page_same q.ranges q.entries q.memory (set q.memory frame words) q.roots (at / 4096) same)
      ∙ frame_same q.memory at (page_grant q (at / 4096)) (apart.global (at / 4096))

  space_same : (q : PrivateDevice) → Apart q → global_space (other q) ≡ global_space q
  space_same q apart = λ i. record { owned = owns_page q.ranges; word = λ at. word_same q at apart i }

  image_same : (q : PrivateDevice) (page : ℕ) → Apart q → image_in (other q) page ≡ image_in q page
  image_same q page apart = ap (λ (s : GlobalSpace). good_or_context (image_read (dwords s.word ((page + 1) * 4096) 0x34))) (space_same q apart)

  -- the same device but for the frame, or the same reason
  abbrev others : Result PrivateDevice Reason → Result PrivateDevice Reason
  others (Ok q) = Ok (other q)
  others (Err reason) = Err reason

  items_same : (q : PrivateDevice) (engine : ℕ) (image : Image) (r : Result Items Reason) → then r (λ items. Ok (with_element (other q) engine (Some (work_of image items)))) ≡ others (then r (λ items. Ok (with_element q engine (Some (work_of image items)))))
  items_same q engine image (Err reason) = refl
  items_same q engine image (Ok items) = refl

  fetched_same : (q : PrivateDevice) (engine : ℕ) (image : Image) → Apart q → fetched_into (other q) engine image ≡ others (fetched_into q engine image)
  fetched_same q engine image apart =
      ap (λ (s : GlobalSpace). then (fetched s engine image) (λ items. Ok (with_element (other q) engine (Some (work_of image items))))) (space_same q apart)
      ∙ items_same q engine image (fetched (global_space q) engine image)

  announced_by : (b c : Bool) (q r : PrivateDevice) (engine : ℕ) (image : Image) → Apart r
      → then (check b Entry (check c Entry (Ok (other r)))) (λ t. fetched_into t engine image) ≡ others (then (check b Entry (check c Entry (Ok r))) (λ t. fetched_into t engine image))
  announced_by false c q r engine image apart = refl
  announced_by true false q r engine image apart = refl
  announced_by true true q r engine image apart = fetched_same r engine image apart

  announced_same : (q : PrivateDevice) (engine : ℕ) (image : Image) → Apart (record q { roots = with_root q.roots image.root }) → then (announced (other q) image.root) (λ t. fetched_into t engine image) ≡ others (then (announced q image.root) (λ t. fetched_into t engine image))
  announced_same q engine image apart =
      let r = record q { roots = with_root q.roots image.root } in
      let same = unguarded_frame_keeps_tables q.memory (with_root q.roots image.root) frame words apart.table in
      let meaning = tables_decide q.memory (set q.memory frame words) (with_root q.roots image.root) same in
      (λ i. then (check (ltb image.root (same.frames i)) Entry (check (not (meaning.bad i)) Entry (Ok (other r)))) (λ t. fetched_into t engine image))
      ∙ announced_by (ltb image.root (length q.memory)) (not (has_bad_entry q.memory (with_root q.roots image.root))) q r engine image apart

  image_then : (q : PrivateDevice) (engine : ℕ) (r : Result Image Reason) → ((image : Image) → r ≡ Ok image → Apart (record q { roots = with_root q.roots image.root }))
      → then r (λ image. then (announced (other q) image.root) (λ t. fetched_into t engine image)) ≡ others (then r (λ image. then (announced q image.root) (λ t. fetched_into t engine image)))
  image_then q engine (Err reason) apart = refl
  image_then q engine (Ok image) apart = announced_same q engine image (apart image refl)

  check_same : (b : Bool) (reason : Reason) (x y : Result PrivateDevice Reason) → x ≡ others y → check b reason x ≡ others (check b reason y)
  check_same true reason x y same = same
  check_same false reason x y same = refl

  loaded_same : (q : PrivateDevice) (engine : ℕ) (d : Descriptor) → Apart q → ((image : Image) → image_in q d.page ≡ Ok image → Apart (record q { roots = with_root q.roots image.root })) → loaded_by (other q) engine d ≡ others (loaded_by q engine d)
  loaded_same q engine d apart later =
      check_same (eqb d.mode 3) Context _ _
      (check_same (owns_page q.ranges d.page && owns_page q.ranges (d.page + 1)) Range _ _
      (ap (λ (r : Result Image Reason). then r (λ image. then (announced (other q) image.root) (λ t. fetched_into t engine image))) (image_same q d.page apart)
      ∙ image_then q engine (image_in q d.page) later))

  load_same : (p : PrivateDevice) (r : Result PrivateDevice Reason) → load_by (other p) (others r) ≡ turned_with_frame (load_by p r) frame words
  load_same p (Ok q) = refl
  load_same p (Err reason) = refl

  next_same : (p : PrivateDevice) (engine : ℕ) (running : List ℕ) → Apart p → ((image : Image) → image_in p (descriptor_of (front_descriptor running)).page ≡ Ok image → Apart (record p { roots = with_root p.roots image.root })) → next_by (other p) engine running ≡ turned_with_frame (next_by p engine running) frame words
  next_same p engine [] apart later = refl
  next_same p engine (descriptor ∷ more) apart later =
      ap (load_by (other p)) (loaded_same p engine (descriptor_of descriptor) apart later) ∙ load_same p (loaded p engine descriptor)

  idle_same : (p : PrivateDevice) (b : Bool) (x y : Turned) → x ≡ turned_with_frame y frame words → cond b (turned_as outcomes.Idle (quietly (other p))) x ≡ turned_with_frame (cond b (turned_as outcomes.Idle (quietly p)) y) frame words
  idle_same p true x y same = refl
  idle_same p false x y same = same

unnamed_page : (p : PrivateDevice) (engine frame : ℕ) (roots : List ℕ) → IsUnnamed p engine frame → (page : ℕ) → page_grant_in p.ranges p.entries p.memory roots page ≢ Some frame
unnamed_page p engine frame roots unnamed page =
    let o = global_frame (global_entry p.ranges p.entries page) (length p.memory) in
    λ is. unnamed.global page (owned_named frame (owns_page p.ranges page) (unless (is_guarded p.memory roots) o) (unless nothing_guarded o) (unless_named frame (is_guarded p.memory roots) o) is)

pub unnamed_is_untouched : UnnamedIsUntouched
unnamed_is_untouched p engine frame words none unnamed =
    idle_same frame words p p.failsafe (turned_by (with_frame p frame words) engine (p.engines engine).element) (turned_by p engine (p.engines engine).element)
    (ap (turned_by (with_frame p frame words) engine) none
    ∙ (next_same frame words p engine (p.engines engine).slots.running
    (record { table = unnamed.table; global = unnamed_page p engine frame p.roots unnamed })
    (λ image is. record { table = unnamed.announced image is; global = unnamed_page p engine frame (with_root p.roots image.root) unnamed })
    ∙ sym (ap (λ element. turned_with_frame (turned_by p engine element) frame words) none)))

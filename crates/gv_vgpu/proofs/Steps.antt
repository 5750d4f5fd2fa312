-- The steps of a load as the private device takes them, and the root that it announces.
use Rattle.std.proofs.Common.{◌≡◌, ℕ, ◌+◌, ◌==◌, ◌&&◌, Bool, true, false, not, nat_lt, Result, Ok, Err, Some, length, refl, ◌∙◌}
use Rattle.gv_types.specs.declared.reply.Reason.{Reason}
use Rattle.gv_types.specs.declared.reply.Reason.TheVariants.{Context, Entry, Range}
use Rattle.gv_ctx.specs.Descriptor.{descriptor_of}
use Rattle.gv_ctx.specs.declared.descriptor.Descriptor.{Descriptor}
use Rattle.gv_ctx.specs.declared.image.Image.{Image}
use Rattle.gv_entry.specs.Ranges.{owns_page}
use Rattle.gv_entry.specs.SameTables.{has}
use Rattle.gv_entry.specs.Tables.{has_bad_entry}
use Rattle.gv_fetch.specs.Fetch.{check, fetched, then}
use Rattle.gv_private.specs.Device.{PrivateDevice, with_element}
use Rattle.gv_private.specs.Load.{fetched_into, global_space, image_in, loaded, work_of}
use Rattle.gv_private.specs.Roots.{announced, with_root}
use Rattle.gv_private.proofs.Keeps.{with_root-has}
use Rattle.gv_vgpu.specs.Loading.{image_found}

-- ---- one after another

check-then : {A B : Type 0} (b : Bool) (reason : Reason) (r : Result A Reason) (go : A → Result B Reason) → check b reason (then r go) ≡ then (check b reason r) go
check-then true reason r go = refl
check-then false reason r go = refl

-- what comes of an image: its root is announced, and its ring fetched
abbrev pub goes_on : PrivateDevice → ℕ → Image → Result PrivateDevice Reason
goes_on p engine image = then (announced p image.root) (λ q. fetched_into q engine image)

-- A load finds the image, and goes on with it.
loads-by : (p : PrivateDevice) (engine word : ℕ) → loaded p engine word ≡ then (image_found p (descriptor_of word)) (goes_on p engine)
loads-by p engine word =
    let descriptor : Descriptor = descriptor_of word in
    (λ i. check (descriptor.mode == 3) Context (check-then (owns_page p.ranges descriptor.page && owns_page p.ranges (descriptor.page + 1)) Range (image_in p descriptor.page) (goes_on p engine) i))
    ∙ check-then (descriptor.mode == 3) Context (check (owns_page p.ranges descriptor.page && owns_page p.ranges (descriptor.page + 1)) Range (image_in p descriptor.page)) (goes_on p engine)

pub without-image : (p : PrivateDevice) (engine word : ℕ) (reason : Reason) → image_found p (descriptor_of word) ≡ Err reason → loaded p engine word ≡ Err reason
without-image p engine word reason is = loads-by p engine word ∙ (λ i. then (is i) (goes_on p engine))

pub with-image : (p : PrivateDevice) (engine word : ℕ) (image : Image) → image_found p (descriptor_of word) ≡ Ok image → loaded p engine word ≡ goes_on p engine image
with-image p engine word image is = loads-by p engine word ∙ (λ i. then (is i) (goes_on p engine))

pub without-root : (p : PrivateDevice) (engine : ℕ) (image : Image) (reason : Reason) → announced p image.root ≡ Err reason → goes_on p engine image ≡ Err reason
without-root p engine image reason is = λ i. then (is i) (λ q. fetched_into q engine image)

pub with-root : (p q : PrivateDevice) (engine : ℕ) (image : Image) → announced p image.root ≡ Ok q → goes_on p engine image ≡ fetched_into q engine image
with-root p q engine image is = λ i. then (is i) (λ q. fetched_into q engine image)

pub without-items : (p : PrivateDevice) (engine : ℕ) (image : Image) (reason : Reason) → fetched (global_space p) engine image ≡ Err reason → fetched_into p engine image ≡ Err reason
without-items p engine image reason is = λ i. then (is i) (λ items. Ok (with_element p engine (Some (work_of image items))))

-- ---- the root

check-ok : {A : Type 0} (b : Bool) (reason : Reason) (r : Result A Reason) (x : A) → check b reason r ≡ Ok x → (b ≡ true) × (r ≡ Ok x)
check-ok true reason r x is = (refl, is)
check-ok false reason r x is = cc

same-ok : (r : Result PrivateDevice Reason) (p q : PrivateDevice) → r ≡ Ok p → r ≡ Ok q → q ≡ p
same-ok r p q one other = cc

-- A root that was announced is in memory, and is a root then. All else is as it was.
module _ (p q : PrivateDevice) (root : ℕ) (is : announced p root ≡ Ok q) where
  abbrev after : PrivateDevice
  after = record p { roots = with_root p.roots root }

  abbrev tested : Result PrivateDevice Reason
  tested = check (not (has_bad_entry p.memory (with_root p.roots root))) Entry (Ok after)

  first : (nat_lt root (length p.memory) ≡ true) × (tested ≡ Ok q)
  first = check-ok (nat_lt root (length p.memory)) Entry tested q is

  announced-is : q ≡ after
  announced-is = same-ok (Ok after) after q refl (check-ok (not (has_bad_entry p.memory (with_root p.roots root))) Entry (Ok after) q first.1).1

  pub announced-has : has q.roots root ≡ true
  announced-has = (λ i. has (announced-is i).roots root) ∙ with_root-has p.roots root

  pub announced-memory : q.memory ≡ p.memory
  announced-memory = λ i. (announced-is i).memory

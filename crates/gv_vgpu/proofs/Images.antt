-- What is read of a context's image, and a load step by step.
use Rattle.std.proofs.Common.{◌≡◌, ◌≢◌, ℕ, ◌+◌, ◌*◌, ◌/◌, ◌%◌, ◌^◌, ◌<◌, ◌==◌, ◌&&◌, nat_lt, Bool, true, false, List, Result, Ok, Err, slice_index, slice_set, length, if◌then◌else◌, refl, sym, ◌∙◌, arith}
use Rattle.std.proofs.lemmas.List.{get_or-set_same, get_or-set_other}
use Rattle.std.proofs.lemmas.Bool.Decides.{nat_tests}
use Rattle.gv_ctx.specs.Image.{control_of, image_of, image_read, is_good}
use Rattle.gv_ctx.specs.declared.descriptor.Descriptor.{Descriptor}
use Rattle.gv_ctx.specs.declared.image.Image.{Image}
use Rattle.gv_ctx.specs.declared.image.BadContext.{BadContext}
use Rattle.gv_entry.specs.Ranges.{InParts, owns_page}
use Rattle.gv_fetch.specs.Fetch.{check, dwords}
use Rattle.gv_fetch.proofs.Reading.{get-dwords}
use Rattle.gv_gpu.specs.Device.{Device}
use Rattle.gv_gtt.specs.Gtt.{over, ranges_of}
use Rattle.gv_gtt.specs.declared.gtt.Gtt.{Gtt}
use Rattle.gv_private.specs.Device.{PrivateDevice}
use Rattle.gv_private.specs.Load.{global_space, good_or_context, image_in}
use Rattle.gv_types.specs.declared.ranges.Ranges.{Ranges}
use Rattle.gv_types.specs.declared.reply.Reason.TheVariants.{Context, Range}
use Rattle.gv_vgpu.specs.Loading.{image_found}
use Rattle.gv_vgpu.specs.Seen.{seen_in, space_seen}

-- The registers of an image are those of any page with the same dwords up to 0x33.
module _ (a b : List ℕ) (same : (k : ℕ) → k < 0x34 → slice_index a k ≡ slice_index b k) where
  control-same : control_of a ≡ control_of b
  control-same = same 0x0B (omega arith)

  image-same : image_of a ≡ image_of b
  image-same = λ i. record {
    head = same 0x05 (omega arith) i / 4 % 2 ^ 19 * 4;
    tail = same 0x07 (omega arith) i;
    start = same 0x09 (omega arith) i;
    pages = control-same i / 2 ^ 12 % 2 ^ 9 + 1;
    root = same 0x31 (omega arith) i % 2 ^ 16 * 2 ^ 20 + same 0x33 (omega arith) i / 2 ^ 12;
  }

  read-same : image_read a ≡ image_read b
  read-same = λ i. if is_good (image-same i) (control-same i) then Ok (image-same i) else Err record {}

-- So a page with the dwords that stand in a space reads as they do.
pub read-in : (page : List ℕ) (word : ℕ → ℕ) (at : ℕ) → ((k : ℕ) → k < 0x34 → slice_index page k ≡ word (at + 4 * k)) → image_read page ≡ image_read (dwords word at 0x34)
read-in page word at same = read-same page (dwords word at 0x34) (λ k low. same k low ∙ sym (get-dwords word at 0x34 k low))

-- one dword more was read
pub more-read :
    (xs : List ℕ) (word : ℕ → ℕ) (n value : ℕ) → n < length xs → value ≡ word n → ((k : ℕ) → k < n → slice_index xs k ≡ word k) → (k : ℕ) → k < n + 1 → slice_index (slice_set xs n value) k ≡ word k
more-read xs word n value within is before k low = choose (k == n) refl
  where
    choose : (b : Bool) → (k == n) ≡ b → slice_index (slice_set xs n value) k ≡ word k
    choose true hit =
        let e : k ≡ n = grind (arith, nat_tests) in
        (λ i. slice_index (slice_set xs n value) (e i)) ∙ get_or-set_same xs n value 0 within ∙ is ∙ (λ i. word (sym e i))
    choose false miss =
        let other : k ≢ n = grind (arith, nat_tests) in
        get_or-set_other xs n k value 0 other ∙ before k (omega arith)

-- The image of a descriptor whose mode and pages are good is what its page reads as.
pub image-is :
    (p : PrivateDevice) (descriptor : Descriptor) (page : List ℕ) (r : Result Image BadContext) → descriptor.mode ≡ 3 → owns_page p.ranges descriptor.page ≡ true → owns_page p.ranges (descriptor.page + 1) ≡ true
    → ((k : ℕ) → k < 0x34 → slice_index page k ≡ (global_space p).word ((descriptor.page + 1) * 4096 + 4 * k))
    → r ≡ image_read page → good_or_context r ≡ image_found p descriptor
image-is p descriptor page r mode first second same is =
    (λ i. good_or_context (is i))
    ∙ (λ i. good_or_context (read-in page (global_space p).word ((descriptor.page + 1) * 4096) same i))
    ∙ (λ i. check (sym mode i == 3) Context (check (sym first i && sym second i) Range (image_in p descriptor.page)))

-- ---- the space that a load sees

owned-below : (ranges : Ranges) (page : ℕ) → InParts ranges → (nat_lt page 0x100000 && owns_page ranges page) ≡ owns_page ranges page
owned-below ranges page parts = choose (nat_lt page 0x100000) refl
  where
    choose : (b : Bool) → nat_lt page 0x100000 ≡ b → (nat_lt page 0x100000 && owns_page ranges page) ≡ owns_page ranges page
    choose true is = λ i. is i && owns_page ranges page
    choose false is =
        let low = parts.low in
        let high = parts.high in
        let past : owns_page ranges page ≡ false = grind (arith, nat_tests) in
        (λ i. is i && owns_page ranges page) ∙ sym past

-- it is the guest's global space
pub space-is : (d : Device) (g : Gtt) (p : PrivateDevice) → InParts (ranges_of g) → space_seen (seen_in d g) ≡ global_space (over p d g)
space-is d g p parts = λ i. record { owned = λ page. owned-below (ranges_of g) page parts i; word = (space_seen (seen_in d g)).word }

-- What an engine does goes by all that the device holds but its count of faults.
use Rattle.std.proofs.Common.{◌≡◌, ℕ, ◌+◌, ◌/◌, ◌%◌, ◌^◌, ◌==◌, ◌||◌, ◌&&◌, not, Bool, true, false, [], ◌∷◌, Option, None, Some, cond, refl, ap, ◌∙◌}
use Rattle.std.specs.Int.{from_le_bytes, w32}
use Rattle.gv_types.specs.Bits.{byte_of, with_byte}
use Rattle.gv_types.specs.Memory.{half_of, with_half}
use Rattle.gv_gpu.specs.Device.{Device, Loaded, with_faults}
use Rattle.gv_gpu.specs.Physical.{live_page, page_of, entry_in, third_table, second_table, first_table, leaf, physical_entry, read_page, write_page, word_in, word_stored, byte_at, byte_stored, operand_at, operand_stored, dword_at, page_strays, walk_strays, read_strays, dword_strays, is_page, image_address, is_own_image, is_anothers, is_shadow, written_strays, write_strays}

module _ (n : ℕ) where
  -- the device with another count of faults
  abbrev pub other : Device → Device
  other d = with_faults d n

  -- ---- the walk

  entry_in-other : (d : Device) (page : Option ℕ) (index : ℕ) → entry_in (other d) page index ≡ entry_in d page index
  entry_in-other d None index = refl
  entry_in-other d (Some page) index = refl

  third_table-other : (d : Device) (root at : ℕ) → third_table (other d) root at ≡ third_table d root at
  unfolding third_table
  third_table-other d root at = ap (page_of d) (entry_in-other d (live_page d root) (at / 2 ^ 39 % 512))

  second_table-other : (d : Device) (root at : ℕ) → second_table (other d) root at ≡ second_table d root at
  unfolding second_table
  second_table-other d root at =
      ap (λ t. page_of d (entry_in (other d) t (at / 2 ^ 30 % 512))) (third_table-other d root at)
      ∙ ap (page_of d) (entry_in-other d (third_table d root at) (at / 2 ^ 30 % 512))

  first_table-other : (d : Device) (root at : ℕ) → first_table (other d) root at ≡ first_table d root at
  unfolding first_table
  first_table-other d root at =
      ap (λ t. page_of d (entry_in (other d) t (at / 2 ^ 21 % 512))) (second_table-other d root at)
      ∙ ap (page_of d) (entry_in-other d (second_table d root at) (at / 2 ^ 21 % 512))

  leaf-other : (d : Device) (root at : ℕ) → leaf (other d) root at ≡ leaf d root at
  unfolding leaf
  leaf-other d root at =
      ap (λ t. entry_in (other d) t (at / 2 ^ 12 % 512)) (first_table-other d root at)
      ∙ entry_in-other d (first_table d root at) (at / 2 ^ 12 % 512)

  entry_at-other : (d : Device) (root : ℕ) (global : Bool) (at : ℕ) → physical_entry (other d) root global at ≡ physical_entry d root global at
  entry_at-other d root true at = refl
  entry_at-other d root false at = leaf-other d root at

  read_page-other : (d : Device) (root : ℕ) (global : Bool) (at : ℕ) → read_page (other d) root global at ≡ read_page d root global at
  unfolding read_page
  read_page-other d root global at = ap (page_of d) (entry_at-other d root global at)

  write_page-other : (d : Device) (root : ℕ) (global : Bool) (at : ℕ) → write_page (other d) root global at ≡ write_page d root global at
  unfolding write_page
  write_page-other d root global at = ap (λ e. cond (e / 2 % 2 == 1) (page_of d e) None) (entry_at-other d root global at)

  -- ---- reading and writing

  word_in-other : (d : Device) (page : Option ℕ) (at : ℕ) → word_in (other d) page at ≡ word_in d page at
  word_in-other d None at = refl
  word_in-other d (Some page) at = refl

  word_stored-other : (d : Device) (page : Option ℕ) (at word : ℕ) → word_stored (other d) page at word ≡ other (word_stored d page at word)
  word_stored-other d None at word = refl
  word_stored-other d (Some page) at word = refl

  word_read : (d : Device) (root : ℕ) (global : Bool) (at : ℕ) → word_in (other d) (read_page (other d) root global at) at ≡ word_in d (read_page d root global at) at
  word_read d root global at = ap (λ page. word_in (other d) page at) (read_page-other d root global at) ∙ word_in-other d (read_page d root global at) at

  -- what a write makes of the word that it lies in
  word_written : (d : Device) (root : ℕ) (global : Bool) (at : ℕ) (change : ℕ → ℕ)
      → word_stored (other d) (write_page (other d) root global at) at (change (word_in (other d) (write_page (other d) root global at) at))
      ≡ other (word_stored d (write_page d root global at) at (change (word_in d (write_page d root global at) at)))
  word_written d root global at change =
      ap (λ page. word_stored (other d) page at (change (word_in (other d) page at))) (write_page-other d root global at)
      ∙ ap (λ word. word_stored (other d) (write_page d root global at) at (change word)) (word_in-other d (write_page d root global at) at)
      ∙ word_stored-other d (write_page d root global at) at (change (word_in d (write_page d root global at) at))

  pub operand_at-other : (d : Device) (root : ℕ) (global : Bool) (at : ℕ) → operand_at (other d) root global at ≡ operand_at d root global at
  unfolding operand_at
  operand_at-other d root global at = ap (λ word. half_of word at) (word_read d root global at)

  pub byte_at-other : (d : Device) (root : ℕ) (global : Bool) (at : ℕ) → byte_at (other d) root global at ≡ byte_at d root global at
  unfolding byte_at
  byte_at-other d root global at = ap (λ word. byte_of word at) (word_read d root global at)

  pub operand_stored-other : (d : Device) (root : ℕ) (global : Bool) (at value : ℕ) → operand_stored (other d) root global at value ≡ other (operand_stored d root global at value)
  unfolding operand_stored
  operand_stored-other d root global at value = word_written d root global at (λ word. with_half word at value)

  pub byte_stored-other : (d : Device) (root : ℕ) (global : Bool) (at value : ℕ) → byte_stored (other d) root global at value ≡ other (byte_stored d root global at value)
  unfolding byte_stored
  byte_stored-other d root global at value = word_written d root global at (λ word. with_byte word at value)

  pub dword_at-other : (d : Device) (root : ℕ) (global : Bool) (at : ℕ) → dword_at (other d) root global at ≡ dword_at d root global at
  unfolding dword_at
  dword_at-other d root global at = λ i. cond (at % 4 == 0)
      (operand_at-other d root global at i)
      (from_le_bytes w32 (byte_at-other d root global at i ∷ byte_at-other d root global (at + 1) i ∷ byte_at-other d root global (at + 2) i ∷ byte_at-other d root global (at + 3) i ∷ []))

  -- ---- strays

  page_strays-other : (d : Device) (owner : ℕ) (page : Option ℕ) → page_strays (other d) owner page ≡ page_strays d owner page
  page_strays-other d owner None = refl
  page_strays-other d owner (Some page) = refl

  table_strays : (d : Device) (owner : ℕ) (a b : Option ℕ) → a ≡ b → page_strays (other d) owner a ≡ page_strays d owner b
  table_strays d owner a b same = ap (page_strays (other d) owner) same ∙ page_strays-other d owner b

  walk_strays-other : (d : Device) (l : Loaded) (global : Bool) (at : ℕ) → walk_strays (other d) l global at ≡ walk_strays d l global at
  unfolding walk_strays
  walk_strays-other d l true at = refl
  walk_strays-other d l false at = λ i.
      table_strays d l.owner (live_page d l.root) (live_page d l.root) refl i
      || table_strays d l.owner (third_table (other d) l.root at) (third_table d l.root at) (third_table-other d l.root at) i
      || table_strays d l.owner (second_table (other d) l.root at) (second_table d l.root at) (second_table-other d l.root at) i
      || table_strays d l.owner (first_table (other d) l.root at) (first_table d l.root at) (first_table-other d l.root at) i

  pub read_strays-other : (d : Device) (l : Loaded) (global : Bool) (at : ℕ) → read_strays (other d) l global at ≡ read_strays d l global at
  unfolding read_strays
  read_strays-other d l global at = λ i.
      walk_strays-other d l global at i
      || table_strays d l.owner (read_page (other d) l.root global at) (read_page d l.root global at) (read_page-other d l.root global at) i

  pub dword_strays-other : (d : Device) (l : Loaded) (global : Bool) (at : ℕ) → dword_strays (other d) l global at ≡ dword_strays d l global at
  unfolding dword_strays
  dword_strays-other d l global at = λ i. cond (at % 4 == 0)
      (read_strays-other d l global at i)
      (read_strays-other d l global at i || read_strays-other d l global (at + 1) i || read_strays-other d l global (at + 2) i || read_strays-other d l global (at + 3) i)

  is_own_image-other : (d : Device) (l : Loaded) (page : ℕ) → is_own_image (other d) l page ≡ is_own_image d l page
  unfolding is_own_image
  is_own_image-other d l page = λ i.
      is_page (read_page-other d l.root true (image_address l.descriptor) i) page
      || is_page (read_page-other d l.root true (image_address l.descriptor + 4096) i) page

  written_strays-other : (d : Device) (l : Loaded) (page : Option ℕ) → written_strays (other d) l page ≡ written_strays d l page
  written_strays-other d l None = refl
  written_strays-other d l (Some page) = λ i. is_anothers l.owner (d.label page) || (is_shadow (d.label page) && not (is_own_image-other d l page i))

  pub write_strays-other : (d : Device) (l : Loaded) (global : Bool) (at : ℕ) → write_strays (other d) l global at ≡ write_strays d l global at
  unfolding write_strays
  write_strays-other d l global at = λ i.
      walk_strays-other d l global at i
      || (ap (written_strays (other d) l) (write_page-other d l.root global at) ∙ written_strays-other d l (write_page d l.root global at)) i

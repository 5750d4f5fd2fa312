-- Where a store to the per-process page 1 goes.
use Rattle.std.proofs.Common.{◌≡◌, ℕ, ◌+◌, ◌*◌, ◌/◌, ◌^◌, true, false, not, ◌&&◌, List, [], ◌∷◌, cond, refl, ap, ◌∙◌, arith, None, Some}
use Rattle.std.specs.Prelude.{slice_index}
use Rattle.gv_types.specs.Memory.{Memory}
use Rattle.gv_entry.specs.Entry.{process_entry}
use Rattle.gv_entry.specs.declared.process.Process.{Process}
use Rattle.gv_entry.specs.declared.process.Process.TheVariants.{Page, Table}
use Rattle.gv_entry.specs.Grants.{if_writable, write_grant}
use Rattle.gv_entry.specs.Tables.{frame_words, level_entry, index_at, mapped_page, through, through_or_large, walk, is_guarded}
use Rattle.gv_calm.proofs.Memories.{Holds, Words, Leaf, twelve, thirteen, fourteen, fifteen, frame_in, entry_in, table_words, page_words, guarded-tables}

to_third : process_entry (slice_index (table_words 0x9003) 0) 4 32 ≡ Table 9
unfolding table_words
to_third = refl

to_second : process_entry (slice_index (table_words 0xA003) 0) 3 32 ≡ Table 10
unfolding table_words
to_second = refl

to_first : process_entry (slice_index (table_words 0xB003) 0) 2 32 ≡ Table 11
unfolding table_words
to_first = refl

second_entry : (a b c : ℕ) → slice_index (page_words a b c) 1 ≡ b
unfolding page_words
second_entry a b c = refl

leaf-page : (leaf : Leaf) → process_entry (entry_in leaf) 1 32 ≡ Page (frame_in leaf) true
leaf-page twelve = refl
leaf-page thirteen = refl
leaf-page fourteen = refl
leaf-page fifteen = refl

module _ (start : ℕ) (m : Memory) (s : Words) (h : Holds start m s) where
  entry-is : (level table index place : ℕ) (words : List ℕ) (e : Process) → frame_words m table ≡ words → index ≡ place → process_entry (slice_index words place) level 32 ≡ e → level_entry m level table index ≡ e
  entry-is level table index place words e are is gives = (λ i. process_entry (slice_index (are i) (is i)) level (h.frames i)) ∙ gives

  -- the store's address
  walked : (at : ℕ) → index_at 4 at ≡ 0 → index_at 3 at ≡ 0 → index_at 2 at ≡ 0 → index_at 1 at ≡ 1 → walk m 8 at ≡ Some (record { frame = frame_in s.b; writable = true })
  walked at four three two one =
      (λ i. through (entry-is 4 8 (index_at 4 at) 0 (table_words 0x9003) (Table 9) h.fourth four to_third i) (λ third. through (level_entry m 3 third (index_at 3 at)) (λ second. through_or_large (level_entry m 2 second (index_at 2 at)) (index_at 1 at) (λ first. mapped_page (level_entry m 1 first (index_at 1 at))))))
      ∙ (λ i. through (entry-is 3 9 (index_at 3 at) 0 (table_words 0xA003) (Table 10) h.third three to_second i) (λ second. through_or_large (level_entry m 2 second (index_at 2 at)) (index_at 1 at) (λ first. mapped_page (level_entry m 1 first (index_at 1 at)))))
      ∙ (λ i. through_or_large (entry-is 2 10 (index_at 2 at) 0 (table_words 0xB003) (Table 11) h.second two to_first i) (index_at 1 at) (λ first. mapped_page (level_entry m 1 first (index_at 1 at))))
      ∙ (λ i. mapped_page (entry-is 1 11 (index_at 1 at) 1 (page_words (entry_in s.a) (entry_in s.b) (entry_in s.c)) (Page (frame_in s.b) true) h.first one (ap (λ e. process_entry e 1 32) (second_entry (entry_in s.a) (entry_in s.b) (entry_in s.c)) ∙ leaf-page s.b) i))

  free_leaf : (leaf : Leaf) → is_guarded m (8 ∷ []) (frame_in leaf) ≡ false
  free_leaf twelve = guarded-tables start m s h 12
  free_leaf thirteen = guarded-tables start m s h 13
  free_leaf fourteen = guarded-tables start m s h 14
  free_leaf fifteen = guarded-tables start m s h 15

  -- it goes to the page's frame
  pub store-granted : (at : ℕ) → at / 2 ^ 12 ≡ 1 → write_grant m (8 ∷ []) 8 (0 + at / 4 * 4) ≡ Some (frame_in s.b)
  store-granted at page =
      ap (if_writable (is_guarded m (8 ∷ []))) (walked (0 + at / 4 * 4) (omega (arith, page)) (omega (arith, page)) (omega (arith, page)) (omega (arith, page)))
      ∙ (λ i. cond (true && not (free_leaf s.b i)) (Some (frame_in s.b)) None)

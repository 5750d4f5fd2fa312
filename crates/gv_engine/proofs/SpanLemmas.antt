-- Accesses of one page go through the same walk, also after words of another page have changed than a table of it.
use Rattle.std.proofs.Common.{◌≡◌, ◌≢◌, ℕ, ◌+◌, ◌/◌, ◌%◌, ◌^◌, ◌||◌, Bool, true, false, List, Option, None, Some, get_or, refl, sym, ap, ◌∙◌}
use Rattle.std.proofs.lemmas.Nat.{shr-shr}
use Rattle.std.proofs.lemmas.Bool.Decides.{nat_tests}
use Rattle.std.proofs.Common.{arith}
use Rattle.gv_gpu.specs.Device.{Device, Loaded}
use Rattle.gv_gpu.specs.Physical.{live_page, page_of, entry_in, third_table, second_table, first_table, leaf, read_page, write_page, is_page, is_own_image, page_strays, read_strays, written_strays, write_strays}
use Rattle.gv_engine.specs.Rows.{reworded}
use Rattle.gv_engine.specs.Walk.{walk_of, writable_page, tables_stray, is_table}
use Rattle.gv_engine.specs.declared.walk.Walk.{Walk}
use Rattle.gv_engine.proofs.WalkLemmas.{read_page-walk, write_page-walk, read_strays-walk, write_strays-walk}

-- bits above the page's
index : (a b n : ℕ) → a / 4096 ≡ b / 4096 → a / 2 ^ (12 + n) % 512 ≡ b / 2 ^ (12 + n) % 512
index a b n same = ap (λ k. k % 512) (sym (shr-shr a 12 n) ∙ ap (λ page. page / 2 ^ n) same ∙ shr-shr b 12 n)

-- the entries of the tables of a walk are the same with other words
pub record KeepsTables (d : Device) (words : ℕ → List ℕ) (w : Walk) : Type 0 where
  pub root : (i : ℕ) → entry_in (reworded d words) w.root i ≡ entry_in d w.root i
  pub third : (i : ℕ) → entry_in (reworded d words) w.third i ≡ entry_in d w.third i
  pub second : (i : ℕ) → entry_in (reworded d words) w.second i ≡ entry_in d w.second i
  pub first : (i : ℕ) → entry_in (reworded d words) w.first i ≡ entry_in d w.first i

module _ (d : Device) (words : ℕ → List ℕ) (root a b : ℕ) (same : a / 4096 ≡ b / 4096) (keeps : KeepsTables d words (walk_of d root false b)) where
  third_same : third_table (reworded d words) root a ≡ third_table d root b
  unfolding third_table
  third_same = ap (page_of d) (keeps.root (a / 2 ^ 39 % 512) ∙ ap (entry_in d (live_page d root)) (index a b 27 same))

  second_same : second_table (reworded d words) root a ≡ second_table d root b
  unfolding second_table
  second_same = ap (page_of d) (ap (λ t. entry_in (reworded d words) t (a / 2 ^ 30 % 512)) third_same ∙ keeps.third (a / 2 ^ 30 % 512) ∙ ap (entry_in d (third_table d root b)) (index a b 18 same))

  first_same : first_table (reworded d words) root a ≡ first_table d root b
  unfolding first_table
  first_same = ap (page_of d) (ap (λ t. entry_in (reworded d words) t (a / 2 ^ 21 % 512)) second_same ∙ keeps.second (a / 2 ^ 21 % 512) ∙ ap (entry_in d (second_table d root b)) (index a b 9 same))

  leaf_same : leaf (reworded d words) root a ≡ leaf d root b
  unfolding leaf
  leaf_same = ap (λ t. entry_in (reworded d words) t (a / 2 ^ 12 % 512)) first_same ∙ keeps.first (a / 2 ^ 12 % 512) ∙ ap (entry_in d (first_table d root b)) (index a b 0 same)

  walk_same : walk_of (reworded d words) root false a ≡ walk_of d root false b
  walk_same = λ i. record { root = live_page d root; third = third_same i; second = second_same i; first = first_same i; entry = leaf_same i }

  pub read_page-same : read_page (reworded d words) root false a ≡ read_page d root false b
  read_page-same = sym (read_page-walk (reworded d words) root false a) ∙ ap (λ (w : Walk). page_of d w.entry) walk_same ∙ read_page-walk d root false b

  pub write_page-same : write_page (reworded d words) root false a ≡ write_page d root false b
  write_page-same = sym (write_page-walk (reworded d words) root false a) ∙ ap (λ (w : Walk). writable_page d w.entry) walk_same ∙ write_page-walk d root false b

own_image-same : (d : Device) (words : ℕ → List ℕ) (l : Loaded) (page : ℕ) → is_own_image (reworded d words) l page ≡ is_own_image d l page
unfolding is_own_image read_page
own_image-same d words l page = refl

written-same : (d : Device) (words : ℕ → List ℕ) (l : Loaded) (page : Option ℕ) → written_strays (reworded d words) l page ≡ written_strays d l page
unfolding is_own_image read_page
written-same d words l None = refl
written-same d words l (Some page) = refl

module _ (d : Device) (words : ℕ → List ℕ) (l : Loaded) (a b : ℕ) (same : a / 4096 ≡ b / 4096) (keeps : KeepsTables d words (walk_of d l.root false b)) where
  pub read_strays-same : read_strays (reworded d words) l false a ≡ read_strays d l false b
  read_strays-same =
      sym (read_strays-walk (reworded d words) l false a)
      ∙ ap (λ (w : Walk). tables_stray d l.owner w || page_strays d l.owner (page_of d w.entry)) (walk_same d words l.root a b same keeps)
      ∙ read_strays-walk d l false b

  pub write_strays-same : write_strays (reworded d words) l false a ≡ write_strays d l false b
  write_strays-same =
      sym (write_strays-walk (reworded d words) l false a)
      ∙ ap (λ (w : Walk). tables_stray d l.owner w || written_strays (reworded d words) l (writable_page d w.entry)) (walk_same d words l.root a b same keeps)
      ∙ ap (λ strayed. tables_stray d l.owner (walk_of d l.root false b) || strayed) (written-same d words l (writable_page d (walk_of d l.root false b).entry))
      ∙ write_strays-walk d l false b

-- nothing changed
pub keeps-all : (d : Device) (w : Walk) → KeepsTables d d.words w
keeps-all d w = record { root = λ i. refl; third = λ i. refl; second = λ i. refl; first = λ i. refl }

-- another page changed
module _ (d : Device) (words : ℕ → List ℕ) (page : ℕ) (others : (q : ℕ) → q ≢ page → words q ≡ d.words q) where
  entry-same : (t : Option ℕ) → is_page t page ≡ false → (i : ℕ) → entry_in (reworded d words) t i ≡ entry_in d t i
  entry-same None apart i = refl
  entry-same (Some q) apart i =
      let differs : q ≢ page = grind (arith, nat_tests) in
      ap (λ ws. get_or ws i 0) (others q differs)

  split : (p q r s : Bool) → (p || q || r || s) ≡ false → (p ≡ false) × (q ≡ false) × (r ≡ false) × (s ≡ false)
  split false false false false e = (refl, refl, refl, refl)
  split true q r s e = cc
  split false true r s e = cc
  split false false true s e = cc
  split false false false true e = cc

  pub keeps-others : (w : Walk) → is_table w page ≡ false → KeepsTables d words w
  keeps-others w apart =
      let each = split (is_page w.root page) (is_page w.third page) (is_page w.second page) (is_page w.first page) apart in
      record { root = entry-same w.root each.0; third = entry-same w.third each.1; second = entry-same w.second each.2; first = entry-same w.first each.3 }

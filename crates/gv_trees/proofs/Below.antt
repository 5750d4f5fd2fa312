-- What an entry of a shadow table that is present names.
use Rattle.std.proofs.Common.{ℕ, ◌≡◌, ◌+◌, ◌-◌, ◌*◌, ◌/◌, ◌%◌, ◌<◌, ◌≤◌, Bool, true, false, List, get_or, cond, Some, refl, ap, ◌∙◌, subst, arith}
use Rattle.std.proofs.lemmas.Bool.Decides.{nat_tests}
use Rattle.gv_entry.specs.declared.process.Process.{Process}
use Rattle.gv_entry.specs.declared.process.Process.TheVariants.{Absent, Table, Large, Page, Bad}
use Rattle.gv_gpu.specs.Device.{Device}
use Rattle.gv_guest.specs.Placed.{Placed}
use Rattle.gv_types.specs.Memory.{Memory as Words}
use Rattle.gv_shape.specs.Shadow.{Names, split_level, has_leaves}
use Rattle.gv_shape.specs.Counts.{rank}
use Rattle.gv_sppgtt.specs.Sound.{flag}
use Rattle.gv_sppgtt.specs.State.{pages_of, readings_of}
use Rattle.gv_sppgtt.specs.Serving.{Serves}
use Rattle.gv_sppgtt.specs.declared.tables.Tables.{Tables}
use Rattle.gv_trees.specs.Served.{IsTable}
use Rattle.gv_gpu.specs.Part.{shadow_label}

same_rank : (node level : ℕ) → rank node ≡ level → 2 ≤ level → (node ≡ level) × (node < 5)
same_rank node level r h = grind (arith, nat_tests)

rank-below : (node : ℕ) → node ≤ 4 → rank (node - 1) ≡ node - 1
rank-below node h = grind (arith, nat_tests)

split-ranks : (w : Bool) → rank (split_level w) ≡ 1
split-ranks true = refl
split-ranks false = refl

no_leaves : (node : ℕ) → 2 ≤ node → node < 5 → has_leaves node ≡ true → ⊥
no_leaves node low high h = grind (arith, nat_tests)

module _ (placed : Placed) (t : Tables) (guarded : ℕ → Bool) (level : ℕ) (low : 2 ≤ level) (high : level < 5) (word : ℕ) (present : word % 2 ≡ 1) where
  named : (r : Process) → Names placed (pages_of t) guarded level r word → IsTable t (level - 1) (word / 4096)
  named Absent h = absurd (omega arith)
  named (Table h) (a, (b, (p, is, e))) = record {
    node = level - 1;
    frame = h;
    ranked = rank-below level (omega arith);
    stands = is ∙ ap (λ n. Some n) (omega arith);
  }
  named (Large b w) (two, (p, is, e)) = record {
    node = split_level w;
    frame = b;
    ranked = split-ranks w ∙ omega arith;
    stands = is ∙ ap (λ n. Some n) (page w e);
  }
    where
      page : (w : Bool) → word ≡ p * 4096 + ((cond w 8 0) + 7) → p ≡ word / 4096
      page true e = omega arith
      page false e = omega arith
  named (Page h w) (leaf, small, is) = absurd (no_leaves level low high leaf)
  named Bad h = absurd h

-- a page that stands has a shadow's label, and its entries name tables one level lower
module _ (d : Device) (placed : Placed) (pins : List ℕ) (t : Tables) (m : Words) (s : Serves d placed pins t m) (level page : ℕ) (table : IsTable t level page) where
  pub below : (i : ℕ) → 2 ≤ level → i < 512 → get_or (d.words page) i 0 % 2 ≡ 1 → IsTable t (level - 1) (get_or (d.words page) i 0 / 4096)
  below i low small present =
      let at = same_rank table.node level table.ranked low in
      let stands : pages_of t level table.frame ≡ Some page = subst (λ k. pages_of t k table.frame ≡ Some page) at.0 table.stands in
      let high : level < 5 = omega arith in
      named placed t (flag t.told.items) level low high (get_or (d.words page) i 0) present (readings_of d t level table.frame i) (s.holds.sound.local.names level table.frame page i stands small)

  pub labelled : d.label page ≡ Some (shadow_label placed.guest)
  labelled = s.holds.sound.local.labelled table.node table.frame page table.stands

-- Shadow tables reach what is granted, stay right while their pages and tables stay, and are the live tables.
use Rattle.std.proofs.Common.{ℕ, ◌≤◌, ◌≡◌, Bool, true, false, List, Option, None, Some, is_some, length, get_or, refl, sym, ap, ◌∙◌, subst, arith, ⊎_elim}
use Rattle.std.proofs.lemmas.Bool.{cases_lt}
use Rattle.gv_types.specs.Memory.{Memory}
use Rattle.gv_entry.specs.declared.process.Process.{Process}
use Rattle.gv_entry.specs.Entry.{process_entry}
use Rattle.gv_entry.specs.Tables.{frame_words, is_guarded}
use Rattle.gv_entry.specs.SameTables.{SameTables}
use Rattle.gv_entry.proofs.SameTables.{tables_decide}
use Rattle.gv_shape.specs.Shadow.{Names, wanted, split_level, is_live, is_split}
use Rattle.gv_shape.specs.Shadows.{ShadowsReach, ShadowsKeep, NodesAreTheLiveTables}
use Rattle.gv_shape.proofs.Walk.{read-equals, write-equals}
use Rattle.gv_shape.proofs.Live.{node-live, live-node, node-split, split-node}
use Rattle.gv_shape.proofs.Levels.{wanted-low, wanted-high}

pub shadows_reach : ShadowsReach
shadows_reach d placed m roots pages root page stands s is = record {
  read = λ at. read-equals d placed pages (is_guarded m roots) m roots root page at stands s.local is refl;
  write = λ at. write-equals d placed pages (is_guarded m roots) m roots root page at stands s.local is refl;
}

-- what a node's words have to stand for depends on the words of guarded frames alone
wanted-same : (m n : Memory) (roots : List ℕ) → SameTables m n roots → (level frame index : ℕ) → (level ≤ 4 → is_guarded m roots frame ≡ true) → wanted n level frame index ≡ wanted m level frame index
wanted-same m n roots same level frame index guarded = ⊎_elim
    (λ low. wanted-low n level frame index low
    ∙ ap (λ (ws : List ℕ). process_entry (get_or ws index 0) level (length n)) (same.words frame (guarded (omega arith)))
    ∙ ap (process_entry (get_or (frame_words m frame) index 0) level) same.frames
    ∙ sym (wanted-low m level frame index low))
    (λ high. wanted-high n level frame index high ∙ sym (wanted-high m level frame index high))
    (cases_lt level 5)

pub shadows_keep : ShadowsKeep
shadows_keep d e placed m n roots pages keeps same s =
    let guarded = (tables_decide m n roots same).guarded in
    record {
      tables = λ level frame p few is. ap (λ g. g frame) guarded ∙ s.tables level frame p few is;
      local = record {
        labelled = λ level frame p is. keeps.label level frame p is ∙ s.local.labelled level frame p is;
        names = λ level frame p i is small.
            subst (λ (g : ℕ → Bool). Names placed pages g level (wanted n level frame i) (get_or (e.words p) i 0)) (sym guarded)
            (subst (λ (r : Process). Names placed pages (is_guarded m roots) level r (get_or (e.words p) i 0)) (sym (wanted-same m n roots same level frame i (λ few. s.tables level frame p few is)))
            (subst (λ (ws : List ℕ). Names placed pages (is_guarded m roots) level (wanted m level frame i) (get_or ws i 0)) (sym (keeps.words level frame p is))
            (s.local.names level frame p i is small)));
      };
    }

-- an option is there exactly where a test passes
same_test : (o : Option ℕ) (b : Bool) → ((p : ℕ) → o ≡ Some p → b ≡ true) → (b ≡ true → (p : ℕ) × (o ≡ Some p)) → is_some o ≡ b
same_test (Some p) b there back = sym (there p refl)
same_test None true there back = let at = back refl in cc (at.1)
same_test None false there back = refl

pub nodes_are_the_live_tables : NodesAreTheLiveTables
nodes_are_the_live_tables frames m roots pages parents readings long whole s = record {
  tables = λ level frame low few. same_test (pages level frame) (is_live m roots level frame)
      (λ p is. node-live frames m roots 0 pages parents readings long whole s level frame p few (omega arith) is)
      (λ is. live-node frames m roots 0 pages parents readings long whole s level frame low few (omega arith) is);
  split = λ base writable. same_test (pages (split_level writable) base) (is_split m roots base writable)
      (λ p is. node-split frames m roots 0 pages parents readings long whole s writable base p (omega arith) is)
      (λ is. split-node frames m roots 0 pages parents readings long whole s writable base (omega arith) is);
}

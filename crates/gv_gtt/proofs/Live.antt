-- Where live tables and split keys are the same, so are the nodes; and how many nodes a frame has.
use Rattle.std.proofs.Common.{◌≡◌, ℕ, ◌+◌, ◌<◌, ◌≤◌, Bool, true, false, eqb, List, Option, None, Some, is_some, length, refl, sym, ap, ◌∙◌, subst, ⊎_elim, arith}
use Rattle.std.specs.List.{list_any}
use Rattle.std.proofs.lemmas.Bool.{cases_eq, cases_lt}
use Rattle.std.proofs.lemmas.List.{length-map}
use Rattle.gv_entry.specs.Tables.{SplitKey}
use Rattle.gv_gpu.specs.Device.{Device}
use Rattle.gv_shape.specs.Counts.{one_if}
use Rattle.gv_shape.specs.Shadow.{is_live, is_split, split_level}
use Rattle.gv_shape.specs.Shadows.{AreLiveTables}
use Rattle.gv_shape.proofs.Keys.{is_key, key-listed}
use Rattle.gv_sppgtt.specs.Grown.{HaveSameNodes, nodes_of}
use Rattle.gv_sppgtt.proofs.Meaning.{serving_tables_are_live}
use Rattle.gv_gtt.specs.Changes.{HaveSameLive}
use Rattle.gv_gtt.specs.Gtt.{memory_of, roots_in, nodes_in, levels_of}
use Rattle.gv_gtt.specs.Standing.{Translates}
use Rattle.gv_gtt.specs.declared.gtt.Gtt.{Gtt}

module _ (d : Device) (g : Gtt) (s : Translates d g) where
  pub are-live : AreLiveTables (memory_of d g) (roots_in g) (nodes_in g)
  are-live = serving_tables_are_live d g.memory.frames g.memory.pins g.tables s.serving.serves

  pub levels-nodes : (frame : ℕ) → nodes_of (nodes_in g) frame ≡ levels_of (memory_of d g) (roots_in g) frame
  levels-nodes frame = λ i.
      one_if (are-live.tables 1 frame (omega arith) (omega arith) i) + one_if (are-live.tables 2 frame (omega arith) (omega arith) i)
      + one_if (are-live.tables 3 frame (omega arith) (omega arith) i) + one_if (are-live.tables 4 frame (omega arith) (omega arith) i)

  -- nodes are of frames in memory, at levels from 1 to 6
  no-node : (level frame : ℕ) → (frame < length g.memory.frames.pages → 1 ≤ level → level ≤ 6 → ⊥) → is_some (nodes_in g level frame) ≡ false
  no-node level frame outside = by (nodes_in g level frame) refl
    where
      by : (o : Option ℕ) → nodes_in g level frame ≡ o → is_some (nodes_in g level frame) ≡ false
      by None is = ap is_some is
      by (Some p) is = let low = s.serving.stands.holds.sound.boarded.low level frame p is in absurd (outside low.0 low.1.0 low.1.1)

module _ (d e : Device) (old new : Gtt) (s : Translates d old) (t : Translates e new) (count : length new.memory.frames.pages ≡ length old.memory.frames.pages) (roots : roots_in new ≡ roots_in old)
    (same : HaveSameLive (memory_of d old) (memory_of e new) (roots_in old)) where
  live_same : (level frame : ℕ) → is_live (memory_of e new) (roots_in new) level frame ≡ is_live (memory_of d old) (roots_in old) level frame
  live_same level frame = ap (λ (r : List ℕ). is_live (memory_of e new) r level frame) roots ∙ ap (λ (tables : List ℕ). list_any (λ table. eqb table frame) tables) (same.live level)

  split_same : (base : ℕ) (w : Bool) → base < length old.memory.frames.pages → is_split (memory_of e new) (roots_in new) base w ≡ is_split (memory_of d old) (roots_in old) base w
  split_same base w low =
      let there : base < length (memory_of d old) = subst (λ n. base < n) (sym (length-map old.memory.frames.pages d.words)) low in
      let here : base < length (memory_of e new) = subst (λ n. base < n) (sym (length-map new.memory.frames.pages e.words ∙ count)) low in
      ap (λ (r : List ℕ). is_split (memory_of e new) r base w) roots
      ∙ sym (key-listed (memory_of e new) (roots_in old) base w here)
      ∙ ap (λ (keys : List SplitKey). list_any (is_key base w) keys) same.split
      ∙ key-listed (memory_of d old) (roots_in old) base w there

  split_node : (w : Bool) (base : ℕ) → is_some (nodes_in new (split_level w) base) ≡ is_some (nodes_in old (split_level w) base)
  split_node w base = ⊎_elim
      (λ low. (are-live e new t).split base w ∙ split_same base w low ∙ sym ((are-live d old s).split base w))
      (λ high. no-node e new t (split_level w) base (λ low _ _. omega arith) ∙ sym (no-node d old s (split_level w) base (λ low _ _. omega arith)))
      (cases_lt base (length old.memory.frames.pages))

  pub same-nodes : HaveSameNodes (nodes_in old) (nodes_in new)
  same-nodes level frame = ⊎_elim
      (λ zero_level. none (λ one _. omega arith))
      (λ one. ⊎_elim
      (λ four. (are-live e new t).tables level frame (omega arith) (omega arith) ∙ live_same level frame ∙ sym ((are-live d old s).tables level frame (omega arith) (omega arith)))
      (λ many. ⊎_elim
      (λ fifth. subst (λ k. is_some (nodes_in new k frame) ≡ is_some (nodes_in old k frame)) (sym fifth) (split_node true frame))
      (λ not_fifth. ⊎_elim
      (λ sixth. subst (λ k. is_some (nodes_in new k frame) ≡ is_some (nodes_in old k frame)) (sym sixth) (split_node false frame))
      (λ not_sixth. none (λ _ six. omega (arith, not_fifth, not_sixth)))
      (cases_eq level 6))
      (cases_eq level 5))
      (cases_lt level 5))
      (cases_lt level 1)
    where
      none : (1 ≤ level → level ≤ 6 → ⊥) → is_some (nodes_in new level frame) ≡ is_some (nodes_in old level frame)
      none outside = no-node e new t level frame (λ _ one six. outside one six) ∙ sym (no-node d old s level frame (λ _ one six. outside one six))

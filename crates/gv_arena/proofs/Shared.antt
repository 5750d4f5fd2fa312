-- What a `&` to a block shows: the pointer, and a `&` to each page.
use Rattle.std.proofs.Common.{ℕ, zero, suc, ◌+◌, ◌<◌, List, [], ◌∷◌, length, get_or, refl, sym, subst}
use Rattle.std.specs.contracts.alloc.Global.{the_row as Heap}
use seplogic.Ra.Ura.{Ura}
use base.Fml.{Lft, Fml, fhide}
use base.Logic.{ent, sep}
use contract.Monad.{fact}
use native.Mathlib.Nat.{not-suc-le-zero, le_of_suc-le-suc}
use denote.Index.{place, place_is}
use denote.Memory.{mem, shared_of, hidden_shr, each_shared}
use denote.Opens.{shr_dup, unhide, hide}
use denote.RattleType.{RattleType}
use denote.RawPtr.{RawPtr, InBlock, block_of, count_of}
use denote.Steps.{heard}
use denote.Struct.Lending.{in_block_says, lent_out}
use denote.Struct.Owning.{shape, to}
use denote.Struct.Struct.{Struct}
use types.Kit.{Goal, Seq, Item, ‵, raw, ◌⊛◌, ◌$◌, ◌∵◌, !, qed, by, keep, drop, use1, split, rewrite, fsplit, feq_l, done}
use types.Logic.{Logic, sem}
use Rattle.gv_arena.proofs.Items.{at}
use Rattle.gv_arena.proofs.block.Block.TheLaws.{the_row_laws}
use Rattle.gv_arena.specs.Ownership.{Page}
use Rattle.gv_arena.specs.contracts.block.Block as block
use Rattle.gv_arena.specs.declared.block.Block.{Block}

abbrev R : RattleType
R = block.the_row

abbrev Fields : RattleType
Fields = Struct (shape block.the_type)

module _ {M : Type 1} {𝓤 : Ura M} (𝓛 : Logic 𝓤) where
  one_of : {X : Type 0} (c : X → ℕ → ℕ → Lft → Fml) (xs : List X) (i : ℕ) (d : X) (s b o : ℕ) (κ : Lft) → i < length xs
      → ent 𝓤 (sem 𝓛 (each_shared xs c s b o κ)) (sem 𝓛 (c (get_or xs i d) b (place s o i) κ))
  one_of c [] i d s b o κ within = absurd (not-suc-le-zero within)
  one_of c (x ∷ xs) zero d s b o κ within = qed 𝓛 (‵ (each_shared (x ∷ xs) c s b o κ) ∷ []) ∵ fsplit ! $ keep ! (0 ∷ []) $ done !
  one_of c (x ∷ xs) (suc i) d s b o κ within =
      qed 𝓛 (‵ (each_shared (x ∷ xs) c s b o κ) ∷ []) ∵ fsplit ! $ keep ! (1 ∷ []) $ by ! (one_of c xs i d s b (o + s) κ (le_of_suc-le-suc within))

  pub shows_start : (κ : Lft) (h : Block) (b o : ℕ)
      → ent 𝓤 (sem 𝓛 (hidden_shr R κ h b o)) (sep 𝓤 (sem 𝓛 (hidden_shr RawPtr κ h.start b (o + 0))) (sem 𝓛 (hidden_shr R κ h b o)))
  shows_start κ h b o =
      qed 𝓛 (‵ (hidden_shr R κ h b o) ∷ []) ∵ shr_dup ! R the_row_laws.shr_laws h b o κ $
      use1 𝓛 (‵ (hidden_shr Fields κ (to block.the_type h) b o) ⊛ ‵ (fhide (block.the_lent h h.start κ)))
      (lent_out 𝓛 block.struct (block.the_codes Heap.coded) block.the_heap block.the_lent κ h b o) $ split ! $
      unhide ! $ fsplit ! $ fsplit ! $ hide ! $ keep ! (0 ∷ 4 ∷ []) $ done !

module _ {M : Type 1} {𝓤 : Ura M} {𝓛 : Logic 𝓤} {K : Type 0} {Γ : List (Item 𝓤)} {G : Goal 𝓤 𝓛.H} where
  pub page_seen : K → (κ : Lft) (h : Block) (b o i : ℕ) → i < 64
      → (InBlock h.start → Seq K 𝓛 (‵ (hidden_shr Page κ (get_or h.pages i []) (block_of h.start) (at Page i (count_of h.start))) ∷ ‵ (hidden_shr R κ h b o) ∷ Γ) G)
      → Seq K 𝓛 (‵ (hidden_shr R κ h b o) ∷ Γ) G
  page_seen t κ h b o i within k =
      let b' = block_of h.start in let o' = count_of h.start in
      shr_dup t R the_row_laws.shr_laws h b o κ $
      use1 𝓛 (‵ (hidden_shr Fields κ (to block.the_type h) b o) ⊛ ‵ (fhide (block.the_lent h h.start κ)))
      (lent_out 𝓛 block.struct (block.the_codes Heap.coded) block.the_heap block.the_lent κ h b o) $ split t $ drop t $
      unhide t $ fsplit t $ use1 𝓛 (raw (fact 𝓤 (InBlock h.start))) (in_block_says 𝓛 h.start) $ heard t (InBlock h.start) (λ in_block. fsplit t $ feq_l t (λ long.
      use1 𝓛 (‵ (shared_of Page (get_or h.pages i []) b' (place (mem Page).size o' i) κ))
      (one_of 𝓛 (shared_of Page) h.pages i [] (mem Page).size b' o' κ (subst (λ (m : ℕ). i < m) (sym long) within)) $
      rewrite t 0 (λ (p : ℕ). ‵ (shared_of Page (get_or h.pages i []) b' p κ)) (place_is (mem Page).size o' i) refl $ hide t $ k in_block))

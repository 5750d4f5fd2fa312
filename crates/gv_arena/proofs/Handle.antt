-- The handle of the heap: what it owns is a fact, and it is lent for a call while it lies in memory.
use Rattle.std.proofs.Common.{ℕ, List, [], ◌∷◌, refl, ap}
use Rattle.std.proofs.Handle.{heap_val, heap_Tells}
use Rattle.std.proofs.alloc.Global.TheLaws as heap
use Rattle.std.specs.contracts.alloc.Global as Heap
use Rattle.std.specs.declared.alloc.Global.{Global}
use seplogic.Ra.Ura.{Ura}
use base.Fml.{fat}
use base.Fraction.{full_share}
use borrow.Table.OneValue.{part_in, part_out}
use contract.BorrowLft.{⊑_static}
use denote.Laws.{Is, shows}
use denote.Memory.{hidden_shr}
use denote.Steps.{owned, facts, only}
use denote.Struct.Laws.{makes}
use mir.Val.{Val, vunit, vstruct, vcons, vnil}
use types.Kit.{Goal, Soaks, Seq, Step, step, Item, ‵, ◌⊛◌, some, ◌$◌, move, use1, use2, split, pick, rewrite}
use types.Logic.{Logic}
use Rattle.gv_arena.proofs.Loan.{call, token, due, held, lent, returned}

-- a handle has one machine value
pub is_handle : (a : Global) → Is Heap.the_row a (heap_val ∷ [])
is_handle a = ((vstruct (vcons vunit vnil) ∷ [], tt), (refl, (((vunit ∷ [], tt), (refl, (refl, tt))), tt)))

module _ {M : Type 1} {𝓤 : Ura M} {𝓛 : Logic 𝓤} {K : Type 0} {Γ : List (Item 𝓤)} {G : Goal 𝓤 𝓛.H} where
  -- its machine value in memory is the handle
  handle_in : K → (a : Global) (b o : ℕ) → Step K 𝓛 (‵ (held Heap.the_row a b o) ∷ Γ) G (‵ (fat full_share heap.mir b o heap_val) ∷ Γ) G
  handle_in t a b o = step (λ s.
      owned t Heap.the_row (Is Heap.the_row) (makes Heap.the_type heap.the_plain 𝓛) a (heap_val ∷ []) (is_handle a) $ move t (1 ∷ 0 ∷ []) $
      use2 𝓛 (‵ (held Heap.the_row a b o)) (part_in 𝓛 Heap.the_row refl full_share a b o heap_val) $ s)

  handle_out : K → (a : Global) (b o : ℕ) → Step K 𝓛 (‵ (fat full_share heap.mir b o heap_val) ∷ Γ) G (‵ (held Heap.the_row a b o) ∷ Γ) G
  handle_out t a b o = step (λ s.
      use1 𝓛 (some (λ (v : Val). ‵ (fat full_share heap.mir b o v) ⊛ ‵ ((Heap.the_row).own_val a (v ∷ [])))) (part_out 𝓛 Heap.the_row refl full_share a b o) $ pick t (λ v. split t $ move t (1 ∷ []) $
      facts t Heap.the_row (Is Heap.the_row) (shows 𝓛 Heap.the_row) a (v ∷ [])
      (λ is. rewrite t 0 (λ (w : Val). ‵ (fat full_share heap.mir b o w)) (ap only (heap_Tells a (v ∷ []) is)) refl $ s)))

module _ {M : Type 1} {𝓤 : Ura M} {𝓛 : Logic 𝓤} {K : Type 0} {Γ : List (Item 𝓤)} {G : Goal 𝓤 𝓛.H} (t : K) (z : Soaks G) (a : Global) (b o : ℕ) where
  pub handle_lent : ((α : ℕ) → Seq K 𝓛 (‵ (hidden_shr Heap.the_row (call α) a b o) ∷ ‵ (token α) ∷ ‵ (due Heap.the_row a b o α) ∷ Γ) G)
      → Seq K 𝓛 (‵ (fat full_share heap.mir b o heap_val) ∷ Γ) G
  handle_lent k = handle_in t a b o $ lent t z Heap.the_row a b o (heap.the_row_laws.shares 𝓛) (λ α. ⊑_static (call α)) k

  pub handle_back : (α : ℕ) → Step K 𝓛 (‵ (fat full_share heap.mir b o heap_val) ∷ Γ) G (‵ (token α) ∷ ‵ (due Heap.the_row a b o α) ∷ Γ) G
  handle_back α = step (λ s. returned t z Heap.the_row a b o α $ handle_out t a b o $ s)

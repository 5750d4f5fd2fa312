-- A block part by part: the machine values of its fields, the pages behind the pointer, and the right to
-- free them. The fields own nothing: it is a fact that they have these values.
use Rattle.std.proofs.Common.{◌≡◌, ℕ, List, [], ◌∷◌, refl, sym, ap, ◌∙◌}
use Rattle.std.proofs.Handle.{heap_val}
use Rattle.std.proofs.alloc.Global.TheLaws as heap
use Rattle.std.specs.contracts.alloc.Global as Heap
use Rattle.std.specs.contracts.impls.GlobalAllocator.TheImpl.{ghosts}
use Rattle.std.specs.declared.alloc.Global.{Global}
use seplogic.Ra.Ura.{Ura}
use base.Fml.{Fml, fat, froom}
use base.Fraction.{full_share}
use base.Logic.{never, fst∗}
use borrow.Table.OneValue.{part_out}
use denote.Laws.{Is, shows}
use denote.Memory.{lone, part_at}
use denote.RattleType.{RattleType}
use denote.RawPtr.{Ptr, block_ptr, null_ptr, ptr_val, in_a_block}
use denote.Steps.{owned, peeks}
use denote.Struct.Laws.{RawPtr-plain, field_plain}
use denote.Struct.Owning.{shape, to}
use denote.Struct.Struct.{Struct, Struct-Makes, Plains}
use mir.Raw.{raw}
use mir.Val.{Val, vptr, vstruct, vcons, vnil}
use types.Kit.{Goal, Seq, Step, step, Item, ‵, ◌⊛◌, some, ◌$◌, move, drop, use1, split, pick, fsplit, fjoin, rewrite}
use types.Logic.{Logic, sem}
use Rattle.gv_arena.proofs.Handle.{is_handle}
use Rattle.gv_arena.proofs.block.Block.TheLaws.{lowers}
use Rattle.gv_arena.specs.Ownership.{Pages, block_owned}
use Rattle.gv_arena.specs.contracts.block.Block as block
use Rattle.gv_arena.specs.declared.block.Block.{Block}

abbrev pub block_val : ℕ → ℕ → Val
block_val b o = vstruct (vcons (vptr b o) (vcons heap_val vnil))

abbrev Fields : RattleType
Fields = Struct (shape block.the_type)

plain : Plains ((shape block.the_type).fields)
plain = (RawPtr-plain, (field_plain Heap.the_type heap.the_plain, tt))

have_values : (h : Block) (b o : ℕ) → h.start ≡ block_ptr b o → Is Fields (to block.the_type h) (block_val b o ∷ [])
have_values h b o e = ((vptr b o ∷ [], (heap_val ∷ [], tt)), (refl, (ap (λ (p : Ptr). ptr_val p ∷ []) (sym e), (is_handle h.alloc, tt))))

-- the right to free the memory
abbrev pub to_free : Global → ℕ → ℕ → Fml
to_free alloc b o = ghosts.dealloc_token alloc (raw (lone Pages.mir)) (block_ptr b o)

-- the pages as they lie in memory
abbrev pub pages_at : List (List ℕ) → ℕ → ℕ → Fml
pages_at pages b o = part_at Pages full_share pages b o

module _ {M : Type 1} {𝓤 : Ura M} {𝓛 : Logic 𝓤} {K : Type 0} {Γ : List (Item 𝓤)} {G : Goal 𝓤 𝓛.H} where
  fields_in : K → (h : Block) (b o : ℕ) → h.start ≡ block_ptr b o → Step K 𝓛 (‵ (Fields.own_val (to block.the_type h) (block_val b o ∷ [])) ∷ Γ) G Γ G
  fields_in t h b o e = step (λ s.
      owned t Fields (Is Fields) (Struct-Makes 𝓛 (shape block.the_type) plain) (to block.the_type h) (block_val b o ∷ []) (have_values h b o e) $ s)

  memory_in : K → (h : Block) (b o : ℕ) → h.start ≡ block_ptr b o
      → Step K 𝓛 (‵ (block_owned h.alloc h.start h.pages) ∷ Γ) G (‵ (pages_at h.pages b o) ∷ ‵ (to_free h.alloc b o) ∷ Γ) G
  memory_in t h b o e = step (λ s. fjoin t $ rewrite t 0 (λ (p : Ptr). ‵ (block_owned h.alloc p h.pages)) (sym e) refl $ s)

  -- the pages are let go, and their room is left
  pub pages_let_go : K → (pages : List (List ℕ)) (b o : ℕ) → Step K 𝓛 (‵ (froom (lone Pages.mir) b o) ∷ Γ) G (‵ (pages_at pages b o) ∷ Γ) G
  pages_let_go t pages b o = step (λ s.
      use1 𝓛 (some (λ (v : Val). ‵ (fat full_share (lone Pages.mir) b o v) ⊛ ‵ (Pages.own_val pages (v ∷ [])))) (part_out 𝓛 Pages refl full_share pages b o) $ pick t (λ v. split t $ move t (1 ∷ []) $ drop t $
      use1 𝓛 (‵ (froom (lone Pages.mir) b o)) (𝓛.laws.at_room (lone Pages.mir) b o v) $ s))

module _ {M : Type 1} {𝓤 : Ura M} {𝓛 : Logic 𝓤} {K : Type 0} {Γ : List (Item 𝓤)} {G : Goal 𝓤 𝓛.H} where
  pub block_in : K → (h : Block) (b o : ℕ) → h.start ≡ block_ptr b o
      → Step K 𝓛 (‵ ((block.the_row).own_val h (block_val b o ∷ [])) ∷ Γ) G (‵ (pages_at h.pages b o) ∷ ‵ (to_free h.alloc b o) ∷ Γ) G
  block_in t h b o e = step (λ s. memory_in t h b o e $ fields_in t h b o e $ fjoin t $ s)

  pub block_out : K → (h : Block) (vs : List Val)
      → ((b o : ℕ) → h.start ≡ block_ptr b o → vs ≡ block_val b o ∷ [] → Seq K 𝓛 (‵ (pages_at h.pages b o) ∷ ‵ (to_free h.alloc b o) ∷ Γ) G)
      → Seq K 𝓛 (‵ ((block.the_row).own_val h vs) ∷ Γ) G
  block_out t h vs k = peeks t block.the_row (Is block.the_row) (shows 𝓛 block.the_row) h vs (λ is. fsplit t $ drop t $
      in_a_block t h.start (λ p. block_owned h.alloc p h.pages) (fst∗ 𝓤 (never 𝓤) (sem 𝓛 (ghosts.dealloc_token h.alloc (raw (lone Pages.mir)) null_ptr)))
      (λ b o e. fsplit t $ k b o e (lowers.val_is h vs is ∙ ap (λ (p : Ptr). lowers.lowered (record h { start = p }) ∷ []) e)))

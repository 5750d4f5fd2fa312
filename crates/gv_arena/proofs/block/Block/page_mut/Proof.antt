-- A page is lent through the pointer, to be written.
use Rattle.gv_arena.proofs.Steps.{◌≡◌, ℕ, ◌*◌, ◌^◌, ◌<◌, List, [], ◌∷◌, length, get_or, refl, lit<, w64, arith, proved, after, ftrue, fsep, flft, full_share}
use Rattle.gv_arena.proofs.Steps.{tables, fact, named, Val, vptr, ‵, raw, ◌⊛◌, at_ret, ◌$◌, ◌∵◌, !, qed, done, move, keep, use1, split, join, fsplit, fsplit3}
use Rattle.gv_arena.proofs.Steps.{fjoin, rewrite, suffices, frame, group, whole, sub, look_in, enter, of_opd, bin, stop, fld, load, first, blocks, exec}
use Rattle.gv_arena.proofs.Steps.{returns, alloc_all, pass_all, free_all, look_at, get, through, sets, env, usize, yes, no, cell_at, part_at, uint_vals}
use Rattle.gv_arena.proofs.Steps.{uint_Tells, block_ptr, MutRef, mut_vals, mut_Tells, plain, nothing, opens, heard, Stays, walk_of, says, stay_dropped}
use Rattle.gv_arena.proofs.Steps.{Goes-dropped, ends_at}
use seplogic.Ra.Ura.{Ura}
use base.Fml.{Fml, GName}
use base.Logic.{ent, sep, id⊢}
use denote.Follow.{Part, lends_Part}
use denote.Index.{others}
use denote.Memory.{mem, shares, part_of}
use denote.Ref.{MutBor}
use denote.Signature.{mut_ref_to}
use denote.Triple.Walked.{Goes-spent_ref}
use types.ByLocal.{sets_last}
use types.Kit.{some, later, await, pick, fpack, split3}
use types.Logic.{Logic, sem}
use types.Run.{addr}
use Rattle.gv_arena.proofs.BigLit.{big_lit}
use Rattle.gv_arena.proofs.Parts.{block_val, to_free, block_in, block_out}
use Rattle.gv_arena.proofs.Items.{at, item_out, item_in}
use Rattle.gv_arena.specs.Lends.{with_page, lends_page}
use Rattle.gv_arena.specs.Ownership.{Page}
use Rattle.gv_arena.specs.contracts.block.Block.page_mut as f
use Rattle.gv_arena.proofs.block.Block.page_mut.Statement.{statement}
use Rattle.gv_arena.proofs.block.Block.page_mut.Code as code
use Rattle.gv_arena.specs.contracts.block.Block.{the_row as R}
use Rattle.gv_arena.specs.declared.block.Block.{Block}

abbrev stayed : Stays f.ended.signature.params f.ended.kept
stayed = (stay_dropped (mut_ref_to (0 ∷ []) tt (plain (λ _. R))) no, (stay_dropped (plain (λ _. usize)) yes, tt))

module _ {M : Type 1} {𝓤 : Ura M} (𝓛 : Logic 𝓤) (h : Block) (b o b' o' page : ℕ) where
  -- what stays behind when the page is lent: the block in its place, the other pages, and the right to free them
  abbrev Behind : Fml
  Behind = fsep (cell_at full_share R.mir (block_val b' o' ∷ []) b o) (fsep (others (shares Page) full_share h.pages page b' o') (to_free h.alloc b' o'))

  -- with any words in the page it is a block again
  whole_again : h.start ≡ block_ptr b' o' → page < 64 → length h.pages ≡ 64
      → (words : List ℕ) → ent 𝓤 (sep 𝓤 (sem 𝓛 ((mem Page).own_at words b' (at Page page o'))) (sem 𝓛 Behind)) (sem 𝓛 ((mem R).own_at (with_page h page words) b o))
  unfolding part_of
  whole_again e in_block long words =
      let Lent = ‵ (part_at Page full_share words b' (at Page page o')) in
      qed 𝓛 (Lent ∷ ‵ Behind ∷ []) ∵ move ! (1 ∷ []) $ fsplit ! $ move ! (1 ∷ []) $ fsplit ! $
      -- [the other pages; the right to free them; the block's cell; the page]
      move ! (3 ∷ 0 ∷ []) $ item_in ! Page full_share 64 h.pages page words b' o' in_block long $
      block_in ! (with_page h page words) b' o' e $ move ! (1 ∷ 0 ∷ []) $ fjoin ! $
      fpack ! (List Val) (λ vs. fsep (cell_at full_share R.mir vs b o) (R.own_val (with_page h page words) vs)) (block_val b' o' ∷ []) $ done !

pub page_mut_spec : {M : Type 1} → statement M
page_mut_spec 𝓤 𝓛 𝓜 𝓡 wired =
    let c = f.clauses 𝓛 𝓜.mem 𝓡.returns in let W = walk_of 𝓛 f.ended stayed c in let 𝓣 = tables 𝓤 𝓛.H 𝓜 𝓡 𝓡.env in
    proved 𝓛 f.ended stayed c 𝓜 𝓡 (Goes-spent_ref 𝓛 1 (0 ∷ []) tt (plain (λ _. R)), (Goes-dropped 𝓛 1 (plain (λ _. usize)) yes (λ κs x w. refl), tt))
    f.Key.name code.function (code.unfolded 𝓤 𝓛.H 𝓜 𝓡 wired)
    (λ κs. (mut_vals, (uint_vals w64, tt))) (λ κs. (mut_Tells (named 0) κs.0 R, (uint_Tells w64, tt))) (λ κs qs bounds a _ are.
    let κ = κs.0 in let q = qs.0 in let b = a.0.ref_ptr.0 in let o = a.0.ref_ptr.1 in let h = a.0.now in let γ = a.0.ghost_name in let vs = mut_vals a.0 in let page = a.1.0 in
    let y : W.Ghost = ((κs, qs, bounds, a, (vs, (uint_vals w64 page, tt))), tt) in
    qed 𝓛 (((‵ (flft κ q) ⊛ ‵ ftrue) ⊛ ‵ ((MutRef (named 0) κ R).own_val a.0 vs) ⊛ ‵ (fsep (usize.own_val page (uint_vals w64 page)) ftrue)) ∷ raw (fact 𝓤 (page < 64)) ∷ []) ∵
    move ! (1 ∷ []) $ heard ! (page < 64) (λ in_block. split ! $ split ! $ move ! (2 ∷ []) $ split ! $ keep ! (0 ∷ 2 ∷ []) $
    let fp : page < 2 ^ 64 = are.1.0.1 in let row : page * 4096 < 2 ^ 64 = omega arith in
    enter ! _ _ _ _ _ $ alloc_all ! (λ l. pass_all ! refl ((tt, tt), ((tt, record { fits = fp }), tt)) $
    fsplit3 ! $ move ! (1 ∷ 2 ∷ 3 ∷ []) $ opens ! tt R b o (λ us. move ! (1 ∷ []) $ block_out ! h us (λ b' o' e is.
    let Cell = λ (ws : List Val). ‵ (cell_at full_share R.mir ws b o) in let words = get_or h.pages page [] in let there = at Page page o' in
    item_out ! Page tt full_share 64 h.pages page [] b' o' in_block (λ long. rewrite ! 3 Cell is refl $
    -- [the page; the other pages; the right to free them; the block's cell; the open borrow, in three entries]
    first ! $ blocks ! $
    sets ! (of_opd ! (load ! (through ! refl (fld ! refl (stop !))) (look_in ! 3 (sub ! 0 refl (whole !))))) refl (tt, tt) $
    sets ! (bin ! (get ! refl) (big_lit ! (record { fits = lit< tt })) (record { fits = row })) refl (tt, record { fits = row }) $
    sets ! (bin ! (get ! refl) (get ! refl) tt) refl (tt, tt) $
    sets_last ! (addr ! (through ! refl (stop !))) refl (tt, tt) $
    exec ! 𝓣.C 𝓣.Λ (env code.Mir.locals l) (after 1 (code.function).body) (at_ret _ (W.post y)) $
    sets ! (of_opd ! (get ! refl)) refl (tt, tt) $
    move ! (1 ∷ 2 ∷ []) $ fjoin ! $ move ! (2 ∷ 0 ∷ []) $ fjoin ! $ move ! (2 ∷ 3 ∷ 4 ∷ 1 ∷ 0 ∷ []) $ group ! 5 $
    let Back = whole_again 𝓛 h b o b' o' page e in_block long in let Rest = sem 𝓛 (Behind 𝓛 h b o b' o' page) in
    use1 𝓛 (later (some (λ (γ' : GName). raw (Part 𝓛 R Page (with_page h page) (named 0) κ q b o b' there γ Rest Back words γ'))))
    (lends_Part 𝓛 R Page (with_page h page) (named 0) κ q b o b' there γ Rest Back (R.coded.code h) (R.coded.code h) words) $
    await ! tt $ pick ! (λ γ'.
    returns ! (look_at ! 0 refl) $ free_all ! refl $ keep ! (0 ∷ []) $
    let r : MutBor (List ℕ) = record { ref_ptr = (b', there); ghost_name = γ'; now = words } in
    use1 𝓛 (‵ ((MutRef (named 0) κ Page).own_val r (vptr b' there ∷ [])) ⊛ ‵ (flft κ q) ⊛ ‵ (lends_page a.0 page r)) (id⊢ 𝓤 _) $ split3 ! $
    suffices ! _ (ends_at 𝓛 f.ended stayed c y (vptr b' there) r (tt, (tt, tt)) (tt, (tt, tt))) $
    nothing ! $ nothing ! $ join ! $ nothing ! $ join ! $ join ! $ nothing ! $ move ! (2 ∷ 0 ∷ []) $ join ! $ join ! $ frame ! $ says ! refl $ done !)))))))

-- A page is lent through the pointer.
use Rattle.gv_arena.proofs.Steps.{◌+◌, ◌*◌, ◌^◌, ◌<◌, List, [], ◌∷◌, get_or, refl, lit<, w64, arith, proved, after, ftrue, fsep, flft, tables, fact, named, Val}
use Rattle.gv_arena.proofs.Steps.{vptr, ‵, raw, ◌⊛◌, at_ret, ◌$◌, ◌∵◌, !, qed, done, move, keep, drop, split, join, fsplit, fjoin, feq_i, suffices, enter}
use Rattle.gv_arena.proofs.Steps.{of_opd, bin, stop, fld, load, first, blocks, exec, returns, alloc_all, pass_all, free_all, look_at, get, through, sets, env}
use Rattle.gv_arena.proofs.Steps.{usize, yes, uint_vals, uint_Tells, plain, nothing, heard, Stays, walk_of, says, stay_dropped, Goes-dropped, ends_at}
use types.Run.{addr, look}
use types.ByLocal.{sets_last}
use denote.Builtin.{RefOf}
use denote.Ref.{ShrRef, shr_vals, shr_Tells}
use denote.RawPtr.{block_of, count_of}
use Rattle.std.proofs.Words.{pointer_in, pointer_out}
use Rattle.gv_arena.proofs.BigLit.{big_lit}
use Rattle.gv_arena.proofs.Items.{at}
use Rattle.gv_arena.proofs.Shared.{shows_start, page_seen}
use Rattle.gv_arena.specs.Ownership.{Page}
use Rattle.gv_arena.specs.contracts.block.Block.page as f
use Rattle.gv_arena.proofs.block.Block.page.Statement.{statement}
use Rattle.gv_arena.proofs.block.Block.page.Code as code
use Rattle.gv_arena.specs.contracts.block.Block.{the_row as R}

abbrev stayed : Stays f.ended.signature.params f.ended.kept
stayed = (stay_dropped (RefOf (0 ∷ []) tt (plain (λ _. R)) (λ _. tt)) yes, (stay_dropped (plain (λ _. usize)) yes, tt))

pub page_spec : {M : Type 1} → statement M
page_spec 𝓤 𝓛 𝓜 𝓡 wired =
    let c = f.clauses 𝓛 𝓜.mem 𝓡.returns in let W = walk_of 𝓛 f.ended stayed c in let 𝓣 = tables 𝓤 𝓛.H 𝓜 𝓡 𝓡.env in
    proved 𝓛 f.ended stayed c 𝓜 𝓡 (Goes-dropped 𝓛 1 (RefOf (0 ∷ []) tt (plain (λ _. R)) (λ _. tt)) yes (λ κs x w. refl), (Goes-dropped 𝓛 1 (plain (λ _. usize)) yes (λ κs x w. refl), tt))
    f.Key.name code.function (code.unfolded 𝓤 𝓛.H 𝓜 𝓡 wired)
    (λ κs. (shr_vals, (uint_vals w64, tt))) (λ κs. (shr_Tells (named 0) κs.0 R, (uint_Tells w64, tt))) (λ κs qs bounds a _ are.
    let κ = κs.0 in let b = a.0.ref_ptr.0 in let o = a.0.ref_ptr.1 in let h = a.0.now in let page = a.1.0 in let b' = block_of h.start in let o' = count_of h.start in
    let y : W.Ghost = ((κs, qs, bounds, a, (shr_vals a.0, (uint_vals w64 page, tt))), tt) in
    qed 𝓛 (((‵ (flft κ qs.0) ⊛ ‵ ftrue) ⊛ ‵ ((ShrRef (named 0) κ R).own_val a.0 (shr_vals a.0)) ⊛ ‵ (fsep (usize.own_val page (uint_vals w64 page)) ftrue)) ∷ raw (fact 𝓤 (page < 64)) ∷ []) ∵
    move ! (1 ∷ []) $ heard ! (page < 64) (λ in_block. split ! $ split ! $ move ! (2 ∷ []) $ split ! $ keep ! (0 ∷ 2 ∷ []) $ fsplit ! $ drop ! $
    let fp : page < 2 ^ 64 = are.1.0.1 in let row : page * 4096 < 2 ^ 64 = omega arith in
    enter ! _ _ _ _ _ $ alloc_all ! (λ l. pass_all ! refl ((tt, tt), ((tt, record { fits = fp }), tt)) $
    page_seen ! κ h b o page in_block (λ pointed. move ! (1 ∷ 2 ∷ []) $
    first ! $ blocks ! $ pointer_in ! tt h.start pointed b (o + 0) (shows_start 𝓛 κ h b o) (λ q.
    sets ! (of_opd ! (load ! (through ! refl (fld ! refl (stop !))) (look ! 1 refl))) refl (tt, tt) $
    pointer_out ! tt h.start pointed b (o + 0) $
    sets ! (bin ! (get ! refl) (big_lit ! (record { fits = lit< tt })) (record { fits = row })) refl (tt, record { fits = row }) $
    sets ! (bin ! (get ! refl) (get ! refl) tt) refl (tt, tt) $
    sets_last ! (addr ! (through ! refl (stop !))) refl (tt, tt) $
    exec ! 𝓣.C 𝓣.Λ (env code.Mir.locals l) (after 1 (code.function).body) (at_ret _ (W.post y)) $
    sets ! (of_opd ! (get ! refl)) refl (tt, tt) $
    returns ! (look_at ! 0 refl) $ free_all ! refl $ keep ! (0 ∷ 2 ∷ []) $
    suffices ! _ (ends_at 𝓛 f.ended stayed c y (vptr b' (at Page page o')) (record { ref_ptr = (b', at Page page o'); now = get_or h.pages page [] }) (tt, (tt, tt)) (tt, (tt, tt))) $ says ! refl $
    move ! (1 ∷ []) $ feq_i ! (List Val) (vptr b' (at Page page o') ∷ []) (vptr b' (at Page page o') ∷ []) refl $ fjoin ! $
    nothing ! $ nothing ! $ join ! $ nothing ! $ join ! $ nothing ! $ move ! (3 ∷ 0 ∷ []) $ join ! $ done !)))))

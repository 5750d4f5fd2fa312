-- A block is asked for and filled with zeros.
use Rattle.gv_arena.proofs.Steps.{ℕ, ◌^◌, List, [], ◌∷◌, refl, lit<, w64, proved, after, ftrue, fsep, flft, full_share, tables, fact, Val, vptr, vint, ‵, raw}
use Rattle.gv_arena.proofs.Steps.{◌⊛◌, at_ret, ◌$◌, ◌∵◌, !, qed, done, move, keep, drop, use1, split, join, fjoin, feq_i, suffices, enter, of_opd, lit, stop}
use Rattle.gv_arena.proofs.Steps.{fld, assigns_last, first, blocks, exec, returns, alloc_all, pass_all, free_all, look_at, get, through, sets, env, yes, plain}
use Rattle.gv_arena.proofs.Steps.{nothing, Stays, walk_of, says, stay_dropped, Goes-dropped, ends_at}
use types.Run.{addr, from, and_then, no_more, init}
use types.ByLocal.{take_at, give_at, lands_as}
use base.Logic.{id⊢}
use denote.Triple.Spec.{triple_of}
use denote.Triple.Call.{calls_at}
use denote.Triple.Table.{framed}
use Rattle.std.proofs.Handle.{heap_val, heap_Tells}
use Rattle.std.specs.contracts.alloc.Global.{the_row as Heap}
use Rattle.std.specs.contracts.impls.GlobalAllocator.allocate as g
use Rattle.std.proofs.impls.GlobalAllocator.allocate.Met.{met}
use base.Logic.{emp}
use contract.Monad.{fact_i}
use denote.Memory.{lone}
use denote.RawPtr.{Ptr, RawPtr}
use denote.Triple.Clauses.{Lasts, lasts}
use mir.Raw.{raw as lifted}
use types.Kit.{some, later, use0, flt_i, await, pick}
use Rattle.std.proofs.Common.{Result}
use Rattle.std.specs.Allocator.{HasLayout, block_if_ok}
use Rattle.std.specs.contracts.alloc.AllocError.{the_row as Refused}
use Rattle.std.specs.contracts.result.Result.{the_row as ResultOf}
use Rattle.std.specs.declared.alloc.AllocError.{AllocError}
use Rattle.std.specs.contracts.impls.GlobalAllocator.TheImpl.{ghosts}
use prog.Wp.{Wp, after_seq, at_return}
use types.Kit.{any_q}
use Rattle.gv_arena.proofs.Arms.{arm_of}
use borrow.Table.OneValue.{part_in}
use denote.Laws.{Is}
use denote.RawPtr.{block_ptr}
use denote.Steps.{owned}
use denote.Struct.Laws as Laws
use mir.Val.{vstruct, vnil, of_list}
use types.Kit.{use2}
use types.Match.{live}
use Rattle.std.proofs.Common.{Ok, Err, replicate}
use Rattle.std.proofs.ResultValues.{ok_of, err_of}
use Rattle.std.proofs.alloc.AllocError.TheLaws as refusal
use Rattle.std.specs.contracts.alloc.AllocError as AllocErrorRow
use Rattle.gv_arena.proofs.Parts.{block_val, pages_at, block_in}
use Rattle.gv_arena.specs.declared.block.Block.{Block}
use Rattle.gv_arena.proofs.HeapAnswer.{answered, refused_val}
use Rattle.gv_arena.proofs.BigLit.{big_lit}
use native.Mathlib.Nat.{suc-ne-zero}
use types.ByLocal.{get_in, get_tag, sets_last}
use types.Match.{vrt, in_variant}
use types.Part.{whole, agg, rep}
use types.Run.{switches}
use Rattle.std.proofs.Common.{sym}
use Rattle.gv_arena.proofs.Zeros.{rows_made, rows_val}
use Rattle.gv_arena.proofs.Handle.{handle_lent, handle_back}
use Rattle.gv_types.specs.Memory.{zero_words}
use Rattle.gv_arena.specs.Zeros.{zero_pages}
use Rattle.gv_arena.specs.Ownership.{Pages}
use Rattle.gv_arena.specs.contracts.block.Block.allocate as f
use Rattle.gv_arena.proofs.block.Block.allocate.Statement.{statement}
use Rattle.gv_arena.proofs.block.Block.allocate.Code as code
use Rattle.gv_arena.specs.contracts.block.Block.{the_row as R}

abbrev stayed : Stays f.ended.signature.params f.ended.kept
stayed = (stay_dropped (plain (λ _. Heap)) yes, tt)

pub allocate_spec : {M : Type 1} → statement M
unfolding zero_words zero_pages
allocate_spec 𝓤 𝓛 𝓜 𝓡 wired =
    let c = f.clauses 𝓛 𝓜.mem 𝓡.returns in let W = walk_of 𝓛 f.ended stayed c in let 𝓣 = tables 𝓤 𝓛.H 𝓜 𝓡 𝓡.env in
    proved 𝓛 f.ended stayed c 𝓜 𝓡 (Goes-dropped 𝓛 0 (plain (λ _. Heap)) yes (λ κs x w. refl), tt)
    f.Key.name code.function (code.unfolded 𝓤 𝓛.H 𝓜 𝓡 wired)
    (λ κs. ((λ _. heap_val ∷ []), tt)) (λ κs. (heap_Tells, tt)) (λ κs qs bounds a _ are.
    let y : W.Ghost = ((κs, qs, bounds, a, (heap_val ∷ [], tt)), tt) in
    let body = (code.function).body in
    let Then = λ (l : ℕ → ℕ). let En = env (code.function).locals l in any_q (after_seq 𝓤 𝓛.H (Wp 𝓤 𝓛.H 𝓣.C 𝓣.Λ En (after 4 body) (at_return 𝓤 𝓛.H En (W.post y))) (at_return 𝓤 𝓛.H En (W.post y))) in
    qed 𝓛 ((‵ ftrue ⊛ ‵ (fsep (Heap.own_val a.0 (heap_val ∷ [])) ftrue)) ∷ ‵ ftrue ∷ []) ∵ keep ! [] $
    enter ! _ _ _ _ _ $ alloc_all ! (λ l. pass_all ! refl ((tt, ((tt, tt), tt)), tt) $
    sets ! (of_opd ! (get ! refl)) refl (tt, ((tt, tt), tt)) $ sets ! (addr ! (from ! (stop !))) refl (tt, tt) $
    take_at ! 2 $ handle_lent ! tt a.0 (l 2) 0 (λ α.
    let G = triple_of 𝓛 g.signature (g.spec 𝓛 𝓜.mem 𝓡.returns) in let τ = lifted (lone Pages.mir) in
    let z : G.Ghost = (((α ∷ [], tt), (full_share, tt), tt, (record { ref_ptr = (l 2, 0); now = a.0 }, (262144, (8, tt))), (vptr (l 2) 0 ∷ [], (vint w64 262144 ∷ [], (vint w64 8 ∷ [], tt)))), τ) in
    use0 𝓛 (raw (fact 𝓤 (HasLayout τ 262144 8))) (fact_i 𝓤 (HasLayout τ 262144 8) (emp 𝓤) (refl, refl)) $
    nothing ! $ flt_i ! 8 (2 ^ 64) (lit< tt) $ feq_i ! (List Val) (vint w64 8 ∷ []) (vint w64 8 ∷ []) refl $ fjoin ! $ fjoin ! $
    flt_i ! 262144 (2 ^ 64) (lit< tt) $ feq_i ! (List Val) (vint w64 262144 ∷ []) (vint w64 262144 ∷ []) refl $ fjoin ! $ fjoin ! $
    move ! (2 ∷ []) $ feq_i ! (List Val) (vptr (l 2) 0 ∷ []) (vptr (l 2) 0 ∷ []) refl $ fjoin ! $ fjoin ! $
    nothing ! $ move ! (3 ∷ 0 ∷ []) $ join ! $ join ! $ join ! $ use1 𝓛 (raw (G.pre z)) (id⊢ 𝓤 _) $
    calls_at ! (framed 𝓤 𝓛.H 𝓜 𝓣) G (met 𝓤 𝓛 𝓜 𝓡 (code.calls-std_heap::GlobalAllocator::allocate 𝓡.env wired)) z
    (and_then ! (get ! refl) (and_then ! (big_lit ! (record { fits = lit< tt })) (and_then ! (lit ! tt) (no_more !)))) (λ v.
    use1 𝓛 (later (some (λ (r : Result Ptr AllocError). ((‵ (flft (α ∷ []) full_share) ⊛ ‵ ftrue) ⊛ ‵ ((ResultOf RawPtr Refused).own_val r (v ∷ []))) ⊛
    some (λ (ls : Lasts g.ended z.0.0 z.0.3). ‵ (lasts g.ended z.0.0 z.0.3 ls) ⊛ ‵ (block_if_ok (ghosts.dealloc_token a.0) τ r))))) (id⊢ 𝓤 (G.post z v)) $
    await ! tt $ pick ! (λ r. split ! $ move ! (1 ∷ []) $ pick ! (λ ls. split ! $ drop ! $ move ! (1 ∷ []) $ split ! $ split ! $
    move ! (0 ∷ 4 ∷ []) $ handle_back ! tt a.0 (l 2) 0 α $ give_at ! 2 $ drop ! $
    answered ! (ghosts.dealloc_token a.0) τ v r
    (λ b o e. lands_as ! e refl (tt, (record { fits = lit< tt }, (tt, tt))) $ first ! $
    switches ! (get_tag ! (vrt ! refl (fld ! refl (stop !))) (whole !)) (
      (λ _. rows_made ! 64 512 (λ row rows.
          sets ! (of_opd ! (get_in ! (vrt ! refl (fld ! refl (stop !))) (in_variant ! 0 0 refl refl (whole !)))) refl (tt, tt) $ sets ! (of_opd ! (get ! refl)) refl (tt, tt) $
          first ! $ blocks ! $ sets ! (rep ! 512 (lit ! tt)) refl row.0 $
          assigns_last ! (rep ! 64 (get ! refl)) (through ! refl (stop !)) (init ! 1 refl rows.0) $
          exec ! 𝓣.C 𝓣.Λ (env code.Mir.locals l) (after 3 (arm_of 0 (after 3 body))) (Then l) $
          sets ! (of_opd ! (get ! refl)) refl (tt, tt) $ sets ! (of_opd ! (get ! refl)) refl (tt, ((tt, tt), tt)) $
          sets ! (agg ! (and_then ! (get ! refl) (and_then ! (get ! refl) (no_more !)))) refl (tt, (tt, (((tt, tt), tt), tt))) $
          sets_last ! (agg ! (and_then ! (lit ! tt) (and_then ! (get ! refl) (no_more !)))) refl (tt, (record { fits = lit< tt }, ((tt, (((tt, tt), tt), tt)), tt))) $
          exec ! 𝓣.C 𝓣.Λ (env code.Mir.locals l) (after 4 body) (at_ret _ (W.post y)) $
          sets ! (of_opd ! (get ! refl)) refl (tt, (record { fits = lit< tt }, ((tt, (((tt, tt), tt), tt)), tt))) $
          returns ! (look_at ! 0 refl) $ free_all ! refl $
          let zeros = replicate 64 (replicate 512 0) in let new : Block = record { start = block_ptr b o; alloc = a.0; pages = zeros } in let word = block_val b o in
          move ! (1 ∷ 0 ∷ []) $ use2 𝓛 (‵ (pages_at zeros b o)) (part_in 𝓛 Pages refl full_share zeros b o (rows_val 64 512)) $
          block_in ! new b o refl $
          use1 𝓛 (‵ ((ResultOf R Refused).own_val (Ok new) (live 0 (of_list (word ∷ [])) ∷ []))) (ok_of 𝓛 R Refused new word) $
          suffices ! _ (ends_at 𝓛 f.ended stayed c y (live 0 (of_list (word ∷ []))) (Ok new) (tt, tt) (tt, tt)) $ says ! refl $
          nothing ! $ nothing ! $ join ! $ nothing ! $ done !)),
      ((λ other. absurd (suc-ne-zero 0 (sym other))), (λ others. absurd (others.0.1 refl))),
    ))
    (λ e. lands_as ! e refl (tt, (record { fits = lit< tt }, (tt, tt))) $ first ! $
    switches ! (get_tag ! (vrt ! refl (fld ! refl (stop !))) (whole !)) (
      (λ other. absurd (suc-ne-zero 0 other)),
      (
        (λ _.
            sets ! (of_opd ! (get_in ! (vrt ! refl (fld ! refl (stop !))) (in_variant ! 1 0 refl refl (whole !)))) refl (tt, tt) $
            sets_last ! (agg ! (and_then ! (lit ! tt) (and_then ! (get ! refl) (no_more !)))) refl (tt, (record { fits = lit< tt }, (tt, tt))) $
            exec ! 𝓣.C 𝓣.Λ (env code.Mir.locals l) (after 4 body) (at_ret _ (W.post y)) $
            sets ! (of_opd ! (get ! refl)) refl (tt, (record { fits = lit< tt }, (tt, tt))) $
            returns ! (look_at ! 0 refl) $ free_all ! refl $
            let none : AllocError = record {} in
            owned ! Refused (Is Refused) (Laws.makes AllocErrorRow.the_type refusal.the_plain 𝓛) none (vstruct vnil ∷ []) (tt, (refl, tt)) $
            use1 𝓛 (‵ ((ResultOf R Refused).own_val (Err none) (refused_val ∷ []))) (err_of 𝓛 R Refused none (vstruct vnil)) $
            suffices ! _ (ends_at 𝓛 f.ended stayed c y refused_val (Err none) (tt, tt) (tt, tt)) $ says ! tt $
            nothing ! $ nothing ! $ join ! $ nothing ! $ done !),
        (λ others. absurd (others.1 refl)),
      ),
    ))))))))

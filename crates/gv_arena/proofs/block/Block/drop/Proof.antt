-- The block goes back to the heap.
use Rattle.gv_arena.proofs.Steps.{◌^◌, List, [], ◌∷◌, refl, ap, lit<, w64, proved, after, ftrue, fsep, flft, full_share, tables, fact, Val, vunit, vptr, vint}
use Rattle.gv_arena.proofs.Steps.{‵, raw, ◌⊛◌, at_ret, ◌$◌, ◌∵◌, !, qed, done, move, keep, drop, use1, split, join, fsplit, fjoin, feq_i, suffices, enter}
use Rattle.gv_arena.proofs.Steps.{of_opd, lit, unit_lit, stop, fld, first, blocks, exec, returns, alloc_all, pass_all, free_all, look_at, get, sets, env, yes}
use Rattle.gv_arena.proofs.Steps.{plain, nothing, Stays, walk_of, stay_dropped, Goes-dropped, ends_at}
use base.Logic.{emp, id⊢}
use contract.Monad.{fact_i}
use denote.Builtin.{unit}
use denote.Memory.{lone}
use denote.RawPtr.{Ptr, block_ptr}
use denote.Steps.{only}
use denote.Triple.Call.{calls_at_last}
use denote.Triple.Clauses.{Lasts, lasts}
use denote.Triple.Spec.{triple_of}
use denote.Triple.Table.{framed}
use lib.Dec.{T}
use mir.Raw.{raw as lifted}
use mir.Syntax.{ty_unit}
use mir.Val.{has_ty, WT}
use Rattle.std.proofs.Common.{sym, subst}
use prog.Wp.{WpFn}
use types.ByLocal.{get_in, take_at, give_at, lands_last}
use types.Kit.{group, some, later, prop, use0, flt_i, feq_l, await, pick, regoal}
use types.Part.{whole, sub}
use types.Run.{addr, from, and_then, no_more}
use Rattle.std.specs.Allocator.{HasLayout}
use Rattle.std.specs.contracts.impls.GlobalAllocator.deallocate as g
use Rattle.std.proofs.impls.GlobalAllocator.deallocate.Met.{met}
use Rattle.gv_arena.proofs.BigLit.{big_lit}
use Rattle.gv_arena.proofs.Handle.{handle_lent, handle_back}
use Rattle.gv_arena.proofs.Parts.{pages_let_go, block_out}
use Rattle.gv_arena.proofs.block.Block.TheLaws.{lowers}
use Rattle.gv_arena.specs.Ownership.{Pages}
use Rattle.gv_arena.specs.contracts.block.Block.{the_row as R}
use Rattle.gv_arena.specs.contracts.block.Block.drop as f
use Rattle.gv_arena.proofs.block.Block.drop.Statement.{statement}
use Rattle.gv_arena.proofs.block.Block.drop.Code as code

abbrev stayed : Stays f.ended.signature.params f.ended.kept
stayed = (stay_dropped (plain (λ _. R)) yes, tt)

pub drop_spec : {M : Type 1} → statement M
drop_spec 𝓤 𝓛 𝓜 𝓡 wired =
    let c = f.clauses 𝓛 𝓜.mem 𝓡.returns in let W = walk_of 𝓛 f.ended stayed c in let 𝓣 = tables 𝓤 𝓛.H 𝓜 𝓡 𝓡.env in
    proved 𝓛 f.ended stayed c 𝓜 𝓡 (Goes-dropped 𝓛 0 (plain (λ _. R)) yes (λ κs x w. refl), tt)
    f.Key.name code.function (code.unfolded 𝓤 𝓛.H 𝓜 𝓡 wired)
    (λ κs. ((λ h. lowers.lowered h ∷ []), tt)) (λ κs. (lowers.val_is, tt)) (λ κs qs bounds a _ are.
    let h = a.0 in let y : W.Ghost = ((κs, qs, bounds, a, (lowers.lowered h ∷ [], tt)), tt) in
    qed 𝓛 ((‵ ftrue ⊛ ‵ (fsep (R.own_val h (lowers.lowered h ∷ [])) ftrue)) ∷ ‵ ftrue ∷ []) ∵ split ! $ move ! (1 ∷ []) $ fsplit ! $ keep ! (0 ∷ []) $
    block_out ! h (lowers.lowered h ∷ []) (λ b o e _.
    regoal ! (λ (p : Ptr). prop (WpFn 𝓤 𝓛.H 𝓣.C 𝓣.Λ code.function (lowers.lowered (record h { start = p }) ∷ []) (W.post y))) e refl $
    enter ! _ _ _ _ _ $ alloc_all ! (λ l. pass_all ! refl ((tt, (tt, (((tt, tt), tt), tt))), tt) $
    sets ! (of_opd ! (get_in ! (fld ! refl (stop !)) (sub ! 0 refl (whole !)))) refl (tt, tt) $
    sets ! (of_opd ! (get_in ! (fld ! refl (stop !)) (sub ! 1 refl (whole !)))) refl (tt, ((tt, tt), tt)) $
    first ! $ blocks ! $ sets ! (addr ! (from ! (stop !))) refl (tt, tt) $ sets ! (of_opd ! (get ! refl)) refl (tt, tt) $
    pages_let_go ! h.pages b o $ take_at ! 3 $ handle_lent ! tt h.alloc (l 3) 0 (λ α.
    -- [the `&` to the handle; its token; what the lender keeps; the room; the right to free it]
    let G = triple_of 𝓛 g.signature (g.spec 𝓛 𝓜.mem 𝓡.returns) in let τ = lifted (lone Pages.mir) in
    let z : G.Ghost = (((α ∷ [], tt), (full_share, tt), tt, (record { ref_ptr = (l 3, 0); now = h.alloc }, (block_ptr b o, (262144, (8, tt)))), (vptr (l 3) 0 ∷ [], (vptr b o ∷ [], (vint w64 262144 ∷ [], (vint w64 8 ∷ [], tt))))), τ) in
    move ! (3 ∷ 4 ∷ []) $ fjoin ! $
    use0 𝓛 (raw (fact 𝓤 (HasLayout τ 262144 8))) (fact_i 𝓤 (HasLayout τ 262144 8) (emp 𝓤) (refl, refl)) $ join ! $
    nothing ! $ flt_i ! 8 (2 ^ 64) (lit< tt) $ feq_i ! (List Val) (vint w64 8 ∷ []) (vint w64 8 ∷ []) refl $ fjoin ! $ fjoin ! $
    flt_i ! 262144 (2 ^ 64) (lit< tt) $ feq_i ! (List Val) (vint w64 262144 ∷ []) (vint w64 262144 ∷ []) refl $ fjoin ! $ fjoin ! $
    feq_i ! (List Val) (vptr b o ∷ []) (vptr b o ∷ []) refl $ fjoin ! $
    move ! (2 ∷ []) $ feq_i ! (List Val) (vptr (l 3) 0 ∷ []) (vptr (l 3) 0 ∷ []) refl $ fjoin ! $ fjoin ! $
    nothing ! $ move ! (3 ∷ 0 ∷ []) $ join ! $ join ! $ join ! $ use1 𝓛 (raw (G.pre z)) (id⊢ 𝓤 _) $
    calls_at_last ! (framed 𝓤 𝓛.H 𝓜 𝓣) G (met 𝓤 𝓛 𝓜 𝓡 (code.calls-std_heap::GlobalAllocator::deallocate 𝓡.env wired)) z
    (and_then ! (get ! refl) (and_then ! (get ! refl) (and_then ! (big_lit ! (record { fits = lit< tt })) (and_then ! (lit ! tt) (no_more !))))) (λ v.
    use1 𝓛 (later (some (λ (u : Unit {0}). ((‵ (flft (α ∷ []) full_share) ⊛ ‵ ftrue) ⊛ ‵ (unit.own_val u (v ∷ []))) ⊛
    some (λ (ls : Lasts g.ended z.0.0 z.0.3). ‵ (lasts g.ended z.0.0 z.0.3 ls) ⊛ ‵ ftrue)))) (id⊢ 𝓤 (G.post z v)) $
    await ! tt $ pick ! (λ u. split ! $ split ! $ split ! $ move ! (2 ∷ []) $ feq_l ! (λ is_unit. move ! (2 ∷ []) $ drop ! $ move ! (1 ∷ []) $ drop ! $
    move ! (0 ∷ 1 ∷ []) $ handle_back ! tt h.alloc (l 3) 0 α $ give_at ! 3 $
    lands_last ! refl (subst (λ (w : Val). T (has_ty ty_unit w) × WT w) (sym (ap only is_unit)) (tt, tt)) $
    exec ! 𝓣.C 𝓣.Λ (env code.Mir.locals l) (after 3 (code.function).body) (at_ret _ (W.post y)) $ sets ! (of_opd ! (unit_lit !)) refl (tt, tt) $
    returns ! (look_at ! 0 refl) $ free_all ! refl $
    suffices ! _ (ends_at 𝓛 f.ended stayed c y vunit tt (tt, tt) (tt, tt)) $
    nothing ! $ feq_i ! (List Val) (vunit ∷ []) (vunit ∷ []) refl $ nothing ! $ nothing ! $ join ! $ nothing ! $ group ! 3 $ done !)))))))

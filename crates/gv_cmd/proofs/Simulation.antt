-- Spaces that agree in their six operations agree in every command.
use Rattle.std.proofs.Common.{◌≡◌, ℕ, ◌+◌, ◌-◌, ◌/◌, ◌<◌, ◌&&◌, Bool, true, false, not, List, [], ◌∷◌, drop, Option, None, Some, cond, leb, ltb, refl, ap, subst, arith}
use Rattle.std.specs.Prelude.{IfSome}
use Rattle.std.proofs.lemmas.Bool.Decides.{nat_tests}
use Rattle.gv_cmd.specs.Bits.{register}
use Rattle.gv_cmd.specs.Table.{kind_of}
use Rattle.gv_cmd.specs.Rows.{rows}
use Rattle.gv_types.specs.Engines.{register_base}
use Rattle.gv_cmd.specs.Effect.{Operations, ran, general_of, general_read_by, general_set_by, general_loaded_by, engine_register_set, engine_registers_set, dwords_stored, post_written, rows_copied, rows_filled, compares, is_skipped, waited, performed, effect_of}
use Rattle.gv_cmd.specs.Simulation.{Access, access, dwords_at, post_accesses, accesses, EachAccess, MayDo, Simulates, SameEffect, EffectsAgree}
use Rattle.gv_cmd.specs.declared.blit.Blit.{Blit}
use Rattle.gv_cmd.specs.declared.blit.RowPair.{RowPair}
use Rattle.gv_cmd.specs.declared.kind.PostWrite.{PostWrite}
use Rattle.gv_cmd.specs.declared.kind.Kind.{Kind}
use Rattle.gv_cmd.specs.declared.kind.Kind.TheVariants.{Noop, UserInterrupt, ArbCheck, ArbOnOff, BatchEnd, SemaphoreWait, Store, LoadRegisters, StoreRegister, LoadRegister, MoveRegister, CopyMemory, Flush, PipeControl, BatchStart, ColourBlit, CopyBlit}

general_by : (b : Bool) (c r : ℕ) → (leb (c + 0x600) r && ltb r (c + 0x680)) ≡ b → IfSome (cond b (Some ((r - (c + 0x600)) / 4)) None) (λ n. n < 32)
general_by true c r h = grind (arith, nat_tests)
general_by false c r h = tt

-- a general register is one of 32 dwords
pub general_of-small : (engine register : ℕ) → IfSome (general_of engine register) (λ n. n < 32)
general_of-small engine register = general_by _ (register_base engine) register refl

module _ {A B : Type 0} (a : Operations A) (b : Operations B) (Same : A → B → Type 0) (May : Access → Type 0) (sim : Simulates a b Same May) where
  read : (x : A) (y : B) (n : Option ℕ) → IfSome n (λ k. k < 32) → Same x y → general_read_by a x n ≡ general_read_by b y n
  read x y None small same = refl
  read x y (Some n) small same = sim.general_gives x y n small same

  set : (x : A) (y : B) (n : Option ℕ) (value : ℕ) → IfSome n (λ k. k < 32) → Same x y → Same (general_set_by a x n value) (general_set_by b y n value)
  set x y None value small same = same
  set x y (Some n) value small same = sim.general_set x y n value small same

  -- the same, where the values are equal
  set_equal : (x : A) (y : B) (n : Option ℕ) (v w : ℕ) → v ≡ w → IfSome n (λ k. k < 32) → Same x y → Same (general_set_by a x n v) (general_set_by b y n w)
  set_equal x y n v w is small same = subst (λ u. Same (general_set_by a x n v) (general_set_by b y n u)) is (set x y n v small same)

  store_equal : (x : A) (y : B) (global : Bool) (at v w : ℕ) → v ≡ w → Same x y → May (access global at) → Same (a.stored x global at v) (b.stored y global at w)
  store_equal x y global at v w is same may = subst (λ u. Same (a.stored x global at v) (b.stored y global at u)) is (sim.stored x y global at v same may)

  registers : (engine : ℕ) (x : A) (y : B) (ws : List ℕ) → Same x y → Same (engine_registers_set a engine x ws) (engine_registers_set b engine y ws)
  registers engine x y [] same = same
  registers engine x y (r ∷ []) same = same
  registers engine x y (r ∷ value ∷ ws) same =
      registers engine (engine_register_set a engine x (register (r ∷ []) 0) value) (engine_register_set b engine y (register (r ∷ []) 0) value) ws
      (set x y (general_of engine (register (r ∷ []) 0)) value (general_of-small engine (register (r ∷ []) 0)) same)

  load : (x : A) (y : B) (n : Option ℕ) (global : Bool) (at : ℕ) → IfSome n (λ k. k < 32) → Same x y → May (access global at) → Same (general_loaded_by a x n global at) (general_loaded_by b y n global at)
  load x y None global at small same may = same
  load x y (Some n) global at small same may =
      set_equal (a.load_leaves x global at) (b.load_leaves y global at) (Some n) (a.load_gives x global at) (b.load_gives y global at)
      (sim.load_gives x y global at same may) small (sim.load_leaves x y global at same may)

  dwords : (x : A) (y : B) (global : Bool) (at low : ℕ) (high : Option ℕ) → Same x y → EachAccess May (dwords_at global at high) → Same (dwords_stored a x global at low high) (dwords_stored b y global at low high)
  dwords x y global at low None same may = sim.stored x y global at low same may.0
  dwords x y global at low (Some high) same may =
      sim.stored (a.stored x global at low) (b.stored y global at low) global (at + 4) high (sim.stored x y global at low same may.0) may.1.0

  post : (x : A) (y : B) (w : Option PostWrite) → Same x y → EachAccess May (post_accesses w) → Same (post_written a x w) (post_written b y w)
  post x y None same may = same
  post x y (Some w) same may = dwords x y w.global w.at w.low w.high same may

  copied : (x : A) (y : B) (rs : List RowPair) → Same x y → Same (rows_copied a x rs) (rows_copied b y rs)
  copied x y [] same = same
  copied x y (r ∷ rs) same = copied (a.row_copied x r.to r.from r.bytes) (b.row_copied y r.to r.from r.bytes) rs (sim.row_copied x y r.to r.from r.bytes same)

  filled : (blit : Blit) (x : A) (y : B) (rs : List RowPair) → Same x y → Same (rows_filled a x blit rs) (rows_filled b y blit rs)
  filled blit x y [] same = same
  filled blit x y (r ∷ rs) same =
      filled blit (a.row_filled x r.to r.bytes blit.colour blit.bytes) (b.row_filled y r.to r.bytes blit.colour blit.bytes) rs
      (sim.row_filled x y r.to r.bytes blit.colour blit.bytes same)

  wait : (x : A) (y : B) (holds other : Bool) → holds ≡ other → Same x y → SameEffect Same (waited holds x) (waited other y)
  wait x y true true is same = record { after = same; raise = refl }
  wait x y true false is same = cc
  wait x y false true is same = cc
  wait x y false false is same = record { after = same; raise = refl }

  module _ (ws : List ℕ) (engine : ℕ) (x : A) (y : B) (same : Same x y) where
    small : (register : ℕ) → IfSome (general_of engine register) (λ k. k < 32)
    small register = general_of-small engine register

    done : (kind : Kind) → EachAccess May (accesses kind) → SameEffect Same (performed a ws engine x kind) (performed b ws engine y kind)
    done Noop may = record { after = same; raise = refl }
    done UserInterrupt may = record { after = same; raise = refl }
    done ArbCheck may = record { after = same; raise = refl }
    done ArbOnOff may = record { after = same; raise = refl }
    done BatchEnd may = record { after = same; raise = refl }
    done (SemaphoreWait global compare operand at) may =
        wait (a.load_leaves x global at) (b.load_leaves y global at) _ _
        (ap (λ memory. compares compare memory operand) (sim.load_gives x y global at same may.0))
        (sim.load_leaves x y global at same may.0)
    done (Store global at low high) may = record { after = dwords x y global at low high same may; raise = refl }
    done (LoadRegisters pairs) may = record { after = registers engine x y (drop 1 ws) same; raise = refl }
    done (StoreRegister global register at) may = record {
      after = store_equal x y global at _ _ (read x y (general_of engine register) (small register) same) same may.0;
      raise = refl;
    }
    done (LoadRegister global register at) may = record { after = load x y (general_of engine register) global at (small register) same may.0; raise = refl }
    done (MoveRegister from to) may = record {
      after = set_equal x y (general_of engine to) _ _ (read x y (general_of engine from) (small from) same) (small to) same;
      raise = refl;
    }
    done (CopyMemory from_global from to_global to) may = record {
      after = store_equal _ _ to_global to _ _ (sim.load_gives x y from_global from same may.0) (sim.load_leaves x y from_global from same may.0) may.1.0;
      raise = refl;
    }
    done (Flush write) may = record { after = post x y write same may; raise = refl }
    done (PipeControl notify write) may = record { after = post x y write same may; raise = refl }
    done (BatchStart live second at) may = record { after = same; raise = refl }
    done (ColourBlit blit) may = record { after = filled blit x y (rows blit) same; raise = refl }
    done (CopyBlit blit) may = record { after = copied x y (rows blit) same; raise = refl }

    unless_skipped : (kind : Kind) (skipped : Bool) → EachAccess May (cond skipped [] (accesses kind)) → SameEffect Same (cond skipped (ran x 0) (performed a ws engine x kind)) (cond skipped (ran y 0) (performed b ws engine y kind))
    unless_skipped kind true may = record { after = same; raise = refl }
    unless_skipped kind false may = done kind may

    by_kind : (privileged : Bool) (kind : Option Kind) → MayDo May engine privileged kind → SameEffect Same (effect_of a ws engine privileged x kind) (effect_of b ws engine privileged y kind)
    by_kind privileged None may = record { after = same; raise = refl }
    by_kind privileged (Some kind) may = unless_skipped kind (not privileged && is_skipped engine kind) may

  pub effects_agree : EffectsAgree a b Same May
  effects_agree ws engine privileged x y same may = by_kind ws engine x y same privileged (kind_of ws) may

-- accesses that may be made for two reasons
module _ (May Might : Access → Type 0) where
  each_both : (xs : List Access) → EachAccess May xs → EachAccess Might xs → EachAccess (λ a. May a × Might a) xs
  each_both [] p q = tt
  each_both (a ∷ xs) p q = ((p.0, q.0), each_both xs p.1 q.1)

  pub MayDo-both : (engine : ℕ) (privileged : Bool) (kind : Option Kind) → MayDo May engine privileged kind → MayDo Might engine privileged kind → MayDo (λ a. May a × Might a) engine privileged kind
  MayDo-both engine privileged None p q = tt
  MayDo-both engine privileged (Some kind) p q = each_both _ p q

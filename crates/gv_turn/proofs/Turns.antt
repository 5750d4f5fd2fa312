-- The turn of an element at work, by its cases.
use Rattle.std.proofs.Common.{◌≡◌, ℕ, Bool, true, false, List, Some, Ok, Err, cond, ap, ◌∙◌}
use Rattle.gv_types.specs.declared.reply.Outcome.TheVariants as outcomes
use Rattle.gv_types.specs.declared.reply.Reason.TheVariants.{Command}
use Rattle.gv_cmd.specs.Allowed.{is_allowed}
use Rattle.gv_cmd.specs.Command.{decoded}
use Rattle.gv_cmd.specs.declared.command.Unlisted.{Unlisted}
use Rattle.gv_fetch.specs.Left.{is_done, stands_of}
use Rattle.gv_private.specs.Device.{PrivateDevice, Working, quietly, fails}
use Rattle.gv_private.specs.Turn.{Turned, turned_as, front_words, front_effect, run_by, command_by, finished, turned_by, turned}

module _ (p : PrivateDevice) (engine : ℕ) (w : Working) (awake : p.failsafe ≡ false) (element : (p.engines engine).element ≡ Some w) where
  at-work : turned p engine ≡ turned_by p engine (Some w)
  at-work = ap (λ b. cond b (turned_as outcomes.Idle (quietly p)) (turned_by p engine (p.engines engine).element)) awake ∙ ap (turned_by p engine) element

  by_end : Bool → Turned
  by_end b = cond b (turned_as outcomes.Ended (finished p engine w)) (command_by p engine w (decoded (front_words p engine w)))

  pub turn-done : is_done w.left ≡ true → turned p engine ≡ turned_as outcomes.Ended (finished p engine w)
  unfolding by_end
  turn-done done = at-work ∙ ap by_end done

  turn-more : is_done w.left ≡ false → turned p engine ≡ command_by p engine w (decoded (front_words p engine w))
  unfolding by_end
  turn-more more = at-work ∙ ap by_end more

  pub turn-unlisted : is_done w.left ≡ false → (e : Unlisted) → decoded (front_words p engine w) ≡ Err e → turned p engine ≡ turned_as outcomes.Failed (fails p Command)
  turn-unlisted more e bad = turn-more more ∙ ap (command_by p engine w) bad

  module _ (ws : List ℕ) (n : ℕ) (more : is_done w.left ≡ false) (taken : decoded (front_words p engine w) ≡ Ok (ws, n)) where
    by_test : Bool → Turned
    by_test b = cond b (run_by p engine w ws n (front_effect p engine w ws).after (front_effect p engine w ws).raise) (turned_as outcomes.Failed (fails p Command))

    pub turn-denied : is_allowed ws (stands_of w.left) engine ≡ false → turned p engine ≡ turned_as outcomes.Failed (fails p Command)
    unfolding by_test
    turn-denied denied = turn-more more ∙ ap (command_by p engine w) taken ∙ ap by_test denied

    pub turn-runs : is_allowed ws (stands_of w.left) engine ≡ true → turned p engine ≡ run_by p engine w ws n (front_effect p engine w ws).after (front_effect p engine w ws).raise
    unfolding by_test
    turn-runs may = turn-more more ∙ ap (command_by p engine w) taken ∙ ap by_test may

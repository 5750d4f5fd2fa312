-- What the events of a completion tell.
use Rattle.std.proofs.Common.{◌≡◌, ℕ, List, [], ◌∷◌, cond, refl}
use Rattle.gv_csb.specs.Slots.{completion_events, begins}
use Rattle.gv_csb.specs.Status.{element_switch, active_to_idle}
use Rattle.gv_ctx.specs.Descriptor.{descriptor_of}
use Rattle.gv_private.specs.Device.{front_descriptor, has_another_in}
use Rattle.gv_private.specs.Laws.{CompletionTellsTheFront}

by_running : (running pending : List ℕ) (descriptor : ℕ) (more : List ℕ) → running ≡ descriptor ∷ more
    → completion_events running pending
    ≡ cond (has_another_in running) (element_switch (descriptor_of (front_descriptor running)).number ∷ []) (active_to_idle (descriptor_of (front_descriptor running)).number ∷ begins pending)
by_running [] pending descriptor more is = cc
by_running (first ∷ []) pending descriptor more is = refl
by_running (first ∷ second ∷ others) pending descriptor more is = refl

pub completion_tells_the_front : CompletionTellsTheFront
completion_tells_the_front e descriptor more is = by_running e.slots.running e.slots.pending descriptor more is

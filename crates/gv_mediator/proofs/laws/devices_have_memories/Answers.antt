use Rattle.gv_mediator.proofs.Memories as memories
use Rattle.gv_mediator.proofs.laws.devices_have_memories.Goals as goal

pub returns : goal.returns
returns c = memories.devices_have_memories

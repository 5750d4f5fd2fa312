-- What the struct of a device's pages holds.
use Rattle.gv_engine.specs.Pages.{Held, held_by}
use Rattle.gv_engine.specs.declared.pages.Pages.{Pages}

abbrev pub held : Pages → Held
held p = held_by p.arena p.labels.items

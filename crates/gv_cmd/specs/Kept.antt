-- How a command is kept: its dwords in a row of 65 with zeros after them, and their number.
use Rattle.std.specs.Prelude.{◌≡◌, length, take}
use Rattle.std.proofs.Common.{sym}
use Rattle.gv_cmd.specs.Padded.{padded}
use Rattle.gv_cmd.specs.Command.{IsCommand}
use Rattle.gv_cmd.specs.declared.command.Command.TheInside.{Inside}

pub record IsKept (c : Inside) : Type 0 where
  pub padded : c.words ≡ padded (take c.count c.words)
  pub count : length (take c.count c.words) ≡ c.count
  pub command : IsCommand (take c.count c.words)

-- the dwords alone give both back
pub kept-inverse : (c : Inside) → IsKept c → record { words = padded (take c.count c.words); count = length (take c.count c.words) } ≡ c
kept-inverse c kept = λ i. record c { words = sym kept.padded i; count = kept.count i }

-- Where a report goes, and what that got of it.
use Rattle.std.specs.Prelude.{◌≡◌, ℕ, ◌≤◌, List, Option, length, take, drop}
use Rattle.std.specs.Io.KnownBytes.{Appends}
use Rattle.gv_lines.specs.declared.outlet.Outlet.{Outlet}
use Rattle.gv_lines.specs.declared.outlet.Outlet.TheVariants as outlets
use Rattle.gv_lines.specs.declared.totals.Totals.{Totals}
use Rattle.gv_lines.specs.Summary.{no_totals, totals_after}

-- What was got of a report: bytes in a sink, as far as it tells them, or totals, beside a sink that is left alone.
pub data Delivery : Type 0 where
  in_sink : Option (List ℕ) → Delivery
  in_totals : Totals → Option (List ℕ) → Delivery

-- what an outlet got, where the sink holds this
abbrev pub got : Outlet → Option (List ℕ) → Delivery
got outlets.Sink held = in_sink held
got (outlets.Totals totals) held = in_totals totals held

-- these bytes were got
abbrev pub Gets : Delivery → Delivery → List ℕ → Type 0
Gets (in_sink old) (in_sink new) bytes = Appends old new bytes
Gets (in_totals before old) (in_totals after new) bytes = (after ≡ totals_after before bytes) × (new ≡ old)
Gets before after bytes = ⊥

-- Of these bytes a front was got, and the rest is held.
pub record Passes (bytes held : List ℕ) (before after : Delivery) : Type 0 where
  pub count : ℕ
  pub within : count ≤ length bytes
  pub written : Gets before after (take count bytes)
  pub rest : held ≡ drop count bytes

-- a front of a text was got
abbrev pub GetsFront : List ℕ → Delivery → Delivery → Type 0
GetsFront text before after = (n : ℕ) × Gets before after (take n text)

-- what an outlet summed up
abbrev pub totals_in : Outlet → Totals
totals_in outlets.Sink = no_totals
totals_in (outlets.Totals totals) = totals

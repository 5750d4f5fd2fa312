-- What a scan has done, and what it has still to do.
use Rattle.std.specs.Prelude.{ℕ, ◌≡◌, ◌≤◌, ◌++◌, List, [], drop, Result, Ok, Err}
use Rattle.std.specs.List.{concat}
use Rattle.gv_types.specs.declared.reply.Reason.{Reason}
use Rattle.gv_cmd.specs.declared.stands.Stands.TheVariants.{Privileged, Second}
use Rattle.gv_fetch.specs.Items.{Items, none, command, batch, start_at}
use Rattle.gv_fetch.specs.Fetch.{GlobalSpace, Got, then, whole_batch, whole_ring, items_of}
use Rattle.gv_scan.specs.Layout.{Copies, BatchAt, AreCopies, IsProgram, most_bytes}
use Rattle.gv_scan.specs.declared.fault.ScanFault.{ScanFault}
use Rattle.gv_scan.specs.declared.fault.ScanFault.TheVariants.{OutOfMemory, Refused}

-- items behind others
abbrev pub joined : Items → Items → Items
joined none more = more
joined (command ws items) more = command ws (joined items more)
joined (batch ws inside items) more = batch ws inside (joined items more)

-- what a fetch gives, behind items that were fetched before
abbrev pub behind_these : Items → Result Got Reason → Result Got Reason
behind_these items r = then r (λ got. Ok record { items = joined items got.items; budget = got.budget })

-- a fault of a scan of which the fetch gives this
abbrev pub IsFault : Result Got Reason → ScanFault → Type 0
IsFault r OutOfMemory = Unit {0}
IsFault r (Refused reason) = r ≡ Err reason

-- Commands were appended.
pub record Appended (commands : List (List ℕ)) (before after : List ℕ) : Type 0 where
  pub joined : after ≡ before ++ concat commands
  pub each : AreCopies commands

-- a batch of the second level was fetched, and its copy appended
pub record SecondDone (r : Result Got Reason) (before after : List ℕ) (left : ℕ) : Type 0 where
  pub items : Items
  pub commands : List (List ℕ)
  pub is : r ≡ Ok record { items = items; budget = left }
  pub appended : Appended commands before after
  pub copies : (base : ℕ) (batches : List (List ℕ)) → Copies base batches items commands []

-- in the middle of it
pub record SecondSoFar (space : GlobalSpace) (engine : ℕ) (whole : Result Got Reason) (at left : ℕ) (before now : List ℕ) : Type 0 where
  pub items : Items
  pub commands : List (List ℕ)
  pub is : behind_these items (whole_batch space engine Second at left) ≡ whole
  pub appended : Appended commands before now
  pub copies : (base : ℕ) (batches : List (List ℕ)) → Copies base batches items commands []

-- A batch of the first level was fetched, and its copy appended behind those of the second level that
-- it starts; it begins at a byte offset.
pub record FirstDone (r : Result Got Reason) (before after : List ℕ) (offset left : ℕ) : Type 0 where
  pub items : Items
  pub added : List (List ℕ)
  pub is : r ≡ Ok record { items = items; budget = left }
  pub few : offset ≤ most_bytes
  pub appended : Appended added before after
  pub copies : (commands : List (List ℕ)) → before ≡ concat commands → BatchAt 0 (commands ++ added) offset items

-- In the middle of it: its own commands are still apart.
pub record FirstSoFar (space : GlobalSpace) (engine : ℕ) (whole : Result Got Reason) (at left : ℕ) (before now own : List ℕ) : Type 0 where
  pub items : Items
  pub added : List (List ℕ)
  pub commands : List (List ℕ)
  pub is : behind_these items (whole_batch space engine Privileged at left) ≡ whole
  pub appended : Appended added before now
  pub apart : Appended commands [] own
  pub copies : (others : List (List ℕ)) → before ≡ concat others → Copies 0 (others ++ added) items commands []

-- a batch of the first level was fetched and appended, and to the ring its start
pub record StartDone (r : Result Got Reason) (ws before after own own_after : List ℕ) (left : ℕ) : Type 0 where
  pub offset : ℕ
  pub outer : FirstDone r before after offset left
  pub start : own_after ≡ own ++ start_at ws offset

-- In the middle of a ring: its commands up to a place, and all batches that they start.
pub record RingSoFar (space : GlobalSpace) (engine : ℕ) (whole : Result Got Reason) (ring : List ℕ) (at left : ℕ) (own batches : List ℕ) : Type 0 where
  pub items : Items
  pub commands : List (List ℕ)
  pub added : List (List ℕ)
  pub is : behind_these items (whole_ring space engine (drop at ring) left) ≡ whole
  pub own_is : Appended commands [] own
  pub batches_are : Appended added [] batches
  pub copies : Copies 0 added items commands []

-- a ring was fetched, and these are its copy and those of its batches
pub record RingDone (r : Result Got Reason) (own batches : List ℕ) : Type 0 where
  pub items : Items
  pub is : items_of r ≡ Ok items
  pub program : IsProgram own batches items

-- an image's ring was fetched, and these are the copies
pub record Scanned (r : Result Items Reason) (ring batches : List ℕ) : Type 0 where
  pub items : Items
  pub is : r ≡ Ok items
  pub program : IsProgram ring batches items

-- a fault of a scan of which the whole fetch gives this
abbrev pub IsScanFault : Result Items Reason → ScanFault → Type 0
IsScanFault r OutOfMemory = Unit {0}
IsScanFault r (Refused reason) = r ≡ Err reason

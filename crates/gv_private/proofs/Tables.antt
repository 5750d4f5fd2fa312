-- A turn changes no live table.
use Rattle.std.proofs.Common.{◌≡◌, ℕ, ◌+◌, ◌*◌, ◌/◌, Bool, true, false, List, [], ◌∷◌, Option, None, Some, Result, Ok, Err, cond, refl, subst}
use Rattle.gv_types.specs.declared.event.Width.TheVariants.{Four}
use Rattle.gv_types.specs.declared.reply.Outcome.TheVariants as outcomes
use Rattle.gv_types.specs.declared.reply.Reason.{Reason}
use Rattle.gv_types.specs.declared.reply.Reason.TheVariants.{Command}
use Rattle.gv_cmd.specs.Allowed.{is_allowed}
use Rattle.gv_cmd.specs.Command.{decoded}
use Rattle.gv_cmd.specs.declared.command.Unlisted.{Unlisted}
use Rattle.gv_csb.specs.Slots.{completion_events}
use Rattle.gv_ctx.specs.Descriptor.{descriptor_of}
use Rattle.gv_entry.specs.SameTables.{SameTables}
use Rattle.gv_entry.proofs.SameTables.{same_tables_chain, tables_decide}
use Rattle.gv_fetch.specs.Left.{is_done, is_privileged, stands_of}
use Rattle.std.specs.Prelude.{IfOk}
use Rattle.gv_entry.specs.Ranges.{is_in}
use Rattle.gv_private.specs.Access.{aperture_frame, aperture_written}
use Rattle.gv_private.specs.Device.{PrivateDevice, Working, front_context, quietly, fails}
use Rattle.gv_private.specs.Grants.{page_grant, frame_written}
use Rattle.gv_private.specs.Laws.{TurnsKeepTables, EventsKeepTables, AperturesKeepTables}
use Rattle.gv_private.specs.Load.{loaded}
use Rattle.gv_private.specs.Space.{PrivateSpace, space_of}
use Rattle.gv_private.specs.Status.{events_given}
use Rattle.gv_private.specs.Turn.{Turned, turned_as, front_words, front_effect, ran_after, run_by, command_by, tail_written, without_front, finished, load_by, next_by, turned_by, turned}
use Rattle.gv_private.proofs.Effects.{Reached, effect-reached}
use Rattle.gv_private.proofs.Granted.{IsFree, page-free, tables-same, frame_written-tables}
use Rattle.gv_private.proofs.Keeps.{KeptByEvents, events-keep, bits-keep, loaded-good}

-- the tables are the same, and so are the roots
record Keeps (p q : PrivateDevice) : Type 0 where
  pub tables : SameTables p.memory q.memory p.roots
  pub roots : q.roots ≡ p.roots

written-keeps : (p q : PrivateDevice) (at value : ℕ) → Keeps p q → SameTables p.memory (frame_written q.memory Four at value (page_grant q (at / 4096))) p.roots
written-keeps p q at value here =
    let after = frame_written q.memory Four at value (page_grant q (at / 4096)) in
    same_tables_chain p.memory q.memory after p.roots here.tables
    (subst (λ roots. SameTables q.memory after roots) here.roots
    (frame_written-tables q.memory q.roots Four at value (page_grant q (at / 4096)) (page-free q.ranges q.entries q.memory q.roots (at / 4096))))

kept : (p : PrivateDevice) → KeptByEvents (Keeps p)
kept p = record {
  interrupts = λ q i here. record { tables = here.tables; roots = here.roots };
  slots = λ q engine s here. record { tables = here.tables; roots = here.roots };
  granted = λ q at value here. record { tables = written-keeps p q at value here; roots = here.roots };
}

abbrev Same : PrivateDevice → Turned → Type 0
Same p t = SameTables p.memory t.left.device.memory p.roots

either : (p : PrivateDevice) (b : Bool) (x y : Turned) → Same p x → Same p y → Same p (cond b x y)
either p true x y first second = first
either p false x y first second = second

run-same : (p : PrivateDevice) (engine : ℕ) (w : Working) (ws : List ℕ) (dwords : ℕ) (s : PrivateSpace) (raise : Option ℕ) → Reached (space_of p engine w.root) s → Same p (run_by p engine w ws dwords s raise)
run-same p engine w ws dwords s None reached = tables-same p.memory p.roots
run-same p engine w ws dwords s (Some bits) reached =
    (bits-keep (Keeps p) (kept p) (ran_after p engine w ws dwords s) engine _ (record { tables = reached.tables; roots = refl })).tables

command-same : (p : PrivateDevice) (engine : ℕ) (w : Working) (r : Result (List ℕ × ℕ) Unlisted) → Same p (command_by p engine w r)
command-same p engine w (Err unlisted) = tables-same p.memory p.roots
command-same p engine w (Ok (ws, dwords)) =
    let e = front_effect p engine w ws in
    either p (is_allowed ws (stands_of w.left) engine) (run_by p engine w ws dwords e.after e.raise) (turned_as outcomes.Failed (fails p Command))
    (run-same p engine w ws dwords e.after e.raise (effect-reached ws engine (is_privileged w.left) (space_of p engine w.root)))
    (tables-same p.memory p.roots)

finished-same : (p : PrivateDevice) (engine : ℕ) (w : Working) → SameTables p.memory (finished p engine w).device.memory p.roots
finished-same p engine w =
    (events-keep (Keeps p) (kept p) (without_front (tail_written p engine w) engine) engine (completion_events (p.engines engine).slots.running (p.engines engine).slots.pending)
    (record {
      tables = written-keeps p p (((front_context (p.engines engine)).page + 1) * 4096 + 4 * 0x05) w.tail (record { tables = tables-same p.memory p.roots; roots = refl });
      roots = refl;
    })).tables

abbrev SameMemory : PrivateDevice → PrivateDevice → Type 0
SameMemory p q = SameTables p.memory q.memory p.roots

load-same : (p : PrivateDevice) (r : Result PrivateDevice Reason) → IfOk r (SameMemory p) → Same p (load_by p r)
load-same p (Ok q) good = good
load-same p (Err reason) good = tables-same p.memory p.roots

next-same : (p : PrivateDevice) (engine : ℕ) (running : List ℕ) → Same p (next_by p engine running)
next-same p engine [] = tables-same p.memory p.roots
next-same p engine (descriptor ∷ more) =
    load-same p (loaded p engine descriptor)
    (loaded-good (SameMemory p) engine (λ q root here. here) (λ q w there here. here) p (descriptor_of descriptor) (tables-same p.memory p.roots))

by-same : (p : PrivateDevice) (engine : ℕ) (element : Option Working) → Same p (turned_by p engine element)
by-same p engine None = next-same p engine (p.engines engine).slots.running
by-same p engine (Some w) =
    either p (is_done w.left) (turned_as outcomes.Ended (finished p engine w)) (command_by p engine w (decoded (front_words p engine w)))
    (finished-same p engine w)
    (command-same p engine w (decoded (front_words p engine w)))

pub turn-tables : (p : PrivateDevice) (engine : ℕ) → SameTables p.memory (turned p engine).left.device.memory p.roots
turn-tables p engine = either p p.failsafe (turned_as outcomes.Idle (quietly p)) (turned_by p engine (p.engines engine).element) (tables-same p.memory p.roots) (by-same p engine (p.engines engine).element)

pub turns_keep_tables : TurnsKeepTables
turns_keep_tables p engine = tables_decide p.memory (turned p engine).left.device.memory p.roots (turn-tables p engine)

pub events_keep_tables : EventsKeepTables
events_keep_tables p engine events =
    tables_decide p.memory (events_given p engine events).device.memory p.roots
    (events-keep (Keeps p) (kept p) p engine events (record { tables = tables-same p.memory p.roots; roots = refl })).tables

aperture-free : (p : PrivateDevice) (page : ℕ) (b : Bool) → IsFree p.memory p.roots (cond b (page_grant p page) None)
aperture-free p page true = page-free p.ranges p.entries p.memory p.roots page
aperture-free p page false = tt

pub apertures_keep_tables : AperturesKeepTables
apertures_keep_tables p width at value =
    tables_decide p.memory (aperture_written p width at value).memory p.roots
    (frame_written-tables p.memory p.roots width at value (aperture_frame p (at / 4096)) (aperture-free p (at / 4096) (is_in p.ranges.low (at / 4096))))

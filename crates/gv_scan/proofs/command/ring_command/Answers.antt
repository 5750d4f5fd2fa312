use Rattle.std.proofs.Common.{◌∙◌, sym, length}
use Rattle.gv_scan.proofs.FrontCommand.{ring-unlisted, ring-denied, ring-away, ring-passed}
use Rattle.gv_scan.proofs.command.ring_command.Goals as goal

pub returns-in_default-clause-value : goal.returns-in_default-clause-value
returns-in_default-clause-value g c = sym (ring-unlisted (g.R.Reader.space c.args.reader.now) c.args.engine.0 c.args.ring.now record {} c.in_default.ensures.value)

pub returns-then-not-allowed-clause-value : goal.returns-then-not-allowed-clause-value
returns-then-not-allowed-clause-value g c =
    sym (ring-denied (g.R.Reader.space c.args.reader.now) c.args.engine.0 c.args.ring.now c.in-Some.command (length c.in-Some.command) c.in-Some.ensures.value (sym c.allowed.ensures ∙ c.if-not-allowed.true))

pub returns-then-not-owns_operands-clause-value : goal.returns-then-not-owns_operands-clause-value
returns-then-not-owns_operands-clause-value g c =
    sym (ring-away (g.R.Reader.space c.args.reader.now) c.args.engine.0 c.args.ring.now c.in-Some.command (length c.in-Some.command) c.in-Some.ensures.value (sym c.allowed.ensures ∙ c.if-not-allowed.false)
    (sym c.owns_operands.ensures ∙ c.if-not-owns_operands.true))

pub returns-clause-value : goal.returns-clause-value
returns-clause-value g c =
    sym (ring-passed (g.R.Reader.space c.args.reader.now) c.args.engine.0 c.args.ring.now c.in-Some.command (length c.in-Some.command) c.in-Some.ensures.value (sym c.allowed.ensures ∙ c.if-not-allowed.false)
    (sym c.owns_operands.ensures ∙ c.if-not-owns_operands.false))

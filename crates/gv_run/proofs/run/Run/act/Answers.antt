use Rattle.std.proofs.Common.{◌≡◌, true, refl, sym, subst}
use Rattle.gv_machine.specs.Machine.{line_course}
use Rattle.gv_text.specs.Grammar.{IsForm}
use Rattle.gv_text.specs.Script.{accepts, known_after}
use Rattle.gv_text.specs.declared.script_line.Line.{Line}
use Rattle.gv_run.specs.Tied.{Agrees, Plays, machine_in}
use Rattle.gv_run.proofs.CourseRuns.{runs-done}
use Rattle.gv_run.proofs.EventLines.{guest-early, guest-room}
use Rattle.gv_run.proofs.Guests.{early-stage, line-agrees, line-machine}
use Rattle.gv_run.proofs.Left.{plays-none, ran-none}
use Rattle.gv_run.proofs.run.Run.act.Goals as goal

pub returns-in-Blank-clause-runs : goal.returns-in-Blank-clause-runs
returns-in-Blank-clause-runs g c =
    let d = g.G.Gpu.state c.args.gpu.now in
    let m = machine_in d c.args.self.now.stage in
    let told = c.args.self.now.report in
    runs-done _ _ _ _ _ _ _ (subst (λ (line : Line). Plays (line_course m line) d told d m told) (sym c.in-Blank.is) (plays-none d d m m told told refl refl (ran-none d))) refl

pub guest-requires : goal.guest-requires
guest-requires g c =
    let known = c.args.self.now.known in
    let accepted = subst (λ (line : Line). accepts known line ≡ true) c.in-Guest.is c.requires.accepted in
    early-stage (g.G.Gpu.state c.args.gpu.now) known c.args.self.now.stage c.requires.agrees (guest-early known c.in-Guest.guest accepted)

pub returns-in_ok-guest-in-Guest-clause-agrees : goal.returns-in_ok-guest-in-Guest-clause-agrees
returns-in_ok-guest-in-Guest-clause-agrees g c =
    let d = g.G.Gpu.state c.args.gpu.now in
    let known = c.args.self.now.known in
    let old = c.args.self.now.stage in
    let guest = c.in-Guest.guest in
    let accepted = subst (λ (line : Line). accepts known line ≡ true) c.in-Guest.is c.requires.accepted in
    let form = subst IsForm c.in-Guest.is c.requires.form in
    let early = early-stage d known old c.requires.agrees (guest-early known guest accepted) in
    subst (λ (line : Line). Agrees d (known_after known line) c.guest.new.self.stage) (sym c.in-Guest.is)
    (line-agrees d known guest (guest-room known guest accepted) form.0 old c.guest.new.self.stage early c.requires.agrees c.in_ok-guest-in-Guest.ensures.joined)

pub returns-in_ok-guest-in-Guest-clause-runs : goal.returns-in_ok-guest-in-Guest-clause-runs
returns-in_ok-guest-in-Guest-clause-runs g c =
    let d = g.G.Gpu.state c.args.gpu.now in
    let known = c.args.self.now.known in
    let old = c.args.self.now.stage in
    let new = c.guest.new.self.stage in
    let guest = c.in-Guest.guest in
    let told = c.args.self.now.report in
    let accepted = subst (λ (line : Line). accepts known line ≡ true) c.in-Guest.is c.requires.accepted in
    let form = subst IsForm c.in-Guest.is c.requires.form in
    let early = early-stage d known old c.requires.agrees (guest-early known guest accepted) in
    let moved = line-machine d known guest (guest-room known guest accepted) form.0 old new early c.in_ok-guest-in-Guest.ensures.joined in
    runs-done _ _ _ _ _ _ _ (subst (λ (line : Line). Plays (line_course (machine_in d old) line) d told d (machine_in d new) c.guest.new.self.report) (sym c.in-Guest.is)
    (plays-none d d _ (machine_in d new) told c.guest.new.self.report moved c.guest.ensures.report (ran-none d))) refl

pub returns-in_ok-begin-in-End-clause-runs : goal.returns-in_ok-begin-in-End-clause-runs
returns-in_ok-begin-in-End-clause-runs g c =
    let d = g.G.Gpu.state c.args.gpu.now in
    let e = g.G.Gpu.state c.begin.new.gpu in
    let m = machine_in d c.args.self.now.stage in
    let told = c.args.self.now.report in
    runs-done _ _ _ _ _ _ _ (subst (λ (line : Line). Plays (line_course m line) d told e (machine_in e c.begin.new.self.stage) c.begin.new.self.report) (sym c.in-End.is)
    (plays-none d e m (machine_in e c.begin.new.self.stage) told c.begin.new.self.report c.in_ok-begin-in-End.ensures.machine c.begin.ensures.report c.begin.ensures.ran)) c.begin.ensures.quiet

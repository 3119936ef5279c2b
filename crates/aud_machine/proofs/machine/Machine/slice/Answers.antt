use Rattle.aud_typed.specs.Ties.View.{plain_program}
use Rattle.aud_machine.proofs.Bridges.{runs_shown}
use Rattle.aud_machine.proofs.Counted.{each_at_most_twice}
use Rattle.aud_machine.proofs.Framed.{runs_comes}
use Rattle.aud_machine.proofs.Missed.{runs_misses}
use Rattle.aud_machine.proofs.machine.Machine.slice.Goals as goal

pub returns-clause-runs : goal.returns-clause-runs
returns-clause-runs c =
    let inside = c.self.inside in
    rw (← c.self.view_is) (λ shown h.
    runs_shown inside.program inside.code c.self.invariant.0 inside.limits inside.spent inside.state shown h c.args.n c.run.new.state c.in_ok-ran.ran c.in_ok-ran.ensures.runs)

pub returns-clause-ticks : goal.returns-clause-ticks
returns-clause-ticks c =
    let inside = c.self.inside in
    let plan = (plain_program inside.program).plan in
    let ran = c.in_ok-ran.ran in
    rw (← c.self.view_is) (each_at_most_twice plan inside.code ran.steps ran.ticks c.self.invariant.1 c.in_ok-ran.ensures.runs.few)

pub returns-clause-counts : goal.returns-clause-counts
returns-clause-counts c = rw (← c.self.view_is) c.in_ok-ran.ensures.runs.counts

pub invariant_of-self-2 : goal.invariant_of-self-2
invariant_of-self-2 c =
    let inside = c.self.inside in
    let runs = c.in_ok-ran.ensures.runs in
    (c.self.invariant.0, c.self.invariant.1, λ alive. c.in_ok-ran.ensures.spots, λ alive one. runs.kept (c.self.invariant.3 c.if-self.false one), λ alive. runs_misses inside.program inside.code c.self.invariant.0 inside.limits inside.spent inside.state (c.self.invariant.4 c.if-self.false) c.args.n c.run.new.state c.in_ok-ran.ran runs, c.self.invariant.5, λ alive. runs_comes inside.program inside.code inside.limits c.args.n inside.state c.run.new.state c.in_ok-ran.ran runs (c.self.invariant.6 c.if-self.false))

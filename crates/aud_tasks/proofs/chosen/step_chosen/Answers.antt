use Rattle.std.proofs.Common.{sym, subst, arith, length, ap}
use Rattle.aud_typed.specs.Ties.View.{plain_program}
use Rattle.aud_meaning.specs.Configuration.{All}
use Rattle.aud_code.specs.Places.{Spot}
use Rattle.aud_code.specs.Starts.{AreSpots}
use Rattle.aud_tasks.proofs.Running.Chosen.{next_more}
use Rattle.aud_tasks.proofs.Running.Steps.{runs_none}
use Rattle.aud_tasks.proofs.chosen.step_chosen.Goals as goal

pub returns-in_default-clause-runs : goal.returns-in_default-clause-runs
returns-in_default-clause-runs c =
    let none = ap length c.in_default.ensures.none.1 in
    absurd (omega (arith, none, c.requires.waits))

pub step-requires-clause-spots : goal.step-requires-clause-spots
step-requires-clause-spots c = subst (λ (s : All Spot). AreSpots c.args.compiled.code.now.lines s.tasks) (sym c.in-Some.ensures.kept) c.requires.spots

pub step-requires-clause-steps : goal.step-requires-clause-steps
step-requires-clause-steps c =
    let same = ap (λ (s : All Spot). s.steps) c.in-Some.ensures.kept in
    omega (arith, same, c.requires.steps)

pub returns-clause-runs : goal.returns-clause-runs
returns-clause-runs c =
    let plan = (plain_program c.args.compiled.program.now).plan in
    let code = c.args.compiled.code.now in
    let new = c.step.new.state in
    next_more plan code c.args.compiled.limits 1 c.args.state.now c.pick.new.state new new c.in-Some.picked c.in_ok-ticks.ticks (record { steps = 0; ticks = 0 }) c.in_ok-ticks.ticks c.in-Some.ensures.picks c.in_ok-ticks.ensures.next c.in_ok-ticks.ensures.few c.in_ok-ticks.ensures.counts
    (runs_none plan code c.args.compiled.limits 0 new) (omega arith) (record { least = omega arith; most = omega arith })

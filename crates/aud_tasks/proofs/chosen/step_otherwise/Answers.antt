use Rattle.std.proofs.Common.{◌<◌, ap, sym, ◌∙◌, subst, arith}
use Rattle.aud_text.specs.declared.limits.TheConstants.{STEPS}
use Rattle.aud_typed.specs.Ties.View.{plain_program}
use Rattle.aud_meaning.specs.declared.state.Move.{Move}
use Rattle.aud_meaning.specs.Configuration.{All}
use Rattle.aud_meaning.specs.Run.{own_move, step_with}
use Rattle.aud_code.specs.Flat.{flat_controls}
use Rattle.aud_code.specs.Places.{Spot}
use Rattle.aud_sequential.specs.Shown.{plans_of}
use Rattle.aud_tasks.specs.Counting.{most_of_barriers, step_ticks, Counts}
use Rattle.aud_tasks.proofs.Running.Chosen.{fast_still, one_counts, one_fast, steady_behind, steps_to}
use Rattle.aud_tasks.proofs.Running.Steps.{own_next}
use Rattle.aud_tasks.proofs.chosen.step_otherwise.Goals as goal

pub step-requires-clause-steps : goal.step-requires-clause-steps
step-requires-clause-steps c =
    let same = fast_still (plain_program c.args.compiled.program.now).plan c.args.compiled.code.now (plans_of c.deref.result.now) c.args.task c.in_ok-ahead.ahead.steps c.in_ok-ahead.ensures.runs.0 c.args.state.now c.run_ahead.new.self c.if-ahead-eq0.true c.in_ok-ahead.ensures.runs.1 in
    subst (λ (s : All Spot). s.steps < STEPS) (sym same) c.requires.steps

pub returns-then-ahead-eq0-clause-next : goal.returns-then-ahead-eq0-clause-next
returns-then-ahead-eq0-clause-next c =
    let same = fast_still (plain_program c.args.compiled.program.now).plan c.args.compiled.code.now (plans_of c.deref.result.now) c.args.task c.in_ok-ahead.ahead.steps c.in_ok-ahead.ensures.runs.0 c.args.state.now c.run_ahead.new.self c.if-ahead-eq0.true c.in_ok-ahead.ensures.runs.1 in
    let plan = (plain_program c.args.compiled.program.now).plan in
    let code = c.args.compiled.code.now in
    let limits = c.args.compiled.limits in
    own_next plan code limits c.args.task c.run_ahead.new.self c.step.new.state c.only_move.result c.in_ok-ticks.ensures.next c.only_move.ensures
    ∙ ap (λ (s : All Spot). step_with plan (flat_controls plan code) limits s (own_move c.args.task)) same

pub returns-then-ahead-eq0-clause-counts : goal.returns-then-ahead-eq0-clause-counts
returns-then-ahead-eq0-clause-counts c =
    let same = fast_still (plain_program c.args.compiled.program.now).plan c.args.compiled.code.now (plans_of c.deref.result.now) c.args.task c.in_ok-ahead.ahead.steps c.in_ok-ahead.ensures.runs.0 c.args.state.now c.run_ahead.new.self c.if-ahead-eq0.true c.in_ok-ahead.ensures.runs.1 in
    let plan = (plain_program c.args.compiled.program.now).plan in
    let code = c.args.compiled.code.now in
    subst (λ (s : All Spot). Counts (step_ticks plan code s (own_move c.args.task)) (most_of_barriers plan code) c.in_ok-ticks.ticks) same
    (subst (λ (m : Move). Counts (step_ticks plan code c.run_ahead.new.self m) (most_of_barriers plan code) c.in_ok-ticks.ticks) c.only_move.ensures c.in_ok-ticks.ensures.counts)

pub returns-clause-next : goal.returns-clause-next
returns-clause-next c =
    let plan = (plain_program c.args.compiled.program.now).plan in
    let code = c.args.compiled.code.now in
    let units = plans_of c.deref.result.now in
    let fast = one_fast plan code units c.args.task c.in_ok-ahead.ahead.steps c.in_ok-ahead.ensures.runs.0 c.in_ok-ahead.ensures.few c.if-ahead-eq0.false c.args.state.now c.run_ahead.new.self c.in_ok-ahead.ensures.runs.1 in
    sym (steps_to plan code units (sym (ap plans_of c.deref.ensures.value)) c.args.compiled.limits c.args.task c.args.state.now c.run_ahead.new.self fast c.requires.steady c.requires.some)

pub returns-clause-steady : goal.returns-clause-steady
returns-clause-steady c = λ yes.
    let plan = (plain_program c.args.compiled.program.now).plan in
    let code = c.args.compiled.code.now in
    let units = plans_of c.deref.result.now in
    let fast = one_fast plan code units c.args.task c.in_ok-ahead.ahead.steps c.in_ok-ahead.ensures.runs.0 c.in_ok-ahead.ensures.few c.if-ahead-eq0.false c.args.state.now c.run_ahead.new.self c.in_ok-ahead.ensures.runs.1 in
    let goes = c.goes_on_simply.ensures in
    steady_behind plan code units (sym (ap plans_of c.deref.ensures.value)) c.args.compiled.limits c.args.task c.args.state.now c.run_ahead.new.self fast c.requires.steady c.requires.some (goes.uncut yes) (goes.simple yes plan)

pub returns-clause-counts : goal.returns-clause-counts
returns-clause-counts c =
    let plan = (plain_program c.args.compiled.program.now).plan in
    let code = c.args.compiled.code.now in
    let units = plans_of c.deref.result.now in
    let ahead = c.in_ok-ahead.ensures in
    one_counts plan code units c.args.task c.in_ok-ahead.ahead.steps ahead.runs.0 c.in_ok-ahead.ahead.ticks ahead.few c.if-ahead-eq0.false c.args.state.now c.run_ahead.new.self ahead.runs.1 (record { least = omega (arith, ahead.runs.2); most = omega (arith, ahead.runs.2) }) c.requires.steady c.requires.some

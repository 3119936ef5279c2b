use Rattle.std.proofs.Common.{◌<◌, suc, length, ap, sym, ◌∙◌, subst, arith}
use Rattle.aud_typed.specs.Ties.View.{plain_program}
use Rattle.aud_meaning.specs.Configuration.{All}
use Rattle.aud_meaning.specs.Run as run
use Rattle.aud_code.specs.Places.{Spot}
use Rattle.aud_code.specs.Starts.{AreSpots}
use Rattle.aud_code.proofs.Starts.{step_kept}
use Rattle.aud_state.specs.Fast.{executed_in}
use Rattle.aud_tasks.specs.Acting.{TakesTurn}
use Rattle.aud_tasks.specs.Counting.{at_turn, most_of_barriers, Counts}
use Rattle.aud_tasks.specs.Turning.{turned}
use Rattle.aud_tasks.proofs.Results.{if_ok}
use Rattle.aud_tasks.proofs.StepLaws.Stepping.{at_turned, no_step, no_ticks, steps_so, task_there}
use Rattle.aud_tasks.proofs.Ticking.{barriers_alone}
use Rattle.aud_tasks.proofs.step.step.Goals as goal

pub take_turn-requires-clause-within : goal.take_turn-requires-clause-within
take_turn-requires-clause-within c = subst (λ (s : All Spot). c.args.taken.task < length s.tasks) (sym c.count_step.ensures) (omega arith)

pub take_turn-requires-clause-spots : goal.take_turn-requires-clause-spots
take_turn-requires-clause-spots c = subst (λ (s : All Spot). AreSpots c.args.compiled.code.now.lines s.tasks) (sym c.count_step.ensures) c.requires.spots

pub returns-then-taken-len-clause-next : goal.returns-then-taken-len-clause-next
returns-then-taken-len-clause-next c = no_step (plain_program c.args.compiled.program.now).plan c.args.compiled.code.now c.args.compiled.limits c.args.state.now c.args.taken (omega arith)

pub returns-clause-next : goal.returns-clause-next
returns-clause-next c = if_ok c.take_turn.result _ _ c.take_turn.ensures.takes (λ ticks h.
    let t = task_there c.args.state.now.tasks c.args.taken.task (omega arith) in
    subst (λ (s : All Spot). TakesTurn (plain_program c.args.compiled.program.now).plan c.args.compiled.code.now c.args.compiled.limits c.args.taken c.turn_of-next.result s c.take_turn.new.state) c.count_step.ensures h t.0 t.1
    ∙ steps_so (plain_program c.args.compiled.program.now).plan c.args.compiled.code.now c.args.compiled.limits c.args.state.now c.args.taken t.0 (turned (plain_program c.args.compiled.program.now).plan c.args.compiled.code.now c.args.taken.task c.args.state.now c.turn_of-next.result) t.1 (c.turn_of-next.ensures (plain_program c.args.compiled.program.now).plan))

pub returns-clause-spots : goal.returns-clause-spots
returns-clause-spots c = if_ok c.take_turn.result _ _ (returns-clause-next c) (λ ticks h.
    subst (λ (s : All Spot). AreSpots c.args.compiled.code.now.lines s.tasks) (sym h) (step_kept c.args.compiled.code.now c.sound_law.ensures (plain_program c.args.compiled.program.now).plan c.args.compiled.limits c.args.state.now c.args.taken c.requires.spots))

pub returns-then-taken-len-clause-counts : goal.returns-then-taken-len-clause-counts
returns-then-taken-len-clause-counts c = barriers_alone _ _ 0 (no_ticks (plain_program c.args.compiled.program.now).plan c.args.compiled.code.now c.args.state.now c.args.taken (omega arith)) (omega arith)

pub returns-clause-counts : goal.returns-clause-counts
returns-clause-counts c = if_ok c.take_turn.result _ _ c.take_turn.ensures.counts (λ ticks h.
    let plan = (plain_program c.args.compiled.program.now).plan in
    let code = c.args.compiled.code.now in
    let n = c.args.taken.task in
    let next = c.turn_of-next.result in
    let own = executed_in code n c.args.state.now in
    let counted : All Spot = record c.args.state.now { steps = suc c.args.state.now.steps } in
    subst (λ k. Counts k (most_of_barriers plan code) ticks)
    (at_turned plan code n counted c.args.state.now next own ∙ ap (λ (u : run.Turn). at_turn u own) (sym (c.turn_of-next.ensures plan)))
    (subst (λ (s : All Spot). Counts (at_turn (turned plan code n s next) (executed_in code n s)) (most_of_barriers plan code) ticks) c.count_step.ensures h))

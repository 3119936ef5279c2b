use Rattle.std.proofs.Common.{arith}
use Rattle.aud_typed.specs.Ties.View.{plain_program}
use Rattle.aud_tasks.proofs.Running.Hindering.{all_begin, next_begins, none_begins, own_begins}
use Rattle.aud_tasks.proofs.hindering.another_begins.Goals as goal
use Rattle.aud_tasks.proofs.hindering.another_begins.Goals.{else-other-task-via-then-other-task+else-begins_action, else-other-task-via-else-other-task}

pub loop-other-init : goal.loop-other-init
loop-other-init c = none_begins (plain_program c.args.compiled.program.now).plan c.args.compiled.code.now c.args.task c.args.state.now

pub loop-other-preserved : goal.loop-other-preserved
loop-other-preserved c =
    let plan = (plain_program c.args.compiled.program.now).plan in
    let code = c.args.compiled.code.now in
    elim c.else-other-task.branch [
      | else-other-task-via-then-other-task+else-begins_action w ↦ next_begins plan code c.args.task c.args.state.now c.loop-other.other c.loop-other.invariant (w.begins_action.ensures w.if-begins_action.false)
      | else-other-task-via-else-other-task w ↦ own_begins plan code c.args.task c.args.state.now c.loop-other.other c.loop-other.invariant (omega (arith, w.if-other-task.false))
    ]

pub returns : goal.returns
returns c = λ none. all_begin (plain_program c.args.compiled.program.now).plan c.args.compiled.code.now c.args.task c.args.state.now c.loop-other.other (omega arith) c.loop-other.invariant

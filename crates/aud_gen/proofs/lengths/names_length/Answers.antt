use Rattle.std.proofs.Common.{length, ap, arith}
use Rattle.std.proofs.lemmas.List.{drop_all}
use Rattle.aud_typed.specs.Ties.View.{plain_task_names}
use Rattle.aud_layout.specs.Instructions.{names_code}
use Rattle.aud_gen.proofs.Calls.{next_name_length}
use Rattle.aud_gen.proofs.lengths.names_length.Goals as goal

pub loop-task-preserved : goal.loop-task-preserved
loop-task-preserved c =
    let i = c.loop-task.task-index in
    let one = next_name_length c.args.tasks.now i c.task-item.result (omega arith) c.task-item.is in
    (omega arith, omega (arith, c.loop-task.invariant.0, c.loop-task.invariant.1, c.task_length.ensures))

pub returns : goal.returns
returns c =
    let i = c.loop-task.task-index in
    let none = ap (λ xs. length (names_code (plain_task_names xs))) (drop_all i c.args.tasks.now (omega (arith, c.loop-task-test.false))) in
    omega (arith, c.loop-task.invariant.0, c.loop-task.invariant.1)

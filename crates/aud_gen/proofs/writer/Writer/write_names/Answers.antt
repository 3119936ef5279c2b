use Rattle.std.proofs.Common.{◌+◌, drop, ap, arith}
use Rattle.std.proofs.lemmas.List.{drop_all}
use Rattle.aud_typed.specs.Ties.View.{plain_task, plain_task_names}
use Rattle.aud_layout.specs.Instructions.{names_code}
use Rattle.aud_gen.specs.Writes.{name_code}
use Rattle.aud_gen.proofs.Calls.{next_name}
use Rattle.aud_gen.proofs.Writing.{all_remain, none_remain, one_fewer}
use Rattle.aud_gen.proofs.writer.Writer.write_names.Goals as goal

pub loop-task-init : goal.loop-task-init
loop-task-init c = all_remain _

pub loop-task-preserved : goal.loop-task-preserved
loop-task-preserved c =
    let xs = c.args.tasks.now in
    let i = c.loop-task.task-index in
    let x = c.task-item.result in
    one_fewer (names_code (plain_task_names xs)) (names_code (plain_task_names (drop i xs))) (name_code (plain_task x)) (names_code (plain_task_names (drop (i + 1) xs))) (next_name xs i x (omega arith) c.task-item.is) c.loop-task.invariant c.write_name.ensures

pub returns : goal.returns
returns c =
    let xs = c.args.tasks.now in
    let i = c.loop-task.task-index in
    none_remain (names_code (plain_task_names xs)) (names_code (plain_task_names (drop i xs))) (ap (λ ys. names_code (plain_task_names ys)) (drop_all i xs (omega (arith, c.loop-task-test.false)))) c.loop-task.invariant

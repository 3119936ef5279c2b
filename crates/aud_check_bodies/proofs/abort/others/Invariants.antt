use Rattle.std.proofs.Common.{drop}
use Rattle.aud_syntax.specs.Ties.View.{plain_names}
use Rattle.aud_typed.specs.Ties.View.{plain_task_names}
use Rattle.aud_check_bodies.proofs.Aborting.{TasksAhead}
use Rattle.aud_check_bodies.proofs.abort.others.Given as goal

abbrev pub invariant-loop-name : goal.invariant-loop-name
invariant-loop-name l = TasksAhead l.faults (plain_task_names l.all.items) (plain_names (drop l.name-index l.names)) l.scope l.fn.faults (plain_task_names l.fn.first.items) (plain_names l.fn.names)

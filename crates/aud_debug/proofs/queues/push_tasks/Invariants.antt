use Rattle.aud_typed.specs.Ties.View.{plain_program}
use Rattle.aud_debug.proofs.Pages.{Comes}
use Rattle.aud_debug.proofs.Queued.{tasks_from}
use Rattle.aud_debug.proofs.queues.push_tasks.Given as goal

abbrev pub invariant-loop-task : goal.invariant-loop-task
invariant-loop-task l =
    let plan = (plain_program l.compiled.program.now).plan in
    Comes l.page l.initial.page (tasks_from plan l.state l.task) (tasks_from plan l.state 0)

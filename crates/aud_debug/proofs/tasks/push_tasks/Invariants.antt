use Rattle.aud_typed.specs.Ties.View.{plain_program}
use Rattle.aud_debug.proofs.Pages.{Comes}
use Rattle.aud_debug.proofs.Tasked.{lines_from}
use Rattle.aud_debug.proofs.tasks.push_tasks.Given as goal

abbrev pub invariant-loop-task : goal.invariant-loop-task
invariant-loop-task l =
    let plan = (plain_program l.compiled.program.now).plan in
    Comes l.page l.initial.page (lines_from plan l.compiled.code.now l.state l.task) (lines_from plan l.compiled.code.now l.state 0)

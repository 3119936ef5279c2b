use Rattle.aud_typed.specs.Ties.View.{plain_program}
use Rattle.aud_debug.proofs.Pages.{Comes}
use Rattle.aud_debug.proofs.Waiting.{waits_from}
use Rattle.aud_debug.proofs.waits.push_waits.Given as goal

abbrev pub invariant-loop-task : goal.invariant-loop-task
invariant-loop-task l =
    let plan = (plain_program l.compiled.program.now).plan in
    Comes l.page l.initial.page (waits_from plan l.compiled.code.now l.state l.task) (waits_from plan l.compiled.code.now l.state 0)

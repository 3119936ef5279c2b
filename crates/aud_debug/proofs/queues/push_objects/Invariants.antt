use Rattle.aud_typed.specs.Ties.View.{plain_program}
use Rattle.aud_debug.proofs.Pages.{Comes}
use Rattle.aud_debug.proofs.Queued.{objects_from}
use Rattle.aud_debug.proofs.queues.push_objects.Given as goal

abbrev pub invariant-loop-object : goal.invariant-loop-object
invariant-loop-object l =
    let plan = (plain_program l.compiled.program.now).plan in
    Comes l.page l.initial.page (objects_from plan l.state l.object) (objects_from plan l.state 0)

use Rattle.aud_typed.specs.Ties.View.{plain_program}
use Rattle.aud_debug.proofs.Pages.{Comes}
use Rattle.aud_debug.proofs.Watched.{shown_from}
use Rattle.aud_debug.proofs.objects.push_objects.Given as goal

abbrev pub invariant-loop-object : goal.invariant-loop-object
invariant-loop-object l =
    let plan = (plain_program l.compiled.program.now).plan in
    Comes l.page l.initial.page (shown_from plan l.compiled.code.now l.state l.object) (shown_from plan l.compiled.code.now l.state 0)

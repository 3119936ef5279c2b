use Rattle.std.proofs.Common.{drop}
use Rattle.aud_typed.specs.Ties.View.{plain_program}
use Rattle.aud_meaning.specs.Listings.Objects.{barrier_lines}
use Rattle.aud_code.specs.Flat.{barrier_at}
use Rattle.aud_debug.specs.Ties.Watched.{declared_in}
use Rattle.aud_debug.proofs.Pages.{Comes}
use Rattle.aud_debug.proofs.objects.push_barriers.Given as goal

abbrev pub invariant-loop-entry : goal.invariant-loop-entry
invariant-loop-entry l =
    let plan = (plain_program l.compiled.program.now).plan in
    let d = declared_in plan l.object l.state in
    Comes l.page l.initial.page (barrier_lines plan (barrier_at l.compiled.code.now) l.object d (drop l.entry-index l.entries) l.state) (barrier_lines plan (barrier_at l.compiled.code.now) l.object d l.entries l.state)

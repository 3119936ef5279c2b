use Rattle.std.proofs.Common.{drop}
use Rattle.aud_typed.specs.Ties.View.{plain_program}
use Rattle.aud_debug.specs.Ties.Rows.{entry_lines}
use Rattle.aud_debug.proofs.Pages.{Comes}
use Rattle.aud_debug.proofs.queues.push_each.Given as goal

abbrev pub invariant-loop-entry : goal.invariant-loop-entry
invariant-loop-entry l =
    let plan = (plain_program l.compiled.program.now).plan in
    Comes l.page l.initial.page (entry_lines plan l.owner (drop l.entry-index l.entries) l.state) (entry_lines plan l.owner l.entries l.state)

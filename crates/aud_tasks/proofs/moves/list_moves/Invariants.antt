use Rattle.std.proofs.Common.{◌-◌, length}
use Rattle.aud_typed.specs.Ties.View.{plain_program}
use Rattle.aud_tasks.proofs.MoveLaws.Listing.{ListedSoFar}
use Rattle.aud_tasks.proofs.moves.list_moves.Given as goal

abbrev pub invariant-loop-task : goal.invariant-loop-task
invariant-loop-task l = ListedSoFar (plain_program l.compiled.program.now).plan l.compiled.code.now l.state l.task l.moves.items l.are_simple

abbrev pub decreases-loop-task : goal.decreases-loop-task
decreases-loop-task l = length l.state.tasks - l.task

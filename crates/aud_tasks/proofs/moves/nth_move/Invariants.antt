use Rattle.std.proofs.Common.{◌≡◌, ◌-◌, length, slice_get}
use Rattle.aud_typed.specs.Ties.View.{plain_program}
use Rattle.aud_tasks.proofs.MoveLaws.Moving.{from}
use Rattle.aud_tasks.proofs.moves.nth_move.Given as goal

abbrev pub invariant-loop-task : goal.invariant-loop-task
invariant-loop-task l = let plan = (plain_program l.compiled.program.now).plan in slice_get (from plan l.compiled.code.now l.state 0) l.index ≡ slice_get (from plan l.compiled.code.now l.state l.task) l.left

abbrev pub decreases-loop-task : goal.decreases-loop-task
decreases-loop-task l = length l.state.tasks - l.task

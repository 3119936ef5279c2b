use Rattle.std.proofs.Common.{◌≡◌, ◌-◌, length}
use Rattle.aud_typed.specs.Ties.View.{plain_program}
use Rattle.aud_tasks.specs.Moving.{moves_behind}
use Rattle.aud_tasks.proofs.moves.next_mover.Given as goal

abbrev pub invariant-loop-task : goal.invariant-loop-task
invariant-loop-task l = let plan = (plain_program l.compiled.program.now).plan in moves_behind plan l.compiled.code.now l.from l.state ≡ moves_behind plan l.compiled.code.now l.task l.state

abbrev pub decreases-loop-task : goal.decreases-loop-task
decreases-loop-task l = length l.state.tasks - l.task

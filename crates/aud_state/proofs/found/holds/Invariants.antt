use Rattle.std.proofs.Common.{◌≡◌, drop, false}
use Rattle.std.specs.Prelude.{◌&&◌, not}
use Rattle.aud_meaning.specs.Parts.{any, depends, may_terminate}
use Rattle.aud_state.specs.declared.task.Task.{Task}
use Rattle.aud_state.specs.View.{plain_task}
use Rattle.aud_state.proofs.found.holds.Given as goal

abbrev pub invariant-loop-n : goal.invariant-loop-n
invariant-loop-n l = any (λ (z : Task). depends l.master (plain_task z).own && not (may_terminate (plain_task z).own)) (drop l.n l.tasks) ≡ false

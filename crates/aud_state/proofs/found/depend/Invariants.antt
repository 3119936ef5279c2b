use Rattle.std.proofs.Common.{◌≡◌, drop, false}
use Rattle.aud_meaning.specs.Parts.{any, depends}
use Rattle.aud_state.specs.declared.task.Task.{Task}
use Rattle.aud_state.specs.View.{plain_task}
use Rattle.aud_state.proofs.found.depend.Given as goal

abbrev pub invariant-loop-n : goal.invariant-loop-n
invariant-loop-n l = any (λ (z : Task). depends l.master (plain_task z).own) (drop l.n l.tasks) ≡ false

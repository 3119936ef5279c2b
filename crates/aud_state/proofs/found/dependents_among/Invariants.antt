use Rattle.std.proofs.Common.{◌≡◌, ◌++◌, drop}
use Rattle.aud_meaning.specs.Configuration.{TaskAt}
use Rattle.aud_meaning.specs.Parts.{depends}
use Rattle.aud_code.specs.Places.{Spot}
use Rattle.aud_meaning.specs.Parts.{numbers}
use Rattle.aud_state.specs.declared.task.Task.{Task}
use Rattle.aud_state.specs.View.{plain_task}
use Rattle.aud_state.proofs.found.dependents_among.Given as goal

abbrev pub invariant-loop-n : goal.invariant-loop-n
invariant-loop-n l =
    l.found.items ++ numbers (λ (z : Task). (λ (t : TaskAt Spot). depends l.master t.own) (plain_task z)) l.n (drop l.n l.tasks)
    ≡ numbers (λ (z : Task). (λ (t : TaskAt Spot). depends l.master t.own) (plain_task z)) 0 l.tasks

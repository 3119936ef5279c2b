use Rattle.std.proofs.Common.{◌≡◌, ◌++◌, drop}
use Rattle.aud_meaning.specs.Configuration.{TaskAt}
use Rattle.std.specs.Prelude.{◌&&◌, nat_eq}
use Rattle.aud_meaning.specs.Parts.{any, is_created}
use Rattle.aud_code.specs.Places.{Spot}
use Rattle.aud_meaning.specs.Parts.{numbers}
use Rattle.aud_state.specs.declared.task.Task.{Task}
use Rattle.aud_state.specs.View.{plain_task}
use Rattle.aud_state.proofs.found.created_among.Given as goal

abbrev pub invariant-loop-n : goal.invariant-loop-n
invariant-loop-n l =
    l.found.items ++ numbers (λ (z : Task). (λ (t : TaskAt Spot). is_created t.own.status && any (λ part. nat_eq part t.own.part) l.parts) (plain_task z)) l.n (drop l.n l.tasks)
    ≡ numbers (λ (z : Task). (λ (t : TaskAt Spot). is_created t.own.status && any (λ part. nat_eq part t.own.part) l.parts) (plain_task z)) 0 l.tasks

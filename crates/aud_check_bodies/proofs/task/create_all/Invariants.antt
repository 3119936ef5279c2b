use Rattle.std.proofs.Common.{◌≡◌, ◌++◌, drop}
use Rattle.aud_typed.specs.Ties.View.{plain_statements}
use Rattle.aud_names.specs.Ties.Regions.{names_in}
use Rattle.aud_check_bodies.specs.Declarations.{task_elaborations}
use Rattle.aud_check_bodies.proofs.task.create_all.Given as goal

abbrev pub invariant-loop-other : goal.invariant-loop-other
invariant-loop-other l =
    let c = l.fn.creation in
    plain_statements l.elaborations.items ++ task_elaborations (drop l.other-index l.names.others.items) l.fn.names.first.at c.task_type c.low c.is_array c.length
    ≡ plain_statements l.fn.elaborations.items ++ task_elaborations (names_in l.fn.names) l.fn.names.first.at c.task_type c.low c.is_array c.length

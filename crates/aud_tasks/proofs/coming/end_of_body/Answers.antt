use Rattle.std.proofs.Common.{List, ap, sym, ◌∙◌}
use Rattle.aud_typed.specs.Tree.{UnitPlan}
use Rattle.aud_sequential.specs.Shown.{unit_in}
use Rattle.aud_tasks.proofs.coming.end_of_body.Goals as goal

pub returns : goal.returns
returns c = λ plan units.
    let told = rw c.deref.ensures.value at c.end_of.ensures in
    told
    ∙ ap (λ (us : List UnitPlan). (unit_in us c.unit.result).end) (sym units)
    ∙ ap (λ m. (unit_in plan.units m).end) c.unit.ensures

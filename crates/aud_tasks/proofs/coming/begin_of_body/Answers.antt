use Rattle.std.proofs.Common.{List, ap, sym, ◌∙◌}
use Rattle.aud_typed.specs.Tree.{UnitPlan}
use Rattle.aud_sequential.specs.Shown.{unit_in}
use Rattle.aud_tasks.proofs.coming.begin_of_body.Goals as goal

pub returns : goal.returns
returns c = λ plan units.
    let told = rw c.deref.ensures.value at c.begin_of.ensures in
    told
    ∙ ap (λ (us : List UnitPlan). (unit_in us c.unit.result).at) (sym units)
    ∙ ap (λ m. (unit_in plan.units m).at) c.unit.ensures

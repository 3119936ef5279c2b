use Rattle.std.proofs.Common.{sym, ap}
use Rattle.aud_typed.specs.Tree.{UnitPlan}
use Rattle.aud_sequential.proofs.Planned.{unit_found}
use Rattle.aud_sequential.proofs.units.is_function.Goals as goal

pub returns-in-Some : goal.returns-in-Some
returns-in-Some c = sym (ap (λ (p : UnitPlan). p.is_function) (unit_found c.args.units.now c.args.number c.in-Some.unit.now c.in-Some.ensures.lookup.3.0 c.in-Some.ensures.lookup.1))

use Rattle.std.proofs.Common.{ap, sym}
use Rattle.aud_typed.specs.Ties.View.{plain_program}
use Rattle.aud_code.specs.Flat.{barrier_at}
use Rattle.aud_sequential.specs.Shown.{plans_of}
use Rattle.aud_tasks.proofs.Results.{on_ok}
use Rattle.aud_tasks.proofs.endings.declare.Goals as goal

pub returns : goal.returns
returns c = on_ok c.create.result _ _ c.create.ensures (λ h alternative.
    h (plain_program c.args.compiled.program.now).plan (sym (ap plans_of c.deref.ensures.value)) (sym c.unit_of_type-unit.ensures) (barrier_at c.args.compiled.code.now))

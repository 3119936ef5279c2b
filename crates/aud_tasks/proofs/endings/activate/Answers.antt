use Rattle.std.proofs.Common.{ap, sym}
use Rattle.aud_typed.specs.Ties.View.{plain_program}
use Rattle.aud_code.specs.Flat.{barrier_at}
use Rattle.aud_sequential.specs.Shown.{plans_of}
use Rattle.aud_tasks.proofs.Results.{on_ok}
use Rattle.aud_tasks.proofs.endings.activate.Goals as goal

pub returns : goal.returns
returns c = on_ok c.begin_activation.result _ _ c.begin_activation.ensures (λ h alternative.
    h (plain_program c.args.compiled.program.now).plan (sym (ap plans_of c.deref.ensures.value)) (barrier_at c.args.compiled.code.now))

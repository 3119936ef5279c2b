use Rattle.aud_typed.specs.Ties.View.{plain_program}
use Rattle.aud_code.specs.Flat.{barrier_at}
use Rattle.aud_tasks.proofs.Results.{on_ok}
use Rattle.aud_tasks.proofs.entries.accept.Goals as goal

pub returns : goal.returns
returns c = on_ok c.accept.result _ _ c.accept.ensures (λ h alternative. h (plain_program c.args.compiled.program.now).plan (barrier_at c.args.compiled.code.now))

use Rattle.std.proofs.Common.{arith}
use Rattle.aud_tasks.proofs.MoveLaws.Delays.{picks_some}
use Rattle.aud_tasks.proofs.enabled.pick.Goals as goal

pub returns-else-alternative-eq0 : goal.returns-else-alternative-eq0
returns-else-alternative-eq0 c = picks_some c.args.task c.args.alternative (λ e. omega (arith, e))

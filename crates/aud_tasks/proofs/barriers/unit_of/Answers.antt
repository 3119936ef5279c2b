use Rattle.std.proofs.Common.{ap, sym}
use Rattle.aud_typed.specs.Ties.View.{entry_with}
use Rattle.aud_tasks.proofs.barriers.unit_of.Goals as goal

pub returns-in-Some : goal.returns-in-Some
returns-in-Some c = sym (ap (λ b. (entry_with c.args.entry.now.name c.args.entry.now.formals b).unit) c.in-Some.is)

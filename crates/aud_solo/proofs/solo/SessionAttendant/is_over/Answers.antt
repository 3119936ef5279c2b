use Rattle.aud_solo.proofs.SessionLaws.{over_says}
use Rattle.std.proofs.Common.{sym, ◌∙◌}
use Rattle.aud_solo.proofs.solo.SessionAttendant.is_over.Goals as goal

pub returns-clause-none : goal.returns-clause-none
returns-clause-none c = λ is. over_says c.args.self.now (sym c.is_over.ensures ∙ is)

use Rattle.std.proofs.Common.{ap, sym, ◌∙◌}
use Rattle.aud_meaning.specs.Run.{at_once}
use Rattle.aud_code.specs.Flat.{barrier_at}
use Rattle.aud_tasks.proofs.turn.at_once.Goals as goal

pub returns-in-Some : goal.returns-in-Some
returns-in-Some c = λ plan code. ap (λ o. at_once plan (barrier_at code) o) (sym c.withdraw.ensures ∙ c.in-Some.is)

pub returns-in-None : goal.returns-in-None
returns-in-None c = λ plan code. ap (λ o. at_once plan (barrier_at code) o) (sym c.withdraw.ensures ∙ c.in-None.is)

use Rattle.std.proofs.Common.{ap, sym, ◌∙◌}
use Rattle.aud_meaning.specs.Run.{running}
use Rattle.aud_code.specs.Flat.{barrier_at}
use Rattle.aud_tasks.specs.Turning.{coming_in}
use Rattle.aud_tasks.proofs.turn.running.Goals as goal

pub returns-in-Some : goal.returns-in-Some
returns-in-Some c = λ plan code. ap (λ r. running plan (barrier_at code) r (coming_in plan code c.args.n c.args.state.now)) (sym c.restart.ensures ∙ c.in-Some.is)

pub returns-in-None : goal.returns-in-None
returns-in-None c = λ plan code. ap (λ r. running plan (barrier_at code) r (coming_in plan code c.args.n c.args.state.now)) (sym c.restart.ensures ∙ c.in-None.is)

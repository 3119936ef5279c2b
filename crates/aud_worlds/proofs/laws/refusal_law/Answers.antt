use Rattle.aud_worlds.proofs.Refusals.{refusal_law}
use Rattle.aud_worlds.proofs.laws.refusal_law.Goals as goal

pub returns : goal.returns
returns c = refusal_law

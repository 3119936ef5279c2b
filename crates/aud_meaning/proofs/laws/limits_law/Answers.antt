use Rattle.aud_meaning.proofs.Limits.Steps as limits
use Rattle.aud_meaning.proofs.laws.limits_law.Goals as goal

pub returns : goal.returns
returns c = limits.limits_law

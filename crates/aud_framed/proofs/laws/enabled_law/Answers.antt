use Rattle.aud_framed.proofs.Stepping.Enabled.{enabled_tells}
use Rattle.aud_framed.proofs.laws.enabled_law.Goals as goal

pub returns : goal.returns
returns c = record { tells = enabled_tells }

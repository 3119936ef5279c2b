use Rattle.aud_framed.proofs.Stepping.Turning.{framed_step}
use Rattle.aud_framed.proofs.laws.framed_law.Goals as goal

pub returns : goal.returns
returns c = record { step = framed_step }

use Rattle.aud_framed.proofs.Running.Reaching.{comes}
use Rattle.aud_framed.proofs.runs.comes_law.Goals as goal

pub returns : goal.returns
returns c = record { comes = comes }

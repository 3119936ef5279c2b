use Rattle.aud_framed.proofs.Running.Bodies.{step_bodies}
use Rattle.aud_framed.proofs.runs.bodies_kept_law.Goals as goal

pub returns : goal.returns
returns c = record { kept = step_bodies }

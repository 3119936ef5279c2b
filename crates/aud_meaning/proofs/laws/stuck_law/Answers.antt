use Rattle.aud_meaning.proofs.Stuck as stuck
use Rattle.aud_meaning.proofs.laws.stuck_law.Goals as goal

pub returns : goal.returns
returns c = stuck.stuck_law

use Rattle.aud_meaning.proofs.Carrying as carrying
use Rattle.aud_meaning.proofs.laws.carried_law.Goals as goal

pub returns : goal.returns
returns c = carrying.carried_law

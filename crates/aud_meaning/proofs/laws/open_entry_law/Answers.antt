use Rattle.aud_meaning.proofs.Open.Steps as steps
use Rattle.aud_meaning.proofs.laws.open_entry_law.Goals as goal

pub returns : goal.returns
returns c = steps.open_law

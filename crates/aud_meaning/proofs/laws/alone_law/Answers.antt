use Rattle.aud_meaning.proofs.Alone as alone
use Rattle.aud_meaning.proofs.laws.alone_law.Goals as goal

pub returns : goal.returns
returns c = alone.alone_law

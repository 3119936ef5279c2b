use Rattle.aud_layout.proofs.Flat.Written.{written_law}
use Rattle.aud_layout.proofs.laws.written_law.Goals as goal

pub returns : goal.returns
returns c = written_law

use Rattle.aud_layout.proofs.Flat.Tabling.{code_is_tabled}
use Rattle.aud_layout.proofs.laws.tabled_law.Goals as goal

pub returns : goal.returns
returns c = code_is_tabled

use Rattle.aud_layout.proofs.Flat.SeeingLaw.{code_is_seen}
use Rattle.aud_layout.proofs.laws.seen_tabled_law.Goals as goal

pub returns : goal.returns
returns c = code_is_seen

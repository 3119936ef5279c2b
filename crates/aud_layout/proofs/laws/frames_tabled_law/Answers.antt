use Rattle.aud_layout.proofs.Flat.Levels.{frames_are_tabled}
use Rattle.aud_layout.proofs.laws.frames_tabled_law.Goals as goal

pub returns : goal.returns
returns c = frames_are_tabled

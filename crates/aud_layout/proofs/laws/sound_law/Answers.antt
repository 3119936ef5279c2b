use Rattle.aud_layout.proofs.Flat.Sound.{code_is_sound}
use Rattle.aud_layout.proofs.laws.sound_law.Goals as goal

pub returns : goal.returns
returns c = code_is_sound

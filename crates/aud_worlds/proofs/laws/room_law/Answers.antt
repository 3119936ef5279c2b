use Rattle.aud_worlds.proofs.Isolation.{room_law}
use Rattle.aud_worlds.proofs.laws.room_law.Goals as goal

pub returns : goal.returns
returns c = room_law

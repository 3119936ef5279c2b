use Rattle.aud_worlds.proofs.Users.{every_seat_law}
use Rattle.aud_worlds.proofs.laws.every_seat_law.Goals as goal

pub returns : goal.returns
returns c = every_seat_law

use Rattle.aud_hall.proofs.Keeping.{claimed_kept}
use Rattle.aud_hall.proofs.place.Place.claim.Goals as goal

pub invariant_of-self : goal.invariant_of-self
invariant_of-self c = claimed_kept c.self.inside.limits c.in-Ok.seat c.in-Ok.ensures

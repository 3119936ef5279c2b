use Rattle.aud_check_bodies.proofs.Scoping.{typed_scoped}
use Rattle.aud_check_bodies.proofs.laws.scoped.Goals as goal

pub returns : goal.returns
returns c = typed_scoped

use Rattle.aud_layout.proofs.Flat.Laws.{order_law}
use Rattle.aud_layout.proofs.laws.order_law.Goals as goal

pub returns : goal.returns
returns c = order_law

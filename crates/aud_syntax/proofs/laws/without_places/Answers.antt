use Rattle.aud_syntax.proofs.Placeless.{without_places}
use Rattle.aud_syntax.proofs.laws.without_places.Goals as goal

pub returns : goal.returns
returns c = without_places

use Rattle.aud_layout.proofs.ByKind.Declaring.{declaration_law}
use Rattle.aud_layout.proofs.laws.declaration_law.Goals as goal

pub returns : goal.returns
returns c = declaration_law

use Rattle.aud_layout.proofs.ByKind.Putting.{put_law}
use Rattle.aud_layout.proofs.laws.put_law.Goals as goal

pub returns : goal.returns
returns c = put_law

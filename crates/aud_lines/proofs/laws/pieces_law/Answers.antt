use Rattle.aud_lines.proofs.FeedLaws.{pieces_law}
use Rattle.aud_lines.proofs.laws.pieces_law.Goals as goal

pub returns : goal.returns
returns c = pieces_law

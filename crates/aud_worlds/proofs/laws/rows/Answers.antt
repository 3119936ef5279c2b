use Rattle.aud_worlds.proofs.Computing.{rows}
use Rattle.aud_worlds.proofs.laws.rows.Goals as goal

pub returns : goal.returns
returns c = rows

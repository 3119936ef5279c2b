use Rattle.aud_worlds.proofs.Calls.{run_law}
use Rattle.aud_worlds.proofs.laws.run_law.Goals as goal

pub returns : goal.returns
returns c = run_law

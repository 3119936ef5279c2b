use Rattle.aud_grammar.proofs.RequeueRows.{levels_of_requeue}
use Rattle.aud_grammar.proofs.laws.levels_of_requeue.Goals as goal

pub returns : goal.returns
returns c = levels_of_requeue

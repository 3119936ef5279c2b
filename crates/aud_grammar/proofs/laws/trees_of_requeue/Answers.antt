use Rattle.aud_grammar.proofs.RequeueRows.{trees_of_requeue}
use Rattle.aud_grammar.proofs.laws.trees_of_requeue.Goals as goal

pub returns : goal.returns
returns c = trees_of_requeue

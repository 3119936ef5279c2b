use Rattle.aud_grammar.proofs.RequeueRows.{faults_of_requeue}
use Rattle.aud_grammar.proofs.laws.faults_of_requeue.Goals as goal

pub returns : goal.returns
returns c = faults_of_requeue

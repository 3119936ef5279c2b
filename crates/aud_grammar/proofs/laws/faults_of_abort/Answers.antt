use Rattle.aud_grammar.proofs.AbortRows.{faults_of_abort}
use Rattle.aud_grammar.proofs.laws.faults_of_abort.Goals as goal

pub returns : goal.returns
returns c = faults_of_abort

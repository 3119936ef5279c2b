use Rattle.aud_grammar.proofs.TaskRows.{wrong_tasks, wrong_definitions, wrong_bodies}
use Rattle.aud_grammar.proofs.laws.faults_of_tasks.Goals as goal

pub returns : goal.returns
returns c = (wrong_tasks, wrong_definitions, wrong_bodies)

use Rattle.aud_grammar.proofs.TaskRows.{tasks, bodies, attributes}
use Rattle.aud_grammar.proofs.laws.trees_of_tasks.Goals as goal

pub returns : goal.returns
returns c = (tasks, bodies, attributes)

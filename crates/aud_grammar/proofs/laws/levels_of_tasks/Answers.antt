use Rattle.aud_grammar.proofs.TaskRows.{levels_of_tasks}
use Rattle.aud_grammar.proofs.laws.levels_of_tasks.Goals as goal

pub returns : goal.returns
returns c = levels_of_tasks

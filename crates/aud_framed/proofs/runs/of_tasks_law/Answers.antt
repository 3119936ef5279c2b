use Rattle.aud_framed.proofs.Running.OfTasks.{tasks_run}
use Rattle.aud_framed.proofs.runs.of_tasks_law.Goals as goal

pub returns : goal.returns
returns c = record { holds = tasks_run }

use Rattle.aud_framed.proofs.Running.OfTasks.{tasks_meet}
use Rattle.aud_framed.proofs.runs.tasks_meet_law.Goals as goal

pub returns : goal.returns
returns c = record { meet = tasks_meet }

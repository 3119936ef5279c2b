use Rattle.aud_framed.proofs.Stepping.DeclaringTasks.{declares_tasks_good}
use Rattle.aud_framed.proofs.laws.declares_tasks_kept_law.Goals as goal

pub returns : goal.returns
returns c = record {
  kept = λ plan code table tasks barriers seen limits alternative at ts n x t sound fits levels ways kept is running none still line.
      declares_tasks_good plan code table tasks barriers seen sound fits ways levels limits at ts n x t kept is running none still line;
}

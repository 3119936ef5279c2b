use Rattle.aud_framed.proofs.Stepping.Calling.{calls_task_good}
use Rattle.aud_framed.proofs.laws.calls_task_kept_law.Goals as goal

pub returns : goal.returns
returns c = record {
  kept = λ plan code table tasks barriers seen limits alternative m call n x t sound fits ways kept is running none still starts_none well its by.
      calls_task_good plan code table tasks barriers seen sound fits ways alternative m n call by.0 x t kept is running none still starts_none its by.1 well;
}

use Rattle.aud_framed.proofs.Stepping.Closing.{task_closed}
use Rattle.aud_framed.proofs.laws.closed_kept_law.Goals as goal

pub returns : goal.returns
returns c = record {
  kept = λ plan code table tasks barriers seen n x sound fits ways kept completed h. (task_closed plan code table tasks barriers seen sound fits ways n x kept completed h).good;
}

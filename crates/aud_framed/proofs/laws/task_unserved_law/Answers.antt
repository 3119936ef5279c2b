use Rattle.aud_framed.proofs.Stepping.Restarting.{task_unserved}
use Rattle.aud_framed.proofs.laws.task_unserved_law.Goals as goal

pub returns : goal.returns
returns c = record {
  unserved = λ plan code seen n id x w its mine m alive. task_unserved plan code seen n id x w its mine m alive;
}

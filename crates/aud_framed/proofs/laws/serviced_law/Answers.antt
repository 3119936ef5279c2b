use Rattle.aud_framed.proofs.Stepping.Serving.{serviced_good}
use Rattle.aud_framed.proofs.laws.serviced_law.Goals as goal

pub returns : goal.returns
returns c = record {
  serviced = λ plan code table tasks barriers seen object at n x t sound fits ways w is acts outside unmade still may.
      serviced_good plan code table tasks barriers seen sound fits ways object at n x t w is acts outside unmade still may;
}

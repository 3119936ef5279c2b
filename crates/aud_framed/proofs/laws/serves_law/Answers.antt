use Rattle.aud_framed.proofs.Stepping.Choosing.{served}
use Rattle.aud_framed.proofs.Stepping.Eligible.{eligible_are}
use Rattle.aud_framed.proofs.laws.serves_law.Goals as goal

pub returns : goal.returns
returns c = record {
  serves = λ plan code table tasks barriers seen alternative s n x t sound fits levels ways w is alive serving picks.
      served plan code table tasks barriers seen sound fits ways levels s n x t w is alive serving alternative picks;
  eligible = λ plan barrier object x places i e h. eligible_are plan barrier object x places i e h;
}

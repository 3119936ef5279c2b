use Rattle.aud_framed.proofs.Stepping.Activation.{activation_over}
use Rattle.aud_framed.proofs.laws.activation_kept_law.Goals as goal

pub returns : goal.returns
returns c = record {
  kept = λ plan code table tasks barriers seen failed n x sound fits ways kept. activation_over plan code table tasks barriers seen sound fits ways failed n x kept;
}

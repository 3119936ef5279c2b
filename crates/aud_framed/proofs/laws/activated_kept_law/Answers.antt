use Rattle.aud_framed.proofs.Stepping.Activated.{ends_activation_good}
use Rattle.aud_framed.proofs.laws.activated_kept_law.Goals as goal

pub returns : goal.returns
returns c = record {
  kept = λ plan code table tasks barriers seen limits alternative n x t sound fits ways kept is running none still line.
      ends_activation_good plan code table tasks barriers seen sound fits ways n x t kept is running none still line;
}

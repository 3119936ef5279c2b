use Rattle.aud_framed.proofs.Stepping.Handling.{handled_step}
use Rattle.aud_framed.proofs.laws.handled_step_law.Goals as goal

pub returns : goal.returns
returns c = record {
  handled = λ plan code table tasks barriers seen limits alternative n x t p sound fits spots is running pending caught meets w.
      handled_step plan code table tasks barriers seen limits alternative n x t p sound fits spots is running pending caught meets w;
}

use Rattle.aud_framed.proofs.Stepping.AgainEnds.{accept_again_good}
use Rattle.aud_framed.proofs.laws.accept_ends_again_law.Goals as goal

pub returns : goal.returns
returns c = record {
  kept = λ plan code table tasks barriers seen limits alternative n x t o os id next r sound fits ways kept is running none makes opened for_it ending.
      accept_again_good plan code table tasks barriers seen sound fits ways limits alternative n x t o os id next r kept is running none makes opened for_it ending;
}

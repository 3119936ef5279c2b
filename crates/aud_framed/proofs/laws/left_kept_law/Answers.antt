use Rattle.aud_framed.proofs.Stepping.Ends.{left_by_exception}
use Rattle.aud_framed.proofs.laws.left_kept_law.Goals as goal

pub returns : goal.returns
returns c = record {
  kept = λ plan code table tasks barriers seen limits alternative n x t o os p sound fits ways kept is running pending still inner kind h.
      left_by_exception plan code table tasks barriers seen sound fits ways limits alternative n x t o os p kept is running pending still inner kind h;
}

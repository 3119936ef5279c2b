use Rattle.aud_framed.proofs.Stepping.Leaves.{block_left_with}
use Rattle.aud_framed.proofs.laws.leaves_kept_law.Goals as goal

pub returns : goal.returns
returns c = record {
  kept = λ plan code table tasks barriers seen limits alternative n x t o os loops next sound fits ways kept is running none opened leaves closable.
      block_left_with plan code table tasks barriers seen sound fits ways limits alternative n x t o os loops next kept is running none opened leaves closable;
}

use Rattle.aud_framed.proofs.Stepping.Blocks.{block_ended}
use Rattle.aud_framed.proofs.laws.block_kept_law.Goals as goal

pub returns : goal.returns
returns c = record {
  kept = λ plan code table tasks barriers seen limits alternative n x t o os next sound fits ways kept is running none opened block ending h.
      block_ended plan code table tasks barriers seen sound fits ways limits alternative n x t o os next kept is running none opened block ending h;
}

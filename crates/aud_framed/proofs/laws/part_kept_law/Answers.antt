use Rattle.aud_framed.proofs.Stepping.Blocks.{raised_in_part}
use Rattle.aud_framed.proofs.laws.part_kept_law.Goals as goal

pub returns : goal.returns
returns c = record {
  kept = λ plan code table tasks barriers seen raise at n x t sound fits ways kept is running none still d.
      raised_in_part plan code table tasks barriers seen sound fits ways raise at n x t kept is running none still d;
}

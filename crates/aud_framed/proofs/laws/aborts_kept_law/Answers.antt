use Rattle.aud_framed.proofs.Stepping.Aborting.{aborts_good}
use Rattle.aud_framed.proofs.laws.aborts_kept_law.Goals as goal

pub returns : goal.returns
returns c = record {
  kept = λ plan code table tasks barriers seen limits alternative ns at n x t sound fits ways kept is running none still line.
      aborts_good plan code table tasks barriers seen sound fits ways ns at n x t kept is running none still line;
}

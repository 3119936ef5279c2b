use Rattle.aud_framed.proofs.Stepping.Beginning.{activates_good}
use Rattle.aud_framed.proofs.laws.activates_kept_law.Goals as goal

pub returns : goal.returns
returns c = record {
  kept = λ plan code table tasks barriers seen limits alternative at n x t sound fits levels ways kept is running none still free line.
      activates_good plan code table tasks barriers seen sound fits ways levels at n x t kept is running none still free line;
}

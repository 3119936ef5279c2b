use Rattle.aud_framed.proofs.Stepping.Accepting.{accept_waits}
use Rattle.aud_framed.proofs.laws.accept_kept_law.Goals as goal

pub returns : goal.returns
returns c = record {
  kept = λ plan code table tasks barriers seen a n x t sound fits ways kept is running none still free outside its line only empty.
      accept_waits plan code table tasks barriers seen sound fits ways a n x t kept is running none still free outside its line only empty;
}

use Rattle.aud_framed.proofs.Stepping.Rendezvous.{accepts_good}
use Rattle.aud_framed.proofs.laws.accepts_kept_law.Goals as goal

pub returns : goal.returns
returns c = record {
  kept = λ plan code table tasks barriers seen limits alternative a n x t sound fits ways kept is running none still free outside its line only.
      accepts_good plan code table tasks barriers seen sound fits ways a n x t kept is running none still free outside its line only;
}

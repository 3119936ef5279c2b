use Rattle.aud_framed.proofs.Stepping.Meeting.{accepts_oldest}
use Rattle.aud_framed.proofs.laws.meets_kept_law.Goals as goal

pub returns : goal.returns
returns c = record {
  kept = λ plan code table tasks barriers seen a n x t y ys sound fits ways kept is running none still its line nothing some.
      accepts_oldest plan code table tasks barriers seen sound fits ways a n x t y ys kept is running none still its line nothing some;
}

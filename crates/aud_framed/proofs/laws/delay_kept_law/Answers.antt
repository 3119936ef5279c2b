use Rattle.aud_framed.proofs.Stepping.Delays.{delay_begun}
use Rattle.aud_framed.proofs.laws.delay_kept_law.Goals as goal

pub returns : goal.returns
returns c = record {
  kept = λ plan code table tasks barriers seen ms at n x t sound fits ways kept is running none still line.
      delay_begun plan code table tasks barriers seen sound fits ways ms at n x t kept is running none still line;
}

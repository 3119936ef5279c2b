use Rattle.aud_framed.proofs.Stepping.Delays.{delay_expired}
use Rattle.aud_framed.proofs.laws.expires_kept_law.Goals as goal

pub returns : goal.returns
returns c = record {
  kept = λ plan code table tasks barriers seen alternative n x t sound fits ways kept is waits.
      delay_expired plan code table tasks barriers seen sound fits ways alternative n x t kept is waits;
}

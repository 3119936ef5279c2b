use Rattle.aud_framed.proofs.Stepping.Acting.{acts_good}
use Rattle.aud_framed.proofs.laws.acts_kept_law.Goals as goal

pub returns : goal.returns
returns c = record {
  kept = λ plan code table tasks barriers seen limits alternative n x t sound fits levels ways kept is running unserving starts_none meets tells well.
      acts_good plan code table tasks barriers seen sound fits levels ways limits alternative n x t kept is running unserving starts_none meets tells well;
}

use Rattle.aud_framed.proofs.Stepping.Finishing.{body_ended, body_left_by}
use Rattle.aud_framed.proofs.laws.body_kept_law.Goals as goal

pub returns : goal.returns
returns c = record {
  kept = λ plan code table tasks barriers seen limits alternative n x t o p sound fits ways kept is running inner body. (
    body_ended plan code table tasks barriers seen sound fits ways limits alternative n x t o kept is running inner body,
    body_left_by plan code table tasks barriers seen sound fits ways limits alternative n x t o p kept is running inner body,
  );
}

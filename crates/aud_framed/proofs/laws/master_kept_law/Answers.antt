use Rattle.aud_framed.proofs.Stepping.Closing.{master_closed}
use Rattle.aud_framed.proofs.laws.master_kept_law.Goals as goal

pub returns : goal.returns
returns c = record {
  kept = λ plan code table tasks barriers seen master x sound fits ways kept h. (master_closed plan code table tasks barriers seen sound fits ways master x kept h).good;
}

use Rattle.aud_framed.proofs.Stepping.Restarting.{made_again}
use Rattle.aud_framed.proofs.laws.starts_again_law.Goals as goal

pub returns : goal.returns
returns c = record {
  starts = λ plan code table tasks barriers seen r n x t sound fits levels ways w is running restarting way.
      made_again plan code table tasks barriers seen sound fits ways levels r n x t w is running restarting way;
}

use Rattle.aud_framed.proofs.Stepping.Entering.{entry_at_once}
use Rattle.aud_framed.proofs.laws.entry_entered_law.Goals as goal

pub returns : goal.returns
returns c = record {
  entered = λ plan code table tasks barriers seen served at object id n x t sound fits levels ways w is may unmade still acts outside unserved its level.
      entry_at_once plan code table tasks barriers seen sound fits ways levels served at object id n x t w is may unmade still acts outside unserved its level;
}

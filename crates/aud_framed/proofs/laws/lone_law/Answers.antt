use Rattle.aud_framed.proofs.Stepping.Lone.{lone_framed}
use Rattle.aud_framed.proofs.laws.lone_law.Goals as goal

pub returns : goal.returns
returns c = record {
  lone = λ plan code table tasks barriers seen limits alternative n x t sound fits levels ways spots is running none unserving unmade alone meets w.
      lone_framed plan code table tasks barriers seen limits alternative n x t sound fits levels ways spots is running none unserving unmade alone meets w;
}

use Rattle.aud_framed.proofs.Stepping.Starting.{calls_object_good}
use Rattle.aud_framed.proofs.laws.calls_object_kept_law.Goals as goal

pub returns : goal.returns
returns c = record {
  kept = λ plan code table tasks barriers seen limits alternative object call n x t sound fits levels ways kept is running none still starts_none well entry idle by.
      calls_object_good plan code table tasks barriers seen sound fits ways levels object n call by.0 by.1.0 x t kept is running none still starts_none entry by.1.1 idle well;
}

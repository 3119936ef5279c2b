use Rattle.aud_framed.proofs.Stepping.Ending.{end_call_good}
use Rattle.aud_framed.proofs.laws.call_kept_law.Goals as goal

pub returns : goal.returns
returns c = record {
  kept = λ plan code table tasks barriers seen outcome id x sound fits ways kept live free waiting.
      end_call_good plan code table tasks barriers seen sound fits ways outcome id x kept live free waiting;
}

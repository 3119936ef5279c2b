use Rattle.aud_framed.proofs.Stepping.Selecting.{selected_framed}
use Rattle.aud_framed.proofs.laws.selected_kept_law.Goals as goal

pub returns : goal.returns
returns c = record {
  selected = λ plan code seen id x queued w. selected_framed plan code seen id x queued w;
}

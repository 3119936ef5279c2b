use Rattle.aud_framed.proofs.Stepping.Declaring.{declared}
use Rattle.aud_framed.proofs.laws.object_declared_law.Goals as goal

pub returns : goal.returns
returns c = record {
  declared = λ plan code table tasks barriers seen at declaration cells n x t sound fits ways w is running none still line entries.
      declared plan code table tasks barriers seen sound fits ways at declaration cells n x t w is running none still line entries;
}

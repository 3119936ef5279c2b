use Rattle.aud_framed.proofs.Stepping.Actions.{action_begun, action_ended}
use Rattle.aud_framed.proofs.laws.actions_law.Goals as goal

pub returns : goal.returns
returns c = record {
  begun = λ plan code seen n object reading x free apart w. action_begun plan code seen n object reading x free apart w;
  ended = λ plan code seen n object x outside w. action_ended plan code seen n object x outside w;
}

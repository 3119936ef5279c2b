-- Passes of the step abort over the tasks that become abnormal.
use Rattle.std.specs.Prelude.{ℕ, List, Bool, true, Result}
use Rattle.aud_text.specs.declared.raise.Raise.{Raise}
use Rattle.aud_typed.specs.Tree.{Plan}
use Rattle.aud_meaning.specs.Configuration.{All}
use Rattle.aud_meaning.specs.Evaluation.{Sight}
use Rattle.aud_meaning.specs.Orders.{Orders}
use Rattle.aud_meaning.specs.Parts.{on_own}
use Rattle.aud_meaning.specs.Tasks as effect
use Rattle.aud_code.specs.Places.{Spot}

module _ (go : Orders Spot) (plan : Plan) (barrier : ℕ → Sight → Result Bool Raise) where
  abbrev pub each_abnormal : List ℕ → All Spot → All Spot
  each_abnormal hit c = effect.each go plan barrier (λ n d. on_own n (λ own. record own { abnormal = true }) d) hit c

  -- their own queued calls are cancelled
  abbrev pub each_cancelled : List ℕ → All Spot → All Spot
  each_cancelled hit c = effect.each go plan barrier (λ n d. effect.loses_call go plan barrier n (effect.own_calls go plan barrier n d.shared.calls) d) hit c

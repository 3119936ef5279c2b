use Rattle.std.proofs.Common.{◌≡◌, ◌++◌, ℕ, Bool, Result, drop}
use Rattle.aud_text.specs.declared.raise.Raise.{Raise as RaiseOf}
use Rattle.aud_typed.specs.Tree.{Plan}
use Rattle.aud_meaning.specs.Evaluation.{Sight}
use Rattle.aud_meaning.specs.Orders.{Orders}
use Rattle.aud_code.specs.Places.{Spot}
use Rattle.aud_state.proofs.Hitting.{hit}
use Rattle.aud_state.proofs.aborting.hit_among.Given as goal

abbrev pub invariant-loop-n : goal.invariant-loop-n
invariant-loop-n l =
    (go : Orders Spot) → (plan : Plan) → (barrier : ℕ → Sight → Result Bool RaiseOf) →
    l.found.items ++ hit go plan barrier l.named l.bodies l.n (drop l.n l.tasks) ≡ hit go plan barrier l.named l.bodies 0 l.tasks

-- Tasks whose queued calls are cancelled, by who owns these.
use Rattle.std.proofs.Common.{◌≡◌, ℕ, zero, suc, List, [], ◌∷◌, Result, Bool, refl, ap}
use Rattle.aud_text.specs.declared.raise.Raise.{Raise}
use Rattle.aud_typed.specs.Tree.{Plan}
use Rattle.aud_meaning.specs.declared.state.Owner.TheVariants as owner
use Rattle.aud_meaning.specs.Configuration.{All}
use Rattle.aud_meaning.specs.Evaluation.{Sight}
use Rattle.aud_meaning.specs.Orders.{Orders}
use Rattle.aud_meaning.specs.Parts.{changed, on_own}
use Rattle.aud_meaning.specs.Tasks as effect
use Rattle.aud_code.specs.Places.{Spot}

same : {A : Type 0} (n : ℕ) (xs : List A) → changed n (λ x. x) xs ≡ xs
same n [] = refl
same zero (x ∷ xs) = refl
same (suc n) (x ∷ xs) = ap (λ ys. x ∷ ys) (same n xs)

-- from a task nobody withdraws
pub from_task : (go : Orders Spot) (plan : Plan) (barrier : ℕ → Sight → Result Bool Raise) (m n : ℕ) (c : All Spot) → on_own n (effect.withdraws_from go plan barrier (owner.Task m)) c ≡ c
from_task go plan barrier m n c = ap (λ ts. record c { tasks = ts }) (same n c.tasks)

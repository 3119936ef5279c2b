-- Tasks that become abnormal, by their numbers, one after the other.
use Rattle.std.proofs.Common.{◌≡◌, ◌+◌, ◌<◌, ℕ, suc, List, [], ◌∷◌, ◌++◌, length, drop, map, get_or, Bool, true, false, Result, if◌then◌else◌, add-one, append_assoc, ap, sym, ◌∙◌}
use Rattle.std.proofs.lemmas.List.{at_drop_more}
use Rattle.aud_text.specs.declared.raise.Raise.{Raise}
use Rattle.aud_typed.specs.Tree.{Plan}
use Rattle.aud_meaning.specs.Evaluation.{Sight}
use Rattle.aud_meaning.specs.Orders.{Orders}
use Rattle.aud_meaning.specs.Tasks as effect
use Rattle.aud_code.specs.Places.{Spot}
use Rattle.aud_state.specs.declared.task.Task.{Task}
use Rattle.aud_state.specs.View.{plain_task}

module _ (go : Orders Spot) (plan : Plan) (barrier : ℕ → Sight → Result Bool Raise) (named bodies : List ℕ) where
  -- of these tasks, counted from a number on
  abbrev pub hit : ℕ → List Task → List ℕ
  hit n ts = effect.hit_from go plan barrier named bodies n (map plain_task ts)

  -- one of them more
  pub hit_more : (found : List ℕ) (ts : List Task) (n : ℕ) (x : Task) (b : Bool) → n < length ts → b ≡ effect.is_hit go plan barrier named bodies n (plain_task (get_or ts n x)).own →
      (if b then found ++ n ∷ [] else found) ++ hit (n + 1) (drop (n + 1) ts) ≡ found ++ hit n (drop n ts)
  hit_more found ts n x b within is =
      by b
      ∙ ap (λ d. found ++ (if d then n ∷ hit (suc n) rest else hit (suc n) rest)) is
      ∙ sym (at_drop_more (λ ys. found ++ hit n ys) ts n x within)
    where
      rest : List Task
      rest = drop (n + 1) ts

      by : (d : Bool) → (if d then found ++ n ∷ [] else found) ++ hit (n + 1) rest ≡ found ++ (if d then n ∷ hit (suc n) rest else hit (suc n) rest)
      by true = append_assoc found (n ∷ []) (hit (n + 1) rest) ∙ ap (λ k. found ++ (n ∷ hit k rest)) (add-one n)
      by false = ap (λ k. found ++ hit k rest) (add-one n)

-- Tasks that are created one after the other.
use Rattle.std.proofs.Common.{◌≡◌, ℕ, suc, ◌+◌, ◌-◌, ◌<◌, List, [], ◌∷◌, ◌++◌, map, Result, Bool, Some, ap, sym, ◌∙◌, arith}
use Rattle.std.proofs.lemmas.List.{append_assoc, map-append}
use Rattle.aud_text.specs.declared.raise.Raise.{Raise}
use Rattle.aud_typed.specs.Tree.{Plan, Tasks}
use Rattle.aud_meaning.specs.Configuration.{Own, TaskAt}
use Rattle.aud_meaning.specs.Evaluation.{Sight}
use Rattle.aud_meaning.specs.Orders.{Orders}
use Rattle.aud_meaning.specs.Parts.{nobody}
use Rattle.aud_meaning.specs.Tasks as effect
use Rattle.aud_meaning.specs.Ties.Part.{within_own}
use Rattle.aud_code.specs.Places.{Spot}
use Rattle.aud_sequential.specs.Parked.{Parked}
use Rattle.aud_state.specs.Condition.{Condition}
use Rattle.aud_state.specs.declared.task.Task.{Task}
use Rattle.aud_state.specs.View.{plain_task}

-- a task that has these, and nothing else
abbrev pub made : List ℕ → ℕ → ℕ → Parked → List ℕ → ℕ → Condition → TaskAt Spot
made name task_type unit p masters part c = record {
  control = p.control;
  own = within_own (record nobody { name = name; task_type = Some task_type; unit = unit; status = c.status; masters = masters; part = part; waits = c.waits; serving = c.serving; abnormal = c.abnormal }) p.pending p.stack;
}

module _ (go : Orders Spot) (plan : Plan) (barrier : ℕ → Sight → Result Bool Raise) (creator : Own) (ts : Tasks) where
  abbrev All : ℕ → ℕ → List (TaskAt Spot)
  All i n = effect.all_created go plan barrier creator ts i n

  pub created_more : (xs : List Task) (t : Task) (i n : ℕ) → i < n → plain_task t ≡ effect.created go plan barrier creator ts i → map plain_task (xs ++ t ∷ []) ++ All (i + 1) (n - (i + 1)) ≡ map plain_task xs ++ All i (n - i)
  created_more xs t i n within is =
      let left : n - i ≡ suc (n - (i + 1)) = omega (arith, within) in
      let next : i + 1 ≡ suc i = omega arith in
      ap (λ ys. ys ++ All (i + 1) (n - (i + 1))) (map-append plain_task xs (t ∷ []))
      ∙ append_assoc (map plain_task xs) (plain_task t ∷ []) (All (i + 1) (n - (i + 1)))
      ∙ ap (λ y. map plain_task xs ++ y ∷ All (i + 1) (n - (i + 1))) is
      ∙ ap (λ k. map plain_task xs ++ effect.created go plan barrier creator ts i ∷ All k (n - (i + 1))) next
      ∙ sym (ap (λ k. map plain_task xs ++ All i k) left)

  pub created_all : (xs : List (TaskAt Spot)) (i n : ℕ) → i ≡ n → xs ++ All i (n - i) ≡ xs ++ []
  created_all xs i n all =
      let none : n - i ≡ 0 = omega (arith, all) in
      ap (λ k. xs ++ All i k) none

-- Which objects are idle, and which tasks are to begin an action.
use Rattle.std.proofs.Common.{◌≡◌, ◌<◌, ◌≤◌, ◌+◌, ℕ, zero, suc, List, [], ◌∷◌, length, slice_get, slice_index_or, Some, true, refl, ap, subst, ◌∙◌, ⊎_elim, arith}
use Rattle.std.proofs.lemmas.Bool.{cases_lt}
use Rattle.aud_typed.specs.Tree.{Plan}
use Rattle.aud_meaning.specs.declared.state.Status.TheVariants.{Running}
use Rattle.aud_meaning.specs.Configuration.{Object, Own, TaskAt, All}
use Rattle.aud_meaning.specs.Parts.{is_idle, no_object, object_of, own_of, sight_of}
use Rattle.aud_code.specs.Flat.{Flat, coming_at}
use Rattle.aud_code.specs.Places.{Spot}
use Rattle.aud_state.specs.Reads.{coming_by}
use Rattle.aud_tasks.specs.Choices.{IsNoStart}
use Rattle.aud_tasks.specs.Running.{AreIdle, BeginsAlone}
use Rattle.aud_tasks.specs.Turning.{coming_in}
use Rattle.aud_tasks.proofs.StepLaws.Stepping.{own_there}

-- up to a number, and one more
pub one_more : (P : ℕ → Type 0) (n : ℕ) → ((k : ℕ) → k < n → P k) → P n → (k : ℕ) → k < n + 1 → P k
one_more P n so_far here k below =
    ⊎_elim (so_far k) (λ behind. let same : n ≡ k = omega (arith, below, behind) in subst P same here) (cases_lt k n)

module _ (c : All Spot) where
  -- the objects below a number are idle
  abbrev pub AreIdleBelow : ℕ → Type 0
  AreIdleBelow n = (k : ℕ) → k < n → is_idle (object_of k c) ≡ true

  idle_behind : (os : List Object) (k : ℕ) → length os ≤ k → is_idle (slice_index_or os k no_object) ≡ true
  idle_behind [] k past = refl
  idle_behind (o ∷ os) zero past = absurd (omega (arith, past))
  idle_behind (o ∷ os) (suc k) past = idle_behind os k (omega (arith, past))

  pub none_idle : AreIdleBelow 0
  none_idle k below = absurd (omega (arith, below))

  pub next_idle : (n : ℕ) → AreIdleBelow n → is_idle (object_of n c) ≡ true → AreIdleBelow (n + 1)
  next_idle n so_far here = one_more (λ k. is_idle (object_of k c) ≡ true) n so_far here

  pub all_idle : (n : ℕ) → length c.shared.objects ≤ n → AreIdleBelow n → AreIdle c
  all_idle n past below k = ⊎_elim (below k) (λ behind. idle_behind c.shared.objects k (omega (arith, past, behind))) (cases_lt k n)

module _ (plan : Plan) (code : Flat) (task : ℕ) (c : All Spot) where
  -- the task of a number is not another that is to begin an action
  abbrev BeginsNone : ℕ → Type 0
  BeginsNone k = (t : TaskAt Spot) → slice_get c.tasks k ≡ Some t → ¬ (k ≡ task) → t.own.status ≡ Running → IsNoStart (coming_at code plan t.own.pending (sight_of k c) t.control)

  -- those below a number are not
  abbrev pub BeginsAloneBelow : ℕ → Type 0
  BeginsAloneBelow n = (k : ℕ) → k < n → BeginsNone k

  pub none_begins : BeginsAloneBelow 0
  none_begins k below = absurd (omega (arith, below))

  pub own_begins : (n : ℕ) → BeginsAloneBelow n → n ≡ task → BeginsAloneBelow (n + 1)
  own_begins n so_far is = one_more BeginsNone n so_far (λ t at other. absurd (other is))

  pub next_begins : (n : ℕ) → BeginsAloneBelow n → ((own_of n c).status ≡ Running → IsNoStart (coming_in plan code n c)) → BeginsAloneBelow (n + 1)
  next_begins n so_far none = one_more BeginsNone n so_far (λ t at other runs.
      subst (λ o. IsNoStart (coming_by code plan (sight_of n c) o)) at
      (none (ap (λ (o : Own). o.status) (own_there c.tasks n t at) ∙ runs)))

  within : (ts : List (TaskAt Spot)) (k : ℕ) (t : TaskAt Spot) → slice_get ts k ≡ Some t → k < length ts
  within [] k t at = absurd cc
  within (u ∷ ts) zero t at = omega arith
  within (u ∷ ts) (suc k) t at = let h = within ts k t at in omega (arith, h)

  pub all_begin : (n : ℕ) → length c.tasks ≤ n → BeginsAloneBelow n → BeginsAlone plan code task c
  all_begin n past below k t at = let there = within c.tasks k t at in below k (omega (arith, past, there)) t at

-- Alternatives that are picked, and those that have a call.
use Rattle.std.proofs.Common.{◌≡◌, ℕ, List, [], ◌∷◌, Bool, true, false, cond, filter, find, Option, Some, None, Result, refl, ap, ◌∙◌}
use Rattle.aud_text.specs.declared.raise.Raise.{Raise}
use Rattle.aud_typed.specs.Tree.{Plan}
use Rattle.aud_meaning.specs.declared.state.OpenAccept.{OpenAccept}
use Rattle.aud_meaning.specs.Configuration.{All}
use Rattle.aud_meaning.specs.Control.{Seen}
use Rattle.aud_meaning.specs.Evaluation.{Sight}
use Rattle.aud_meaning.specs.Orders.{Orders}
use Rattle.aud_meaning.specs.Parts.{Waiting, queue}
use Rattle.aud_meaning.specs.Run.{has_queue}
use Rattle.aud_meaning.specs.Tasks as effect
use Rattle.aud_select.specs.Selecting.{has_call}

-- the first of those that pass accepts a call
module _ {C : Type 0} (go : Orders C) (plan : Plan) (barrier : ℕ → Sight → Result Bool Raise) where
  abbrev pub by_first : Option OpenAccept → ℕ → All C → All C
  by_first None n c = c
  by_first (Some o) n c = effect.accepts_call go plan barrier o n c

  picked_by : (b : Bool) (x : OpenAccept) (o : Option OpenAccept) (xs : List OpenAccept) (n : ℕ) (c : All C) → by_first o n c ≡ effect.selected_first go plan barrier xs n c → by_first (cond b (Some x) o) n c ≡ effect.selected_first go plan barrier (cond b (x ∷ xs) xs) n c
  picked_by true x o xs n c is = refl
  picked_by false x o xs n c is = is

  pub picked : (p : OpenAccept → Bool) (xs : List OpenAccept) (n : ℕ) (c : All C) → by_first (find p xs) n c ≡ effect.selected_first go plan barrier (filter p xs) n c
  picked p [] n c = refl
  picked p (x ∷ xs) n c = picked_by (p x) x (find p xs) (filter p xs) n c (picked p xs n c)

module _ (plan : Plan) (barrier : ℕ → Sight → Result Bool Raise) (n : ℕ) (c : All Seen) where
  has_by : (ws : List Waiting) (a : OpenAccept) → queue n a.entry c.shared.calls ≡ ws → has_call n c.shared.calls a ≡ has_queue plan barrier n c a
  has_by [] a is = rw is refl
  has_by (w ∷ ws) a is = rw is refl

  -- those that have a call
  pub called_same : (xs : List OpenAccept) → filter (has_call n c.shared.calls) xs ≡ filter (has_queue plan barrier n c) xs
  called_same [] = refl
  called_same (x ∷ xs) =
      ap (λ ys. cond (has_call n c.shared.calls x) (x ∷ ys) ys) (called_same xs)
      ∙ ap (λ b. cond b (x ∷ filter (has_queue plan barrier n c) xs) (filter (has_queue plan barrier n c) xs)) (has_by (queue n x.entry c.shared.calls) x refl)

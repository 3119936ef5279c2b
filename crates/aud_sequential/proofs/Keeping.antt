-- What a step of a task alone does not change.
use Rattle.std.proofs.Common.{◌≡◌, ℕ, ℤ, List, [], ◌∷◌, Bool, true, false, if◌then◌else◌, nat_le, suc, refl}
use Rattle.std.specs.Prelude.{int_le}
use Rattle.aud_text.specs.declared.limits.TheConstants.{FRAMES}
use Rattle.aud_text.specs.declared.place.Pos.{Pos}
use Rattle.aud_typed.specs.Tree.{UnitPlan}
use Rattle.aud_meaning.specs.Effects.{live_frames}
use Rattle.aud_meaning.specs.Step.{has_next}
use Rattle.aud_meaning.specs.Ties.Part.{Part, rest_of}
use Rattle.aud_code.specs.declared.line.Ending.{Ending}
use Rattle.aud_code.specs.declared.line.Ending.TheVariants.{Declare, DeclareArray, Null, Assign, Put, If, While, Loop, Exit, RaiseAgain, Block, Return, ReturnValue, Call, OwnCall}
use Rattle.aud_code.specs.declared.line.Ending.TheVariants as ending
use Rattle.aud_code.specs.declared.line.ForLoop.{ForLoop}
use Rattle.aud_code.specs.Places.{Spot}
use Rattle.aud_code.specs.Instruction.{Operands}
use Rattle.aud_code.specs.Flat.{Flat}
use Rattle.aud_store.specs.Ties.Stored.{innermost_cell}
use Rattle.aud_sequential.specs.Steps.{stored_in, continued, does, with_newest, with_two}

module _ (p : Part Spot) where
  abbrev Keeps : Part Spot → Type 0
  Keeps q = rest_of q ≡ rest_of p

  one_of : (b : Bool) (x y : Part Spot) → Keeps x → Keeps y → Keeps (if b then x else y)
  one_of true x y f g = f
  one_of false x y f g = g

  newest : {A : Type 0} (xs : List A) (go : A → Part Spot) → ((x : A) → Keeps (go x)) → Keeps (with_newest xs p go)
  newest [] go f = refl
  newest (x ∷ xs) go f = f x

  two : (zs : List ℤ) (go : ℤ → ℤ → Part Spot) → ((a b : ℤ) → Keeps (go a b)) → Keeps (with_two zs p go)
  two [] go f = refl
  two (y ∷ []) go f = refl
  two (y ∷ x ∷ zs) go f = f x y

  abbrev room : Bool
  room = nat_le (suc (live_frames p.stack.opened)) FRAMES

  pub does_keep : (units : List UnitPlan) (code : Flat) (e : Ending) (at : Pos) (next : ℕ) (x : Operands) → Keeps (does units code e at next x p)
  does_keep units code (Declare up_to again) at next x = newest x.integers _ (λ z. refl)
  does_keep units code (DeclareArray t n) at next x = refl
  does_keep units code Null at next x = refl
  does_keep units code Assign at next x = newest x.targets _ (λ t. newest x.integers _ (λ z. refl))
  does_keep units code Put at next x = refl
  does_keep units code (If inside) at next x = newest x.booleans _ (λ b. refl)
  does_keep units code (While inside) at next x = newest x.booleans _ (λ b. refl)
  does_keep units code (Loop f inside) at next x = two x.integers _ (λ a b. one_of (int_le a b) _ _ (one_of room _ _ refl refl) refl)
  does_keep units code (Exit way) at next x = newest x.booleans _ (λ b. one_of b _ _ refl refl)
  does_keep units code (ending.Raise y) at next x = refl
  does_keep units code RaiseAgain at next x = refl
  does_keep units code (Block region inside) at next x = one_of room _ _ refl refl
  does_keep units code (Return way) at next x = refl
  does_keep units code (ReturnValue way) at next x = newest x.integers _ (λ z. refl)
  does_keep units code (Call n) at next x = one_of room _ _ refl refl
  does_keep units code OwnCall at next x = refl

  pub continued_keeps : (f : ForLoop) (behind inside : ℕ) → Keeps (continued f behind inside p)
  continued_keeps f behind inside = one_of (has_next f.backward (innermost_cell 0 (stored_in p)) (innermost_cell 1 (stored_in p))) _ _ refl refl

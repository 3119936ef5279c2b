-- Loops over lists.
use Rattle.std.proofs.Common.{◌≡◌, ℕ, suc, ◌+◌, ◌<◌, ◌≤◌, List, [], ◌∷◌, length, drop, get_or, add-one, ap, sym, ◌∙◌, subst}
use Rattle.std.specs.Prelude.{map, Result, Ok, Err, IfOk}
use Rattle.std.proofs.Math.Seq.{drop-cons}
use Rattle.std.proofs.lemmas.List.{drop_all}

-- what a loop over a list has before it
pub dropped : {A : Type 0} (xs : List A) (i : ℕ) (x : A) → i < length xs → x ≡ get_or xs i x → drop i xs ≡ x ∷ drop (i + 1) xs
dropped xs i x h e = rw (add-one, drop-cons xs i x) (ap (λ z. z ∷ drop (suc i) xs) (sym e))

-- Trees that go on with a list, each item on what stands before it.
module _ {T X Y : Type 0} (all : T → List Y → T) (plain : X → Y) where
  -- a loop over the list has come to an index: something holds of the tree so far, of which the other items make the whole
  pub record SoFar (items : List X) (i : ℕ) (whole : T) (Holds : T → Type 0) : Type 0 where
    pub done : T
    pub holds : Holds done
    pub left : all done (map plain (drop i items)) ≡ whole

  pub loop_begins : (items : List X) (whole done : T) (Holds : T → Type 0) → Holds done → all done (map plain items) ≡ whole → SoFar items 0 whole Holds
  loop_begins items whole done Holds h e = record { done = done; holds = h; left = e }

  pub loop_goes_on : (more : T → Y → T) → ((d : T) (y : Y) (ys : List Y) → all d (y ∷ ys) ≡ all (more d y) ys) → (items : List X) (i : ℕ) (x : X) → i < length items → x ≡ get_or items i x → (whole : T) (Holds Next : T → Type 0) → ((d : T) → Holds d → Next (more d (plain x))) → SoFar items i whole Holds → SoFar items (i + 1) whole Next
  loop_goes_on more opens items i x h e whole Holds Next step s =
      record {
        done = more s.done (plain x);
        holds = step s.done s.holds;
        left = sym (opens s.done (plain x) (map plain (drop (i + 1) items))) ∙ ap (λ z. all s.done (map plain z)) (sym (dropped items i x h e)) ∙ s.left;
      }

  pub loop_ends : ((d : T) → all d [] ≡ d) → (items : List X) (i : ℕ) (whole : T) (Holds : T → Type 0) → length items ≤ i → SoFar items i whole Holds → Holds whole
  loop_ends ends items i whole Holds h s =
      subst Holds (sym (ends s.done) ∙ ap (λ z. all s.done (map plain z)) (sym (drop_all i items h)) ∙ s.left) s.holds

-- what holds where there is a value
pub if_ok : {T E : Type 0} (r : Result T E) {P Q : T → Type 0} → ((x : T) → P x → Q x) → IfOk r P → IfOk r Q
if_ok (Ok x) f h = f x h
if_ok (Err e) f h = tt

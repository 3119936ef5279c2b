-- Statements look at variables only through what is seen.
use Rattle.std.proofs.Common.{◌≡◌, ℕ, zero, suc, ℤ, pos, nat_abs, List, [], ◌∷◌, ◌++◌, length, slice_index_or, true, false, refl, sym, ap, ◌∙◌, subst, arith}
use Rattle.std.specs.Prelude.{if◌then◌else◌, not, Result, Ok, slice_index, int_le, ◌*◌}
use Rattle.std.proofs.Math.Path.{fun_ext}
use Rattle.aud_text.specs.declared.raise.Raise.{Raise}
use Rattle.aud_text.specs.Integer as integer
use Rattle.aud_typed.specs.declared.program.Variable.{Variable}
use Rattle.aud_typed.specs.Tree.{IntegerExpression, number, variable, element, unary, binary, count, Reference, scalar, component, TaskName, single, indexed, BooleanExpression, truth, stored, negation, relation, comparison, logical, and_then, or_else, callable, terminated, ValueExpression, whole, boolean, TextExpression, literal, image, image_truth, join, new_line, DelayExpression, milliseconds, seconds}
use Rattle.aud_meaning.specs.Configuration.{Frame}
use Rattle.aud_meaning.specs.Evaluation.{Facts, Sight, cell, number_in, with_value, evaluated, found, task_named, decided, value_of, text_of, delay_of, unary_of, binary_of, element_at, in_range, related, cell_of, truth_of, logical_of, image_of_truth}
use Rattle.aud_over.specs.Looks.{SeesSame, with_frames}

-- Frames that are the same where they are read.

-- behind the last frame nothing is read
pub behind_same : (fs gs : List Frame) (cells : Frame) → length fs ≡ length gs → (j : ℕ) → slice_index_or fs j [] ≡ slice_index_or gs j [] → slice_index_or (fs ++ cells ∷ []) j [] ≡ slice_index_or (gs ++ cells ∷ []) j []
behind_same [] [] cells e j h = refl
behind_same [] (g ∷ gs) cells e j h = absurd (let no : ⊥ = omega (arith, e) in no)
behind_same (f ∷ fs) [] cells e j h = absurd (let no : ⊥ = omega (arith, e) in no)
behind_same (f ∷ fs) (g ∷ gs) cells e zero h = h
behind_same (f ∷ fs) (g ∷ gs) cells e (suc j) h = behind_same fs gs cells (let z : length fs ≡ length gs = omega (arith, e) in z) j h

-- no frame has this number
pub past_end : (fs : List Frame) (j : ℕ) → length fs ≡ j → slice_index_or fs j [] ≡ []
past_end [] j e = refl
past_end (f ∷ fs) zero e = absurd (let no : ⊥ = omega (arith, e) in no)
past_end (f ∷ fs) (suc j) e = past_end fs j (let z : length fs ≡ j = omega (arith, e) in z)

pub at_levels : (holds : ℕ → Type 0) (ds : List ℕ) (n : ℕ) → holds 0 → holds n → ((level : ℕ) → holds (slice_index ds level)) → (level : ℕ) → holds (slice_index (ds ++ n ∷ []) level)
at_levels holds [] n z h g zero = h
at_levels holds [] n z h g (suc level) = z
at_levels holds (d ∷ ds) n z h g zero = g 0
at_levels holds (d ∷ ds) n z h g (suc level) = at_levels holds ds n z h (λ l. g (suc l)) level

no_level : (ds : List ℕ) → slice_index ds (length ds) ≡ 0
no_level [] = refl
no_level (d ∷ ds) = no_level ds

module _ (s : Sight) (fs : List Frame) (h : SeesSame s fs) where
  abbrev pub IsSame : ℕ → Type 0
  IsSame j = slice_index_or s.frames j [] ≡ slice_index_or fs j []

  pub first_same : IsSame 0
  first_same = subst IsSame (no_level s.display) (h.at (length s.display))

  pub new_same : IsSame (length s.frames)
  new_same = past_end s.frames (length s.frames) refl ∙ sym (past_end fs (length s.frames) (sym h.many))

-- with one frame more
abbrev pub extended : List ℤ → Sight → Sight
extended cells s = record s { display = s.display ++ length s.frames ∷ []; frames = s.frames ++ cells ∷ [] }

-- What expressions see.

pub record Alike (s t : Sight) : Type 0 where
  pub cells : (v : Variable) → cell v s ≡ cell v t
  pub facts : s.facts ≡ t.facts

pub alike : (s : Sight) (fs : List Frame) → SeesSame s fs → Alike s (with_frames fs s)
alike s fs h = record { cells = λ v. ap (λ f. slice_index_or f v.index (pos 0)) (h.at v.level); facts = refl }

abbrev extended_at : ℕ → List Frame → List ℤ → Sight → Sight
extended_at n fs cells s = record s { display = s.display ++ n ∷ []; frames = fs ++ cells ∷ [] }

pub alike_extended : (cells : List ℤ) (s : Sight) (fs : List Frame) → SeesSame s fs → Alike (extended cells s) (extended cells (with_frames fs s))
alike_extended cells s fs h = subst (λ n. Alike (extended cells s) (extended_at n fs cells s)) h.many (record {
  cells = λ v. ap (λ f. slice_index_or f v.index (pos 0)) (behind_same s.frames fs cells h.many (slice_index (s.display ++ length s.frames ∷ []) v.level)
      (at_levels (IsSame s fs h) s.display (length s.frames) (first_same s fs h) (new_same s fs h) h.at v.level));
  facts = refl;
})

pub then_same : {A B : Type 0} (r q : Result A Raise) (f g : A → Result B Raise) → r ≡ q → ((x : A) → f x ≡ g x) → with_value r f ≡ with_value q g
then_same r q f g e h = ap (λ x. with_value x f) e ∙ ap (with_value q) (fun_ext h)

module _ (s t : Sight) (a : Alike s t) where
  number_same : (v : Variable) → number_in v s ≡ number_in v t
  number_same v = ap nat_abs (a.cells v)

  pub evaluated_same : (e : IntegerExpression) → evaluated e s ≡ evaluated e t
  evaluated_same (number value) = refl
  evaluated_same (variable v) = ap Ok (a.cells v)
  evaluated_same (element x e) =
      then_same (evaluated e s) (evaluated e t) (λ i. with_value (element_at x i) (λ v. Ok (cell v s))) (λ i. with_value (element_at x i) (λ v. Ok (cell v t))) (evaluated_same e)
      (λ i. then_same (element_at x i) (element_at x i) (λ v. Ok (cell v s)) (λ v. Ok (cell v t)) refl (λ v. ap Ok (a.cells v)))
  evaluated_same (unary operator x) = ap (λ r. with_value r (λ z. unary_of operator z)) (evaluated_same x)
  evaluated_same (binary operator x y) =
      then_same (evaluated x s) (evaluated x t) (λ z. with_value (evaluated y s) (λ w. binary_of operator z w)) (λ z. with_value (evaluated y t) (λ w. binary_of operator z w)) (evaluated_same x)
      (λ z. ap (λ r. with_value r (λ w. binary_of operator z w)) (evaluated_same y))
  evaluated_same (count v entry) = ap (λ (f : Facts). Ok (pos (f.count (number_in v s) entry))) a.facts ∙ ap (λ n. Ok (pos (t.facts.count n entry))) (number_same v)

  pub found_same : (r : Reference) → found r s ≡ found r t
  found_same (scalar v y) = refl
  found_same (component x e y) = ap (λ r. with_value r (λ i. element_at x i)) (evaluated_same e)

  pub named_same : (n : TaskName) → task_named n s ≡ task_named n t
  named_same (single v) = ap Ok (number_same v)
  named_same (indexed x e) =
      then_same (evaluated e s) (evaluated e t) (λ i. with_value (element_at x i) (λ v. Ok (number_in v s))) (λ i. with_value (element_at x i) (λ v. Ok (number_in v t))) (evaluated_same e)
      (λ i. then_same (element_at x i) (element_at x i) (λ v. Ok (number_in v s)) (λ v. Ok (number_in v t)) refl (λ v. ap Ok (number_same v)))

  pub decided_same : (e : BooleanExpression) → decided e s ≡ decided e t
  decided_same (truth b) = refl
  decided_same (stored r) = then_same (found r s) (found r t) (λ v. Ok (truth_of (cell v s))) (λ v. Ok (truth_of (cell v t))) (found_same r) (λ v. ap (λ z. Ok (truth_of z)) (a.cells v))
  decided_same (negation x) = ap (λ r. with_value r (λ b. Ok (not b))) (decided_same x)
  decided_same (relation operator x y) =
      then_same (evaluated x s) (evaluated x t) (λ z. with_value (evaluated y s) (λ w. Ok (related operator z w))) (λ z. with_value (evaluated y t) (λ w. Ok (related operator z w))) (evaluated_same x)
      (λ z. ap (λ r. with_value r (λ w. Ok (related operator z w))) (evaluated_same y))
  decided_same (comparison operator x y) =
      then_same (decided x s) (decided x t) (λ z. with_value (decided y s) (λ w. Ok (related operator (cell_of z) (cell_of w)))) (λ z. with_value (decided y t) (λ w. Ok (related operator (cell_of z) (cell_of w)))) (decided_same x)
      (λ z. ap (λ r. with_value r (λ w. Ok (related operator (cell_of z) (cell_of w)))) (decided_same y))
  decided_same (logical operator x y) =
      then_same (decided x s) (decided x t) (λ z. with_value (decided y s) (λ w. Ok (logical_of operator z w))) (λ z. with_value (decided y t) (λ w. Ok (logical_of operator z w))) (decided_same x)
      (λ z. ap (λ r. with_value r (λ w. Ok (logical_of operator z w))) (decided_same y))
  decided_same (and_then x y) =
      then_same (decided x s) (decided x t) (λ z. if z then decided y s else Ok false) (λ z. if z then decided y t else Ok false) (decided_same x)
      (λ z. ap (λ r. if z then r else Ok false) (decided_same y))
  decided_same (or_else x y) =
      then_same (decided x s) (decided x t) (λ z. if z then Ok true else decided y s) (λ z. if z then Ok true else decided y t) (decided_same x)
      (λ z. ap (λ r. if z then Ok true else r) (decided_same y))
  decided_same (callable n) = then_same (task_named n s) (task_named n t) (λ i. Ok (s.facts.callable i)) (λ i. Ok (t.facts.callable i)) (named_same n) (λ i. ap (λ (f : Facts). Ok (f.callable i)) a.facts)
  decided_same (terminated n) = then_same (task_named n s) (task_named n t) (λ i. Ok (s.facts.terminated i)) (λ i. Ok (t.facts.terminated i)) (named_same n) (λ i. ap (λ (f : Facts). Ok (f.terminated i)) a.facts)

  pub value_same : (e : ValueExpression) → value_of e s ≡ value_of e t
  value_same (whole y e) = ap (λ r. with_value r (λ z. in_range y z)) (evaluated_same e)
  value_same (boolean e) = ap (λ r. with_value r (λ b. Ok (cell_of b))) (decided_same e)

  pub text_same : (e : TextExpression) → text_of e s ≡ text_of e t
  text_same (literal text) = refl
  text_same (image e) = ap (λ r. with_value r (λ z. Ok (integer.image z))) (evaluated_same e)
  text_same (image_truth e) = ap (λ r. with_value r (λ b. Ok (image_of_truth b))) (decided_same e)
  text_same (join x y) =
      then_same (text_of x s) (text_of x t) (λ z. with_value (text_of y s) (λ w. Ok (z ++ w))) (λ z. with_value (text_of y t) (λ w. Ok (z ++ w))) (text_same x)
      (λ z. ap (λ r. with_value r (λ w. Ok (z ++ w))) (text_same y))
  text_same new_line = refl

  pub delay_same : (e : DelayExpression) → delay_of e s ≡ delay_of e t
  delay_same (milliseconds n) = refl
  delay_same (seconds e) = ap (λ r. with_value r (λ z. Ok (if int_le z (pos 0) then 0 else nat_abs z * 1000))) (evaluated_same e)

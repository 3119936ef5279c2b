-- Which handler an exception finds.
use Rattle.std.proofs.Common.{◌≡◌, ◌+◌, ◌<◌, ◌||◌, ℕ, List, [], ◌∷◌, Bor, Bool, true, false, nat_eq, IfSome, Option, None, Some, if◌then◌else◌, map, refl, sym, ap, arith}
use Rattle.std.specs.List.{find, list_any}
use Rattle.std.specs.Option.{option_map, IsSomeAnd, MatchOption}
use Rattle.std.proofs.lemmas.Bool.{eq-eqb, eqb-true, false≢true}
use Rattle.aud_text.specs.declared.raise.Raise.{Raise}
use Rattle.aud_text.specs.declared.raise.Raise.TheVariants.{Constraint, Program, Storage, Tasking}
use Rattle.aud_typed.specs.declared.program.Exception.{Exception}
use Rattle.aud_typed.specs.declared.program.Exception.TheVariants.{Predefined, Declared}
use Rattle.aud_typed.specs.contracts.program.ExceptionPartialEq.TheImpl as in_memory
use Rattle.aud_meaning.specs.Items.{exception_number, names_it, raise_number}
use Rattle.aud_code.specs.declared.line.Guard.{Guard}
use Rattle.aud_code.specs.Places.{guarded}
use Rattle.aud_code.specs.Places as plain
use Rattle.aud_code.specs.Flat.{FlatLine}
use Rattle.aud_code.specs.Sound.{IsStart, GuardsStart}
use Rattle.aud_code.specs.View.{plain_guard}

-- as `==` compares them
abbrev equal : Exception → Exception → Bool
equal = (in_memory.ghosts).eq

by_truth : (a b : Bool) → (a ≡ true → b ≡ true) → (b ≡ true → a ≡ true) → a ≡ b
by_truth true b there back = sym (there refl)
by_truth false true there back = back refl
by_truth false false there back = refl

later : (m n : ℕ) → nat_eq n m ≡ nat_eq (4 + m) (4 + n)
later m n =
    by_truth _ _
    (λ e. let same = eqb-true n m e in eq-eqb (4 + m) (4 + n) (omega (arith, same)))
    (λ e. let same = eqb-true (4 + m) (4 + n) e in eq-eqb n m (omega (arith, same)))

differ : (m n : ℕ) → (m ≡ n → ⊥) → false ≡ nat_eq m n
differ m n h = by_truth _ _ (λ e. absurd (false≢true e)) (λ e. absurd (h (eqb-true m n e)))

is_predefined : (r : Raise) → raise_number r < 4
is_predefined Constraint = omega arith
is_predefined Program = omega arith
is_predefined Storage = omega arith
is_predefined Tasking = omega arith

same_raise : (q r : Raise) → equal (Predefined r) (Predefined q) ≡ nat_eq (raise_number q) (raise_number r)
same_raise Constraint Constraint = refl
same_raise Program Program = refl
same_raise Storage Storage = refl
same_raise Tasking Tasking = refl
same_raise q r = refl

same_number : (x y : Exception) → equal y x ≡ nat_eq (exception_number x) (exception_number y)
same_number (Declared m) (Declared n) = later m n
same_number (Declared m) (Predefined r) = differ (4 + m) (raise_number r) (λ e. let h = is_predefined r in omega (arith, e, h))
same_number (Predefined r) (Declared n) = differ (raise_number r) (4 + n) (λ e. let h = is_predefined r in omega (arith, e, h))
same_number (Predefined q) (Predefined r) = same_raise q r

pub named : (x : Exception) (ys : List Exception) → list_any (λ y. equal y x) ys ≡ names_it x ys
named x [] = refl
named x (y ∷ ys) = rw (same_number x y, named x ys) refl

abbrev pub handles : Exception → Guard → Bool
handles x g = g.others || names_it x g.choices.items

pub first_handling : (x : Exception) (gs : List Guard) → guarded x (map plain_guard gs) ≡ option_map (λ (g : Guard). g.to) (find (handles x) gs)
first_handling x [] = refl
first_handling x (g ∷ gs) = by (handles x g) (first_handling x gs) where
  by : (b : Bool) → guarded x (map plain_guard gs) ≡ option_map (λ (g : Guard). g.to) (find (handles x) gs) → (if b then Some g.to else guarded x (map plain_guard gs)) ≡ option_map (λ (g : Guard). g.to) (if b then Some g else find (handles x) gs)
  by true h = refl
  by false h = h

pub place_of : (P : Bor Guard → ℕ → Type 0) → ((g : Bor Guard) (n : ℕ) → P g n → g.now.to ≡ n) → (found : Option (Bor Guard)) (to : Option ℕ) → MatchOption found (to ≡ None) (λ g. IsSomeAnd to (P g)) → option_map (λ (g : Guard). g.to) (option_map (λ y. y.now) found) ≡ to
place_of P is None to e = sym e
place_of P is (Some g) None h = absurd h
place_of P is (Some g) (Some n) h = ap (λ (n : ℕ). Some n) (is g n h)

pub guarded_begins : (lines : List FlatLine) (x : Exception) (gs : List plain.Guard) → GuardsStart lines gs → IfSome (guarded x gs) (λ to. IsStart lines to)
guarded_begins lines x [] h = tt
guarded_begins lines x (g ∷ gs) h = by (g.others || names_it x g.choices) (guarded_begins lines x gs h.1) where
  by : (b : Bool) → IfSome (guarded x gs) (λ to. IsStart lines to) → IfSome (if b then Some g.to else guarded x gs) (λ to. IsStart lines to)
  by true later = h.0
  by false later = later

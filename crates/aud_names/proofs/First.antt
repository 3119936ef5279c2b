-- The least of some faults is the first of them.
use Rattle.std.specs.Prelude.{ℕ, Bool, true, false, ◌&&◌, ◌||◌, nat_eq, nat_lt, List, [], ◌∷◌, ◌⊎◌, if◌then◌else◌}
use Rattle.std.proofs.Common.{◌≡◌, ◌<◌, refl, sym, ◌∙◌, inl, inr, arith}
use Rattle.std.proofs.lemmas.Bool.{false≢true}
use Rattle.std.proofs.lemmas.Bool.Decides.{nat_tests}
use Rattle.aud_text.specs.Refusal.{number}
use Rattle.aud_fault.specs.declared.fault.Fault.{Fault}
use Rattle.aud_fault.specs.Least.{before, earlier, least, IsOneOf, NoneBefore}

abbrev less : ℕ → ℕ → ℕ → ℕ → ℕ → ℕ → Bool
less a b c d e f = (nat_lt a d || (nat_eq a d && nat_lt b e)) || ((nat_eq a d && nat_eq b e) && nat_lt c f)

abbrev Less : ℕ → ℕ → ℕ → ℕ → ℕ → ℕ → Type 0
Less a b c d e f = (a < d) ⊎ ((a ≡ d) × ((b < e) ⊎ ((b ≡ e) × (c < f))))

less_is : (a b c d e f : ℕ) → less a b c d e f ≡ true → Less a b c d e f
less_is a b c d e f p = grind (arith, nat_tests)

is_less : (a b c d e f : ℕ) → Less a b c d e f → less a b c d e f ≡ true
is_less a b c d e f p = grind (arith, nat_tests)

both : (a b c d e f g h i : ℕ) → Less a b c d e f → Less d e f g h i → Less a b c g h i
both a b c d e f g h i (inl p) (inl q) = inl (omega arith)
both a b c d e f g h i (inl p) (inr (m, q)) = inl (omega arith)
both a b c d e f g h i (inr (l, p)) (inl q) = inl (omega arith)
both a b c d e f g h i (inr (l, inl p)) (inr (m, inl q)) = inr (l ∙ m, inl (omega arith))
both a b c d e f g h i (inr (l, inl p)) (inr (m, inr (n, q))) = inr (l ∙ m, inl (omega arith))
both a b c d e f g h i (inr (l, inr (k, p))) (inr (m, inl q)) = inr (l ∙ m, inl (omega arith))
both a b c d e f g h i (inr (l, inr (k, p))) (inr (m, inr (n, q))) = inr (l ∙ m, inr (k ∙ n, omega arith))

less_trans : (a b c d e f g h i : ℕ) → less a b c d e f ≡ true → less d e f g h i ≡ true → less a b c g h i ≡ true
less_trans a b c d e f g h i p q = is_less a b c g h i (both a b c d e f g h i (less_is a b c d e f p) (less_is d e f g h i q))

less_not : (a b c : ℕ) → less a b c a b c ≡ false
less_not a b c = grind (arith, nat_tests)

before_trans : (x y z : Fault) → before x y ≡ true → before y z ≡ true → before x z ≡ true
before_trans x y z p q = less_trans x.at.line x.at.col (number x.refusal) y.at.line y.at.col (number y.refusal) z.at.line z.at.col (number z.refusal) p q

before_not : (x : Fault) → before x x ≡ false
before_not x = less_not x.at.line x.at.col (number x.refusal)

not_true : (b : Bool) → (b ≡ true → ⊥) → b ≡ false
not_true true k = absurd (k refl)
not_true false k = refl

still_at : (b : Bool) (x f g : Fault) → before g f ≡ b → before x f ≡ false → before x (if b then g else f) ≡ false
still_at false x f g e h = h
still_at true x f g e h = not_true (before x g) (λ k. false≢true (sym h ∙ before_trans x g f k e))

still : (x f g : Fault) → before x f ≡ false → before x (earlier f g) ≡ false
still x f g h = still_at (before g f) x f g refl h

other_at : (b : Bool) (f g : Fault) → before g f ≡ b → before g (if b then g else f) ≡ false
other_at false f g e = e
other_at true f g e = before_not g

other : (f g : Fault) → before g (earlier f g) ≡ false
other f g = other_at (before g f) f g refl

keeps : (x f : Fault) (fs : List Fault) → before x f ≡ false → before x (least f fs) ≡ false
keeps x f [] h = h
keeps x f (g ∷ gs) h = keeps x (earlier f g) gs (still x f g h)

others : (f : Fault) (fs : List Fault) → NoneBefore (least f fs) fs
others f [] = tt
others f (g ∷ gs) = (keeps g (earlier f g) gs (other f g), others (earlier f g) gs)

pub none_before : (f : Fault) (fs : List Fault) → NoneBefore (least f fs) (f ∷ fs)
none_before f fs = (keeps f f fs (before_not f), others f fs)

one_at : (b : Bool) (x f g : Fault) (gs : List Fault) → IsOneOf x ((if b then g else f) ∷ gs) → IsOneOf x (f ∷ g ∷ gs)
one_at true x f g gs h = inr h
one_at false x f g gs (inl e) = inl e
one_at false x f g gs (inr h) = inr (inr h)

pub one_of : (f : Fault) (fs : List Fault) → IsOneOf (least f fs) (f ∷ fs)
one_of f [] = inl refl
one_of f (g ∷ gs) = one_at (before g f) (least (earlier f g) gs) f g gs (one_of (earlier f g) gs)

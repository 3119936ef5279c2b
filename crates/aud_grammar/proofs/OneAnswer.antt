-- Of the answers to a list of tokens one is right.
use Rattle.std.proofs.Common.{◌≡◌, ℕ, ◌+◌, ◌<◌, ◌≤◌, List, [], ◌∷◌, ◌++◌, take, drop, sym, ap, ◌∙◌, subst, ⊎_elim, arith, append_assoc, take-append-drop, Ok, Err}
use Rattle.std.specs.Prelude.{Result}
use Rattle.std.proofs.lemmas.List.{take-take}
use Rattle.std.proofs.Math.Nat.{eq-or-lt_of_le}
use Rattle.std.proofs.lemmas.Bool.{cases_lt, cases_order}
use Rattle.aud_text.specs.declared.limits.TheConstants.{LEVELS}
use Rattle.aud_lex.specs.Element.{Element}
use Rattle.aud_syntax.specs.Plain as m
use Rattle.aud_grammar.specs.Grammar as g
use Rattle.aud_grammar.specs.Grammar.{N}
use Rattle.aud_grammar.specs.Parsed.{Fault, wrong_at, deep_at}
use Rattle.aud_grammar.specs.Why.Derives.{Derives, Viable}
use Rattle.aud_grammar.specs.Why.Spells.{Spells}
use Rattle.aud_grammar.specs.Why.Begun.{Within}
use Rattle.aud_grammar.specs.Why.Laws.{SyntaxFaultAt, LevelFaultAt, IsRight}
use Rattle.aud_grammar.proofs.Ways.{begun_take, derives_begun}
use Rattle.aud_grammar.proofs.Spelled.{one_tree}

-- fronts of fronts

within_less : (ts : List Element) (i j : ℕ) → i ≤ j → Within LEVELS (take j ts) → Within LEVELS (take i ts)
within_less ts i j le w = subst (λ z. Within LEVELS z) (take-take i j ts le) (begun_take w i)

split_front : (ts : List Element) (i j : ℕ) → i ≤ j → take i ts ++ drop i (take j ts) ≡ take j ts
split_front ts i j le = ap (λ z. z ++ drop i (take j ts)) (sym (take-take i j ts le)) ∙ take-append-drop i (take j ts)

viable_less : (ts : List Element) (i j : ℕ) → i ≤ j → Viable g.Unit (take j ts) → Viable g.Unit (take i ts)
viable_less ts i j le v =
    let d = v.1 in
    let e : take j ts ++ d.1 ≡ take i ts ++ (drop i (take j ts) ++ d.1) = ap (λ z. z ++ d.1) (sym (split_front ts i j le)) ∙ append_assoc (take i ts) (drop i (take j ts)) d.1 in
    (v.0, (d.0, drop i (take j ts) ++ d.1, subst (λ z. Derives (N g.Unit ∷ []) v.0 d.0 z) e d.2))

spelled_viable : (ts : List Element) (t : m.Unit) (i : ℕ) → Spells ts t → Viable g.Unit (take i ts)
spelled_viable ts t i s = (LEVELS, (s.0, drop i ts, subst (λ z. Derives (N g.Unit ∷ []) LEVELS s.0 z) (sym (take-append-drop i ts)) s.1))

spelled_within : (ts : List Element) (t : m.Unit) (i : ℕ) → Spells ts t → Within LEVELS (take i ts)
spelled_within ts t i s = begun_take (derives_begun s.1) i

-- no two of the three are right

tree_or_wrong : (ts : List Element) (t : m.Unit) (i : ℕ) → Spells ts t → SyntaxFaultAt ts i → ⊥
tree_or_wrong ts t i s h = ⊎_elim (λ e. h.1.2 e LEVELS s.0 s.1) (λ lt. h.1.1 lt (spelled_viable ts t (i + 1) s)) (eq-or-lt_of_le h.0)

tree_or_deep : (ts : List Element) (t : m.Unit) (i : ℕ) → Spells ts t → LevelFaultAt ts i → ⊥
tree_or_deep ts t i s h = h.3 (spelled_within ts t (i + 1) s)

wrong_or_deep : (ts : List Element) (i j : ℕ) → SyntaxFaultAt ts i → LevelFaultAt ts j → ⊥
wrong_or_deep ts i j h k =
    ⊎_elim (λ lt. k.3 (within_less ts (j + 1) i (omega arith) h.2)) (λ le. h.1.1 (omega (arith, k.0)) (viable_less ts (i + 1) (j + 1) (omega arith) k.1)) (cases_lt j i)

wrong_before : (ts : List Element) (i j : ℕ) → SyntaxFaultAt ts i → SyntaxFaultAt ts j → i < j → ⊥
wrong_before ts i j h k lt = h.1.1 (omega (arith, k.0)) (viable_less ts (i + 1) j (omega arith) k.1.0)

deep_before : (ts : List Element) (i j : ℕ) → LevelFaultAt ts i → LevelFaultAt ts j → i < j → ⊥
deep_before ts i j h k lt = h.3 (within_less ts (i + 1) j (omega arith) k.2)

one_place : (P : ℕ → Type 0) → ((i j : ℕ) → P i → P j → i < j → ⊥) → (i j : ℕ) → P i → P j → i ≡ j
one_place P before i j h k = ⊎_elim (λ e. e) (λ o. ⊎_elim (λ lt. absurd (before i j h k lt)) (λ lt. absurd (before j i k h lt)) o) (cases_order i j)

pub one_answer : (ts : List Element) (a b : Result m.Unit Fault) → IsRight ts a → IsRight ts b → a ≡ b
one_answer ts (Ok t) (Ok u) h k = ap (λ z. Ok z) (one_tree ts t u h k)
one_answer ts (Ok t) (Err (wrong_at j)) h k = absurd (tree_or_wrong ts t j h k)
one_answer ts (Ok t) (Err (deep_at j)) h k = absurd (tree_or_deep ts t j h k)
one_answer ts (Err (wrong_at i)) (Ok u) h k = absurd (tree_or_wrong ts u i k h)
one_answer ts (Err (wrong_at i)) (Err (wrong_at j)) h k = ap (λ z. Err (wrong_at z)) (one_place (SyntaxFaultAt ts) (wrong_before ts) i j h k)
one_answer ts (Err (wrong_at i)) (Err (deep_at j)) h k = absurd (wrong_or_deep ts i j h k)
one_answer ts (Err (deep_at i)) (Ok u) h k = absurd (tree_or_deep ts u i k h)
one_answer ts (Err (deep_at i)) (Err (wrong_at j)) h k = absurd (wrong_or_deep ts j i k h)
one_answer ts (Err (deep_at i)) (Err (deep_at j)) h k = ap (λ z. Err (deep_at z)) (one_place (LevelFaultAt ts) (deep_before ts) i j h k)

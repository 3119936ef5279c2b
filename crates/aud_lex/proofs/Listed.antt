-- Spellings in a table: what is found there, and what the table has.
use Rattle.std.proofs.Common.{◌≡◌, ◌⊎◌, ℕ, zero, suc, ◌<◌, List, [], ◌∷◌, length, Bool, true, false, not, ◌&&◌, ◌||◌, refl, ap, ◌∙◌, sym, subst, arith, inl, inr, ⊎_elim}
use Rattle.std.proofs.lemmas.Bool.{and_parts, true≢false, not-true}
use Rattle.std.specs.Prelude.{slice_index_or, if◌then◌else◌}
use Rattle.std.specs.List.{list_all, Contains}
use Rattle.aud_lex.specs.declared.token.Kind.{Kind}
use Rattle.aud_lex.specs.Kinds.{Spelled, spelled}
use Rattle.std.specs.Str.{bytes_eq}
use Rattle.std.proofs.lemmas.Slice.Eq.{bytes_eq-Decides}
use Rattle.aud_lex.specs.Tokens.{found}

pub first_listed : (e : Spelled) (es : List Spelled) → Contains (e ∷ es) e
first_listed e es = (0, omega arith, refl)

pub later_listed : (f e : Spelled) (es : List Spelled) → Contains es e → Contains (f ∷ es) e
later_listed f e es h = (suc h.0, omega (arith, h.1), h.2)

listed_at : (f e : Spelled) (es : List Spelled) (k : ℕ) → k < length (f ∷ es) → slice_index_or (f ∷ es) k e ≡ e → (f ≡ e) ⊎ Contains es e
listed_at f e es zero l h = inl h
listed_at f e es (suc k) l h = inr (k, omega arith, h)

uncons : (f e : Spelled) (es : List Spelled) → Contains (f ∷ es) e → (f ≡ e) ⊎ Contains es e
uncons f e es h = listed_at f e es h.0 h.1 h.2

none_listed : (e : Spelled) → Contains [] e → ⊥
none_listed e h = absurd (omega (arith, h.1))

same_itself : (xs : List ℕ) → bytes_eq xs xs ≡ true
same_itself xs = (bytes_eq-Decides xs xs).1 refl

same_are : (xs ys : List ℕ) → bytes_eq xs ys ≡ true → xs ≡ ys
same_are xs ys e = (bytes_eq-Decides xs ys).0 e

-- the spelling stands in the table as this kind, or as none
abbrev pub IsFound : List Spelled → List ℕ → Kind → Kind → Type 0
IsFound table text default k = Contains table (spelled text k) ⊎ ((k ≡ default) × ((l : Kind) → Contains table (spelled text l) → ⊥))

pub found_or_not : (table : List Spelled) (text : List ℕ) (default : Kind) → IsFound table text default (found table text default)
found_or_not [] text default = inr (refl, λ k h. none_listed (spelled text k) h)
found_or_not (f ∷ table) text default = under (bytes_eq f.bytes text) refl (found_or_not table text default)
  where
    under : (t : Bool) → bytes_eq f.bytes text ≡ t → IsFound table text default (found table text default) → IsFound (f ∷ table) text default (if t then f.kind else found table text default)
    under true e r = inl (subst (λ z. Contains (f ∷ table) (spelled z f.kind)) (same_are f.bytes text e) (first_listed f table))
    under false e r = ⊎_elim
        (λ h. inl (later_listed f (spelled text (found table text default)) table h))
        (λ h. inr (
          h.0,
          λ k l. ⊎_elim
              (λ g. true≢false (sym (same_itself text) ∙ ap (λ x. bytes_eq x.bytes text) (sym g) ∙ e))
              (h.1 k) (uncons f (spelled text k) table l),
        )) r

-- whether each spelling stands in the table once
abbrev pub are_distinct : List Spelled → Bool
are_distinct [] = true
are_distinct (f ∷ table) = list_all (λ e. not (bytes_eq f.bytes e.bytes)) table && are_distinct table

pub all_at : (test : Spelled → Bool) (table : List Spelled) (e : Spelled) → list_all test table ≡ true → Contains table e → test e ≡ true
all_at test [] e a h = absurd (none_listed e h)
all_at test (f ∷ table) e a h =
    let k = and_parts (test f) (list_all test table) a in
    ⊎_elim (λ g. subst (λ z. test z ≡ true) g k.0) (all_at test table e k.1) (uncons f e table h)

pub found_listed : (table : List Spelled) (e : Spelled) (default : Kind) → are_distinct table ≡ true → Contains table e → found table e.bytes default ≡ e.kind
found_listed [] e default d h = absurd (none_listed e h)
found_listed (f ∷ table) e default d h = ⊎_elim here (λ l. later l (found_listed table e default k.1 l)) (uncons f e table h)
  where
    k : (list_all (λ e. not (bytes_eq f.bytes e.bytes)) table ≡ true) × (are_distinct table ≡ true)
    k = and_parts (list_all (λ e. not (bytes_eq f.bytes e.bytes)) table) (are_distinct table) d

    here : f ≡ e → found (f ∷ table) e.bytes default ≡ e.kind
    here g = subst (λ z. found (f ∷ table) z.bytes default ≡ z.kind) g (ap (λ t. if t then f.kind else found table f.bytes default) (same_itself f.bytes))

    later : Contains table e → found table e.bytes default ≡ e.kind → found (f ∷ table) e.bytes default ≡ e.kind
    later l r = ap (λ t. if t then f.kind else found table e.bytes default)
        (not-true (bytes_eq f.bytes e.bytes) (all_at (λ e. not (bytes_eq f.bytes e.bytes)) table e k.0 l)) ∙ r

pub none_found : (table : List Spelled) (text : List ℕ) (default : Kind) → ((k : Kind) → Contains table (spelled text k) → ⊥) → found table text default ≡ default
none_found table text default n = ⊎_elim (λ h. absurd (n (found table text default) h)) (λ h. h.0) (found_or_not table text default)

abbrev pub is_listed : List Spelled → List ℕ → Bool
is_listed [] text = false
is_listed (f ∷ table) text = bytes_eq f.bytes text || is_listed table text

pub listed : (table : List Spelled) (text : List ℕ) (default : Kind) → is_listed table text ≡ true → Contains table (spelled text (found table text default))
listed [] text default e = cc
listed (f ∷ table) text default e = under (bytes_eq f.bytes text) refl (listed table text default) e
  where
    under : (t : Bool) → bytes_eq f.bytes text ≡ t → (is_listed table text ≡ true → Contains table (spelled text (found table text default))) →
        (t || is_listed table text) ≡ true → Contains (f ∷ table) (spelled text (if t then f.kind else found table text default))
    under true g h i = subst (λ z. Contains (f ∷ table) (spelled z f.kind)) (same_are f.bytes text g) (first_listed f table)
    under false g h i = later_listed f (spelled text (found table text default)) table (h i)

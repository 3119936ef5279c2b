-- Where a journal parts from the stored requests.
use Rattle.std.specs.Prelude.{if◌then◌else◌}
use Rattle.std.proofs.Common.{◌≡◌, ℕ, ◌+◌, ◌<◌, ◌≤◌, List, [], ◌∷◌, length, drop, get_or, Option, Some, None, true, false, refl, sym, ap, ◌∙◌, arith, length-drop}
use Rattle.std.proofs.lemmas.List.{drop_more, drop_all}
use Rattle.aud_bench.specs.declared.request.Request.{Request}
use Rattle.aud_bench.specs.Same.{same_request}
use Rattle.aud_hall.specs.Numbered.{one_on}
use Rattle.aud_hall.specs.CheckIns.{first_difference}

-- a place, counted from this one on
abbrev pub on_by : ℕ → Option ℕ → Option ℕ
on_by n None = None
on_by n (Some k) = Some (n + k)

one_more : (n : ℕ) (o : Option ℕ) → on_by n (one_on o) ≡ on_by (n + 1) o
one_more n None = refl
one_more n (Some k) = ap (λ m. Some m) (omega arith)

pub on_by_none : (o : Option ℕ) → o ≡ on_by 0 o
on_by_none None = refl
on_by_none (Some k) = ap (λ m. Some m) (omega arith)

next_one : (xs : List Request) (i : ℕ) (x : Request) → i < length xs → x ≡ get_or xs i x → drop i xs ≡ x ∷ drop (i + 1) xs
next_one xs i x below is = drop_more xs i x below ∙ ap (λ y. y ∷ drop (i + 1) xs) (sym is)

module _ (journal requests : List Request) (i : ℕ) (below : i < length journal) where
  -- the requests end there
  pub ends_there : length requests ≤ i → first_difference (drop i journal) (drop i requests) ≡ Some 0
  ends_there none = by (drop i journal) (omega (arith, below, length-drop i journal))
    where
      by : (xs : List Request) → 1 ≤ length xs → first_difference xs (drop i requests) ≡ Some 0
      by [] some = absurd (omega (arith, some))
      by (x ∷ xs) some = ap (first_difference (x ∷ xs)) (drop_all i requests none)

  module _ (x r : Request) (is : x ≡ get_or journal i x) (too : i < length requests) (other : r ≡ get_or requests i r) where
    both : first_difference (drop i journal) (drop i requests) ≡ (if same_request x r then one_on (first_difference (drop (i + 1) journal) (drop (i + 1) requests)) else Some 0)
    both = ap (λ xs. first_difference xs (drop i requests)) (next_one journal i x below is) ∙ ap (first_difference (x ∷ drop (i + 1) journal)) (next_one requests i r too other)

    pub differs_there : same_request x r ≡ false → first_difference (drop i journal) (drop i requests) ≡ Some 0
    differs_there e = both ∙ ap (λ c. if c then one_on (first_difference (drop (i + 1) journal) (drop (i + 1) requests)) else Some 0) e

    pub agrees_there : same_request x r ≡ true → on_by i (first_difference (drop i journal) (drop i requests)) ≡ on_by (i + 1) (first_difference (drop (i + 1) journal) (drop (i + 1) requests))
    agrees_there e =
        ap (on_by i) (both ∙ ap (λ c. if c then one_on (first_difference (drop (i + 1) journal) (drop (i + 1) requests)) else Some 0) e)
        ∙ one_more i (first_difference (drop (i + 1) journal) (drop (i + 1) requests))

-- up to the journal's end they agree
pub agrees_all : (journal requests : List Request) (i : ℕ) → length journal ≤ i → first_difference (drop i journal) (drop i requests) ≡ None
agrees_all journal requests i all = ap (λ xs. first_difference xs (drop i requests)) (drop_all i journal all)

-- Numbers of frames that are placed among those that are seen, and those that come back.
use Rattle.std.proofs.Common.{◌≡◌, Option, Some, None, ℕ, zero, suc, ◌-◌, ◌≤◌, List, [], ◌∷◌, ◌++◌, ◌+◌, drop, length, min, take, refl, ap, sym, ◌∙◌, arith}
use Rattle.std.specs.Prelude.{slice_get}
use Rattle.std.proofs.lemmas.List.{drop_at, length-append, length-set, take_all, take_at}
use Rattle.std.proofs.lemmas.Option.{slice_get_within}
use Rattle.aud_store.specs.declared.purpose.Purpose.{Purpose}
use Rattle.aud_store.specs.declared.purpose.Purpose.TheVariants.{Accept, Body, Block, Entry, Loop, Operation, Procedure}
use Rattle.aud_store.specs.Ties.Display.{Display, seen, end_of, put_by, placed, set_apart, stands, stands_apart, without_last, put_back}
use Rattle.aud_store.specs.Ties.Stored.{kept_by, kept_of}

-- The first ones, with another one behind them.

taken : (xs : List ℕ) (n x : ℕ) → n ≤ length xs → take (suc n) (put_by (slice_get xs n) n x xs) ≡ take n xs ++ x ∷ []
taken [] zero x h = refl
taken [] (suc n) x h = absurd (omega (arith, h))
taken (y ∷ ys) zero x h = refl
taken (y ∷ ys) (suc n) x h = by (slice_get ys n) refl (taken ys n x (omega (arith, h)))
  where
    by : (o : Option ℕ) → slice_get ys n ≡ o → take (suc n) (put_by (slice_get ys n) n x ys) ≡ take n ys ++ x ∷ [] → take (suc (suc n)) (put_by (slice_get ys n) (suc n) x (y ∷ ys)) ≡ y ∷ (take n ys ++ x ∷ [])
    by None e h = rw e (ap (λ zs. y ∷ zs) (rw e at h))
    by (Some z) e h = rw e (ap (λ zs. y ∷ zs) (rw e at h))

-- behind those of a base, up to this place
taken_behind : (b n m x : ℕ) (xs : List ℕ) → m ≡ b + n → m ≤ length xs → take (suc n) (drop b (put_by (slice_get xs m) m x xs)) ≡ take n (drop b xs) ++ x ∷ []
taken_behind zero n m x xs is h = let e : m ≡ n = omega (arith, is) in rw e (taken xs n x (omega (arith, is, h)))
taken_behind (suc b) n zero x xs is h = absurd (omega (arith, is))
taken_behind (suc b) n (suc m) x [] is h = absurd (omega (arith, h))
taken_behind (suc b) n (suc m) x (y ∷ ys) is h = by (slice_get ys m) refl (taken_behind b n m x ys (omega (arith, is)) (omega (arith, h)))
  where
    by : (o : Option ℕ) → slice_get ys m ≡ o → take (suc n) (drop b (put_by (slice_get ys m) m x ys)) ≡ take n (drop b ys) ++ x ∷ [] → take (suc n) (drop (suc b) (put_by (slice_get ys m) (suc m) x (y ∷ ys))) ≡ take n (drop b ys) ++ x ∷ []
    by None e more = rw e (rw e at more)
    by (Some z) e more = rw e (rw e at more)

-- fewer of the first ones
pub take_min : (xs : List ℕ) (n k : ℕ) → take (min k n) xs ≡ take k (take n xs)
take_min xs n zero = let none : min zero n ≡ zero = omega arith in rw none refl
take_min xs zero (suc k) = let none : min (suc k) zero ≡ zero = omega arith in rw none (refl)
take_min [] (suc n) (suc k) = let more : min (suc k) (suc n) ≡ suc (min k n) = omega arith in rw more refl
take_min (x ∷ xs) (suc n) (suc k) = let more : min (suc k) (suc n) ≡ suc (min k n) = omega arith in rw more (ap (λ ys. x ∷ ys) (take_min xs n k))

kept_so : (p : Purpose) (d : Display) (s : List ℕ) → seen d ≡ s → take (kept_of p d.count) (drop d.base d.numbers) ≡ kept_by p s
kept_so Body d s is = is
kept_so Block d s is = is
kept_so Loop d s is = is
kept_so (Accept call) d s is = is
kept_so (Entry object call served resumed) d s is = is
kept_so (Operation object r) d s is = is
kept_so (Procedure level r) d s is = take_min (drop d.base d.numbers) d.count level ∙ ap (take level) is

pub kept_few : (p : Purpose) (n : ℕ) → kept_of p n ≤ n
kept_few Body n = omega arith
kept_few Block n = omega arith
kept_few Loop n = omega arith
kept_few (Accept call) n = omega arith
kept_few (Entry object call served resumed) n = omega arith
kept_few (Operation object r) n = omega arith
kept_few (Procedure level r) n = omega arith

-- what is seen once a frame is placed
pub seen_placed : (p : Purpose) (frame : ℕ) (d : Display) → end_of d ≤ length d.numbers → seen (placed (kept_of p d.count) frame d) ≡ kept_by p (seen d) ++ frame ∷ []
seen_placed p frame d fits =
    let kept = kept_of p d.count in
    taken_behind d.base kept (d.base + kept) frame d.numbers refl (omega (arith, kept_few p d.count, fits)) ∙ ap (λ xs. xs ++ frame ∷ []) (kept_so p d (seen d) refl)

-- and once it is set apart
pub seen_apart : (numbers : List ℕ) (frame : ℕ) (d : Display) → seen (set_apart numbers frame d) ≡ numbers ++ frame ∷ []
seen_apart numbers frame d =
    let all = numbers ++ frame ∷ [] in
    ap (take (suc (length numbers))) (drop_at d.numbers all (length d.numbers) refl)
    ∙ take_all (suc (length numbers)) all (omega (arith, length-append numbers (frame ∷ [])))

one_more : (o : Option ℕ) (n x : ℕ) (xs : List ℕ) → o ≡ slice_get xs n → n ≤ length xs → suc n ≤ length (put_by o n x xs)
one_more None n x xs is h = omega (arith, h, length-append xs (x ∷ []))
one_more (Some z) n x xs is h = omega (arith, slice_get_within xs n z (sym is), length-set xs n x)

-- so many numbers are there
pub placed_within : (p : Purpose) (frame : ℕ) (d : Display) → end_of d ≤ length d.numbers → end_of (placed (kept_of p d.count) frame d) ≤ length (placed (kept_of p d.count) frame d).numbers
placed_within p frame d fits =
    let at = d.base + kept_of p d.count in
    omega (arith, one_more (slice_get d.numbers at) at frame d.numbers refl (omega (arith, kept_few p d.count, fits)))

pub apart_within : (numbers : List ℕ) (frame : ℕ) (d : Display) → end_of (set_apart numbers frame d) ≤ length (set_apart numbers frame d).numbers
apart_within numbers frame d = omega (arith, length-append d.numbers (numbers ++ frame ∷ []), length-append numbers (frame ∷ []))

-- What stood there comes back.

without : (xs : List ℕ) (n x : ℕ) → n ≤ length xs → without_last (slice_get xs n) (suc n) (put_by (slice_get xs n) n x xs) ≡ xs
without [] zero x h = refl
without [] (suc n) x h = absurd (omega (arith, h))
without (y ∷ ys) zero x h = refl
without (y ∷ ys) (suc n) x h = by (slice_get ys n) refl (without ys n x (omega (arith, h)))
  where
    last_gone : (ys : List ℕ) (x y : ℕ) → take (length (y ∷ (ys ++ x ∷ [])) - 1) (y ∷ (ys ++ x ∷ [])) ≡ y ∷ ys
    last_gone ys x y = take_at (y ∷ ys) (x ∷ []) (length (y ∷ (ys ++ x ∷ [])) - 1) (omega (arith, length-append ys (x ∷ [])))

    by : (o : Option ℕ) → slice_get ys n ≡ o → without_last (slice_get ys n) (suc n) (put_by (slice_get ys n) n x ys) ≡ ys → without_last (slice_get ys n) (suc (suc n)) (put_by (slice_get ys n) (suc n) x (y ∷ ys)) ≡ y ∷ ys
    by None e h = rw e (last_gone ys x y)
    by (Some z) e h = let less : suc (suc n) - 1 ≡ suc n = omega arith in let one : suc n - 1 ≡ n = omega arith in rw (e, less) (ap (λ zs. y ∷ zs) (rw (e, one) at h))

pub back_again : (p : Purpose) (frame : ℕ) (d : Display) → end_of d ≤ length d.numbers → put_back (stands (kept_of p d.count) d) (placed (kept_of p d.count) frame d) ≡ d
back_again p frame d fits =
    let at = d.base + kept_of p d.count in
    let room : at ≤ length d.numbers = omega (arith, kept_few p d.count, fits) in
    let end : d.base + suc (kept_of p d.count) ≡ suc at = omega arith in
    ap (λ k. record d { numbers = without_last (slice_get d.numbers at) k (put_by (slice_get d.numbers at) at frame d.numbers) }) end
    ∙ ap (λ xs. record d { numbers = xs }) (without d.numbers at frame room)

pub apart_again : (numbers : List ℕ) (frame : ℕ) (d : Display) → put_back (stands_apart d) (set_apart numbers frame d) ≡ d
apart_again numbers frame d = ap (λ xs. record d { numbers = xs }) (take_at d.numbers (numbers ++ frame ∷ []) (length d.numbers) refl)

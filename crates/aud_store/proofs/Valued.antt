-- A function's value, which waits in the innermost open frame that was not opened within another execution.
use Rattle.std.proofs.Common.{◌≡◌, ◌+◌, ◌<◌, ℕ, zero, suc, ℤ, List, [], ◌∷◌, ◌++◌, Bool, true, false, length, take, take_all, drop, reverse, get_or, set, if◌then◌else◌, append_assoc, refl, ap, sym, subst, ◌∙◌, arith}
use Rattle.std.proofs.lemmas.List.{drop_all, drop_more, reverse-append, take_more}
use Rattle.aud_meaning.specs.Configuration.{Back}
use Rattle.aud_meaning.specs.Effects.{is_inner, sets_value}
use Rattle.aud_store.specs.declared.display.Replaced.{Replaced}
use Rattle.aud_store.specs.declared.display.Replaced.TheVariants.{Among, Apart}
use Rattle.aud_store.specs.declared.purpose.Purpose.{Purpose}
use Rattle.aud_store.specs.declared.purpose.Purpose.TheVariants.{Accept, Body, Block, Entry, Loop, Operation, Procedure}
use Rattle.aud_store.specs.declared.stack.Open.{Open}
use Rattle.aud_store.specs.Ties.Display.{Display, placed, put_back, seen, stands}
use Rattle.aud_store.specs.Ties.Stored.{kept_of, outer_backs, own_backs, plain_open, plain_opened, plain_purpose, valued, with_value, ArePlaced, IsPlacedBy}

pub same_read : (xs : List Open) (i : ℕ) (x y : Open) → i < length xs → x ≡ get_or xs i x → y ≡ get_or xs i y → x ≡ y
same_read [] i x y within xi yi = absurd (omega (arith, within))
same_read (o ∷ os) zero x y within xi yi = xi ∙ sym yi
same_read (o ∷ os) (suc i) x y within xi yi = same_read os i x y (omega (arith, within)) xi yi

module _ (z : ℤ) where
  pub valued_plain : (d : Display) (os : List Open) (bs : List Back) → plain_opened d (valued z os) bs ≡ sets_value z (plain_opened d os bs)
  valued_plain d [] bs = refl
  valued_plain d (o ∷ os) bs = by o.purpose (valued_plain (put_back o.replaced d) os (outer_backs o.purpose bs))
    where
      by : (p : Purpose) → plain_opened (put_back o.replaced d) (valued z os) (outer_backs p bs) ≡ sets_value z (plain_opened (put_back o.replaced d) os (outer_backs p bs)) →
          plain_opened d (valued z (record o { purpose = p } ∷ os)) bs ≡ sets_value z (plain_opened d (record o { purpose = p } ∷ os) bs)
      by Body more = refl
      by Block more = ap (λ l. plain_open (record o { purpose = Block }) (seen (put_back o.replaced d)) (own_backs Block bs) ∷ l) more
      by Loop more = ap (λ l. plain_open (record o { purpose = Loop }) (seen (put_back o.replaced d)) (own_backs Loop bs) ∷ l) more
      by (Procedure level r) more = refl
      by (Operation object r) more = refl
      by (Entry object call served resumed) more = refl
      by (Accept call) more = refl

  same_kept : (p : Purpose) (n : ℕ) → kept_of p n ≡ kept_of (with_value z p) n
  same_kept Body n = refl
  same_kept Block n = refl
  same_kept Loop n = refl
  same_kept (Procedure level r) n = refl
  same_kept (Operation object r) n = refl
  same_kept (Entry object call served resumed) n = refl
  same_kept (Accept call) n = refl

  placed_by : (r : Replaced) (frame : ℕ) (p : Purpose) (before d : Display) → IsPlacedBy r frame p before d → IsPlacedBy r frame (with_value z p) before d
  placed_by (Among number seen) frame p before d is = subst (λ k. (d ≡ placed k frame before) × (Among number seen ≡ stands k before)) (same_kept p before.count) is
  placed_by (Apart base seen) frame p before d is = is

  pub valued_placed : (d : Display) (os : List Open) → ArePlaced d os → ArePlaced d (valued z os)
  valued_placed d [] are = are
  valued_placed d (o ∷ os) are = by (is_inner (plain_purpose o.purpose [])) (valued_placed (put_back o.replaced d) os are.1)
    where
      by : (b : Bool) → ArePlaced (put_back o.replaced d) (valued z os) → ArePlaced d (if b then o ∷ valued z os else record o { purpose = with_value z o.purpose } ∷ os)
      by true more = (are.0, more)
      by false more = (placed_by o.replaced o.frame o.purpose (put_back o.replaced d) d are.0, are.1)

  reversed_more : (xs : List Open) (o : Open) → reverse (xs ++ o ∷ []) ≡ o ∷ reverse xs
  reversed_more xs o = reverse-append xs (o ∷ [])

  -- so many are left to be looked at, and none behind them is the one
  abbrev pub looked : List Open → ℕ → List Open
  looked xs n = reverse (drop n xs) ++ valued z (reverse (take n xs))

  pub none_looked : (xs : List Open) → looked xs (length xs) ≡ valued z (reverse xs)
  none_looked xs = ap (λ l. reverse l ++ valued z (reverse (take (length xs) xs))) (drop_all (length xs) xs (omega arith)) ∙ ap (λ l. valued z (reverse l)) (take_all (length xs) xs (omega arith))

  split : (xs : List Open) (i : ℕ) (x : Open) → i < length xs → x ≡ get_or xs i x → looked xs (i + 1) ≡ reverse (drop (i + 1) xs) ++ valued z (x ∷ reverse (take i xs))
  split xs i x within is =
      ap (λ l. reverse (drop (i + 1) xs) ++ valued z (reverse l)) (take_more xs i x within)
      ∙ ap (λ l. reverse (drop (i + 1) xs) ++ valued z l) (reversed_more (take i xs) (get_or xs i x))
      ∙ ap (λ o. reverse (drop (i + 1) xs) ++ valued z (o ∷ reverse (take i xs))) (sym is)

  -- one that was opened within another execution is passed
  pub passed : (xs : List Open) (i : ℕ) (x : Open) → i < length xs → x ≡ get_or xs i x → is_inner (plain_purpose x.purpose []) ≡ true → looked xs (i + 1) ≡ looked xs i
  passed xs i x within is inner =
      split xs i x within is
      ∙ ap (λ b. reverse (drop (i + 1) xs) ++ (if b then x ∷ valued z (reverse (take i xs)) else record x { purpose = with_value z x.purpose } ∷ reverse (take i xs))) inner
      ∙ sym (append_assoc (reverse (drop (i + 1) xs)) (x ∷ []) (valued z (reverse (take i xs))))
      ∙ ap (λ l. l ++ valued z (reverse (take i xs))) (sym (reverse-append (x ∷ []) (drop (i + 1) xs)))
      ∙ ap (λ o. reverse (o ∷ drop (i + 1) xs) ++ valued z (reverse (take i xs))) is
      ∙ ap (λ l. reverse l ++ valued z (reverse (take i xs))) (sym (drop_more xs i x within))

  set_so : (xs : List Open) (i : ℕ) (y : Open) → i < length xs → set xs i y ≡ take i xs ++ y ∷ drop (i + 1) xs
  set_so [] i y within = absurd (omega (arith, within))
  set_so (x ∷ xs) zero y within = refl
  set_so (x ∷ xs) (suc i) y within = let next : suc i + 1 ≡ suc (i + 1) = omega arith in rw next (ap (λ l. x ∷ l) (set_so xs i y (omega (arith, within))))

  -- it is the first of the others
  pub found_so : (xs : List Open) (i : ℕ) (x y : Open) → i < length xs → x ≡ get_or xs i x → is_inner (plain_purpose x.purpose []) ≡ false → y ≡ record x { purpose = with_value z x.purpose } → reverse (set xs i y) ≡ looked xs (i + 1)
  found_so xs i x y within is inner with =
      ap reverse (set_so xs i y within)
      ∙ reverse-append (take i xs) (y ∷ drop (i + 1) xs)
      ∙ ap (λ l. l ++ reverse (take i xs)) (reverse-append (y ∷ []) (drop (i + 1) xs))
      ∙ append_assoc (reverse (drop (i + 1) xs)) (y ∷ []) (reverse (take i xs))
      ∙ ap (λ o. reverse (drop (i + 1) xs) ++ o ∷ reverse (take i xs)) with
      ∙ sym (split xs i x within is ∙ ap (λ b. reverse (drop (i + 1) xs) ++ (if b then x ∷ valued z (reverse (take i xs)) else record x { purpose = with_value z x.purpose } ∷ reverse (take i xs))) inner)

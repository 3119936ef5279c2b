-- Lines that are added one after the other.
use Rattle.std.proofs.Common.{◌≡◌, ℕ, ◌+◌, List, [], ◌∷◌, ◌++◌, length, refl, ap, sym, ◌∙◌, arith, append_assoc, append-nil, length-append}
use Rattle.aud_debug.specs.declared.page.Page.{Page}
use Rattle.aud_debug.specs.Listed.{ended}

ended-append : (xs ys : List (List ℕ)) → ended (xs ++ ys) ≡ ended xs ++ ended ys
ended-append [] ys = refl
ended-append (x ∷ xs) ys = ap (λ l. x ++ 10 ∷ l) (ended-append xs ys) ∙ sym (append_assoc x (10 ∷ ended xs) (ended ys))

-- a page with these lines comes to the same as one with all
pub record Comes (page start : Page) (left all : List (List ℕ)) : Type 0 where
  pub bytes : page.bytes.items ++ ended left ≡ start.bytes.items ++ ended all
  pub count : page.count + length left ≡ start.count + length all

pub comes_more : (page mid start : Page) (now left was all : List (List ℕ)) → (mid.bytes.items ≡ page.bytes.items ++ ended now) × (mid.count ≡ page.count + length now) → was ≡ now ++ left → Comes page start was all → Comes mid start left all
comes_more page mid start now left was all adds is comes = record {
  bytes =
      ap (λ l. l ++ ended left) adds.0
      ∙ append_assoc page.bytes.items (ended now) (ended left)
      ∙ ap (λ l. page.bytes.items ++ l) (sym (ended-append now left) ∙ ap ended (sym is))
      ∙ comes.bytes;
  count = let many = ap length is in omega (arith, adds.1, many, length-append now left, comes.count);
}

pub comes_all : (page start : Page) (all : List (List ℕ)) → Comes page start [] all → (page.bytes.items ≡ start.bytes.items ++ ended all) × (page.count ≡ start.count + length all)
comes_all page start all comes = (sym (append-nil page.bytes.items) ∙ comes.bytes, omega (arith, comes.count))

pub both_added : (start mid page : Page) (first second : List (List ℕ)) → (mid.bytes.items ≡ start.bytes.items ++ ended first) × (mid.count ≡ start.count + length first) →
    (page.bytes.items ≡ mid.bytes.items ++ ended second) × (page.count ≡ mid.count + length second) →
    (page.bytes.items ≡ start.bytes.items ++ ended (first ++ second)) × (page.count ≡ start.count + length (first ++ second))
both_added start mid page first second one two = (
  two.0
      ∙ ap (λ l. l ++ ended second) one.0
      ∙ append_assoc start.bytes.items (ended first) (ended second)
      ∙ ap (λ l. start.bytes.items ++ l) (sym (ended-append first second)),
  omega (arith, one.1, two.1, length-append first second),
)

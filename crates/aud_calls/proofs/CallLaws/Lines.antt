-- Queues in memory, each with its entry.
use Rattle.std.proofs.Common.{◌≡◌, true, false, ◌<◌, ◌≤◌, ℕ, zero, suc, ◌+◌, List, [], ◌∷◌, ◌++◌, length, get_or, set, take, filter, not, refl, ap, sym, subst, ◌∙◌, arith, add-one, Bool, if◌then◌else◌, nat_eq, Vec, Global, Result, Ok, Err, OnErr}
use Rattle.std.specs.Prelude.{◌&&◌}
use Rattle.std.proofs.lemmas.Bool.{and_parts, eqb-true}
use Rattle.aud_calls.specs.declared.queues.Queue.{Queue}
use Rattle.aud_calls.specs.Queues.{AreOthers, IsFirst, is_of, line}

-- Where the queue of an entry stands.

module _ (owner entry : ℕ) where
  others_on : (qs : List Queue) (n : ℕ) (q : Queue) → n < length qs → q ≡ get_or qs n q → is_of owner entry q ≡ false → AreOthers owner entry (take n qs) → AreOthers owner entry (take (suc n) qs)
  others_on [] n q within at is others = absurd (omega (arith, within))
  others_on (x ∷ qs) zero q within at is others = (ap (is_of owner entry) (sym at) ∙ is, tt)
  others_on (x ∷ qs) (suc n) q within at is others = (others.0, others_on qs n q (omega (arith, within)) at is others.1)

  pub others_more : (qs : List Queue) (n : ℕ) (q : Queue) → n < length qs → q ≡ get_or qs n q → is_of owner entry q ≡ false → AreOthers owner entry (take n qs) → AreOthers owner entry (take (n + 1) qs)
  others_more qs n q within at is others = subst (λ k. AreOthers owner entry (take k qs)) (sym (add-one n)) (others_on qs n q within at is others)

  pub others_all : (qs : List Queue) (n : ℕ) → length qs ≤ n → AreOthers owner entry (take n qs) → AreOthers owner entry qs
  others_all [] n past others = tt
  others_all (x ∷ qs) zero past others = absurd (omega (arith, past))
  others_all (x ∷ qs) (suc n) past others = (others.0, others_all qs n (omega (arith, past)) others.1)

  pub first_there : (qs : List Queue) (n : ℕ) (q : Queue) → n < length qs → q ≡ get_or qs n q → is_of owner entry q ≡ true → AreOthers owner entry (take n qs) → IsFirst owner entry qs n
  first_there [] n q within at is others = absurd (omega (arith, within))
  first_there (x ∷ qs) zero q within at is others = ap (is_of owner entry) (sym at) ∙ is
  first_there (x ∷ qs) (suc n) q within at is others = (others.0, first_there qs n q (omega (arith, within)) at is others.1)

  pub first_within : (qs : List Queue) (n : ℕ) → IsFirst owner entry qs n → n < length qs
  first_within [] n first = absurd first
  first_within (x ∷ qs) zero first = omega arith
  first_within (x ∷ qs) (suc n) first = omega (arith, first_within qs n first.1)

  pub first_line : (qs : List Queue) (n : ℕ) (q : Queue) → IsFirst owner entry qs n → q ≡ get_or qs n q → q.calls.items ≡ line owner entry qs
  first_line [] n q first at = absurd first
  first_line (x ∷ qs) zero q first at = ap (λ (z : Queue). z.calls.items) at ∙ ap (λ (b : Bool). if b then x.calls.items else line owner entry qs) (sym first)
  first_line (x ∷ qs) (suc n) q first at = first_line qs n q first.1 at ∙ ap (λ (b : Bool). if b then x.calls.items else line owner entry qs) (sym first.0)

  pub others_line : (qs : List Queue) → AreOthers owner entry qs → line owner entry qs ≡ []
  others_line [] others = refl
  others_line (x ∷ qs) others = ap (λ (b : Bool). if b then x.calls.items else line owner entry qs) others.0 ∙ others_line qs others.1

-- What an entry has once the queue of another one, or its own, has changed.

module _ (owner entry o e : ℕ) where
  abbrev same : Bool
  same = nat_eq entry e && nat_eq owner o

  -- its queue is that of the other one just where both are one
  of_both : (q : Queue) → is_of owner entry q ≡ true → is_of o e q ≡ same
  of_both q is =
      let parts = and_parts (nat_eq q.entry entry) (nat_eq q.owner owner) is in
      ap (λ k. nat_eq k e && nat_eq q.owner o) (eqb-true q.entry entry parts.0)
      ∙ ap (λ k. nat_eq entry e && nat_eq k o) (eqb-true q.owner owner parts.1)

  of_one : (q : Queue) → same ≡ true → is_of o e q ≡ is_of owner entry q
  of_one q is =
      let parts = and_parts (nat_eq entry e) (nat_eq owner o) is in
      ap (λ k. nat_eq q.entry k && nat_eq q.owner o) (sym (eqb-true entry e parts.0))
      ∙ ap (λ k. nat_eq q.entry entry && nat_eq q.owner k) (sym (eqb-true owner o parts.1))

  line_of_one : (qs : List Queue) → same ≡ true → line o e qs ≡ line owner entry qs
  line_of_one [] is = refl
  line_of_one (x ∷ qs) is =
      ap (λ (b : Bool). if b then x.calls.items else line o e qs) (of_one x is)
      ∙ ap (λ l. if is_of owner entry x then x.calls.items else l) (line_of_one qs is)

  module _ (to : List ℕ → List ℕ) where
    abbrev changes : List ℕ → List ℕ
    changes l = if same then to l else l

    -- past a queue of another entry
    past : (x : Queue) (l : List ℕ) → is_of owner entry x ≡ false → (if is_of o e x then x.calls.items else changes l) ≡ changes (if is_of o e x then x.calls.items else l)
    past x l other = by same refl
      where
        by : (b : Bool) → same ≡ b → (if is_of o e x then x.calls.items else (if b then to l else l)) ≡ (if b then to (if is_of o e x then x.calls.items else l) else (if is_of o e x then x.calls.items else l))
        by true is =
            let none : is_of o e x ≡ false = of_one x is ∙ other in
            ap (λ (m : Bool). if m then x.calls.items else to l) none ∙ sym (ap (λ (m : Bool). to (if m then x.calls.items else l)) none)
        by false is = refl

    pub line_set : (qs : List Queue) (n : ℕ) (q : Queue) (v : Vec ℕ Global) → IsFirst owner entry qs n → q ≡ get_or qs n q → v.items ≡ to q.calls.items → line o e (set qs n (record q { calls = v })) ≡ changes (line o e qs)
    line_set [] n q v first at new = absurd first
    line_set (x ∷ qs) zero q v first at new =
        let is : is_of owner entry q ≡ true = ap (is_of owner entry) at ∙ first in
        ap (λ (b : Bool). if b then v.items else line o e qs) (of_both q is)
        ∙ by same
        ∙ ap (λ (b : Bool). changes (if b then x.calls.items else line o e qs)) (sym (of_both x first))
      where
        by : (b : Bool) → (if b then v.items else line o e qs) ≡ (if b then to (if b then x.calls.items else line o e qs) else (if b then x.calls.items else line o e qs))
        by true = new ∙ ap (λ (z : Queue). to z.calls.items) at
        by false = refl
    line_set (x ∷ qs) (suc n) q v first at new =
        ap (λ l. if is_of o e x then x.calls.items else l) (line_set qs n q v first.1 at new)
        ∙ past x (line o e qs) first.0

    pub line_begun : (qs : List Queue) (v : Vec ℕ Global) → AreOthers owner entry qs → v.items ≡ to [] → line o e (qs ++ record { owner = owner; entry = entry; calls = v } ∷ []) ≡ changes (line o e qs)
    line_begun [] v others new = ap (λ l. if same then l else []) new
    line_begun (x ∷ qs) v others new =
        ap (λ l. if is_of o e x then x.calls.items else l) (line_begun qs v others.1 new)
        ∙ past x (line o e qs) others.0

    pub line_none : (qs : List Queue) → AreOthers owner entry qs → to [] ≡ [] → line o e qs ≡ changes (line o e qs)
    line_none [] others none = by same
      where
        by : (b : Bool) → [] ≡ (if b then to [] else [])
        by true = sym none
        by false = refl
    line_none (x ∷ qs) others none =
        ap (λ l. if is_of o e x then x.calls.items else l) (line_none qs others.1 none)
        ∙ past x (line o e qs) others.0

  -- a queue is put again
  pub line_again : (qs : List Queue) (n : ℕ) (q : Queue) (v : Vec ℕ Global) → IsFirst owner entry qs n → q ≡ get_or qs n q → v.items ≡ q.calls.items → line o e (set qs n (record q { calls = v })) ≡ line o e qs
  line_again qs n q v first at again = line_set (λ l. l) qs n q v first at again ∙ by same
    where
      by : (b : Bool) → (if b then line o e qs else line o e qs) ≡ line o e qs
      by true = refl
      by false = refl

  -- the queues of one entry are dropped
  line_dropped : (qs : List Queue) → line o e (filter (λ q. not (is_of owner entry q)) qs) ≡ (if same then [] else line o e qs)
  line_dropped [] = by same
    where
      by : (b : Bool) → line o e [] ≡ (if b then [] else line o e [])
      by true = refl
      by false = refl
  line_dropped (x ∷ qs) = by (is_of owner entry x) refl (line_dropped qs)
    where
      rest : List Queue
      rest = filter (λ q. not (is_of owner entry q)) qs

      one : (b : Bool) → (if b then [] else line o e qs) ≡ (if b then [] else (if b then x.calls.items else line o e qs))
      one true = refl
      one false = refl

      by : (b : Bool) → is_of owner entry x ≡ b → line o e rest ≡ (if same then [] else line o e qs) → line o e (if not b then x ∷ rest else rest) ≡ (if same then [] else line o e (x ∷ qs))
      by true is more =
          more ∙ one same
          ∙ ap (λ (b : Bool). if same then [] else (if b then x.calls.items else line o e qs)) (sym (of_both x is))
      by false is more =
          ap (λ l. if is_of o e x then x.calls.items else l) more
          ∙ past (λ l. []) x (line o e qs) is

  pub line_closed : (qs : List Queue) → line owner entry qs ≡ [] → line o e (filter (λ q. not (is_of owner entry q)) qs) ≡ line o e qs
  line_closed qs empty = line_dropped qs ∙ by same refl
    where
      by : (b : Bool) → same ≡ b → (if b then [] else line o e qs) ≡ line o e qs
      by true is = sym (line_of_one qs is ∙ empty)
      by false is = refl

pub on_err : {T E P : Type 0} (r : Result T E) → P → OnErr r P
on_err (Ok x) p = tt
on_err (Err x) p = p

pub no_items : (xs : List ℕ) → nat_eq (length xs) 0 ≡ true → xs ≡ []
no_items [] none = refl
no_items (x ∷ xs) none = absurd (omega (arith, eqb-true (length (x ∷ xs)) 0 none))

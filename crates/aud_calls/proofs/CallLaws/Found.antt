-- Calls that are queued, found by their queues.
use Rattle.std.proofs.Common.{◌≡◌, true, false, ◌<◌, ◌≤◌, ℕ, zero, suc, ◌+◌, ◌-◌, List, [], ◌∷◌, length, filter, map, refl, ap, sym, subst, ◌∙◌, arith, Bool, if◌then◌else◌, nat_eq, add-one, slice_index, slice_index_or}
use Rattle.std.specs.Prelude.{◌&&◌, ◌||◌, nat_lt}
use Rattle.std.proofs.lemmas.Bool.{eqb-true, false≢true, or_left, or_right}
use Rattle.std.proofs.lemmas.Cmp.{nat_eq_equiv}
use Rattle.std.proofs.lemmas.List.Kept.{Contains-dedup_nat, Contains-from_dedup}
use Rattle.std.proofs.lemmas.List.Sorted.{Contains-permutation, IsPermutation-sym}
use Rattle.std.proofs.lemmas.Map.Keys.{IsStrictlyIncreasing-dedup}
use Rattle.std.proofs.lemmas.Map.Views.{Contains-from_any, list_any-from_Contains}
use Rattle.std.specs.List.{dedup, list_any}
use Rattle.std.specs.List.Sorted.{IsPermutation, IsSorted, IsStrictlyIncreasing}
use Rattle.std.specs.Ordering.{nat_cmp}
use Rattle.aud_meaning.specs.Configuration.{Call}
use Rattle.aud_meaning.specs.Parts.{Waiting, any, contains, insert, is_queued, no_call, numbers, owner_number, queue_from}
use Rattle.aud_calls.specs.declared.queues.Queue.{Queue}
use Rattle.aud_calls.specs.declared.queues.Queues.{Queues}
use Rattle.aud_calls.specs.Queues.{AreInLine, is_at, is_of, line}
use Rattle.aud_calls.proofs.CallLaws.Queueing.{stands}

-- Numbers that rise, from one on.

abbrev Rise : ℕ → List ℕ → Type 0
Rise k [] = Unit {0}
Rise k (n ∷ ns) = (k ≤ n) × Rise (suc n) ns

rise_from : (k : ℕ) (ns : List ℕ) → (0 < length ns → k ≤ slice_index ns 0) → ((i : ℕ) → suc i < length ns → slice_index ns i < slice_index ns (suc i)) → Rise k ns
rise_from k [] low up = tt
rise_from k (n ∷ ns) low up = (low (omega arith), rise_from (suc n) ns (λ h. up 0 (omega (arith, h))) (λ i h. up (suc i) (omega (arith, h))))

rise : (ns : List ℕ) → IsStrictlyIncreasing ns → Rise 0 ns
rise ns up = rise_from 0 ns (λ h. omega arith) (λ i h. subst (λ j. slice_index ns i < slice_index ns j) (add-one i) (up i (omega (arith, h))))

not_below : (k m : ℕ) (ns : List ℕ) → k < m → Rise m ns → contains k ns ≡ false
not_below k m [] h rise = refl
not_below k m (n ∷ ns) h rise =
    let differs : nat_eq k n ≡ false = grind (arith, h, rise.0) in
    ap (λ b. b || contains k ns) differs ∙ not_below k (suc n) ns (omega (arith, h, rise.0)) rise.1

abbrev rest : List ℕ → List ℕ
rest [] = []
rest (n ∷ ns) = ns

-- the first of them is there, or is not
first_there : (k : ℕ) (ns : List ℕ) → Rise k ns → contains k ns ≡ true → (ns ≡ k ∷ rest ns) × Rise (suc k) (rest ns)
first_there k [] rise is = absurd (false≢true is)
first_there k (n ∷ ns) rise is = by (nat_eq k n) refl
  where
    by : (b : Bool) → nat_eq k n ≡ b → (n ∷ ns ≡ k ∷ ns) × Rise (suc k) ns
    by true same = let one : k ≡ n = eqb-true k n same in (ap (λ m. m ∷ ns) (sym one), subst (λ m. Rise (suc m) ns) (sym one) rise.1)
    by false differs = absurd (false≢true (sym (ap (λ b. b || contains k ns) differs ∙ not_below k (suc n) ns (omega (arith, rise.0)) rise.1) ∙ is))

first_not_there : (k : ℕ) (ns : List ℕ) → Rise k ns → contains k ns ≡ false → Rise (suc k) ns
first_not_there k [] rise is = tt
first_not_there k (n ∷ ns) rise is = by (nat_eq k n) refl
  where
    by : (b : Bool) → nat_eq k n ≡ b → (suc k ≤ n) × Rise (suc n) ns
    by true same = absurd (false≢true (sym is ∙ ap (λ b. b || contains k ns) same))
    by false differs = (grind (arith, differs, rise.0), rise.1)

module _ {A : Type 0} (p : A → Bool) (d : A) (none : p d ≡ false) where
  -- they are the numbers of those that pass, if those and no others are among them
  numbers_so : (k : ℕ) (xs : List A) (ns : List ℕ) → Rise k ns → ((i : ℕ) → contains (k + i) ns ≡ p (slice_index_or xs i d)) → ns ≡ numbers p k xs
  numbers_so k [] [] rise same = refl
  numbers_so k [] (n ∷ ns) rise same =
      let at : k + (n - k) ≡ n = omega (arith, rise.0) in
      absurd (false≢true (sym none ∙ sym (same (n - k)) ∙ ap (λ m. contains m (n ∷ ns)) at ∙ ap (λ b. b || contains n ns) (nat_eq_equiv.refl n)))
  numbers_so k (x ∷ xs) ns rise same = by (numbers_so (suc k) xs) (p x) refl
    where
      first : contains k ns ≡ p x
      first = let at : k ≡ k + 0 = omega arith in ap (λ m. contains m ns) at ∙ same 0

      later : (i : ℕ) → contains (suc k + i) ns ≡ p (slice_index_or xs i d)
      later i = let at : suc k + i ≡ k + suc i = omega arith in ap (λ m. contains m ns) at ∙ same (suc i)

      behind : ns ≡ k ∷ rest ns → (i : ℕ) → contains (suc k + i) (rest ns) ≡ p (slice_index_or xs i d)
      behind is i =
          let differs : nat_eq (suc k + i) k ≡ false = grind arith in
          ap (λ b. b || contains (suc k + i) (rest ns)) (sym differs) ∙ ap (contains (suc k + i)) (sym is) ∙ later i

      by : ((ms : List ℕ) → Rise (suc k) ms → ((i : ℕ) → contains (suc k + i) ms ≡ p (slice_index_or xs i d)) → ms ≡ numbers p (suc k) xs) → (b : Bool) → p x ≡ b → ns ≡ (if b then k ∷ numbers p (suc k) xs else numbers p (suc k) xs)
      by more true is =
          let there = first_there k ns rise (first ∙ is) in
          there.0 ∙ ap (λ l. k ∷ l) (more (rest ns) there.1 (behind there.0))
      by more false is = more ns (first_not_there k ns rise (first ∙ is)) later

-- of those that pass the ones that pass once more
numbers_both : {A : Type 0} (f : ℕ → Bool) (p q : A → Bool) (d : A) (k : ℕ) (xs : List A) → ((i : ℕ) → f (k + i) ≡ q (slice_index_or xs i d)) → filter f (numbers p k xs) ≡ numbers (λ x. p x && q x) k xs
numbers_both f p q d k [] same = refl
numbers_both {A} f p q d k (x ∷ xs) same =
    by (numbers_both f p q d (suc k) xs (λ i. let at : suc k + i ≡ k + suc i = omega arith in ap f at ∙ same (suc i))) (p x) (q x) first
  where
    first : f k ≡ q x
    first = let at : k ≡ k + 0 = omega arith in ap f at ∙ same 0

    all : List ℕ
    all = numbers p (suc k) xs

    both : List ℕ
    both = numbers (λ (y : A). p y && q y) (suc k) xs

    by : filter f all ≡ both → (a b : Bool) → f k ≡ b → filter f (if a then k ∷ all else all) ≡ (if a && b then k ∷ both else both)
    by more true true is = ap (λ c. if c then k ∷ filter f all else filter f all) is ∙ ap (λ l. k ∷ l) more
    by more true false is = ap (λ c. if c then k ∷ filter f all else filter f all) is ∙ more
    by more false b is = more

pub both_numbers : {A : Type 0} (p q : A → Bool) (d : A) (xs : List A) → filter (λ i. q (slice_index_or xs i d)) (numbers p 0 xs) ≡ numbers (λ x. p x && q x) 0 xs
both_numbers p q d xs = numbers_both (λ i. q (slice_index_or xs i d)) p q d 0 xs (λ i. let at : 0 + i ≡ i = omega arith in ap (λ j. q (slice_index_or xs j d)) at)

-- A call that is queued is in its queue.

abbrev numbered : List Waiting → List ℕ
numbered q = map (λ (w : Waiting). w.call) q

inserted : (n : ℕ) (w : Waiting) (q : List Waiting) → contains n (numbered (insert w q)) ≡ (nat_eq n w.call || contains n (numbered q))
inserted n w [] = refl
inserted n w (x ∷ q) = by (inserted n w q) (nat_lt w.arrival x.arrival)
  where
    turned : (a b c : Bool) → (a || (b || c)) ≡ (b || (a || c))
    turned true true c = refl
    turned true false c = refl
    turned false b c = refl

    by : contains n (numbered (insert w q)) ≡ (nat_eq n w.call || contains n (numbered q)) → (b : Bool) →
        contains n (numbered (if b then w ∷ x ∷ q else x ∷ insert w q)) ≡ (nat_eq n w.call || (nat_eq n x.call || contains n (numbered q)))
    by more true = refl
    by more false = ap (λ b. nat_eq n x.call || b) more ∙ turned (nat_eq n x.call) (nat_eq n w.call) (contains n (numbered q))

in_queue : (o e k i : ℕ) (cs : List Call) → is_at o e (slice_index_or cs i no_call) ≡ true → contains (k + i) (numbered (queue_from k o e cs)) ≡ true
in_queue o e k i [] at = absurd (false≢true at)
in_queue o e k zero (c ∷ cs) at =
    let here : k + 0 ≡ k = omega arith in
    ap (λ n. contains n (numbered (queue_from k o e (c ∷ cs)))) here
    ∙ ap (λ b. contains k (numbered (if b then insert (stands k c) (queue_from (suc k) o e cs) else queue_from (suc k) o e cs))) at
    ∙ inserted k (stands k c) (queue_from (suc k) o e cs)
    ∙ ap (λ b. b || contains k (numbered (queue_from (suc k) o e cs))) (nat_eq_equiv.refl k)
in_queue o e k (suc i) (c ∷ cs) at =
    let there : k + suc i ≡ suc k + i = omega arith in
    ap (λ n. contains n (numbered (queue_from k o e (c ∷ cs)))) there ∙ by (is_at o e c) (in_queue o e (suc k) i cs at)
  where
    q : List Waiting
    q = queue_from (suc k) o e cs

    by : (b : Bool) → contains (suc k + i) (numbered q) ≡ true → contains (suc k + i) (numbered (if b then insert (stands k c) q else q)) ≡ true
    by true h = inserted (suc k + i) (stands k c) q ∙ or_right (nat_eq (suc k + i) k) (contains (suc k + i) (numbered q)) h
    by false h = h

in_line : (o e n : ℕ) (qs : List Queue) → contains n (line o e qs) ≡ true → any (λ (q : Queue). contains n q.calls.items) qs ≡ true
in_line o e n [] h = h
in_line o e n (q ∷ qs) h = by (in_line o e n qs) (is_of o e q) h
  where
    others : Bool
    others = any (λ (x : Queue). contains n x.calls.items) qs

    by : (contains n (line o e qs) ≡ true → others ≡ true) → (b : Bool) → contains n (if b then q.calls.items else line o e qs) ≡ true → (contains n q.calls.items || others) ≡ true
    by more true here = or_left (contains n q.calls.items) others here
    by more false there = or_right (contains n q.calls.items) others (more there)

-- So they are found.

contains_any : (n : ℕ) (ns : List ℕ) → contains n ns ≡ list_any (nat_eq n) ns
contains_any n [] = refl
contains_any n (m ∷ ns) = ap (λ b. nat_eq n m || b) (contains_any n ns)

never : (c : Bool) → (c && false) ≡ false
never true = refl
never false = refl

contains_kept : (f : ℕ → Bool) (n : ℕ) (ns : List ℕ) → contains n (filter f ns) ≡ (contains n ns && f n)
contains_kept f n [] = refl
contains_kept f n (m ∷ ns) = by (f m) (nat_eq n m) refl refl (contains_kept f n ns)
  where
    by : (a b : Bool) → f m ≡ a → nat_eq n m ≡ b → contains n (filter f ns) ≡ (contains n ns && f n) → contains n (if a then m ∷ filter f ns else filter f ns) ≡ ((b || contains n ns) && f n)
    by true true is same more = ap (λ c. c || contains n (filter f ns)) same ∙ sym (ap f (eqb-true n m same) ∙ is)
    by true false is same more = ap (λ c. c || contains n (filter f ns)) same ∙ more
    by false true is same more = more ∙ ap (λ c. contains n ns && c) (ap f (eqb-true n m same) ∙ is) ∙ never (contains n ns) ∙ sym (ap f (eqb-true n m same) ∙ is)
    by false false is same more = more

both_ways : (a b : Bool) → (a ≡ true → b ≡ true) → (b ≡ true → a ≡ true) → a ≡ b
both_ways true b to back = sym (to refl)
both_ways false true to back = back refl
both_ways false false to back = refl

-- what was sorted, with none twice, has the same numbers
sorted_same : (n : ℕ) (kept sorted found : List ℕ) → IsPermutation kept sorted → found ≡ dedup nat_eq sorted → contains n found ≡ contains n kept
sorted_same n kept sorted found moved is =
    ap (contains n) is ∙ contains_any n (dedup nat_eq sorted)
    ∙ both_ways _ _
    (λ h. list_any-from_Contains nat_eq_equiv n kept (Contains-permutation _ _ n (IsPermutation-sym _ _ moved) (Contains-from_dedup nat_eq sorted n (Contains-from_any eqb-true n (dedup nat_eq sorted) h))))
    (λ h. list_any-from_Contains nat_eq_equiv n (dedup nat_eq sorted) (Contains-dedup_nat sorted n (Contains-permutation _ _ n moved (Contains-from_any eqb-true n kept h))))
    ∙ sym (contains_any n kept)

module _ (calls : List Call) (k : ℕ) (queues : Queues) (lined : AreInLine calls k queues) where
  in_some : (n : ℕ) → is_queued (slice_index_or calls n no_call).state ≡ true → any (λ (q : Queue). contains n q.calls.items) queues.queues.items ≡ true
  in_some n queued =
      let c = slice_index_or calls n no_call in
      let o = owner_number c.owner in
      let at : is_at o c.entry c ≡ true =
      ap (λ b. b && nat_eq c.entry c.entry && nat_eq o o) queued
      ∙ ap (λ b. b && nat_eq o o) (nat_eq_equiv.refl c.entry)
      ∙ nat_eq_equiv.refl o in
      let from : n ≡ 0 + n = omega arith in
      in_line o c.entry n queues.queues.items
      (ap (contains n) (lined.lines o c.entry) ∙ ap (λ m. contains m (numbered (queue_from 0 o c.entry calls))) from ∙ in_queue o c.entry 0 n calls at)

  pub all_found : (all kept sorted found : List ℕ) → ((n : ℕ) → contains n all ≡ any (λ (q : Queue). contains n q.calls.items) queues.queues.items) →
      kept ≡ filter (λ n. is_queued (slice_index_or calls n no_call).state) all → IsPermutation kept sorted → IsSorted nat_cmp sorted → found ≡ dedup nat_eq sorted →
      found ≡ numbers (λ (c : Call). is_queued c.state) 0 calls
  all_found all kept sorted found every is moved ordered once =
      numbers_so (λ (c : Call). is_queued c.state) no_call refl 0 calls found
      (subst (λ ns. Rise 0 ns) (sym once) (rise (dedup nat_eq sorted) (IsStrictlyIncreasing-dedup sorted ordered)))
      (λ n. let from : 0 + n ≡ n = omega arith in
      ap (λ m. contains m found) from
      ∙ sorted_same n kept sorted found moved once
      ∙ ap (contains n) is
      ∙ contains_kept (λ m. is_queued (slice_index_or calls m no_call).state) n all
      ∙ ap (λ b. b && is_queued (slice_index_or calls n no_call).state) (every n)
      ∙ by n (is_queued (slice_index_or calls n no_call).state) refl)
    where
      by : (n : ℕ) (b : Bool) → is_queued (slice_index_or calls n no_call).state ≡ b → (any (λ (q : Queue). contains n q.calls.items) queues.queues.items && b) ≡ b
      by n true queued = ap (λ c. c && true) (in_some n queued)
      by n false queued = never (any (λ (q : Queue). contains n q.calls.items) queues.queues.items)

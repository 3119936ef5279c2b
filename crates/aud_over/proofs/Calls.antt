-- Lists of calls that are the same where they are read.
use Rattle.std.proofs.Common.{◌≡◌, ℕ, zero, suc, ◌+◌, List, [], ◌∷◌, ◌++◌, length, slice_index_or, Bool, true, false, refl, sym, ap, ◌∙◌, subst, arith, inl, inr}
use Rattle.std.specs.Prelude.{◌⊎◌, ◌&&◌, nat_eq, nat_lt, if◌then◌else◌}
use Rattle.aud_meaning.specs.declared.state.CallState.{CallState}
use Rattle.aud_meaning.specs.declared.state.CallState.TheVariants.{Queued, Selected, Done, Cancelled}
use Rattle.aud_meaning.specs.Configuration.{Call}
use Rattle.aud_meaning.specs.Parts.{changed, numbers, no_call, Waiting, insert, is_queued, is_selected, owner_number, queue_from, queue}
use Rattle.aud_over.specs.Over.{is_call_over}

-- the same, and kept unless it is over
pub record AreSame (kept : ℕ → Type 0) (n : ℕ) (a b : Call) : Type 0 where
  pub same : a ≡ b
  pub live : is_call_over a.state ≡ false → kept n

-- over, and not kept
pub record AreOver (kept : ℕ → Type 0) (n : ℕ) (a b : Call) : Type 0 where
  pub not_kept : ¬ kept n
  pub first : is_call_over a.state ≡ true
  pub second : is_call_over b.state ≡ true

abbrev pub SameCall : (ℕ → Type 0) → ℕ → Call → Call → Type 0
SameCall kept n a b = AreSame kept n a b ⊎ AreOver kept n a b

-- from this number on
abbrev pub SameCalls : (ℕ → Type 0) → ℕ → List Call → List Call → Type 0
SameCalls kept n [] [] = Unit {0}
SameCalls kept n [] (y ∷ ys) = ⊥
SameCalls kept n (x ∷ xs) [] = ⊥
SameCalls kept n (x ∷ xs) (y ∷ ys) = SameCall kept n x y × SameCalls kept (suc n) xs ys

abbrev pub EachOf : (ℕ → Type 0) → List ℕ → Type 0
EachOf kept [] = Unit {0}
EachOf kept (n ∷ ns) = kept n × EachOf kept ns

abbrev pub EachWaiting : (ℕ → Type 0) → List Waiting → Type 0
EachWaiting kept [] = Unit {0}
EachWaiting kept (w ∷ ws) = kept w.call × EachWaiting kept ws

-- of what is over no more is seen
pub not_queued : (s : CallState) → is_call_over s ≡ true → is_queued s ≡ false
not_queued Queued h = sym h
not_queued Selected h = refl
not_queued Done h = refl
not_queued Cancelled h = refl

pub not_selected : (s : CallState) → is_call_over s ≡ true → is_selected s ≡ false
not_selected Queued h = refl
not_selected Selected h = sym h
not_selected Done h = refl
not_selected Cancelled h = refl

pub queued_not_over : (s : CallState) → is_queued s ≡ true → is_call_over s ≡ false
queued_not_over Queued h = refl
queued_not_over Selected h = refl
queued_not_over Done h = sym h
queued_not_over Cancelled h = sym h

abbrev Truth : Bool → Type 0
Truth true = Unit {0}
Truth false = ⊥

pub true_is_not_false : {A : Type 0} → true ≡ false → A
true_is_not_false h = absurd (subst Truth h tt)

module _ (kept : ℕ → Type 0) where
  is_same : (n : ℕ) (a b : Call) → SameCall kept n a b → kept n → a ≡ b
  is_same n a b (inl e) k = e.same
  is_same n a b (inr o) k = absurd (o.not_kept k)

  call_at : (n : ℕ) (xs ys : List Call) → SameCalls kept n xs ys → (i : ℕ) → kept (n + i) → slice_index_or xs i no_call ≡ slice_index_or ys i no_call
  call_at n [] [] h i k = refl
  call_at n [] (y ∷ ys) h i k = absurd h
  call_at n (x ∷ xs) [] h i k = absurd h
  call_at n (x ∷ xs) (y ∷ ys) h zero k = is_same n x y h.0 (let e : n + 0 ≡ n = omega arith in subst kept e k)
  call_at n (x ∷ xs) (y ∷ ys) h (suc i) k = call_at (suc n) xs ys h.1 i (let e : n + suc i ≡ suc n + i = omega arith in subst kept e k)

  pub same_at : (xs ys : List Call) → SameCalls kept 0 xs ys → (i : ℕ) → kept i → slice_index_or xs i no_call ≡ slice_index_or ys i no_call
  same_at xs ys h i k = call_at 0 xs ys h i (let e : i ≡ 0 + i = omega arith in subst kept e k)

  pub same_length : (n : ℕ) (xs ys : List Call) → SameCalls kept n xs ys → length xs ≡ length ys
  same_length n [] [] h = refl
  same_length n [] (y ∷ ys) h = absurd h
  same_length n (x ∷ xs) [] h = absurd h
  same_length n (x ∷ xs) (y ∷ ys) h = ap suc (same_length (suc n) xs ys h.1)

  behind_from : (n : ℕ) (xs ys : List Call) (z : Call) → SameCalls kept n xs ys → kept (n + length xs) → SameCalls kept n (xs ++ z ∷ []) (ys ++ z ∷ [])
  behind_from n [] [] z h k = (inl (record { same = refl; live = λ o. let e : n + 0 ≡ n = omega arith in subst kept e k }), tt)
  behind_from n [] (y ∷ ys) z h k = absurd h
  behind_from n (x ∷ xs) [] z h k = absurd h
  behind_from n (x ∷ xs) (y ∷ ys) z h k = (h.0, behind_from (suc n) xs ys z h.1 (let e : n + suc (length xs) ≡ suc n + length xs = omega arith in subst kept e k))

  pub same_behind : (xs ys : List Call) (z : Call) → SameCalls kept 0 xs ys → kept (length xs) → SameCalls kept 0 (xs ++ z ∷ []) (ys ++ z ∷ [])
  same_behind xs ys z h k = behind_from 0 xs ys z h (let e : length xs ≡ 0 + length xs = omega arith in subst kept e k)

  one_changed : (n : ℕ) (a b : Call) (f : Call → Call) → SameCall kept n a b → kept n → SameCall kept n (f a) (f b)
  one_changed n a b f (inl e) k = inl (record { same = ap f e.same; live = λ o. k })
  one_changed n a b f (inr o) k = absurd (o.not_kept k)

  changed_from : (n : ℕ) (xs ys : List Call) (i : ℕ) (f : Call → Call) → SameCalls kept n xs ys → kept (n + i) → SameCalls kept n (changed i f xs) (changed i f ys)
  changed_from n [] [] i f h k = tt
  changed_from n [] (y ∷ ys) i f h k = absurd h
  changed_from n (x ∷ xs) [] i f h k = absurd h
  changed_from n (x ∷ xs) (y ∷ ys) zero f h k = (one_changed n x y f h.0 (let e : n + 0 ≡ n = omega arith in subst kept e k), h.1)
  changed_from n (x ∷ xs) (y ∷ ys) (suc i) f h k = (h.0, changed_from (suc n) xs ys i f h.1 (let e : n + suc i ≡ suc n + i = omega arith in subst kept e k))

  pub same_changed : (xs ys : List Call) (i : ℕ) (f : Call → Call) → SameCalls kept 0 xs ys → kept i → SameCalls kept 0 (changed i f xs) (changed i f ys)
  same_changed xs ys i f h k = changed_from 0 xs ys i f h (let e : i ≡ 0 + i = omega arith in subst kept e k)

  -- the state of a call of which it only counts whether it is selected
  one_selected : (n : ℕ) (a b : Call) → SameCall kept n a b → is_selected a.state ≡ is_selected b.state
  one_selected n a b (inl e) = ap (λ (c : Call). is_selected c.state) e.same
  one_selected n a b (inr o) = not_selected a.state o.first ∙ sym (not_selected b.state o.second)

  pub selected_same : (n : ℕ) (xs ys : List Call) → SameCalls kept n xs ys → (i : ℕ) → is_selected (slice_index_or xs i no_call).state ≡ is_selected (slice_index_or ys i no_call).state
  selected_same n [] [] h i = refl
  selected_same n [] (y ∷ ys) h i = absurd h
  selected_same n (x ∷ xs) [] h i = absurd h
  selected_same n (x ∷ xs) (y ∷ ys) h zero = one_selected n x y h.0
  selected_same n (x ∷ xs) (y ∷ ys) h (suc i) = selected_same (suc n) xs ys h.1 i

  -- calls that are queued, by their numbers
  and_first : (x y : Bool) → (x && y) ≡ true → x ≡ true
  and_first true y h = refl
  and_first false y h = h

  false_and : (x y : Bool) → x ≡ false → (x && y) ≡ false
  false_and true y h = sym (ap (λ b. b && y) (sym h)) ∙ sym h ∙ h
  false_and false y h = refl

  -- whether each of two calls passes
  passes_same : (n : ℕ) (p : Call → Bool) (a b : Call) → SameCall kept n a b → (is_queued a.state && p a) ≡ (is_queued b.state && p b)
  passes_same n p a b (inl e) = ap (λ (c : Call). is_queued c.state && p c) e.same
  passes_same n p a b (inr o) = false_and (is_queued a.state) (p a) (not_queued a.state o.first) ∙ sym (false_and (is_queued b.state) (p b) (not_queued b.state o.second))

  passes_kept : (n : ℕ) (p : Call → Bool) (a b : Call) → SameCall kept n a b → (is_queued a.state && p a) ≡ true → kept n
  passes_kept n p a b (inl e) h = e.live (queued_not_over a.state (and_first (is_queued a.state) (p a) h))
  passes_kept n p a b (inr o) h = true_is_not_false (sym h ∙ false_and (is_queued a.state) (p a) (not_queued a.state o.first))

  numbered : (x y : Bool) (n : ℕ) (ns ms : List ℕ) → x ≡ y → ns ≡ ms → (if x then n ∷ ns else ns) ≡ (if y then n ∷ ms else ms)
  numbered x y n ns ms e f = ap (λ b. if b then n ∷ ns else ns) e ∙ ap (λ ks. if y then n ∷ ks else ks) f

  pub numbers_same : (p : Call → Bool) (n : ℕ) (xs ys : List Call) → SameCalls kept n xs ys → numbers (λ (c : Call). is_queued c.state && p c) n xs ≡ numbers (λ (c : Call). is_queued c.state && p c) n ys
  numbers_same p n [] [] h = refl
  numbers_same p n [] (y ∷ ys) h = absurd h
  numbers_same p n (x ∷ xs) [] h = absurd h
  numbers_same p n (x ∷ xs) (y ∷ ys) h =
      numbered (is_queued x.state && p x) (is_queued y.state && p y) n (numbers (λ (c : Call). is_queued c.state && p c) (suc n) xs) (numbers (λ (c : Call). is_queued c.state && p c) (suc n) ys)
      (passes_same n p x y h.0) (numbers_same p (suc n) xs ys h.1)

  kept_if : (b : Bool) (n : ℕ) (ns : List ℕ) → (b ≡ true → kept n) → EachOf kept ns → EachOf kept (if b then n ∷ ns else ns)
  kept_if true n ns k h = (k refl, h)
  kept_if false n ns k h = h

  pub numbers_kept : (p : Call → Bool) (n : ℕ) (xs ys : List Call) → SameCalls kept n xs ys → EachOf kept (numbers (λ (c : Call). is_queued c.state && p c) n xs)
  numbers_kept p n [] [] h = tt
  numbers_kept p n [] (y ∷ ys) h = absurd h
  numbers_kept p n (x ∷ xs) [] h = absurd h
  numbers_kept p n (x ∷ xs) (y ∷ ys) h =
      kept_if (is_queued x.state && p x) n (numbers (λ (c : Call). is_queued c.state && p c) (suc n) xs) (passes_kept n p x y h.0) (numbers_kept p (suc n) xs ys h.1)

  -- queues
  insert_kept : (w : Waiting) (ws : List Waiting) → kept w.call → EachWaiting kept ws → EachWaiting kept (insert w ws)
  insert_kept w [] k h = (k, tt)
  insert_kept w (x ∷ ws) k h = by (nat_lt w.arrival x.arrival) (insert_kept w ws k h.1)
    where
      by : (b : Bool) → EachWaiting kept (insert w ws) → EachWaiting kept (if b then w ∷ x ∷ ws else x ∷ insert w ws)
      by true g = (k, h)
      by false g = (h.0, g)

  abbrev is_on : ℕ → ℕ → Call → Bool
  is_on owner entry c = is_queued c.state && nat_eq c.entry entry && nat_eq (owner_number c.owner) owner

  abbrev waiting_as : ℕ → Call → Waiting
  waiting_as n c = record { call = n; arrival = c.arrival; caller = c.caller }

  not_on : (owner entry : ℕ) (c : Call) → is_call_over c.state ≡ true → is_on owner entry c ≡ false
  not_on owner entry c o =
      false_and (is_queued c.state && nat_eq c.entry entry) (nat_eq (owner_number c.owner) owner) (false_and (is_queued c.state) (nat_eq c.entry entry) (not_queued c.state o))

  on_kept : (owner entry n : ℕ) (a b : Call) → SameCall kept n a b → is_on owner entry a ≡ true → kept n
  on_kept owner entry n a b (inl e) h =
      e.live (queued_not_over a.state (and_first (is_queued a.state) (nat_eq a.entry entry) (and_first (is_queued a.state && nat_eq a.entry entry) (nat_eq (owner_number a.owner) owner) h)))
  on_kept owner entry n a b (inr o) h = true_is_not_false (sym h ∙ not_on owner entry a o.first)

  one_queued : (owner entry n : ℕ) (a b : Call) (ws vs : List Waiting) → SameCall kept n a b → ws ≡ vs → (if is_on owner entry a then insert (waiting_as n a) ws else ws) ≡ (if is_on owner entry b then insert (waiting_as n b) vs else vs)
  one_queued owner entry n a b ws vs (inl e) f =
      ap (λ (c : Call). if is_on owner entry c then insert (waiting_as n c) ws else ws) e.same
      ∙ ap (λ us. if is_on owner entry b then insert (waiting_as n b) us else us) f
  one_queued owner entry n a b ws vs (inr o) f =
      ap (λ t. if t then insert (waiting_as n a) ws else ws) (not_on owner entry a o.first)
      ∙ f
      ∙ sym (ap (λ t. if t then insert (waiting_as n b) vs else vs) (not_on owner entry b o.second))

  pub queue_from_same : (owner entry n : ℕ) (xs ys : List Call) → SameCalls kept n xs ys → queue_from n owner entry xs ≡ queue_from n owner entry ys
  queue_from_same owner entry n [] [] h = refl
  queue_from_same owner entry n [] (y ∷ ys) h = absurd h
  queue_from_same owner entry n (x ∷ xs) [] h = absurd h
  queue_from_same owner entry n (x ∷ xs) (y ∷ ys) h = one_queued owner entry n x y (queue_from (suc n) owner entry xs) (queue_from (suc n) owner entry ys) h.0 (queue_from_same owner entry (suc n) xs ys h.1)

  pub queue_same : (owner entry : ℕ) (xs ys : List Call) → SameCalls kept 0 xs ys → queue owner entry xs ≡ queue owner entry ys
  queue_same owner entry xs ys h = queue_from_same owner entry 0 xs ys h

  queued_kept : (b : Bool) (n : ℕ) (x : Call) (ws : List Waiting) → (b ≡ true → kept n) → EachWaiting kept ws → EachWaiting kept (if b then insert (waiting_as n x) ws else ws)
  queued_kept true n x ws k h = insert_kept (waiting_as n x) ws (k refl) h
  queued_kept false n x ws k h = h

  queue_from_kept : (owner entry n : ℕ) (xs ys : List Call) → SameCalls kept n xs ys → EachWaiting kept (queue_from n owner entry xs)
  queue_from_kept owner entry n [] [] h = tt
  queue_from_kept owner entry n [] (y ∷ ys) h = absurd h
  queue_from_kept owner entry n (x ∷ xs) [] h = absurd h
  queue_from_kept owner entry n (x ∷ xs) (y ∷ ys) h = queued_kept (is_on owner entry x) n x (queue_from (suc n) owner entry xs) (on_kept owner entry n x y h.0) (queue_from_kept owner entry (suc n) xs ys h.1)

  pub queue_kept : (owner entry : ℕ) (xs ys : List Call) → SameCalls kept 0 xs ys → EachWaiting kept (queue owner entry xs)
  queue_kept owner entry xs ys h = queue_from_kept owner entry 0 xs ys h

  -- what is told alike of all calls that are over
  one_told : {A : Type 0} (g : Call → A) → ((a b : Call) → is_call_over a.state ≡ true → is_call_over b.state ≡ true → g a ≡ g b) → (n : ℕ) (a b : Call) → SameCall kept n a b → g a ≡ g b
  one_told g alike n a b (inl e) = ap g e.same
  one_told g alike n a b (inr o) = alike a b o.first o.second

  pub told_same : {A : Type 0} (g : Call → A) → ((a b : Call) → is_call_over a.state ≡ true → is_call_over b.state ≡ true → g a ≡ g b) → (n : ℕ) (xs ys : List Call) → SameCalls kept n xs ys → (i : ℕ) → g (slice_index_or xs i no_call) ≡ g (slice_index_or ys i no_call)
  told_same g alike n [] [] h i = refl
  told_same g alike n [] (y ∷ ys) h i = absurd h
  told_same g alike n (x ∷ xs) [] h i = absurd h
  told_same g alike n (x ∷ xs) (y ∷ ys) h zero = one_told g alike n x y h.0
  told_same g alike n (x ∷ xs) (y ∷ ys) h (suc i) = told_same g alike (suc n) xs ys h.1 i

  -- a call that is not over is kept
  one_live : (n : ℕ) (a b : Call) → SameCall kept n a b → is_call_over a.state ≡ false → kept n
  one_live n a b (inl e) h = e.live h
  one_live n a b (inr o) h = true_is_not_false (sym o.first ∙ h)

  live_from : (n : ℕ) (xs ys : List Call) → SameCalls kept n xs ys → (i : ℕ) → is_call_over (slice_index_or xs i no_call).state ≡ false → kept (n + i)
  live_from n [] [] h i l = true_is_not_false l
  live_from n [] (y ∷ ys) h i l = absurd h
  live_from n (x ∷ xs) [] h i l = absurd h
  live_from n (x ∷ xs) (y ∷ ys) h zero l = let e : n ≡ n + 0 = omega arith in subst kept e (one_live n x y h.0 l)
  live_from n (x ∷ xs) (y ∷ ys) h (suc i) l = let e : suc n + i ≡ n + suc i = omega arith in subst kept e (live_from (suc n) xs ys h.1 i l)

  pub live_kept : (xs ys : List Call) → SameCalls kept 0 xs ys → (i : ℕ) → is_call_over (slice_index_or xs i no_call).state ≡ false → kept i
  live_kept xs ys h i l = let e : 0 + i ≡ i = omega arith in subst kept e (live_from 0 xs ys h i l)

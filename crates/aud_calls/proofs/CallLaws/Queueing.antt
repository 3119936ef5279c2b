-- What becomes of a queue where a call is made, arrives, or is queued no more.
use Rattle.std.proofs.Common.{◌≡◌, true, false, ◌<◌, ◌≤◌, ℕ, zero, suc, ◌+◌, List, [], ◌∷◌, ◌++◌, length, get_or, filter, refl, ap, sym, ◌∙◌, arith, Bool, if◌then◌else◌}
use Rattle.std.proofs.lemmas.Bool.{false≢true}
use Rattle.std.specs.Prelude.{nat_lt, nat_eq, not, ◌&&◌, ◌||◌}
use Rattle.aud_meaning.specs.declared.state.CallState.TheVariants.{Queued}
use Rattle.aud_meaning.specs.Configuration.{Call}
use Rattle.aud_meaning.specs.Parts.{Waiting, changed, insert, is_queued, no_call, owner_number, queue_from}
use Rattle.aud_over.specs.Over.{call_if, calls_left, is_call_over}
use Rattle.aud_over.proofs.Calls.{not_queued}
use Rattle.aud_calls.specs.Queues.{is_at, AreQueuedBefore}

-- how it stands in its queue
abbrev pub stands : ℕ → Call → Waiting
stands id c = record { call = id; arrival = c.arrival; caller = c.caller }

-- All of them came before.

abbrev AreBefore : ℕ → List Waiting → Type 0
AreBefore k [] = Unit {0}
AreBefore k (w ∷ ws) = (w.arrival < k) × AreBefore k ws

insert_last : (w : Waiting) (q : List Waiting) → AreBefore w.arrival q → insert w q ≡ q ++ w ∷ []
insert_last w [] before = refl
insert_last w (x ∷ q) before =
    let later : nat_lt w.arrival x.arrival ≡ false = grind (arith, before.0) in
    ap (λ (b : Bool). if b then w ∷ x ∷ q else x ∷ insert w q) later
    ∙ ap (λ t. x ∷ t) (insert_last w q before.1)

insert_before : (y w : Waiting) (q : List Waiting) → y.arrival < w.arrival → insert y (q ++ w ∷ []) ≡ insert y q ++ w ∷ []
insert_before y w [] first =
    let sooner : nat_lt y.arrival w.arrival ≡ true = grind (arith, first) in
    ap (λ (b : Bool). if b then y ∷ w ∷ [] else w ∷ y ∷ []) sooner
insert_before y w (x ∷ q) first =
    ap (λ t. if nat_lt y.arrival x.arrival then y ∷ x ∷ (q ++ w ∷ []) else x ∷ t) (insert_before y w q first)
    ∙ out (nat_lt y.arrival x.arrival)
  where
    out : (b : Bool) → (if b then y ∷ x ∷ (q ++ w ∷ []) else x ∷ (insert y q ++ w ∷ [])) ≡ (if b then y ∷ x ∷ q else x ∷ insert y q) ++ w ∷ []
    out true = refl
    out false = refl

keeps_before : (k : ℕ) (y : Waiting) (q : List Waiting) → y.arrival < k → AreBefore k q → AreBefore k (insert y q)
keeps_before k y [] h before = (h, tt)
keeps_before k y (x ∷ q) h before = by (keeps_before k y q h before.1) (nat_lt y.arrival x.arrival)
  where
    by : AreBefore k (insert y q) → (b : Bool) → AreBefore k (if b then y ∷ x ∷ q else x ∷ insert y q)
    by more true = (h, before)
    by more false = (before.0, more)

-- In order of arrival.

abbrev AreBehind : ℕ → List Waiting → Type 0
AreBehind k [] = Unit {0}
AreBehind k (w ∷ ws) = (k ≤ w.arrival) × AreBehind k ws

abbrev AreInOrder : List Waiting → Type 0
AreInOrder [] = Unit {0}
AreInOrder (w ∷ ws) = AreBehind w.arrival ws × AreInOrder ws

behind_less : (k m : ℕ) (q : List Waiting) → k ≤ m → AreBehind m q → AreBehind k q
behind_less k m [] h behind = tt
behind_less k m (x ∷ q) h behind = (omega (arith, h, behind.0), behind_less k m q h behind.1)

keeps_behind : (k : ℕ) (y : Waiting) (q : List Waiting) → k ≤ y.arrival → AreBehind k q → AreBehind k (insert y q)
keeps_behind k y [] h behind = (h, tt)
keeps_behind k y (x ∷ q) h behind = by (keeps_behind k y q h behind.1) (nat_lt y.arrival x.arrival)
  where
    by : AreBehind k (insert y q) → (b : Bool) → AreBehind k (if b then y ∷ x ∷ q else x ∷ insert y q)
    by more true = (h, behind)
    by more false = (behind.0, more)

keeps_order : (y : Waiting) (q : List Waiting) → AreInOrder q → AreInOrder (insert y q)
keeps_order y [] order = (tt, tt)
keeps_order y (x ∷ q) order = by (keeps_order y q order.1) (nat_lt y.arrival x.arrival) refl
  where
    by : AreInOrder (insert y q) → (b : Bool) → nat_lt y.arrival x.arrival ≡ b → AreInOrder (if b then y ∷ x ∷ q else x ∷ insert y q)
    by more true is =
        let first : y.arrival ≤ x.arrival = grind (arith, is) in
        ((first, behind_less y.arrival x.arrival q first order.0), order)
    by more false is =
        let last : x.arrival ≤ y.arrival = grind (arith, is) in
        (keeps_behind x.arrival y q last order.0, more)

-- All but the call of one number.

abbrev other : ℕ → Waiting → Bool
other i w = not (nat_eq w.call i)

abbrev pub all_but : ℕ → List Waiting → List Waiting
all_but i q = filter (other i) q

first_in : (y : Waiting) (q : List Waiting) → AreBehind (suc y.arrival) q → insert y q ≡ y ∷ q
first_in y [] behind = refl
first_in y (x ∷ q) behind =
    let sooner : nat_lt y.arrival x.arrival ≡ true = grind (arith, behind.0) in
    ap (λ (b : Bool). if b then y ∷ x ∷ q else x ∷ insert y q) sooner

behind_others : (i k : ℕ) (q : List Waiting) → AreBehind k q → AreBehind k (all_but i q)
behind_others i k [] behind = tt
behind_others i k (x ∷ q) behind = by (behind_others i k q behind.1) (other i x)
  where
    by : AreBehind k (all_but i q) → (b : Bool) → AreBehind k (if b then x ∷ all_but i q else all_but i q)
    by more true = (behind.0, more)
    by more false = more

others_inserted : (i : ℕ) (y : Waiting) (q : List Waiting) → AreInOrder q → all_but i (insert y q) ≡ (if other i y then insert y (all_but i q) else all_but i q)
others_inserted i y [] order = refl
others_inserted i y (x ∷ q) order = by (others_inserted i y q order.1) (nat_lt y.arrival x.arrival) refl
  where
    by : all_but i (insert y q) ≡ (if other i y then insert y (all_but i q) else all_but i q) → (b : Bool) → nat_lt y.arrival x.arrival ≡ b →
        all_but i (if b then y ∷ x ∷ q else x ∷ insert y q) ≡ (if other i y then insert y (all_but i (x ∷ q)) else all_but i (x ∷ q))
    by more true is =
        let first : suc y.arrival ≤ x.arrival = grind (arith, is) in
        ap (λ t. if other i y then t else all_but i (x ∷ q))
        (sym (first_in y (all_but i (x ∷ q)) (behind_others i (suc y.arrival) (x ∷ q) (first, behind_less (suc y.arrival) x.arrival q first order.0))))
    by more false is = ap (λ t. if other i x then x ∷ t else t) more ∙ turned (other i x) (other i y) (ap (λ (b : Bool). if b then y ∷ x ∷ all_but i q else x ∷ insert y (all_but i q)) is)
      where
        turned : (b m : Bool) → insert y (x ∷ all_but i q) ≡ x ∷ insert y (all_but i q) →
            (if b then x ∷ (if m then insert y (all_but i q) else all_but i q) else (if m then insert y (all_but i q) else all_but i q))
            ≡ (if m then insert y (if b then x ∷ all_but i q else all_but i q) else (if b then x ∷ all_but i q else all_but i q))
        turned true true h = sym h
        turned true false h = refl
        turned false true h = refl
        turned false false h = refl

-- Numbers of calls from one on.

abbrev AreFrom : ℕ → List Waiting → Type 0
AreFrom k [] = Unit {0}
AreFrom k (w ∷ ws) = (k ≤ w.call) × AreFrom k ws

keeps_from : (k : ℕ) (y : Waiting) (q : List Waiting) → k ≤ y.call → AreFrom k q → AreFrom k (insert y q)
keeps_from k y [] h from = (h, tt)
keeps_from k y (x ∷ q) h from = by (keeps_from k y q h from.1) (nat_lt y.arrival x.arrival)
  where
    by : AreFrom k (insert y q) → (b : Bool) → AreFrom k (if b then y ∷ x ∷ q else x ∷ insert y q)
    by more true = (h, from)
    by more false = (from.0, more)

from_less : (k m : ℕ) (q : List Waiting) → k ≤ m → AreFrom m q → AreFrom k q
from_less k m [] h from = tt
from_less k m (x ∷ q) h from = (omega (arith, h, from.0), from_less k m q h from.1)

all_others : (i : ℕ) (q : List Waiting) → AreFrom (suc i) q → q ≡ all_but i q
all_others i [] from = refl
all_others i (x ∷ q) from =
    let differs : nat_eq x.call i ≡ false = grind (arith, from.0) in
    ap (λ t. x ∷ t) (all_others i q from.1) ∙ ap (λ (b : Bool). if not b then x ∷ all_but i q else all_but i q) (sym differs)

-- Calls that are queued came before so many arrivals.

pub before_more : (k m : ℕ) (cs : List Call) → k ≤ m → AreQueuedBefore k cs → AreQueuedBefore m cs
before_more k m [] h before = tt
before_more k m (c ∷ cs) h before = ((λ queued. omega (arith, h, before.0 queued)), before_more k m cs h before.1)

pub before_changed : (k n : ℕ) (f : Call → Call) (cs : List Call) → ((c : Call) → is_queued (f c).state ≡ true → (f c).arrival < k) → AreQueuedBefore k cs → AreQueuedBefore k (changed n f cs)
before_changed k n f [] came before = tt
before_changed k zero f (c ∷ cs) came before = (came c, before.1)
before_changed k (suc n) f (c ∷ cs) came before = (before.0, before_changed k n f cs came before.1)

pub before_made : (k : ℕ) (x : Call) (cs : List Call) → is_queued x.state ≡ false → AreQueuedBefore k cs → AreQueuedBefore k (cs ++ x ∷ [])
before_made k x [] idle before = ((λ queued. absurd (false≢true (sym idle ∙ queued))), tt)
before_made k x (c ∷ cs) idle before = (before.0, before_made k x cs idle before.1)

-- a call that is over, or as it was
left_as : {A : Type 0} (to : Call → A) (none : A) (c : Call) → (is_call_over c.state ≡ true → to c ≡ none) → none ≡ to no_call → (served : Bool) → to (call_if (not (is_call_over c.state) || served) c) ≡ to c
left_as to none c over none_is true = by (is_call_over c.state)
  where
    by : (b : Bool) → to (call_if (not b || true) c) ≡ to c
    by true = refl
    by false = refl
left_as to none c over none_is false = by (is_call_over c.state) refl
  where
    by : (b : Bool) → is_call_over c.state ≡ b → to (call_if (not b || false) c) ≡ to c
    by true is = sym none_is ∙ sym (over is)
    by false is = refl

pub before_left : (served : ℕ → Bool) (k n : ℕ) (cs : List Call) → AreQueuedBefore k cs → AreQueuedBefore k (calls_left served n cs)
before_left served k n [] before = tt
before_left served k n (c ∷ cs) before = (by (not (is_call_over c.state) || served n), before_left served k (suc n) cs before.1)
  where
    by : (b : Bool) → is_queued (call_if b c).state ≡ true → (call_if b c).arrival < k
    by true queued = before.0 queued
    by false queued = absurd (false≢true queued)

module _ (owner entry : ℕ) where
  abbrev pub is_on : Call → Bool
  is_on c = nat_eq c.entry entry && nat_eq (owner_number c.owner) owner

  first_of : (a b c : Bool) → (a && b && c) ≡ true → a ≡ true
  first_of true b c h = refl
  first_of false b c h = absurd (false≢true h)

  queue_before : (k id : ℕ) (cs : List Call) → AreQueuedBefore k cs → AreBefore k (queue_from id owner entry cs)
  queue_before k id [] before = tt
  queue_before k id (c ∷ cs) before = by (queue_before k (suc id) cs before.1) (is_at owner entry c) refl
    where
      by : AreBefore k (queue_from (suc id) owner entry cs) → (b : Bool) → is_at owner entry c ≡ b →
          AreBefore k (if b then insert (stands id c) (queue_from (suc id) owner entry cs) else queue_from (suc id) owner entry cs)
      by more true is = keeps_before k _ _ (before.0 (first_of (is_queued c.state) (nat_eq c.entry entry) (nat_eq (owner_number c.owner) owner) is)) more
      by more false is = more

  abbrev pub behind : Bool → List Waiting → Waiting → List Waiting
  behind true q w = q ++ w ∷ []
  behind false q w = q

  -- a call that wasn't queued arrives
  pub arrived : (k id i n : ℕ) (x : Call) (cs : List Call) → n < length cs → x ≡ get_or cs n x → i ≡ id + n → is_queued x.state ≡ false → AreQueuedBefore k cs →
      queue_from id owner entry (changed n (λ (a : Call). record a { state = Queued; arrival = k }) cs)
      ≡ behind (is_on x) (queue_from id owner entry cs) (record { call = i; arrival = k; caller = x.caller })
  arrived k id i n x [] within at is idle before = absurd (omega (arith, within))
  arrived k id i zero x (c ∷ cs) within at is idle before =
      here (is_on c)
      ∙ ap (λ (b : Bool). behind (is_on c) (if b then insert (stands id c) (queue_from (suc id) owner entry cs) else queue_from (suc id) owner entry cs) (record { call = id; arrival = k; caller = c.caller })) (sym (none (ap (λ (z : Call). is_queued z.state) (sym at) ∙ idle)))
      ∙ ap (λ m. behind (is_on c) (queue_from id owner entry (c ∷ cs)) (record { call = m; arrival = k; caller = c.caller })) (omega (arith, is))
      ∙ ap (λ (z : Call). behind (is_on z) (queue_from id owner entry (c ∷ cs)) (record { call = i; arrival = k; caller = z.caller })) (sym at)
    where
      here : (b : Bool) → (if b then insert (record { call = id; arrival = k; caller = c.caller }) (queue_from (suc id) owner entry cs) else queue_from (suc id) owner entry cs)
          ≡ behind b (queue_from (suc id) owner entry cs) (record { call = id; arrival = k; caller = c.caller })
      here true = insert_last _ _ (queue_before k (suc id) cs before.1)
      here false = refl

      none : is_queued c.state ≡ false → is_at owner entry c ≡ false
      none h = ap (λ (b : Bool). b && nat_eq c.entry entry && nat_eq (owner_number c.owner) owner) h
  arrived k id i (suc n) x (c ∷ cs) within at is idle before =
      ap (λ t. if is_at owner entry c then insert (stands id c) t else t)
      (arrived k (suc id) i n x cs (omega (arith, within)) at (omega (arith, is)) idle before.1)
      ∙ there (is_at owner entry c) refl (is_on x)
    where
      q : List Waiting
      q = queue_from (suc id) owner entry cs

      w : Waiting
      w = record { call = i; arrival = k; caller = x.caller }

      there : (b : Bool) → is_at owner entry c ≡ b → (m : Bool) →
          (if b then insert (stands id c) (behind m q w) else behind m q w) ≡ behind m (if b then insert (stands id c) q else q) w
      there true h true = insert_before (stands id c) w q (before.0 (first_of (is_queued c.state) (nat_eq c.entry entry) (nat_eq (owner_number c.owner) owner) h))
      there true h false = refl
      there false h m = refl

  queue_in_order : (id : ℕ) (cs : List Call) → AreInOrder (queue_from id owner entry cs)
  queue_in_order id [] = tt
  queue_in_order id (c ∷ cs) = by (queue_in_order (suc id) cs) (is_at owner entry c)
    where
      by : AreInOrder (queue_from (suc id) owner entry cs) → (b : Bool) →
          AreInOrder (if b then insert (stands id c) (queue_from (suc id) owner entry cs) else queue_from (suc id) owner entry cs)
      by more true = keeps_order _ _ more
      by more false = more

  queue_from_on : (id : ℕ) (cs : List Call) → AreFrom id (queue_from id owner entry cs)
  queue_from_on id [] = tt
  queue_from_on id (c ∷ cs) = by (from_less id (suc id) (queue_from (suc id) owner entry cs) (omega arith) (queue_from_on (suc id) cs)) (is_at owner entry c)
    where
      by : AreFrom id (queue_from (suc id) owner entry cs) → (b : Bool) →
          AreFrom id (if b then insert (stands id c) (queue_from (suc id) owner entry cs) else queue_from (suc id) owner entry cs)
      by more true = keeps_from id _ _ (omega arith) more
      by more false = more

  -- a call is queued no more
  pub gone : (f : Call → Call) (id i n : ℕ) (cs : List Call) → ((c : Call) → is_queued (f c).state ≡ false) → i ≡ id + n →
      queue_from id owner entry (changed n f cs) ≡ all_but i (queue_from id owner entry cs)
  gone f id i n [] never is = refl
  gone f id i zero (c ∷ cs) never is =
      let q = queue_from (suc id) owner entry cs in
      let y : Waiting = stands id c in
      let same : nat_eq id i ≡ true = grind (arith, is) in
      ap (λ (b : Bool). if b && nat_eq (f c).entry entry && nat_eq (owner_number (f c).owner) owner then insert (stands id (f c)) q else q) (never c)
      ∙ all_others i q (from_less (suc i) (suc id) q (omega (arith, is)) (queue_from_on (suc id) cs))
      ∙ there (is_at owner entry c) q y
      (ap (λ (b : Bool). if not b then insert y (all_but i q) else all_but i q) (sym same) ∙ sym (others_inserted i y q (queue_in_order (suc id) cs)))
    where
      there : (b : Bool) (q : List Waiting) (y : Waiting) → all_but i q ≡ all_but i (insert y q) → all_but i q ≡ all_but i (if b then insert y q else q)
      there true q y h = h
      there false q y h = refl
  gone f id i (suc n) (c ∷ cs) never is =
      let q = queue_from (suc id) owner entry cs in
      let y : Waiting = stands id c in
      let differs : nat_eq id i ≡ false = grind (arith, is) in
      ap (λ t. if is_at owner entry c then insert y t else t) (gone f (suc id) i n cs never (omega (arith, is)))
      ∙ there (is_at owner entry c) q y
      (ap (λ (b : Bool). if not b then insert y (all_but i q) else all_but i q) (sym differs) ∙ sym (others_inserted i y q (queue_in_order (suc id) cs)))
    where
      there : (b : Bool) (q : List Waiting) (y : Waiting) → insert y (all_but i q) ≡ all_but i (insert y q) → (if b then insert y (all_but i q) else all_but i q) ≡ all_but i (if b then insert y q else q)
      there true q y h = h
      there false q y h = refl

  -- a call that is queued here neither before nor after
  pub untouched : (f : Call → Call) (id n : ℕ) (x : Call) (cs : List Call) → n < length cs → x ≡ get_or cs n x → is_at owner entry x ≡ false → is_at owner entry (f x) ≡ false →
      queue_from id owner entry (changed n f cs) ≡ queue_from id owner entry cs
  untouched f id n x [] within at before after = absurd (omega (arith, within))
  untouched f id zero x (c ∷ cs) within at before after =
      let q = queue_from (suc id) owner entry cs in
      ap (λ (b : Bool). if b then insert (stands id (f c)) q else q) (ap (λ (z : Call). is_at owner entry (f z)) (sym at) ∙ after)
      ∙ ap (λ (b : Bool). if b then insert (stands id c) q else q) (sym (ap (is_at owner entry) (sym at) ∙ before))
  untouched f id (suc n) x (c ∷ cs) within at before after =
      ap (λ t. if is_at owner entry c then insert (stands id c) t else t) (untouched f (suc id) n x cs (omega (arith, within)) at before after)

  -- a call is made that isn't queued
  pub made : (id : ℕ) (x : Call) (cs : List Call) → is_at owner entry x ≡ false → queue_from id owner entry (cs ++ x ∷ []) ≡ queue_from id owner entry cs
  made id x [] idle = ap (λ (b : Bool). if b then stands id x ∷ [] else []) idle
  made id x (c ∷ cs) idle = ap (λ t. if is_at owner entry c then insert (stands id c) t else t) (made (suc id) x cs idle)

  -- calls that are over are given back
  pub left : (served : ℕ → Bool) (id : ℕ) (cs : List Call) → queue_from id owner entry (calls_left served id cs) ≡ queue_from id owner entry cs
  left served id [] = refl
  left served id (c ∷ cs) = ap (λ q. here (call_if (not (is_call_over c.state) || served id) c) q) (left served (suc id) cs) ∙ left_as (λ x. here x (queue_from (suc id) owner entry cs)) (queue_from (suc id) owner entry cs) c (λ over. gone_from over) refl (served id)
    where
      here : Call → List Waiting → List Waiting
      here x q = if is_at owner entry x then insert (stands id x) q else q

      gone_from : is_call_over c.state ≡ true → here c (queue_from (suc id) owner entry cs) ≡ queue_from (suc id) owner entry cs
      gone_from over = ap (λ (b : Bool). if b && nat_eq c.entry entry && nat_eq (owner_number c.owner) owner then insert (stands id c) (queue_from (suc id) owner entry cs) else queue_from (suc id) owner entry cs) (not_queued c.state over)

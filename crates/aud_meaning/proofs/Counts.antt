-- How many steps a run does, and where it ends.
use Rattle.std.proofs.Common.{◌≡◌, ℕ, zero, suc, ◌+◌, ◌%◌, ◌<◌, ◌≤◌, List, [], ◌∷◌, ◌++◌, map, length, slice_get, slice_index_or, Option, Some, None, Bool, true, false, Result, Ok, Err, refl, sym, ap, ◌∙◌, subst, arith}
use Rattle.aud_text.specs.declared.limits.Limits.{Limits}
use Rattle.aud_text.specs.declared.raise.Raise.{Raise}
use Rattle.aud_typed.specs.Tree.{Plan}
use Rattle.aud_meaning.specs.declared.state.State.{State}
use Rattle.aud_meaning.specs.declared.state.State.TheVariants as state
use Rattle.aud_meaning.specs.declared.state.OpenDelay.{OpenDelay}
use Rattle.aud_meaning.specs.Configuration.{Own, Shared, TaskAt, All}
use Rattle.aud_meaning.specs.Evaluation.{Sight}
use Rattle.aud_meaning.specs.Control.{Coming, simply, ending, selecting, calling, starting, Seen, Controls}
use Rattle.aud_meaning.specs.Parts.{owns}
use Rattle.aud_meaning.specs.declared.state.Move.{Move}
use Rattle.aud_meaning.specs.Run.{picks, Turn, resting, closing, completing, withdrawing, serving, restarting, expiring, cancelling, acting, turn, only, each_or_one, serve_moves, end_moves, call_moves, ending_moves, acting_moves, turn_moves, moves_from, has_ended, moves_by, waiting_by, some_move, state_by, seen_from, seen, moves_at, state_at, step_of, step_with, take_by, take_one, run_by, run_with}

-- Moves of the task of a number.

abbrev pub Of : ℕ → List Move → Type 0
Of n [] = Unit {0}
Of n (m ∷ ms) = (m.task ≡ n) × Of n ms

picked_task : (n k : ℕ) → (picks n k).task ≡ n
picked_task n zero = refl
picked_task n (suc k) = refl

each_of : {A : Type 0} (n : ℕ) (f : A → Move) → ((x : A) → (f x).task ≡ n) → (xs : List A) → Of n (map f xs)
each_of n f is [] = tt
each_of n f is (x ∷ xs) = (is x, each_of n f is xs)

module _ (plan : Plan) (barrier : ℕ → Sight → Result Bool Raise) where
  only_of : (b : Bool) (n : ℕ) → Of n (only plan barrier b n)
  only_of true n = (refl, tt)
  only_of false n = tt

  each_or_one_of : (ks : List ℕ) (n : ℕ) → Of n (each_or_one plan barrier ks n)
  each_or_one_of [] n = (refl, tt)
  each_or_one_of (k ∷ ks) n = each_of n (picks n) (picked_task n) (k ∷ ks)

  served_of : (r : Result (List ℕ) Raise) (n : ℕ) → Of n (serve_moves plan barrier r n)
  served_of (Err x) n = (refl, tt)
  served_of (Ok places) n = each_or_one_of places n

  end_of : (master : Option ℕ) (n : ℕ) (c : All Seen) → Of n (end_moves plan barrier master n c)
  end_of None n c = (refl, tt)
  end_of (Some master) n c = only_of _ n

  call_of_task : (task : Option ℕ) (entry n : ℕ) (c : All Seen) → Of n (call_moves plan barrier task entry n c)
  call_of_task None entry n c = (refl, tt)
  call_of_task (Some task) entry n c = each_or_one_of _ n

  ending_of : (x : Option (ℕ × ℕ)) (n : ℕ) (c : All Seen) → Of n (ending_moves plan barrier x n c)
  ending_of None n c = end_of _ n c
  ending_of (Some x) n c = call_of_task (Some x.0) x.1 n c

  acting_of : (next : Coming) (n : ℕ) (c : All Seen) → Of n (acting_moves plan barrier next n c)
  acting_of (simply w) n c = (refl, tt)
  acting_of ending n c = ending_of _ n c
  acting_of (selecting ones) n c = each_or_one_of _ n
  acting_of (calling task entry) n c = call_of_task task entry n c
  acting_of (starting object reading) n c = only_of _ n

  pub turn_of : (u : Turn) (n : ℕ) (c : All Seen) → Of n (turn_moves plan barrier u n c)
  turn_of resting n c = tt
  turn_of closing n c = only_of _ n
  turn_of completing n c = (refl, tt)
  turn_of (withdrawing object) n c = only_of _ n
  turn_of (serving s) n c = served_of _ n
  turn_of (restarting r) n c = only_of _ n
  turn_of (expiring delays) n c = each_of n _ (λ (d : OpenDelay). picked_task n d.alternative) _
  turn_of (cancelling id) n c = each_of n _ (λ time. refl) _
  turn_of (acting next) n c = acting_of next n c

-- Moves of tasks below a number.

abbrev AllOf : ℕ → List Move → Type 0
AllOf end [] = Unit {0}
AllOf end (m ∷ ms) = (m.task < end) × AllOf end ms

below_of : (end n : ℕ) (ms : List Move) → n < end → Of n ms → AllOf end ms
below_of end n [] h all = tt
below_of end n (m ∷ ms) h all = (omega (arith, h, all.0), below_of end n ms h all.1)

joined_of : (end : ℕ) (ms ns : List Move) → AllOf end ms → AllOf end ns → AllOf end (ms ++ ns)
joined_of end [] ns h k = k
joined_of end (m ∷ ms) ns h k = (h.0, joined_of end ms ns h.1 k)

one_of : (end i : ℕ) (ms : List Move) (m : Move) → AllOf end ms → m.task < end → (slice_index_or ms i m).task < end
one_of end i [] m h first = first
one_of end zero (x ∷ xs) m h first = h.0
one_of end (suc i) (x ∷ xs) m h first = one_of end i xs m h.1 first

module _ {C : Type 0} (plan : Plan) (k : Controls C) where
  seen_length : (n : ℕ) (ts : List (TaskAt C)) (os : List Own) (shared : Shared) → length (seen_from plan k n ts os shared) ≡ length ts
  seen_length n [] os shared = refl
  seen_length n (t ∷ ts) os shared = ap suc (seen_length (suc n) ts os shared)

  from_of : (end n : ℕ) (ts : List (TaskAt Seen)) (c : All Seen) → n + length ts ≤ end → AllOf end (moves_from plan k.barrier n ts c)
  from_of end n [] c h = tt
  from_of end n (t ∷ ts) c h =
      joined_of end (turn_moves plan k.barrier (turn plan k.barrier n t c) n c) (moves_from plan k.barrier (suc n) ts c)
      (below_of end n _ (omega (arith, h)) (turn_of plan k.barrier (turn plan k.barrier n t c) n c)) (from_of end (suc n) ts c (omega (arith, h)))

  by_of : (ended cut : Bool) (c : All Seen) → AllOf (length c.tasks) (moves_by plan k.barrier ended cut c)
  by_of true cut c = tt
  by_of false true c = tt
  by_of false false c = from_of (length c.tasks) 0 c.tasks c (omega arith)

  -- the enabled moves are of tasks that there are
  moves_known : (c : All C) → AllOf (length c.tasks) (moves_at plan k c)
  moves_known c =
      let s : All Seen = seen plan k c in
      subst (λ n. AllOf n (moves_at plan k c)) (seen_length 0 c.tasks (owns c.tasks) c.shared) (by_of (has_ended plan k.barrier s.tasks) s.shared.cut s)

  module _ (limits : Limits) where
    step_counts : (c : All C) (m : Move) (ts : List (TaskAt C)) → m.task < length ts → (step_of plan k limits (slice_get ts m.task) m c).steps ≡ suc c.steps
    step_counts c m ts h = by ts m.task h
      where
        by : (us : List (TaskAt C)) (n : ℕ) → n < length us → (step_of plan k limits (slice_get us n) m c).steps ≡ suc c.steps
        by [] n below = absurd (omega (arith, below))
        by (u ∷ us) zero below = refl
        by (u ∷ us) (suc n) below = by us n (omega (arith, below))

    by_counts : (first : Move) (ms : List Move) (choices : List ℕ) (c : All C) → AllOf (length c.tasks) ms → first.task < length c.tasks → (take_by plan k limits first ms choices c).steps ≡ suc c.steps
    by_counts first ms [] c all h = step_counts c first c.tasks h
    by_counts first ms (choice ∷ choices) c all h = step_counts (record c { choices = choices }) (slice_index_or ms (choice % length ms) first) c.tasks (one_of (length c.tasks) (choice % length ms) ms first all h)

    one_counts : (m : Move) (ms : List Move) (c : All C) → AllOf (length c.tasks) (m ∷ ms) → (take_one plan k limits m ms c).steps ≡ suc c.steps
    one_counts m [] c all = step_counts c m c.tasks all.0
    one_counts m (n ∷ ms) c all = by_counts m (m ∷ n ∷ ms) c.choices c all all.0

    -- the move that is taken is one step
    taken_counts : (c : All C) (m : Move) (ms : List Move) → moves_at plan k c ≡ m ∷ ms → (take_one plan k limits m ms c).steps ≡ suc c.steps
    taken_counts c m ms e = one_counts m ms c (subst (AllOf (length c.tasks)) e (moves_known c))

    abbrev go : ℕ → All C → All C
    go n c = run_with plan k limits n c

    -- the steps only become more
    pub run_grows : (n : ℕ) (c : All C) → c.steps ≤ (go n c).steps
    run_grows zero c = omega arith
    run_grows (suc n) c = by (run_grows n) (moves_at plan k c) refl
      where
        by : ((d : All C) → d.steps ≤ (go n d).steps) → (ms : List Move) → moves_at plan k c ≡ ms → c.steps ≤ (run_by plan k limits (go n) ms c).steps
        by ih [] e = omega arith
        by ih (m ∷ ms) e = omega (arith, taken_counts c m ms e, ih (take_one plan k limits m ms c))

    -- where a move is enabled, a run does a step
    pub run_moves : (n : ℕ) (c : All C) → 1 ≤ n → ¬ (moves_at plan k c ≡ []) → c.steps < (go n c).steps
    run_moves zero c some h = absurd (omega (arith, some))
    run_moves (suc n) c some h = by (moves_at plan k c) refl
      where
        by : (ms : List Move) → moves_at plan k c ≡ ms → c.steps < (run_by plan k limits (go n) ms c).steps
        by [] e = absurd (h e)
        by (m ∷ ms) e = omega (arith, taken_counts c m ms e, run_grows n (take_one plan k limits m ms c))

    -- where no move is enabled, a run does nothing
    pub run_stays : (n : ℕ) (c : All C) → moves_at plan k c ≡ [] → go n c ≡ c
    run_stays zero c e = refl
    run_stays (suc n) c e = ap (λ ms. run_by plan k limits (go n) ms c) e

    -- a run that does not end early does all its steps
    pub run_full : (n : ℕ) (c : All C) → ¬ (moves_at plan k (go n c) ≡ []) → (go n c).steps ≡ c.steps + n
    run_full zero c h = omega arith
    run_full (suc n) c h = by (run_full n) (moves_at plan k c) refl h
      where
        by : ((d : All C) → ¬ (moves_at plan k (go n d) ≡ []) → (go n d).steps ≡ d.steps + n) → (ms : List Move) → moves_at plan k c ≡ ms → ¬ (moves_at plan k (run_by plan k limits (go n) ms c) ≡ []) → (run_by plan k limits (go n) ms c).steps ≡ c.steps + suc n
        by ih [] e f = absurd (f e)
        by ih (m ∷ ms) e f = omega (arith, taken_counts c m ms e, ih (take_one plan k limits m ms c) f)

    -- a run in two parts
    stays_by : (n : ℕ) (c : All C) → moves_at plan k c ≡ [] → c ≡ go n c
    stays_by n c e = sym (run_stays n c e)

    pub run_cut : (m n : ℕ) (c : All C) → go (m + n) c ≡ go n (go m c)
    run_cut zero n c =
        let e : zero + n ≡ n = omega arith in
        ap (λ i. go i c) e
    run_cut (suc m) n c = by (run_cut m n) (moves_at plan k c) refl
      where
        e : suc m + n ≡ suc (m + n)
        e = omega arith

        by : ((d : All C) → go (m + n) d ≡ go n (go m d)) → (ms : List Move) → moves_at plan k c ≡ ms → go (suc m + n) c ≡ go n (run_by plan k limits (go m) (moves_at plan k c) c)
        by ih [] h =
            ap (λ i. go i c) e ∙ run_stays (suc (m + n)) c h ∙ stays_by n c h ∙ ap (λ ms. go n (run_by plan k limits (go m) ms c)) (sym h)
        by ih (x ∷ xs) h =
            ap (λ i. go i c) e
            ∙ ap (λ ms. run_by plan k limits (go (m + n)) ms c) h
            ∙ ih (take_one plan k limits x xs c)
            ∙ ap (λ ms. go n (run_by plan k limits (go m) ms c)) (sym h)

    -- steps take no time
    time_kept : (t : Option (TaskAt C)) (m : Move) (c : All C) → (step_of plan k limits t m c).clock ≡ c.clock
    time_kept None m c = refl
    time_kept (Some t) m c = refl

    pub step_timeless : (m : Move) (c : All C) → (step_with plan k limits c m).clock ≡ c.clock
    step_timeless m c = time_kept (slice_get c.tasks m.task) m c

    pub clock_kept : (n : ℕ) (c : All C) → (go n c).clock ≡ c.clock
    clock_kept zero c = refl
    clock_kept (suc n) c = by (clock_kept n) (moves_at plan k c)
      where
        by_kept : (first : Move) (ms : List Move) (choices : List ℕ) (d : All C) → (take_by plan k limits first ms choices d).clock ≡ d.clock
        by_kept first ms [] d = step_timeless first d
        by_kept first ms (choice ∷ choices) d =
            let m : Move = slice_index_or ms (choice % length ms) first in
            step_timeless m (record d { choices = choices })

        one_kept : (m : Move) (ms : List Move) (d : All C) → (take_one plan k limits m ms d).clock ≡ d.clock
        one_kept m [] d = step_timeless m d
        one_kept m (x ∷ ms) d = by_kept m (m ∷ x ∷ ms) d.choices d

        by : ((d : All C) → (go n d).clock ≡ d.clock) → (ms : List Move) → (run_by plan k limits (go n) ms c).clock ≡ c.clock
        by ih [] = refl
        by ih (m ∷ ms) = ih (take_one plan k limits m ms c) ∙ one_kept m ms c

  -- More to do.

  abbrev IsMore : State → Type 0
  IsMore state.Ended = ⊥
  IsMore state.OutputFull = ⊥
  IsMore state.More = Unit {0}
  IsMore (state.Waiting ms) = ⊥
  IsMore state.Stuck = ⊥

  waits : (times : List ℕ) → IsMore (waiting_by plan k.barrier times) → ⊥
  waits [] h = h
  waits (t ∷ ts) h = h

  module _ (c : All C) where
    abbrev s : All Seen
    s = seen plan k c

    -- a move is enabled exactly where there is more to do
    pub more_moves : state_at plan k c ≡ state.More → ¬ (moves_at plan k c ≡ [])
    more_moves e none = by (has_ended plan k.barrier s.tasks) s.shared.cut (subst IsMore (sym e) tt)
      where
        by : (ended cut : Bool) → IsMore (state_by plan k.barrier ended cut s) → ⊥
        by true cut h = h
        by false true h = h
        by false false h = waits _ (subst (λ ms. IsMore (some_move plan k.barrier ms s)) none h)

    pub no_moves : ¬ (state_at plan k c ≡ state.More) → moves_at plan k c ≡ []
    no_moves not_more = by (has_ended plan k.barrier s.tasks) s.shared.cut refl refl
      where
        by : (ended cut : Bool) → has_ended plan k.barrier s.tasks ≡ ended → s.shared.cut ≡ cut → moves_at plan k c ≡ []
        by true cut h h' = ap (λ b. moves_by plan k.barrier b s.shared.cut s) h
        by false true h h' = ap (λ b. moves_by plan k.barrier b s.shared.cut s) h ∙ ap (λ b. moves_by plan k.barrier false b s) h'
        by false false h h' = list (moves_at plan k c) refl
          where
            is : state_at plan k c ≡ some_move plan k.barrier (moves_at plan k c) s
            is = ap (λ b. state_by plan k.barrier b s.shared.cut s) h ∙ ap (λ b. state_by plan k.barrier false b s) h'

            list : (ms : List Move) → moves_at plan k c ≡ ms → moves_at plan k c ≡ []
            list [] e = e
            list (m ∷ ms) e = absurd (not_more (is ∙ ap (λ xs. some_move plan k.barrier xs s) e))

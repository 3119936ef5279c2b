-- A program is stuck exactly where nothing can happen any more, however long the user waits.
use Rattle.std.proofs.Common.{◌≡◌, ℕ, suc, ◌+◌, ◌≤◌, nat_le, List, [], ◌∷◌, ◌++◌, map, filter, Option, Some, None, Bool, true, false, Result, refl, sym, ap, ◌∙◌, subst, if◌then◌else◌, ◌⊎◌, inl, inr, arith}
use Rattle.std.specs.Prelude.{◌&&◌, not}
use Rattle.std.proofs.lemmas.Bool.{le-leb}
use Rattle.aud_text.specs.declared.raise.Raise.{Raise}
use Rattle.aud_typed.specs.Tree.{Plan}
use Rattle.aud_meaning.specs.declared.state.State.{State}
use Rattle.aud_meaning.specs.declared.state.State.TheVariants as state
use Rattle.aud_meaning.specs.declared.state.Status.{Status}
use Rattle.aud_meaning.specs.declared.state.Status.TheVariants.{Created, Running, Activating, Accepting, Delaying, Calling, Completed, Terminated}
use Rattle.aud_meaning.specs.declared.state.Owner.{Owner}
use Rattle.aud_meaning.specs.declared.state.Owner.TheVariants as owner
use Rattle.aud_meaning.specs.declared.state.OpenDelay.{OpenDelay}
use Rattle.aud_meaning.specs.declared.state.Serving.{Serving}
use Rattle.aud_meaning.specs.declared.state.Move.{Move}
use Rattle.aud_meaning.specs.Configuration.{Call, TaskAt, All}
use Rattle.aud_meaning.specs.Evaluation.{Sight}
use Rattle.aud_meaning.specs.Control.{Coming, simply, ending, selecting, calling, starting, Seen, Controls}
use Rattle.aud_meaning.specs.Parts.{call_of, in_action, is_queued, own_of, queue}
use Rattle.aud_meaning.specs.Tasks.{barrier_of, eligible_if, eligible_from, entries_of}
use Rattle.aud_meaning.specs.Run.{picks, own_move, Turn, resting, closing, completing, withdrawing, serving, restarting, expiring, cancelling, acting, is_bound, Deferred, at_once, usual, under_way, turn_by, turn, serve_moves, owner_idle, call_time_by, call_time, end_moves, call_moves, ending_moves, acting_moves, turn_moves, moves_from, has_ended, moves_by, turn_times, times_from, waiting_by, some_move, state_by, seen, moves_at, state_at, master_left_by, construct_left, again_left}
use Rattle.aud_meaning.specs.Why.Stuck.{waited, NothingCanHappen, StuckLaw}

-- Lists with something in them.

abbrev Full : {A : Type 0} → List A → Type 0
Full [] = ⊥
Full (x ∷ xs) = Unit {0}

not_full : {A : Type 0} (x : A) (xs : List A) → x ∷ xs ≡ [] → ⊥
not_full x xs h = subst (λ l. Full l) h tt

none_left : {A : Type 0} (xs ys : List A) → xs ++ ys ≡ [] → xs ≡ []
none_left [] ys h = refl
none_left (x ∷ xs) ys h = absurd (not_full x (xs ++ ys) h)

none_right : {A : Type 0} (xs ys : List A) → xs ++ ys ≡ [] → ys ≡ []
none_right [] ys h = h
none_right (x ∷ xs) ys h = absurd (not_full x (xs ++ ys) h)

full_left : {A : Type 0} (xs ys : List A) → Full xs → Full (xs ++ ys)
full_left [] ys h = absurd h
full_left (x ∷ xs) ys h = tt

full_right : {A : Type 0} (xs ys : List A) → Full ys → Full (xs ++ ys)
full_right [] ys h = h
full_right (x ∷ xs) ys h = tt

abbrev first_of : List ℕ → ℕ
first_of [] = 0
first_of (n ∷ ns) = n

-- something is in it, and the first of it has come
abbrev Due : ℕ → List ℕ → Type 0
Due t ns = Full ns × (first_of ns ≤ t)

due_in : (t : ℕ) (ms ns : List ℕ) → Due t (ms ++ ns) → Due t ms ⊎ Due t ns
due_in t [] ns h = inr h
due_in t (m ∷ ms) ns h = inl (tt, h.1)

kept_first : {A : Type 0} (f : A → Move) (b : Bool) (x : A) (xs ys : List A) → b ≡ true → Full (map f (if b then x ∷ xs else ys))
kept_first f b x xs ys h = subst (λ e. Full (map f (if e then x ∷ xs else ys))) (sym h) tt

module _ (plan : Plan) (barrier : ℕ → Sight → Result Bool Raise) (s : All Seen) (choices : List ℕ) (t : ℕ) where
  -- the same at another time, and with other choices waiting
  abbrev later : All Seen
  later = record s { choices = choices; clock = t }

  -- What a task does next is the same at any time, whichever choices wait.

  usual_same : (v : Option Serving) (status : Status) (n : ℕ) (x : TaskAt Seen) → usual plan barrier v status n x later ≡ usual plan barrier v status n x s
  usual_same (Some v) status n x = refl
  usual_same None Created n x = refl
  usual_same None Running n x = refl
  usual_same None Activating n x = refl
  usual_same None Accepting n x = refl
  usual_same None Delaying n x = refl
  usual_same None Calling n x = refl
  usual_same None Completed n x = refl
  usual_same None Terminated n x = refl

  bound_same : (status : Status) (n : ℕ) (x : TaskAt Seen) → is_bound plan barrier status n x later ≡ is_bound plan barrier status n x s
  bound_same Created n x = refl
  bound_same Running n x = refl
  bound_same Activating n x = refl
  bound_same Accepting n x = refl
  bound_same Delaying n x = refl
  bound_same Calling n x = refl
  bound_same Completed n x = refl
  bound_same Terminated n x = refl

  deferred_same : (n : ℕ) (x : TaskAt Seen) → Deferred plan barrier n x later ≡ Deferred plan barrier n x s
  deferred_same n x = ap (λ b. if in_action n s then true else b) (bound_same x.own.status n x)

  -- of an abnormal task: whether its abort is deferred
  abbrev way : ℕ → TaskAt Seen → All Seen → Bool → Turn
  way n x c true = usual plan barrier x.own.serving x.own.status n x c
  way n x c false = at_once plan barrier x.own.withdraw

  way_same : (b : Bool) (n : ℕ) (x : TaskAt Seen) → way n x later b ≡ way n x s b
  way_same true n x = usual_same x.own.serving x.own.status n x
  way_same false n x = refl

  under_way_same : (b : Bool) (n : ℕ) (x : TaskAt Seen) → under_way plan barrier b n x later ≡ under_way plan barrier b n x s
  under_way_same false n x = usual_same x.own.serving x.own.status n x
  under_way_same true n x = ap (way n x later) (deferred_same n x) ∙ way_same (Deferred plan barrier n x s) n x

  turn_by_same : (status : Status) (n : ℕ) (x : TaskAt Seen) → turn_by plan barrier status n x later ≡ turn_by plan barrier status n x s
  turn_by_same Created n x = refl
  turn_by_same Running n x = under_way_same x.own.abnormal n x
  turn_by_same Activating n x = under_way_same x.own.abnormal n x
  turn_by_same Accepting n x = under_way_same x.own.abnormal n x
  turn_by_same Delaying n x = under_way_same x.own.abnormal n x
  turn_by_same Calling n x = under_way_same x.own.abnormal n x
  turn_by_same Completed n x = refl
  turn_by_same Terminated n x = refl

  pub turn_same : (n : ℕ) (x : TaskAt Seen) → turn plan barrier n x later ≡ turn plan barrier n x s
  turn_same n x = turn_by_same x.own.status n x

  -- Without a time no other time makes a difference.

  eligible_same : (index : ℕ) (entries : List ℕ) (object : ℕ) → eligible_from plan barrier index entries object later ≡ eligible_from plan barrier index entries object s
  eligible_same index [] object = refl
  eligible_same index (entry ∷ entries) object =
      ap (eligible_if (queue object entry s.shared.calls) (barrier_of plan barrier object entry s) index) (eligible_same (suc index) entries object)

  idle_same : (o : Owner) → owner_idle plan barrier o later ≡ owner_idle plan barrier o s
  idle_same (owner.Task m) = refl
  idle_same (owner.Object o) = refl

  call_time_same : (call : Call) → call_time plan barrier call later ≡ call_time plan barrier call s
  call_time_same call = ap (λ b. if is_queued call.state && not call.stays && b then call_time_by call.form else []) (idle_same call.owner)

  end_same : (master : Option ℕ) (n : ℕ) → end_moves plan barrier master n later ≡ end_moves plan barrier master n s
  end_same None n = refl
  end_same (Some master) n = refl

  call_same : (task : Option ℕ) (entry n : ℕ) → call_moves plan barrier task entry n later ≡ call_moves plan barrier task entry n s
  call_same None entry n = refl
  call_same (Some task) entry n = refl

  ending_same : (x : Option (ℕ × ℕ)) (n : ℕ) → ending_moves plan barrier x n later ≡ ending_moves plan barrier x n s
  ending_same None n = end_same (master_left_by (construct_left (own_of n s))) n
  ending_same (Some x) n = call_same (Some x.0) x.1 n

  acting_same : (next : Coming) (n : ℕ) → acting_moves plan barrier next n later ≡ acting_moves plan barrier next n s
  acting_same (simply w) n = refl
  acting_same ending n = ending_same (again_left (own_of n s).pending (own_of n s).again (construct_left (own_of n s))) n
  acting_same (selecting ones) n = refl
  acting_same (calling task entry) n = call_same task entry n
  acting_same (starting object reading) n = refl

  -- those of these times that have come
  abbrev come : ℕ → List ℕ → List Move
  come n times = map (λ time. own_move n) (filter (λ time. nat_le time t) times)

  turn_still : (u : Turn) (n : ℕ) → turn_times plan barrier u s ≡ [] → turn_moves plan barrier u n later ≡ turn_moves plan barrier u n s
  turn_still resting n h = refl
  turn_still closing n h = refl
  turn_still completing n h = refl
  turn_still (withdrawing object) n h = refl
  turn_still (restarting r) n h = refl
  turn_still (serving v) n h = ap (λ r. serve_moves plan barrier r n) (eligible_same 1 (entries_of plan barrier v.object s) v.object)
  turn_still (expiring []) n h = refl
  turn_still (expiring (d ∷ ds)) n h = absurd (not_full _ _ h)
  turn_still (cancelling id) n h =
      let now = (λ (times : List ℕ). map (λ time. own_move n) (filter (λ time. nat_le time s.clock) times)) in
      ap (come n) (call_time_same (call_of id s) ∙ h) ∙ sym (ap now h)
  turn_still (acting next) n h = acting_same next n

  moves_still : (n : ℕ) (xs : List (TaskAt Seen)) → times_from plan barrier n xs s ≡ [] → moves_from plan barrier n xs later ≡ moves_from plan barrier n xs s
  moves_still n [] h = refl
  moves_still n (x ∷ xs) h =
      let u : Turn = turn plan barrier n x s in
      ap (λ v. turn_moves plan barrier v n later ++ moves_from plan barrier (suc n) xs later) (turn_same n x)
      ∙ ap (λ ms. ms ++ moves_from plan barrier (suc n) xs later) (turn_still u n (none_left (turn_times plan barrier u s) (times_from plan barrier (suc n) xs s) h))
      ∙ ap (λ ms. turn_moves plan barrier u n s ++ ms) (moves_still (suc n) xs (none_right (turn_times plan barrier u s) (times_from plan barrier (suc n) xs s) h))

  -- At a time that is waited for there is a move.

  come_due : (n : ℕ) (times : List ℕ) → Due t times → Full (come n times)
  come_due n [] h = absurd h.0
  come_due n (m ∷ ms) h = kept_first (λ time. own_move n) (nat_le m t) m _ _ (le-leb m t h.1)

  turn_due : (u : Turn) (n : ℕ) → Due t (turn_times plan barrier u s) → Full (turn_moves plan barrier u n later)
  turn_due resting n h = absurd h.0
  turn_due closing n h = absurd h.0
  turn_due completing n h = absurd h.0
  turn_due (withdrawing object) n h = absurd h.0
  turn_due (serving v) n h = absurd h.0
  turn_due (restarting r) n h = absurd h.0
  turn_due (expiring []) n h = absurd h.0
  turn_due (expiring (d ∷ ds)) n h = kept_first (λ (e : OpenDelay). picks n e.alternative) (nat_le d.time t) d _ _ (le-leb d.time t h.1)
  turn_due (cancelling id) n h =
      subst (λ times. Full (come n times)) (sym (call_time_same (call_of id s))) (come_due n (call_time plan barrier (call_of id s) s) h)
  turn_due (acting next) n h = absurd h.0

  moves_due : (n : ℕ) (xs : List (TaskAt Seen)) → Due t (times_from plan barrier n xs s) → Full (moves_from plan barrier n xs later)
  moves_due n [] h = absurd h.0
  moves_due n (x ∷ xs) h =
      subst (λ u. Full (turn_moves plan barrier u n later ++ moves_from plan barrier (suc n) xs later)) (sym (turn_same n x))
      (by (moves_due (suc n) xs) (due_in t (turn_times plan barrier (turn plan barrier n x s) s) (times_from plan barrier (suc n) xs s) h))
    where
      by : (Due t (times_from plan barrier (suc n) xs s) → Full (moves_from plan barrier (suc n) xs later)) → Due t (turn_times plan barrier (turn plan barrier n x s) s) ⊎ Due t (times_from plan barrier (suc n) xs s) → Full (turn_moves plan barrier (turn plan barrier n x s) n later ++ moves_from plan barrier (suc n) xs later)
      by rest (inl now) = full_left _ _ (turn_due (turn plan barrier n x s) n now)
      by rest (inr after) = full_right (turn_moves plan barrier (turn plan barrier n x s) n later) _ (rest after)

-- the clock after these waits
abbrev clock_after : List ℕ → ℕ → ℕ
clock_after [] clock = clock
clock_after (milliseconds ∷ more) clock = clock_after more (clock + milliseconds)

module _ {C : Type 0} (plan : Plan) (k : Controls C) where
  waited_is : (times : List ℕ) (c : All C) → waited times c ≡ record c { clock = clock_after times c.clock }
  waited_is [] c = refl
  waited_is (milliseconds ∷ more) c = waited_is more (record c { clock = c.clock + milliseconds })

  abbrev IsStuck : State → Type 0
  IsStuck state.Ended = ⊥
  IsStuck state.OutputFull = ⊥
  IsStuck state.More = ⊥
  IsStuck (state.Waiting ms) = ⊥
  IsStuck state.Stuck = Unit {0}

  module _ (c : All C) where
    abbrev s : All Seen
    s = seen plan k c

    abbrev Times : List ℕ
    Times = times_from plan k.barrier 0 s.tasks s

    -- the moves at some time, where the program has not ended and its output is not full
    moves_then : (t : ℕ) → has_ended plan k.barrier s.tasks ≡ false → c.shared.cut ≡ false → moves_at plan k (record c { clock = t }) ≡ moves_from plan k.barrier 0 s.tasks (later plan k.barrier s c.choices t)
    moves_then t ended cut =
        ap (λ b. moves_by plan k.barrier b c.shared.cut (later plan k.barrier s c.choices t)) ended
        ∙ ap (λ b. moves_by plan k.barrier false b (later plan k.barrier s c.choices t)) cut

    state_then : has_ended plan k.barrier s.tasks ≡ false → c.shared.cut ≡ false → state_at plan k c ≡ some_move plan k.barrier (moves_from plan k.barrier 0 s.tasks s) s
    state_then ended cut =
        ap (λ b. state_by plan k.barrier b s.shared.cut s) ended ∙ ap (λ b. state_by plan k.barrier false b s) cut
        ∙ ap (λ ms. some_move plan k.barrier ms s) (moves_then c.clock ended cut)

    rests : state_at plan k c ≡ state.Stuck → NothingCanHappen C plan k c
    rests e = by (has_ended plan k.barrier s.tasks) s.shared.cut refl refl (subst IsStuck (sym e) tt)
      where
        quiet : has_ended plan k.barrier s.tasks ≡ false → c.shared.cut ≡ false → moves_from plan k.barrier 0 s.tasks s ≡ [] → Times ≡ [] → NothingCanHappen C plan k c
        quiet ended cut none timeless = record {
          not_ended = ended;
          not_full = cut;
          no_move = λ times.
              ap (λ d. moves_at plan k d) (waited_is times c) ∙ moves_then (clock_after times c.clock) ended cut
              ∙ moves_still plan k.barrier s c.choices (clock_after times c.clock) 0 s.tasks timeless ∙ none;
        }

        timed : (times : List ℕ) → Times ≡ times → has_ended plan k.barrier s.tasks ≡ false → c.shared.cut ≡ false → moves_from plan k.barrier 0 s.tasks s ≡ [] → IsStuck (waiting_by plan k.barrier times) → NothingCanHappen C plan k c
        timed [] timeless ended cut none h = quiet ended cut none timeless
        timed (m ∷ ms) same ended cut none h = absurd h

        listed : (ms : List Move) → moves_from plan k.barrier 0 s.tasks s ≡ ms → has_ended plan k.barrier s.tasks ≡ false → c.shared.cut ≡ false → IsStuck (some_move plan k.barrier ms s) → NothingCanHappen C plan k c
        listed [] none ended cut h = timed Times refl ended cut none h
        listed (m ∷ ms) same ended cut h = absurd h

        by : (ended cut : Bool) → has_ended plan k.barrier s.tasks ≡ ended → s.shared.cut ≡ cut → IsStuck (state_by plan k.barrier ended cut s) → NothingCanHappen C plan k c
        by true cut h h' i = absurd i
        by false true h h' i = absurd i
        by false false h h' i =
            listed (moves_from plan k.barrier 0 s.tasks s) refl h h' (subst (λ ms. IsStuck (some_move plan k.barrier ms s)) (moves_then c.clock h h') i)

    is_stuck : NothingCanHappen C plan k c → state_at plan k c ≡ state.Stuck
    is_stuck r =
        state_then r.not_ended r.not_full
        ∙ ap (λ ms. some_move plan k.barrier ms s) (sym (moves_then c.clock r.not_ended r.not_full) ∙ r.no_move [])
        ∙ by Times refl
      where
        by : (times : List ℕ) → Times ≡ times → waiting_by plan k.barrier times ≡ state.Stuck
        by [] e = refl
        by (m ∷ ms) e =
            let t : ℕ = c.clock + m in
            let due : Due t Times = subst (λ times. Due t times) (sym e) (tt, omega arith) in
            let none : moves_from plan k.barrier 0 s.tasks (later plan k.barrier s c.choices t) ≡ [] = sym (moves_then t r.not_ended r.not_full) ∙ r.no_move (m ∷ []) in
            absurd (subst (λ xs. Full xs) none (moves_due plan k.barrier s c.choices t 0 s.tasks due))

pub stuck_law : {C : Type 0} → StuckLaw C
stuck_law = λ plan k c. (rests plan k c, is_stuck plan k c)

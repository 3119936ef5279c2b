-- The moves of all tasks, task by task.
use Rattle.std.proofs.Common.{◌≡◌, ◌<◌, ◌≤◌, ◌+◌, ℕ, zero, suc, List, [], ◌∷◌, ◌++◌, length, drop, map, get_or, Option, Some, None, Bool, true, false, Result, Ok, Err, if◌then◌else◌, slice_get, slice_index_or, add-one, append_assoc, refl, ap, sym, ◌∙◌, arith}
use Rattle.std.proofs.lemmas.List.{at_drop_all, at_drop_more}
use Rattle.std.proofs.lemmas.Option.{slice_get-get_or, slice_get_within}
use Rattle.std.specs.Prelude.{filter, is_some, nat_le, not, ◌&&◌, ◌||◌}
use Rattle.aud_text.specs.declared.raise.Raise.{Raise}
use Rattle.aud_typed.specs.Tree.{Plan}
use Rattle.aud_meaning.specs.declared.state.Form.{Form}
use Rattle.aud_meaning.specs.declared.state.Form.TheVariants.{Plain, Conditional, TimedTo}
use Rattle.aud_meaning.specs.declared.state.Move.{Move}
use Rattle.aud_meaning.specs.declared.state.Owner.{Owner}
use Rattle.aud_meaning.specs.declared.state.Owner.TheVariants as owner
use Rattle.aud_meaning.specs.declared.state.State.{State}
use Rattle.aud_meaning.specs.declared.state.State.TheVariants as state
use Rattle.aud_meaning.specs.Configuration.{Call, Opened, Own, Shared, TaskAt, All}
use Rattle.aud_meaning.specs.Control.{Coming, Seen, simply, ending, selecting, calling, starting}
use Rattle.aud_meaning.specs.Parts.{any, body_master, depends, facts_in, in_the_way, is_queued, is_terminated, may_terminate, nobody, object_of, open_alternatives, own_of, owns, queue, Closable}
use Rattle.aud_meaning.specs.Run.{acting, acting_moves, again_left, alternatives_of, call_moves, call_time, call_time_by, construct_left, each_or_one, end_moves, ending_moves, has_ended, has_queue, master_left_by, moves_at, moves_by, moves_from, only, own_move, owner_idle, seen, seen_from, serve_moves, some_move, state_at, state_by, times_from, turn_at, turn_moves, turn_times, waiting_by}
use Rattle.aud_meaning.specs.Tasks.{barrier_of, eligible, eligible_from, eligible_if, entries_of}
use Rattle.aud_code.specs.Places.{Spot}
use Rattle.aud_code.specs.Flat.{Flat, barrier_at, flat_controls}
use Rattle.aud_calls.specs.Cancelling.{time_by}
use Rattle.aud_state.specs.Reads.{cancelled_from, is_free, IsPlain}
use Rattle.aud_masters.specs.Leaving.{leaves_freely, may_leave}
use Rattle.aud_tasks.specs.declared.turn.Turn.{Turn}
use Rattle.aud_tasks.specs.declared.turn.Turn.TheVariants.{Acting}
use Rattle.aud_tasks.specs.Choices.{again_in, IsNoStart}
use Rattle.aud_tasks.specs.Enabled as told
use Rattle.aud_tasks.specs.Moving.{alone_if, has_some, moves_behind, moves_of, times_of, IsNextMover, IsSimple, IsSingle}
use Rattle.aud_tasks.specs.Turning.{coming_in, turn_in, turned}
use Rattle.aud_tasks.proofs.MoveLaws.Again.{leaves_none}
use Rattle.aud_tasks.proofs.StepLaws.Turning.{turn_plain}
use Rattle.aud_tasks.proofs.ViewLaws.Seen.{none_seen}

-- Parts of lists.

pub none_first : (ms : List Move) → has_some ms ≡ false → ms ≡ []
none_first [] h = refl
none_first (m ∷ ms) h = absurd cc

some_before : (ms ns : List Move) → has_some ms ≡ true → has_some (ms ++ ns) ≡ true
some_before [] ns h = absurd cc
some_before (m ∷ ms) ns h = refl

pub some_there : (ms : List Move) → has_some ms ≡ true → (m : Move) × (slice_get ms 0 ≡ Some m)
some_there [] h = absurd cc
some_there (m ∷ ms) h = (m, refl)

pub get_within : {A : Type 0} (xs ys : List A) (n : ℕ) (x : A) → slice_get xs n ≡ Some x → slice_get (xs ++ ys) n ≡ Some x
get_within [] ys n x is = absurd cc
get_within (z ∷ xs) ys zero x is = is
get_within (z ∷ xs) ys (suc n) x is = get_within xs ys n x is

pub get_none : {A : Type 0} (xs : List A) (n : ℕ) → slice_get xs n ≡ None → length xs ≤ n
get_none [] n is = omega arith
get_none (z ∷ xs) zero is = absurd cc
get_none (z ∷ xs) (suc n) is = let h = get_none xs n is in omega (arith, h)

pub get_behind : {A : Type 0} (xs ys : List A) (n k : ℕ) → slice_get xs n ≡ None → n ≡ length xs + k → slice_get (xs ++ ys) n ≡ slice_get ys k
get_behind [] ys n k is e =
    let same : n ≡ k = omega (arith, e) in
    ap (slice_get ys) same
get_behind (z ∷ xs) ys zero k is e = absurd cc
get_behind (z ∷ xs) ys (suc n) k is e = get_behind xs ys n k is (omega (arith, e))

joined : {A : Type 0} (xs ys : List A) → length (xs ++ ys) ≡ length xs + length ys
joined [] ys = omega arith
joined (x ∷ xs) ys = let h = joined xs ys in omega (arith, h)

module _ (plan : Plan) (code : Flat) where
  -- What is seen of all tasks.

  owns_seen : (i : ℕ) (ts : List (TaskAt Spot)) (os : List Own) (shared : Shared) → owns (seen_from plan (flat_controls plan code) i ts os shared) ≡ owns ts
  owns_seen i [] os shared = refl
  owns_seen i (t ∷ ts) os shared = ap (λ xs. t.own ∷ xs) (owns_seen (suc i) ts os shared)

  any_seen : (f : Own → Bool) (i : ℕ) (ts : List (TaskAt Spot)) (os : List Own) (shared : Shared) → any (λ (t : TaskAt Seen). f t.own) (seen_from plan (flat_controls plan code) i ts os shared) ≡ any (λ (t : TaskAt Spot). f t.own) ts
  any_seen f i [] os shared = refl
  any_seen f i (t ∷ ts) os shared = ap (λ b. f t.own || b) (any_seen f (suc i) ts os shared)

  many_seen : (i : ℕ) (ts : List (TaskAt Spot)) (os : List Own) (shared : Shared) → length (seen_from plan (flat_controls plan code) i ts os shared) ≡ length ts
  many_seen i [] os shared = refl
  many_seen i (t ∷ ts) os shared = ap suc (many_seen (suc i) ts os shared)

  ended_seen : (ts : List (TaskAt Spot)) (os : List Own) (shared : Shared) → has_ended plan (barrier_at code) (seen_from plan (flat_controls plan code) 0 ts os shared) ≡ is_terminated (slice_index_or (owns ts) 0 nobody).status
  ended_seen [] os shared = refl
  ended_seen (t ∷ ts) os shared = refl

  pub only_if : (b : Bool) (n : ℕ) → alone_if b n ≡ only plan (barrier_at code) b n
  only_if true n = refl
  only_if false n = refl

  -- one for each, as they are told
  pub each_told : (numbers : List ℕ) (n : ℕ) → told.each_or_one n numbers ≡ serve_moves plan (barrier_at code) (Ok numbers) n
  each_told [] n = refl
  each_told (a ∷ more) n = refl

  -- one that services an object always has some
  pub serve_some : (entries : Result (List ℕ) Raise) (n : ℕ) → has_some (serve_moves plan (barrier_at code) entries n) ≡ true
  serve_some (Err raise) n = refl
  serve_some (Ok []) n = refl
  serve_some (Ok (e ∷ es)) n = refl

  module _ (c : All Spot) where
    abbrev d : All Seen
    d = seen plan (flat_controls plan code) c

    abbrev pub from : ℕ → List Move
    from n = moves_from plan (barrier_at code) n (drop n d.tasks) d

    abbrev pub times : ℕ → List ℕ
    times n = times_from plan (barrier_at code) n (drop n d.tasks) d

    pub many : length d.tasks ≡ length c.tasks
    many = many_seen 0 c.tasks (owns c.tasks) c.shared

    -- only one that is there acts
    turn_there : (n : ℕ) (x : Coming) (o : Option (TaskAt Seen)) → slice_get d.tasks n ≡ o → turn_at plan (barrier_at code) o n d ≡ acting x → n < length c.tasks
    turn_there n x None is h = absurd cc
    turn_there n x (Some t) is h = let inside = slice_get_within d.tasks n t is in omega (arith, inside, many)

    pub acting_there : (n : ℕ) (u : Turn) → turn_in plan code n c ≡ turned plan code n c u → u ≡ Acting → n < length c.tasks
    acting_there n u h is = turn_there n (coming_in plan code n c) (slice_get d.tasks n) refl (h ∙ ap (turned plan code n c) is)

    pub own_seen : (n : ℕ) → own_of n d ≡ own_of n c
    own_seen n = ap (λ os. slice_index_or os n nobody) (owns_seen 0 c.tasks (owns c.tasks) c.shared)

    pub closable_seen : (master : ℕ) → Closable master d ≡ Closable master c
    closable_seen master = ap not (any_seen (λ o. depends master o && not (may_terminate o)) 0 c.tasks (owns c.tasks) c.shared)

    -- one by one
    pub moves_next : (n : ℕ) → n < length c.tasks → from n ≡ moves_of plan code n c ++ from (n + 1)
    moves_next n within =
        let inside : n < length d.tasks = omega (arith, within, many) in
        at_drop_more (λ ts. moves_from plan (barrier_at code) n ts d) d.tasks n none_seen inside
        ∙ ap (λ k. turn_moves plan (barrier_at code) (turn_at plan (barrier_at code) (Some (get_or d.tasks n none_seen)) n d) n d ++ moves_from plan (barrier_at code) k (drop (n + 1) d.tasks) d) (sym (add-one n))
        ∙ ap (λ o. turn_moves plan (barrier_at code) (turn_at plan (barrier_at code) o n d) n d ++ from (n + 1)) (sym (slice_get-get_or d.tasks n none_seen inside))

    pub moves_past : (n : ℕ) → length c.tasks ≤ n → from n ≡ []
    moves_past n past = at_drop_all (λ ts. moves_from plan (barrier_at code) n ts d) d.tasks n (omega (arith, past, many))

    pub times_next : (n : ℕ) → n < length c.tasks → times n ≡ times_of plan code n c ++ times (n + 1)
    times_next n within =
        let inside : n < length d.tasks = omega (arith, within, many) in
        at_drop_more (λ ts. times_from plan (barrier_at code) n ts d) d.tasks n none_seen inside
        ∙ ap (λ k. turn_times plan (barrier_at code) (turn_at plan (barrier_at code) (Some (get_or d.tasks n none_seen)) n d) d ++ times_from plan (barrier_at code) k (drop (n + 1) d.tasks) d) (sym (add-one n))
        ∙ ap (λ o. turn_times plan (barrier_at code) (turn_at plan (barrier_at code) o n d) d ++ times (n + 1)) (sym (slice_get-get_or d.tasks n none_seen inside))

    pub times_past : (n : ℕ) → length c.tasks ≤ n → times n ≡ []
    times_past n past = at_drop_all (λ ts. times_from plan (barrier_at code) n ts d) d.tasks n (omega (arith, past, many))

    -- All of them.

    abbrev ended : Bool
    ended = is_terminated (own_of 0 c).status

    none_by : (e cut : Bool) → not (e || cut) ≡ false → moves_by plan (barrier_at code) e cut d ≡ []
    none_by true cut h = refl
    none_by false true h = refl
    none_by false false h = absurd cc

    all_by : (e cut : Bool) → not (e || cut) ≡ true → moves_by plan (barrier_at code) e cut d ≡ from 0
    all_by true cut h = absurd cc
    all_by false true h = absurd cc
    all_by false false h = refl

    moves_are : moves_at plan (flat_controls plan code) c ≡ moves_by plan (barrier_at code) ended c.shared.cut d
    moves_are = ap (λ e. moves_by plan (barrier_at code) e c.shared.cut d) (ended_seen c.tasks (owns c.tasks) c.shared)

    pub moves_none : not (ended || c.shared.cut) ≡ false → moves_at plan (flat_controls plan code) c ≡ []
    moves_none h = moves_are ∙ none_by ended c.shared.cut h

    pub moves_all : not (ended || c.shared.cut) ≡ true → moves_at plan (flat_controls plan code) c ≡ from 0
    moves_all h = moves_are ∙ all_by ended c.shared.cut h

    -- What can happen next.

    abbrev pub state_is : Bool → Bool → State
    state_is e cut = state_by plan (barrier_at code) e cut d

    pub state_as : (e cut : Bool) → ended ≡ e → c.shared.cut ≡ cut → state_at plan (flat_controls plan code) c ≡ state_is e cut
    state_as e cut is full =
        ap (λ b. state_is b c.shared.cut) (ended_seen c.tasks (owns c.tasks) c.shared ∙ is) ∙ ap (state_is e) full

    some_by : (ms : List Move) (m : Move) → slice_get ms 0 ≡ Some m → some_move plan (barrier_at code) ms d ≡ state.More
    some_by [] m is = absurd cc
    some_by (x ∷ ms) m is = refl

    wait_by : (ms : List Move) → slice_get ms 0 ≡ None → some_move plan (barrier_at code) ms d ≡ waiting_by plan (barrier_at code) (times 0)
    wait_by [] is = refl
    wait_by (x ∷ ms) is = absurd cc

    pub state_more : (m : Move) → ended ≡ false → c.shared.cut ≡ false → slice_get (moves_at plan (flat_controls plan code) c) 0 ≡ Some m → state_at plan (flat_controls plan code) c ≡ state.More
    state_more m is full some = state_as false false is full ∙ some_by (moves_at plan (flat_controls plan code) c) m some

    pub state_waits : ended ≡ false → c.shared.cut ≡ false → slice_get (moves_at plan (flat_controls plan code) c) 0 ≡ None → state_at plan (flat_controls plan code) c ≡ waiting_by plan (barrier_at code) (times 0)
    state_waits is full none = state_as false false is full ∙ wait_by (moves_at plan (flat_controls plan code) c) none

    -- Those told so far, with those of one more task.

    pub listed_more : (n : ℕ) (before told ms : List Move) → n < length c.tasks → told ≡ before ++ ms → ms ≡ moves_of plan code n c → told ++ from (n + 1) ≡ before ++ from n
    listed_more n before told ms within h is =
        ap (λ l. l ++ from (n + 1)) (h ∙ ap (λ m. before ++ m) is)
        ∙ append_assoc before (moves_of plan code n c) (from (n + 1))
        ∙ ap (λ l. before ++ l) (sym (moves_next n within))

    pub nth_here : (n left : ℕ) (ms : List Move) (m : Move) → n < length c.tasks → ms ≡ moves_of plan code n c → slice_get ms left ≡ Some m → slice_get (from n) left ≡ Some m
    nth_here n left ms m within is found =
        ap (λ l. slice_get l left) (moves_next n within ∙ ap (λ l. l ++ from (n + 1)) (sym is))
        ∙ get_within ms (from (n + 1)) left m found

    pub nth_behind : (n left k : ℕ) (ms : List Move) → n < length c.tasks → ms ≡ moves_of plan code n c → slice_get ms left ≡ None → left ≡ length ms + k → slice_get (from n) left ≡ slice_get (from (n + 1)) k
    nth_behind n left k ms within is none e =
        ap (λ l. slice_get l left) (moves_next n within ∙ ap (λ l. l ++ from (n + 1)) (sym is))
        ∙ get_behind ms (from (n + 1)) left k none e

    -- Those of one task, by its turn.

    pub turn_told : (n : ℕ) (x y : Turn) → turn_in plan code n c ≡ turned plan code n c x → x ≡ y → moves_of plan code n c ≡ turn_moves plan (barrier_at code) (turned plan code n c y) n d
    turn_told n x y h is = ap (λ u. turn_moves plan (barrier_at code) u n d) (h ∙ ap (turned plan code n c) is)

    pub times_told : (n : ℕ) (x y : Turn) → turn_in plan code n c ≡ turned plan code n c x → x ≡ y → times_of plan code n c ≡ turn_times plan (barrier_at code) (turned plan code n c y) d
    times_told n x y h is = ap (λ u. turn_times plan (barrier_at code) u d) (h ∙ ap (turned plan code n c) is)

    -- what is seen of an object's entries
    eligible_from_seen : (i : ℕ) (es : List ℕ) (object : ℕ) → eligible_from plan (barrier_at code) i es object c ≡ eligible_from plan (barrier_at code) i es object d
    eligible_from_seen i [] object = refl
    eligible_from_seen i (e ∷ es) object =
        ap (λ os. eligible_if (queue object e c.shared.calls) (barrier_at code e (record { display = (object_of object c).display; frames = c.shared.frames; facts = facts_in os c.shared.calls })) i (eligible_from plan (barrier_at code) (suc i) es object c)) (sym (owns_seen 0 c.tasks (owns c.tasks) c.shared))
        ∙ ap (λ r. eligible_if (queue object e c.shared.calls) (barrier_of plan (barrier_at code) object e d) i r) (eligible_from_seen (suc i) es object)

    pub eligible_seen : (object : ℕ) → eligible plan (barrier_at code) object c ≡ eligible plan (barrier_at code) object d
    eligible_seen object = eligible_from_seen 1 (entries_of plan (barrier_at code) object c) object

    pub closes : (n : ℕ) → alone_if (Closable (body_master (own_of n c)) c) n ≡ only plan (barrier_at code) (Closable (body_master (own_of n d)) d) n
    closes n =
        only_if (Closable (body_master (own_of n c)) c) n
        ∙ ap (λ b. only plan (barrier_at code) b n) (sym (closable_seen (body_master (own_of n c))))
        ∙ ap (λ (o : Own). only plan (barrier_at code) (Closable (body_master o) d) n) (sym (own_seen n))

    each_first : (numbers : List ℕ) (n : ℕ) → has_some (each_or_one plan (barrier_at code) numbers n) ≡ true
    each_first [] n = refl
    each_first (a ∷ more) n = refl

    first_only : (b : Bool) (n : ℕ) → b ≡ has_some (only plan (barrier_at code) b n)
    first_only true n = refl
    first_only false n = refl

    -- one at a call of an object has one where no action is in the way
    pub starts_first : (n object : ℕ) (reading : Bool) → not (in_the_way n reading (object_of object c)) ≡ has_some (acting_moves plan (barrier_at code) (starting object reading) n d)
    starts_first n object reading = first_only (not (in_the_way n reading (object_of object c))) n

    called_first : (x : ℕ × ℕ) (n : ℕ) → true ≡ has_some (call_moves plan (barrier_at code) (Some x.0) x.1 n d)
    called_first x n = sym (each_first (alternatives_of plan (barrier_at code) (open_alternatives (own_of x.0 d) x.1)) n)

    ends_first : (m : Option ℕ) (n : ℕ) → may_leave m c ≡ has_some (end_moves plan (barrier_at code) m n d)
    ends_first None n = refl
    ends_first (Some master) n = sym (closable_seen master) ∙ first_only (Closable master d) n

    -- so does one that makes a call again, which leaves no master
    again_first : (again : Option (ℕ × ℕ)) (os : List Opened) (n : ℕ) → (is_some again ≡ true → master_left_by os ≡ None) → os ≡ construct_left (own_of n d) → may_leave (master_left_by os) c ≡ has_some (ending_moves plan (barrier_at code) again n d)
    again_first None os n none is = ends_first (master_left_by os) n ∙ ap (λ l. has_some (end_moves plan (barrier_at code) (master_left_by l) n d)) is
    again_first (Some x) os n none is = ap (λ m. may_leave m c) (none refl) ∙ called_first x n

    -- one at a choice always has some
    pub leaves_first : (n : ℕ) (x : Coming) → IsNoStart x → leaves_freely (own_of n c) x c ≡ has_some (acting_moves plan (barrier_at code) x n d)
    leaves_first n (simply w) no_start = refl
    leaves_first n ending no_start =
        let o = own_of n c in
        again_first (again_left o.pending o.again (construct_left o)) (construct_left o) n (leaves_none o.pending o.again (construct_left o)) (ap construct_left (sym (own_seen n)))
        ∙ ap (λ (w : Own). has_some (ending_moves plan (barrier_at code) (again_left w.pending w.again (construct_left w)) n d)) (sym (own_seen n))
    leaves_first n (selecting ones) no_start = sym (each_first (alternatives_of plan (barrier_at code) (filter (has_queue plan (barrier_at code) n d) ones)) n)
    leaves_first n (calling None entry) no_start = refl
    leaves_first n (calling (Some task) entry) no_start = called_first (task, entry) n
    leaves_first n (starting object reading) no_start = absurd no_start

    pub some_only : (b : Bool) (n : ℕ) → b ≡ has_some (alone_if b n)
    some_only true n = refl
    some_only false n = refl

    only_single : (b : Bool) (n : ℕ) → alone_if (has_some (only plan (barrier_at code) b n)) n ≡ only plan (barrier_at code) b n
    only_single true n = refl
    only_single false n = refl

    end_single : (m : Option ℕ) (n : ℕ) → alone_if (has_some (end_moves plan (barrier_at code) m n d)) n ≡ end_moves plan (barrier_at code) m n d
    end_single None n = refl
    end_single (Some master) n = only_single (Closable master d) n

    pub simple_moves : (x : Coming) (n : ℕ) → IsSimple x → alone_if true n ≡ acting_moves plan (barrier_at code) x n d
    simple_moves (simply w) n h = refl
    simple_moves ending n h = absurd h
    simple_moves (selecting ones) n h = absurd h
    simple_moves (calling task entry) n h = absurd h
    simple_moves (starting object reading) n h = absurd h

    -- so it is of one that runs as usual
    pub runs_simply : (n : ℕ) → IsPlain (own_of n c) → IsSimple (coming_in plan code n c) → moves_of plan code n c ≡ alone_if true n
    runs_simply n plain simple =
        ap (λ u. turn_moves plan (barrier_at code) u n d) (turn_plain plan code n c plain)
        ∙ sym (simple_moves (coming_in plan code n c) n simple)

    -- those at the end of a construct, with the entry on which its call is made again
    pub ending_seen : (n : ℕ) (again : Option (ℕ × ℕ)) → again_in n c ≡ again → acting_moves plan (barrier_at code) ending n d ≡ ending_moves plan (barrier_at code) again n d
    ending_seen n again is =
        ap (λ (o : Own). ending_moves plan (barrier_at code) (again_left o.pending o.again (construct_left o)) n d) (own_seen n)
        ∙ ap (λ x. ending_moves plan (barrier_at code) x n d) is

    -- one at no choice, which makes no call again, has one at most
    pub single_moves : (x : Coming) (n : ℕ) → IsSingle x → (x ≡ ending → again_in n c ≡ None) → alone_if (has_some (acting_moves plan (barrier_at code) x n d)) n ≡ acting_moves plan (barrier_at code) x n d
    single_moves (simply w) n single none = refl
    single_moves ending n single none =
        let is = ending_seen n None (none refl) in
        ap (λ ms. alone_if (has_some ms) n) is ∙ end_single (master_left_by (construct_left (own_of n d))) n ∙ sym is
    single_moves (selecting ones) n single none = absurd single
    single_moves (calling task entry) n single none = absurd single
    single_moves (starting object reading) n single none = only_single (not (in_the_way n reading (object_of object d))) n

    -- the time of a call
    abbrev pub listed : Option ℕ → List ℕ
    listed None = []
    listed (Some time) = time ∷ []

    free_same : (o : Owner) → owner_idle plan (barrier_at code) o d ≡ is_free o c
    free_same (owner.Task m) = refl
    free_same (owner.Object o) = refl

    time_same : (b : Bool) (f : Form) → (if b then call_time_by f else []) ≡ listed (if b then time_by f else None)
    time_same false f = refl
    time_same true Plain = refl
    time_same true (Conditional time) = refl
    time_same true (TimedTo time) = refl

    pub call_times : (call : Call) → call_time plan (barrier_at code) call d ≡ listed (cancelled_from call c)
    call_times call =
        ap (λ b. if is_queued call.state && not call.stays && b then call_time_by call.form else []) (free_same call.owner)
        ∙ time_same (is_queued call.state && not call.stays && is_free call.owner c) call.form

    one_time : (b : Bool) (n time : ℕ) → alone_if b n ≡ map (λ (t : ℕ). own_move n) (if b then time ∷ [] else [])
    one_time true n time = refl
    one_time false n time = refl

    -- with its time found, or none
    pub cancels_by : (call : Call) (n : ℕ) (found : Option ℕ) → found ≡ cancelled_from call c → map (λ (t : ℕ). own_move n) (filter (λ (t : ℕ). nat_le t c.clock) (listed found)) ≡ map (λ (t : ℕ). own_move n) (filter (λ (t : ℕ). nat_le t d.clock) (call_time plan (barrier_at code) call d))
    cancels_by call n found is = ap (λ ts. map (λ (t : ℕ). own_move n) (filter (λ (t : ℕ). nat_le t c.clock) ts)) (ap listed is ∙ sym (call_times call))

    pub cancels_at : (n time : ℕ) → alone_if (nat_le time c.clock) n ≡ map (λ (t : ℕ). own_move n) (filter (λ (t : ℕ). nat_le t c.clock) (time ∷ []))
    cancels_at n time = one_time (nat_le time c.clock) n time

    -- The first task that has a move.

    neither : c.shared.cut ≡ false → ended ≡ false → not (ended || c.shared.cut) ≡ true
    neither full is = ap (λ b. not (ended || b)) full ∙ ap (λ b. not (b || false)) is

    pub mover_moves : (n : ℕ) → IsNextMover plan code 0 n c → ended ≡ false → c.shared.cut ≡ false → has_some (moves_at plan (flat_controls plan code) c) ≡ true
    mover_moves n mover is full =
        ap has_some (moves_all (neither full is) ∙ mover.behind ∙ moves_next n mover.within)
        ∙ some_before (moves_of plan code n c) (from (n + 1)) mover.moves

    pub no_mover : moves_behind plan code 0 c ≡ [] → ended ≡ false → c.shared.cut ≡ false → slice_get (moves_at plan (flat_controls plan code) c) 0 ≡ None
    no_mover none is full = ap (λ ms. slice_get ms 0) (moves_all (neither full is) ∙ none)

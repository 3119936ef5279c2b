-- Steps and runs of programs that are the same but for what nothing names.
use Rattle.std.proofs.Common.{◌≡◌, ℕ, zero, suc, ◌+◌, List, [], ◌∷◌, ◌++◌, map, slice_get, slice_index_or, Option, Some, None, Bool, true, false, refl, sym, ap, ◌∙◌, subst, arith, inl, inr}
use Rattle.std.specs.Prelude.{◌⊎◌, if◌then◌else◌, filter, ◌&&◌, nat_le, Result, Ok, Err, not}
use Rattle.aud_text.specs.declared.raise.Raise.{Raise}
use Rattle.aud_text.specs.declared.limits.Limits.{Limits}
use Rattle.aud_typed.specs.Tree.{Plan}
use Rattle.aud_meaning.specs.Orders.{noted}
use Rattle.aud_meaning.specs.declared.state.Status.{Status}
use Rattle.aud_meaning.specs.declared.state.Status.TheVariants.{Created, Running, Activating, Accepting, Delaying, Calling, Completed, Terminated}
use Rattle.aud_meaning.specs.declared.state.OpenDelay.{OpenDelay}
use Rattle.aud_meaning.specs.declared.state.Serving.{Serving}
use Rattle.aud_meaning.specs.Configuration.{Frame, Own, Call, Shared, TaskAt, All}
use Rattle.aud_meaning.specs.Evaluation.{Sight}
use Rattle.aud_meaning.specs.Control.{Coming, simply, ending, selecting, calling, starting, Asked, Seen, Moved, here, Controls, all_moved}
use Rattle.aud_meaning.specs.Parts.{nobody, owns, own_of, call_of, in_action, is_queued}
use Rattle.aud_meaning.specs.declared.state.Move.{Move}
use Rattle.aud_meaning.specs.Run.{own_move, picks, Turn, resting, closing, completing, withdrawing, serving, expiring, cancelling, acting, usual, at_once, under_way, is_bound, Deferred, turn_by, turn, only, each_or_one, serve_moves, call_time_by, owner_idle, end_moves, acting_moves, turn_moves, moves_from, has_ended, moves_by, moves, alternative_or_none, turn_taken, turn_at, orders, seen, seen_from, scene_of, step_of, step_with, restarting, ending_moves, running, coming_of}
use Rattle.aud_over.specs.Over.{with_kept}
use Rattle.aud_over.specs.Looks.{Looks}
use Rattle.aud_over.specs.Law.{IsOneOf}
use Rattle.aud_over.proofs.Calls.{live_kept, queued_not_over}
use Rattle.aud_over.proofs.Beside.{Kept, TasksName, MayHave, Beside, beside, Names, KeepsRestart, IfNames, got_names}
use Rattle.aud_over.proofs.Constructs.{BarrierLooks, expires_kept}
use Rattle.aud_over.proofs.Tasks.{closes_kept, completes_kept}
use Rattle.aud_over.proofs.Objects.{withdraws_kept, serves_kept, call_expires_kept, starts_again_kept}
use Rattle.aud_over.proofs.Steps.{done_kept}
use Rattle.aud_over.proofs.Looking.{turn_same, seen_same, seen_may, asks_same}
use Rattle.aud_meaning.specs.declared.state.Restart.{Restart}

-- Enabled moves.

abbrev EachMove : ℕ → List Move → Type 0
EachMove n [] = Unit {0}
EachMove n (m ∷ ms) = (m.task ≡ n) × EachMove n ms

of_each : (n : ℕ) (m : Move) (ms : List Move) → EachMove n ms → IsOneOf m ms → m.task ≡ n
of_each n m [] h i = absurd i
of_each n m (x ∷ xs) h (inl e) = ap (λ (y : Move). y.task) e ∙ h.0
of_each n m (x ∷ xs) h (inr i) = of_each n m xs h.1 i

picked : (n a : ℕ) → (picks n a).task ≡ n
picked n zero = refl
picked n (suc a) = refl

picked_each : (n : ℕ) (ns : List ℕ) → EachMove n (map (picks n) ns)
picked_each n [] = tt
picked_each n (a ∷ more) = (picked n a, picked_each n more)

delays_each : (n : ℕ) (ds : List OpenDelay) → EachMove n (map (λ (d : OpenDelay). picks n d.alternative) ds)
delays_each n [] = tt
delays_each n (d ∷ ds) = (picked n d.alternative, delays_each n ds)

times_each : (n : ℕ) (ts : List ℕ) → EachMove n (map (λ time. own_move n) ts)
times_each n [] = tt
times_each n (t ∷ ts) = (refl, times_each n ts)

in_joined : (m : Move) (xs ys : List Move) → IsOneOf m (xs ++ ys) → IsOneOf m xs ⊎ IsOneOf m ys
in_joined m [] ys h = inr h
in_joined m (x ∷ xs) ys (inl e) = inl (inl e)
in_joined m (x ∷ xs) ys (inr h) = by (in_joined m xs ys h)
  where
    by : IsOneOf m xs ⊎ IsOneOf m ys → IsOneOf m (x ∷ xs) ⊎ IsOneOf m ys
    by (inl i) = inl (inr i)
    by (inr i) = inr i

module _ (plan : Plan) (barrier : ℕ → Sight → Result Bool Raise) where
  only_each : (b : Bool) (n : ℕ) → EachMove n (only plan barrier b n)
  only_each true n = (refl, tt)
  only_each false n = tt

  one_each : (ns : List ℕ) (n : ℕ) → EachMove n (each_or_one plan barrier ns n)
  one_each [] n = (refl, tt)
  one_each (a ∷ more) n = picked_each n (a ∷ more)

  serve_each : (x : Result (List ℕ) Raise) (n : ℕ) → EachMove n (serve_moves plan barrier x n)
  serve_each (Err x) n = (refl, tt)
  serve_each (Ok places) n = one_each places n

  end_each : (o : Option ℕ) (n : ℕ) (c : All Seen) → EachMove n (end_moves plan barrier o n c)
  end_each None n c = (refl, tt)
  end_each (Some master) n c = only_each _ n

  ending_each : (o : Option (ℕ × ℕ)) (n : ℕ) (c : All Seen) → EachMove n (ending_moves plan barrier o n c)
  ending_each None n c = end_each _ n c
  ending_each (Some x) n c = one_each _ n

  acting_each : (next : Coming) (n : ℕ) (c : All Seen) → EachMove n (acting_moves plan barrier next n c)
  acting_each (simply w) n c = (refl, tt)
  acting_each ending n c = ending_each _ n c
  acting_each (selecting ones) n c = one_each _ n
  acting_each (calling None entry) n c = (refl, tt)
  acting_each (calling (Some task) entry) n c = one_each _ n
  acting_each (starting object reading) n c = only_each _ n

  turn_each : (u : Turn) (n : ℕ) (c : All Seen) → EachMove n (turn_moves plan barrier u n c)
  turn_each resting n c = tt
  turn_each closing n c = only_each _ n
  turn_each completing n c = (refl, tt)
  turn_each (withdrawing object) n c = only_each _ n
  turn_each (serving s) n c = serve_each _ n
  turn_each (restarting r) n c = only_each _ n
  turn_each (expiring delays) n c = delays_each n _
  turn_each (cancelling id) n c = times_each n _
  turn_each (acting next) n c = acting_each next n c

  -- the task's own, where it is enabled
  abbrev MayTake : Option (TaskAt Seen) → Move → All Seen → Type 0
  MayTake None m c = ⊥
  MayTake (Some t) m c = IsOneOf m (turn_moves plan barrier (turn plan barrier m.task t c) m.task c)

  from_task : (n : ℕ) (ts : List (TaskAt Seen)) (m : Move) (c : All Seen) → IsOneOf m (moves_from plan barrier n ts c) → (i : ℕ) × (t : TaskAt Seen) × (slice_get ts i ≡ Some t) × (m.task ≡ n + i) × IsOneOf m (turn_moves plan barrier (turn plan barrier m.task t c) m.task c)
  from_task n [] m c h = absurd h
  from_task n (t ∷ ts) m c h = by (in_joined m (turn_moves plan barrier (turn plan barrier n t c) n c) (moves_from plan barrier (suc n) ts c) h) (from_task (suc n) ts m c)
    where
      by : IsOneOf m (turn_moves plan barrier (turn plan barrier n t c) n c) ⊎ IsOneOf m (moves_from plan barrier (suc n) ts c) → (IsOneOf m (moves_from plan barrier (suc n) ts c) → (i : ℕ) × (x : TaskAt Seen) × (slice_get ts i ≡ Some x) × (m.task ≡ suc n + i) × IsOneOf m (turn_moves plan barrier (turn plan barrier m.task x c) m.task c)) → (i : ℕ) × (x : TaskAt Seen) × (slice_get (t ∷ ts) i ≡ Some x) × (m.task ≡ n + i) × IsOneOf m (turn_moves plan barrier (turn plan barrier m.task x c) m.task c)
      by (inl now) rest =
          let e : m.task ≡ n = of_each n m (turn_moves plan barrier (turn plan barrier n t c) n c) (turn_each (turn plan barrier n t c) n c) now in
          (0, t, refl, omega (arith, e), subst (λ k. IsOneOf m (turn_moves plan barrier (turn plan barrier k t c) k c)) (sym e) now)
      by (inr later) rest = let r = rest later in (suc r.0, r.1, r.2, omega (arith, r.3), r.4)

  moves_task : (ended cut : Bool) (m : Move) (c : All Seen) → IsOneOf m (moves_by plan barrier ended cut c) → IsOneOf m (moves_from plan barrier 0 c.tasks c)
  moves_task true cut m c h = absurd h
  moves_task false true m c h = absurd h
  moves_task false false m c h = h

  pub may_take : (m : Move) (c : All Seen) → IsOneOf m (moves plan barrier c) → MayTake (slice_get c.tasks m.task) m c
  may_take m c h =
      let r = from_task 0 c.tasks m c (moves_task (has_ended plan barrier c.tasks) c.shared.cut m c h) in
      let e : r.0 ≡ m.task = omega (arith, r.3) in
      let at : slice_get c.tasks m.task ≡ Some r.1 = ap (slice_get c.tasks) (sym e) ∙ r.2 in
      subst (λ o. MayTake o m c) (sym at) r.4

  -- a call that may be cancelled is queued
  queued_of : (b : Bool) (id n : ℕ) (m : Move) (c : All Seen) → is_queued (call_of id c).state ≡ b → IsOneOf m (turn_moves plan barrier (cancelling id) n c) → is_queued (call_of id c).state ≡ true
  queued_of true id n m c e h = e
  queued_of false id n m c e h = absurd (subst (λ b. IsOneOf m (map (λ time. own_move n) (filter (λ time. nat_le time c.clock) (if b && not (call_of id c).stays && owner_idle plan barrier (call_of id c).owner c then call_time_by (call_of id c).form else [])))) e h)

  -- a call that is cancelled is queued
  abbrev QueuedIf : Turn → All Seen → Type 0
  QueuedIf resting c = Unit {0}
  QueuedIf closing c = Unit {0}
  QueuedIf completing c = Unit {0}
  QueuedIf (withdrawing object) c = Unit {0}
  QueuedIf (serving s) c = Unit {0}
  QueuedIf (restarting r) c = Unit {0}
  QueuedIf (expiring delays) c = Unit {0}
  QueuedIf (cancelling id) c = is_queued (call_of id c).state ≡ true
  QueuedIf (acting next) c = Unit {0}

  queued_if : (u : Turn) (n : ℕ) (m : Move) (c : All Seen) → IsOneOf m (turn_moves plan barrier u n c) → QueuedIf u c
  queued_if resting n m c i = tt
  queued_if closing n m c i = tt
  queued_if completing n m c i = tt
  queued_if (withdrawing object) n m c i = tt
  queued_if (serving s) n m c i = tt
  queued_if (restarting r) n m c i = tt
  queued_if (expiring delays) n m c i = tt
  queued_if (cancelling id) n m c i = queued_of (is_queued (call_of id c).state) id n m c refl i
  queued_if (acting next) n m c i = tt

  -- the task of a move may step
  abbrev pub MayStep : Option (TaskAt Seen) → Move → All Seen → Type 0
  MayStep None m c = ⊥
  MayStep (Some t) m c = QueuedIf (turn plan barrier m.task t c) c

  may_by : (o : Option (TaskAt Seen)) (m : Move) (c : All Seen) → MayTake o m c → MayStep o m c
  may_by None m c h = h
  may_by (Some t) m c h = queued_if (turn plan barrier m.task t c) m.task m c h

  pub may_step : (m : Move) (c : All Seen) → IsOneOf m (moves plan barrier c) → MayStep (slice_get c.tasks m.task) m c
  may_step m c h = may_by (slice_get c.tasks m.task) m c (may_take m c h)

  -- whatever choices wait
  abbrev pub choosing : {T : Type 0} → List ℕ → All T → All T
  choosing choices c = record c { choices = choices }

  usual_chosen : (o : Option Serving) (status : Status) (n : ℕ) (t : TaskAt Seen) (cs : List ℕ) (c : All Seen) → usual plan barrier o status n t c ≡ usual plan barrier o status n t (choosing cs c)
  usual_chosen (Some s) status n t cs c = refl
  usual_chosen None Created n t cs c = refl
  usual_chosen None Running n t cs c = refl
  usual_chosen None Activating n t cs c = refl
  usual_chosen None Accepting n t cs c = refl
  usual_chosen None Delaying n t cs c = refl
  usual_chosen None Calling n t cs c = refl
  usual_chosen None Completed n t cs c = refl
  usual_chosen None Terminated n t cs c = refl

  abbrev way_of : ℕ → TaskAt Seen → All Seen → Bool → Turn
  way_of n t c true = usual plan barrier t.own.serving t.own.status n t c
  way_of n t c false = at_once plan barrier t.own.withdraw

  bound_chosen : (status : Status) (n : ℕ) (t : TaskAt Seen) (cs : List ℕ) (c : All Seen) → is_bound plan barrier status n t c ≡ is_bound plan barrier status n t (choosing cs c)
  bound_chosen Created n t cs c = refl
  bound_chosen Running n t cs c = refl
  bound_chosen Activating n t cs c = refl
  bound_chosen Accepting n t cs c = refl
  bound_chosen Delaying n t cs c = refl
  bound_chosen Calling n t cs c = refl
  bound_chosen Completed n t cs c = refl
  bound_chosen Terminated n t cs c = refl

  if_chosen : (b : Bool) (n : ℕ) (t : TaskAt Seen) (cs : List ℕ) (c : All Seen) → way_of n t c b ≡ way_of n t (choosing cs c) b
  if_chosen true n t cs c = usual_chosen t.own.serving t.own.status n t cs c
  if_chosen false n t cs c = refl

  way_chosen : (b : Bool) (n : ℕ) (t : TaskAt Seen) (cs : List ℕ) (c : All Seen) → under_way plan barrier b n t c ≡ under_way plan barrier b n t (choosing cs c)
  way_chosen false n t cs c = usual_chosen t.own.serving t.own.status n t cs c
  way_chosen true n t cs c =
      ap (λ b. way_of n t c (if in_action n c then true else b)) (bound_chosen t.own.status n t cs c)
      ∙ if_chosen (Deferred plan barrier n t (choosing cs c)) n t cs c

  turn_chosen : (status : Status) (n : ℕ) (t : TaskAt Seen) (cs : List ℕ) (c : All Seen) → turn_by plan barrier status n t c ≡ turn_by plan barrier status n t (choosing cs c)
  turn_chosen Created n t cs c = refl
  turn_chosen Running n t cs c = way_chosen t.own.abnormal n t cs c
  turn_chosen Activating n t cs c = way_chosen t.own.abnormal n t cs c
  turn_chosen Accepting n t cs c = way_chosen t.own.abnormal n t cs c
  turn_chosen Delaying n t cs c = way_chosen t.own.abnormal n t cs c
  turn_chosen Calling n t cs c = way_chosen t.own.abnormal n t cs c
  turn_chosen Completed n t cs c = refl
  turn_chosen Terminated n t cs c = refl

  queued_chosen : (u : Turn) (cs : List ℕ) (c : All Seen) → QueuedIf u c → QueuedIf u (choosing cs c)
  queued_chosen resting cs c h = tt
  queued_chosen closing cs c h = tt
  queued_chosen completing cs c h = tt
  queued_chosen (withdrawing object) cs c h = tt
  queued_chosen (serving s) cs c h = tt
  queued_chosen (restarting r) cs c h = tt
  queued_chosen (expiring delays) cs c h = tt
  queued_chosen (cancelling id) cs c h = h
  queued_chosen (acting next) cs c h = tt

  pub step_chosen : (o : Option (TaskAt Seen)) (m : Move) (cs : List ℕ) (c : All Seen) → MayStep o m c → MayStep o m (choosing cs c)
  step_chosen None m cs c h = h
  step_chosen (Some t) m cs c h = subst (λ u. QueuedIf u (choosing cs c)) (turn_chosen t.own.status m.task t cs c) (queued_chosen (turn plan barrier m.task t c) cs c h)

  -- the task's call is kept where it may be cancelled
  abbrev Cancels : Kept → Turn → Type 0
  Cancels p resting = Unit {0}
  Cancels p closing = Unit {0}
  Cancels p completing = Unit {0}
  Cancels p (withdrawing object) = Unit {0}
  Cancels p (serving s) = Unit {0}
  Cancels p (restarting r) = Unit {0}
  Cancels p (expiring delays) = Unit {0}
  Cancels p (cancelling id) = p.kept id
  Cancels p (acting next) = Unit {0}

  may_cancel : (p : Kept) (u : Turn) (c : All Seen) (fs : List Frame) (cs : List Call) → MayHave p c fs cs → QueuedIf u c → Cancels p u
  may_cancel p resting c fs cs h i = tt
  may_cancel p closing c fs cs h i = tt
  may_cancel p completing c fs cs h i = tt
  may_cancel p (withdrawing object) c fs cs h i = tt
  may_cancel p (serving s) c fs cs h i = tt
  may_cancel p (restarting r) c fs cs h i = tt
  may_cancel p (expiring delays) c fs cs h i = tt
  may_cancel p (cancelling id) c fs cs h i = live_kept p.kept c.shared.calls cs h.calls id (queued_not_over (call_of id c).state i)
  may_cancel p (acting next) c fs cs h i = tt

  -- it is the task's own call that may be cancelled
  abbrev OfOwn : Turn → TaskAt Seen → Type 0
  OfOwn resting t = Unit {0}
  OfOwn closing t = Unit {0}
  OfOwn completing t = Unit {0}
  OfOwn (withdrawing object) t = Unit {0}
  OfOwn (serving s) t = Unit {0}
  OfOwn (restarting r) t = t.own.restart ≡ Some r
  OfOwn (expiring delays) t = Unit {0}
  OfOwn (cancelling id) t = id ≡ t.own.call
  OfOwn (acting next) t = Unit {0}

  running_own : (o : Option Restart) (next : Coming) (t : TaskAt Seen) → t.own.restart ≡ o → OfOwn (running plan barrier o next) t
  running_own None next t e = tt
  running_own (Some r) next t e = e

  usual_own : (o : Option Serving) (status : Status) (n : ℕ) (t : TaskAt Seen) (c : All Seen) → OfOwn (usual plan barrier o status n t c) t
  usual_own (Some s) status n t c = tt
  usual_own None Created n t c = tt
  usual_own None Running n t c = running_own t.own.restart (coming_of plan barrier n t c) t refl
  usual_own None Activating n t c = tt
  usual_own None Accepting n t c = tt
  usual_own None Delaying n t c = tt
  usual_own None Calling n t c = refl
  usual_own None Completed n t c = tt
  usual_own None Terminated n t c = tt

  at_once_own : (o : Option ℕ) (t : TaskAt Seen) → OfOwn (at_once plan barrier o) t
  at_once_own None t = tt
  at_once_own (Some object) t = tt

  if_own : (b : Bool) (n : ℕ) (t : TaskAt Seen) (c : All Seen) → OfOwn (way_of n t c b) t
  if_own true n t c = usual_own t.own.serving t.own.status n t c
  if_own false n t c = at_once_own t.own.withdraw t

  way_own : (b : Bool) (n : ℕ) (t : TaskAt Seen) (c : All Seen) → OfOwn (under_way plan barrier b n t c) t
  way_own false n t c = usual_own t.own.serving t.own.status n t c
  way_own true n t c = if_own (Deferred plan barrier n t c) n t c

  by_own : (status : Status) (n : ℕ) (t : TaskAt Seen) (c : All Seen) → OfOwn (turn_by plan barrier status n t c) t
  by_own Created n t c = tt
  by_own Running n t c = way_own t.own.abnormal n t c
  by_own Activating n t c = way_own t.own.abnormal n t c
  by_own Accepting n t c = way_own t.own.abnormal n t c
  by_own Delaying n t c = way_own t.own.abnormal n t c
  by_own Calling n t c = way_own t.own.abnormal n t c
  by_own Completed n t c = tt
  by_own Terminated n t c = tt

-- What a turn does.

module _ (p : Kept) (plan : Plan) (barrier : ℕ → Sight → Result Bool Raise) (through : BarrierLooks barrier) (limits : Limits) where
  taken_kept : (u : Turn) (asked : Asked) (m : Move) (t : TaskAt Seen) (c d : All Moved) → Cancels plan barrier p u → OfOwn plan barrier u t → (own_of m.task c).call ≡ t.own.call → Names p t.own → Beside p c d → Beside p (turn_taken noted plan barrier limits u asked m c) (turn_taken noted plan barrier limits u asked m d)
  taken_kept resting asked m t c d k o e h r = r
  taken_kept closing asked m t c d k o e h r = closes_kept p plan barrier m.task c d r
  taken_kept completing asked m t c d k o e h r = completes_kept p plan barrier None m.task c d r
  taken_kept (withdrawing object) asked m t c d k o e h r = withdraws_kept p plan barrier through object m.task c d r
  taken_kept (serving s) asked m t c d k o e h r = serves_kept p plan barrier through m.alternative s m.task c d r
  taken_kept (restarting x) asked m t c d k o e h r = starts_again_kept p plan barrier through x m.task c d (subst (KeepsRestart p.kept) o h.2) r
  taken_kept (expiring delays) asked m t c d k o e h r = expires_kept p plan barrier (alternative_or_none m.alternative) m.task c d r
  taken_kept (cancelling id) asked m t c d k o e h r = call_expires_kept p plan barrier through m.task c d (subst p.kept (o ∙ sym e) k) r
  taken_kept (acting next) asked m t c d k o e h r = done_kept p plan barrier through limits m.alternative asked m.task c d r

module _ {C : Type 0} (p : Kept) (plan : Plan) (k : Controls C) (through : Looks k) where
  abbrev bare : All C → All Moved
  bare c = record {
    tasks = map (λ (t : TaskAt C). record { control = here; own = t.own }) c.tasks;
    shared = c.shared;
    choices = c.choices;
    clock = c.clock;
    steps = c.steps;
  }

  abbrev carried : All C → All Moved → All C
  carried c d = record c { tasks = all_moved k c.tasks d.tasks; shared = d.shared }

  bare_names : (ts : List (TaskAt C)) → TasksName p ts → TasksName p (map (λ (t : TaskAt C). let u : TaskAt Moved = record { control = here; own = t.own } in u) ts)
  bare_names [] h = tt
  bare_names (t ∷ ts) h = (h.0, bare_names ts h.1)

  moved_names : (ts : List (TaskAt C)) (ds : List (TaskAt Moved)) → TasksName p ds → TasksName p (all_moved k ts ds)
  moved_names ts [] h = tt
  moved_names [] (d ∷ ds) h = (h.0, moved_names [] ds h.1)
  moved_names (t ∷ ts) (d ∷ ds) h = (h.0, moved_names ts ds h.1)

  bare_own : (ts : List (TaskAt C)) (n : ℕ) → slice_index_or (owns (map (λ (t : TaskAt C). let u : TaskAt Moved = record { control = here; own = t.own } in u) ts)) n nobody ≡ slice_index_or (owns ts) n nobody
  bare_own [] n = refl
  bare_own (t ∷ ts) zero = refl
  bare_own (t ∷ ts) (suc n) = bare_own ts n

  -- a task that is seen has its own part
  seen_own : (n i : ℕ) (ts : List (TaskAt C)) (os : List Own) (s : Shared) (t : TaskAt Seen) → slice_get (seen_from plan k n ts os s) i ≡ Some t → slice_index_or (owns ts) i nobody ≡ t.own
  seen_own n i [] os s t e = absurd (subst IsThere (sym e) tt)
    where
      IsThere : Option (TaskAt Seen) → Type 0
      IsThere None = ⊥
      IsThere (Some x) = Unit {0}
  seen_own n zero (x ∷ xs) os s t e = ap own_or e
    where
      own_or : Option (TaskAt Seen) → Own
      own_or None = x.own
      own_or (Some y) = y.own
  seen_own n (suc i) (x ∷ xs) os s t e = seen_own (suc n) i xs os s t e

  carried_kept : (c : All C) (fs : List Frame) (cs : List Call) (d e : All Moved) → Beside p d e → Beside p (carried c d) (carried (with_kept fs cs c) e)
  carried_kept c fs cs d e r = record {
    fs = r.fs;
    cs = r.cs;
    same = ap (carried (with_kept fs cs c)) r.same;
    may = record { frames = r.may.frames; calls = r.may.calls; tasks = moved_names c.tasks d.tasks r.may.tasks; objects = r.may.objects; room = r.may.room; call_room = r.may.call_room };
  }

  -- a step

  abbrev one_step_on : All C → All C
  one_step_on c = record c { steps = suc c.steps }

  step_kept : (limits : Limits) (m : Move) (c : All C) (fs : List Frame) (cs : List Call) → MayHave p c fs cs → MayStep plan k.barrier (slice_get (seen plan k c).tasks m.task) m (seen plan k c) → (t : TaskAt C) → Beside p (step_of plan k limits (Some t) m c) (step_of plan k limits (Some t) m (with_kept fs cs c))
  step_kept limits m c fs cs h i t =
      let e : All C = with_kept fs cs c in
      let s : All Seen = seen plan k c in
      let asked = k.asks t.own.pending (scene_of plan k m.task c) t.control in
      let f : All Seen → Asked → All C = λ x a. carried (one_step_on e) (orders plan k.barrier limits x a m (bare (one_step_on e))) in
      let start : All C = step_of plan k limits (Some t) m c in
      subst (λ a. Beside p start (f (seen plan k e) a)) (asks_same p plan k through m.task c fs cs h t.own.pending t.control)
      (subst (λ x. Beside p start (f x asked)) (seen_same p plan k through c fs cs h)
      (by (slice_get s.tasks m.task) refl i))
    where
      by : (o : Option (TaskAt Seen)) → slice_get (seen plan k c).tasks m.task ≡ o → MayStep plan k.barrier o m (seen plan k c) → Beside p
          (carried (one_step_on c) (turn_taken noted plan k.barrier limits (turn_at plan k.barrier o m.task (seen plan k c)) (k.asks t.own.pending (scene_of plan k m.task c) t.control) m (bare (one_step_on c))))
          (carried (one_step_on (with_kept fs cs c)) (turn_taken noted plan k.barrier limits (turn_at plan k.barrier o m.task (with_kept fs cs (seen plan k c))) (k.asks t.own.pending (scene_of plan k m.task c) t.control) m (bare (one_step_on (with_kept fs cs c)))))
      by None is may = absurd may
      by (Some x) is may =
          let s : All Seen = seen plan k c in
          let u = turn plan k.barrier m.task x s in
          let asked = k.asks t.own.pending (scene_of plan k m.task c) t.control in
          let d : All Moved = bare (one_step_on c) in
          let d' : All Moved = bare (one_step_on (with_kept fs cs c)) in
          let start : All C = carried (one_step_on c) (turn_taken noted plan k.barrier limits u asked m d) in
          let sm : MayHave p s fs cs = seen_may p plan k through c fs cs h in
          let own_is : (own_of m.task d).call ≡ x.own.call = ap (λ (o : Own). o.call) (bare_own c.tasks m.task ∙ seen_own 0 m.task c.tasks (owns c.tasks) c.shared x is) in
          let bm : MayHave p d fs cs = record { frames = h.frames; calls = h.calls; tasks = bare_names c.tasks h.tasks; objects = h.objects; room = h.room; call_room = h.call_room } in
          subst (λ v. Beside p start (carried (one_step_on (with_kept fs cs c)) (turn_taken noted plan k.barrier limits v asked m d'))) (turn_same p plan k.barrier through.barrier m.task x s fs cs sm)
          (carried_kept (one_step_on c) fs cs (turn_taken noted plan k.barrier limits u asked m d) (turn_taken noted plan k.barrier limits u asked m d')
          (taken_kept p plan k.barrier through.barrier limits u asked m x d d' (may_cancel plan k.barrier p u s fs cs sm may) (by_own plan k.barrier x.own.status m.task x s) own_is (subst (IfNames p) is (got_names p s.tasks m.task sm.tasks)) (beside p d fs cs bm)))

  got_kept : (limits : Limits) (o : Option (TaskAt C)) (m : Move) (c : All C) (fs : List Frame) (cs : List Call) → MayHave p c fs cs → MayStep plan k.barrier (slice_get (seen plan k c).tasks m.task) m (seen plan k c) → Beside p (step_of plan k limits o m c) (step_of plan k limits o m (with_kept fs cs c))
  got_kept limits None m c fs cs h i = beside p c fs cs h
  got_kept limits (Some t) m c fs cs h i = step_kept limits m c fs cs h i t

  pub step_beside : (limits : Limits) (m : Move) (c : All C) (fs : List Frame) (cs : List Call) → MayHave p c fs cs → MayStep plan k.barrier (slice_get (seen plan k c).tasks m.task) m (seen plan k c) → Beside p (step_with plan k limits c m) (step_with plan k limits (with_kept fs cs c) m)
  step_beside limits m c fs cs h i = got_kept limits (slice_get c.tasks m.task) m c fs cs h i

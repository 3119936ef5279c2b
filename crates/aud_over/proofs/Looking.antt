-- What is seen, moves and state are the same where programs are the same but for what nothing names.
use Rattle.std.proofs.Common.{◌≡◌, ℕ, suc, List, [], ◌∷◌, ◌++◌, map, length, slice_index_or, Option, Some, None, Bool, true, false, refl, sym, ap, ◌∙◌}
use Rattle.std.specs.Prelude.{if◌then◌else◌, filter, ◌&&◌, nat_le, Result, not, ◌||◌}
use Rattle.std.proofs.Math.Path.{fun_ext}
use Rattle.aud_text.specs.declared.raise.Raise.{Raise}
use Rattle.aud_typed.specs.Tree.{Plan}
use Rattle.aud_meaning.specs.declared.state.Status.{Status}
use Rattle.aud_meaning.specs.declared.state.Status.TheVariants.{Created, Running, Activating, Accepting, Delaying, Calling, Completed, Terminated}
use Rattle.aud_meaning.specs.declared.state.Owner.{Owner}
use Rattle.aud_meaning.specs.declared.state.Owner.TheVariants as owner
use Rattle.aud_meaning.specs.declared.state.Pending.{Pending}
use Rattle.aud_meaning.specs.declared.state.Serving.{Serving}
use Rattle.aud_meaning.specs.Configuration.{Frame, Own, Call, Shared, TaskAt, All}
use Rattle.aud_meaning.specs.Evaluation.{Facts, Sight}
use Rattle.aud_meaning.specs.Control.{Coming, simply, ending, selecting, calling, starting, Scene, Seen, Controls}
use Rattle.aud_meaning.specs.Parts.{nobody, owns, own_of, call_of, Waiting, is_queued, is_selected, sight_in, sight_of, in_action}
use Rattle.aud_meaning.specs.declared.state.Move.{Move}
use Rattle.aud_meaning.specs.Run.{own_move, Turn, resting, closing, completing, withdrawing, serving, expiring, cancelling, acting, is_bound, Deferred, at_once, usual, under_way, turn_by, turn, serve_moves, call_time_by, call_time, owner_idle, has_queue, alternatives_of, each_or_one, end_moves, master_left_by, construct_left, acting_moves, turn_moves, moves_from, has_ended, moves_by, moves, turn_times, times_from, waiting_by, some_move, state_by, state_of, seen, seen_from, scene_of, shown_place, moves_at, state_at, restarting, ending_moves, again_left}
use Rattle.aud_over.specs.Over.{with_kept, is_call_over}
use Rattle.aud_over.specs.Looks.{Looks}
use Rattle.aud_over.proofs.Frames.{Agree}
use Rattle.aud_over.proofs.Calls.{SameCalls, told_same, not_queued, not_selected, queue_same}
use Rattle.aud_over.proofs.Beside.{Kept, Names, TasksName, MayHave, own_names, sees_same, facts_same}
use Rattle.aud_over.proofs.Constructs.{BarrierLooks}
use Rattle.aud_over.proofs.Objects.{eligible_same}

module _ (p : Kept) (plan : Plan) (barrier : ℕ → Sight → Result Bool Raise) (through : BarrierLooks barrier) where
  -- Turns.

  waits_alike : (a b : Call) → is_call_over a.state ≡ true → is_call_over b.state ≡ true → (is_selected a.state || (is_queued a.state && a.stays)) ≡ (is_selected b.state || (is_queued b.state && b.stays))
  waits_alike a b h g = none a h ∙ sym (none b g)
    where
      none : (x : Call) → is_call_over x.state ≡ true → (is_selected x.state || (is_queued x.state && x.stays)) ≡ false
      none x h = ap (λ b. b || (is_queued x.state && x.stays)) (not_selected x.state h) ∙ ap (λ b. b && x.stays) (not_queued x.state h)

  bound_same : (status : Status) (n : ℕ) (t : TaskAt Seen) (c : All Seen) (fs : List Frame) (cs : List Call) → MayHave p c fs cs → is_bound plan barrier status n t c ≡ is_bound plan barrier status n t (with_kept fs cs c)
  bound_same Created n t c fs cs m = refl
  bound_same Running n t c fs cs m = refl
  bound_same Activating n t c fs cs m = refl
  bound_same Accepting n t c fs cs m = refl
  bound_same Delaying n t c fs cs m = refl
  bound_same Calling n t c fs cs m = told_same p.kept (λ (a : Call). is_selected a.state || (is_queued a.state && a.stays)) waits_alike 0 c.shared.calls cs m.calls t.own.call
  bound_same Completed n t c fs cs m = refl
  bound_same Terminated n t c fs cs m = refl

  -- where it is deferred, or not
  abbrev pub way_by : ℕ → TaskAt Seen → All Seen → Bool → Turn
  way_by n t c true = usual plan barrier t.own.serving t.own.status n t c
  way_by n t c false = at_once plan barrier t.own.withdraw

  usual_same : (o : Option Serving) (status : Status) (n : ℕ) (t : TaskAt Seen) (c : All Seen) (fs : List Frame) (cs : List Call) → usual plan barrier o status n t c ≡ usual plan barrier o status n t (with_kept fs cs c)
  usual_same (Some s) status n t c fs cs = refl
  usual_same None Created n t c fs cs = refl
  usual_same None Running n t c fs cs = refl
  usual_same None Activating n t c fs cs = refl
  usual_same None Accepting n t c fs cs = refl
  usual_same None Delaying n t c fs cs = refl
  usual_same None Calling n t c fs cs = refl
  usual_same None Completed n t c fs cs = refl
  usual_same None Terminated n t c fs cs = refl

  usual_if : (b : Bool) (n : ℕ) (t : TaskAt Seen) (c : All Seen) (fs : List Frame) (cs : List Call) → way_by n t c b ≡ way_by n t (with_kept fs cs c) b
  usual_if true n t c fs cs = usual_same t.own.serving t.own.status n t c fs cs
  usual_if false n t c fs cs = refl

  way_same : (b : Bool) (n : ℕ) (t : TaskAt Seen) (c : All Seen) (fs : List Frame) (cs : List Call) → MayHave p c fs cs → under_way plan barrier b n t c ≡ under_way plan barrier b n t (with_kept fs cs c)
  way_same false n t c fs cs m = usual_same t.own.serving t.own.status n t c fs cs
  way_same true n t c fs cs m =
      ap (λ b. way_by n t c (if in_action n c then true else b)) (bound_same t.own.status n t c fs cs m)
      ∙ usual_if (Deferred plan barrier n t (with_kept fs cs c)) n t c fs cs

  by_same : (status : Status) (n : ℕ) (t : TaskAt Seen) (c : All Seen) (fs : List Frame) (cs : List Call) → MayHave p c fs cs → turn_by plan barrier status n t c ≡ turn_by plan barrier status n t (with_kept fs cs c)
  by_same Created n t c fs cs m = refl
  by_same Running n t c fs cs m = way_same t.own.abnormal n t c fs cs m
  by_same Activating n t c fs cs m = way_same t.own.abnormal n t c fs cs m
  by_same Accepting n t c fs cs m = way_same t.own.abnormal n t c fs cs m
  by_same Delaying n t c fs cs m = way_same t.own.abnormal n t c fs cs m
  by_same Calling n t c fs cs m = way_same t.own.abnormal n t c fs cs m
  by_same Completed n t c fs cs m = refl
  by_same Terminated n t c fs cs m = refl

  pub turn_same : (n : ℕ) (t : TaskAt Seen) (c : All Seen) (fs : List Frame) (cs : List Call) → MayHave p c fs cs → turn plan barrier n t c ≡ turn plan barrier n t (with_kept fs cs c)
  turn_same n t c fs cs m = by_same t.own.status n t c fs cs m

  -- Moves.

  false_three : (x y z : Bool) (ns ms : List ℕ) → x ≡ false → (if x && y && z then ns else ms) ≡ ms
  false_three true y z ns ms h = ap (λ b. if b && y && z then ns else ms) h
  false_three false y z ns ms h = refl

  time_alike : (c : All Seen) (a b : Call) → is_call_over a.state ≡ true → is_call_over b.state ≡ true → call_time plan barrier a c ≡ call_time plan barrier b c
  time_alike c a b h g =
      false_three (is_queued a.state) (not a.stays) (owner_idle plan barrier a.owner c) (call_time_by a.form) [] (not_queued a.state h)
      ∙ sym (false_three (is_queued b.state) (not b.stays) (owner_idle plan barrier b.owner c) (call_time_by b.form) [] (not_queued b.state g))

  idle_same : (o : Owner) (c : All Seen) (fs : List Frame) (cs : List Call) → owner_idle plan barrier o c ≡ owner_idle plan barrier o (with_kept fs cs c)
  idle_same (owner.Task n) c fs cs = refl
  idle_same (owner.Object n) c fs cs = refl

  pub time_same : (id : ℕ) (c : All Seen) (fs : List Frame) (cs : List Call) → MayHave p c fs cs → call_time plan barrier (call_of id c) c ≡ call_time plan barrier (call_of id (with_kept fs cs c)) (with_kept fs cs c)
  time_same id c fs cs m =
      told_same p.kept (λ (a : Call). call_time plan barrier a c) (time_alike c) 0 c.shared.calls cs m.calls id
      ∙ ap (λ b. if is_queued (call_of id (with_kept fs cs c)).state && not (call_of id (with_kept fs cs c)).stays && b then call_time_by (call_of id (with_kept fs cs c)).form else []) (idle_same (call_of id (with_kept fs cs c)).owner c fs cs)

  abbrev is_some_waiting : List Waiting → Bool
  is_some_waiting [] = false
  is_some_waiting (w ∷ ws) = true

  queue_seen : (n : ℕ) (c : All Seen) (fs : List Frame) (cs : List Call) → MayHave p c fs cs → has_queue plan barrier n c ≡ has_queue plan barrier n (with_kept fs cs c)
  queue_seen n c fs cs m = fun_ext (λ a. ap is_some_waiting (queue_same p.kept n a.entry c.shared.calls cs m.calls))

  end_same : (master : Option ℕ) (n : ℕ) (c : All Seen) (fs : List Frame) (cs : List Call) → end_moves plan barrier master n c ≡ end_moves plan barrier master n (with_kept fs cs c)
  end_same None n c fs cs = refl
  end_same (Some x) n c fs cs = refl

  ending_same : (o : Option (ℕ × ℕ)) (n : ℕ) (c : All Seen) (fs : List Frame) (cs : List Call) → ending_moves plan barrier o n c ≡ ending_moves plan barrier o n (with_kept fs cs c)
  ending_same None n c fs cs = end_same (master_left_by (construct_left (own_of n c))) n c fs cs
  ending_same (Some x) n c fs cs = refl

  acting_same : (next : Coming) (n : ℕ) (c : All Seen) (fs : List Frame) (cs : List Call) → MayHave p c fs cs → acting_moves plan barrier next n c ≡ acting_moves plan barrier next n (with_kept fs cs c)
  acting_same (simply w) n c fs cs m = refl
  acting_same ending n c fs cs m = ending_same (again_left (own_of n c).pending (own_of n c).again (construct_left (own_of n c))) n c fs cs
  acting_same (selecting ones) n c fs cs m = ap (λ f. each_or_one plan barrier (alternatives_of plan barrier (filter f ones)) n) (queue_seen n c fs cs m)
  acting_same (calling None entry) n c fs cs m = refl
  acting_same (calling (Some task) entry) n c fs cs m = refl
  acting_same (starting object reading) n c fs cs m = refl

  pub turn_moves_same : (u : Turn) (n : ℕ) (c : All Seen) (fs : List Frame) (cs : List Call) → MayHave p c fs cs → turn_moves plan barrier u n c ≡ turn_moves plan barrier u n (with_kept fs cs c)
  turn_moves_same resting n c fs cs m = refl
  turn_moves_same closing n c fs cs m = refl
  turn_moves_same completing n c fs cs m = refl
  turn_moves_same (withdrawing object) n c fs cs m = refl
  turn_moves_same (serving s) n c fs cs m = ap (λ x. serve_moves plan barrier x n) (eligible_same p plan barrier through s.object c fs cs m)
  turn_moves_same (restarting r) n c fs cs m = refl
  turn_moves_same (expiring delays) n c fs cs m = refl
  turn_moves_same (cancelling id) n c fs cs m = ap (λ ts. map (λ time. own_move n) (filter (λ time. nat_le time c.clock) ts)) (time_same id c fs cs m)
  turn_moves_same (acting next) n c fs cs m = acting_same next n c fs cs m

  pub task_moves_same : (n : ℕ) (t : TaskAt Seen) (c : All Seen) (fs : List Frame) (cs : List Call) → MayHave p c fs cs → turn_moves plan barrier (turn plan barrier n t c) n c ≡ turn_moves plan barrier (turn plan barrier n t (with_kept fs cs c)) n (with_kept fs cs c)
  task_moves_same n t c fs cs m =
      turn_moves_same (turn plan barrier n t c) n c fs cs m
      ∙ ap (λ u. turn_moves plan barrier u n (with_kept fs cs c)) (turn_same n t c fs cs m)

  joined : {A : Type 0} (xs ys xs' ys' : List A) → xs ≡ xs' → ys ≡ ys' → (xs ++ ys) ≡ (xs' ++ ys')
  joined xs ys xs' ys' h g = ap (λ zs. zs ++ ys) h ∙ ap (λ zs. xs' ++ zs) g

  from_same : (n : ℕ) (ts : List (TaskAt Seen)) (c : All Seen) (fs : List Frame) (cs : List Call) → MayHave p c fs cs → moves_from plan barrier n ts c ≡ moves_from plan barrier n ts (with_kept fs cs c)
  from_same n [] c fs cs m = refl
  from_same n (t ∷ ts) c fs cs m =
      joined (turn_moves plan barrier (turn plan barrier n t c) n c) (moves_from plan barrier (suc n) ts c) (turn_moves plan barrier (turn plan barrier n t (with_kept fs cs c)) n (with_kept fs cs c)) (moves_from plan barrier (suc n) ts (with_kept fs cs c))
      (task_moves_same n t c fs cs m) (from_same (suc n) ts c fs cs m)

  moves_by_same : (ended cut : Bool) (c : All Seen) (fs : List Frame) (cs : List Call) → MayHave p c fs cs → moves_by plan barrier ended cut c ≡ moves_by plan barrier ended cut (with_kept fs cs c)
  moves_by_same true cut c fs cs m = refl
  moves_by_same false true c fs cs m = refl
  moves_by_same false false c fs cs m = from_same 0 c.tasks c fs cs m

  pub moves_same : (c : All Seen) (fs : List Frame) (cs : List Call) → MayHave p c fs cs → moves plan barrier c ≡ moves plan barrier (with_kept fs cs c)
  moves_same c fs cs m = moves_by_same (has_ended plan barrier c.tasks) c.shared.cut c fs cs m

  -- State.

  times_same : (u : Turn) (c : All Seen) (fs : List Frame) (cs : List Call) → MayHave p c fs cs → turn_times plan barrier u c ≡ turn_times plan barrier u (with_kept fs cs c)
  times_same resting c fs cs m = refl
  times_same closing c fs cs m = refl
  times_same completing c fs cs m = refl
  times_same (withdrawing object) c fs cs m = refl
  times_same (serving s) c fs cs m = refl
  times_same (restarting r) c fs cs m = refl
  times_same (expiring delays) c fs cs m = refl
  times_same (cancelling id) c fs cs m = time_same id c fs cs m
  times_same (acting next) c fs cs m = refl

  times_from_same : (n : ℕ) (ts : List (TaskAt Seen)) (c : All Seen) (fs : List Frame) (cs : List Call) → MayHave p c fs cs → times_from plan barrier n ts c ≡ times_from plan barrier n ts (with_kept fs cs c)
  times_from_same n [] c fs cs m = refl
  times_from_same n (t ∷ ts) c fs cs m =
      joined (turn_times plan barrier (turn plan barrier n t c) c) (times_from plan barrier (suc n) ts c) (turn_times plan barrier (turn plan barrier n t (with_kept fs cs c)) (with_kept fs cs c)) (times_from plan barrier (suc n) ts (with_kept fs cs c))
      (times_same (turn plan barrier n t c) c fs cs m ∙ ap (λ u. turn_times plan barrier u (with_kept fs cs c)) (turn_same n t c fs cs m)) (times_from_same (suc n) ts c fs cs m)

  some_same : (ms : List Move) (c : All Seen) (fs : List Frame) (cs : List Call) → MayHave p c fs cs → some_move plan barrier ms c ≡ some_move plan barrier ms (with_kept fs cs c)
  some_same [] c fs cs m = ap (waiting_by plan barrier) (times_from_same 0 c.tasks c fs cs m)
  some_same (x ∷ xs) c fs cs m = refl

  state_by_same : (ended cut : Bool) (c : All Seen) (fs : List Frame) (cs : List Call) → MayHave p c fs cs → state_by plan barrier ended cut c ≡ state_by plan barrier ended cut (with_kept fs cs c)
  state_by_same true cut c fs cs m = refl
  state_by_same false true c fs cs m = refl
  state_by_same false false c fs cs m = some_same (moves plan barrier c) c fs cs m ∙ ap (λ ms. some_move plan barrier ms (with_kept fs cs c)) (moves_same c fs cs m)

  pub state_same : (c : All Seen) (fs : List Frame) (cs : List Call) → MayHave p c fs cs → state_of plan barrier c ≡ state_of plan barrier (with_kept fs cs c)
  state_same c fs cs m = state_by_same (has_ended plan barrier c.tasks) c.shared.cut c fs cs m

-- What is seen.

module _ {C : Type 0} (p : Kept) (plan : Plan) (k : Controls C) (through : Looks k) where
  pub sight_same : (n : ℕ) (os : List Own) (s : Shared) (fs : List Frame) (cs : List Call) → Agree p.named s.frames fs → SameCalls p.kept 0 s.calls cs → Names p (slice_index_or os n nobody) → (pending : Option Pending) (c : C) → k.coming pending (sight_in n os s) c ≡ k.coming pending (sight_in n os (record s { frames = fs; calls = cs })) c
  sight_same n os s fs cs a b h pending c =
      through.coming pending (sight_in n os s) fs c (sees_same p (sight_in n os s) fs a h.0)
      ∙ ap (λ (f : Facts). k.coming pending (let x : Sight = record { display = (slice_index_or os n nobody).display; frames = fs; facts = f } in x) c) (facts_same p os s.calls cs b)

  abbrev names_each : List Own → Type 0
  names_each os = (n : ℕ) → Names p (slice_index_or os n nobody)

  seen_from_same : (n : ℕ) (ts : List (TaskAt C)) (os : List Own) (s : Shared) (fs : List Frame) (cs : List Call) → Agree p.named s.frames fs → SameCalls p.kept 0 s.calls cs → names_each os → seen_from plan k n ts os s ≡ seen_from plan k n ts os (record s { frames = fs; calls = cs })
  seen_from_same n [] os s fs cs a b h = refl
  seen_from_same n (t ∷ ts) os s fs cs a b h =
      ap (λ (x : Coming). let y : TaskAt Seen = record { control = record { coming = x; place = shown_place plan k t.own.pending t.control }; own = t.own } in y ∷ seen_from plan k (suc n) ts os s) (sight_same n os s fs cs a b (h n) t.own.pending t.control)
      ∙ ap (λ xs. let y : TaskAt Seen = record { control = record { coming = k.coming t.own.pending (sight_in n os (record s { frames = fs; calls = cs })) t.control; place = shown_place plan k t.own.pending t.control }; own = t.own } in y ∷ xs) (seen_from_same (suc n) ts os s fs cs a b h)

  pub seen_same : (c : All C) (fs : List Frame) (cs : List Call) → MayHave p c fs cs → with_kept fs cs (seen plan k c) ≡ seen plan k (with_kept fs cs c)
  seen_same c fs cs m =
      ap (λ ts. let d : All Seen = record { tasks = ts; shared = record c.shared { frames = fs; calls = cs }; choices = c.choices; clock = c.clock; steps = c.steps } in d)
      (seen_from_same 0 c.tasks (owns c.tasks) c.shared fs cs m.frames m.calls (λ n. own_names p c.tasks n m.tasks))

  seen_names : (n : ℕ) (ts : List (TaskAt C)) (os : List Own) (s : Shared) → TasksName p ts → TasksName p (seen_from plan k n ts os s)
  seen_names n [] os s h = tt
  seen_names n (t ∷ ts) os s h = (h.0, seen_names (suc n) ts os s h.1)

  pub seen_may : (c : All C) (fs : List Frame) (cs : List Call) → MayHave p c fs cs → MayHave p (seen plan k c) fs cs
  seen_may c fs cs m = record { frames = m.frames; calls = m.calls; tasks = seen_names 0 c.tasks (owns c.tasks) c.shared m.tasks; objects = m.objects; room = m.room; call_room = m.call_room }

  pub moves_at_same : (c : All C) (fs : List Frame) (cs : List Call) → MayHave p c fs cs → moves_at plan k c ≡ moves_at plan k (with_kept fs cs c)
  moves_at_same c fs cs m = moves_same p plan k.barrier through.barrier (seen plan k c) fs cs (seen_may c fs cs m) ∙ ap (moves plan k.barrier) (seen_same c fs cs m)

  pub state_at_same : (c : All C) (fs : List Frame) (cs : List Call) → MayHave p c fs cs → state_at plan k c ≡ state_at plan k (with_kept fs cs c)
  state_at_same c fs cs m = state_same p plan k.barrier through.barrier (seen plan k c) fs cs (seen_may c fs cs m) ∙ ap (state_of plan k.barrier) (seen_same c fs cs m)

  pub asks_same : (n : ℕ) (c : All C) (fs : List Frame) (cs : List Call) → MayHave p c fs cs → (pending : Option Pending) (t : C) → k.asks pending (scene_of plan k n c) t ≡ k.asks pending (scene_of plan k n (with_kept fs cs c)) t
  asks_same n c fs cs m pending t =
      through.asks pending (scene_of plan k n c) fs t (sees_same p (sight_of n c) fs m.frames (own_names p c.tasks n m.tasks).0)
      ∙ ap (λ (f : Facts). k.asks pending (let x : Scene = record { sight = record { display = (own_of n c).display; frames = fs; facts = f }; clock = c.clock; objects = length c.shared.objects } in x) t) (facts_same p (owns c.tasks) c.shared.calls cs m.calls)

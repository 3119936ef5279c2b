-- What each kind of step keeps of all tasks: what it does to them.
use Rattle.std.proofs.Common.{◌≡◌, ℕ, zero, suc, ◌+◌, ℤ, pos, List, [], ◌∷◌, ◌++◌, length, filter, Option, Some, None, Bool, true, false, Result, Ok, Err, refl, sym, ap, ◌∙◌, subst, inl, inr, if◌then◌else◌, nat_le, slice_get, slice_index_or, arith}
use Rattle.std.specs.Prelude.{◌&&◌, ◌||◌, is_some, is_none, nat_eq, not}
use Rattle.std.proofs.lemmas.Bool.{false≢true}
use Rattle.std.proofs.lemmas.Option.{same_Some}
use Rattle.aud_text.specs.declared.limits.Limits.{Limits}
use Rattle.aud_text.specs.declared.limits.TheConstants.{ELEMENTS}
use Rattle.aud_text.specs.declared.place.Pos.{Pos}
use Rattle.aud_text.specs.declared.raise.Raise.{Raise}
use Rattle.aud_text.specs.declared.raise.Raise.TheVariants.{Program, Storage, Tasking}
use Rattle.aud_typed.specs.declared.program.Exception.{Exception}
use Rattle.aud_typed.specs.declared.program.Exception.TheVariants.{Predefined}
use Rattle.aud_typed.specs.Tree.{Plan, Tasks}
use Rattle.aud_meaning.specs.declared.state.Again.{Again}
use Rattle.aud_meaning.specs.declared.state.CallState.TheVariants.{Cancelled, Done, Queued, Selected}
use Rattle.aud_meaning.specs.declared.state.OpenAccept.{OpenAccept}
use Rattle.aud_meaning.specs.declared.state.Owner.{Owner}
use Rattle.aud_meaning.specs.declared.state.Owner.TheVariants as owner
use Rattle.aud_meaning.specs.declared.state.Pending.{Pending}
use Rattle.aud_meaning.specs.declared.state.Restart.{Restart}
use Rattle.aud_meaning.specs.declared.state.Resumed.{Resumed}
use Rattle.aud_meaning.specs.declared.state.Serving.{Serving}
use Rattle.aud_meaning.specs.declared.state.Status.{Status}
use Rattle.aud_meaning.specs.declared.state.Status.TheVariants.{Created, Running, Activating, Accepting, Delaying, Calling, Completed, Terminated}
use Rattle.aud_meaning.specs.Configuration.{Target, Purpose, for_body, for_block, for_loop, for_procedure, for_operation, for_entry, for_accept, Returning, Opened, Own, Call, Waits, TaskAt, All, Acting}
use Rattle.aud_meaning.specs.Effects as effects
use Rattle.aud_meaning.specs.Effects.{CopiedBack, innermost, closed, copied_back, has_room, opens, out_of_loops, pends}
use Rattle.aud_meaning.specs.Evaluation.{Passed, Sight}
use Rattle.aud_meaning.specs.Orders.{Orders}
use Rattle.aud_meaning.specs.Parts.{Outcome, entry_plan, body_master, depends, Waiting, acting, acts_on, alone, alone_by, alternative_of, any, arrives, begin_action, call_number, call_of, calls_on_object, calls_on_task, cancels, end_action, exception_of, fails, in_action, is_accepting, is_callable, is_created, is_object, is_queued, is_task, new_call, no_call, no_waits, numbers, object_of, on_call, on_control, on_own, on_task, open_alternatives, own_of, queue, raised_at, runs, stands_at_call, succeeds, unit_of, with_frames}
use Rattle.aud_meaning.specs.Tasks as effect
use Rattle.aud_code.specs.Places.{Spot}
use Rattle.aud_over.specs.Over.{is_call_over}
use Rattle.aud_over.specs.Standing.{EachIs}
use Rattle.aud_framed.proofs.Running.Closed.{Busy, Changes, Closed, IsBeside, IsNew, IsQuiet, WakesUp, and_left, busy_then, changed_caller, closed_again, closed_status, each_as, goes, got_or, joined_got, last_or, loops_again, loops_status, not_accepting, not_activating, not_calling, not_created, not_delaying, not_running, numbers_each, queued_live, still}
use Rattle.aud_framed.proofs.Stepping.Meeting.{first_in, queued_state}
use Rattle.aud_framed.proofs.Stepping.Parts.{own_got, same_task}

-- Who is woken up.

created_wakes : (s : Status) → is_created s ≡ true → WakesUp s
created_wakes Created h = tt
created_wakes Running h = absurd (false≢true h)
created_wakes Activating h = tt
created_wakes Accepting h = tt
created_wakes Delaying h = absurd (false≢true h)
created_wakes Calling h = absurd (false≢true h)
created_wakes Completed h = absurd (false≢true h)
created_wakes Terminated h = absurd (false≢true h)

accepting_wakes : (s : Status) → is_accepting s ≡ true → WakesUp s
accepting_wakes Created h = tt
accepting_wakes Running h = absurd (false≢true h)
accepting_wakes Activating h = tt
accepting_wakes Accepting h = tt
accepting_wakes Delaying h = absurd (false≢true h)
accepting_wakes Calling h = absurd (false≢true h)
accepting_wakes Completed h = absurd (false≢true h)
accepting_wakes Terminated h = absurd (false≢true h)

open_wakes : (own : Own) (entry : ℕ) (a : OpenAccept) (more : List OpenAccept) → open_alternatives own entry ≡ a ∷ more → WakesUp own.status
open_wakes own entry a more e = by (is_accepting own.status && not own.abnormal) refl e
  where
    by : (b : Bool) → is_accepting own.status && not own.abnormal ≡ b → (if b then filter (λ (x : OpenAccept). nat_eq x.entry entry) own.waits.accepts else []) ≡ a ∷ more → WakesUp own.status
    by true k e = accepting_wakes own.status (and_left (is_accepting own.status) (not own.abnormal) k)
    by false k e = absurd cc

module _ (go : Orders Spot) (plan : Plan) (barrier : ℕ → Sight → Result Bool Raise) (B : ℕ → Type 0) (P : All Spot → Type 0) (closes : Closed B P) where
  activating_wakes : (s : Status) → effect.is_activating go plan barrier s ≡ true → WakesUp s
  activating_wakes Created h = tt
  activating_wakes Running h = absurd (false≢true h)
  activating_wakes Activating h = tt
  activating_wakes Accepting h = tt
  activating_wakes Delaying h = absurd (false≢true h)
  activating_wakes Calling h = absurd (false≢true h)
  activating_wakes Completed h = absurd (false≢true h)
  activating_wakes Terminated h = absurd (false≢true h)

  -- Changes of one task.

  pub own_keeps : (n : ℕ) (f : Own → Own) (c : All Spot) → B n → ((t : TaskAt Spot) → slice_get c.tasks n ≡ Some t → Changes t.own (f t.own)) → P c → P (on_own n f c)
  own_keeps n f c b g h = closes.task n (λ t. record t { own = f t.own }) c b g h

  pub alone_keeps : (f : Acting Spot → Acting Spot) (n : ℕ) (c : All Spot) → B n → ((u : Acting Spot) → (f u).shared.calls ≡ u.shared.calls) → ((u : Acting Spot) → (f u).shared.objects ≡ u.shared.objects) → ((t : TaskAt Spot) → slice_get c.tasks n ≡ Some t → Changes t.own (f (acting t c.shared)).own) → P c → P (alone f n c)
  alone_keeps f n c b calls objects g h = by (slice_get c.tasks n) refl
    where
      by : (o : Option (TaskAt Spot)) → slice_get c.tasks n ≡ o → P (alone_by f o n c)
      by None e = h
      by (Some t) e =
          let u : Acting Spot = f (acting t c.shared) in
          closes.rest (on_task n (λ old. record { control = u.control; own = u.own }) c) (alone_by f (Some t) n c) refl (sym (calls (acting t c.shared))) (sym (objects (acting t c.shared)))
          (closes.task n (λ old. record { control = u.control; own = u.own }) c b (λ x d. subst (λ (y : TaskAt Spot). Changes y.own u.own) (same_task n c.tasks t x e d) (g t e)) h)

  -- of a task that is not completed
  pub quiet_keeps : (f : Acting Spot → Acting Spot) (n : ℕ) (c : All Spot) → B n → IsQuiet f → Busy n c → P c → P (alone f n c)
  quiet_keeps f n c b quiet busy h =
      alone_keeps f n c b quiet.calls quiet.objects
      (λ t e. goes t.own (f (acting t c.shared)).own (λ done. busy t e (sym (quiet.status (acting t c.shared)) ∙ done)) (quiet.again (acting t c.shared))) h

  pub alone_calls : (f : Acting Spot → Acting Spot) (n : ℕ) (c : All Spot) → IsQuiet f → (alone f n c).shared.calls ≡ c.shared.calls
  alone_calls f n c quiet = by (slice_get c.tasks n)
    where
      by : (o : Option (TaskAt Spot)) → (alone_by f o n c).shared.calls ≡ c.shared.calls
      by None = refl
      by (Some t) = quiet.calls (acting t c.shared)

  either : (b : Bool) (c d : All Spot) → P c → P d → P (if b then c else d)
  either true c d h k = h
  either false c d h k = k

  pub control_keeps : (n : ℕ) (f : Spot → Spot) (c : All Spot) → B n → P c → P (on_control n f c)
  control_keeps n f c b h = closes.task n (λ t. record t { control = f t.control }) c b (λ t e. still t.own t.own refl refl refl) h

  pub pends_keeps : (x : Exception) (at : Pos) (n : ℕ) (c : All Spot) → B n → P c → P (on_own n (pends x at) c)
  pends_keeps x at n c b h = own_keeps n (pends x at) c b (λ t e. still t.own (pends x at t.own) refl refl refl) h

  pub raised_keeps : (raise : Raise) (at : Pos) (n : ℕ) (c : All Spot) → B n → P c → P (raised_at raise at n c)
  raised_keeps raise at n c b h = pends_keeps (Predefined raise) at n c b h

  -- Calls that end.

  abbrev CallerOf : All Spot → ℕ → Type 0
  CallerOf c id = B (call_of id c).caller

  done_call : (id : ℕ) (c : All Spot) → P c → P (on_call id (λ a. record a { state = Done }) c)
  done_call id c h = closes.call id (λ a. record a { state = Done }) c (λ a. refl) (inl (λ a. refl)) h

  pub cancels_keeps : (id : ℕ) (c : All Spot) → P c → P (cancels id c)
  cancels_keeps id c h = closes.call id (λ a. record a { state = Cancelled }) c (λ a. refl) (inl (λ a. refl)) h

  goes_keeps : (id : ℕ) (call : Call) (c : All Spot) → B call.caller → P c → P (effect.caller_goes_on go plan barrier id call c)
  goes_keeps id call c b h =
      closes.task call.caller (λ t. record { control = go.takes 0 t.control; own = runs t.own }) (on_call id (λ a. record a { state = Done }) c) b (λ t e. goes t.own (runs t.own) not_running refl) (done_call id c h)

  fails_keeps : (id : ℕ) (call : Call) (x : Exception) (c : All Spot) → B call.caller → P c → P (effect.caller_fails go plan barrier id call x c)
  fails_keeps id call x c b h =
      own_keeps call.caller (λ own. pends x call.at (runs own)) (on_call id (λ a. record a { state = Done }) c) b (λ t e. goes t.own (pends x call.at (runs t.own)) not_running refl) (done_call id c h)

  ended_keeps : (r : Option Raise) (id : ℕ) (call : Call) (c : All Spot) → B call.caller → P c → P (effect.ended_by go plan barrier r id call c)
  ended_keeps None id call c b h = goes_keeps id call c b h
  ended_keeps (Some raise) id call c b h = fails_keeps id call (Predefined raise) c b h

  frames_keep : (back : CopiedBack) (c : All Spot) → P c → P (with_frames back.frames c)
  frames_keep back c h = closes.rest c (with_frames back.frames c) refl refl refl h

  pub end_keeps : (outcome : Outcome) (id : ℕ) (c : All Spot) → CallerOf c id → P c → P (effect.end_call go plan barrier outcome id c)
  end_keeps (fails x) id c b h = fails_keeps id (call_of id c) x c b h
  end_keeps (succeeds values) id c b h =
      let back = copied_back values (call_of id c).backs c.shared.frames in
      ended_keeps back.raised id (call_of id c) (with_frames back.frames c) b (frames_keep back c h)

  -- the callers of others are as they were
  others_same : (x : Exception) (id : ℕ) (c : All Spot) (ids : List ℕ) → EachIs (CallerOf c) ids → EachIs (CallerOf (effect.end_call go plan barrier (fails x) id c)) ids
  others_same x id c ids h = each_as (CallerOf c) (CallerOf (effect.end_call go plan barrier (fails x) id c)) (λ j b. subst B (sym (changed_caller j id (λ a. record a { state = Done }) c.shared.calls (λ a. refl))) b) ids h

  pub refuse_keeps : (raise : Raise) (ids : List ℕ) (c : All Spot) → EachIs (CallerOf c) ids → P c → P (effect.refuse go plan barrier raise ids c)
  refuse_keeps raise [] c b h = h
  refuse_keeps raise (id ∷ ids) c b h =
      refuse_keeps raise ids (effect.end_call go plan barrier (fails (Predefined raise)) id c) (others_same (Predefined raise) id c ids b.1) (end_keeps (fails (Predefined raise)) id c b.0 h)

  -- of calls that are not over
  live_callers : (p : Call → Bool) → ((a : Call) → p a ≡ true → is_call_over a.state ≡ false) → (c : All Spot) → P c → EachIs (CallerOf c) (numbers p 0 c.shared.calls)
  live_callers p live c h =
      numbers_each p (CallerOf c) 0 c.shared.calls
      (λ i a e k.
      let z : i ≡ 0 + i = omega arith in
      subst (CallerOf c) z (closes.live i c h (ap (λ (x : Call). is_call_over x.state) (got_or i c.shared.calls a no_call e) ∙ live a k)))

  on_task_live : (n : ℕ) (a : Call) → is_queued a.state && is_task n a.owner ≡ true → is_call_over a.state ≡ false
  on_task_live n a k = queued_live a.state (queued_state a.state (and_left (is_queued a.state) (is_task n a.owner) k))

  on_object_live : (n : ℕ) (a : Call) → is_queued a.state && is_object n a.owner ≡ true → is_call_over a.state ≡ false
  on_object_live n a k = queued_live a.state (queued_state a.state (and_left (is_queued a.state) (is_object n a.owner) k))

  pub queues_keep : (n : ℕ) (c : All Spot) → P c → P (effect.refuse_queues go plan barrier n c)
  queues_keep n c h = refuse_keeps Tasking (calls_on_task n c.shared.calls) c (live_callers (λ a. is_queued a.state && is_task n a.owner) (on_task_live n) c h) h

  on_object_callers : (n : ℕ) (c : All Spot) → P c → EachIs (CallerOf c) (calls_on_object n c.shared.calls)
  on_object_callers n c h = live_callers (λ a. is_queued a.state && is_object n a.owner) (on_object_live n) c h

  first_caller : (n entry : ℕ) (c : All Spot) → P c → (w : Waiting) (ws : List Waiting) → queue n entry c.shared.calls ≡ w ∷ ws → CallerOf c w.call
  first_caller n entry c h w ws e = closes.live w.call c h (queued_live (call_of w.call c).state (first_in n entry c w ws e).queued)

  -- Tasks that are terminated.

  pub terminate_keeps : (n : ℕ) (c : All Spot) → P c → P (effect.terminate go plan barrier n c)
  terminate_keeps n c h =
      queues_keep n (on_own n (λ own. record own { status = Terminated; pending = None; display = []; opened = []; waits = no_waits }) c) (closes.terminated n c h)

  pub all_keep : (ns : List ℕ) (c : All Spot) → P c → P (effect.terminate_all go plan barrier ns c)
  all_keep [] c h = h
  all_keep (n ∷ ns) c h = all_keep ns (effect.terminate go plan barrier n c) (terminate_keeps n c h)

  pub master_keeps : (master : ℕ) (c : All Spot) → P c → P (effect.close_master go plan barrier master c)
  master_keeps master c h = all_keep (numbers (λ (t : TaskAt Spot). depends master t.own) 0 c.tasks) c h

  pub closes_keep : (n : ℕ) (c : All Spot) → P c → P (effect.closes go plan barrier n c)
  closes_keep n c h = terminate_keeps n (effect.close_master go plan barrier (body_master (own_of n c)) c) (master_keeps (body_master (own_of n c)) c h)

  pub part_keeps : (raise : Raise) (at : Pos) (n : ℕ) (c : All Spot) → B n → P c → P (effect.raises_in_part go plan barrier raise at n c)
  part_keeps raise at n c b h =
      let ns = effect.not_activated go plan barrier (innermost (own_of n c).opened) c in
      raised_keeps raise at n (effect.terminate_all go plan barrier ns c) b (all_keep ns c h)

  -- Tasks that are created and activated.

  opens_quiet : (purpose : Purpose) (region : ℕ) (at : Pos) (display : List ℕ) (cells : List ℤ) (elaborated : ℕ) → IsQuiet (λ t. opens purpose region at display cells elaborated t)
  opens_quiet purpose region at display cells elaborated = record { status = λ u. refl; again = λ u. refl; calls = λ u. refl; objects = λ u. refl }

  opens_keeps : (purpose : Purpose) (unit : ℕ) (at : Pos) (display : List ℕ) (cells : List ℤ) (n : ℕ) (c : All Spot) → B n → Busy n c → P c → P (effect.opens_for go plan barrier purpose unit at display cells n c)
  opens_keeps purpose unit at display cells n c b busy h = quiet_keeps (λ t. opens purpose (unit_of plan unit).region at display cells (length cells) t) n c b (opens_quiet purpose (unit_of plan unit).region at display cells (length cells)) busy h

  begins_keeps : (activator n : ℕ) (c : All Spot) → B n → P c → P (effect.begins go plan barrier activator n c)
  begins_keeps activator n c b h =
      let f : Own → Own = (λ own. record own { status = Running; activator = Some activator }) in
      opens_keeps for_body (own_of n c).unit (unit_of plan (own_of n c).unit).at (own_of n c).display (pos n ∷ []) n (on_own n f c) b (busy_then n (λ t. record t { own = f t.own }) c (λ t e done. not_running done))
      (own_keeps n f c b (λ t e. goes t.own (f t.own) not_running refl) h)

  begin_all_keeps : (activator : ℕ) (ns : List ℕ) (c : All Spot) → EachIs B ns → P c → P (effect.begin_all go plan barrier activator ns c)
  begin_all_keeps activator [] c b h = h
  begin_all_keeps activator (n ∷ ns) c b h = begin_all_keeps activator ns (effect.begins go plan barrier activator n c) b.1 (begins_keeps activator n c b.0 h)

  activates_by : (at : Pos) (n : ℕ) (ns : List ℕ) (c : All Spot) → B n → EachIs B ns → P c → P (effect.activates go plan barrier at n ns c)
  activates_by at n [] c b each h = control_keeps n (go.takes 0) c b h
  activates_by at n (m ∷ ms) c b each h = begin_all_keeps n (m ∷ ms) _ each (own_keeps n _ c b (λ t e. goes t.own _ not_activating refl) h)

  created_ones : (part : ℕ) (c : All Spot) → P c → EachIs B (effect.not_activated go plan barrier part c)
  created_ones part c h =
      numbers_each (λ (t : TaskAt Spot). is_created t.own.status && nat_eq t.own.part part) B 0 c.tasks
      (λ i t e k.
      let z : i ≡ 0 + i = omega arith in
      subst B z (closes.wakes i c h (subst (λ (o : Own). WakesUp o.status) (sym (own_got i c.tasks t e)) (created_wakes t.own.status (and_left (is_created t.own.status) (nat_eq t.own.part part) k)))))

  pub activates_keeps : (at : Pos) (part n : ℕ) (c : All Spot) → B n → P c → P (effect.activates go plan barrier at n (effect.not_activated go plan barrier part c) c)
  activates_keeps at part n c b h = activates_by at n (effect.not_activated go plan barrier part c) c b (created_ones part c h) h

  activator_keeps : (n : ℕ) (c : All Spot) → B n → P c → P (effect.activator_goes_on go plan barrier n c)
  activator_keeps n c b h = closes.task n _ c b (λ t e. by t.own.failed t) h
    where
      by : (f : Bool) (t : TaskAt Spot) → Changes t.own (if f then pends (Predefined Tasking) t.own.at (runs t.own) else runs t.own)
      by true t = goes t.own _ not_running refl
      by false t = goes t.own _ not_running refl

  looks_keeps : (n : ℕ) (c : All Spot) → P c → P (effect.activator_looks go plan barrier n c)
  looks_keeps n c h = by (effect.is_activating go plan barrier (own_of n c).status && not (any (effect.is_awaited_by go plan barrier n) c.tasks)) refl
    where
      by : (b : Bool) → effect.is_activating go plan barrier (own_of n c).status && not (any (effect.is_awaited_by go plan barrier n) c.tasks) ≡ b → P (if b then effect.activator_goes_on go plan barrier n c else c)
      by true e = activator_keeps n c (closes.wakes n c h (activating_wakes (own_of n c).status (and_left (effect.is_activating go plan barrier (own_of n c).status) (not (any (effect.is_awaited_by go plan barrier n) c.tasks)) e))) h
      by false e = h

  is_beside : (own new : Own) → new.status ≡ own.status → new.pending ≡ own.pending → new.opened ≡ own.opened → new.again ≡ own.again → IsBeside own new
  is_beside own new a b d e = record { status = a; pending = b; opened = d; again = e }

  activation_keeps : (a : Option ℕ) (failed : Bool) (n : ℕ) (c : All Spot) → P c → P (effect.activation_ended_by go plan barrier a failed n c)
  activation_keeps None failed n c h = h
  activation_keeps (Some m) failed n c h =
      let f : Own → Own = (λ own. record own { failed = own.failed || failed }) in
      let g : Own → Own = (λ own. record own { activator = None }) in
      looks_keeps m (on_own m f (on_own n g c)) (closes.beside m f (on_own n g c) (λ o. is_beside o (f o) refl refl refl refl) (closes.beside n g c (λ o. is_beside o (g o) refl refl refl refl) h))

  pub activated_keeps : (failed : Bool) (n : ℕ) (c : All Spot) → P c → P (effect.activation_ended go plan barrier failed n c)
  activated_keeps failed n c h = activation_keeps (own_of n c).activator failed n c h

  created_new : (creator : Own) (ts : Tasks) (first many i : ℕ) (t : TaskAt Spot) → slice_get (effect.all_created go plan barrier creator ts first many) i ≡ Some t → IsNew t.own
  created_new creator ts first zero i t e = absurd cc
  created_new creator ts first (suc many) zero t e = subst (λ (x : TaskAt Spot). IsNew x.own) (same_Some (effect.created go plan barrier creator ts first) t e) (record { status = refl; again = refl })
  created_new creator ts first (suc many) (suc i) t e = created_new creator ts (suc first) many i t e

  pub declares_keeps : (limits : Limits) (at : Pos) (ts : Tasks) (n : ℕ) (c : All Spot) → B n → Busy n c → P c → P (effect.declares_tasks go plan barrier limits at ts n c)
  declares_keeps limits at ts n c b busy h =
      let new : List (TaskAt Spot) = effect.all_created go plan barrier (own_of n c) ts 0 ts.length in
      let d : All Spot = record c { tasks = c.tasks ++ new } in
      let cells = effect.counted_from go plan barrier (length c.tasks) ts.length in
      either (not (nat_eq ts.length 0) && in_action n c) _ _ (part_keeps Program at n c b h)
      (either (nat_le ts.length ELEMENTS && nat_le (length c.tasks + ts.length) limits.tasks) _ _
      (control_keeps n (go.takes 0) (alone (λ t. effects.declares cells t) n d) b
      (quiet_keeps (λ t. effects.declares cells t) n d b (record { status = λ u. refl; again = λ u. refl; calls = λ u. refl; objects = λ u. refl })
      (λ t e done.
      joined_got (λ (x : TaskAt Spot). x.own.status ≡ Completed → ⊥) n c.tasks new busy
      (λ i x q k. not_created (sym (created_new (own_of n c) ts 0 ts.length i x q).status ∙ k)) t e done)
      (closes.more new c (created_new (own_of n c) ts 0 ts.length) h)))
      (part_keeps Storage at n c b h))

  -- Completion.

  abbrev pub completed : Option Exception → Own → Own
  completed raised own = record own { status = Completed; pending = None; raised = raised; waits = no_waits }

  abbrev pub accepts_of : List Opened → List ℕ
  accepts_of os = effect.accepts_under_way go plan barrier os

  pub completes_keeps : (raised : Option Exception) (n : ℕ) (c : All Spot) → EachIs (CallerOf c) (accepts_of (own_of n c).opened) → P (on_own n (completed raised) c) → P (effect.completes go plan barrier raised n c)
  completes_keeps raised n c callers h =
      let opened = (own_of n c).opened in
      activated_keeps (is_some raised) n _
      (all_keep (numbers (effect.created_in go plan barrier opened) 0 c.tasks) _ (queues_keep n _ (refuse_keeps Tasking (effect.accepts_under_way go plan barrier opened) (on_own n (completed raised) c) callers h)))

  -- Procedures.

  entered_busy : (n : ℕ) (f : Spot → Spot) (c : All Spot) → Busy n c → Busy n (on_control n f c)
  entered_busy n f c busy = busy_then n (λ t. record t { control = f t.control }) c (λ t e done. busy t e done)

  pub procedure_keeps : (at : Pos) (unit : ℕ) (p : Passed) (into : Option Target) (n : ℕ) (c : All Spot) → B n → Busy n c → P c → P (effect.calls_procedure go plan barrier at unit p into n c)
  procedure_keeps at unit p into n c b busy h =
      either (has_room (own_of n c)) _ _
      (opens_keeps _ unit at _ p.values n (on_control n (go.enters unit) c) b (entered_busy n (go.enters unit) c busy) (control_keeps n (go.enters unit) c b h))
      (raised_keeps Storage at n c b h)

  given_keeps : (back : CopiedBack) (at : Pos) (n : ℕ) (c : All Spot) → B n → P c → P (effect.given_back go plan barrier back at n c)
  given_keeps back at n c b h = by back.raised
    where
      by : (r : Option Raise) → P (effect.given_back go plan barrier (record { frames = back.frames; raised = r }) at n c)
      by None = control_keeps n (go.takes 0) (with_frames back.frames c) b (frames_keep back c h)
      by (Some raise) = raised_keeps raise at n (with_frames back.frames c) b (frames_keep back c h)

  returned_keeps : (p : Option Pending) (r : Returning) (frame : ℕ) (at : Pos) (n : ℕ) (c : All Spot) → B n → P c → P (effect.returned_or go plan barrier p r frame at n c)
  returned_keeps None r frame at n c b h = either (r.is_function && is_none r.value) _ _ (raised_keeps Program at n c b h) (given_keeps _ at n c b h)
  returned_keeps (Some p) r frame at n c b h = pends_keeps p.exception at n c b h

  -- a task that is not completed leaves frames
  left_keeps : (n : ℕ) (f : Own → Own) (c : All Spot) → B n → ((o : Own) → (f o).status ≡ o.status) → ((o : Own) (r : Again) → (f o).again ≡ Some r → o.again ≡ Some r) → Busy n c → P c → P (on_own n f c)
  left_keeps n f c b same again busy h = own_keeps n f c b (λ t e. record { ended = λ done. absurd (busy t e (sym (same t.own) ∙ done)); again = again t.own }) h

  left_busy : (n : ℕ) (f : Own → Own) (c : All Spot) → ((o : Own) → (f o).status ≡ o.status) → Busy n c → Busy n (on_own n f c)
  left_busy n f c same busy = busy_then n (λ t. record t { own = f t.own }) c (λ t e done. busy t e (sym (same t.own) ∙ done))

  closed_same : (o : Own) → (closed o).status ≡ o.status
  closed_same o = closed_status o.opened o

  closed_still : (o : Own) (r : Again) → (closed o).again ≡ Some r → o.again ≡ Some r
  closed_still o r e = sym (closed_again o.opened o) ∙ e

  closed_keeps : (n : ℕ) (c : All Spot) → B n → Busy n c → P c → P (on_own n closed c)
  closed_keeps n c b busy h = left_keeps n closed c b closed_same closed_still busy h

  pub block_keeps : (p : Option Pending) (o : Opened) (n : ℕ) (c : All Spot) → B n → Busy n c → P c → P (effect.at_block_end go plan barrier p o n c)
  block_keeps None o n c b busy h = master_keeps o.frame _ (closed_keeps n c b busy h)
  block_keeps (Some p) o n c b busy h = master_keeps o.frame _ (left_keeps n (λ own. pends p.exception o.at (closed own)) c b closed_same closed_still busy h)

  procedure_ends_keep : (p : Option Pending) (r : Returning) (o : Opened) (n : ℕ) (c : All Spot) → B n → Busy n c → P c → P (effect.at_procedure_end go plan barrier p r o n c)
  procedure_ends_keep p r o n c b busy h = returned_keeps p r o.frame o.at n _ b (master_keeps o.frame _ (closed_keeps n c b busy h))

  -- Rendezvous.

  rendezvous_by_keeps : (region : Option ℕ) (a : OpenAccept) (id n : ℕ) (c : All Spot) → B n → CallerOf c id → P c → P (effect.rendezvous_by go plan barrier region a id n c)
  rendezvous_by_keeps None a id n c b caller h =
      end_keeps (succeeds ((call_of id c).values ++ (call_of id c).unseen)) id (on_task n (λ t. record { control = go.takes a.alternative t.control; own = runs t.own }) c) caller
      (closes.task n (λ t. record { control = go.takes a.alternative t.control; own = runs t.own }) c b (λ t e. goes t.own (runs t.own) not_running refl) h)
  rendezvous_by_keeps (Some region) a id n c b caller h =
      let f : TaskAt Spot → TaskAt Spot = (λ t. record { control = go.accepts a.alternative t.control; own = runs t.own }) in
      alone_keeps (λ t. opens (for_accept id) region a.at t.own.display (call_of id c).values (length (call_of id c).values) t) n (on_task n f c) b (λ u. refl) (λ u. refl)
      (λ t e. goes t.own _ (λ done. busy_then n f c (λ t e done. not_running done) t e done) refl) (closes.task n f c b (λ t e. goes t.own (runs t.own) not_running refl) h)

  -- a call is selected, or arrives, as it was
  selected_keeps : (id : ℕ) (g : Call → Call) (c : All Spot) → ((a : Call) → (g a).caller ≡ a.caller) → CallerOf c id → P c → P (on_call id g c) × CallerOf (on_call id g c) id
  selected_keeps id g c same caller h = (closes.call id g c same (inr caller) h, subst B (sym (changed_caller id id g c.shared.calls same)) caller)

  arrives_keeps : (id : ℕ) (c : All Spot) → CallerOf c id → P c → P (arrives id c)
  arrives_keeps id c caller h =
      let g : Call → Call = (λ a. record a { state = Queued; arrival = c.shared.arrivals }) in
      closes.rest (on_call id g c) (arrives id c) refl refl refl (selected_keeps id g c (λ a. refl) caller h).0

  pub rendezvous_keeps : (a : OpenAccept) (id n : ℕ) (c : All Spot) → B n → CallerOf c id → P c → P (effect.rendezvous go plan barrier a id n c)
  rendezvous_keeps a id n c b caller h =
      let g : Call → Call = (λ call. record call { state = Selected }) in
      let k = selected_keeps id g c (λ a. refl) caller h in
      rendezvous_by_keeps a.region a id n (on_call id g c) b k.1 k.0

  again_keeps : (alternative : Option ℕ) (ones : List OpenAccept) (id task : ℕ) (c : All Spot) → ((a : OpenAccept) (more : List OpenAccept) → ones ≡ a ∷ more → B task) → CallerOf c id → P c → P (effect.made_again go plan barrier alternative ones id task c)
  again_keeps alternative [] id task c b caller h = arrives_keeps id c caller h
  again_keeps alternative (a ∷ more) id task c b caller h = rendezvous_keeps (alternative_of alternative a (a ∷ more)) id task c (b a more refl) caller h

  open_task : (task entry : ℕ) (c : All Spot) → P c → (a : OpenAccept) (more : List OpenAccept) → open_alternatives (own_of task c) entry ≡ a ∷ more → B task
  open_task task entry c h a more e = closes.wakes task c h (open_wakes (own_of task c) entry a more e)

  requeued_keeps : (alternative : Option ℕ) (o : Owner) (at : Pos) (id n : ℕ) (c : All Spot) → CallerOf c id → P c → P (effect.requeued_on go plan barrier alternative o at id n c)
  requeued_keeps alternative (owner.Task task) at id n c caller h =
      let g : Call → Call = effect.called_of go plan barrier (owner.Task task) in
      let k = selected_keeps id g c (λ a. refl) caller h in
      either (effect.is_lost go plan barrier (call_of id c) c) (cancels id c) _ (cancels_keeps id c h)
      (either (is_callable (own_of task c)) _ _ (again_keeps alternative (open_alternatives (own_of task c) (call_of id c).entry) id task (on_call id g c) (open_task task (call_of id c).entry c h) k.1 k.0) (end_keeps (fails (Predefined Tasking)) id c caller h))
  requeued_keeps alternative (owner.Object object) at id n c caller h =
      let f : Own → Own = (λ own. record own { restart = Some (record { call = id; object = object; at = at }) }) in
      closes.beside n f c (λ o. is_beside o (f o) refl refl refl refl) h

  pub accept_keeps : (alternative : Option ℕ) (again : Option Again) (values : List ℤ) (id n : ℕ) (c : All Spot) → CallerOf c id → P c → P (effect.accept_ended go plan barrier alternative again values id n c)
  accept_keeps alternative None values id n c caller h = end_keeps (succeeds values) id c caller h
  accept_keeps alternative (Some r) values id n c caller h =
      let g : Call → Call = effect.retargeted go plan barrier r values in
      let k = selected_keeps id g c (λ a. refl) caller h in
      requeued_keeps alternative r.owner r.at id n (on_call id g c) k.1 k.0

  none_again : (o : Own) (r : Again) → None ≡ Some r → o.again ≡ Some r
  none_again o r e = absurd cc

  accept_ends_keep : (alternative : Option ℕ) (p : Option Pending) (id : ℕ) (o : Opened) (n : ℕ) (c : All Spot) → B n → CallerOf c id → Busy n c → P c → P (effect.at_accept_end go plan barrier alternative p id o n c)
  accept_ends_keep alternative None id o n c b caller busy h =
      let f : Own → Own = (λ own. record (closed own) { again = None }) in
      accept_keeps alternative (own_of n c).again (effect.present_values go plan barrier id o.frame c) id n (on_own n f c) caller (left_keeps n f c b closed_same none_again busy h)
  accept_ends_keep alternative (Some p) id o n c b caller busy h =
      let f : Own → Own = (λ own. pends p.exception o.at (record (closed own) { again = None })) in
      end_keeps (fails p.exception) id (on_own n f c) caller (left_keeps n f c b closed_same none_again busy h)

  accepts_keep : (a : OpenAccept) (ws : List Waiting) (n : ℕ) (c : All Spot) → B n → ((w : Waiting) (rest : List Waiting) → ws ≡ w ∷ rest → CallerOf c w.call) → P c → P (effect.accepts_oldest go plan barrier a ws n c)
  accepts_keep a [] n c b callers h = own_keeps n _ c b (λ t e. goes t.own _ not_accepting refl) h
  accepts_keep a (w ∷ ws) n c b callers h = rendezvous_keeps a w.call n c b (callers w ws refl) h

  pub call_keeps : (a : OpenAccept) (n : ℕ) (c : All Spot) → B n → P c → P (effect.accepts_call go plan barrier a n c)
  call_keeps a n c b h = accepts_keep a (queue n a.entry c.shared.calls) n c b (first_caller n a.entry c h) h

  at_call_keeps : (task id : ℕ) (at : Pos) (c : All Spot) → B task → P c → P (stands_at_call task id at c)
  at_call_keeps task id at c b h = own_keeps task _ c b (λ t e. goes t.own _ not_calling refl) h

  -- a new call, at which its caller stands
  abbrev with_call : Call → All Spot → All Spot
  with_call call c = stands_at_call call.caller (call_number c) call.at (new_call call c)

  new_keeps : (call : Call) (c : All Spot) → B call.caller → P c → P (with_call call c)
  new_keeps call c b h = at_call_keeps call.caller (call_number c) call.at (new_call call c) b (closes.made call c b h)

  new_caller : (call : Call) (c : All Spot) → B call.caller → CallerOf (with_call call c) (call_number c)
  new_caller call c b = subst (λ (x : Call). B x.caller) (sym (last_or c.shared.calls call no_call)) b

  open_keeps : (alternative : Option ℕ) (ones : List OpenAccept) (call : Call) (task : ℕ) (c : All Spot) → ((a : OpenAccept) (more : List OpenAccept) → ones ≡ a ∷ more → B task) → B call.caller → P c → P (effect.calls_open go plan barrier alternative ones call task c)
  open_keeps alternative [] call task c b caller h =
      either (effect.is_conditional go plan barrier call.form) _ _ (control_keeps call.caller (go.takes 1) c caller h) (arrives_keeps (call_number c) (with_call call c) (new_caller call c caller) (new_keeps call c caller h))
  open_keeps alternative (a ∷ more) call task c b caller h = rendezvous_keeps (alternative_of alternative a (a ∷ more)) (call_number c) task (with_call call c) (b a more refl) (new_caller call c caller) (new_keeps call c caller h)

  pub calls_keep : (alternative : Option ℕ) (call : Call) (task : ℕ) (c : All Spot) → B call.caller → P c → P (effect.calls_task go plan barrier alternative call task c)
  calls_keep alternative call task c b h =
      either (in_action call.caller c) _ _ (raised_keeps Program call.at call.caller c b h)
      (either (is_callable (own_of task c)) _ _ (open_keeps alternative (open_alternatives (own_of task c) call.entry) call task c (open_task task call.entry c h) b h) (raised_keeps Tasking call.at call.caller c b h))

  -- Selective accepts and delays.

  first_keeps : (ones : List OpenAccept) (n : ℕ) (c : All Spot) → B n → P c → P (effect.selected_first go plan barrier ones n c)
  first_keeps [] n c b h = h
  first_keeps (o ∷ os) n c b h = call_keeps o n c b h

  pub selects_keep : (alternative : Option ℕ) (has_else : Bool) (waits : Waits) (at : Pos) (n : ℕ) (c : All Spot) → B n → P c → P (effect.selects go plan barrier alternative has_else waits at n c)
  selects_keep None true waits at n c b h = control_keeps n (go.takes 0) c b h
  selects_keep None false waits at n c b h = either _ _ _ (raised_keeps Program at n c b h) (own_keeps n _ c b (λ t e. goes t.own _ not_accepting refl) h)
  selects_keep (Some a) has_else waits at n c b h = first_keeps (filter (λ (o : OpenAccept). nat_eq o.alternative a) waits.accepts) n c b h

  pub delays_keep : (ms : ℕ) (at : Pos) (n : ℕ) (c : All Spot) → B n → P c → P (effect.delays_for go plan barrier ms at n c)
  delays_keep ms at n c b h =
      either (in_action n c) _ _ (raised_keeps Program at n c b h)
      (either (nat_eq ms 0) _ _ (control_keeps n (go.takes 0) c b h) (own_keeps n _ c b (λ t e. goes t.own _ not_delaying refl) h))

  pub expires_keep : (alternative n : ℕ) (c : All Spot) → B n → P c → P (effect.delay_expires go plan barrier alternative n c)
  expires_keep alternative n c b h = closes.task n _ c b (λ t e. goes t.own (runs t.own) not_running refl) h

  -- Protected objects.

  action_keeps : (task object : ℕ) (c : All Spot) → P c → P (end_action task object c)
  action_keeps task object c h =
      let f : Own → Own = (λ own. record own { serving = None }) in
      closes.beside task f _ (λ o. is_beside o (f o) refl refl refl refl) (closes.object object _ c h)

  begin_keeps : (task object : ℕ) (reading : Bool) (c : All Spot) → P c → P (begin_action task object reading c)
  begin_keeps task object reading c h = closes.object object _ c h

  serviced_by_keeps : (r : Result (List ℕ) Raise) (object : ℕ) (at : Pos) (n : ℕ) (c : All Spot) → P c → P (effect.serviced_by go plan barrier r object at n c)
  serviced_by_keeps (Err raise) object at n c h = action_keeps n object _ (refuse_keeps Program (calls_on_object object c.shared.calls) c (on_object_callers object c h) h)
  serviced_by_keeps (Ok []) object at n c h = action_keeps n object c h
  serviced_by_keeps (Ok (e ∷ es)) object at n c h =
      let f : Own → Own = (λ own. record own { serving = Some (record { object = object; at = at }) }) in
      closes.beside n f c (λ o. is_beside o (f o) refl refl refl refl) h

  serviced_keeps : (object : ℕ) (at : Pos) (n : ℕ) (c : All Spot) → P c → P (effect.serviced go plan barrier object at n c)
  serviced_keeps object at n c h = serviced_by_keeps (effect.eligible plan barrier object c) object at n c h

  enters_keep : (served : Bool) (at : Pos) (object id n : ℕ) (c : All Spot) → B n → CallerOf c id → P c → P (effect.enters_entry go plan barrier served at object id n c)
  enters_keep served at object id n c b caller h =
      let call = call_of id c in
      let unit = (entry_plan plan call.entry).unit in
      let back : Resumed = record { status = (own_of n c).status; pending = (own_of n c).pending } in
      let f : TaskAt Spot → TaskAt Spot = (λ t. record { control = go.enters unit t.control; own = record t.own { status = Running; pending = None; serving = None } }) in
      let d : All Spot = effect.opens_for go plan barrier (for_entry object id served back) unit at (object_of object c).display call.values n (on_task n f c) in
      let same : d.shared.calls ≡ c.shared.calls =
      alone_calls (λ t. opens (for_entry object id served back) (unit_of plan unit).region at (object_of object c).display call.values (length call.values) t) n (on_task n f c)
      (opens_quiet (for_entry object id served back) (unit_of plan unit).region at (object_of object c).display call.values (length call.values)) in
      closes.call id (λ a. record a { state = Selected }) d (λ a. refl) (inr (subst (λ calls. B (slice_index_or calls id no_call).caller) (sym same) caller))
      (opens_keeps (for_entry object id served back) unit at (object_of object c).display call.values n (on_task n f c) b (busy_then n f c (λ t e done. not_running done))
      (closes.task n f c b (λ t e. goes t.own (f t).own not_running refl) h))

  met_keeps : (r : Result Bool Raise) (at : Pos) (object id n : ℕ) (c : All Spot) → B n → CallerOf c id → P c → P (effect.barrier_met go plan barrier r at object id n c)
  met_keeps (Err raise) at object id n c b caller h =
      action_keeps n object _
      (refuse_keeps Program (calls_on_object object c.shared.calls) (effect.end_call go plan barrier (fails (Predefined Program)) id c) (others_same (Predefined Program) id c (calls_on_object object c.shared.calls) (on_object_callers object c h))
      (end_keeps (fails (Predefined Program)) id c caller h))
  met_keeps (Ok true) at object id n c b caller h = enters_keep false at object id n c b caller h
  met_keeps (Ok false) at object id n c b caller h =
      let f : TaskAt Spot → TaskAt Spot = (λ t. record { control = go.takes 1 t.control; own = runs t.own }) in
      either (effect.is_conditional go plan barrier (call_of id c).form) _ _
      (action_keeps n object (cancels id (on_task n f c)) (cancels_keeps id (on_task n f c) (closes.task n f c b (λ t e. goes t.own (runs t.own) not_running refl) h)))
      (serviced_keeps object at n (arrives id c) (arrives_keeps id c caller h))

  pub object_keeps : (call : Call) (object : ℕ) (c : All Spot) → B call.caller → P c → P (effect.calls_object go plan barrier call object c)
  object_keeps call object c b h =
      let n = call.caller in
      let id = call_number c in
      let d : All Spot = begin_action n object false (with_call call c) in
      either (in_action n c) _ _ (raised_keeps Program call.at n c b h)
      (either (has_room (own_of n c)) _ _
      (met_keeps (effect.barrier_of plan barrier object call.entry c) call.at object id n d b (new_caller call c b) (begin_keeps n object false (with_call call c) (new_keeps call c b h))) (raised_keeps Storage call.at n c b h))

  pub starts_keep : (r : Restart) (n : ℕ) (c : All Spot) → B n → CallerOf c r.call → P c → P (effect.starts_again go plan barrier r n c)
  starts_keep r n c b caller h =
      let f : Own → Own = (λ own. record own { restart = None }) in
      let g : Call → Call = effect.called_of go plan barrier (owner.Object r.object) in
      let d : All Spot = on_own n f c in
      let k : P d = closes.beside n f c (λ o. is_beside o (f o) refl refl refl refl) h in
      let s = selected_keeps r.call g d (λ a. refl) caller k in
      either (effect.is_lost go plan barrier (call_of r.call c) c) (cancels r.call d) _ (cancels_keeps r.call d k)
      (met_keeps (effect.barrier_of plan barrier r.object (call_of r.call c).entry c) r.at r.object r.call n (begin_action n r.object false (on_call r.call g d)) b s.1 (begin_keeps n r.object false (on_call r.call g d) s.0))

  pub operation_keeps : (at : Pos) (object unit : ℕ) (p : Passed) (into : Option Target) (n : ℕ) (c : All Spot) → B n → Busy n c → P c → P (effect.calls_operation go plan barrier at object unit p into n c)
  operation_keeps at object unit p into n c b busy h =
      let purpose : Purpose = for_operation object (record { is_function = (unit_of plan unit).is_function; backs = p.backs; into = into; value = None }) in
      either (acts_on n (object_of object c)) _ _ (raised_keeps Program at n c b h)
      (either (has_room (own_of n c)) _ _
      (begin_keeps n object (unit_of plan unit).is_function (effect.opens_for go plan barrier purpose unit at (object_of object c).display p.values n (on_control n (go.enters unit) c))
      (opens_keeps purpose unit at (object_of object c).display p.values n (on_control n (go.enters unit) c) b (entered_busy n (go.enters unit) c busy) (control_keeps n (go.enters unit) c b h)))
      (raised_keeps Storage at n c b h))

  operation_ends_keep : (p : Option Pending) (object : ℕ) (r : Returning) (o : Opened) (n : ℕ) (c : All Spot) → B n → Busy n c → P c → P (effect.at_operation_end go plan barrier p object r o n c)
  operation_ends_keep p object r o n c b busy h =
      let d : All Spot = effect.returned_or go plan barrier p r o.frame o.at n (on_own n closed c) in
      let k : P d = returned_keeps p r o.frame o.at n (on_own n closed c) b (closed_keeps n c b busy h) in
      either r.is_function (end_action n object d) _ (action_keeps n object d k) (serviced_keeps object o.at n d k)

  entry_ended_keeps : (p : Option Pending) (again : Option Again) (values : List ℤ) (object id : ℕ) (c : All Spot) → CallerOf c id → P c → P (effect.entry_ended go plan barrier p again values object id c)
  entry_ended_keeps (Some p) again values object id c caller h = end_keeps (fails p.exception) id c caller h
  entry_ended_keeps None None values object id c caller h = end_keeps (succeeds values) id c caller h
  entry_ended_keeps None (Some r) values object id c caller h =
      let g : Call → Call = effect.retargeted go plan barrier r values in
      let d : All Spot = on_call id g c in
      let k = selected_keeps id g c (λ a. refl) caller h in
      let called : Call → Call = effect.called_of go plan barrier (owner.Object object) in
      let s = selected_keeps id called d (λ a. refl) k.1 k.0 in
      either (effect.is_lost go plan barrier (call_of id d) d) (cancels id d) _ (cancels_keeps id d k.0) (arrives_keeps id (on_call id called d) s.1 s.0)

  entry_ends_keep : (p : Option Pending) (object id : ℕ) (back : Resumed) (o : Opened) (n : ℕ) (c : All Spot) → B n → CallerOf c id → (back.status ≡ Completed → ⊥) → P c → P (effect.at_entry_end go plan barrier p object id back o n c)
  entry_ends_keep p object id back o n c b caller goes_back h =
      let f : Own → Own = (λ own. record (closed own) { status = back.status; pending = back.pending; again = None }) in
      serviced_keeps object o.at n _
      (entry_ended_keeps p (own_of n c).again (effect.present_values go plan barrier id o.frame c) object id (on_own n f c) caller (own_keeps n f c b (λ t e. record { ended = λ done. absurd (goes_back done); again = none_again t.own }) h))

  oldest_keeps : (ws : List Waiting) (s : Serving) (n : ℕ) (c : All Spot) → B n → ((w : Waiting) (rest : List Waiting) → ws ≡ w ∷ rest → CallerOf c w.call) → P c → P (effect.serves_oldest go plan barrier ws s n c)
  oldest_keeps [] s n c b callers h = h
  oldest_keeps (w ∷ ws) s n c b callers h = enters_keep true s.at s.object w.call n c b (callers w ws refl) h

  pub serves_keep : (alternative : Option ℕ) (s : Serving) (n : ℕ) (c : All Spot) → B n → P c → P (effect.serves go plan barrier alternative s n c)
  serves_keep None s n c b h = serviced_keeps s.object s.at n c h
  serves_keep (Some index) s n c b h =
      let entry = slice_index_or (0 ∷ effect.entries_of plan barrier s.object c) index 0 in
      oldest_keeps (queue s.object entry c.shared.calls) s n c b (first_caller s.object entry c h) h

  cancelled_keeps : (o : Owner) (at : Pos) (n : ℕ) (c : All Spot) → P c → P (effect.cancelled_on go plan barrier o at n c)
  cancelled_keeps (owner.Task m) at n c h = h
  cancelled_keeps (owner.Object object) at n c h = serviced_keeps object at n (begin_action n object false c) (begin_keeps n object false c h)

  pub call_expires_keeps : (n : ℕ) (c : All Spot) → B n → P c → P (effect.call_expires go plan barrier n c)
  call_expires_keeps n c b h =
      let f : TaskAt Spot → TaskAt Spot = (λ t. record { control = go.takes 1 t.control; own = runs t.own }) in
      let id = (own_of n c).call in
      cancelled_keeps (call_of id c).owner (call_of id c).at n (cancels id (on_task n f c)) (cancels_keeps id (on_task n f c) (closes.task n f c b (λ t e. goes t.own (runs t.own) not_running refl) h))

  -- Abort.

  withdraws_from_keeps : (o : Owner) (n : ℕ) (c : All Spot) → P c → P (on_own n (effect.withdraws_from go plan barrier o) c)
  withdraws_from_keeps (owner.Task m) n c h = closes.beside n _ c (λ o. is_beside o o refl refl refl refl) h
  withdraws_from_keeps (owner.Object object) n c h = closes.beside n _ c (λ o. is_beside o (record o { withdraw = Some object }) refl refl refl refl) h

  loses_keep : (n : ℕ) (ids : List ℕ) (c : All Spot) → P c → P (effect.loses_call go plan barrier n ids c)
  loses_keep n [] c h = h
  loses_keep n (id ∷ ids) c h = loses_keep n ids _ (cancels_keeps id _ (withdraws_from_keeps (call_of id c).owner n c h))

  each_keeps : (f : ℕ → All Spot → All Spot) → ((n : ℕ) (c : All Spot) → P c → P (f n c)) → (ns : List ℕ) (c : All Spot) → P c → P (effect.each go plan barrier f ns c)
  each_keeps f g [] c h = h
  each_keeps f g (n ∷ ns) c h = each_keeps f g ns (f n c) (g n c h)

  created_ends_keep : (n : ℕ) (c : All Spot) → P c → P (effect.terminates_created go plan barrier n c)
  created_ends_keep n c h = either (is_created (own_of n c).status) _ _ (terminate_keeps n c h) h

  pub aborts_keep : (named : List ℕ) (at : Pos) (n : ℕ) (c : All Spot) → B n → P c → P (effect.aborts go plan barrier named at n c)
  aborts_keep named at n c b h =
      let hit : List ℕ = effect.hit_from go plan barrier named (effect.bodies_of go plan barrier named c) 0 c.tasks in
      let f : ℕ → All Spot → All Spot = (λ m d. on_own m (λ own. record own { abnormal = true }) d) in
      let g : ℕ → All Spot → All Spot = (λ m d. effect.loses_call go plan barrier m (effect.own_calls go plan barrier m d.shared.calls) d) in
      let c1 : All Spot = effect.each go plan barrier f hit (on_control n (go.takes 0) c) in
      let c2 : All Spot = effect.each go plan barrier g hit c1 in
      let c3 : All Spot = effect.each go plan barrier (effect.refuse_queues go plan barrier) hit c2 in
      let h1 : P c1 = each_keeps f (λ m d k. closes.beside m (λ own. record own { abnormal = true }) d (λ o. is_beside o (record o { abnormal = true }) refl refl refl refl) k) hit (on_control n (go.takes 0) c) (control_keeps n (go.takes 0) c b h) in
      let h2 : P c2 = each_keeps g (λ m d k. loses_keep m (effect.own_calls go plan barrier m d.shared.calls) d k) hit c1 h1 in
      let h3 : P c3 = each_keeps (effect.refuse_queues go plan barrier) queues_keep hit c2 h2 in
      either (in_action n c) _ _ (raised_keeps Program at n c b h) (each_keeps (effect.terminates_created go plan barrier) created_ends_keep hit c3 h3)

  pub withdraws_keep : (object n : ℕ) (c : All Spot) → P c → P (effect.withdraws go plan barrier object n c)
  withdraws_keep object n c h =
      let f : Own → Own = (λ own. record own { withdraw = None }) in
      serviced_keeps object (own_of n c).at n (begin_action n object false (on_own n f c)) (begin_keeps n object false (on_own n f c) (closes.beside n f c (λ o. is_beside o (f o) refl refl refl refl) h))

  -- The innermost construct is left.

  -- where it leads: a call's caller, and what is as before an entry's body
  abbrev pub Leads : All Spot → Purpose → Type 0
  Leads c for_body = Unit {0}
  Leads c for_block = Unit {0}
  Leads c for_loop = Unit {0}
  Leads c (for_procedure r) = Unit {0}
  Leads c (for_operation n r) = Unit {0}
  Leads c (for_entry n id served back) = (back.status ≡ Completed → ⊥) × CallerOf c id
  Leads c (for_accept id) = CallerOf c id

  loops_same : (o : Own) → (out_of_loops o).status ≡ o.status
  loops_same o = loops_status o.opened o

  loops_still : (o : Own) (r : Again) → (out_of_loops o).again ≡ Some r → o.again ≡ Some r
  loops_still o r e = sym (loops_again o.opened o) ∙ e

  ends_by_keep : (alternative : Option ℕ) (purpose : Purpose) (p : Option Pending) (o : Opened) (n : ℕ) (c : All Spot) → B n → Leads c purpose → (purpose ≡ for_body → P (effect.completes go plan barrier (exception_of p) n c)) → Busy n c → P c → P (effect.at_end_by go plan barrier alternative purpose p o n c)
  ends_by_keep alternative for_body p o n c b leads body busy h = body refl
  ends_by_keep alternative for_block p o n c b leads body busy h = block_keeps p o n (on_own n out_of_loops c) b (left_busy n out_of_loops c loops_same busy) (left_keeps n out_of_loops c b loops_same loops_still busy h)
  ends_by_keep alternative for_loop p o n c b leads body busy h = h
  ends_by_keep alternative (for_procedure r) p o n c b leads body busy h = procedure_ends_keep p r o n (on_own n out_of_loops c) b (left_busy n out_of_loops c loops_same busy) (left_keeps n out_of_loops c b loops_same loops_still busy h)
  ends_by_keep alternative (for_operation object r) p o n c b leads body busy h = operation_ends_keep p object r o n (on_own n out_of_loops c) b (left_busy n out_of_loops c loops_same busy) (left_keeps n out_of_loops c b loops_same loops_still busy h)
  ends_by_keep alternative (for_entry object id served back) p o n c b leads body busy h = entry_ends_keep p object id back o n (on_own n out_of_loops c) b leads.1 leads.0 (left_keeps n out_of_loops c b loops_same loops_still busy h)
  ends_by_keep alternative (for_accept id) p o n c b leads body busy h = accept_ends_keep alternative p id o n (on_own n out_of_loops c) b leads (left_busy n out_of_loops c loops_same busy) (left_keeps n out_of_loops c b loops_same loops_still busy h)

  -- of what is left within it
  abbrev pub LastLeads : All Spot → List Opened → Type 0
  LastLeads c [] = Unit {0}
  LastLeads c (o ∷ os) = Leads c o.purpose

  abbrev pub IfBody : List Opened → Type 0 → Type 0
  IfBody [] Q = Unit {0}
  IfBody (o ∷ os) Q = o.purpose ≡ for_body → Q

  ends_of_keep : (alternative : Option ℕ) (os : List Opened) (p : Option Pending) (n : ℕ) (c : All Spot) → B n → LastLeads c os → IfBody os (P (effect.completes go plan barrier (exception_of p) n c)) → Busy n c → P c → P (effect.at_end_of go plan barrier alternative os p n c)
  ends_of_keep alternative [] p n c b leads body busy h = h
  ends_of_keep alternative (o ∷ os) p n c b leads body busy h = ends_by_keep alternative o.purpose p o n c b leads body busy h

  pub at_end_keeps : (alternative : Option ℕ) (p : Option Pending) (n : ℕ) (c : All Spot) → B n → LastLeads c (out_of_loops (own_of n c)).opened → IfBody (out_of_loops (own_of n c)).opened (P (effect.completes go plan barrier (exception_of p) n c)) → Busy n c → P c → P (effect.at_end go plan barrier alternative p n c)
  at_end_keeps alternative p n c b leads body busy h = ends_of_keep alternative (out_of_loops (own_of n c)).opened p n c b leads body busy h

-- What a step does to all tasks keeps programs the same but for what nothing names: calls that end, tasks that end, activation.
use Rattle.std.proofs.Common.{◌≡◌, ℕ, zero, suc, ◌+◌, ℤ, pos, List, [], ◌∷◌, ◌++◌, length, Option, Some, None, Bool, true, false, ◌||◌, ap, subst}
use Rattle.std.specs.Prelude.{if◌then◌else◌, filter, not, ◌&&◌, nat_eq, nat_le, Result, is_some}
use Rattle.aud_text.specs.declared.place.Pos.{Pos}
use Rattle.aud_text.specs.declared.raise.Raise.{Raise}
use Rattle.aud_text.specs.declared.raise.Raise.TheVariants.{Program, Storage, Tasking}
use Rattle.aud_text.specs.declared.limits.Limits.{Limits}
use Rattle.aud_text.specs.declared.limits.TheConstants.{ELEMENTS}
use Rattle.aud_typed.specs.declared.program.Exception.{Exception}
use Rattle.aud_typed.specs.declared.program.Exception.TheVariants.{Predefined}
use Rattle.aud_typed.specs.Tree.{Plan, Tasks}
use Rattle.aud_meaning.specs.Orders.{noted}
use Rattle.aud_meaning.specs.declared.state.Status.TheVariants.{Running, Activating, Completed, Terminated}
use Rattle.aud_meaning.specs.declared.state.CallState.TheVariants.{Queued, Done, Cancelled}
use Rattle.aud_meaning.specs.declared.state.Action.{Action}
use Rattle.aud_meaning.specs.Configuration.{Frame, Purpose, for_body, for_block, for_loop, for_procedure, for_operation, for_entry, for_accept, Opened, Own, Call, TaskAt, All}
use Rattle.aud_meaning.specs.Evaluation.{Sight}
use Rattle.aud_meaning.specs.Control.{Moved, takes_part}
use Rattle.aud_meaning.specs.Effects.{opens, pends, declares, innermost, copied_back}
use Rattle.aud_meaning.specs.Parts.{Outcome, succeeds, fails, any, arrives, begin_action, blocks, body_master, call_of, calls_on_object, cancels, depends, end_action, in_action, is_created, is_queued, is_task, is_object, no_waits, numbers, on_call, on_control, on_object, on_own, on_shared, own_of, raised_at, runs, stands_at_call, with_frames, alone, unit_of}
use Rattle.aud_meaning.specs.Tasks as effect
use Rattle.aud_over.specs.Over.{with_kept}
use Rattle.aud_over.proofs.Calls.{EachOf, same_at, numbers_same, numbers_kept}
use Rattle.aud_over.proofs.Beside.{Kept, KeepsPurpose, NamesAll, Names, TasksName, MayHave, Beside, each_taken, beside, at_kept, if_beside, own_names, joined_names, task_kept, own_kept, control_kept, call_kept, object_kept, frames_kept, alone_kept}
use Rattle.aud_over.proofs.Effects.{BackSame, copied_same, opens_one, declares_one}

module _ (p : Kept) where
  pub raised_kept : (raise : Raise) (at : Pos) (n : ℕ) (c d : All Moved) → Beside p c d → Beside p (raised_at raise at n c) (raised_at raise at n d)
  raised_kept raise at n c d r = own_kept p n (pends (Predefined raise) at) c d (λ o h. h) r

  -- Calls.

  pub cancels_kept : (id : ℕ) (c d : All Moved) → p.kept id → Beside p c d → Beside p (cancels id c) (cancels id d)
  cancels_kept id c d k r = call_kept p id (λ a. record a { state = Cancelled }) c d k r

  abbrev one_arrived : All Moved → All Moved
  one_arrived c = on_shared (λ s. record s { arrivals = suc s.arrivals }) c

  arrived_kept : (c d : All Moved) → Beside p c d → Beside p (one_arrived c) (one_arrived d)
  arrived_kept c d r = record {
    fs = r.fs;
    cs = r.cs;
    same = ap one_arrived r.same;
    may = record { frames = r.may.frames; calls = r.may.calls; tasks = r.may.tasks; objects = r.may.objects; room = r.may.room; call_room = r.may.call_room };
  }

  pub arrives_kept : (id : ℕ) (c d : All Moved) → p.kept id → Beside p c d → Beside p (arrives id c) (arrives id d)
  arrives_kept id c d k r = at_kept p (arrives id) c d r (λ fs cs m.
      let f : Call → Call = λ a. record a { state = Queued; arrival = c.shared.arrivals } in
      arrived_kept (on_call id f c) (on_call id f (with_kept fs cs c)) (call_kept p id f c (with_kept fs cs c) k (beside p c fs cs m)))

  pub at_call_kept : (task id : ℕ) (at : Pos) (c d : All Moved) → Beside p c d → Beside p (stands_at_call task id at c) (stands_at_call task id at d)
  at_call_kept task id at c d r = own_kept p task (λ own. record (blocks _ at no_waits own) { call = id }) c d (λ o h. h) r

  -- a call that is kept is the same
  pub call_same : (id : ℕ) (c : All Moved) (fs : List Frame) (cs : List Call) → MayHave p c fs cs → p.kept id → call_of id c ≡ call_of id (with_kept fs cs c)
  call_same id c fs cs m k = same_at p.kept c.shared.calls cs m.calls id k

  pub begin_kept : (task object : ℕ) (reading : Bool) (c d : All Moved) → Beside p c d → Beside p (begin_action task object reading c) (begin_action task object reading d)
  begin_kept task object reading c d r = object_kept p object (λ o. record o { actions = o.actions ++ record { task = task; reading = reading } ∷ [] }) c d (λ o h. h) r

  pub end_kept : (task object : ℕ) (c d : All Moved) → Beside p c d → Beside p (end_action task object c) (end_action task object d)
  end_kept task object c d r =
      let f = λ (x : All Moved). on_object object (λ o. record o { actions = filter (λ (a : Action). not (nat_eq a.task task)) o.actions }) x in
      own_kept p task (λ own. record own { serving = None }) (f c) (f d) (λ o h. h) (object_kept p object _ c d (λ o h. h) r)

  module _ (plan : Plan) (barrier : ℕ → Sight → Result Bool Raise) where
    -- The end of a call.

    done_kept : (id : ℕ) (c d : All Moved) → p.kept id → Beside p c d → Beside p (on_call id (λ a. record a { state = Done }) c) (on_call id (λ a. record a { state = Done }) d)
    done_kept id c d k r = call_kept p id (λ a. record a { state = Done }) c d k r

    goes_on_kept : (id : ℕ) (call : Call) (c d : All Moved) → p.kept id → Beside p c d → Beside p (effect.caller_goes_on noted plan barrier id call c) (effect.caller_goes_on noted plan barrier id call d)
    goes_on_kept id call c d k r =
        task_kept p call.caller (λ t. record { control = takes_part 0 t.control; own = runs t.own }) (on_call id (λ a. record a { state = Done }) c) (on_call id (λ a. record a { state = Done }) d) (λ t h. h) (done_kept id c d k r)

    fails_kept : (id : ℕ) (call : Call) (x : Exception) (c d : All Moved) → p.kept id → Beside p c d → Beside p (effect.caller_fails noted plan barrier id call x c) (effect.caller_fails noted plan barrier id call x d)
    fails_kept id call x c d k r =
        own_kept p call.caller (λ own. pends x call.at (runs own)) (on_call id (λ a. record a { state = Done }) c) (on_call id (λ a. record a { state = Done }) d) (λ o h. h) (done_kept id c d k r)

    ended_kept : (raise : Option Raise) (id : ℕ) (call : Call) (c d : All Moved) → p.kept id → Beside p c d → Beside p (effect.ended_by noted plan barrier raise id call c) (effect.ended_by noted plan barrier raise id call d)
    ended_kept None id call c d k r = goes_on_kept id call c d k r
    ended_kept (Some raise) id call c d k r = fails_kept id call (Predefined raise) c d k r

    end_by_kept : (outcome : Outcome) (id : ℕ) (call : Call) (c d : All Moved) → p.kept id → Beside p c d → Beside p (effect.end_call_by noted plan barrier outcome id call c) (effect.end_call_by noted plan barrier outcome id call d)
    end_by_kept (fails x) id call c d k r = fails_kept id call x c d k r
    end_by_kept (succeeds values) id call c d k r = at_kept p (effect.end_call_by noted plan barrier (succeeds values) id call) c d r (λ fs cs m.
        let b = copied_back values call.backs c.shared.frames in
        let e = copied_back values call.backs fs in
        let s : BackSame p b e = copied_same p values call.backs c.shared.frames fs m.frames m.room in
        subst (λ x. Beside p (effect.ended_by noted plan barrier b.raised id call (with_frames b.frames c)) (effect.ended_by noted plan barrier x id call (with_frames e.frames (with_kept fs cs c)))) s.raised
        (ended_kept b.raised id call (with_frames b.frames c) (with_frames e.frames (with_kept fs cs c)) k
        (frames_kept p b.frames e.frames c (with_kept fs cs c) s.frames s.room (beside p c fs cs m))))

    pub end_call_kept : (outcome : Outcome) (id : ℕ) (c d : All Moved) → p.kept id → Beside p c d → Beside p (effect.end_call noted plan barrier outcome id c) (effect.end_call noted plan barrier outcome id d)
    end_call_kept outcome id c d k r = at_kept p (effect.end_call noted plan barrier outcome id) c d r (λ fs cs m.
        subst (λ call. Beside p (effect.end_call noted plan barrier outcome id c) (effect.end_call_by noted plan barrier outcome id call (with_kept fs cs c))) (call_same id c fs cs m k)
        (end_by_kept outcome id (call_of id c) c (with_kept fs cs c) k (beside p c fs cs m)))

    pub refuse_kept : (raise : Raise) (ids : List ℕ) (c d : All Moved) → EachOf p.kept ids → Beside p c d → Beside p (effect.refuse noted plan barrier raise ids c) (effect.refuse noted plan barrier raise ids d)
    refuse_kept raise [] c d k r = r
    refuse_kept raise (id ∷ ids) c d k r =
        refuse_kept raise ids (effect.end_call noted plan barrier (fails (Predefined raise)) id c) (effect.end_call noted plan barrier (fails (Predefined raise)) id d) k.1
        (end_call_kept (fails (Predefined raise)) id c d k.0 r)

    -- those that are queued
    pub refuse_queued : (raise : Raise) (passes : Call → Bool) (c d : All Moved) → Beside p c d → Beside p (effect.refuse noted plan barrier raise (numbers (λ (a : Call). is_queued a.state && passes a) 0 c.shared.calls) c) (effect.refuse noted plan barrier raise (numbers (λ (a : Call). is_queued a.state && passes a) 0 d.shared.calls) d)
    refuse_queued raise passes c d r = at_kept p (λ x. effect.refuse noted plan barrier raise (numbers (λ (a : Call). is_queued a.state && passes a) 0 x.shared.calls) x) c d r (λ fs cs m.
        let ids = numbers (λ (a : Call). is_queued a.state && passes a) 0 c.shared.calls in
        subst (λ ns. Beside p (effect.refuse noted plan barrier raise ids c) (effect.refuse noted plan barrier raise ns (with_kept fs cs c))) (numbers_same p.kept passes 0 c.shared.calls cs m.calls)
        (refuse_kept raise ids c (with_kept fs cs c) (numbers_kept p.kept passes 0 c.shared.calls cs m.calls) (beside p c fs cs m)))

    pub refuse_queues_kept : (n : ℕ) (c d : All Moved) → Beside p c d → Beside p (effect.refuse_queues noted plan barrier n c) (effect.refuse_queues noted plan barrier n d)
    refuse_queues_kept n c d r = refuse_queued Tasking (λ a. is_task n a.owner) c d r

    pub refuse_object_kept : (object : ℕ) (c d : All Moved) → Beside p c d → Beside p (effect.refuse noted plan barrier Program (calls_on_object object c.shared.calls) c) (effect.refuse noted plan barrier Program (calls_on_object object d.shared.calls) d)
    refuse_object_kept object c d r = refuse_queued Program (λ a. is_object object a.owner) c d r

    -- Tasks that end.

    pub terminate_kept : (n : ℕ) (c d : All Moved) → Beside p c d → Beside p (effect.terminate noted plan barrier n c) (effect.terminate noted plan barrier n d)
    terminate_kept n c d r =
        let f : Own → Own = λ own. record own { status = Terminated; pending = None; display = []; opened = []; waits = no_waits } in
        refuse_queues_kept n (on_own n f c) (on_own n f d) (own_kept p n f c d (λ o h. (tt, tt, h.2)) r)

    pub terminate_all_kept : (ns : List ℕ) (c d : All Moved) → Beside p c d → Beside p (effect.terminate_all noted plan barrier ns c) (effect.terminate_all noted plan barrier ns d)
    terminate_all_kept [] c d r = r
    terminate_all_kept (n ∷ ns) c d r = terminate_all_kept ns (effect.terminate noted plan barrier n c) (effect.terminate noted plan barrier n d) (terminate_kept n c d r)

    -- those of which this holds
    pub terminate_those : (those : TaskAt Moved → Bool) (c d : All Moved) → Beside p c d → Beside p (effect.terminate_all noted plan barrier (numbers those 0 c.tasks) c) (effect.terminate_all noted plan barrier (numbers those 0 d.tasks) d)
    terminate_those those c d r = at_kept p (λ x. effect.terminate_all noted plan barrier (numbers those 0 x.tasks) x) c d r (λ fs cs m.
        terminate_all_kept (numbers those 0 c.tasks) c (with_kept fs cs c) (beside p c fs cs m))

    pub close_kept : (master : ℕ) (c d : All Moved) → Beside p c d → Beside p (effect.close_master noted plan barrier master c) (effect.close_master noted plan barrier master d)
    close_kept master c d r = terminate_those (λ (t : TaskAt Moved). depends master t.own) c d r

    -- Activation.

    pub raises_in_part_kept : (raise : Raise) (at : Pos) (n : ℕ) (c d : All Moved) → Beside p c d → Beside p (effect.raises_in_part noted plan barrier raise at n c) (effect.raises_in_part noted plan barrier raise at n d)
    raises_in_part_kept raise at n c d r = at_kept p (effect.raises_in_part noted plan barrier raise at n) c d r (λ fs cs m.
        let part = innermost (own_of n c).opened in
        let f = λ (x : All Moved). effect.terminate_all noted plan barrier (numbers (λ (t : TaskAt Moved). is_created t.own.status && nat_eq t.own.part part) 0 x.tasks) x in
        raised_kept raise at n (f c) (f (with_kept fs cs c))
        (terminate_those (λ (t : TaskAt Moved). is_created t.own.status && nat_eq t.own.part part) c (with_kept fs cs c) (beside p c fs cs m)))

    pub opens_for_kept : (purpose : Purpose) (unit : ℕ) (at : Pos) (display : List ℕ) (cells : List ℤ) (n : ℕ) (c d : All Moved) → EachOf p.named display → KeepsPurpose p.kept purpose → Beside p c d → Beside p (effect.opens_for noted plan barrier purpose unit at display cells n c) (effect.opens_for noted plan barrier purpose unit at display cells n d)
    opens_for_kept purpose unit at display cells n c d e k r =
        alone_kept p (λ t. opens purpose (unit_of plan unit).region at display cells (length cells) t) n c d
        (λ u v h. opens_one p purpose (unit_of plan unit).region at display cells (length cells) u v e k h) r

    pub begins_kept : (activator n : ℕ) (c d : All Moved) → Beside p c d → Beside p (effect.begins noted plan barrier activator n c) (effect.begins noted plan barrier activator n d)
    begins_kept activator n c d r = at_kept p (effect.begins noted plan barrier activator n) c d r (λ fs cs m.
        let own = own_of n c in
        let f : Own → Own = λ o. record o { status = Running; activator = Some activator } in
        opens_for_kept for_body own.unit (unit_of plan own.unit).at own.display (pos n ∷ []) n (on_own n f c) (on_own n f (with_kept fs cs c))
        (own_names p c.tasks n m.tasks).0 tt (own_kept p n f c (with_kept fs cs c) (λ o h. h) (beside p c fs cs m)))

    pub begin_all_kept : (activator : ℕ) (ns : List ℕ) (c d : All Moved) → Beside p c d → Beside p (effect.begin_all noted plan barrier activator ns c) (effect.begin_all noted plan barrier activator ns d)
    begin_all_kept activator [] c d r = r
    begin_all_kept activator (n ∷ ns) c d r = begin_all_kept activator ns (effect.begins noted plan barrier activator n c) (effect.begins noted plan barrier activator n d) (begins_kept activator n c d r)

    pub activates_kept : (at : Pos) (n : ℕ) (ns : List ℕ) (c d : All Moved) → Beside p c d → Beside p (effect.activates noted plan barrier at n ns c) (effect.activates noted plan barrier at n ns d)
    activates_kept at n [] c d r = control_kept p n (takes_part 0) c d r
    activates_kept at n (m ∷ ms) c d r =
        let f : Own → Own = λ own. record (blocks Activating at no_waits own) { failed = false } in
        begin_all_kept n (m ∷ ms) (on_own n f c) (on_own n f d) (own_kept p n f c d (λ o h. h) r)

    failed_names : (b : Bool) (o : Own) → Names p o → Names p (if b then pends (Predefined Tasking) o.at (runs o) else runs o)
    failed_names true o h = h
    failed_names false o h = h

    activator_goes_on_kept : (n : ℕ) (c d : All Moved) → Beside p c d → Beside p (effect.activator_goes_on noted plan barrier n c) (effect.activator_goes_on noted plan barrier n d)
    activator_goes_on_kept n c d r =
        task_kept p n (λ t. record { control = takes_part 0 t.control; own = if t.own.failed then pends (Predefined Tasking) t.own.at (runs t.own) else runs t.own }) c d
        (λ t h. failed_names t.own.failed t.own h) r

    activator_looks_kept : (n : ℕ) (c d : All Moved) → Beside p c d → Beside p (effect.activator_looks noted plan barrier n c) (effect.activator_looks noted plan barrier n d)
    activator_looks_kept n c d r = at_kept p (effect.activator_looks noted plan barrier n) c d r (λ fs cs m.
        let e : All Moved = with_kept fs cs c in
        let s : Beside p c e = beside p c fs cs m in
        if_beside p (effect.is_activating noted plan barrier (own_of n c).status && not (any (effect.is_awaited_by noted plan barrier n) c.tasks))
        (effect.activator_goes_on noted plan barrier n c) c (effect.activator_goes_on noted plan barrier n e) e (activator_goes_on_kept n c e s) s)

    activation_by_kept : (a : Option ℕ) (failed : Bool) (n : ℕ) (c d : All Moved) → Beside p c d → Beside p (effect.activation_ended_by noted plan barrier a failed n c) (effect.activation_ended_by noted plan barrier a failed n d)
    activation_by_kept None failed n c d r = r
    activation_by_kept (Some m) failed n c d r =
        let f : Own → Own = λ own. record own { failed = own.failed || failed } in
        let g : Own → Own = λ own. record own { activator = None } in
        activator_looks_kept m (on_own m f (on_own n g c)) (on_own m f (on_own n g d))
        (own_kept p m f (on_own n g c) (on_own n g d) (λ o h. h) (own_kept p n g c d (λ o h. h) r))

    pub activation_ended_kept : (failed : Bool) (n : ℕ) (c d : All Moved) → Beside p c d → Beside p (effect.activation_ended noted plan barrier failed n c) (effect.activation_ended noted plan barrier failed n d)
    activation_ended_kept failed n c d r = at_kept p (effect.activation_ended noted plan barrier failed n) c d r (λ fs cs m.
        activation_by_kept (own_of n c).activator failed n c (with_kept fs cs c) (beside p c fs cs m))

    created_names : (creator : Own) (ts : Tasks) (i count : ℕ) → Names p creator → TasksName p (effect.all_created noted plan barrier creator ts i count)
    created_names creator ts i zero h = tt
    created_names creator ts i (suc n) h =
        ((each_taken p.named (unit_of plan _).level creator.display h.0, tt, tt), created_names creator ts (suc i) n h)

    abbrev with_more : List (TaskAt Moved) → All Moved → All Moved
    with_more ts c = record c { tasks = c.tasks ++ ts }

    more_kept : (ts : List (TaskAt Moved)) (c d : All Moved) → TasksName p ts → Beside p c d → Beside p (with_more ts c) (with_more ts d)
    more_kept ts c d h r = record {
      fs = r.fs;
      cs = r.cs;
      same = ap (with_more ts) r.same;
      may = record { frames = r.may.frames; calls = r.may.calls; tasks = joined_names p c.tasks ts r.may.tasks h; objects = r.may.objects; room = r.may.room; call_room = r.may.call_room };
    }

    pub declares_tasks_kept : (limits : Limits) (at : Pos) (ts : Tasks) (n : ℕ) (c d : All Moved) → Beside p c d → Beside p (effect.declares_tasks noted plan barrier limits at ts n c) (effect.declares_tasks noted plan barrier limits at ts n d)
    declares_tasks_kept limits at ts n c d r = at_kept p (effect.declares_tasks noted plan barrier limits at ts n) c d r (λ fs cs m.
        let e : All Moved = with_kept fs cs c in
        let s : Beside p c e = beside p c fs cs m in
        let new = effect.all_created noted plan barrier (own_of n c) ts 0 ts.length in
        let cells = effect.counted_from noted plan barrier (length c.tasks) ts.length in
        let f = λ (x : All Moved). on_control n (takes_part 0) (alone (λ t. declares cells t) n (with_more new x)) in
        if_beside p (not (nat_eq ts.length 0) && in_action n c) (effect.raises_in_part noted plan barrier Program at n c)
        (if nat_le ts.length ELEMENTS && nat_le (length c.tasks + ts.length) limits.tasks then f c else effect.raises_in_part noted plan barrier Storage at n c)
        (effect.raises_in_part noted plan barrier Program at n e)
        (if nat_le ts.length ELEMENTS && nat_le (length c.tasks + ts.length) limits.tasks then f e else effect.raises_in_part noted plan barrier Storage at n e)
        (raises_in_part_kept Program at n c e s)
        (if_beside p (nat_le ts.length ELEMENTS && nat_le (length c.tasks + ts.length) limits.tasks) (f c) (effect.raises_in_part noted plan barrier Storage at n c) (f e) (effect.raises_in_part noted plan barrier Storage at n e)
        (control_kept p n (takes_part 0) (alone (λ t. declares cells t) n (with_more new c)) (alone (λ t. declares cells t) n (with_more new e))
        (alone_kept p (λ t. declares cells t) n (with_more new c) (with_more new e) (λ u v h. declares_one p cells u v h)
        (more_kept new c e (created_names (own_of n c) ts 0 ts.length (own_names p c.tasks n m.tasks)) s)))
        (raises_in_part_kept Storage at n c e s)))

    -- Completion.

    serving_kept : (os : List Opened) → NamesAll p os → EachOf p.kept (effect.accepts_under_way noted plan barrier os)
    serving_kept [] h = tt
    serving_kept (o ∷ os) h = by o.purpose h.0.2 (serving_kept os h.1)
      where
        by : (purpose : Purpose) → KeepsPurpose p.kept purpose → EachOf p.kept (effect.accepts_under_way noted plan barrier os) → EachOf p.kept (effect.accepts_under_way noted plan barrier (record o { purpose = purpose } ∷ os))
        by for_body k g = g
        by for_block k g = g
        by for_loop k g = g
        by (for_procedure r) k g = g
        by (for_operation n r) k g = g
        by (for_entry n i s b) k g = g
        by (for_accept i) k g = (k, g)

    pub completes_kept : (raised : Option Exception) (n : ℕ) (c d : All Moved) → Beside p c d → Beside p (effect.completes noted plan barrier raised n c) (effect.completes noted plan barrier raised n d)
    completes_kept raised n c d r = at_kept p (effect.completes noted plan barrier raised n) c d r (λ fs cs m.
        let e : All Moved = with_kept fs cs c in
        let opened = (own_of n c).opened in
        let f : Own → Own = λ own. record own { status = Completed; pending = None; raised = raised; waits = no_waits } in
        let served = effect.accepts_under_way noted plan barrier opened in
        let left = numbers (effect.created_in noted plan barrier opened) 0 c.tasks in
        let c1 : All Moved = on_own n f c in
        let e1 : All Moved = on_own n f e in
        let c2 : All Moved = effect.refuse noted plan barrier Tasking served c1 in
        let e2 : All Moved = effect.refuse noted plan barrier Tasking served e1 in
        let c3 : All Moved = effect.refuse_queues noted plan barrier n c2 in
        let e3 : All Moved = effect.refuse_queues noted plan barrier n e2 in
        activation_ended_kept (is_some raised) n (effect.terminate_all noted plan barrier left c3) (effect.terminate_all noted plan barrier left e3)
        (terminate_all_kept left c3 e3
        (refuse_queues_kept n c2 e2
        (refuse_kept Tasking served c1 e1 (serving_kept opened (own_names p c.tasks n m.tasks).1)
        (own_kept p n f c e (λ o h. h) (beside p c fs cs m))))))

    pub closes_kept : (n : ℕ) (c d : All Moved) → Beside p c d → Beside p (effect.closes noted plan barrier n c) (effect.closes noted plan barrier n d)
    closes_kept n c d r = at_kept p (effect.closes noted plan barrier n) c d r (λ fs cs m.
        let e : All Moved = with_kept fs cs c in
        let master = body_master (own_of n c) in
        terminate_kept n (effect.close_master noted plan barrier master c) (effect.close_master noted plan barrier master e) (close_kept master c e (beside p c fs cs m)))

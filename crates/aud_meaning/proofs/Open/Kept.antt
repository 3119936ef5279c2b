-- What steps do to all meets no call with a task that waits for it, where tasks that are told stay still.
use Rattle.std.proofs.Common.{◌≡◌, ℕ, zero, suc, ◌+◌, ℤ, pos, nat_le, List, [], ◌∷◌, ◌++◌, length, filter, Option, Some, None, Bool, true, false, Result, Ok, Err, refl, sym, ap, ◌∙◌, subst, if◌then◌else◌, slice_get, slice_index_or}
use Rattle.std.specs.Prelude.{◌&&◌, ◌||◌, not, nat_eq, is_some, is_none}
use Rattle.std.proofs.lemmas.Bool.{and_from, and_parts, eqb-true, false≢true, true≢false}
use Rattle.aud_text.specs.declared.place.Pos.{Pos}
use Rattle.aud_text.specs.declared.raise.Raise.{Raise}
use Rattle.aud_text.specs.declared.raise.Raise.TheVariants.{Program, Storage, Tasking}
use Rattle.aud_text.specs.declared.limits.Limits.{Limits}
use Rattle.aud_text.specs.declared.limits.TheConstants.{ELEMENTS}
use Rattle.aud_typed.specs.declared.program.Exception.{Exception}
use Rattle.aud_typed.specs.declared.program.Exception.TheVariants.{Predefined}
use Rattle.aud_typed.specs.Tree.{Plan, Tasks}
use Rattle.aud_meaning.specs.declared.state.Status.TheVariants.{Running, Activating, Delaying, Calling, Completed, Terminated}
use Rattle.aud_meaning.specs.declared.state.CallState.TheVariants.{Queued, Selected, Done, Cancelled}
use Rattle.aud_meaning.specs.declared.state.Owner.{Owner}
use Rattle.aud_meaning.specs.declared.state.Owner.TheVariants as owner
use Rattle.aud_meaning.specs.declared.state.Pending.{Pending}
use Rattle.aud_meaning.specs.declared.state.Resumed.{Resumed}
use Rattle.aud_meaning.specs.declared.state.OpenAccept.{OpenAccept}
use Rattle.aud_meaning.specs.declared.state.Serving.{Serving}
use Rattle.aud_meaning.specs.declared.state.Again.{Again}
use Rattle.aud_meaning.specs.declared.state.Restart.{Restart}
use Rattle.aud_meaning.specs.declared.state.Action.{Action}
use Rattle.aud_meaning.specs.Configuration.{Frame, Target, Returning, Purpose, for_body, for_block, for_loop, for_procedure, for_operation, for_entry, for_accept, Opened, Own, Call, Object, TaskAt, All, Acting}
use Rattle.aud_meaning.specs.Evaluation.{Sight, Passed}
use Rattle.aud_meaning.specs.Effects.{pends, innermost, closed, out_of_loops, has_room, CopiedBack, copied_back}
use Rattle.aud_meaning.specs.Effects as effects
use Rattle.aud_meaning.specs.Orders.{Orders}
use Rattle.aud_meaning.specs.Parts.{Outcome, succeeds, fails, Waiting, acting, acts_on, alone, alone_by, alternative_of, any, arrives, begin_action, blocks, body_master, call_number, call_of, calls_on_object, calls_on_task, cancels, depends, end_action, entry_plan, exception_of, in_action, is_accepting, is_callable, is_created, is_queued, is_task, new_call, no_waits, numbers, object_of, on_call, on_control, on_object, on_own, on_task, open_alternatives, own_of, queue, raised_at, runs, stands_at_call, unit_of, with_frames}
use Rattle.aud_meaning.specs.Tasks as effect
use Rattle.aud_meaning.specs.Step as step
use Rattle.aud_meaning.specs.Why.Open.{IsSettled, IsStill, IsUnmet, NoneMissed, accepts_for}
use Rattle.aud_meaning.proofs.Limits.Frames.{nth}
use Rattle.aud_meaning.proofs.Open.Tasks.{Core, Lets, alike, call_at, changed_call, changed_calls, changed_tasks, closed_core, either_lets, Got, got, last_call, loops_core, more_tasks, one_call_more, rests, stops}

-- no call is met with a task that waits for it, and the tasks of these numbers are still
pub record Holds (C : Type 0) (S : ℕ → Type 0) (c : All C) : Type 0 where
  pub settled : (n : ℕ) → IsSettled (own_of n c)
  pub unmet : (n id : ℕ) → IsUnmet n (own_of n c) (call_of id c)
  pub still : (n : ℕ) → S n → IsStill (own_of n c)

pub none_missed : {C : Type 0} {S : ℕ → Type 0} {c : All C} → Holds C S c → NoneMissed C c
none_missed w = record { settled = w.settled; unmet = w.unmet }

not_so : (b : Bool) → not b ≡ true → b ≡ false
not_so true h = sym h
not_so false h = refl

-- what a caller finds closed has no alternative
closed_entry : (own : Own) (entry : ℕ) → IsSettled own → is_callable own ≡ true → open_alternatives own entry ≡ [] → accepts_for entry own.waits.accepts ≡ []
closed_entry own entry s callable none = by (is_accepting own.status) refl
  where
    well : not own.abnormal ≡ true
    well = (and_parts _ (not own.abnormal) callable).1

    by : (b : Bool) → is_accepting own.status ≡ b → accepts_for entry own.waits.accepts ≡ []
    by true e = sym (ap (λ b. if b then accepts_for entry own.waits.accepts else []) (and_from (is_accepting own.status) (not own.abnormal) e well)) ∙ none
    by false e = ap (accepts_for entry) (s.0 e (not_so own.abnormal well))

task_of : (n task : ℕ) (o : Owner) → o ≡ owner.Task task → is_task n o ≡ true → n ≡ task
task_of n task o is h = eqb-true n task (sym (ap (is_task n) is) ∙ h)

module _ {C : Type 0} (S : ℕ → Type 0) where
  abbrev Keeps : All C → Type 0
  Keeps c = Holds C S c

  pub either : (b : Bool) (x y : All C) → Keeps x → Keeps y → Keeps (if b then x else y)
  either true x y h i = h
  either false x y h i = i

  -- where the test says more
  pub chosen : (b : Bool) (x y : All C) → (b ≡ true → Keeps x) → Keeps y → Keeps (if b then x else y)
  chosen true x y h i = h refl
  chosen false x y h i = i

  on_task_given : (n : ℕ) (f : TaskAt C → TaskAt C) (c : All C) → ((t : TaskAt C) → t.own ≡ own_of n c → Lets t.own (f t).own) → Keeps c → Keeps (on_task n f c)
  on_task_given n f c g w = record {
    settled = λ m. changed_tasks (λ i own. IsSettled own) n f c.tasks (λ t e h. (g t e).settled h) m (w.settled m);
    unmet = λ m id.
        changed_tasks (λ i own. IsUnmet i own (call_of id c)) n f c.tasks (λ t e h queued its. (g t e).accepts (call_of id c).entry (h queued its)) m (w.unmet m id);
    still = λ m s. changed_tasks (λ i own. IsStill own) n f c.tasks (λ t e h. (g t e).still h) m (w.still m s);
  }

  pub on_task_keeps : (n : ℕ) (f : TaskAt C → TaskAt C) (c : All C) → ((t : TaskAt C) → Lets t.own (f t).own) → Keeps c → Keeps (on_task n f c)
  on_task_keeps n f c g w = on_task_given n f c (λ t e. g t) w

  pub on_own_keeps : (n : ℕ) (f : Own → Own) (c : All C) → ((own : Own) → Lets own (f own)) → Keeps c → Keeps (on_own n f c)
  on_own_keeps n f c g w = on_task_given n (λ t. record t { own = f t.own }) c (λ t e. g t.own) w

  -- of a task that is still
  on_still : (n : ℕ) (f : TaskAt C → TaskAt C) (c : All C) → S n → ((t : TaskAt C) → IsStill t.own → Lets t.own (f t).own) → Keeps c → Keeps (on_task n f c)
  on_still n f c s g w = on_task_given n f c (λ t e. g t (subst IsStill (sym e) (w.still n s))) w

  pub on_control_keeps : (n : ℕ) (f : C → C) (c : All C) → Keeps c → Keeps (on_control n f c)
  on_control_keeps n f c w = on_task_keeps n (λ t. record t { control = f t.control }) c (λ t. alike refl) w

  -- where no call becomes queued
  on_call_keeps : (id : ℕ) (f : Call → Call) (c : All C) → ((call : Call) → is_queued (f call).state ≡ false) → Keeps c → Keeps (on_call id f c)
  on_call_keeps id f c g w = record {
    settled = w.settled;
    unmet = λ n i. changed_calls (λ call. IsUnmet n (own_of n c) call) id f c.shared.calls (λ call e h queued. absurd (false≢true (sym (g call) ∙ queued))) i (w.unmet n i);
    still = w.still;
  }

  on_object_keeps : (object : ℕ) (f : Object → Object) (c : All C) → Keeps c → Keeps (on_object object f c)
  on_object_keeps object f c w = record { settled = w.settled; unmet = w.unmet; still = w.still }

  with_frames_keeps : (frames : List Frame) (c : All C) → Keeps c → Keeps (with_frames frames c)
  with_frames_keeps frames c w = record { settled = w.settled; unmet = w.unmet; still = w.still }

  -- where no task waits for it
  arrives_keeps : (id : ℕ) (c : All C) → ((n : ℕ) → is_task n (call_of id c).owner ≡ true → accepts_for (call_of id c).entry (own_of n c).waits.accepts ≡ []) → Keeps c → Keeps (arrives id c)
  arrives_keeps id c g w = record {
    settled = w.settled;
    unmet = λ n i.
        changed_calls (λ call. IsUnmet n (own_of n c) call) id (λ a. record a { state = Queued; arrival = c.shared.arrivals }) c.shared.calls
        (λ call e h queued its.
        subst (λ (x : Call). accepts_for x.entry (own_of n c).waits.accepts ≡ []) (sym e) (g n (subst (λ (x : Call). is_task n x.owner ≡ true) e its))) i (w.unmet n i);
    still = w.still;
  }

  new_call_keeps : (call : Call) (c : All C) → is_queued call.state ≡ false → Keeps c → Keeps (new_call call c)
  new_call_keeps call c out w = record {
    settled = w.settled;
    unmet = λ n i. one_call_more (λ a. IsUnmet n (own_of n c) a) call c.shared.calls (λ queued. absurd (false≢true (sym out ∙ queued))) i (w.unmet n i);
    still = w.still;
  }

  cancels_keeps : (id : ℕ) (c : All C) → Keeps c → Keeps (cancels id c)
  cancels_keeps id c w = on_call_keeps id (λ a. record a { state = Cancelled }) c (λ call. refl) w

  pub raised_at_keeps : (raise : Raise) (at : Pos) (n : ℕ) (c : All C) → Keeps c → Keeps (raised_at raise at n c)
  raised_at_keeps raise at n c w = on_own_keeps n (pends (Predefined raise) at) c (λ own. alike refl) w

  begin_action_keeps : (task object : ℕ) (reading : Bool) (c : All C) → Keeps c → Keeps (begin_action task object reading c)
  begin_action_keeps task object reading c w = on_object_keeps object (λ o. record o { actions = o.actions ++ record { task = task; reading = reading } ∷ [] }) c w

  end_action_keeps : (task object : ℕ) (c : All C) → Keeps c → Keeps (end_action task object c)
  end_action_keeps task object c w =
      let f : Object → Object = (λ o. record o { actions = filter (λ (a : Action). not (nat_eq a.task task)) o.actions }) in
      on_own_keeps task (λ own. record own { serving = None }) (on_object object f c)
      (λ own. record { settled = λ h. (h.0, λ e. absurd (false≢true e)); still = λ h. h; accepts = λ entry h. h }) (on_object_keeps object f c w)

  stands_keeps : (n id : ℕ) (at : Pos) (c : All C) → Keeps c → Keeps (stands_at_call n id at c)
  stands_keeps n id at c w = on_task_keeps n _ c (λ t. stops refl) w

  pub alone_keeps : (f : Acting C → Acting C) (n : ℕ) (c : All C) → ((t : TaskAt C) → Lets t.own (f (acting t c.shared)).own) → ((t : TaskAt C) → (f (acting t c.shared)).shared.calls ≡ c.shared.calls) → Keeps c → Keeps (alone f n c)
  alone_keeps f n c g same w = by (slice_get c.tasks n) (got n c.tasks)
    where
      by : (o : Option (TaskAt C)) → Got o (own_of n c) → Keeps (alone_by f o n c)
      by None h = w
      by (Some t) h =
          let u : Acting C = f (acting t c.shared) in
          let put : TaskAt C → TaskAt C = (λ old. record { control = u.control; own = u.own }) in
          let v : Keeps (on_task n put c) = on_task_given n put c (λ old e. subst (λ o. Lets o u.own) (h ∙ sym e) (g t)) w in
          record {
            settled = v.settled;
            unmet = λ m id. subst (λ calls. IsUnmet m (own_of m (on_task n put c)) (call_at id calls)) (sym (same t)) (v.unmet m id);
            still = v.still;
          }

  module _ (go : Orders C) (plan : Plan) (barrier : ℕ → Sight → Result Bool Raise) where
    opens_keeps : (purpose : Purpose) (unit : ℕ) (at : Pos) (display : List ℕ) (cells : List ℤ) (n : ℕ) (c : All C) → Keeps c → Keeps (effect.opens_for go plan barrier purpose unit at display cells n c)
    opens_keeps purpose unit at display cells n c w =
        alone_keeps (λ t. effects.opens purpose (unit_of plan unit).region at display cells (length cells) t) n c (λ t. alike refl) (λ t. refl) w

    -- Ends of calls.

    fails_keeps : (id : ℕ) (call : Call) (x : Exception) (c : All C) → Keeps c → Keeps (effect.caller_fails go plan barrier id call x c)
    fails_keeps id call x c w =
        on_own_keeps call.caller (λ own. pends x call.at (runs own)) (on_call id (λ a. record a { state = Done }) c) (λ own. stops refl)
        (on_call_keeps id (λ a. record a { state = Done }) c (λ a. refl) w)

    ended_keeps : (r : Option Raise) (id : ℕ) (call : Call) (c : All C) → Keeps c → Keeps (effect.ended_by go plan barrier r id call c)
    ended_keeps None id call c w =
        on_task_keeps call.caller (λ t. record { control = go.takes 0 t.control; own = runs t.own }) (on_call id (λ a. record a { state = Done }) c) (λ t. stops refl)
        (on_call_keeps id (λ a. record a { state = Done }) c (λ a. refl) w)
    ended_keeps (Some raise) id call c w = fails_keeps id call (Predefined raise) c w

    end_call_by_keeps : (o : Outcome) (id : ℕ) (call : Call) (c : All C) → Keeps c → Keeps (effect.end_call_by go plan barrier o id call c)
    end_call_by_keeps (fails x) id call c w = fails_keeps id call x c w
    end_call_by_keeps (succeeds values) id call c w =
        let back : CopiedBack = copied_back values call.backs c.shared.frames in
        ended_keeps back.raised id call (with_frames back.frames c) (with_frames_keeps back.frames c w)

    end_call_keeps : (o : Outcome) (id : ℕ) (c : All C) → Keeps c → Keeps (effect.end_call go plan barrier o id c)
    end_call_keeps o id c w = end_call_by_keeps o id (call_of id c) c w

    refuse_keeps : (raise : Raise) (ids : List ℕ) (c : All C) → Keeps c → Keeps (effect.refuse go plan barrier raise ids c)
    refuse_keeps raise [] c w = w
    refuse_keeps raise (id ∷ ids) c w = refuse_keeps raise ids (effect.end_call go plan barrier (fails (Predefined raise)) id c) (end_call_keeps (fails (Predefined raise)) id c w)

    refuse_queues_keeps : (n : ℕ) (c : All C) → Keeps c → Keeps (effect.refuse_queues go plan barrier n c)
    refuse_queues_keeps n c w = refuse_keeps Tasking (calls_on_task n c.shared.calls) c w

    terminate_keeps : (n : ℕ) (c : All C) → Keeps c → Keeps (effect.terminate go plan barrier n c)
    terminate_keeps n c w =
        let f : Own → Own = (λ own. record own { status = Terminated; pending = None; display = []; opened = []; waits = no_waits }) in
        refuse_queues_keeps n (on_own n f c) (on_own_keeps n f c (λ own. stops refl) w)

    terminate_all_keeps : (ns : List ℕ) (c : All C) → Keeps c → Keeps (effect.terminate_all go plan barrier ns c)
    terminate_all_keeps [] c w = w
    terminate_all_keeps (n ∷ ns) c w = terminate_all_keeps ns (effect.terminate go plan barrier n c) (terminate_keeps n c w)

    close_master_keeps : (master : ℕ) (c : All C) → Keeps c → Keeps (effect.close_master go plan barrier master c)
    close_master_keeps master c w = terminate_all_keeps (numbers (λ (t : TaskAt C). depends master t.own) 0 c.tasks) c w

    -- Creation and activation.

    pub raises_in_part_keeps : (raise : Raise) (at : Pos) (n : ℕ) (c : All C) → Keeps c → Keeps (effect.raises_in_part go plan barrier raise at n c)
    raises_in_part_keeps raise at n c w =
        let ns : List ℕ = effect.not_activated go plan barrier (innermost (own_of n c).opened) c in
        raised_at_keeps raise at n (effect.terminate_all go plan barrier ns c) (terminate_all_keeps ns c w)

    created_waits : (creator : Own) (ts : Tasks) (i n m : ℕ) → (nth m (effect.all_created go plan barrier creator ts i n)).waits.accepts ≡ []
    created_waits creator ts i zero m = refl
    created_waits creator ts i (suc n) zero = refl
    created_waits creator ts i (suc n) (suc m) = created_waits creator ts (suc i) n m

    abbrev with_created : Tasks → ℕ → All C → All C
    with_created ts n c = record c { tasks = c.tasks ++ effect.all_created go plan barrier (own_of n c) ts 0 ts.length }

    with_created_keeps : (ts : Tasks) (n : ℕ) (c : All C) → Keeps c → Keeps (with_created ts n c)
    with_created_keeps ts n c w =
        let new : List (TaskAt C) = effect.all_created go plan barrier (own_of n c) ts 0 ts.length in
        let none : (i : ℕ) → (nth i new).waits.accepts ≡ [] = created_waits (own_of n c) ts 0 ts.length in
        record {
          settled = λ m. more_tasks IsSettled c.tasks new (λ i. (λ _. λ _. none i, λ _. λ _. none i)) m (w.settled m);
          unmet = λ m id. more_tasks (λ own. IsUnmet m own (call_of id c)) c.tasks new (λ i queued its. ap (accepts_for (call_of id c).entry) (none i)) m (w.unmet m id);
          still = λ m s. more_tasks IsStill c.tasks new (λ i. λ _. none i) m (w.still m s);
        }

    pub declares_tasks_keeps : (limits : Limits) (at : Pos) (ts : Tasks) (n : ℕ) (c : All C) → Keeps c → Keeps (effect.declares_tasks go plan barrier limits at ts n c)
    declares_tasks_keeps limits at ts n c w =
        let cells : List ℤ = effect.counted_from go plan barrier (length c.tasks) ts.length in
        let d : All C = with_created ts n c in
        either (not (nat_eq ts.length 0) && in_action n c) _ _ (raises_in_part_keeps Program at n c w)
        (either (nat_le ts.length ELEMENTS && nat_le (length c.tasks + ts.length) limits.tasks) _ _
        (on_control_keeps n (go.takes 0) (alone (λ t. effects.declares cells t) n d) (alone_keeps (λ t. effects.declares cells t) n d (λ t. alike refl) (λ t. refl) (with_created_keeps ts n c w)))
        (raises_in_part_keeps Storage at n c w))

    begins_keeps : (activator n : ℕ) (c : All C) → S n → Keeps c → Keeps (effect.begins go plan barrier activator n c)
    begins_keeps activator n c s w =
        let own : Own = own_of n c in
        let f : TaskAt C → TaskAt C = (λ t. record t { own = record t.own { status = Running; activator = Some activator } }) in
        opens_keeps for_body own.unit (unit_of plan own.unit).at own.display (pos n ∷ []) n (on_task n f c) (on_still n f c s (λ t still. rests refl refl still) w)

    abbrev pub AllIn : List ℕ → Type 0
    AllIn [] = Unit {0}
    AllIn (n ∷ ns) = S n × AllIn ns

    begin_all_keeps : (activator : ℕ) (ns : List ℕ) (c : All C) → AllIn ns → Keeps c → Keeps (effect.begin_all go plan barrier activator ns c)
    begin_all_keeps activator [] c s w = w
    begin_all_keeps activator (n ∷ ns) c s w = begin_all_keeps activator ns (effect.begins go plan barrier activator n c) s.1 (begins_keeps activator n c s.0 w)

    pub activates_keeps : (at : Pos) (n : ℕ) (ns : List ℕ) (c : All C) → AllIn ns → Keeps c → Keeps (effect.activates go plan barrier at n ns c)
    activates_keeps at n [] c s w = on_control_keeps n (go.takes 0) c w
    activates_keeps at n (m ∷ ms) c s w =
        let f : Own → Own = (λ own. record (blocks Activating at no_waits own) { failed = false }) in
        begin_all_keeps n (m ∷ ms) (on_own n f c) s (on_own_keeps n f c (λ own. stops refl) w)

    goes_on_keeps : (n : ℕ) (c : All C) → Keeps c → Keeps (effect.activator_goes_on go plan barrier n c)
    goes_on_keeps n c w =
        on_task_keeps n (λ t. record { control = go.takes 0 t.control; own = if t.own.failed then pends (Predefined Tasking) t.own.at (runs t.own) else runs t.own }) c
        (λ t. either_lets t.own.failed (stops refl) (stops refl)) w

    activation_ended_by_keeps : (m : Option ℕ) (failed : Bool) (n : ℕ) (c : All C) → Keeps c → Keeps (effect.activation_ended_by go plan barrier m failed n c)
    activation_ended_by_keeps None failed n c w = w
    activation_ended_by_keeps (Some m) failed n c w =
        let d : All C = on_own n (λ own. record own { activator = None }) c in
        let e : All C = on_own m (λ own. record own { failed = own.failed || failed }) d in
        let v : Keeps e = on_own_keeps m (λ own. record own { failed = own.failed || failed }) d (λ own. alike refl) (on_own_keeps n (λ own. record own { activator = None }) c (λ own. alike refl) w) in
        either (effect.is_activating go plan barrier (own_of m e).status && not (any (effect.is_awaited_by go plan barrier m) e.tasks)) (effect.activator_goes_on go plan barrier m e) e (goes_on_keeps m e v) v

    pub activation_ended_keeps : (failed : Bool) (n : ℕ) (c : All C) → Keeps c → Keeps (effect.activation_ended go plan barrier failed n c)
    activation_ended_keeps failed n c w = activation_ended_by_keeps (own_of n c).activator failed n c w

    pub completes_keeps : (raised : Option Exception) (n : ℕ) (c : All C) → Keeps c → Keeps (effect.completes go plan barrier raised n c)
    completes_keeps raised n c w =
        let opened : List Opened = (own_of n c).opened in
        let ns : List ℕ = numbers (effect.created_in go plan barrier opened) 0 c.tasks in
        let f : Own → Own = (λ own. record own { status = Completed; pending = None; raised = raised; waits = no_waits }) in
        let d : All C = effect.refuse go plan barrier Tasking (effect.accepts_under_way go plan barrier opened) (on_own n f c) in
        let e : All C = effect.refuse_queues go plan barrier n d in
        activation_ended_keeps (is_some raised) n (effect.terminate_all go plan barrier ns e)
        (terminate_all_keeps ns e (refuse_queues_keeps n d (refuse_keeps Tasking (effect.accepts_under_way go plan barrier opened) (on_own n f c) (on_own_keeps n f c (λ own. stops refl) w))))

    pub closes_keeps : (n : ℕ) (c : All C) → Keeps c → Keeps (effect.closes go plan barrier n c)
    closes_keeps n c w = terminate_keeps n (effect.close_master go plan barrier (body_master (own_of n c)) c) (close_master_keeps (body_master (own_of n c)) c w)

    -- Procedures.

    given_back_keeps : (back : CopiedBack) (at : Pos) (n : ℕ) (c : All C) → Keeps c → Keeps (effect.given_back go plan barrier back at n c)
    given_back_keeps back at n c w = by back.raised
      where
        by : (r : Option Raise) → Keeps (effect.given_back go plan barrier (record back { raised = r }) at n c)
        by None = on_control_keeps n (go.takes 0) (with_frames back.frames c) (with_frames_keeps back.frames c w)
        by (Some raise) = raised_at_keeps raise at n (with_frames back.frames c) (with_frames_keeps back.frames c w)

    returned_or_keeps : (p : Option Pending) (r : Returning) (frame : ℕ) (at : Pos) (n : ℕ) (c : All C) → Keeps c → Keeps (effect.returned_or go plan barrier p r frame at n c)
    returned_or_keeps None r frame at n c w = either (r.is_function && is_none r.value) _ _ (raised_at_keeps Program at n c w) (given_back_keeps _ at n c w)
    returned_or_keeps (Some p) r frame at n c w = on_own_keeps n (pends p.exception at) c (λ own. alike refl) w

    closed_keeps : (n : ℕ) (c : All C) → Keeps c → Keeps (on_own n closed c)
    closed_keeps n c w = on_own_keeps n closed c (λ own. alike (closed_core own)) w

    at_block_end_keeps : (p : Option Pending) (o : Opened) (n : ℕ) (c : All C) → Keeps c → Keeps (effect.at_block_end go plan barrier p o n c)
    at_block_end_keeps None o n c w = close_master_keeps o.frame (on_own n closed c) (closed_keeps n c w)
    at_block_end_keeps (Some p) o n c w =
        let f : Own → Own = (λ own. pends p.exception o.at (closed own)) in
        close_master_keeps o.frame (on_own n f c) (on_own_keeps n f c (λ own. alike (closed_core own)) w)

    at_procedure_end_keeps : (p : Option Pending) (r : Returning) (o : Opened) (n : ℕ) (c : All C) → Keeps c → Keeps (effect.at_procedure_end go plan barrier p r o n c)
    at_procedure_end_keeps p r o n c w =
        returned_or_keeps p r o.frame o.at n (effect.close_master go plan barrier o.frame (on_own n closed c)) (close_master_keeps o.frame (on_own n closed c) (closed_keeps n c w))

    -- Rendezvous.

    rendezvous_by_keeps : (region : Option ℕ) (a : OpenAccept) (id n : ℕ) (c : All C) → Keeps c → Keeps (effect.rendezvous_by go plan barrier region a id n c)
    rendezvous_by_keeps None a id n c w =
        let f : TaskAt C → TaskAt C = (λ t. record { control = go.takes a.alternative t.control; own = runs t.own }) in
        end_call_keeps (succeeds ((call_of id c).values ++ (call_of id c).unseen)) id (on_task n f c) (on_task_keeps n f c (λ t. stops refl) w)
    rendezvous_by_keeps (Some region) a id n c w =
        let f : TaskAt C → TaskAt C = (λ t. record { control = go.accepts a.alternative t.control; own = runs t.own }) in
        alone_keeps (λ t. effects.opens (for_accept id) region a.at t.own.display (call_of id c).values (length (call_of id c).values) t) n (on_task n f c)
        (λ t. alike refl) (λ t. refl) (on_task_keeps n f c (λ t. stops refl) w)

    pub rendezvous_keeps : (a : OpenAccept) (id n : ℕ) (c : All C) → Keeps c → Keeps (effect.rendezvous go plan barrier a id n c)
    rendezvous_keeps a id n c w =
        rendezvous_by_keeps a.region a id n (on_call id (λ call. record call { state = Selected }) c) (on_call_keeps id (λ call. record call { state = Selected }) c (λ call. refl) w)

    standing_keeps : (call : Call) (c : All C) → is_queued call.state ≡ false → Keeps c → Keeps (stands_at_call call.caller (call_number c) call.at (new_call call c))
    standing_keeps call c out w = stands_keeps call.caller (call_number c) call.at (new_call call c) (new_call_keeps call c out w)

    -- a call that was evaluated, of a task that doesn't wait for it where it finds nothing open
    calls_open_keeps : (alternative : Option ℕ) (ones : List OpenAccept) (call : Call) (task : ℕ) (c : All C) → call.owner ≡ owner.Task task → is_queued call.state ≡ false → (ones ≡ [] → accepts_for call.entry (own_of task c).waits.accepts ≡ []) → Keeps c → Keeps (effect.calls_open go plan barrier alternative ones call task c)
    calls_open_keeps alternative [] call task c is out none w =
        either (effect.is_conditional go plan barrier call.form) _ _ (on_control_keeps call.caller (go.takes 1) c w)
        (arrives_keeps id d
        (λ n its.
        let mine : is_task n call.owner ≡ true = subst (λ (x : Call). is_task n x.owner ≡ true) last its in
        subst (λ (x : Call). accepts_for x.entry (own_of n d).waits.accepts ≡ []) (sym last)
        (subst (λ m. accepts_for call.entry (own_of m d).waits.accepts ≡ []) (sym (task_of n task call.owner is mine))
        (changed_tasks (λ i own. accepts_for call.entry own.waits.accepts ≡ []) call.caller stood c.tasks (λ t e h. refl) task (none refl))))
        (standing_keeps call c out w))
      where
        id : ℕ
        id = call_number c

        d : All C
        d = stands_at_call call.caller id call.at (new_call call c)

        stood : TaskAt C → TaskAt C
        stood t = (record t { own = record (blocks Calling call.at no_waits t.own) { call = id } })

        last : call_of id d ≡ call
        last = last_call c.shared.calls call
    calls_open_keeps alternative (a ∷ ones) call task c is out none w =
        rendezvous_keeps (alternative_of alternative a (a ∷ ones)) (call_number c) task (stands_at_call call.caller (call_number c) call.at (new_call call c)) (standing_keeps call c out w)

    pub calls_task_keeps : (alternative : Option ℕ) (call : Call) (task : ℕ) (c : All C) → call.owner ≡ owner.Task task → is_queued call.state ≡ false → Keeps c → Keeps (effect.calls_task go plan barrier alternative call task c)
    calls_task_keeps alternative call task c is out w =
        either (in_action call.caller c) _ _ (raised_at_keeps Program call.at call.caller c w)
        (chosen (is_callable (own_of task c)) _ _
        (λ callable. calls_open_keeps alternative (open_alternatives (own_of task c) call.entry) call task c is out (λ none. closed_entry (own_of task c) call.entry (w.settled task) callable none) w)
        (raised_at_keeps Tasking call.at call.caller c w))

    -- Requeue.

    made_again_keeps : (alternative : Option ℕ) (ones : List OpenAccept) (id task : ℕ) (c : All C) → (ones ≡ [] → accepts_for (call_of id c).entry (own_of task c).waits.accepts ≡ []) → Keeps c → Keeps (effect.made_again go plan barrier alternative ones id task (on_call id (effect.called_of go plan barrier (owner.Task task)) c))
    made_again_keeps alternative [] id task c none w =
        arrives_keeps id (on_call id (effect.called_of go plan barrier (owner.Task task)) c)
        (λ n. changed_call (λ x. is_task n x.owner ≡ true → accepts_for x.entry (own_of n c).waits.accepts ≡ []) id (effect.called_of go plan barrier (owner.Task task)) c.shared.calls (λ its. absurd (false≢true its))
        (λ call e its.
        subst (λ m. accepts_for call.entry (own_of m c).waits.accepts ≡ []) (sym (eqb-true n task its))
        (subst (λ (x : Call). accepts_for x.entry (own_of task c).waits.accepts ≡ []) (sym e) (none refl))))
        (on_call_keeps id (effect.called_of go plan barrier (owner.Task task)) c (λ call. refl) w)
    made_again_keeps alternative (a ∷ ones) id task c none w =
        rendezvous_keeps (alternative_of alternative a (a ∷ ones)) id task (on_call id (effect.called_of go plan barrier (owner.Task task)) c) (on_call_keeps id (effect.called_of go plan barrier (owner.Task task)) c (λ call. refl) w)

    requeued_on_keeps : (alternative : Option ℕ) (o : Owner) (at : Pos) (id n : ℕ) (c : All C) → Keeps c → Keeps (effect.requeued_on go plan barrier alternative o at id n c)
    requeued_on_keeps alternative (owner.Task task) at id n c w =
        either (effect.is_lost go plan barrier (call_of id c) c) _ _ (cancels_keeps id c w)
        (chosen (is_callable (own_of task c)) _ _
        (λ callable. made_again_keeps alternative (open_alternatives (own_of task c) (call_of id c).entry) id task c (λ none. closed_entry (own_of task c) (call_of id c).entry (w.settled task) callable none) w)
        (end_call_keeps (fails (Predefined Tasking)) id c w))
    requeued_on_keeps alternative (owner.Object object) at id n c w = on_own_keeps n (λ own. record own { restart = Some (record { call = id; object = object; at = at }) }) c (λ own. alike refl) w

    accept_ended_keeps : (alternative : Option ℕ) (r : Option Again) (values : List ℤ) (id n : ℕ) (c : All C) → Keeps c → Keeps (effect.accept_ended go plan barrier alternative r values id n c)
    accept_ended_keeps alternative None values id n c w = end_call_keeps (succeeds values) id c w
    accept_ended_keeps alternative (Some r) values id n c w =
        requeued_on_keeps alternative r.owner r.at id n (on_call id (effect.retargeted go plan barrier r values) c) (on_call_keeps id (effect.retargeted go plan barrier r values) c (λ call. refl) w)

    at_accept_end_keeps : (alternative : Option ℕ) (p : Option Pending) (id : ℕ) (o : Opened) (n : ℕ) (c : All C) → Keeps c → Keeps (effect.at_accept_end go plan barrier alternative p id o n c)
    at_accept_end_keeps alternative None id o n c w =
        let f : Own → Own = (λ own. record (closed own) { again = None }) in
        accept_ended_keeps alternative (own_of n c).again (effect.present_values go plan barrier id o.frame c) id n (on_own n f c) (on_own_keeps n f c (λ own. alike (closed_core own)) w)
    at_accept_end_keeps alternative (Some p) id o n c w =
        let f : Own → Own = (λ own. pends p.exception o.at (record (closed own) { again = None })) in
        end_call_keeps (fails p.exception) id (on_own n f c) (on_own_keeps n f c (λ own. alike (closed_core own)) w)

    pub delays_for_keeps : (ms : ℕ) (at : Pos) (n : ℕ) (c : All C) → Keeps c → Keeps (effect.delays_for go plan barrier ms at n c)
    delays_for_keeps ms at n c w =
        either (in_action n c) _ _ (raised_at_keeps Program at n c w)
        (either (nat_eq ms 0) _ _ (on_control_keeps n (go.takes 0) c w)
        (on_own_keeps n (blocks Delaying at (record { accepts = []; delays = record { alternative = 0; time = c.clock + ms } ∷ []; terminate = false })) c (λ own. stops refl) w))

    pub delay_expires_keeps : (alternative n : ℕ) (c : All C) → Keeps c → Keeps (effect.delay_expires go plan barrier alternative n c)
    delay_expires_keeps alternative n c w = on_task_keeps n (λ t. record { control = go.takes alternative t.control; own = runs t.own }) c (λ t. stops refl) w

    -- Protected objects. The task that services one is still.

    serviced_by_keeps : (r : Result (List ℕ) Raise) (object : ℕ) (at : Pos) (n : ℕ) (c : All C) → S n → Keeps c → Keeps (effect.serviced_by go plan barrier r object at n c)
    serviced_by_keeps (Err raise) object at n c s w =
        let ids : List ℕ = calls_on_object object c.shared.calls in
        end_action_keeps n object (effect.refuse go plan barrier Program ids c) (refuse_keeps Program ids c w)
    serviced_by_keeps (Ok []) object at n c s w = end_action_keeps n object c w
    serviced_by_keeps (Ok (e ∷ es)) object at n c s w =
        on_still n (λ t. record t { own = record t.own { serving = Some (record { object = object; at = at }) } }) c s (λ t still. rests refl refl still) w

    serviced_keeps : (object : ℕ) (at : Pos) (n : ℕ) (c : All C) → S n → Keeps c → Keeps (effect.serviced go plan barrier object at n c)
    serviced_keeps object at n c s w = serviced_by_keeps (effect.eligible plan barrier object c) object at n c s w

    enters_entry_keeps : (served : Bool) (at : Pos) (object id n : ℕ) (c : All C) → S n → Keeps c → Keeps (effect.enters_entry go plan barrier served at object id n c)
    enters_entry_keeps served at object id n c s w =
        let call : Call = call_of id c in
        let unit : ℕ = (entry_plan plan call.entry).unit in
        let back : Resumed = record { status = (own_of n c).status; pending = (own_of n c).pending } in
        let f : TaskAt C → TaskAt C = (λ t. record { control = go.enters unit t.control; own = record t.own { status = Running; pending = None; serving = None } }) in
        let purpose : Purpose = for_entry object id served back in
        let display : List ℕ = (object_of object c).display in
        on_call_keeps id (λ a. record a { state = Selected }) (effect.opens_for go plan barrier purpose unit at display call.values n (on_task n f c)) (λ a. refl)
        (opens_keeps purpose unit at display call.values n (on_task n f c) (on_still n f c s (λ t still. rests refl refl still) w))

    -- of a call on an object's entry
    barrier_met_keeps : (r : Result Bool Raise) (at : Pos) (object id n : ℕ) (c : All C) → ((m : ℕ) → is_task m (call_of id c).owner ≡ false) → S n → Keeps c → Keeps (effect.barrier_met go plan barrier r at object id n c)
    barrier_met_keeps (Err raise) at object id n c other s w =
        let ids : List ℕ = calls_on_object object c.shared.calls in
        let d : All C = effect.end_call go plan barrier (fails (Predefined Program)) id c in
        end_action_keeps n object (effect.refuse go plan barrier Program ids d) (refuse_keeps Program ids d (end_call_keeps (fails (Predefined Program)) id c w))
    barrier_met_keeps (Ok true) at object id n c other s w = enters_entry_keeps false at object id n c s w
    barrier_met_keeps (Ok false) at object id n c other s w =
        let f : TaskAt C → TaskAt C = (λ t. record { control = go.takes 1 t.control; own = runs t.own }) in
        either (effect.is_conditional go plan barrier (call_of id c).form) _ _
        (end_action_keeps n object (cancels id (on_task n f c)) (cancels_keeps id (on_task n f c) (on_task_keeps n f c (λ t. stops refl) w)))
        (serviced_keeps object at n (arrives id c) s (arrives_keeps id c (λ m its. absurd (false≢true (sym (other m) ∙ its))) w))

    pub calls_object_keeps : (call : Call) (object : ℕ) (c : All C) → call.owner ≡ owner.Object object → is_queued call.state ≡ false → S call.caller → Keeps c → Keeps (effect.calls_object go plan barrier call object c)
    calls_object_keeps call object c is out s w =
        let n : ℕ = call.caller in
        let id : ℕ = call_number c in
        let d : All C = stands_at_call n id call.at (new_call call c) in
        let last : call_of id d ≡ call = last_call c.shared.calls call in
        either (in_action n c) _ _ (raised_at_keeps Program call.at n c w)
        (either (has_room (own_of n c)) _ _
        (barrier_met_keeps (effect.barrier_of plan barrier object call.entry c) call.at object id n (begin_action n object false d)
        (λ m. ap (λ (x : Call). is_task m x.owner) last ∙ ap (is_task m) is) s
        (begin_action_keeps n object false d (standing_keeps call c out w)))
        (raised_at_keeps Storage call.at n c w))

    -- a call that becomes one of an object is none of a task
    now_of_object : (object id : ℕ) (c : All C) (m : ℕ) → is_task m (call_of id (on_call id (effect.called_of go plan barrier (owner.Object object)) c)).owner ≡ false
    now_of_object object id c m = changed_call (λ x. is_task m x.owner ≡ false) id (effect.called_of go plan barrier (owner.Object object)) c.shared.calls refl (λ call e. refl)

    pub starts_again_keeps : (r : Restart) (n : ℕ) (c : All C) → S n → Keeps c → Keeps (effect.starts_again go plan barrier r n c)
    starts_again_keeps r n c s w =
        let call : Call = call_of r.call c in
        let d : All C = on_own n (λ own. record own { restart = None }) c in
        let v : Keeps d = on_own_keeps n (λ own. record own { restart = None }) c (λ own. alike refl) w in
        let f : Call → Call = effect.called_of go plan barrier (owner.Object r.object) in
        either (effect.is_lost go plan barrier call c) _ _ (cancels_keeps r.call d v)
        (barrier_met_keeps (effect.barrier_of plan barrier r.object call.entry c) r.at r.object r.call n (begin_action n r.object false (on_call r.call f d))
        (now_of_object r.object r.call d) s
        (begin_action_keeps n r.object false (on_call r.call f d) (on_call_keeps r.call f d (λ a. refl) v)))

    pub calls_operation_keeps : (at : Pos) (object unit : ℕ) (p : Passed) (into : Option Target) (n : ℕ) (c : All C) → Keeps c → Keeps (effect.calls_operation go plan barrier at object unit p into n c)
    calls_operation_keeps at object unit p into n c w =
        let u = unit_of plan unit in
        let r : Returning = record { is_function = u.is_function; backs = p.backs; into = into; value = None } in
        let d : All C = on_control n (go.enters unit) c in
        let display : List ℕ = (object_of object c).display in
        either (acts_on n (object_of object c)) _ _ (raised_at_keeps Program at n c w)
        (either (has_room (own_of n c)) _ _
        (begin_action_keeps n object u.is_function (effect.opens_for go plan barrier (for_operation object r) unit at display p.values n d)
        (opens_keeps (for_operation object r) unit at display p.values n d (on_control_keeps n (go.enters unit) c w)))
        (raised_at_keeps Storage at n c w))

    at_operation_end_keeps : (p : Option Pending) (object : ℕ) (r : Returning) (o : Opened) (n : ℕ) (c : All C) → S n → Keeps c → Keeps (effect.at_operation_end go plan barrier p object r o n c)
    at_operation_end_keeps p object r o n c s w =
        let d : All C = effect.returned_or go plan barrier p r o.frame o.at n (on_own n closed c) in
        let v : Keeps d = returned_or_keeps p r o.frame o.at n (on_own n closed c) (closed_keeps n c w) in
        either r.is_function _ _ (end_action_keeps n object d v) (serviced_keeps object o.at n d s v)

    entry_ended_keeps : (p : Option Pending) (r : Option Again) (values : List ℤ) (object id : ℕ) (c : All C) → Keeps c → Keeps (effect.entry_ended go plan barrier p r values object id c)
    entry_ended_keeps (Some p) r values object id c w = end_call_keeps (fails p.exception) id c w
    entry_ended_keeps None None values object id c w = end_call_keeps (succeeds values) id c w
    entry_ended_keeps None (Some r) values object id c w =
        let d : All C = on_call id (effect.retargeted go plan barrier r values) c in
        let v : Keeps d = on_call_keeps id (effect.retargeted go plan barrier r values) c (λ a. refl) w in
        let f : Call → Call = effect.called_of go plan barrier (owner.Object object) in
        either (effect.is_lost go plan barrier (call_of id d) d) _ _ (cancels_keeps id d v)
        (arrives_keeps id (on_call id f d) (λ n its. absurd (false≢true (sym (now_of_object object id d n) ∙ its))) (on_call_keeps id f d (λ a. refl) v))

    at_entry_end_keeps : (p : Option Pending) (object id : ℕ) (back : Resumed) (o : Opened) (n : ℕ) (c : All C) → S n → Keeps c → Keeps (effect.at_entry_end go plan barrier p object id back o n c)
    at_entry_end_keeps p object id back o n c s w =
        let f : TaskAt C → TaskAt C = (λ t. record t { own = record (closed t.own) { status = back.status; pending = back.pending; again = None } }) in
        let r : Option Again = (own_of n c).again in
        let values : List ℤ = effect.present_values go plan barrier id o.frame c in
        serviced_keeps object o.at n (effect.entry_ended go plan barrier p r values object id (on_task n f c)) s
        (entry_ended_keeps p r values object id (on_task n f c)
        (on_still n f c s (λ t still. rests (ap (λ (k : Core). k.abnormal) (closed_core t.own)) (ap (λ (k : Core). k.waits) (closed_core t.own)) still) w))

    serves_oldest_keeps : (ws : List Waiting) (v : Serving) (n : ℕ) (c : All C) → S n → Keeps c → Keeps (effect.serves_oldest go plan barrier ws v n c)
    serves_oldest_keeps [] v n c s w = w
    serves_oldest_keeps (x ∷ xs) v n c s w = enters_entry_keeps true v.at v.object x.call n c s w

    pub serves_keeps : (index : Option ℕ) (v : Serving) (n : ℕ) (c : All C) → S n → Keeps c → Keeps (effect.serves go plan barrier index v n c)
    serves_keeps None v n c s w = serviced_keeps v.object v.at n c s w
    serves_keeps (Some index) v n c s w =
        serves_oldest_keeps (queue v.object (slice_index_or (0 ∷ effect.entries_of plan barrier v.object c) index 0) c.shared.calls) v n c s w

    cancelled_on_keeps : (o : Owner) (at : Pos) (n : ℕ) (c : All C) → S n → Keeps c → Keeps (effect.cancelled_on go plan barrier o at n c)
    cancelled_on_keeps (owner.Task m) at n c s w = w
    cancelled_on_keeps (owner.Object object) at n c s w = serviced_keeps object at n (begin_action n object false c) s (begin_action_keeps n object false c w)

    pub call_expires_keeps : (n : ℕ) (c : All C) → S n → Keeps c → Keeps (effect.call_expires go plan barrier n c)
    call_expires_keeps n c s w =
        let id : ℕ = (own_of n c).call in
        let f : TaskAt C → TaskAt C = (λ t. record { control = go.takes 1 t.control; own = runs t.own }) in
        cancelled_on_keeps (call_of id c).owner (call_of id c).at n (cancels id (on_task n f c)) s (cancels_keeps id (on_task n f c) (on_task_keeps n f c (λ t. stops refl) w))

    pub withdraws_keeps : (object n : ℕ) (c : All C) → S n → Keeps c → Keeps (effect.withdraws go plan barrier object n c)
    withdraws_keeps object n c s w =
        let d : All C = on_own n (λ own. record own { withdraw = None }) c in
        serviced_keeps object (own_of n c).at n (begin_action n object false d) s
        (begin_action_keeps n object false d (on_own_keeps n (λ own. record own { withdraw = None }) c (λ own. alike refl) w))

    -- Abort.

    withdraws_from_lets : (o : Owner) (own : Own) → Lets own (effect.withdraws_from go plan barrier o own)
    withdraws_from_lets (owner.Task m) own = alike refl
    withdraws_from_lets (owner.Object object) own = alike refl

    loses_call_keeps : (n : ℕ) (ids : List ℕ) (c : All C) → Keeps c → Keeps (effect.loses_call go plan barrier n ids c)
    loses_call_keeps n [] c w = w
    loses_call_keeps n (id ∷ ids) c w =
        let o : Owner = (call_of id c).owner in
        let d : All C = on_own n (effect.withdraws_from go plan barrier o) c in
        loses_call_keeps n ids (cancels id d) (cancels_keeps id d (on_own_keeps n (effect.withdraws_from go plan barrier o) c (withdraws_from_lets o) w))

    each_keeps : (f : ℕ → All C → All C) → ((n : ℕ) (c : All C) → Keeps c → Keeps (f n c)) → (ns : List ℕ) (c : All C) → Keeps c → Keeps (effect.each go plan barrier f ns c)
    each_keeps f g [] c w = w
    each_keeps f g (n ∷ ns) c w = each_keeps f g ns (f n c) (g n c w)

    -- an abnormal task can't be called
    abnormal_lets : (own : Own) → Lets own (record own { abnormal = true })
    abnormal_lets own = record {
      settled = λ h. (λ _. λ e. absurd (true≢false e), λ _. λ e. absurd (true≢false e));
      still = λ h. λ e. absurd (true≢false e);
      accepts = λ entry h. h;
    }

    aborted_keeps : (hit : List ℕ) (c : All C) → Keeps c → Keeps (effect.aborted go plan barrier hit c)
    aborted_keeps hit c w =
        let f : ℕ → All C → All C = (λ n d. on_own n (λ own. record own { abnormal = true }) d) in
        let g : ℕ → All C → All C = (λ n d. effect.loses_call go plan barrier n (effect.own_calls go plan barrier n d.shared.calls) d) in
        let c1 : All C = effect.each go plan barrier f hit c in
        let c2 : All C = effect.each go plan barrier g hit c1 in
        let c3 : All C = effect.each go plan barrier (effect.refuse_queues go plan barrier) hit c2 in
        each_keeps (effect.terminates_created go plan barrier) (λ n d v. either (is_created (own_of n d).status) (effect.terminate go plan barrier n d) d (terminate_keeps n d v) v) hit c3
        (each_keeps (effect.refuse_queues go plan barrier) refuse_queues_keeps hit c2
        (each_keeps g (λ n d v. loses_call_keeps n (effect.own_calls go plan barrier n d.shared.calls) d v) hit c1
        (each_keeps f (λ n d v. on_own_keeps n (λ own. record own { abnormal = true }) d abnormal_lets v) hit c w)))

    pub aborts_keeps : (named : List ℕ) (at : Pos) (n : ℕ) (c : All C) → Keeps c → Keeps (effect.aborts go plan barrier named at n c)
    aborts_keeps named at n c w =
        either (in_action n c) _ _ (raised_at_keeps Program at n c w)
        (aborted_keeps (effect.hit_from go plan barrier named (effect.bodies_of go plan barrier named c) 0 c.tasks) (on_control n (go.takes 0) c) (on_control_keeps n (go.takes 0) c w))

    -- Leaving.

    at_end_by_keeps : (alternative : Option ℕ) (purpose : Purpose) (p : Option Pending) (o : Opened) (n : ℕ) (c : All C) → S n → Keeps c → Keeps (effect.at_end_by go plan barrier alternative purpose p o n c)
    at_end_by_keeps alternative for_body p o n c s w = completes_keeps (exception_of p) n c w
    at_end_by_keeps alternative for_block p o n c s w = at_block_end_keeps p o n (on_own n out_of_loops c) (on_own_keeps n out_of_loops c (λ own. alike (loops_core own)) w)
    at_end_by_keeps alternative for_loop p o n c s w = w
    at_end_by_keeps alternative (for_procedure r) p o n c s w = at_procedure_end_keeps p r o n (on_own n out_of_loops c) (on_own_keeps n out_of_loops c (λ own. alike (loops_core own)) w)
    at_end_by_keeps alternative (for_operation object r) p o n c s w = at_operation_end_keeps p object r o n (on_own n out_of_loops c) s (on_own_keeps n out_of_loops c (λ own. alike (loops_core own)) w)
    at_end_by_keeps alternative (for_entry object id served resumed) p o n c s w = at_entry_end_keeps p object id resumed o n (on_own n out_of_loops c) s (on_own_keeps n out_of_loops c (λ own. alike (loops_core own)) w)
    at_end_by_keeps alternative (for_accept id) p o n c s w = at_accept_end_keeps alternative p id o n (on_own n out_of_loops c) (on_own_keeps n out_of_loops c (λ own. alike (loops_core own)) w)

    at_end_of_keeps : (alternative : Option ℕ) (os : List Opened) (p : Option Pending) (n : ℕ) (c : All C) → S n → Keeps c → Keeps (effect.at_end_of go plan barrier alternative os p n c)
    at_end_of_keeps alternative [] p n c s w = w
    at_end_of_keeps alternative (o ∷ os) p n c s w = at_end_by_keeps alternative o.purpose p o n c s w

    pub leaves_keeps : (alternative : Option ℕ) (p : Option Pending) (to : C → C) (n : ℕ) (c : All C) → S n → Keeps c → Keeps (step.leaves go plan barrier alternative p to n c)
    leaves_keeps alternative p to n c s w =
        let f : TaskAt C → TaskAt C = (λ t. record t { control = to t.control; own = record t.own { pending = None } }) in
        at_end_of_keeps alternative (out_of_loops (own_of n (on_task n f c))).opened p n (on_task n f c) s (on_task_keeps n f c (λ t. alike refl) w)

-- What steps do to all keeps the limits.
use Rattle.std.proofs.Common.{◌≡◌, ℕ, zero, suc, ◌+◌, ◌≤◌, ℤ, pos, nat_le, List, [], ◌∷◌, ◌++◌, length, filter, Option, Some, None, Bool, true, false, Result, Ok, Err, refl, ap, ◌∙◌, if◌then◌else◌, slice_get, slice_index_or, arith}
use Rattle.std.specs.Prelude.{◌&&◌, ◌||◌, not, nat_eq, is_some, is_none}
use Rattle.std.proofs.lemmas.Bool.{leb-true}
use Rattle.std.proofs.lemmas.List.{length-append}
use Rattle.aud_text.specs.declared.place.Pos.{Pos}
use Rattle.aud_text.specs.declared.raise.Raise.{Raise}
use Rattle.aud_text.specs.declared.raise.Raise.TheVariants.{Program, Storage, Tasking}
use Rattle.aud_text.specs.declared.limits.Limits.{Limits}
use Rattle.aud_text.specs.declared.limits.TheConstants.{FRAMES, ELEMENTS}
use Rattle.aud_typed.specs.declared.program.Exception.{Exception}
use Rattle.aud_typed.specs.declared.program.Exception.TheVariants.{Predefined}
use Rattle.aud_typed.specs.Tree.{Plan, Tasks}
use Rattle.aud_meaning.specs.declared.state.Status.{Status}
use Rattle.aud_meaning.specs.declared.state.Status.TheVariants.{Running, Activating, Accepting, Delaying, Calling, Completed, Terminated}
use Rattle.aud_meaning.specs.declared.state.CallState.TheVariants.{Selected, Done}
use Rattle.aud_meaning.specs.declared.state.Owner.{Owner}
use Rattle.aud_meaning.specs.declared.state.Owner.TheVariants as owner
use Rattle.aud_meaning.specs.declared.state.Pending.{Pending}
use Rattle.aud_meaning.specs.declared.state.Resumed.{Resumed}
use Rattle.aud_meaning.specs.declared.state.OpenAccept.{OpenAccept}
use Rattle.aud_meaning.specs.declared.state.Serving.{Serving}
use Rattle.aud_meaning.specs.declared.state.Again.{Again}
use Rattle.aud_meaning.specs.declared.state.Restart.{Restart}
use Rattle.aud_meaning.specs.declared.state.Action.{Action}
use Rattle.aud_meaning.specs.Configuration.{Frame, Target, Returning, Purpose, for_body, for_block, for_loop, for_procedure, for_operation, for_entry, for_accept, Opened, Waits, Own, Call, Object, Shared, TaskAt, All, Acting}
use Rattle.aud_meaning.specs.Evaluation.{Sight, Passed}
use Rattle.aud_meaning.specs.Effects.{pends, innermost, closed, out_of_loops, live_frames, has_room, CopiedBack, copied_back}
use Rattle.aud_meaning.specs.Effects as effects
use Rattle.aud_meaning.specs.Orders.{Orders}
use Rattle.aud_meaning.specs.Parts.{Outcome, succeeds, fails, Waiting, acts_on, alone, alone_by, alternative_of, any, arrives, begin_action, blocks, calls_on_object, calls_on_task, call_number, call_of, cancels, changed, depends, end_action, entry_plan, exception_of, in_action, is_callable, is_created, new_call, no_waits, numbers, object_of, on_call, on_control, on_object, on_own, on_task, open_alternatives, own_of, queue, raised_at, runs, stands_at_call, unit_of, with_frames, body_master}
use Rattle.aud_meaning.specs.Tasks as effect
use Rattle.aud_meaning.specs.Step as step
use Rattle.aud_meaning.specs.Why.Limits.{one_if, reserved, GoesBack, AllGoBack, Fits, AllFit, IsWithin}
use Rattle.aud_meaning.proofs.Limits.Cells.{IsKept, KeepsCells, copied, declared, opened, resulted}
use Rattle.aud_meaning.proofs.Limits.Frames.{FitsBeside, Got, Rising, Unbegun, appended_fit, begun_there, beside, changed_fit, closed_fits, either_fits, elsewhere, first_fits, got, length_changed, nth, nth_fits, opened_there, out_of_loops_fits, runs_fit, unbegun_there}

-- in a frame that is open
pub declared_within : {C : Type 0} (cells : List ℤ) (t : Acting C) → FitsBeside t → FitsBeside (effects.declares cells t)
declared_within cells t h = (first_fits (λ o. record o { elaborated = suc o.elaborated }) (λ o. refl) (reserved t.own.status) t.own.opened h.0, h.1, h.2)

module _ {C : Type 0} (limits : Limits) (start : All C) where
  abbrev Within : All C → Type 0
  Within c = IsKept C limits start c

  -- the limits were kept at the step's start
  abbrev AtStart : Type 0
  AtStart = IsWithin C limits start

  abbrev Cells : List Frame → Type 0
  Cells frames = KeepsCells ELEMENTS start.shared.frames frames

  pub either : (b : Bool) (x y : All C) → Within x → Within y → Within (if b then x else y)
  either true x y h i = h
  either false x y h i = i

  on_task_given : (n : ℕ) (f : TaskAt C → TaskAt C) (c : All C) → (AtStart → (t : TaskAt C) → Fits t.own → Fits (f t).own) → Within c → Within (on_task n f c)
  on_task_given n f c g w = record {
    within = λ i.
        let v : IsWithin C limits c = w.within i in
        record { tasks = omega (arith, length_changed n f c.tasks, v.tasks); objects = v.objects; output = v.output; frames = changed_fit n f c.tasks (λ t e h. g i t h) v.frames };
    cells = w.cells;
  }

  on_task_within : (n : ℕ) (f : TaskAt C → TaskAt C) (c : All C) → ((t : TaskAt C) → Fits t.own → Fits (f t).own) → Within c → Within (on_task n f c)
  on_task_within n f c g w = on_task_given n f c (λ i. g) w

  pub on_own_within : (n : ℕ) (f : Own → Own) (c : All C) → ((own : Own) → Fits own → Fits (f own)) → Within c → Within (on_own n f c)
  on_own_within n f c g w = on_task_within n (λ t. record t { own = f t.own }) c (λ t h. g t.own h) w

  pub on_control_within : (n : ℕ) (f : C → C) (c : All C) → Within c → Within (on_control n f c)
  on_control_within n f c w = on_task_within n (λ t. record t { control = f t.control }) c (λ t h. h) w

  shared_within : (s : Shared) (c : All C) → length s.objects ≡ length c.shared.objects → s.output ≡ c.shared.output → Cells s.frames → Within c → Within (record c { shared = s })
  shared_within s c objects output cells w = record {
    within = λ i.
        let v : IsWithin C limits c = w.within i in
        record { tasks = v.tasks; objects = omega (arith, objects, v.objects); output = omega (arith, ap length output, v.output); frames = v.frames };
    cells = cells;
  }

  on_call_within : (id : ℕ) (f : Call → Call) (c : All C) → Within c → Within (on_call id f c)
  on_call_within id f c w = shared_within _ c refl refl w.cells w

  on_object_within : (object : ℕ) (f : Object → Object) (c : All C) → Within c → Within (on_object object f c)
  on_object_within object f c w = shared_within _ c (length_changed object f c.shared.objects) refl w.cells w

  with_frames_within : (frames : List Frame) (c : All C) → Cells frames → Within c → Within (with_frames frames c)
  with_frames_within frames c k w = shared_within _ c refl refl k w

  arrives_within : (id : ℕ) (c : All C) → Within c → Within (arrives id c)
  arrives_within id c w = shared_within _ c refl refl w.cells w

  new_call_within : (call : Call) (c : All C) → Within c → Within (new_call call c)
  new_call_within call c w = shared_within _ c refl refl w.cells w

  cancels_within : (id : ℕ) (c : All C) → Within c → Within (cancels id c)
  cancels_within id c w = shared_within _ c refl refl w.cells w

  pub raised_at_within : (raise : Raise) (at : Pos) (n : ℕ) (c : All C) → Within c → Within (raised_at raise at n c)
  raised_at_within raise at n c w = on_own_within n (pends (Predefined raise) at) c (λ own h. h) w

  begin_action_within : (task object : ℕ) (reading : Bool) (c : All C) → Within c → Within (begin_action task object reading c)
  begin_action_within task object reading c w = on_object_within object (λ o. record o { actions = o.actions ++ record { task = task; reading = reading } ∷ [] }) c w

  end_action_within : (task object : ℕ) (c : All C) → Within c → Within (end_action task object c)
  end_action_within task object c w =
      let f : Object → Object = (λ o. record o { actions = filter (λ (a : Action). not (nat_eq a.task task)) o.actions }) in
      on_own_within task (λ own. record own { serving = None }) (on_object object f c) (λ own h. h) (on_object_within object f c w)

  stands_within : (n id : ℕ) (at : Pos) (c : All C) → Within c → Within (stands_at_call n id at c)
  stands_within n id at c w = on_own_within n (λ own. record (blocks Calling at no_waits own) { call = id }) c (λ own h. (omega (arith, h.0), h.1)) w

  blocked_within : (status : Status) → is_created status ≡ false → (at : Pos) (waits : Waits) (n : ℕ) (c : All C) → Within c → Within (on_own n (blocks status at waits) c)
  blocked_within status begun at waits n c w =
      let e : reserved status ≡ 0 = ap one_if begun in
      on_own_within n (blocks status at waits) c (λ own h. (omega (arith, e, h.0), h.1)) w

  pub alone_within : (f : Acting C → Acting C) (n : ℕ) (c : All C) → (AtStart → (t : TaskAt C) → t.own ≡ own_of n c → FitsBeside (beside t c.shared) → FitsBeside (f (beside t c.shared))) → ((t : TaskAt C) → Cells (f (beside t c.shared)).shared.frames) → Within c → Within (alone f n c)
  alone_within f n c g cells w = by (slice_get c.tasks n) (λ i. got n c.tasks (w.within i).frames)
    where
      by : (o : Option (TaskAt C)) → (AtStart → Got o (own_of n c)) → Within (alone_by f o n c)
      by None h = w
      by (Some t) h =
          let u : Acting C = f (beside t c.shared) in
          record {
            within = λ i.
                let v : IsWithin C limits c = w.within i in
                let k : FitsBeside u = g i t (h i).0 ((h i).1, v.objects, v.output) in
                record {
                  tasks = omega (arith, length_changed n (λ (old : TaskAt C). record { control = u.control; own = u.own }) c.tasks, v.tasks);
                  objects = k.1;
                  output = k.2;
                  frames = changed_fit n (λ (old : TaskAt C). record { control = u.control; own = u.own }) c.tasks (λ old e j. k.0) v.frames;
                };
            cells = cells t;
          }

  alone_elsewhere : (f : Acting C → Acting C) (n m : ℕ) (c : All C) → suc n ≤ m → own_of m (alone f n c) ≡ own_of m c
  alone_elsewhere f n m c h = by (slice_get c.tasks n)
    where
      by : (o : Option (TaskAt C)) → own_of m (alone_by f o n c) ≡ own_of m c
      by None = refl
      by (Some t) =
          let u : Acting C = f (beside t c.shared) in
          elsewhere n m (λ (old : TaskAt C). record { control = u.control; own = u.own }) c.tasks h

  module _ (go : Orders C) (plan : Plan) (barrier : ℕ → Sight → Result Bool Raise) where
    -- Ends of calls.

    fails_within : (id : ℕ) (call : Call) (x : Exception) (c : All C) → Within c → Within (effect.caller_fails go plan barrier id call x c)
    fails_within id call x c w = on_own_within call.caller (λ own. pends x call.at (runs own)) (on_call id (λ a. record a { state = Done }) c) (λ own h. runs_fit own h) (on_call_within id (λ a. record a { state = Done }) c w)

    ended_within : (r : Option Raise) (id : ℕ) (call : Call) (c : All C) → Within c → Within (effect.ended_by go plan barrier r id call c)
    ended_within None id call c w = on_task_within call.caller (λ t. record { control = go.takes 0 t.control; own = runs t.own }) (on_call id (λ a. record a { state = Done }) c) (λ t h. runs_fit t.own h) (on_call_within id (λ a. record a { state = Done }) c w)
    ended_within (Some raise) id call c w = fails_within id call (Predefined raise) c w

    end_call_by_within : (o : Outcome) (id : ℕ) (call : Call) (c : All C) → Within c → Within (effect.end_call_by go plan barrier o id call c)
    end_call_by_within (fails x) id call c w = fails_within id call x c w
    end_call_by_within (succeeds values) id call c w =
        let back : CopiedBack = copied_back values call.backs c.shared.frames in
        ended_within back.raised id call (with_frames back.frames c) (with_frames_within back.frames c (copied values call.backs w.cells) w)

    end_call_within : (o : Outcome) (id : ℕ) (c : All C) → Within c → Within (effect.end_call go plan barrier o id c)
    end_call_within o id c w = end_call_by_within o id (call_of id c) c w

    refuse_within : (raise : Raise) (ids : List ℕ) (c : All C) → Within c → Within (effect.refuse go plan barrier raise ids c)
    refuse_within raise [] c w = w
    refuse_within raise (id ∷ ids) c w = refuse_within raise ids (effect.end_call go plan barrier (fails (Predefined raise)) id c) (end_call_within (fails (Predefined raise)) id c w)

    refuse_queues_within : (n : ℕ) (c : All C) → Within c → Within (effect.refuse_queues go plan barrier n c)
    refuse_queues_within n c w = refuse_within Tasking (calls_on_task n c.shared.calls) c w

    terminate_within : (n : ℕ) (c : All C) → Within c → Within (effect.terminate go plan barrier n c)
    terminate_within n c w =
        let f : Own → Own = (λ own. record own { status = Terminated; pending = None; display = []; opened = []; waits = no_waits }) in
        refuse_queues_within n (on_own n f c) (on_own_within n f c (λ own h. (omega arith, tt)) w)

    terminate_all_within : (ns : List ℕ) (c : All C) → Within c → Within (effect.terminate_all go plan barrier ns c)
    terminate_all_within [] c w = w
    terminate_all_within (n ∷ ns) c w = terminate_all_within ns (effect.terminate go plan barrier n c) (terminate_within n c w)

    close_master_within : (master : ℕ) (c : All C) → Within c → Within (effect.close_master go plan barrier master c)
    close_master_within master c w = terminate_all_within (numbers (λ (t : TaskAt C). depends master t.own) 0 c.tasks) c w

    -- Creation and activation.

    pub raises_in_part_within : (raise : Raise) (at : Pos) (n : ℕ) (c : All C) → Within c → Within (effect.raises_in_part go plan barrier raise at n c)
    raises_in_part_within raise at n c w =
        let ns : List ℕ = effect.not_activated go plan barrier (innermost (own_of n c).opened) c in
        raised_at_within raise at n (effect.terminate_all go plan barrier ns c) (terminate_all_within ns c w)

    created_fit : (creator : Own) (ts : Tasks) (i n : ℕ) → AllFit (effect.all_created go plan barrier creator ts i n)
    created_fit creator ts i zero = tt
    created_fit creator ts i (suc n) = ((omega arith, tt), created_fit creator ts (suc i) n)

    created_length : (creator : Own) (ts : Tasks) (i n : ℕ) → length (effect.all_created go plan barrier creator ts i n) ≡ n
    created_length creator ts i zero = refl
    created_length creator ts i (suc n) = ap suc (created_length creator ts (suc i) n)

    abbrev with_created : Tasks → ℕ → All C → All C
    with_created ts n c = record c { tasks = c.tasks ++ effect.all_created go plan barrier (own_of n c) ts 0 ts.length }

    with_created_within : (ts : Tasks) (n : ℕ) (c : All C) → length c.tasks + ts.length ≤ limits.tasks → Within c → Within (with_created ts n c)
    with_created_within ts n c room w =
        let new : List (TaskAt C) = effect.all_created go plan barrier (own_of n c) ts 0 ts.length in
        record {
          within = λ i.
              let v : IsWithin C limits c = w.within i in
              record {
                tasks = omega (arith, length-append c.tasks new, created_length (own_of n c) ts 0 ts.length, room);
                objects = v.objects;
                output = v.output;
                frames = appended_fit c.tasks new v.frames (created_fit (own_of n c) ts 0 ts.length);
              };
          cells = w.cells;
        }

    counted_length : (first n : ℕ) → length (effect.counted_from go plan barrier first n) ≡ n
    counted_length first zero = refl
    counted_length first (suc n) = ap suc (counted_length (suc first) n)

    -- where no frame has more cells yet
    pub declares_tasks_within : (at : Pos) (ts : Tasks) (n : ℕ) (c : All C) → KeepsCells 0 start.shared.frames c.shared.frames → Within c → Within (effect.declares_tasks go plan barrier limits at ts n c)
    declares_tasks_within at ts n c same w =
        either (not (nat_eq ts.length 0) && in_action n c) _ _ (raises_in_part_within Program at n c w)
        (by (effect.counted_from go plan barrier (length c.tasks) ts.length) (counted_length (length c.tasks) ts.length) (nat_le ts.length ELEMENTS) refl (nat_le (length c.tasks + ts.length) limits.tasks) refl)
      where
        by : (cells : List ℤ) → length cells ≡ ts.length → (b : Bool) → nat_le ts.length ELEMENTS ≡ b → (e : Bool) → nat_le (length c.tasks + ts.length) limits.tasks ≡ e → Within (if b && e then on_control n (go.takes 0) (alone (λ t. effects.declares cells t) n (with_created ts n c)) else effect.raises_in_part go plan barrier Storage at n c)
        by cells long true few true room =
            on_control_within n (go.takes 0) (alone (λ t. effects.declares cells t) n (with_created ts n c))
            (alone_within (λ t. effects.declares cells t) n (with_created ts n c) (λ i t e h. declared_within cells (beside t c.shared) h)
            (λ t. declared (innermost t.own.opened) cells (omega (arith, long, leb-true ts.length ELEMENTS few)) same)
            (with_created_within ts n c (leb-true (length c.tasks + ts.length) limits.tasks room) w))
        by cells long true few false room = raises_in_part_within Storage at n c w
        by cells long false few e room = raises_in_part_within Storage at n c w

    abbrev begun : ℕ → TaskAt C → TaskAt C
    begun activator t = record t { own = record t.own { status = Running; activator = Some activator } }

    begins_within : (activator n : ℕ) (c : All C) → is_created (own_of n c).status ≡ true → Within c → Within (effect.begins go plan barrier activator n c)
    begins_within activator n c created w =
        let own : Own = own_of n c in
        let d : All C = on_task n (begun activator) c in
        let was : reserved own.status ≡ 1 = ap one_if created in
        alone_within (λ t. effects.opens for_body (unit_of plan own.unit).region (unit_of plan own.unit).at own.display (pos n ∷ []) (length (pos n ∷ [])) t) n d
        (λ i t is h.
        let fits : Fits own = nth_fits n c.tasks (w.within i).frames in
        let status : reserved t.own.status ≡ 0 = ap (λ (o : Own). reserved o.status) is ∙ ap one_if (begun_there n (begun activator) c.tasks (λ u. refl)) in
        let live : live_frames t.own.opened ≡ live_frames own.opened = ap (λ (o : Own). live_frames o.opened) is ∙ ap live_frames (opened_there n (begun activator) c.tasks (λ u. refl)) in
        ((omega (arith, status, live, was, fits.0), (tt, h.0.1)), h.1, h.2))
        (λ t. opened (pos n ∷ []) w.cells)
        (on_task_within n (begun activator) c (λ t h. (omega (arith, h.0), h.1)) w)

    begins_elsewhere : (activator n m : ℕ) (c : All C) → suc n ≤ m → own_of m (effect.begins go plan barrier activator n c) ≡ own_of m c
    begins_elsewhere activator n m c h =
        let own : Own = own_of n c in
        alone_elsewhere (λ t. effects.opens for_body (unit_of plan own.unit).region (unit_of plan own.unit).at own.display (pos n ∷ []) (length (pos n ∷ [])) t) n m (on_task n (begun activator) c) h
        ∙ elsewhere n m (begun activator) c.tasks h

    still_unbegun : (activator n : ℕ) (c : All C) (m : ℕ) (ns : List ℕ) → suc n ≤ m → Rising m ns → Unbegun (λ x. own_of x c) ns → Unbegun (λ x. own_of x (effect.begins go plan barrier activator n c)) ns
    still_unbegun activator n c m [] h r u = tt
    still_unbegun activator n c m (x ∷ xs) h r u =
        (ap (λ (o : Own). is_created o.status) (begins_elsewhere activator n x c (omega (arith, h, r.0))) ∙ u.0, still_unbegun activator n c (suc x) xs (omega (arith, h, r.0)) r.1 u.1)

    begin_all_within : (activator : ℕ) (ns : List ℕ) (m : ℕ) (c : All C) → Rising m ns → Unbegun (λ x. own_of x c) ns → Within c → Within (effect.begin_all go plan barrier activator ns c)
    begin_all_within activator [] m c r u w = w
    begin_all_within activator (n ∷ ns) m c r u w =
        begin_all_within activator ns (suc n) (effect.begins go plan barrier activator n c) r.1 (still_unbegun activator n c (suc n) ns (omega arith) r.1 u.1) (begins_within activator n c u.0 w)

    others_unbegun : (n : ℕ) (f : TaskAt C → TaskAt C) (c : All C) → is_created (own_of n c).status ≡ false → (ns : List ℕ) → Unbegun (λ x. own_of x c) ns → Unbegun (λ x. own_of x (on_task n f c)) ns
    others_unbegun n f c here [] u = tt
    others_unbegun n f c here (x ∷ xs) u = (unbegun_there x n f c.tasks here u.0, others_unbegun n f c here xs u.1)

    pub activates_within : (at : Pos) (n : ℕ) (ns : List ℕ) (c : All C) → is_created (own_of n c).status ≡ false → Rising 0 ns → Unbegun (λ x. own_of x c) ns → Within c → Within (effect.activates go plan barrier at n ns c)
    activates_within at n [] c here r u w = on_control_within n (go.takes 0) c w
    activates_within at n (m ∷ ms) c here r u w =
        let f : TaskAt C → TaskAt C = (λ t. record t { own = record (blocks Activating at no_waits t.own) { failed = false } }) in
        begin_all_within n (m ∷ ms) 0 (on_task n f c) r (others_unbegun n f c here (m ∷ ms) u) (on_task_within n f c (λ t h. (omega (arith, h.0), h.1)) w)

    goes_on_within : (n : ℕ) (c : All C) → Within c → Within (effect.activator_goes_on go plan barrier n c)
    goes_on_within n c w =
        on_task_within n (λ t. record { control = go.takes 0 t.control; own = if t.own.failed then pends (Predefined Tasking) t.own.at (runs t.own) else runs t.own }) c
        (λ t h. either_fits t.own.failed (pends (Predefined Tasking) t.own.at (runs t.own)) (runs t.own) (runs_fit t.own h) (runs_fit t.own h)) w

    activation_ended_by_within : (m : Option ℕ) (failed : Bool) (n : ℕ) (c : All C) → Within c → Within (effect.activation_ended_by go plan barrier m failed n c)
    activation_ended_by_within None failed n c w = w
    activation_ended_by_within (Some m) failed n c w =
        let d : All C = on_own n (λ own. record own { activator = None }) c in
        let e : All C = on_own m (λ own. record own { failed = own.failed || failed }) d in
        let v : Within e = on_own_within m (λ own. record own { failed = own.failed || failed }) d (λ own h. h) (on_own_within n (λ own. record own { activator = None }) c (λ own h. h) w) in
        either (effect.is_activating go plan barrier (own_of m e).status && not (any (effect.is_awaited_by go plan barrier m) e.tasks)) (effect.activator_goes_on go plan barrier m e) e (goes_on_within m e v) v

    pub activation_ended_within : (failed : Bool) (n : ℕ) (c : All C) → Within c → Within (effect.activation_ended go plan barrier failed n c)
    activation_ended_within failed n c w = activation_ended_by_within (own_of n c).activator failed n c w

    pub completes_within : (raised : Option Exception) (n : ℕ) (c : All C) → Within c → Within (effect.completes go plan barrier raised n c)
    completes_within raised n c w =
        let opened : List Opened = (own_of n c).opened in
        let ns : List ℕ = numbers (effect.created_in go plan barrier opened) 0 c.tasks in
        let f : Own → Own = (λ own. record own { status = Completed; pending = None; raised = raised; waits = no_waits }) in
        let d : All C = effect.refuse go plan barrier Tasking (effect.accepts_under_way go plan barrier opened) (on_own n f c) in
        let e : All C = effect.refuse_queues go plan barrier n d in
        activation_ended_within (is_some raised) n (effect.terminate_all go plan barrier ns e)
        (terminate_all_within ns e (refuse_queues_within n d (refuse_within Tasking (effect.accepts_under_way go plan barrier opened) (on_own n f c) (on_own_within n f c (λ own h. (omega (arith, h.0), h.1)) w))))

    pub closes_within : (n : ℕ) (c : All C) → Within c → Within (effect.closes go plan barrier n c)
    closes_within n c w = terminate_within n (effect.close_master go plan barrier (body_master (own_of n c)) c) (close_master_within (body_master (own_of n c)) c w)

    -- Procedures.

    given_back_within : (back : CopiedBack) (at : Pos) (n : ℕ) (c : All C) → Cells back.frames → Within c → Within (effect.given_back go plan barrier back at n c)
    given_back_within back at n c k w = by back.raised
      where
        by : (r : Option Raise) → Within (effect.given_back go plan barrier (record back { raised = r }) at n c)
        by None = on_control_within n (go.takes 0) (with_frames back.frames c) (with_frames_within back.frames c k w)
        by (Some raise) = raised_at_within raise at n (with_frames back.frames c) (with_frames_within back.frames c k w)

    returned_within : (r : Returning) (frame : ℕ) (at : Pos) (n : ℕ) (c : All C) → Within c → Within (effect.returned go plan barrier r frame at n c)
    returned_within r frame at n c w =
        let back : CopiedBack = copied_back (slice_index_or c.shared.frames frame []) r.backs c.shared.frames in
        either (r.is_function && is_none r.value) _ _ (raised_at_within Program at n c w)
        (given_back_within _ at n c (resulted r back.raised back (copied (slice_index_or c.shared.frames frame []) r.backs w.cells)) w)

    returned_or_within : (p : Option Pending) (r : Returning) (frame : ℕ) (at : Pos) (n : ℕ) (c : All C) → Within c → Within (effect.returned_or go plan barrier p r frame at n c)
    returned_or_within None r frame at n c w = returned_within r frame at n c w
    returned_or_within (Some p) r frame at n c w = on_own_within n (pends p.exception at) c (λ own h. h) w

    closed_within : (n : ℕ) (c : All C) → Within c → Within (on_own n closed c)
    closed_within n c w = on_own_within n closed c (λ own h. closed_fits own h) w

    at_block_end_within : (p : Option Pending) (o : Opened) (n : ℕ) (c : All C) → Within c → Within (effect.at_block_end go plan barrier p o n c)
    at_block_end_within None o n c w = close_master_within o.frame (on_own n closed c) (closed_within n c w)
    at_block_end_within (Some p) o n c w =
        let f : Own → Own = (λ own. pends p.exception o.at (closed own)) in
        close_master_within o.frame (on_own n f c) (on_own_within n f c (λ own h. closed_fits own h) w)

    at_procedure_end_within : (p : Option Pending) (r : Returning) (o : Opened) (n : ℕ) (c : All C) → Within c → Within (effect.at_procedure_end go plan barrier p r o n c)
    at_procedure_end_within p r o n c w =
        returned_or_within p r o.frame o.at n (effect.close_master go plan barrier o.frame (on_own n closed c)) (close_master_within o.frame (on_own n closed c) (closed_within n c w))

    -- Rendezvous.

    rendezvous_by_within : (region : Option ℕ) (a : OpenAccept) (id n : ℕ) (c : All C) → Within c → Within (effect.rendezvous_by go plan barrier region a id n c)
    rendezvous_by_within None a id n c w =
        let f : TaskAt C → TaskAt C = (λ t. record { control = go.takes a.alternative t.control; own = runs t.own }) in
        end_call_within (succeeds ((call_of id c).values ++ (call_of id c).unseen)) id (on_task n f c) (on_task_within n f c (λ t h. runs_fit t.own h) w)
    rendezvous_by_within (Some region) a id n c w =
        let f : TaskAt C → TaskAt C = (λ t. record { control = go.accepts a.alternative t.control; own = runs t.own }) in
        alone_within (λ t. effects.opens (for_accept id) region a.at t.own.display (call_of id c).values (length (call_of id c).values) t) n (on_task n f c)
        (λ i t is h. ((h.0.0, (tt, h.0.1)), h.1, h.2)) (λ t. opened (call_of id c).values w.cells) (on_task_within n f c (λ t h. runs_fit t.own h) w)

    rendezvous_within : (a : OpenAccept) (id n : ℕ) (c : All C) → Within c → Within (effect.rendezvous go plan barrier a id n c)
    rendezvous_within a id n c w =
        rendezvous_by_within a.region a id n (on_call id (λ call. record call { state = Selected }) c) (on_call_within id (λ call. record call { state = Selected }) c w)

    -- Requeue.

    made_again_within : (alternative : Option ℕ) (ones : List OpenAccept) (id task : ℕ) (c : All C) → Within c → Within (effect.made_again go plan barrier alternative ones id task c)
    made_again_within alternative [] id task c w = arrives_within id c w
    made_again_within alternative (a ∷ ones) id task c w = rendezvous_within (alternative_of alternative a (a ∷ ones)) id task c w

    requeued_on_within : (alternative : Option ℕ) (o : Owner) (at : Pos) (id n : ℕ) (c : All C) → Within c → Within (effect.requeued_on go plan barrier alternative o at id n c)
    requeued_on_within alternative (owner.Task task) at id n c w =
        either (effect.is_lost go plan barrier (call_of id c) c) _ _ (cancels_within id c w)
        (either (is_callable (own_of task c)) _ _ (made_again_within alternative (open_alternatives (own_of task c) (call_of id c).entry) id task (on_call id (effect.called_of go plan barrier (owner.Task task)) c) (on_call_within id (effect.called_of go plan barrier (owner.Task task)) c w)) (end_call_within (fails (Predefined Tasking)) id c w))
    requeued_on_within alternative (owner.Object object) at id n c w = on_own_within n (λ own. record own { restart = Some (record { call = id; object = object; at = at }) }) c (λ own h. h) w

    accept_ended_within : (alternative : Option ℕ) (r : Option Again) (values : List ℤ) (id n : ℕ) (c : All C) → Within c → Within (effect.accept_ended go plan barrier alternative r values id n c)
    accept_ended_within alternative None values id n c w = end_call_within (succeeds values) id c w
    accept_ended_within alternative (Some r) values id n c w =
        requeued_on_within alternative r.owner r.at id n (on_call id (effect.retargeted go plan barrier r values) c) (on_call_within id (effect.retargeted go plan barrier r values) c w)

    at_accept_end_within : (alternative : Option ℕ) (p : Option Pending) (id : ℕ) (o : Opened) (n : ℕ) (c : All C) → Within c → Within (effect.at_accept_end go plan barrier alternative p id o n c)
    at_accept_end_within alternative None id o n c w =
        let f : Own → Own = (λ own. record (closed own) { again = None }) in
        accept_ended_within alternative (own_of n c).again (effect.present_values go plan barrier id o.frame c) id n (on_own n f c) (on_own_within n f c (λ own h. closed_fits own h) w)
    at_accept_end_within alternative (Some p) id o n c w =
        let f : Own → Own = (λ own. pends p.exception o.at (record (closed own) { again = None })) in
        end_call_within (fails p.exception) id (on_own n f c) (on_own_within n f c (λ own h. closed_fits own h) w)

    accepts_oldest_within : (a : OpenAccept) (ws : List Waiting) (n : ℕ) (c : All C) → Within c → Within (effect.accepts_oldest go plan barrier a ws n c)
    accepts_oldest_within a [] n c w = blocked_within Accepting refl a.at (record { accepts = a ∷ []; delays = []; terminate = false }) n c w
    accepts_oldest_within a (x ∷ xs) n c w = rendezvous_within a x.call n c w

    pub accepts_call_within : (a : OpenAccept) (n : ℕ) (c : All C) → Within c → Within (effect.accepts_call go plan barrier a n c)
    accepts_call_within a n c w = accepts_oldest_within a (queue n a.entry c.shared.calls) n c w

    standing_within : (call : Call) (c : All C) → Within c → Within (stands_at_call call.caller (call_number c) call.at (new_call call c))
    standing_within call c w = stands_within call.caller (call_number c) call.at (new_call call c) (new_call_within call c w)

    calls_open_within : (alternative : Option ℕ) (ones : List OpenAccept) (call : Call) (task : ℕ) (c : All C) → Within c → Within (effect.calls_open go plan barrier alternative ones call task c)
    calls_open_within alternative [] call task c w =
        either (effect.is_conditional go plan barrier call.form) _ _ (on_control_within call.caller (go.takes 1) c w)
        (arrives_within (call_number c) (stands_at_call call.caller (call_number c) call.at (new_call call c)) (standing_within call c w))
    calls_open_within alternative (a ∷ ones) call task c w =
        rendezvous_within (alternative_of alternative a (a ∷ ones)) (call_number c) task (stands_at_call call.caller (call_number c) call.at (new_call call c)) (standing_within call c w)

    pub calls_task_within : (alternative : Option ℕ) (call : Call) (task : ℕ) (c : All C) → Within c → Within (effect.calls_task go plan barrier alternative call task c)
    calls_task_within alternative call task c w =
        either (in_action call.caller c) _ _ (raised_at_within Program call.at call.caller c w)
        (either (is_callable (own_of task c)) _ _ (calls_open_within alternative (open_alternatives (own_of task c) call.entry) call task c w) (raised_at_within Tasking call.at call.caller c w))

    selected_first_within : (ones : List OpenAccept) (n : ℕ) (c : All C) → Within c → Within (effect.selected_first go plan barrier ones n c)
    selected_first_within [] n c w = w
    selected_first_within (o ∷ os) n c w = accepts_call_within o n c w

    pub selects_within : (alternative : Option ℕ) (has_else : Bool) (waits : Waits) (at : Pos) (n : ℕ) (c : All C) → Within c → Within (effect.selects go plan barrier alternative has_else waits at n c)
    selects_within None true waits at n c w = on_control_within n (go.takes 0) c w
    selects_within None false waits at n c w = either (nat_eq (length waits.accepts + length waits.delays) 0 && not waits.terminate) _ _ (raised_at_within Program at n c w) (blocked_within Accepting refl at waits n c w)
    selects_within (Some a) has_else waits at n c w = selected_first_within (filter (λ (o : OpenAccept). nat_eq o.alternative a) waits.accepts) n c w

    pub delays_for_within : (ms : ℕ) (at : Pos) (n : ℕ) (c : All C) → Within c → Within (effect.delays_for go plan barrier ms at n c)
    delays_for_within ms at n c w =
        either (in_action n c) _ _ (raised_at_within Program at n c w)
        (either (nat_eq ms 0) _ _ (on_control_within n (go.takes 0) c w)
        (blocked_within Delaying refl at (record { accepts = []; delays = record { alternative = 0; time = c.clock + ms } ∷ []; terminate = false }) n c w))

    pub delay_expires_within : (alternative n : ℕ) (c : All C) → Within c → Within (effect.delay_expires go plan barrier alternative n c)
    delay_expires_within alternative n c w =
        on_task_within n (λ t. record { control = go.takes alternative t.control; own = runs t.own }) c (λ t h. runs_fit t.own h) w

    -- Protected objects.

    serviced_by_within : (r : Result (List ℕ) Raise) (object : ℕ) (at : Pos) (n : ℕ) (c : All C) → Within c → Within (effect.serviced_by go plan barrier r object at n c)
    serviced_by_within (Err raise) object at n c w =
        let ids : List ℕ = calls_on_object object c.shared.calls in
        end_action_within n object (effect.refuse go plan barrier Program ids c) (refuse_within Program ids c w)
    serviced_by_within (Ok []) object at n c w = end_action_within n object c w
    serviced_by_within (Ok (e ∷ es)) object at n c w =
        on_own_within n (λ own. record own { serving = Some (record { object = object; at = at }) }) c (λ own h. h) w

    serviced_within : (object : ℕ) (at : Pos) (n : ℕ) (c : All C) → Within c → Within (effect.serviced go plan barrier object at n c)
    serviced_within object at n c w = serviced_by_within (effect.eligible plan barrier object c) object at n c w

    enters_entry_within : (served : Bool) (at : Pos) (object id n : ℕ) (c : All C) → is_created (own_of n c).status ≡ false → Within c → Within (effect.enters_entry go plan barrier served at object id n c)
    enters_entry_within served at object id n c here w =
        let call : Call = call_of id c in
        let unit : ℕ = (entry_plan plan call.entry).unit in
        let back : Resumed = record { status = (own_of n c).status; pending = (own_of n c).pending } in
        let f : TaskAt C → TaskAt C = (λ t. record { control = go.enters unit t.control; own = record t.own { status = Running; pending = None; serving = None } }) in
        let g : Acting C → Acting C = (λ t. effects.opens (for_entry object id served back) (unit_of plan unit).region at (object_of object c).display call.values (length call.values) t) in
        on_call_within id (λ a. record a { state = Selected }) (alone g n (on_task n f c))
        (alone_within g n (on_task n f c) (λ i t is h. ((h.0.0, (here, h.0.1)), h.1, h.2)) (λ t. opened call.values w.cells) (on_task_within n f c (λ t h. (omega (arith, h.0), h.1)) w))

    barrier_met_within : (r : Result Bool Raise) (at : Pos) (object id n : ℕ) (c : All C) → is_created (own_of n c).status ≡ false → Within c → Within (effect.barrier_met go plan barrier r at object id n c)
    barrier_met_within (Err raise) at object id n c here w =
        let ids : List ℕ = calls_on_object object c.shared.calls in
        let d : All C = effect.end_call go plan barrier (fails (Predefined Program)) id c in
        end_action_within n object (effect.refuse go plan barrier Program ids d) (refuse_within Program ids d (end_call_within (fails (Predefined Program)) id c w))
    barrier_met_within (Ok true) at object id n c here w = enters_entry_within false at object id n c here w
    barrier_met_within (Ok false) at object id n c here w =
        let f : TaskAt C → TaskAt C = (λ t. record { control = go.takes 1 t.control; own = runs t.own }) in
        either (effect.is_conditional go plan barrier (call_of id c).form) _ _
        (end_action_within n object (cancels id (on_task n f c)) (cancels_within id (on_task n f c) (on_task_within n f c (λ t h. runs_fit t.own h) w)))
        (serviced_within object at n (arrives id c) (arrives_within id c w))

    pub calls_object_within : (call : Call) (object : ℕ) (c : All C) → Within c → Within (effect.calls_object go plan barrier call object c)
    calls_object_within call object c w =
        let n : ℕ = call.caller in
        let id : ℕ = call_number c in
        let d : All C = stands_at_call n id call.at (new_call call c) in
        either (in_action n c) _ _ (raised_at_within Program call.at n c w)
        (either (has_room (own_of n c)) _ _
        (barrier_met_within (effect.barrier_of plan barrier object call.entry c) call.at object id n (begin_action n object false d)
        (begun_there n (λ t. record t { own = record (blocks Calling call.at no_waits t.own) { call = id } }) c.tasks (λ t. refl))
        (begin_action_within n object false d (standing_within call c w)))
        (raised_at_within Storage call.at n c w))

    pub starts_again_within : (r : Restart) (n : ℕ) (c : All C) → is_created (own_of n c).status ≡ false → Within c → Within (effect.starts_again go plan barrier r n c)
    starts_again_within r n c here w =
        let call : Call = call_of r.call c in
        let d : All C = on_own n (λ own. record own { restart = None }) c in
        let v : Within d = on_own_within n (λ own. record own { restart = None }) c (λ own h. h) w in
        let e : All C = on_call r.call (effect.called_of go plan barrier (owner.Object r.object)) d in
        either (effect.is_lost go plan barrier call c) _ _ (cancels_within r.call d v)
        (barrier_met_within (effect.barrier_of plan barrier r.object call.entry c) r.at r.object r.call n (begin_action n r.object false e)
        (still_begun n (λ own. record own { restart = None }) c.tasks (λ own. refl) here)
        (begin_action_within n r.object false e (on_call_within r.call (effect.called_of go plan barrier (owner.Object r.object)) d v)))
      where
        still_begun : (m : ℕ) (f : Own → Own) (ts : List (TaskAt C)) → ((own : Own) → (f own).status ≡ own.status) → is_created (nth m ts).status ≡ false → is_created (nth m (changed m (λ t. record t { own = f t.own }) ts)).status ≡ false
        still_begun m f [] same h = refl
        still_begun zero f (t ∷ ts) same h = ap is_created (same t.own) ∙ h
        still_begun (suc m) f (t ∷ ts) same h = still_begun m f ts same h

    -- where a frame more is allowed
    pub roomy : (b : Bool) (x y : All C) → (b ≡ true → Within x) → Within y → Within (if b then x else y)
    roomy true x y h i = h refl
    roomy false x y h i = i

    pub calls_operation_within : (at : Pos) (object unit : ℕ) (p : Passed) (into : Option Target) (n : ℕ) (c : All C) → is_created (own_of n c).status ≡ false → Within c → Within (effect.calls_operation go plan barrier at object unit p into n c)
    calls_operation_within at object unit p into n c here w =
        let u = unit_of plan unit in
        let own : Own = own_of n c in
        let r : Returning = record { is_function = u.is_function; backs = p.backs; into = into; value = None } in
        let g : Acting C → Acting C = (λ t. effects.opens (for_operation object r) u.region at (object_of object c).display p.values (length p.values) t) in
        let f : TaskAt C → TaskAt C = (λ t. record t { control = go.enters unit t.control }) in
        either (acts_on n (object_of object c)) _ _ (raised_at_within Program at n c w)
        (roomy (has_room own) _ _
        (λ e.
        begin_action_within n object u.is_function (alone g n (on_task n f c))
        (alone_within g n (on_task n f c)
        (λ i t is h.
        let room : suc (live_frames own.opened) ≤ FRAMES = leb-true (suc (live_frames own.opened)) FRAMES e in
        let status : reserved t.own.status ≡ 0 = ap (λ (o : Own). reserved o.status) is ∙ ap one_if (same_begun n f c.tasks here) in
        let live : live_frames t.own.opened ≡ live_frames own.opened = ap (λ (o : Own). live_frames o.opened) is ∙ ap live_frames (opened_there n f c.tasks (λ v. refl)) in
        ((omega (arith, room, status, live), (tt, h.0.1)), h.1, h.2))
        (λ t. opened p.values w.cells)
        (on_control_within n (go.enters unit) c w)))
        (raised_at_within Storage at n c w))
      where
        same_begun : (m : ℕ) (f : TaskAt C → TaskAt C) (ts : List (TaskAt C)) → is_created (nth m ts).status ≡ false → is_created (nth m (changed m (λ t. record t { control = go.enters unit t.control }) ts)).status ≡ false
        same_begun m f [] h = refl
        same_begun zero f (t ∷ ts) h = h
        same_begun (suc m) f (t ∷ ts) h = same_begun m f ts h

    at_operation_end_within : (p : Option Pending) (object : ℕ) (r : Returning) (o : Opened) (n : ℕ) (c : All C) → Within c → Within (effect.at_operation_end go plan barrier p object r o n c)
    at_operation_end_within p object r o n c w =
        let d : All C = effect.returned_or go plan barrier p r o.frame o.at n (on_own n closed c) in
        let v : Within d = returned_or_within p r o.frame o.at n (on_own n closed c) (closed_within n c w) in
        either r.is_function _ _ (end_action_within n object d v) (serviced_within object o.at n d v)

    entry_ended_within : (p : Option Pending) (r : Option Again) (values : List ℤ) (object id : ℕ) (c : All C) → Within c → Within (effect.entry_ended go plan barrier p r values object id c)
    entry_ended_within (Some p) r values object id c w = end_call_within (fails p.exception) id c w
    entry_ended_within None None values object id c w = end_call_within (succeeds values) id c w
    entry_ended_within None (Some r) values object id c w =
        let d : All C = on_call id (effect.retargeted go plan barrier r values) c in
        let v : Within d = on_call_within id (effect.retargeted go plan barrier r values) c w in
        let f : Call → Call = effect.called_of go plan barrier (owner.Object object) in
        either (effect.is_lost go plan barrier (call_of id d) d) _ _ (cancels_within id d v) (arrives_within id (on_call id f d) (on_call_within id f d v))

    at_entry_end_within : (p : Option Pending) (object id : ℕ) (back : Resumed) (o : Opened) (n : ℕ) (c : All C) → (AtStart → is_created back.status ≡ false) → Within c → Within (effect.at_entry_end go plan barrier p object id back o n c)
    at_entry_end_within p object id back o n c before w =
        let f : Own → Own = (λ own. record (closed own) { status = back.status; pending = back.pending; again = None }) in
        let r : Option Again = (own_of n c).again in
        let values : List ℤ = effect.present_values go plan barrier id o.frame c in
        serviced_within object o.at n (effect.entry_ended go plan barrier p r values object id (on_own n f c))
        (entry_ended_within p r values object id (on_own n f c) (on_task_given n (λ t. record t { own = f t.own }) c (λ i t h. (omega (arith, ap one_if (before i), (closed_fits t.own h).0), (closed_fits t.own h).1)) w))

    serves_oldest_within : (ws : List Waiting) (s : Serving) (n : ℕ) (c : All C) → is_created (own_of n c).status ≡ false → Within c → Within (effect.serves_oldest go plan barrier ws s n c)
    serves_oldest_within [] s n c here w = w
    serves_oldest_within (x ∷ xs) s n c here w = enters_entry_within true s.at s.object x.call n c here w

    pub serves_within : (index : Option ℕ) (s : Serving) (n : ℕ) (c : All C) → is_created (own_of n c).status ≡ false → Within c → Within (effect.serves go plan barrier index s n c)
    serves_within None s n c here w = serviced_within s.object s.at n c w
    serves_within (Some index) s n c here w =
        serves_oldest_within (queue s.object (slice_index_or (0 ∷ effect.entries_of plan barrier s.object c) index 0) c.shared.calls) s n c here w

    cancelled_on_within : (o : Owner) (at : Pos) (n : ℕ) (c : All C) → Within c → Within (effect.cancelled_on go plan barrier o at n c)
    cancelled_on_within (owner.Task m) at n c w = w
    cancelled_on_within (owner.Object object) at n c w = serviced_within object at n (begin_action n object false c) (begin_action_within n object false c w)

    pub call_expires_within : (n : ℕ) (c : All C) → Within c → Within (effect.call_expires go plan barrier n c)
    call_expires_within n c w =
        let id : ℕ = (own_of n c).call in
        let f : TaskAt C → TaskAt C = (λ t. record { control = go.takes 1 t.control; own = runs t.own }) in
        cancelled_on_within (call_of id c).owner (call_of id c).at n (cancels id (on_task n f c)) (cancels_within id (on_task n f c) (on_task_within n f c (λ t h. runs_fit t.own h) w))

    -- Abort.

    withdraws_from_fits : (o : Owner) (own : Own) → Fits own → Fits (effect.withdraws_from go plan barrier o own)
    withdraws_from_fits (owner.Task m) own h = h
    withdraws_from_fits (owner.Object object) own h = h

    loses_call_within : (n : ℕ) (ids : List ℕ) (c : All C) → Within c → Within (effect.loses_call go plan barrier n ids c)
    loses_call_within n [] c w = w
    loses_call_within n (id ∷ ids) c w =
        let o : Owner = (call_of id c).owner in
        let d : All C = on_own n (effect.withdraws_from go plan barrier o) c in
        loses_call_within n ids (cancels id d) (cancels_within id d (on_own_within n (effect.withdraws_from go plan barrier o) c (λ own h. withdraws_from_fits o own h) w))

    each_within : (f : ℕ → All C → All C) → ((n : ℕ) (c : All C) → Within c → Within (f n c)) → (ns : List ℕ) (c : All C) → Within c → Within (effect.each go plan barrier f ns c)
    each_within f g [] c w = w
    each_within f g (n ∷ ns) c w = each_within f g ns (f n c) (g n c w)

    aborted_within : (hit : List ℕ) (c : All C) → Within c → Within (effect.aborted go plan barrier hit c)
    aborted_within hit c w =
        let f : ℕ → All C → All C = (λ n d. on_own n (λ own. record own { abnormal = true }) d) in
        let g : ℕ → All C → All C = (λ n d. effect.loses_call go plan barrier n (effect.own_calls go plan barrier n d.shared.calls) d) in
        let c1 : All C = effect.each go plan barrier f hit c in
        let c2 : All C = effect.each go plan barrier g hit c1 in
        let c3 : All C = effect.each go plan barrier (effect.refuse_queues go plan barrier) hit c2 in
        each_within (effect.terminates_created go plan barrier) (λ n d v. either (is_created (own_of n d).status) (effect.terminate go plan barrier n d) d (terminate_within n d v) v) hit c3
        (each_within (effect.refuse_queues go plan barrier) refuse_queues_within hit c2
        (each_within g (λ n d v. loses_call_within n (effect.own_calls go plan barrier n d.shared.calls) d v) hit c1
        (each_within f (λ n d v. on_own_within n (λ own. record own { abnormal = true }) d (λ own h. h) v) hit c w)))

    pub aborts_within : (named : List ℕ) (at : Pos) (n : ℕ) (c : All C) → Within c → Within (effect.aborts go plan barrier named at n c)
    aborts_within named at n c w =
        either (in_action n c) _ _ (raised_at_within Program at n c w)
        (aborted_within (effect.hit_from go plan barrier named (effect.bodies_of go plan barrier named c) 0 c.tasks) (on_control n (go.takes 0) c) (on_control_within n (go.takes 0) c w))

    pub withdraws_within : (object n : ℕ) (c : All C) → Within c → Within (effect.withdraws go plan barrier object n c)
    withdraws_within object n c w =
        let d : All C = on_own n (λ own. record own { withdraw = None }) c in
        serviced_within object (own_of n c).at n (begin_action n object false d)
        (begin_action_within n object false d (on_own_within n (λ own. record own { withdraw = None }) c (λ own h. h) w))

    -- Leaving.

    at_end_by_within : (alternative : Option ℕ) (purpose : Purpose) (p : Option Pending) (o : Opened) (n : ℕ) (c : All C) → (AtStart → GoesBack purpose) → Within c → Within (effect.at_end_by go plan barrier alternative purpose p o n c)
    at_end_by_within alternative for_body p o n c back w = completes_within (exception_of p) n c w
    at_end_by_within alternative for_block p o n c back w = at_block_end_within p o n (on_own n out_of_loops c) (on_own_within n out_of_loops c (λ own h. out_of_loops_fits own h) w)
    at_end_by_within alternative for_loop p o n c back w = w
    at_end_by_within alternative (for_procedure r) p o n c back w = at_procedure_end_within p r o n (on_own n out_of_loops c) (on_own_within n out_of_loops c (λ own h. out_of_loops_fits own h) w)
    at_end_by_within alternative (for_operation object r) p o n c back w = at_operation_end_within p object r o n (on_own n out_of_loops c) (on_own_within n out_of_loops c (λ own h. out_of_loops_fits own h) w)
    at_end_by_within alternative (for_entry object id served resumed) p o n c back w = at_entry_end_within p object id resumed o n (on_own n out_of_loops c) back (on_own_within n out_of_loops c (λ own h. out_of_loops_fits own h) w)
    at_end_by_within alternative (for_accept id) p o n c back w = at_accept_end_within alternative p id o n (on_own n out_of_loops c) (on_own_within n out_of_loops c (λ own h. out_of_loops_fits own h) w)

    at_end_of_within : (alternative : Option ℕ) (os : List Opened) (p : Option Pending) (n : ℕ) (c : All C) → (AtStart → AllGoBack os) → Within c → Within (effect.at_end_of go plan barrier alternative os p n c)
    at_end_of_within alternative [] p n c back w = w
    at_end_of_within alternative (o ∷ os) p n c back w = at_end_by_within alternative o.purpose p o n c (λ i. (back i).0) w

    at_end_within : (alternative : Option ℕ) (p : Option Pending) (n : ℕ) (c : All C) → Within c → Within (effect.at_end go plan barrier alternative p n c)
    at_end_within alternative p n c w = at_end_of_within alternative (out_of_loops (own_of n c)).opened p n c (λ i. (out_of_loops_fits (own_of n c) (nth_fits n c.tasks (w.within i).frames)).1) w

    pub leaves_within : (alternative : Option ℕ) (p : Option Pending) (to : C → C) (n : ℕ) (c : All C) → Within c → Within (step.leaves go plan barrier alternative p to n c)
    leaves_within alternative p to n c w =
        let f : TaskAt C → TaskAt C = (λ t. record t { control = to t.control; own = record t.own { pending = None } }) in
        at_end_within alternative p n (on_task n f c) (on_task_within n f c (λ t h. h) w)

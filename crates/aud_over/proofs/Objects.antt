-- What a step does to all tasks keeps programs the same but for what nothing names: protected objects, abort, the ends of constructs.
use Rattle.std.proofs.Common.{◌≡◌, ℕ, suc, ℤ, List, [], ◌∷◌, slice_index_or, Option, Some, None, Bool, true, false, refl, sym, ap, ◌∙◌, subst}
use Rattle.std.specs.Prelude.{if◌then◌else◌, nat_eq, Result, Ok, Err, ◌&&◌, not}
use Rattle.aud_text.specs.declared.place.Pos.{Pos}
use Rattle.aud_text.specs.declared.raise.Raise.{Raise}
use Rattle.aud_text.specs.declared.raise.Raise.TheVariants.{Program, Storage}
use Rattle.aud_typed.specs.declared.program.Exception.TheVariants.{Predefined}
use Rattle.aud_typed.specs.Tree.{Plan}
use Rattle.aud_meaning.specs.Orders.{noted}
use Rattle.aud_meaning.specs.declared.state.Status.TheVariants.{Running}
use Rattle.aud_meaning.specs.declared.state.CallState.TheVariants.{Selected}
use Rattle.aud_meaning.specs.declared.state.Owner.{Owner}
use Rattle.aud_meaning.specs.declared.state.Owner.TheVariants as owner
use Rattle.aud_meaning.specs.declared.state.Pending.{Pending}
use Rattle.aud_meaning.specs.declared.state.Resumed.{Resumed}
use Rattle.aud_meaning.specs.declared.state.Serving.{Serving}
use Rattle.aud_meaning.specs.Configuration.{Frame, Target, Returning, Purpose, for_body, for_block, for_loop, for_procedure, for_operation, for_entry, for_accept, Opened, Own, Call, TaskAt, All}
use Rattle.aud_meaning.specs.Evaluation.{Sight, Passed}
use Rattle.aud_meaning.specs.Control.{Moved, takes_part, enters_body}
use Rattle.aud_meaning.specs.Effects.{closed, out_of_loops, has_room, outermost}
use Rattle.aud_meaning.specs.Parts.{fails, Waiting, acts_on, arrives, begin_action, call_number, call_of, calls_on_object, cancels, end_action, entry_plan, exception_of, in_action, is_created, is_object, object_of, on_call, on_control, on_own, on_task, own_of, queue, raised_at, runs, unit_of, facts_of, owns, succeeds, numbers, is_queued}
use Rattle.aud_meaning.specs.Tasks as effect
use Rattle.aud_over.specs.Over.{with_kept}
use Rattle.aud_over.proofs.Calls.{EachOf, EachWaiting, numbers_same, numbers_kept, queue_same, queue_kept}
use Rattle.aud_over.proofs.Beside.{Kept, KeepsPurpose, NamesAll, Names, MayHave, Beside, beside, at_kept, if_beside, own_names, object_names, sees_same, facts_same, task_kept, own_kept, control_kept, call_kept}
use Rattle.aud_over.proofs.Effects.{names_closed, names_out_of_loops}
use Rattle.aud_over.proofs.Tasks.{raised_kept, cancels_kept, arrives_kept, call_same, begin_kept, end_kept, end_call_kept, refuse_kept, refuse_queues_kept, refuse_object_kept, terminate_kept, opens_for_kept, completes_kept}
use Rattle.aud_over.proofs.Constructs.{BarrierLooks, returned_or_kept, closed_kept, block_end_kept, procedure_end_kept, accept_end_kept, made_at, made_kept, at_number, present_same}
use Rattle.aud_meaning.specs.declared.state.Again.{Again}
use Rattle.aud_meaning.specs.declared.state.Restart.{Restart}
use Rattle.std.proofs.Math.Path.{fun_ext}

-- Barriers.

module _ {C : Type 0} (p : Kept) (plan : Plan) (barrier : ℕ → Sight → Result Bool Raise) (through : BarrierLooks barrier) where
  pub barrier_same : (object entry : ℕ) (c : All C) (fs : List Frame) (cs : List Call) → MayHave p c fs cs → effect.barrier_of plan barrier object entry c ≡ effect.barrier_of plan barrier object entry (with_kept fs cs c)
  barrier_same object entry c fs cs m =
      let s : Sight = record { display = (object_of object c).display; frames = c.shared.frames; facts = facts_of c } in
      through entry s fs (sees_same p s fs m.frames (object_names p c.shared.objects object m.objects))
      ∙ ap (λ f. barrier entry (record { display = (object_of object c).display; frames = fs; facts = f })) (facts_same p (owns c.tasks) c.shared.calls cs m.calls)

  abbrev rest_of : ℕ → List ℕ → ℕ → All C → List Waiting → Result (List ℕ) Raise → Result (List ℕ) Raise
  rest_of index entries entry c ws rest = rest

  eligible_from_same : (index : ℕ) (entries : List ℕ) (object : ℕ) (c : All C) (fs : List Frame) (cs : List Call) → MayHave p c fs cs → effect.eligible_from plan barrier index entries object c ≡ effect.eligible_from plan barrier index entries object (with_kept fs cs c)
  eligible_from_same index [] object c fs cs m = refl
  eligible_from_same index (entry ∷ entries) object c fs cs m =
      one (queue object entry c.shared.calls) refl (queue_same p.kept object entry c.shared.calls cs m.calls) (eligible_from_same (suc index) entries object c fs cs m)
    where
      one : (q : List Waiting) → queue object entry c.shared.calls ≡ q → queue object entry c.shared.calls ≡ queue object entry cs → effect.eligible_from plan barrier (suc index) entries object c ≡ effect.eligible_from plan barrier (suc index) entries object (with_kept fs cs c) → effect.eligible_from plan barrier index (entry ∷ entries) object c ≡ effect.eligible_from plan barrier index (entry ∷ entries) object (with_kept fs cs c)
      one [] is same rest = rw (is, sym same ∙ is) rest
      one (w ∷ ws) is same rest = rw (is, sym same ∙ is)
          (ap (λ x. effect.more_eligible x index (effect.eligible_from plan barrier (suc index) entries object c)) (barrier_same object entry c fs cs m)
          ∙ ap (effect.more_eligible (effect.barrier_of plan barrier object entry (with_kept fs cs c)) index) rest)

  pub eligible_same : (object : ℕ) (c : All C) (fs : List Frame) (cs : List Call) → MayHave p c fs cs → effect.eligible plan barrier object c ≡ effect.eligible plan barrier object (with_kept fs cs c)
  eligible_same object c fs cs m = eligible_from_same 1 (effect.entries_of plan barrier object c) object c fs cs m

module _ (p : Kept) (plan : Plan) (barrier : ℕ → Sight → Result Bool Raise) (through : BarrierLooks barrier) where
  serviced_by_kept : (ones : Result (List ℕ) Raise) (object : ℕ) (at : Pos) (n : ℕ) (c d : All Moved) → Beside p c d → Beside p (effect.serviced_by noted plan barrier ones object at n c) (effect.serviced_by noted plan barrier ones object at n d)
  serviced_by_kept (Err raise) object at n c d r =
      end_kept p n object (effect.refuse noted plan barrier Program (calls_on_object object c.shared.calls) c) (effect.refuse noted plan barrier Program (calls_on_object object d.shared.calls) d) (refuse_object_kept p plan barrier object c d r)
  serviced_by_kept (Ok []) object at n c d r = end_kept p n object c d r
  serviced_by_kept (Ok (x ∷ xs)) object at n c d r = own_kept p n (λ own. record own { serving = Some (record { object = object; at = at }) }) c d (λ o h. h) r

  pub serviced_kept : (object : ℕ) (at : Pos) (n : ℕ) (c d : All Moved) → Beside p c d → Beside p (effect.serviced noted plan barrier object at n c) (effect.serviced noted plan barrier object at n d)
  serviced_kept object at n c d r = at_kept p (effect.serviced noted plan barrier object at n) c d r (λ fs cs m.
      let e : All Moved = with_kept fs cs c in
      let ones = effect.eligible plan barrier object c in
      subst (λ x. Beside p (effect.serviced_by noted plan barrier ones object at n c) (effect.serviced_by noted plan barrier x object at n e)) (eligible_same p plan barrier through object c fs cs m)
      (serviced_by_kept ones object at n c e (beside p c fs cs m)))

  -- Entry bodies.

  abbrev entered_by : Call → Bool → Pos → ℕ → ℕ → ℕ → All Moved → All Moved
  entered_by call served at object id n c =
      let unit = (entry_plan plan call.entry).unit in
      let own = own_of n c in
      on_call id (λ a. record a { state = Selected })
      (effect.opens_for noted plan barrier (for_entry object id served (record { status = own.status; pending = own.pending })) unit at (object_of object c).display call.values n
      (on_task n (λ t. record { control = enters_body unit t.control; own = record t.own { status = Running; pending = None; serving = None } }) c))

  entered_kept : (call : Call) (served : Bool) (at : Pos) (object id n : ℕ) (c d : All Moved) → p.kept id → Beside p c d → Beside p (entered_by call served at object id n c) (entered_by call served at object id n d)
  entered_kept call served at object id n c d k r = at_kept p (entered_by call served at object id n) c d r (λ fs cs m.
      let e : All Moved = with_kept fs cs c in
      let unit = (entry_plan plan call.entry).unit in
      let own = own_of n c in
      let f : TaskAt Moved → TaskAt Moved = λ t. record { control = enters_body unit t.control; own = record t.own { status = Running; pending = None; serving = None } } in
      let purpose : Purpose = for_entry object id served (record { status = own.status; pending = own.pending }) in
      let g = λ (x : All Moved). effect.opens_for noted plan barrier purpose unit at (object_of object c).display call.values n (on_task n f x) in
      call_kept p id (λ a. record a { state = Selected }) (g c) (g e) k
      (opens_for_kept p plan barrier purpose unit at (object_of object c).display call.values n (on_task n f c) (on_task n f e) (object_names p c.shared.objects object m.objects) k
      (task_kept p n f c e (λ t h. h) (beside p c fs cs m))))

  pub enters_entry_kept : (served : Bool) (at : Pos) (object id n : ℕ) (c d : All Moved) → p.kept id → Beside p c d → Beside p (effect.enters_entry noted plan barrier served at object id n c) (effect.enters_entry noted plan barrier served at object id n d)
  enters_entry_kept served at object id n c d k r = at_kept p (effect.enters_entry noted plan barrier served at object id n) c d r (λ fs cs m.
      let e : All Moved = with_kept fs cs c in
      subst (λ call. Beside p (effect.enters_entry noted plan barrier served at object id n c) (entered_by call served at object id n e)) (call_same p id c fs cs m k)
      (entered_kept (call_of id c) served at object id n c e k (beside p c fs cs m)))

  abbrev waits_or_not : Bool → Pos → ℕ → ℕ → ℕ → All Moved → All Moved
  waits_or_not conditional at object id n c =
      if conditional
      then end_action n object (cancels id (on_task n (λ t. record { control = takes_part 1 t.control; own = runs t.own }) c))
      else effect.serviced noted plan barrier object at n (arrives id c)

  waits_kept : (conditional : Bool) (at : Pos) (object id n : ℕ) (c d : All Moved) → p.kept id → Beside p c d → Beside p (waits_or_not conditional at object id n c) (waits_or_not conditional at object id n d)
  waits_kept true at object id n c d k r =
      let f = λ (x : All Moved). on_task n (λ t. record { control = takes_part 1 t.control; own = runs t.own }) x in
      end_kept p n object (cancels id (f c)) (cancels id (f d)) (cancels_kept p id (f c) (f d) k (task_kept p n (λ t. record { control = takes_part 1 t.control; own = runs t.own }) c d (λ t h. h) r))
  waits_kept false at object id n c d k r = serviced_kept object at n (arrives id c) (arrives id d) (arrives_kept p id c d k r)

  barrier_met_kept : (met : Result Bool Raise) (at : Pos) (object id n : ℕ) (c d : All Moved) → p.kept id → Beside p c d → Beside p (effect.barrier_met noted plan barrier met at object id n c) (effect.barrier_met noted plan barrier met at object id n d)
  barrier_met_kept (Err raise) at object id n c d k r = at_kept p (effect.barrier_met noted plan barrier (Err raise) at object id n) c d r (λ fs cs m.
      let e : All Moved = with_kept fs cs c in
      let f = effect.end_call noted plan barrier (fails (Predefined Program)) id in
      let ids = calls_on_object object c.shared.calls in
      let passes : Call → Bool = λ a. is_object object a.owner in
      end_kept p n object (effect.refuse noted plan barrier Program ids (f c)) (effect.refuse noted plan barrier Program (calls_on_object object cs) (f e))
      (subst (λ ns. Beside p (effect.refuse noted plan barrier Program ids (f c)) (effect.refuse noted plan barrier Program ns (f e))) (numbers_same p.kept passes 0 c.shared.calls cs m.calls)
      (refuse_kept p plan barrier Program ids (f c) (f e) (numbers_kept p.kept passes 0 c.shared.calls cs m.calls)
      (end_call_kept p plan barrier (fails (Predefined Program)) id c e k (beside p c fs cs m)))))
  barrier_met_kept (Ok true) at object id n c d k r = enters_entry_kept false at object id n c d k r
  barrier_met_kept (Ok false) at object id n c d k r = at_kept p (effect.barrier_met noted plan barrier (Ok false) at object id n) c d r (λ fs cs m.
      let e : All Moved = with_kept fs cs c in
      subst (λ call. Beside p (effect.barrier_met noted plan barrier (Ok false) at object id n c) (waits_or_not (effect.is_conditional noted plan barrier call.form) at object id n e)) (call_same p id c fs cs m k)
      (waits_kept (effect.is_conditional noted plan barrier (call_of id c).form) at object id n c e k (beside p c fs cs m)))

  -- the task has the action
  abbrev begun_at : Call → ℕ → ℕ → ℕ → All Moved → All Moved
  begun_at call object n id c = begin_action n object false (made_at p plan barrier id call c)

  abbrev barrier_asked : Result Bool Raise → Call → ℕ → ℕ → All Moved → All Moved
  barrier_asked met call object id c = effect.barrier_met noted plan barrier met call.at object id call.caller (begun_at call object call.caller id c)

  pub calls_object_kept : (call : Call) (object : ℕ) (c d : All Moved) → Beside p c d → Beside p (effect.calls_object noted plan barrier call object c) (effect.calls_object noted plan barrier call object d)
  calls_object_kept call object c d r = at_kept p (effect.calls_object noted plan barrier call object) c d r (λ fs cs m.
      let e : All Moved = with_kept fs cs c in
      let s : Beside p c e = beside p c fs cs m in
      let n = call.caller in
      let met = effect.barrier_of plan barrier object call.entry c in
      let other = effect.barrier_of plan barrier object call.entry e in
      let asked : Beside p (barrier_asked met call object (call_number c) c) (barrier_asked other call object (call_number e) e) =
      subst (λ x. Beside p (barrier_asked met call object (call_number c) c) (barrier_asked x call object (call_number e) e)) (barrier_same p plan barrier through object call.entry c fs cs m)
      (at_number p plan barrier (barrier_asked met call object) c e
      (λ id x y k h. barrier_met_kept met call.at object id n (begun_at call object n id x) (begun_at call object n id y) k
      (begin_kept p n object false (made_at p plan barrier id call x) (made_at p plan barrier id call y) (made_kept p plan barrier id call x y h))) s) in
      if_beside p (in_action n c) (raised_at Program call.at n c) (if has_room (own_of n c) then barrier_asked met call object (call_number c) c else raised_at Storage call.at n c)
      (raised_at Program call.at n e) (if has_room (own_of n c) then barrier_asked other call object (call_number e) e else raised_at Storage call.at n e)
      (raised_kept p Program call.at n c e s)
      (if_beside p (has_room (own_of n c)) (barrier_asked met call object (call_number c) c) (raised_at Storage call.at n c) (barrier_asked other call object (call_number e) e) (raised_at Storage call.at n e)
      asked (raised_kept p Storage call.at n c e s)))

  pub calls_operation_kept : (at : Pos) (object unit : ℕ) (passed : Passed) (into : Option Target) (n : ℕ) (c d : All Moved) → Beside p c d → Beside p (effect.calls_operation noted plan barrier at object unit passed into n c) (effect.calls_operation noted plan barrier at object unit passed into n d)
  calls_operation_kept at object unit passed into n c d r = at_kept p (effect.calls_operation noted plan barrier at object unit passed into n) c d r (λ fs cs m.
      let e : All Moved = with_kept fs cs c in
      let s : Beside p c e = beside p c fs cs m in
      let u = unit_of plan unit in
      let purpose : Purpose = for_operation object (record { is_function = u.is_function; backs = passed.backs; into = into; value = None }) in
      let g = λ (x : All Moved). effect.opens_for noted plan barrier purpose unit at (object_of object c).display passed.values n (on_control n (enters_body unit) x) in
      let f = λ (x : All Moved). begin_action n object u.is_function (g x) in
      if_beside p (acts_on n (object_of object c)) (raised_at Program at n c) (if has_room (own_of n c) then f c else raised_at Storage at n c)
      (raised_at Program at n e) (if has_room (own_of n c) then f e else raised_at Storage at n e)
      (raised_kept p Program at n c e s)
      (if_beside p (has_room (own_of n c)) (f c) (raised_at Storage at n c) (f e) (raised_at Storage at n e)
      (begin_kept p n object u.is_function (g c) (g e)
      (opens_for_kept p plan barrier purpose unit at (object_of object c).display passed.values n (on_control n (enters_body unit) c) (on_control n (enters_body unit) e)
      (object_names p c.shared.objects object m.objects) tt (control_kept p n (enters_body unit) c e s)))
      (raised_kept p Storage at n c e s)))

  operation_end_kept : (pending : Option Pending) (object : ℕ) (r : Returning) (o : Opened) (n : ℕ) (c d : All Moved) → p.named o.frame → Beside p c d → Beside p (effect.at_operation_end noted plan barrier pending object r o n c) (effect.at_operation_end noted plan barrier pending object r o n d)
  operation_end_kept pending object r o n c d f b =
      let x : All Moved = effect.returned_or noted plan barrier pending r o.frame o.at n (on_own n closed c) in
      let y : All Moved = effect.returned_or noted plan barrier pending r o.frame o.at n (on_own n closed d) in
      let h : Beside p x y = returned_or_kept p plan barrier pending r o.frame o.at n (on_own n closed c) (on_own n closed d) f (closed_kept p plan barrier n c d b) in
      if_beside p r.is_function (end_action n object x) (effect.serviced noted plan barrier object o.at n x) (end_action n object y) (effect.serviced noted plan barrier object o.at n y)
      (end_kept p n object x y h) (serviced_kept object o.at n x y h)

  again_with : Call → ℕ → ℕ → All Moved → All Moved
  again_with call object id c = if effect.is_lost noted plan barrier call c then cancels id c else arrives id (on_call id (effect.called_of noted plan barrier (owner.Object object)) c)

  queued_again_kept : (object id : ℕ) (c d : All Moved) → p.kept id → Beside p c d → Beside p (effect.queued_again noted plan barrier object id c) (effect.queued_again noted plan barrier object id d)
  queued_again_kept object id c d k r = at_kept p (effect.queued_again noted plan barrier object id) c d r (λ fs cs m.
      let e : All Moved = with_kept fs cs c in
      let s : Beside p c e = beside p c fs cs m in
      let call = call_of id c in
      let f = effect.called_of noted plan barrier (owner.Object object) in
      subst (λ a. Beside p (effect.queued_again noted plan barrier object id c) (if effect.is_lost noted plan barrier a e then cancels id e else arrives id (on_call id f e))) (call_same p id c fs cs m k)
      (if_beside p (effect.is_lost noted plan barrier call c) (cancels id c) (arrives id (on_call id f c)) (cancels id e) (arrives id (on_call id f e))
      (cancels_kept p id c e k s) (arrives_kept p id (on_call id f c) (on_call id f e) k (call_kept p id f c e k s))))

  entry_ended_kept : (pending : Option Pending) (o : Option Again) (values : List ℤ) (object id : ℕ) (c d : All Moved) → p.kept id → Beside p c d → Beside p (effect.entry_ended noted plan barrier pending o values object id c) (effect.entry_ended noted plan barrier pending o values object id d)
  entry_ended_kept (Some x) o values object id c d k r = end_call_kept p plan barrier (fails x.exception) id c d k r
  entry_ended_kept None None values object id c d k r = end_call_kept p plan barrier (succeeds values) id c d k r
  entry_ended_kept None (Some x) values object id c d k r =
      let f = effect.retargeted noted plan barrier x values in
      queued_again_kept object id (on_call id f c) (on_call id f d) k (call_kept p id f c d k r)

  entry_end_kept : (pending : Option Pending) (object id : ℕ) (back : Resumed) (o : Opened) (n : ℕ) (c d : All Moved) → p.named o.frame → p.kept id → Beside p c d → Beside p (effect.at_entry_end noted plan barrier pending object id back o n c) (effect.at_entry_end noted plan barrier pending object id back o n d)
  entry_end_kept pending object id back o n c d f k r = at_kept p (effect.at_entry_end noted plan barrier pending object id back o n) c d r (λ fs cs m.
      let e : All Moved = with_kept fs cs c in
      let g : Own → Own = λ own. record (closed own) { status = back.status; pending = back.pending; again = None } in
      let values = effect.present_values noted plan barrier id o.frame c in
      let others = effect.present_values noted plan barrier id o.frame e in
      let again = (own_of n c).again in
      let ends = λ (vs : List ℤ) (x : All Moved). effect.entry_ended noted plan barrier pending again vs object id (on_own n g x) in
      serviced_kept object o.at n (ends values c) (ends others e)
      (subst (λ vs. Beside p (ends values c) (ends vs e)) (present_same p plan barrier o.frame id c fs cs m f k)
      (entry_ended_kept pending again values object id (on_own n g c) (on_own n g e) k
      (own_kept p n g c e (λ own h. names_closed p own h) (beside p c fs cs m)))))

  -- The step start of a call that is made again.

  abbrev restarted : Result Bool Raise → Call → Restart → ℕ → All Moved → All Moved
  restarted met call x n c =
      let d = on_own n (λ own. record own { restart = None }) c in
      if effect.is_lost noted plan barrier call c then cancels x.call d
      else effect.barrier_met noted plan barrier met x.at x.object x.call n (begin_action n x.object false (on_call x.call (effect.called_of noted plan barrier (owner.Object x.object)) d))

  restarted_kept : (met : Result Bool Raise) (call : Call) (x : Restart) (n : ℕ) (c d : All Moved) → p.kept x.call → Beside p c d → Beside p (restarted met call x n c) (restarted met call x n d)
  restarted_kept met call x n c d k r = at_kept p (restarted met call x n) c d r (λ fs cs m.
      let e : All Moved = with_kept fs cs c in
      let f : Own → Own = λ own. record own { restart = None } in
      let g = effect.called_of noted plan barrier (owner.Object x.object) in
      let s : Beside p (on_own n f c) (on_own n f e) = own_kept p n f c e (λ o h. (h.0, h.1, tt)) (beside p c fs cs m) in
      let h = λ (y : All Moved). begin_action n x.object false (on_call x.call g (on_own n f y)) in
      if_beside p (effect.is_lost noted plan barrier call c) (cancels x.call (on_own n f c)) (effect.barrier_met noted plan barrier met x.at x.object x.call n (h c))
      (cancels x.call (on_own n f e)) (effect.barrier_met noted plan barrier met x.at x.object x.call n (h e))
      (cancels_kept p x.call (on_own n f c) (on_own n f e) k s)
      (barrier_met_kept met x.at x.object x.call n (h c) (h e) k
      (begin_kept p n x.object false (on_call x.call g (on_own n f c)) (on_call x.call g (on_own n f e)) (call_kept p x.call g (on_own n f c) (on_own n f e) k s))))

  pub starts_again_kept : (x : Restart) (n : ℕ) (c d : All Moved) → p.kept x.call → Beside p c d → Beside p (effect.starts_again noted plan barrier x n c) (effect.starts_again noted plan barrier x n d)
  starts_again_kept x n c d k r = at_kept p (effect.starts_again noted plan barrier x n) c d r (λ fs cs m.
      let e : All Moved = with_kept fs cs c in
      let call = call_of x.call c in
      let start = effect.starts_again noted plan barrier x n c in
      subst (λ a. Beside p start (restarted (effect.barrier_of plan barrier x.object a.entry e) a x n e)) (call_same p x.call c fs cs m k)
      (subst (λ met. Beside p start (restarted met call x n e)) (barrier_same p plan barrier through x.object call.entry c fs cs m)
      (restarted_kept (effect.barrier_of plan barrier x.object call.entry c) call x n c e k (beside p c fs cs m))))

  -- The step serve.

  served_kept : (s : Serving) (n : ℕ) (c d : All Moved) (ws : List Waiting) → EachWaiting p.kept ws → Beside p c d → Beside p (effect.serves_oldest noted plan barrier ws s n c) (effect.serves_oldest noted plan barrier ws s n d)
  served_kept s n c d [] k r = r
  served_kept s n c d (w ∷ ws) k r = enters_entry_kept true s.at s.object w.call n c d k.0 r

  pub serves_kept : (alternative : Option ℕ) (s : Serving) (n : ℕ) (c d : All Moved) → Beside p c d → Beside p (effect.serves noted plan barrier alternative s n c) (effect.serves noted plan barrier alternative s n d)
  serves_kept None s n c d r = serviced_kept s.object s.at n c d r
  serves_kept (Some index) s n c d r = at_kept p (effect.serves noted plan barrier (Some index) s n) c d r (λ fs cs m.
      let e : All Moved = with_kept fs cs c in
      let entry = slice_index_or (0 ∷ effect.entries_of plan barrier s.object c) index 0 in
      let ws = queue s.object entry c.shared.calls in
      subst (λ q. Beside p (effect.serves_oldest noted plan barrier ws s n c) (effect.serves_oldest noted plan barrier q s n e)) (queue_same p.kept s.object entry c.shared.calls cs m.calls)
      (served_kept s n c e ws (queue_kept p.kept s.object entry c.shared.calls cs m.calls) (beside p c fs cs m)))

  -- A timed call is cancelled.

  cancelled_kept : (o : Owner) (at : Pos) (n : ℕ) (c d : All Moved) → Beside p c d → Beside p (effect.cancelled_on noted plan barrier o at n c) (effect.cancelled_on noted plan barrier o at n d)
  cancelled_kept (owner.Task m) at n c d r = r
  cancelled_kept (owner.Object object) at n c d r = serviced_kept object at n (begin_action n object false c) (begin_action n object false d) (begin_kept p n object false c d r)

  abbrev expired_with : Call → ℕ → ℕ → All Moved → All Moved
  expired_with call id n c =
      effect.cancelled_on noted plan barrier call.owner call.at n (cancels id (on_task n (λ t. record { control = takes_part 1 t.control; own = runs t.own }) c))

  pub call_expires_kept : (n : ℕ) (c d : All Moved) → p.kept (own_of n c).call → Beside p c d → Beside p (effect.call_expires noted plan barrier n c) (effect.call_expires noted plan barrier n d)
  call_expires_kept n c d k r = at_kept p (effect.call_expires noted plan barrier n) c d r (λ fs cs m.
      let e : All Moved = with_kept fs cs c in
      let id = (own_of n c).call in
      let call = call_of id c in
      let f = λ (x : All Moved). on_task n (λ t. record { control = takes_part 1 t.control; own = runs t.own }) x in
      subst (λ a. Beside p (expired_with call id n c) (expired_with a id n e)) (call_same p id c fs cs m k)
      (cancelled_kept call.owner call.at n (cancels id (f c)) (cancels id (f e))
      (cancels_kept p id (f c) (f e) k (task_kept p n (λ t. record { control = takes_part 1 t.control; own = runs t.own }) c e (λ t h. h) (beside p c fs cs m)))))

  -- Abort.

  abbrev loses_with : Call → ℕ → ℕ → All Moved → All Moved
  loses_with call n id c = cancels id (on_own n (effect.withdraws_from noted plan barrier call.owner) c)

  withdraws_names : (o : Owner) (own : Own) → Names p own → Names p (effect.withdraws_from noted plan barrier o own)
  withdraws_names (owner.Task m) own h = h
  withdraws_names (owner.Object object) own h = h

  loses_one : (n id : ℕ) (c d : All Moved) → p.kept id → Beside p c d → Beside p (loses_with (call_of id c) n id c) (loses_with (call_of id d) n id d)
  loses_one n id c d k r = at_kept p (λ x. loses_with (call_of id x) n id x) c d r (λ fs cs m.
      let e : All Moved = with_kept fs cs c in
      let call = call_of id c in
      let f = effect.withdraws_from noted plan barrier call.owner in
      subst (λ a. Beside p (loses_with call n id c) (loses_with a n id e)) (call_same p id c fs cs m k)
      (cancels_kept p id (on_own n f c) (on_own n f e) k (own_kept p n f c e (withdraws_names call.owner) (beside p c fs cs m))))

  loses_kept : (n : ℕ) (ids : List ℕ) (c d : All Moved) → EachOf p.kept ids → Beside p c d → Beside p (effect.loses_call noted plan barrier n ids c) (effect.loses_call noted plan barrier n ids d)
  loses_kept n [] c d k r = r
  loses_kept n (id ∷ ids) c d k r = loses_kept n ids (loses_with (call_of id c) n id c) (loses_with (call_of id d) n id d) k.1 (loses_one n id c d k.0 r)

  and_assoc : (x y z : Bool) → ((x && y) && z) ≡ (x && (y && z))
  and_assoc true y z = refl
  and_assoc false y z = refl

  own_lost : (n : ℕ) (c d : All Moved) → Beside p c d → Beside p (effect.loses_call noted plan barrier n (effect.own_calls noted plan barrier n c.shared.calls) c) (effect.loses_call noted plan barrier n (effect.own_calls noted plan barrier n d.shared.calls) d)
  own_lost n c d r = at_kept p (λ x. effect.loses_call noted plan barrier n (effect.own_calls noted plan barrier n x.shared.calls) x) c d r (λ fs cs m.
      let e : All Moved = with_kept fs cs c in
      let passes : Call → Bool = λ a. nat_eq a.caller n && not a.stays in
      let same : (xs : List Call) → effect.own_calls noted plan barrier n xs ≡ numbers (λ (a : Call). is_queued a.state && passes a) 0 xs = λ xs. ap (λ (f : Call → Bool). numbers f 0 xs) (fun_ext (λ (a : Call). and_assoc (is_queued a.state) (nat_eq a.caller n) (not a.stays))) in
      let ids = effect.own_calls noted plan barrier n c.shared.calls in
      subst (λ ns. Beside p (effect.loses_call noted plan barrier n ids c) (effect.loses_call noted plan barrier n ns e)) (same c.shared.calls ∙ numbers_same p.kept passes 0 c.shared.calls cs m.calls ∙ sym (same cs))
      (loses_kept n ids c e (subst (EachOf p.kept) (sym (same c.shared.calls)) (numbers_kept p.kept passes 0 c.shared.calls cs m.calls)) (beside p c fs cs m)))

  each_kept : (f : ℕ → All Moved → All Moved) (ns : List ℕ) (c d : All Moved) → ((n : ℕ) (x y : All Moved) → Beside p x y → Beside p (f n x) (f n y)) → Beside p c d → Beside p (effect.each noted plan barrier f ns c) (effect.each noted plan barrier f ns d)
  each_kept f [] c d keeps r = r
  each_kept f (n ∷ ns) c d keeps r = each_kept f ns (f n c) (f n d) keeps (keeps n c d r)

  created_ended : (n : ℕ) (c d : All Moved) → Beside p c d → Beside p (effect.terminates_created noted plan barrier n c) (effect.terminates_created noted plan barrier n d)
  created_ended n c d r = at_kept p (effect.terminates_created noted plan barrier n) c d r (λ fs cs m.
      let e : All Moved = with_kept fs cs c in
      let s : Beside p c e = beside p c fs cs m in
      if_beside p (is_created (own_of n c).status) (effect.terminate noted plan barrier n c) c (effect.terminate noted plan barrier n e) e (terminate_kept p plan barrier n c e s) s)

  aborted_kept : (hit : List ℕ) (c d : All Moved) → Beside p c d → Beside p (effect.aborted noted plan barrier hit c) (effect.aborted noted plan barrier hit d)
  aborted_kept hit c d r =
      let f1 = λ (n : ℕ) (x : All Moved). on_own n (λ own. record own { abnormal = true }) x in
      let f2 = λ (n : ℕ) (x : All Moved). effect.loses_call noted plan barrier n (effect.own_calls noted plan barrier n x.shared.calls) x in
      let c1 = effect.each noted plan barrier f1 hit c in
      let d1 = effect.each noted plan barrier f1 hit d in
      let c2 = effect.each noted plan barrier f2 hit c1 in
      let d2 = effect.each noted plan barrier f2 hit d1 in
      let c3 = effect.each noted plan barrier (effect.refuse_queues noted plan barrier) hit c2 in
      let d3 = effect.each noted plan barrier (effect.refuse_queues noted plan barrier) hit d2 in
      each_kept (effect.terminates_created noted plan barrier) hit c3 d3 created_ended
      (each_kept (effect.refuse_queues noted plan barrier) hit c2 d2 (refuse_queues_kept p plan barrier)
      (each_kept f2 hit c1 d1 own_lost
      (each_kept f1 hit c d (λ n x y h. own_kept p n (λ own. record own { abnormal = true }) x y (λ o g. g) h) r)))

  abbrev body_first : List Opened → List ℕ → List ℕ
  body_first [] rest = rest
  body_first (o ∷ os) rest = outermost (o ∷ os) ∷ rest

  bodies_same : (ns : List ℕ) (c : All Moved) (fs : List Frame) (cs : List Call) → effect.bodies_of noted plan barrier ns c ≡ effect.bodies_of noted plan barrier ns (with_kept fs cs c)
  bodies_same [] c fs cs = refl
  bodies_same (n ∷ ns) c fs cs = ap (body_first (own_of n c).opened) (bodies_same ns c fs cs)

  pub aborts_kept : (ns : List ℕ) (at : Pos) (n : ℕ) (c d : All Moved) → Beside p c d → Beside p (effect.aborts noted plan barrier ns at n c) (effect.aborts noted plan barrier ns at n d)
  aborts_kept ns at n c d r = at_kept p (effect.aborts noted plan barrier ns at n) c d r (λ fs cs m.
      let e : All Moved = with_kept fs cs c in
      let s : Beside p c e = beside p c fs cs m in
      let hit = λ (bodies : List ℕ). effect.hit_from noted plan barrier ns bodies 0 c.tasks in
      let bodies = effect.bodies_of noted plan barrier ns c in
      let f = λ (bs : List ℕ) (x : All Moved). effect.aborted noted plan barrier (hit bs) (on_control n (takes_part 0) x) in
      subst (λ bs. Beside p (effect.aborts noted plan barrier ns at n c) (if in_action n c then raised_at Program at n e else f bs e)) (bodies_same ns c fs cs)
      (if_beside p (in_action n c) (raised_at Program at n c) (f bodies c) (raised_at Program at n e) (f bodies e)
      (raised_kept p Program at n c e s)
      (aborted_kept (hit bodies) (on_control n (takes_part 0) c) (on_control n (takes_part 0) e) (control_kept p n (takes_part 0) c e s))))

  pub withdraws_kept : (object n : ℕ) (c d : All Moved) → Beside p c d → Beside p (effect.withdraws noted plan barrier object n c) (effect.withdraws noted plan barrier object n d)
  withdraws_kept object n c d r = at_kept p (effect.withdraws noted plan barrier object n) c d r (λ fs cs m.
      let e : All Moved = with_kept fs cs c in
      let f : Own → Own = λ own. record own { withdraw = None } in
      serviced_kept object (own_of n c).at n (begin_action n object false (on_own n f c)) (begin_action n object false (on_own n f e))
      (begin_kept p n object false (on_own n f c) (on_own n f e) (own_kept p n f c e (λ o h. h) (beside p c fs cs m))))

  -- The ends of constructs.

  out_kept : (n : ℕ) (c d : All Moved) → Beside p c d → Beside p (on_own n out_of_loops c) (on_own n out_of_loops d)
  out_kept n c d r = own_kept p n out_of_loops c d (names_out_of_loops p) r

  end_by_kept : (alternative : Option ℕ) (purpose : Purpose) (pending : Option Pending) (o : Opened) (n : ℕ) (c d : All Moved) → p.named o.frame → KeepsPurpose p.kept purpose → Beside p c d → Beside p (effect.at_end_by noted plan barrier alternative purpose pending o n c) (effect.at_end_by noted plan barrier alternative purpose pending o n d)
  end_by_kept alternative for_body pending o n c d f k r = completes_kept p plan barrier (exception_of pending) n c d r
  end_by_kept alternative for_block pending o n c d f k r = block_end_kept p plan barrier pending o n (on_own n out_of_loops c) (on_own n out_of_loops d) (out_kept n c d r)
  end_by_kept alternative for_loop pending o n c d f k r = r
  end_by_kept alternative (for_procedure x) pending o n c d f k r = procedure_end_kept p plan barrier pending x o n (on_own n out_of_loops c) (on_own n out_of_loops d) f (out_kept n c d r)
  end_by_kept alternative (for_operation object x) pending o n c d f k r = operation_end_kept pending object x o n (on_own n out_of_loops c) (on_own n out_of_loops d) f (out_kept n c d r)
  end_by_kept alternative (for_entry object id served back) pending o n c d f k r = entry_end_kept pending object id back o n (on_own n out_of_loops c) (on_own n out_of_loops d) f k (out_kept n c d r)
  end_by_kept alternative (for_accept id) pending o n c d f k r = accept_end_kept p plan barrier alternative pending id o n (on_own n out_of_loops c) (on_own n out_of_loops d) f k (out_kept n c d r)

  end_of_kept : (alternative : Option ℕ) (os : List Opened) (pending : Option Pending) (n : ℕ) (c d : All Moved) → NamesAll p os → Beside p c d → Beside p (effect.at_end_of noted plan barrier alternative os pending n c) (effect.at_end_of noted plan barrier alternative os pending n d)
  end_of_kept alternative [] pending n c d h r = r
  end_of_kept alternative (o ∷ os) pending n c d h r = end_by_kept alternative o.purpose pending o n c d h.0.0 h.0.2 r

  pub at_end_kept : (alternative : Option ℕ) (pending : Option Pending) (n : ℕ) (c d : All Moved) → Beside p c d → Beside p (effect.at_end noted plan barrier alternative pending n c) (effect.at_end noted plan barrier alternative pending n d)
  at_end_kept alternative pending n c d r = at_kept p (effect.at_end noted plan barrier alternative pending n) c d r (λ fs cs m.
      end_of_kept alternative (out_of_loops (own_of n c)).opened pending n c (with_kept fs cs c) (names_out_of_loops p (own_of n c) (own_names p c.tasks n m.tasks)).1 (beside p c fs cs m))

-- What is ordered and then carried out is what is carried out at once.
use Rattle.std.proofs.Common.{◌≡◌, ℕ, zero, suc, ◌+◌, ℤ, pos, take, filter, map, replicate, nat_le, List, [], ◌∷◌, ◌++◌, length, Option, Some, None, Bool, true, false, refl, sym, ap, ◌∙◌, slice_get, slice_index_or, if◌then◌else◌, Result, Ok, Err}
use Rattle.std.specs.Prelude.{not, int_le, ◌&&◌, ◌||◌, nat_eq, is_some, is_none}
use Rattle.std.specs.Option.{option_map}
use Rattle.aud_text.specs.declared.place.Pos.{Pos}
use Rattle.aud_text.specs.declared.raise.Raise.{Raise}
use Rattle.aud_text.specs.declared.raise.Raise.TheVariants.{Program, Storage, Tasking}
use Rattle.aud_typed.specs.declared.program.Exception.{Exception}
use Rattle.aud_typed.specs.declared.program.Exception.TheVariants.{Predefined}
use Rattle.aud_typed.specs.Tree.{Plan, Tasks}
use Rattle.aud_text.specs.declared.limits.TheConstants.{ELEMENTS, OBJECTS}
use Rattle.aud_meaning.specs.declared.state.Status.TheVariants.{Running, Activating, Accepting, Delaying, Calling, Completed, Terminated}
use Rattle.aud_meaning.specs.declared.state.CallState.TheVariants.{Selected, Done}
use Rattle.aud_meaning.specs.declared.state.Owner.{Owner}
use Rattle.aud_meaning.specs.declared.state.Owner.TheVariants as owner
use Rattle.aud_meaning.specs.declared.state.Pending.{Pending}
use Rattle.aud_meaning.specs.declared.state.Resumed.{Resumed}
use Rattle.aud_meaning.specs.declared.state.Serving.{Serving}
use Rattle.aud_meaning.specs.declared.state.Again.{Again}
use Rattle.aud_meaning.specs.declared.state.Restart.{Restart}
use Rattle.aud_meaning.specs.declared.state.Action.{Action}
use Rattle.aud_meaning.specs.declared.state.OpenAccept.{OpenAccept}
use Rattle.aud_meaning.specs.Configuration.{Target, Returning, Purpose, for_body, for_block, for_loop, for_procedure, for_operation, for_entry, for_accept, Opened, Waits, Own, Call, TaskAt, All, Acting}
use Rattle.aud_meaning.specs.Evaluation.{Sight, Passed, nearest_zero}
use Rattle.aud_meaning.specs.Control.{Asked, raises_here, raises_in_part, declares, declares_array, declares_tasks, declares_object, ends_activation, activates, goes_on, assigns, puts, enters_loop, next_of_loop, goes_out, raises, raises_again, enters_block, calls_procedure, calls_operation, calls_own_entry, calls_entry, delays, accepts, selects, aborts, requeues, ends, handles, is_left_by, Moved, here, takes_part, does_accept, enters_body, passes_end, to_handler, out_by, Controls, moved, all_moved, ordered}
use Rattle.aud_meaning.specs.Effects.{pends, opens, closed, innermost, outermost, out_of_loops, has_room, copied_back, CopiedBack}
use Rattle.aud_meaning.specs.Parts.{Outcome, succeeds, fails, Waiting, acts_on, alone, alone_by, alternative_of, any, arrives, begin_action, blocks, calls_on_object, cancels, changed, end_action, entry_plan, exception_of, facts_in, object_of, on_object, on_shared, call_number, call_of, calls_on_task, depends, in_action, is_callable, is_created, new_call, no_waits, nobody, numbers, on_call, on_control, on_own, on_task, open_alternatives, own_of, owns, queue, raised_at, runs, stands_at_call, unit_of, with_frames}
use Rattle.aud_meaning.specs.Orders.{noted, carried_out}
use Rattle.aud_meaning.specs.Effects as own
use Rattle.aud_meaning.specs.declared.state.Move.{Move}
use Rattle.aud_meaning.specs.Run.{Turn, resting, closing, completing, withdrawing, serving, restarting, expiring, cancelling, acting, alternative_or_none, turn_taken, turn_at, seen, scene_of, step_of}
use Rattle.aud_meaning.specs.Why.Carried.{CarriedLaw, carried_by}
use Rattle.aud_meaning.specs.Tasks as effect
use Rattle.aud_meaning.specs.Step as step
use Rattle.aud_meaning.specs.Step.{call_record, not_handled, has_next}
use Rattle.aud_text.specs.declared.limits.Limits.{Limits}

abbrev own_declares : {C : Type 0} → List ℤ → Acting C → Acting C
own_declares cells t = own.declares cells t

module _ {C : Type 0} (k : Controls C) where
  -- a task with what is ordered of it carried out
  abbrev carry_task : C → TaskAt Moved → TaskAt C
  carry_task x m = record { control = moved k x m.control; own = m.own }

  abbrev carry : C → Acting Moved → Acting C
  carry x t = record { control = moved k x t.control; own = t.own; shared = t.shared }

  -- the same is done to it
  abbrev pub Same : (TaskAt Moved → TaskAt Moved) → (TaskAt C → TaskAt C) → Type 0
  Same f g = (x : C) (m : TaskAt Moved) → g (carry_task x m) ≡ carry_task x (f m)

  abbrev pub SameActing : (Acting Moved → Acting Moved) → (Acting C → Acting C) → Type 0
  SameActing f g = (x : C) (t : Acting Moved) → g (carry x t) ≡ carry x (f t)

  owns_same : (ts : List (TaskAt C)) (ms : List (TaskAt Moved)) → owns (all_moved k ts ms) ≡ owns ms
  owns_same ts [] = refl
  owns_same [] (m ∷ ms) = ap (λ (os : List Own). m.own ∷ os) (owns_same [] ms)
  owns_same (t ∷ ts) (m ∷ ms) = ap (λ (os : List Own). m.own ∷ os) (owns_same ts ms)

  changed_same : (n : ℕ) (f : TaskAt Moved → TaskAt Moved) (g : TaskAt C → TaskAt C) → Same f g → (ts : List (TaskAt C)) (ms : List (TaskAt Moved)) → changed n g (all_moved k ts ms) ≡ all_moved k ts (changed n f ms)
  changed_same n f g h ts [] = refl
  changed_same zero f g h [] (m ∷ ms) = ap (λ (u : TaskAt C). u ∷ all_moved k [] ms) (h (k.begins 0) m)
  changed_same zero f g h (t ∷ ts) (m ∷ ms) = ap (λ (u : TaskAt C). u ∷ all_moved k ts ms) (h t.control m)
  changed_same (suc n) f g h [] (m ∷ ms) = ap (λ (us : List (TaskAt C)). carry_task (k.begins 0) m ∷ us) (changed_same n f g h [] ms)
  changed_same (suc n) f g h (t ∷ ts) (m ∷ ms) = ap (λ (us : List (TaskAt C)). carry_task t.control m ∷ us) (changed_same n f g h ts ms)

  any_same : (P : Own → Bool) (ts : List (TaskAt C)) (ms : List (TaskAt Moved)) → any (λ (t : TaskAt C). P t.own) (all_moved k ts ms) ≡ any (λ (t : TaskAt Moved). P t.own) ms
  any_same P ts [] = refl
  any_same P [] (m ∷ ms) = ap (λ b. P m.own || b) (any_same P [] ms)
  any_same P (t ∷ ts) (m ∷ ms) = ap (λ b. P m.own || b) (any_same P ts ms)

  numbers_same : (P : Own → Bool) (n : ℕ) (ts : List (TaskAt C)) (ms : List (TaskAt Moved)) → numbers (λ (t : TaskAt C). P t.own) n (all_moved k ts ms) ≡ numbers (λ (t : TaskAt Moved). P t.own) n ms
  numbers_same P n ts [] = refl
  numbers_same P n [] (m ∷ ms) = ap (λ (ns : List ℕ). if P m.own then n ∷ ns else ns) (numbers_same P (suc n) [] ms)
  numbers_same P n (t ∷ ts) (m ∷ ms) = ap (λ (ns : List ℕ). if P m.own then n ∷ ns else ns) (numbers_same P (suc n) ts ms)

  length_same : (ts : List (TaskAt C)) (ms : List (TaskAt Moved)) → length (all_moved k ts ms) ≡ length ms
  length_same ts [] = refl
  length_same [] (m ∷ ms) = ap suc (length_same [] ms)
  length_same (t ∷ ts) (m ∷ ms) = ap suc (length_same ts ms)

  -- before anything is ordered
  abbrev bare : TaskAt C → TaskAt Moved
  bare t = record { control = here; own = t.own }

  bare_same : (ts : List (TaskAt C)) → all_moved k ts (map bare ts) ≡ ts
  bare_same [] = refl
  bare_same (t ∷ ts) = ap (λ (us : List (TaskAt C)). t ∷ us) (bare_same ts)

  appended : (ts : List (TaskAt C)) (xs : List (TaskAt Moved)) → all_moved k ts (map bare ts ++ xs) ≡ all_moved k ts (map bare ts) ++ all_moved k [] xs
  appended [] xs = refl
  appended (t ∷ ts) xs = ap (λ (us : List (TaskAt C)). t ∷ us) (appended ts xs)

  pick : (x : C) (b : Bool) (p q : Acting Moved) → (if b then carry x p else carry x q) ≡ carry x (if b then p else q)
  pick x true p q = refl
  pick x false p q = refl

  -- what the task of a number had left to do before
  abbrev base : ℕ → List (TaskAt C) → C
  base n [] = k.begins 0
  base zero (t ∷ ts) = t.control
  base (suc n) (t ∷ ts) = base n ts

  got_same : (n : ℕ) (ts : List (TaskAt C)) (ms : List (TaskAt Moved)) → slice_get (all_moved k ts ms) n ≡ option_map (carry_task (base n ts)) (slice_get ms n)
  got_same n ts [] = refl
  got_same zero [] (m ∷ ms) = refl
  got_same zero (t ∷ ts) (m ∷ ms) = refl
  got_same (suc n) [] (m ∷ ms) = got_same n [] ms
  got_same (suc n) (t ∷ ts) (m ∷ ms) = got_same n ts ms

  set_same : (n : ℕ) (v : TaskAt Moved) (ts : List (TaskAt C)) (ms : List (TaskAt Moved)) → changed n (λ old. carry_task (base n ts) v) (all_moved k ts ms) ≡ all_moved k ts (changed n (λ old. v) ms)
  set_same n v ts [] = refl
  set_same zero v [] (m ∷ ms) = refl
  set_same zero v (t ∷ ts) (m ∷ ms) = refl
  set_same (suc n) v [] (m ∷ ms) = ap (λ (us : List (TaskAt C)). carry_task (k.begins 0) m ∷ us) (set_same n v [] ms)
  set_same (suc n) v (t ∷ ts) (m ∷ ms) = ap (λ (us : List (TaskAt C)). carry_task t.control m ∷ us) (set_same n v ts ms)

  module _ (c : All C) where
    -- all of them, with what is ordered carried out
    abbrev pub K : All Moved → All C
    K d = record c { tasks = all_moved k c.tasks d.tasks; shared = d.shared }

    pub own_there : (n : ℕ) (d : All Moved) → own_of n (K d) ≡ own_of n d
    own_there n d = ap (λ (os : List Own). slice_index_or os n nobody) (owns_same c.tasks d.tasks)

    on_task_same : (n : ℕ) (f : TaskAt Moved → TaskAt Moved) (g : TaskAt C → TaskAt C) → Same f g → (d : All Moved) → on_task n g (K d) ≡ K (on_task n f d)
    on_task_same n f g h d = ap (λ (ts : List (TaskAt C)). record c { tasks = ts; shared = d.shared }) (changed_same n f g h c.tasks d.tasks)

    on_own_same : (n : ℕ) (f : Own → Own) (d : All Moved) → on_own n f (K d) ≡ K (on_own n f d)
    on_own_same n f d = on_task_same n (λ t. record t { own = f t.own }) (λ t. record t { own = f t.own }) (λ x m. refl) d

    alone_same : (n : ℕ) (f : Acting Moved → Acting Moved) (g : Acting C → Acting C) → SameActing f g → (d : All Moved) → alone g n (K d) ≡ K (alone f n d)
    alone_same n f g h d = ap (λ t. alone_by g t n (K d)) (got_same n c.tasks d.tasks) ∙ by (slice_get d.tasks n)
      where
        by : (t : Option (TaskAt Moved)) → alone_by g (option_map (carry_task (base n c.tasks)) t) n (K d) ≡ K (alone_by f t n d)
        by None = refl
        by (Some t) =
            let x : C = base n c.tasks in
            let a : Acting Moved = record { control = t.control; own = t.own; shared = d.shared } in
            ap (λ (u : Acting C). record c { tasks = changed n (λ old. record { control = u.control; own = u.own }) (all_moved k c.tasks d.tasks); shared = u.shared }) (h x a)
            ∙ ap (λ (ts : List (TaskAt C)). record c { tasks = ts; shared = (f a).shared }) (set_same n (record { control = (f a).control; own = (f a).own }) c.tasks d.tasks)

    choose_by : (b : Bool) (x y : All C) (p q : All Moved) → x ≡ K p → y ≡ K q → (if b then x else y) ≡ K (if b then p else q)
    choose_by true x y p q h i = h
    choose_by false x y p q h i = i

    choose : (b e : Bool) → b ≡ e → (x y : All C) (p q : All Moved) → x ≡ K p → y ≡ K q → (if b then x else y) ≡ K (if e then p else q)
    choose b e s x y p q h i = ap (λ z. if z then x else y) s ∙ choose_by e x y p q h i

    module _ (plan : Plan) (barrier : ℕ → Sight → Result Bool Raise) where
      goes_on_same : (id : ℕ) (call : Call) (d : All Moved) → effect.caller_goes_on (carried_out k) plan barrier id call (K d) ≡ K (effect.caller_goes_on noted plan barrier id call d)
      goes_on_same id call d = on_task_same call.caller (λ t. record { control = takes_part 0 t.control; own = runs t.own }) (λ t. record { control = k.takes 0 t.control; own = runs t.own }) (λ x m. refl) (on_call id (λ a. record a { state = Done }) d)

      fails_same : (id : ℕ) (call : Call) (x : Exception) (d : All Moved) → effect.caller_fails (carried_out k) plan barrier id call x (K d) ≡ K (effect.caller_fails noted plan barrier id call x d)
      fails_same id call x d = on_own_same call.caller (λ own. pends x call.at (runs own)) (on_call id (λ a. record a { state = Done }) d)

      ended_same : (r : Option Raise) (id : ℕ) (call : Call) (d : All Moved) → effect.ended_by (carried_out k) plan barrier r id call (K d) ≡ K (effect.ended_by noted plan barrier r id call d)
      ended_same None id call d = goes_on_same id call d
      ended_same (Some raise) id call d = fails_same id call (Predefined raise) d

      end_call_by_same : (o : Outcome) (id : ℕ) (call : Call) (d : All Moved) → effect.end_call_by (carried_out k) plan barrier o id call (K d) ≡ K (effect.end_call_by noted plan barrier o id call d)
      end_call_by_same (fails x) id call d = fails_same id call x d
      end_call_by_same (succeeds values) id call d =
          let back = copied_back values call.backs d.shared.frames in
          ended_same back.raised id call (with_frames back.frames d)

      pub end_call_same : (o : Outcome) (id : ℕ) (d : All Moved) → effect.end_call (carried_out k) plan barrier o id (K d) ≡ K (effect.end_call noted plan barrier o id d)
      end_call_same o id d = end_call_by_same o id (call_of id d) d

      pub refuse_same : (raise : Raise) (ids : List ℕ) (d : All Moved) → effect.refuse (carried_out k) plan barrier raise ids (K d) ≡ K (effect.refuse noted plan barrier raise ids d)
      refuse_same raise [] d = refl
      refuse_same raise (id ∷ ids) d =
          ap (effect.refuse (carried_out k) plan barrier raise ids) (end_call_same (fails (Predefined raise)) id d)
          ∙ refuse_same raise ids (effect.end_call noted plan barrier (fails (Predefined raise)) id d)

      refuse_queues_same : (n : ℕ) (d : All Moved) → effect.refuse_queues (carried_out k) plan barrier n (K d) ≡ K (effect.refuse_queues noted plan barrier n d)
      refuse_queues_same n d = refuse_same Tasking (calls_on_task n d.shared.calls) d

      pub terminate_same : (n : ℕ) (d : All Moved) → effect.terminate (carried_out k) plan barrier n (K d) ≡ K (effect.terminate noted plan barrier n d)
      terminate_same n d =
          let f : Own → Own = (λ own. record own { status = Terminated; pending = None; display = []; opened = []; waits = no_waits }) in
          ap (effect.refuse_queues (carried_out k) plan barrier n) (on_own_same n f d) ∙ refuse_queues_same n (on_own n f d)

      terminate_all_same : (ns : List ℕ) (d : All Moved) → effect.terminate_all (carried_out k) plan barrier ns (K d) ≡ K (effect.terminate_all noted plan barrier ns d)
      terminate_all_same [] d = refl
      terminate_all_same (n ∷ ns) d =
          ap (effect.terminate_all (carried_out k) plan barrier ns) (terminate_same n d) ∙ terminate_all_same ns (effect.terminate noted plan barrier n d)

      pub close_master_same : (master : ℕ) (d : All Moved) → effect.close_master (carried_out k) plan barrier master (K d) ≡ K (effect.close_master noted plan barrier master d)
      close_master_same master d =
          ap (λ ns. effect.terminate_all (carried_out k) plan barrier ns (K d)) (numbers_same (depends master) 0 c.tasks d.tasks)
          ∙ terminate_all_same (numbers (λ (t : TaskAt Moved). depends master t.own) 0 d.tasks) d

      -- Activation.

      raises_in_part_same : (raise : Raise) (at : Pos) (n : ℕ) (d : All Moved) → effect.raises_in_part (carried_out k) plan barrier raise at n (K d) ≡ K (effect.raises_in_part noted plan barrier raise at n d)
      raises_in_part_same raise at n d =
          let part = innermost (own_of n d).opened in
          let ns = effect.not_activated noted plan barrier part d in
          ap (λ (own : Own). raised_at raise at n (effect.terminate_all (carried_out k) plan barrier (effect.not_activated (carried_out k) plan barrier (innermost own.opened) (K d)) (K d))) (own_there n d)
          ∙ ap (λ xs. raised_at raise at n (effect.terminate_all (carried_out k) plan barrier xs (K d))) (numbers_same (λ own. is_created own.status && nat_eq own.part part) 0 c.tasks d.tasks)
          ∙ ap (raised_at raise at n) (terminate_all_same ns d)
          ∙ on_own_same n (pends (Predefined raise) at) (effect.terminate_all noted plan barrier ns d)

      opens_for_same : (p : Purpose) (unit : ℕ) (at : Pos) (display : List ℕ) (cells : List ℤ) (n : ℕ) (d : All Moved) → effect.opens_for (carried_out k) plan barrier p unit at display cells n (K d) ≡ K (effect.opens_for noted plan barrier p unit at display cells n d)
      opens_for_same p unit at display cells n d =
          alone_same n (λ t. opens p (unit_of plan unit).region at display cells (length cells) t) (λ t. opens p (unit_of plan unit).region at display cells (length cells) t) (λ x t. refl) d

      activator_goes_on_same : (n : ℕ) (d : All Moved) → effect.activator_goes_on (carried_out k) plan barrier n (K d) ≡ K (effect.activator_goes_on noted plan barrier n d)
      activator_goes_on_same n d =
          on_task_same n (λ t. record { control = takes_part 0 t.control; own = if t.own.failed then pends (Predefined Tasking) t.own.at (runs t.own) else runs t.own }) (λ t. record { control = k.takes 0 t.control; own = if t.own.failed then pends (Predefined Tasking) t.own.at (runs t.own) else runs t.own }) (λ x m. refl) d

      awaited : ℕ → Own → Bool
      awaited n own = by own.activator
        where
          by : Option ℕ → Bool
          by None = false
          by (Some m) = nat_eq m n

      activator_looks_same : (n : ℕ) (d : All Moved) → effect.activator_looks (carried_out k) plan barrier n (K d) ≡ K (effect.activator_looks noted plan barrier n d)
      activator_looks_same n d =
          choose (effect.is_activating (carried_out k) plan barrier (own_of n (K d)).status && not (any (effect.is_awaited_by (carried_out k) plan barrier n) (K d).tasks)) (effect.is_activating noted plan barrier (own_of n d).status && not (any (effect.is_awaited_by noted plan barrier n) d.tasks))
          (ap (λ (own : Own). effect.is_activating (carried_out k) plan barrier own.status && not (any (effect.is_awaited_by (carried_out k) plan barrier n) (K d).tasks)) (own_there n d)
          ∙ ap (λ b. effect.is_activating (carried_out k) plan barrier (own_of n d).status && not b) (any_same (λ own. effect.is_awaited_by noted plan barrier n (record { control = here; own = own })) c.tasks d.tasks))
          (effect.activator_goes_on (carried_out k) plan barrier n (K d)) (K d) (effect.activator_goes_on noted plan barrier n d) d
          (activator_goes_on_same n d) refl

      activation_ended_by_same : (m : Option ℕ) (failed : Bool) (n : ℕ) (d : All Moved) → effect.activation_ended_by (carried_out k) plan barrier m failed n (K d) ≡ K (effect.activation_ended_by noted plan barrier m failed n d)
      activation_ended_by_same None failed n d = refl
      activation_ended_by_same (Some m) failed n d =
          let f : Own → Own = (λ own. record own { activator = None }) in
          let g : Own → Own = (λ own. record own { failed = own.failed || failed }) in
          ap (λ (e : All C). effect.activator_looks (carried_out k) plan barrier m (on_own m g e)) (on_own_same n f d)
          ∙ ap (effect.activator_looks (carried_out k) plan barrier m) (on_own_same m g (on_own n f d))
          ∙ activator_looks_same m (on_own m g (on_own n f d))

      activation_ended_same : (failed : Bool) (n : ℕ) (d : All Moved) → effect.activation_ended (carried_out k) plan barrier failed n (K d) ≡ K (effect.activation_ended noted plan barrier failed n d)
      activation_ended_same failed n d =
          ap (λ (own : Own). effect.activation_ended_by (carried_out k) plan barrier own.activator failed n (K d)) (own_there n d)
          ∙ activation_ended_by_same (own_of n d).activator failed n d

      -- The end of a body: what is done behind what is known of its frames.
      pub completes_same : (raised : Option Exception) (n : ℕ) (d : All Moved) → effect.completes (carried_out k) plan barrier raised n (K d) ≡ K (effect.completes noted plan barrier raised n d)
      completes_same raised n d =
          let f : Own → Own = (λ own. record own { status = Completed; pending = None; raised = raised; waits = no_waits }) in
          let opened : List Opened = (own_of n d).opened in
          let ids : List ℕ = effect.accepts_under_way noted plan barrier opened in
          let d1 : All Moved = on_own n f d in
          let d2 : All Moved = effect.refuse noted plan barrier Tasking ids d1 in
          let d3 : All Moved = effect.refuse_queues noted plan barrier n d2 in
          let ns : List ℕ = numbers (effect.created_in noted plan barrier opened) 0 d.tasks in
          let created : List Opened → List ℕ = (λ os. numbers (effect.created_in (carried_out k) plan barrier os) 0 (K d).tasks) in
          let ends : List ℕ → All C → All C = (λ xs e. effect.activation_ended (carried_out k) plan barrier (is_some raised) n (effect.terminate_all (carried_out k) plan barrier xs e)) in
          ap (λ (os : List Opened). ends (created os) (effect.refuse_queues (carried_out k) plan barrier n (effect.refuse (carried_out k) plan barrier Tasking (effect.accepts_under_way noted plan barrier os) (on_own n f (K d))))) (ap (λ (own : Own). own.opened) (own_there n d))
          ∙ ap (λ xs. ends xs (effect.refuse_queues (carried_out k) plan barrier n (effect.refuse (carried_out k) plan barrier Tasking ids (on_own n f (K d))))) (numbers_same (λ own. effect.created_in noted plan barrier opened (record { control = here; own = own })) 0 c.tasks d.tasks)
          ∙ ap (λ (e : All C). ends ns (effect.refuse_queues (carried_out k) plan barrier n (effect.refuse (carried_out k) plan barrier Tasking ids e))) (on_own_same n f d)
          ∙ ap (λ (e : All C). ends ns (effect.refuse_queues (carried_out k) plan barrier n e)) (refuse_same Tasking ids d1)
          ∙ ap (ends ns) (refuse_queues_same n d2)
          ∙ ap (effect.activation_ended (carried_out k) plan barrier (is_some raised) n) (terminate_all_same ns d3)
          ∙ activation_ended_same (is_some raised) n (effect.terminate_all noted plan barrier ns d3)

      pub closes_same : (n : ℕ) (d : All Moved) → effect.closes (carried_out k) plan barrier n (K d) ≡ K (effect.closes noted plan barrier n d)
      closes_same n d =
          let master = outermost (own_of n d).opened in
          ap (λ (own : Own). effect.terminate (carried_out k) plan barrier n (effect.close_master (carried_out k) plan barrier (outermost own.opened) (K d))) (own_there n d)
          ∙ ap (effect.terminate (carried_out k) plan barrier n) (close_master_same master d)
          ∙ terminate_same n (effect.close_master noted plan barrier master d)

      -- Activation, begun.

      begins_same : (activator n : ℕ) (d : All Moved) → effect.begins (carried_out k) plan barrier activator n (K d) ≡ K (effect.begins noted plan barrier activator n d)
      begins_same activator n d =
          let f : Own → Own = (λ o. record o { status = Running; activator = Some activator }) in
          let opened : Own → All C → All C = (λ own e. effect.opens_for (carried_out k) plan barrier for_body own.unit (unit_of plan own.unit).at own.display (pos n ∷ []) n e) in
          let own = own_of n d in
          ap (λ (o : Own). opened o (on_own n f (K d))) (own_there n d)
          ∙ ap (opened own) (on_own_same n f d)
          ∙ opens_for_same for_body own.unit (unit_of plan own.unit).at own.display (pos n ∷ []) n (on_own n f d)

      begin_all_same : (activator : ℕ) (ns : List ℕ) (d : All Moved) → effect.begin_all (carried_out k) plan barrier activator ns (K d) ≡ K (effect.begin_all noted plan barrier activator ns d)
      begin_all_same activator [] d = refl
      begin_all_same activator (n ∷ ns) d =
          ap (effect.begin_all (carried_out k) plan barrier activator ns) (begins_same activator n d)
          ∙ begin_all_same activator ns (effect.begins noted plan barrier activator n d)

      on_control_same : (n part : ℕ) (d : All Moved) → on_control n (k.takes part) (K d) ≡ K (on_control n (takes_part part) d)
      on_control_same n part d = on_task_same n (λ t. record t { control = takes_part part t.control }) (λ t. record t { control = k.takes part t.control }) (λ x m. refl) d

      activates_same : (at : Pos) (n : ℕ) (ns : List ℕ) (d : All Moved) → effect.activates (carried_out k) plan barrier at n ns (K d) ≡ K (effect.activates noted plan barrier at n ns d)
      activates_same at n [] d = on_control_same n 0 d
      activates_same at n (m ∷ ms) d =
          let f : Own → Own = (λ own. record (blocks Activating at no_waits own) { failed = false }) in
          ap (effect.begin_all (carried_out k) plan barrier n (m ∷ ms)) (on_own_same n f d) ∙ begin_all_same n (m ∷ ms) (on_own n f d)

      -- Procedures.

      enters_same : (n unit : ℕ) (d : All Moved) → on_control n (k.enters unit) (K d) ≡ K (on_control n (enters_body unit) d)
      enters_same n unit d = on_task_same n (λ t. record t { control = enters_body unit t.control }) (λ t. record t { control = k.enters unit t.control }) (λ x m. refl) d

      raised_same : (raise : Raise) (at : Pos) (n : ℕ) (d : All Moved) → raised_at raise at n (K d) ≡ K (raised_at raise at n d)
      raised_same raise at n d = on_own_same n (pends (Predefined raise) at) d

      calls_procedure_same : (at : Pos) (unit : ℕ) (p : Passed) (into : Option Target) (n : ℕ) (d : All Moved) → effect.calls_procedure (carried_out k) plan barrier at unit p into n (K d) ≡ K (effect.calls_procedure noted plan barrier at unit p into n d)
      calls_procedure_same at unit p into n d =
          let u = unit_of plan unit in
          let own = own_of n d in
          let purpose : Purpose = for_procedure (record { is_function = u.is_function; backs = p.backs; into = into; value = None }) in
          let goes : Own → All C → All C = (λ o e. effect.opens_for (carried_out k) plan barrier purpose unit at (take u.level o.display) p.values n e) in
          ap (λ (o : Own). if has_room o then goes o (on_control n (k.enters unit) (K d)) else raised_at Storage at n (K d)) (own_there n d)
          ∙ choose (has_room own) (has_room own) refl (goes own (on_control n (k.enters unit) (K d))) (raised_at Storage at n (K d)) (effect.opens_for noted plan barrier purpose unit at (take u.level own.display) p.values n (on_control n (enters_body unit) d)) (raised_at Storage at n d)
          (ap (goes own) (enters_same n unit d) ∙ opens_for_same purpose unit at (take u.level own.display) p.values n (on_control n (enters_body unit) d))
          (raised_same Storage at n d)

      given_back_same : (back : CopiedBack) (at : Pos) (n : ℕ) (d : All Moved) → effect.given_back (carried_out k) plan barrier back at n (K d) ≡ K (effect.given_back noted plan barrier back at n d)
      given_back_same back at n d = by back.raised
        where
          by : (r : Option Raise) → effect.given_back (carried_out k) plan barrier (record back { raised = r }) at n (K d) ≡ K (effect.given_back noted plan barrier (record back { raised = r }) at n d)
          by None = on_control_same n 0 (with_frames back.frames d)
          by (Some raise) = raised_same raise at n (with_frames back.frames d)

      returned_same : (r : Returning) (frame : ℕ) (at : Pos) (n : ℕ) (d : All Moved) → effect.returned (carried_out k) plan barrier r frame at n (K d) ≡ K (effect.returned noted plan barrier r frame at n d)
      returned_same r frame at n d = choose_by (r.is_function && is_none r.value) _ _ _ _ (raised_same Program at n d) (given_back_same _ at n d)

      returned_or_same : (p : Option Pending) (r : Returning) (frame : ℕ) (at : Pos) (n : ℕ) (d : All Moved) → effect.returned_or (carried_out k) plan barrier p r frame at n (K d) ≡ K (effect.returned_or noted plan barrier p r frame at n d)
      returned_or_same None r frame at n d = returned_same r frame at n d
      returned_or_same (Some p) r frame at n d = on_own_same n (pends p.exception at) d

      -- Constructs that are left.

      block_end_same : (p : Option Pending) (o : Opened) (n : ℕ) (d : All Moved) → effect.at_block_end (carried_out k) plan barrier p o n (K d) ≡ K (effect.at_block_end noted plan barrier p o n d)
      block_end_same None o n d = ap (effect.close_master (carried_out k) plan barrier o.frame) (on_own_same n closed d) ∙ close_master_same o.frame (on_own n closed d)
      block_end_same (Some p) o n d =
          let f : Own → Own = (λ own. pends p.exception o.at (closed own)) in
          ap (effect.close_master (carried_out k) plan barrier o.frame) (on_own_same n f d) ∙ close_master_same o.frame (on_own n f d)

      procedure_end_same : (p : Option Pending) (r : Returning) (o : Opened) (n : ℕ) (d : All Moved) → effect.at_procedure_end (carried_out k) plan barrier p r o n (K d) ≡ K (effect.at_procedure_end noted plan barrier p r o n d)
      procedure_end_same p r o n d =
          ap (λ (e : All C). effect.returned_or (carried_out k) plan barrier p r o.frame o.at n (effect.close_master (carried_out k) plan barrier o.frame e)) (on_own_same n closed d)
          ∙ ap (effect.returned_or (carried_out k) plan barrier p r o.frame o.at n) (close_master_same o.frame (on_own n closed d))
          ∙ returned_or_same p r o.frame o.at n (effect.close_master noted plan barrier o.frame (on_own n closed d))

      -- Rendezvous.

      rendezvous_by_same : (region : Option ℕ) (a : OpenAccept) (id n : ℕ) (d : All Moved) → effect.rendezvous_by (carried_out k) plan barrier region a id n (K d) ≡ K (effect.rendezvous_by noted plan barrier region a id n d)
      rendezvous_by_same None a id n d =
          let f : TaskAt Moved → TaskAt Moved = (λ t. record { control = takes_part a.alternative t.control; own = runs t.own }) in
          let g : TaskAt C → TaskAt C = (λ t. record { control = k.takes a.alternative t.control; own = runs t.own }) in
          let out : Outcome = succeeds ((call_of id d).values ++ (call_of id d).unseen) in
          ap (effect.end_call (carried_out k) plan barrier out id) (on_task_same n f g (λ x m. refl) d)
          ∙ end_call_same out id (on_task n f d)
      rendezvous_by_same (Some region) a id n d =
          let f : TaskAt Moved → TaskAt Moved = (λ t. record { control = does_accept a.alternative t.control; own = runs t.own }) in
          let g : TaskAt C → TaskAt C = (λ t. record { control = k.accepts a.alternative t.control; own = runs t.own }) in
          let cells : List ℤ = (call_of id d).values in
          ap (alone (λ (t : Acting C). opens (for_accept id) region a.at t.own.display cells (length cells) t) n) (on_task_same n f g (λ x m. refl) d)
          ∙ alone_same n (λ (t : Acting Moved). opens (for_accept id) region a.at t.own.display cells (length cells) t) (λ (t : Acting C). opens (for_accept id) region a.at t.own.display cells (length cells) t) (λ x t. refl) (on_task n f d)

      rendezvous_same : (a : OpenAccept) (id n : ℕ) (d : All Moved) → effect.rendezvous (carried_out k) plan barrier a id n (K d) ≡ K (effect.rendezvous noted plan barrier a id n d)
      rendezvous_same a id n d = rendezvous_by_same a.region a id n (on_call id (λ call. record call { state = Selected }) d)

      -- Requeue.

      made_again_same : (alternative : Option ℕ) (ones : List OpenAccept) (id task : ℕ) (d : All Moved) → effect.made_again (carried_out k) plan barrier alternative ones id task (K d) ≡ K (effect.made_again noted plan barrier alternative ones id task d)
      made_again_same alternative [] id task d = refl
      made_again_same alternative (a ∷ more) id task d = rendezvous_same (alternative_of alternative a (a ∷ more)) id task d

      lost_same : (call : Call) (d : All Moved) → effect.is_lost (carried_out k) plan barrier call (K d) ≡ effect.is_lost noted plan barrier call d
      lost_same call d = ap (λ (own : Own). not call.stays && own.abnormal) (own_there call.caller d)

      requeued_on_same : (alternative : Option ℕ) (o : Owner) (at : Pos) (id n : ℕ) (d : All Moved) → effect.requeued_on (carried_out k) plan barrier alternative o at id n (K d) ≡ K (effect.requeued_on noted plan barrier alternative o at id n d)
      requeued_on_same alternative (owner.Task task) at id n d =
          let entry = (call_of id d).entry in
          choose (effect.is_lost (carried_out k) plan barrier (call_of id d) (K d)) (effect.is_lost noted plan barrier (call_of id d) d) (lost_same (call_of id d) d) _ _ _ _ refl
          (ap (λ (own : Own). if is_callable own then effect.made_again (carried_out k) plan barrier alternative (open_alternatives own entry) id task (on_call id (effect.called_of (carried_out k) plan barrier (owner.Task task)) (K d)) else effect.end_call (carried_out k) plan barrier (fails (Predefined Tasking)) id (K d)) (own_there task d)
          ∙ choose_by (is_callable (own_of task d)) _ _ _ _ (made_again_same alternative (open_alternatives (own_of task d) entry) id task (on_call id (effect.called_of noted plan barrier (owner.Task task)) d)) (end_call_same (fails (Predefined Tasking)) id d))
      requeued_on_same alternative (owner.Object object) at id n d = on_own_same n (λ own. record own { restart = Some (record { call = id; object = object; at = at }) }) d

      accept_ended_same : (alternative : Option ℕ) (r : Option Again) (values : List ℤ) (id n : ℕ) (d : All Moved) → effect.accept_ended (carried_out k) plan barrier alternative r values id n (K d) ≡ K (effect.accept_ended noted plan barrier alternative r values id n d)
      accept_ended_same alternative None values id n d = end_call_same (succeeds values) id d
      accept_ended_same alternative (Some r) values id n d = requeued_on_same alternative r.owner r.at id n (on_call id (effect.retargeted noted plan barrier r values) d)

      accept_end_same : (alternative : Option ℕ) (p : Option Pending) (id : ℕ) (o : Opened) (n : ℕ) (d : All Moved) → effect.at_accept_end (carried_out k) plan barrier alternative p id o n (K d) ≡ K (effect.at_accept_end noted plan barrier alternative p id o n d)
      accept_end_same alternative None id o n d =
          let values : List ℤ = effect.present_values noted plan barrier id o.frame d in
          let f : Own → Own = (λ own. record (closed own) { again = None }) in
          ap (λ (own : Own). effect.accept_ended (carried_out k) plan barrier alternative own.again values id n (on_own n f (K d))) (own_there n d)
          ∙ ap (effect.accept_ended (carried_out k) plan barrier alternative (own_of n d).again values id n) (on_own_same n f d)
          ∙ accept_ended_same alternative (own_of n d).again values id n (on_own n f d)
      accept_end_same alternative (Some p) id o n d =
          let f : Own → Own = (λ own. pends p.exception o.at (record (closed own) { again = None })) in
          ap (effect.end_call (carried_out k) plan barrier (fails p.exception) id) (on_own_same n f d) ∙ end_call_same (fails p.exception) id (on_own n f d)

      accepts_oldest_same : (a : OpenAccept) (ws : List Waiting) (n : ℕ) (d : All Moved) → effect.accepts_oldest (carried_out k) plan barrier a ws n (K d) ≡ K (effect.accepts_oldest noted plan barrier a ws n d)
      accepts_oldest_same a [] n d = on_own_same n (blocks Accepting a.at (record { accepts = a ∷ []; delays = []; terminate = false })) d
      accepts_oldest_same a (w ∷ ws) n d = rendezvous_same a w.call n d

      accepts_call_same : (a : OpenAccept) (n : ℕ) (d : All Moved) → effect.accepts_call (carried_out k) plan barrier a n (K d) ≡ K (effect.accepts_call noted plan barrier a n d)
      accepts_call_same a n d = accepts_oldest_same a (queue n a.entry d.shared.calls) n d

      stands_same : (task id : ℕ) (at : Pos) (d : All Moved) → stands_at_call task id at (K d) ≡ K (stands_at_call task id at d)
      stands_same task id at d = on_own_same task (λ own. record (blocks Calling at no_waits own) { call = id }) d

      calls_open_same : (alternative : Option ℕ) (open_ones : List OpenAccept) (call : Call) (task : ℕ) (d : All Moved) → effect.calls_open (carried_out k) plan barrier alternative open_ones call task (K d) ≡ K (effect.calls_open noted plan barrier alternative open_ones call task d)
      calls_open_same alternative [] call task d =
          choose_by (effect.is_conditional noted plan barrier call.form) _ _ _ _ (on_control_same call.caller 1 d)
          (ap (arrives (call_number d)) (stands_same call.caller (call_number d) call.at (new_call call d)))
      calls_open_same alternative (a ∷ more) call task d =
          let b : OpenAccept = alternative_of alternative a (a ∷ more) in
          ap (effect.rendezvous (carried_out k) plan barrier b (call_number d) task) (stands_same call.caller (call_number d) call.at (new_call call d))
          ∙ rendezvous_same b (call_number d) task (stands_at_call call.caller (call_number d) call.at (new_call call d))

      pub calls_task_same : (alternative : Option ℕ) (call : Call) (task : ℕ) (d : All Moved) → effect.calls_task (carried_out k) plan barrier alternative call task (K d) ≡ K (effect.calls_task noted plan barrier alternative call task d)
      calls_task_same alternative call task d =
          ap (λ (own : Own). if in_action call.caller d then raised_at Program call.at call.caller (K d) else if is_callable own then effect.calls_open (carried_out k) plan barrier alternative (open_alternatives own call.entry) call task (K d) else raised_at Tasking call.at call.caller (K d)) (own_there task d)
          ∙ choose_by (in_action call.caller d) _ _ _ _ (raised_same Program call.at call.caller d)
          (choose_by (is_callable (own_of task d)) _ _ _ _ (calls_open_same alternative (open_alternatives (own_of task d) call.entry) call task d) (raised_same Tasking call.at call.caller d))

      -- Selective accepts and delays.

      selects_same : (alternative : Option ℕ) (has_else : Bool) (waits : Waits) (at : Pos) (n : ℕ) (d : All Moved) → effect.selects (carried_out k) plan barrier alternative has_else waits at n (K d) ≡ K (effect.selects noted plan barrier alternative has_else waits at n d)
      selects_same None true waits at n d = on_control_same n 0 d
      selects_same None false waits at n d = choose_by (nat_eq (length waits.accepts + length waits.delays) 0 && not waits.terminate) _ _ _ _ (raised_same Program at n d) (on_own_same n (blocks Accepting at waits) d)
      selects_same (Some a) has_else waits at n d = by (filter (λ (o : OpenAccept). nat_eq o.alternative a) waits.accepts)
        where
          by : (os : List OpenAccept) → effect.selected_first (carried_out k) plan barrier os n (K d) ≡ K (effect.selected_first noted plan barrier os n d)
          by [] = refl
          by (o ∷ os) = accepts_call_same o n d

      delay_expires_same : (alternative n : ℕ) (d : All Moved) → effect.delay_expires (carried_out k) plan barrier alternative n (K d) ≡ K (effect.delay_expires noted plan barrier alternative n d)
      delay_expires_same alternative n d = on_task_same n (λ t. record { control = takes_part alternative t.control; own = runs t.own }) (λ t. record { control = k.takes alternative t.control; own = runs t.own }) (λ x m. refl) d

      -- the time is that before the step
      delays_same : (ms : ℕ) (at : Pos) (n : ℕ) (d : All Moved) → d.clock ≡ c.clock → effect.delays_for (carried_out k) plan barrier ms at n (K d) ≡ K (effect.delays_for noted plan barrier ms at n d)
      delays_same ms at n d h =
          ap (λ time. if in_action n d then raised_at Program at n (K d) else if nat_eq ms 0 then on_control n (k.takes 0) (K d) else on_own n (blocks Delaying at (record { accepts = []; delays = record { alternative = 0; time = time + ms } ∷ []; terminate = false })) (K d)) (sym h)
          ∙ choose_by (in_action n d) _ _ _ _ (raised_same Program at n d)
          (choose_by (nat_eq ms 0) _ _ _ _ (on_control_same n 0 d) (on_own_same n (blocks Delaying at (record { accepts = []; delays = record { alternative = 0; time = d.clock + ms } ∷ []; terminate = false })) d))

      -- Protected objects.

      barrier_same : (object entry : ℕ) (d : All Moved) → effect.barrier_of plan barrier object entry (K d) ≡ effect.barrier_of plan barrier object entry d
      barrier_same object entry d =
          ap (λ (os : List Own). barrier entry (record { display = (object_of object d).display; frames = d.shared.frames; facts = facts_in os d.shared.calls })) (owns_same c.tasks d.tasks)

      eligible_from_same : (index : ℕ) (entries : List ℕ) (object : ℕ) (d : All Moved) → effect.eligible_from plan barrier index entries object (K d) ≡ effect.eligible_from plan barrier index entries object d
      eligible_from_same index [] object d = refl
      eligible_from_same index (e ∷ es) object d =
          ap (λ b. effect.eligible_if (queue object e d.shared.calls) b index (effect.eligible_from plan barrier (suc index) es object (K d))) (barrier_same object e d)
          ∙ ap (λ rest. effect.eligible_if (queue object e d.shared.calls) (effect.barrier_of plan barrier object e d) index rest) (eligible_from_same (suc index) es object d)

      eligible_same : (object : ℕ) (d : All Moved) → effect.eligible plan barrier object (K d) ≡ effect.eligible plan barrier object d
      eligible_same object d = eligible_from_same 1 (effect.entries_of plan barrier object d) object d

      end_action_same : (task object : ℕ) (d : All Moved) → end_action task object (K d) ≡ K (end_action task object d)
      end_action_same task object d = on_own_same task (λ own. record own { serving = None }) (on_object object (λ o. record o { actions = filter (λ (a : Action). not (nat_eq a.task task)) o.actions }) d)

      serviced_by_same : (r : Result (List ℕ) Raise) (object : ℕ) (at : Pos) (n : ℕ) (d : All Moved) → effect.serviced_by (carried_out k) plan barrier r object at n (K d) ≡ K (effect.serviced_by noted plan barrier r object at n d)
      serviced_by_same (Err raise) object at n d =
          let ids : List ℕ = calls_on_object object d.shared.calls in
          ap (end_action n object) (refuse_same Program ids d) ∙ end_action_same n object (effect.refuse noted plan barrier Program ids d)
      serviced_by_same (Ok []) object at n d = end_action_same n object d
      serviced_by_same (Ok (e ∷ es)) object at n d = on_own_same n (λ own. record own { serving = Some (record { object = object; at = at }) }) d

      serviced_same : (object : ℕ) (at : Pos) (n : ℕ) (d : All Moved) → effect.serviced (carried_out k) plan barrier object at n (K d) ≡ K (effect.serviced noted plan barrier object at n d)
      serviced_same object at n d =
          ap (λ r. effect.serviced_by (carried_out k) plan barrier r object at n (K d)) (eligible_same object d)
          ∙ serviced_by_same (effect.eligible plan barrier object d) object at n d

      enters_entry_same : (served : Bool) (at : Pos) (object id n : ℕ) (d : All Moved) → effect.enters_entry (carried_out k) plan barrier served at object id n (K d) ≡ K (effect.enters_entry noted plan barrier served at object id n d)
      enters_entry_same served at object id n d =
          let call = call_of id d in
          let unit = (entry_plan plan call.entry).unit in
          let own = own_of n d in
          let f : TaskAt Moved → TaskAt Moved = (λ t. record { control = enters_body unit t.control; own = record t.own { status = Running; pending = None; serving = None } }) in
          let g : TaskAt C → TaskAt C = (λ t. record { control = k.enters unit t.control; own = record t.own { status = Running; pending = None; serving = None } }) in
          let purpose : Own → Purpose = (λ o. for_entry object id served (record { status = o.status; pending = o.pending })) in
          ap (λ (o : Own). on_call id (λ a. record a { state = Selected }) (effect.opens_for (carried_out k) plan barrier (purpose o) unit at (object_of object d).display call.values n (on_task n g (K d)))) (own_there n d)
          ∙ ap (λ (e : All C). on_call id (λ a. record a { state = Selected }) (effect.opens_for (carried_out k) plan barrier (purpose own) unit at (object_of object d).display call.values n e)) (on_task_same n f g (λ x m. refl) d)
          ∙ ap (on_call id (λ a. record a { state = Selected })) (opens_for_same (purpose own) unit at (object_of object d).display call.values n (on_task n f d))

      runs_taking_same : (part n : ℕ) (d : All Moved) → on_task n (λ t. record { control = k.takes part t.control; own = runs t.own }) (K d) ≡ K (on_task n (λ t. record { control = takes_part part t.control; own = runs t.own }) d)
      runs_taking_same part n d = on_task_same n (λ t. record { control = takes_part part t.control; own = runs t.own }) (λ t. record { control = k.takes part t.control; own = runs t.own }) (λ x m. refl) d

      barrier_met_same : (r : Result Bool Raise) (at : Pos) (object id n : ℕ) (d : All Moved) → effect.barrier_met (carried_out k) plan barrier r at object id n (K d) ≡ K (effect.barrier_met noted plan barrier r at object id n d)
      barrier_met_same (Err raise) at object id n d =
          let ids : List ℕ = calls_on_object object d.shared.calls in
          let d1 : All Moved = effect.end_call noted plan barrier (fails (Predefined Program)) id d in
          ap (λ (e : All C). end_action n object (effect.refuse (carried_out k) plan barrier Program ids e)) (end_call_same (fails (Predefined Program)) id d)
          ∙ ap (end_action n object) (refuse_same Program ids d1)
          ∙ end_action_same n object (effect.refuse noted plan barrier Program ids d1)
      barrier_met_same (Ok true) at object id n d = enters_entry_same false at object id n d
      barrier_met_same (Ok false) at object id n d =
          let d1 : All Moved = on_task n (λ t. record { control = takes_part 1 t.control; own = runs t.own }) d in
          choose_by (effect.is_conditional noted plan barrier (call_of id d).form) _ _ _ _
          (ap (λ (e : All C). end_action n object (cancels id e)) (runs_taking_same 1 n d) ∙ end_action_same n object (cancels id d1))
          (serviced_same object at n (arrives id d))

      calls_object_same : (call : Call) (object : ℕ) (d : All Moved) → effect.calls_object (carried_out k) plan barrier call object (K d) ≡ K (effect.calls_object noted plan barrier call object d)
      calls_object_same call object d =
          let n = call.caller in
          let id = call_number d in
          let d1 : All Moved = begin_action n object false (stands_at_call n id call.at (new_call call d)) in
          ap (λ (own : Own). if in_action n d then raised_at Program call.at n (K d) else if has_room own then effect.barrier_met (carried_out k) plan barrier (effect.barrier_of plan barrier object call.entry (K d)) call.at object id n (begin_action n object false (stands_at_call n id call.at (new_call call (K d)))) else raised_at Storage call.at n (K d)) (own_there n d)
          ∙ choose_by (in_action n d) _ _ _ _ (raised_same Program call.at n d)
          (choose_by (has_room (own_of n d)) _ _ _ _
          (ap (λ b. effect.barrier_met (carried_out k) plan barrier b call.at object id n (begin_action n object false (stands_at_call n id call.at (new_call call (K d))))) (barrier_same object call.entry d)
          ∙ ap (λ (e : All C). effect.barrier_met (carried_out k) plan barrier (effect.barrier_of plan barrier object call.entry d) call.at object id n (begin_action n object false e)) (stands_same n id call.at (new_call call d))
          ∙ barrier_met_same (effect.barrier_of plan barrier object call.entry d) call.at object id n d1)
          (raised_same Storage call.at n d))

      starts_again_same : (r : Restart) (n : ℕ) (d : All Moved) → effect.starts_again (carried_out k) plan barrier r n (K d) ≡ K (effect.starts_again noted plan barrier r n d)
      starts_again_same r n d =
          let call = call_of r.call d in
          let f : Own → Own = (λ own. record own { restart = None }) in
          let makes : All C → All C = (λ e. begin_action n r.object false (on_call r.call (effect.called_of (carried_out k) plan barrier (owner.Object r.object)) e)) in
          choose (effect.is_lost (carried_out k) plan barrier call (K d)) (effect.is_lost noted plan barrier call d) (lost_same call d) _ _ _ _
          (ap (cancels r.call) (on_own_same n f d))
          (ap (λ b. effect.barrier_met (carried_out k) plan barrier b r.at r.object r.call n (makes (on_own n f (K d)))) (barrier_same r.object call.entry d)
          ∙ ap (λ (e : All C). effect.barrier_met (carried_out k) plan barrier (effect.barrier_of plan barrier r.object call.entry d) r.at r.object r.call n (makes e)) (on_own_same n f d)
          ∙ barrier_met_same (effect.barrier_of plan barrier r.object call.entry d) r.at r.object r.call n (begin_action n r.object false (on_call r.call (effect.called_of noted plan barrier (owner.Object r.object)) (on_own n f d))))

      calls_operation_same : (at : Pos) (object unit : ℕ) (p : Passed) (into : Option Target) (n : ℕ) (d : All Moved) → effect.calls_operation (carried_out k) plan barrier at object unit p into n (K d) ≡ K (effect.calls_operation noted plan barrier at object unit p into n d)
      calls_operation_same at object unit p into n d =
          let u = unit_of plan unit in
          let purpose : Purpose = for_operation object (record { is_function = u.is_function; backs = p.backs; into = into; value = None }) in
          ap (λ (own : Own). if acts_on n (object_of object d) then raised_at Program at n (K d) else if has_room own then begin_action n object u.is_function (effect.opens_for (carried_out k) plan barrier purpose unit at (object_of object d).display p.values n (on_control n (k.enters unit) (K d))) else raised_at Storage at n (K d)) (own_there n d)
          ∙ choose_by (acts_on n (object_of object d)) _ _ _ _ (raised_same Program at n d)
          (choose_by (has_room (own_of n d)) _ _ _ _
          (ap (λ (e : All C). begin_action n object u.is_function (effect.opens_for (carried_out k) plan barrier purpose unit at (object_of object d).display p.values n e)) (enters_same n unit d)
          ∙ ap (begin_action n object u.is_function) (opens_for_same purpose unit at (object_of object d).display p.values n (on_control n (enters_body unit) d)))
          (raised_same Storage at n d))

      operation_end_same : (p : Option Pending) (object : ℕ) (r : Returning) (o : Opened) (n : ℕ) (d : All Moved) → effect.at_operation_end (carried_out k) plan barrier p object r o n (K d) ≡ K (effect.at_operation_end noted plan barrier p object r o n d)
      operation_end_same p object r o n d =
          let d1 : All Moved = effect.returned_or noted plan barrier p r o.frame o.at n (on_own n closed d) in
          ap (λ (e : All C). if r.is_function then end_action n object e else effect.serviced (carried_out k) plan barrier object o.at n e)
          (ap (effect.returned_or (carried_out k) plan barrier p r o.frame o.at n) (on_own_same n closed d) ∙ returned_or_same p r o.frame o.at n (on_own n closed d))
          ∙ choose_by r.is_function _ _ _ _ (end_action_same n object d1) (serviced_same object o.at n d1)

      queued_again_same : (object id : ℕ) (d : All Moved) → effect.queued_again (carried_out k) plan barrier object id (K d) ≡ K (effect.queued_again noted plan barrier object id d)
      queued_again_same object id d = choose (effect.is_lost (carried_out k) plan barrier (call_of id d) (K d)) (effect.is_lost noted plan barrier (call_of id d) d) (lost_same (call_of id d) d) _ _ _ _ refl refl

      entry_ended_same : (p : Option Pending) (r : Option Again) (values : List ℤ) (object id : ℕ) (d : All Moved) → effect.entry_ended (carried_out k) plan barrier p r values object id (K d) ≡ K (effect.entry_ended noted plan barrier p r values object id d)
      entry_ended_same (Some p) r values object id d = end_call_same (fails p.exception) id d
      entry_ended_same None None values object id d = end_call_same (succeeds values) id d
      entry_ended_same None (Some r) values object id d = queued_again_same object id (on_call id (effect.retargeted noted plan barrier r values) d)

      entry_end_same : (p : Option Pending) (object id : ℕ) (back : Resumed) (o : Opened) (n : ℕ) (d : All Moved) → effect.at_entry_end (carried_out k) plan barrier p object id back o n (K d) ≡ K (effect.at_entry_end noted plan barrier p object id back o n d)
      entry_end_same p object id back o n d =
          let values : List ℤ = effect.present_values noted plan barrier id o.frame d in
          let f : Own → Own = (λ own. record (closed own) { status = back.status; pending = back.pending; again = None }) in
          let r : Option Again = (own_of n d).again in
          ap (λ (own : Own). effect.serviced (carried_out k) plan barrier object o.at n (effect.entry_ended (carried_out k) plan barrier p own.again values object id (on_own n f (K d)))) (own_there n d)
          ∙ ap (λ (e : All C). effect.serviced (carried_out k) plan barrier object o.at n (effect.entry_ended (carried_out k) plan barrier p r values object id e)) (on_own_same n f d)
          ∙ ap (effect.serviced (carried_out k) plan barrier object o.at n) (entry_ended_same p r values object id (on_own n f d))
          ∙ serviced_same object o.at n (effect.entry_ended noted plan barrier p r values object id (on_own n f d))

      serves_oldest_same : (ws : List Waiting) (s : Serving) (n : ℕ) (d : All Moved) → effect.serves_oldest (carried_out k) plan barrier ws s n (K d) ≡ K (effect.serves_oldest noted plan barrier ws s n d)
      serves_oldest_same [] s n d = refl
      serves_oldest_same (w ∷ ws) s n d = enters_entry_same true s.at s.object w.call n d

      serves_same : (index : Option ℕ) (s : Serving) (n : ℕ) (d : All Moved) → effect.serves (carried_out k) plan barrier index s n (K d) ≡ K (effect.serves noted plan barrier index s n d)
      serves_same None s n d = serviced_same s.object s.at n d
      serves_same (Some index) s n d = serves_oldest_same (queue s.object (slice_index_or (0 ∷ effect.entries_of plan barrier s.object d) index 0) d.shared.calls) s n d

      cancelled_same : (o : Owner) (at : Pos) (n : ℕ) (d : All Moved) → effect.cancelled_on (carried_out k) plan barrier o at n (K d) ≡ K (effect.cancelled_on noted plan barrier o at n d)
      cancelled_same (owner.Task m) at n d = refl
      cancelled_same (owner.Object object) at n d = serviced_same object at n (begin_action n object false d)

      call_expires_same : (n : ℕ) (d : All Moved) → effect.call_expires (carried_out k) plan barrier n (K d) ≡ K (effect.call_expires noted plan barrier n d)
      call_expires_same n d =
          let id = (own_of n d).call in
          let d1 : All Moved = on_task n (λ t. record { control = takes_part 1 t.control; own = runs t.own }) d in
          ap (λ i. effect.cancelled_on (carried_out k) plan barrier (call_of i d).owner (call_of i d).at n (cancels i (on_task n (λ t. record { control = k.takes 1 t.control; own = runs t.own }) (K d)))) (ap (λ (own : Own). own.call) (own_there n d))
          ∙ ap (λ (e : All C). effect.cancelled_on (carried_out k) plan barrier (call_of id d).owner (call_of id d).at n (cancels id e)) (runs_taking_same 1 n d)
          ∙ cancelled_same (call_of id d).owner (call_of id d).at n (cancels id d1)

      -- Abort.

      hit_same : (named masters : List ℕ) (n : ℕ) (ts : List (TaskAt C)) (ms : List (TaskAt Moved)) → effect.hit_from (carried_out k) plan barrier named masters n (all_moved k ts ms) ≡ effect.hit_from noted plan barrier named masters n ms
      hit_same named masters n ts [] = refl
      hit_same named masters n [] (m ∷ ms) = ap (λ (ns : List ℕ). if effect.is_hit noted plan barrier named masters n m.own then n ∷ ns else ns) (hit_same named masters (suc n) [] ms)
      hit_same named masters n (t ∷ ts) (m ∷ ms) = ap (λ (ns : List ℕ). if effect.is_hit noted plan barrier named masters n m.own then n ∷ ns else ns) (hit_same named masters (suc n) ts ms)

      bodies_same : (ns : List ℕ) (d : All Moved) → effect.bodies_of (carried_out k) plan barrier ns (K d) ≡ effect.bodies_of noted plan barrier ns d
      bodies_same [] d = refl
      bodies_same (n ∷ ns) d =
          ap (λ (own : Own). effect.bodies_by noted plan barrier own.opened (effect.bodies_of (carried_out k) plan barrier ns (K d))) (own_there n d)
          ∙ ap (effect.bodies_by noted plan barrier (own_of n d).opened) (bodies_same ns d)

      loses_same : (n : ℕ) (ids : List ℕ) (d : All Moved) → effect.loses_call (carried_out k) plan barrier n ids (K d) ≡ K (effect.loses_call noted plan barrier n ids d)
      loses_same n [] d = refl
      loses_same n (id ∷ ids) d =
          let f : Own → Own = effect.withdraws_from noted plan barrier (call_of id d).owner in
          ap (λ (e : All C). effect.loses_call (carried_out k) plan barrier n ids (cancels id e)) (on_own_same n f d)
          ∙ loses_same n ids (cancels id (on_own n f d))

      each_same : (F : ℕ → All C → All C) (f : ℕ → All Moved → All Moved) → ((n : ℕ) (d : All Moved) → F n (K d) ≡ K (f n d)) → (ns : List ℕ) (d : All Moved) → effect.each (carried_out k) plan barrier F ns (K d) ≡ K (effect.each noted plan barrier f ns d)
      each_same F f h [] d = refl
      each_same F f h (n ∷ ns) d = ap (effect.each (carried_out k) plan barrier F ns) (h n d) ∙ each_same F f h ns (f n d)

      terminates_created_same : (n : ℕ) (d : All Moved) → effect.terminates_created (carried_out k) plan barrier n (K d) ≡ K (effect.terminates_created noted plan barrier n d)
      terminates_created_same n d =
          ap (λ (own : Own). if is_created own.status then effect.terminate (carried_out k) plan barrier n (K d) else K d) (own_there n d)
          ∙ choose_by (is_created (own_of n d).status) _ _ _ _ (terminate_same n d) refl

      aborted_same : (ns : List ℕ) (d : All Moved) → effect.aborted (carried_out k) plan barrier ns (K d) ≡ K (effect.aborted noted plan barrier ns d)
      aborted_same ns d =
          let mark : Own → Own = (λ own. record own { abnormal = true }) in
          let lose : ℕ → All Moved → All Moved = (λ n e. effect.loses_call noted plan barrier n (effect.own_calls noted plan barrier n e.shared.calls) e) in
          let Lose : ℕ → All C → All C = (λ n e. effect.loses_call (carried_out k) plan barrier n (effect.own_calls noted plan barrier n e.shared.calls) e) in
          let d1 : All Moved = effect.each noted plan barrier (λ n e. on_own n mark e) ns d in
          let d2 : All Moved = effect.each noted plan barrier lose ns d1 in
          let d3 : All Moved = effect.each noted plan barrier (effect.refuse_queues noted plan barrier) ns d2 in
          let last : All C → All C = effect.each (carried_out k) plan barrier (effect.terminates_created (carried_out k) plan barrier) ns in
          let third : All C → All C = effect.each (carried_out k) plan barrier (effect.refuse_queues (carried_out k) plan barrier) ns in
          ap (λ (e : All C). last (third (effect.each (carried_out k) plan barrier Lose ns e))) (each_same (λ n e. on_own n mark e) (λ n e. on_own n mark e) (λ n e. on_own_same n mark e) ns d)
          ∙ ap (λ (e : All C). last (third e)) (each_same Lose lose (λ n e. loses_same n (effect.own_calls noted plan barrier n e.shared.calls) e) ns d1)
          ∙ ap last (each_same (effect.refuse_queues (carried_out k) plan barrier) (effect.refuse_queues noted plan barrier) refuse_queues_same ns d2)
          ∙ each_same (effect.terminates_created (carried_out k) plan barrier) (effect.terminates_created noted plan barrier) terminates_created_same ns d3

      aborts_same : (named : List ℕ) (at : Pos) (n : ℕ) (d : All Moved) → effect.aborts (carried_out k) plan barrier named at n (K d) ≡ K (effect.aborts noted plan barrier named at n d)
      aborts_same named at n d =
          let bodies : List ℕ = effect.bodies_of noted plan barrier named d in
          let hit : List ℕ = effect.hit_from noted plan barrier named bodies 0 d.tasks in
          choose_by (in_action n d) _ _ _ _ (raised_same Program at n d)
          (ap (λ bs. effect.aborted (carried_out k) plan barrier (effect.hit_from (carried_out k) plan barrier named bs 0 (K d).tasks) (on_control n (k.takes 0) (K d))) (bodies_same named d)
          ∙ ap (λ hs. effect.aborted (carried_out k) plan barrier hs (on_control n (k.takes 0) (K d))) (hit_same named bodies 0 c.tasks d.tasks)
          ∙ ap (effect.aborted (carried_out k) plan barrier hit) (on_control_same n 0 d)
          ∙ aborted_same hit (on_control n (takes_part 0) d))

      withdraws_same : (object n : ℕ) (d : All Moved) → effect.withdraws (carried_out k) plan barrier object n (K d) ≡ K (effect.withdraws noted plan barrier object n d)
      withdraws_same object n d =
          let f : Own → Own = (λ own. record own { withdraw = None }) in
          let at : Pos = (own_of n d).at in
          ap (λ (own : Own). effect.serviced (carried_out k) plan barrier object own.at n (begin_action n object false (on_own n f (K d)))) (own_there n d)
          ∙ ap (λ (e : All C). effect.serviced (carried_out k) plan barrier object at n (begin_action n object false e)) (on_own_same n f d)
          ∙ serviced_same object at n (begin_action n object false (on_own n f d))

      -- The leaving step of the innermost construct.

      at_end_by_same : (alternative : Option ℕ) (u : Purpose) (p : Option Pending) (o : Opened) (n : ℕ) (d : All Moved) → effect.at_end_by (carried_out k) plan barrier alternative u p o n (K d) ≡ K (effect.at_end_by noted plan barrier alternative u p o n d)
      at_end_by_same alternative for_body p o n d = completes_same (exception_of p) n d
      at_end_by_same alternative for_block p o n d = ap (effect.at_block_end (carried_out k) plan barrier p o n) (on_own_same n out_of_loops d) ∙ block_end_same p o n (on_own n out_of_loops d)
      at_end_by_same alternative for_loop p o n d = refl
      at_end_by_same alternative (for_procedure r) p o n d = ap (effect.at_procedure_end (carried_out k) plan barrier p r o n) (on_own_same n out_of_loops d) ∙ procedure_end_same p r o n (on_own n out_of_loops d)
      at_end_by_same alternative (for_operation object r) p o n d = ap (effect.at_operation_end (carried_out k) plan barrier p object r o n) (on_own_same n out_of_loops d) ∙ operation_end_same p object r o n (on_own n out_of_loops d)
      at_end_by_same alternative (for_entry object id served back) p o n d = ap (effect.at_entry_end (carried_out k) plan barrier p object id back o n) (on_own_same n out_of_loops d) ∙ entry_end_same p object id back o n (on_own n out_of_loops d)
      at_end_by_same alternative (for_accept id) p o n d = ap (effect.at_accept_end (carried_out k) plan barrier alternative p id o n) (on_own_same n out_of_loops d) ∙ accept_end_same alternative p id o n (on_own n out_of_loops d)

      at_end_of_same : (alternative : Option ℕ) (os : List Opened) (p : Option Pending) (n : ℕ) (d : All Moved) → effect.at_end_of (carried_out k) plan barrier alternative os p n (K d) ≡ K (effect.at_end_of noted plan barrier alternative os p n d)
      at_end_of_same alternative [] p n d = refl
      at_end_of_same alternative (o ∷ os) p n d = at_end_by_same alternative o.purpose p o n d

      at_end_same : (alternative : Option ℕ) (p : Option Pending) (n : ℕ) (d : All Moved) → effect.at_end (carried_out k) plan barrier alternative p n (K d) ≡ K (effect.at_end noted plan barrier alternative p n d)
      at_end_same alternative p n d =
          ap (λ (own : Own). effect.at_end_of (carried_out k) plan barrier alternative (out_of_loops own).opened p n (K d)) (own_there n d)
          ∙ at_end_of_same alternative (out_of_loops (own_of n d)).opened p n d

      -- Before anything is ordered.

      abbrev start : All Moved
      start = record {
        tasks = map (λ (t : TaskAt C). record { control = here; own = t.own }) c.tasks;
        shared = c.shared;
        choices = c.choices;
        clock = c.clock;
        steps = c.steps;
      }

      created_same : (own : Own) (ts : Tasks) (i n : ℕ) → all_moved k [] (effect.all_created noted plan barrier own ts i n) ≡ effect.all_created (carried_out k) plan barrier own ts i n
      created_same own ts i zero = refl
      created_same own ts i (suc n) = ap (λ (us : List (TaskAt C)). effect.created (carried_out k) plan barrier own ts i ∷ us) (created_same own ts (suc i) n)

      declares_tasks_same : (limits : Limits) (at : Pos) (ts : Tasks) (n : ℕ) → effect.declares_tasks (carried_out k) plan barrier limits at ts n (K start) ≡ K (effect.declares_tasks noted plan barrier limits at ts n start)
      declares_tasks_same limits at ts n =
          let own = own_of n start in
          let made : ℕ → List (TaskAt C) → All C = (λ m us. on_control n (k.takes 0) (alone (λ (t : Acting C). own_declares (effect.counted_from noted plan barrier m ts.length) t) n (record (K start) { tasks = us }))) in
          let after : All Moved = record start { tasks = start.tasks ++ effect.all_created noted plan barrier own ts 0 ts.length } in
          let cells : List ℤ = effect.counted_from noted plan barrier (length start.tasks) ts.length in
          let room : ℕ → Bool = (λ m. nat_le ts.length ELEMENTS && nat_le (m + ts.length) limits.tasks) in
          ap (λ m. if not (nat_eq ts.length 0) && in_action n start then effect.raises_in_part (carried_out k) plan barrier Program at n (K start) else if room m then made m ((K start).tasks ++ effect.all_created (carried_out k) plan barrier (own_of n (K start)) ts 0 ts.length) else effect.raises_in_part (carried_out k) plan barrier Storage at n (K start)) (length_same c.tasks start.tasks)
          ∙ choose_by (not (nat_eq ts.length 0) && in_action n start) _ _ _ _ (raises_in_part_same Program at n start)
          (choose_by (room (length start.tasks)) _ _ _ _
          (ap (λ (o : Own). made (length start.tasks) ((K start).tasks ++ effect.all_created (carried_out k) plan barrier o ts 0 ts.length)) (own_there n start)
          ∙ ap (λ (us : List (TaskAt C)). made (length start.tasks) ((K start).tasks ++ us)) (sym (created_same own ts 0 ts.length))
          ∙ ap (made (length start.tasks)) (sym (appended c.tasks (effect.all_created noted plan barrier own ts 0 ts.length)))
          ∙ ap (on_control n (k.takes 0)) (alone_same n (λ t. own_declares cells t) (λ t. own_declares cells t) (λ x t. refl) after)
          ∙ on_control_same n 0 (alone (λ t. own_declares cells t) n after))
          (raises_in_part_same Storage at n start))

      -- The step of a task's own statements.
      module _ (limits : Limits) where
        abbrev Says : Option ℕ → Asked → Type 0
        Says alternative a = (n : ℕ) → step.done (carried_out k) plan barrier limits alternative a n (K start) ≡ K (step.done noted plan barrier limits alternative a n start)

        leaves_same : (alternative : Option ℕ) (p : Option Pending) (to : Moved → Moved) (To : C → C) → ((x : C) (m : Moved) → To (moved k x m) ≡ moved k x (to m)) → (n : ℕ) (d : All Moved) → step.leaves (carried_out k) plan barrier alternative p To n (K d) ≡ K (step.leaves noted plan barrier alternative p to n d)
        leaves_same alternative p to To h n d =
            let f : TaskAt Moved → TaskAt Moved = (λ t. record t { control = to t.control; own = record t.own { pending = None } }) in
            let g : TaskAt C → TaskAt C = (λ t. record t { control = To t.control; own = record t.own { pending = None } }) in
            ap (effect.at_end (carried_out k) plan barrier alternative p n) (on_task_same n f g (λ x m. ap (λ (y : C). record { control = y; own = record m.own { pending = None } }) (h x m.control)) d)
            ∙ at_end_same alternative p n (on_task n f d)

        done_same : (alternative : Option ℕ) (a : Asked) → Says alternative a
        done_same alternative (raises_here raise at) n = raised_same raise at n start
        done_same alternative (raises_in_part raise at) n = raises_in_part_same raise at n start
        done_same alternative (goes_on part) n = on_control_same n part start
        done_same alternative (raises x at) n = on_own_same n (pends x at) start
        done_same alternative (calls_own_entry at) n = raised_same Program at n start
        done_same alternative (calls_procedure at unit p into) n = calls_procedure_same at unit p into n start
        done_same alternative (calls_operation at object unit p into) n = calls_operation_same at object unit p into n start
        done_same alternative (delays ms at) n = delays_same ms at n start refl
        done_same alternative (accepts a) n = accepts_call_same a n start
        done_same alternative (selects has_else waits at) n = selects_same alternative has_else waits at n start
        done_same alternative (aborts ns at) n = aborts_same ns at n start
        done_same alternative (requeues loops r) n = alone_same n (λ t. step.out_of_loops noted plan barrier loops (step.requeued noted plan barrier r t)) (λ t. step.out_of_loops (carried_out k) plan barrier loops (step.requeued (carried_out k) plan barrier r t)) (λ x t. refl) start
        done_same alternative (is_left_by p) n = leaves_same alternative (Some p) (out_by p.exception) (k.left p.exception) (λ x m. refl) n start
        done_same alternative (declares up_to z) n = alone_same n (step.variable_declared noted plan barrier up_to z) (step.variable_declared (carried_out k) plan barrier up_to z) (λ x t. refl) start
        done_same alternative (declares_array at t length) n =
            choose_by (nat_le length ELEMENTS) _ _ _ _
            (alone_same n (λ a. step.moves_on noted plan barrier 0 (own.declares (replicate length (nearest_zero t)) a)) (λ a. step.moves_on (carried_out k) plan barrier 0 (own.declares (replicate length (nearest_zero t)) a)) (λ x t. refl) start)
            (raises_in_part_same Storage at n start)
        done_same alternative (declares_tasks at ts) n = declares_tasks_same limits at ts n
        done_same alternative (declares_object at declaration cells) n =
            let display = (own_of n start).display in
            let object : List ℕ → All C = (λ ns. on_shared (λ s. record s { frames = s.frames ++ cells ∷ []; objects = s.objects ++ record { declaration = declaration; display = ns ++ length s.frames ∷ []; actions = [] } ∷ [] }) (K start)) in
            let made : All Moved = on_shared (λ s. record s { frames = s.frames ++ cells ∷ []; objects = s.objects ++ record { declaration = declaration; display = display ++ length s.frames ∷ []; actions = [] } ∷ [] }) start in
            choose_by (nat_le (suc (length c.shared.objects)) OBJECTS) _ _ _ _
            (ap (λ (o : Own). alone (λ t. step.moves_on (carried_out k) plan barrier 0 (own.declares (pos (length c.shared.objects) ∷ []) t)) n (object o.display)) (own_there n start)
            ∙ alone_same n (λ t. step.moves_on noted plan barrier 0 (own.declares (pos (length c.shared.objects) ∷ []) t)) (λ t. step.moves_on (carried_out k) plan barrier 0 (own.declares (pos (length c.shared.objects) ∷ []) t)) (λ x t. refl) made)
            (raises_in_part_same Storage at n start)
        done_same alternative ends_activation n = ap (on_control n (k.takes 0)) (activation_ended_same false n start) ∙ on_control_same n 0 (effect.activation_ended noted plan barrier false n start)
        done_same alternative (activates at) n =
            let part = innermost (own_of n start).opened in
            ap (λ (o : Own). effect.activates (carried_out k) plan barrier at n (effect.not_activated (carried_out k) plan barrier (innermost o.opened) (K start)) (K start)) (own_there n start)
            ∙ ap (λ ns. effect.activates (carried_out k) plan barrier at n ns (K start)) (numbers_same (λ o. is_created o.status && nat_eq o.part part) 0 c.tasks start.tasks)
            ∙ activates_same at n (effect.not_activated noted plan barrier part start) start
        done_same alternative (assigns target z) n = alone_same n (λ t. step.moves_on noted plan barrier 0 (step.stored_at noted plan barrier target z t)) (λ t. step.moves_on (carried_out k) plan barrier 0 (step.stored_at (carried_out k) plan barrier target z t)) (λ x t. refl) start
        done_same alternative (puts text) n = alone_same n (λ t. step.moves_on noted plan barrier 0 (own.puts text t)) (λ t. step.moves_on (carried_out k) plan barrier 0 (own.puts text t)) (λ x t. refl) start
        done_same alternative (enters_loop f a b) n = alone_same n (step.loop_entered noted plan barrier f a b) (step.loop_entered (carried_out k) plan barrier f a b) (λ x t. ap (λ (u : Acting C). if int_le a b then u else step.moves_on (carried_out k) plan barrier 0 (carry x t)) (pick x (has_room t.own) _ _) ∙ pick x (int_le a b) _ _) start
        done_same alternative (next_of_loop f) n = alone_same n (step.loop_continued noted plan barrier f) (step.loop_continued (carried_out k) plan barrier f) (λ x t. pick x (has_next f.backward (step.loop_cell noted plan barrier 0 t) (step.loop_cell noted plan barrier 1 t)) _ _) start
        done_same alternative (goes_out loops None) n = alone_same n (λ t. step.out_of_loops noted plan barrier loops t) (λ t. step.out_of_loops (carried_out k) plan barrier loops t) (λ x t. refl) start
        done_same alternative (goes_out loops (Some z)) n = alone_same n (λ t. step.out_of_loops noted plan barrier loops (step.with_function_value noted plan barrier (Some z) t)) (λ t. step.out_of_loops (carried_out k) plan barrier loops (step.with_function_value (carried_out k) plan barrier (Some z) t)) (λ x t. refl) start
        done_same alternative (raises_again at) n =
            let x = not_handled (own.handled (own_of n start).opened None) in
            ap (λ (o : Own). on_own n (pends (not_handled (own.handled o.opened None)) at) (K start)) (own_there n start) ∙ on_own_same n (pends x at) start
        done_same alternative (enters_block at region) n = alone_same n (λ t. step.if_room noted plan barrier at t (step.moves_on noted plan barrier 1 (own.opens for_block region at t.own.display [] 0 t))) (λ t. step.if_room (carried_out k) plan barrier at t (step.moves_on (carried_out k) plan barrier 1 (own.opens for_block region at t.own.display [] 0 t))) (λ x t. pick x (has_room t.own) _ _) start
        done_same alternative (calls_entry (owner.Task task) call) n = calls_task_same alternative (call_record n (owner.Task task) call) task start
        done_same alternative (calls_entry (owner.Object object) call) n = calls_object_same (call_record n (owner.Object object) call) object start
        done_same alternative (ends loops) n =
            ap (on_own n (own.out_of loops)) (leaves_same alternative None passes_end k.behind (λ x m. refl) n start)
            ∙ on_own_same n (own.out_of loops) (step.leaves noted plan barrier alternative None passes_end n start)
        done_same alternative (handles p) n = on_task_same n (λ t. record t { control = to_handler p.exception t.control; own = own.handles p t.own }) (λ t. record t { control = k.handling p.exception t.control; own = own.handles p t.own }) (λ x m. refl) start

        turn_same : (u : Turn) (a : Asked) (m : Move) → turn_taken (carried_out k) plan barrier limits u a m (K start) ≡ K (turn_taken noted plan barrier limits u a m start)
        turn_same resting a m = refl
        turn_same closing a m = closes_same m.task start
        turn_same completing a m = completes_same None m.task start
        turn_same (withdrawing object) a m = withdraws_same object m.task start
        turn_same (restarting r) a m = starts_again_same r m.task start
        turn_same (serving s) a m = serves_same m.alternative s m.task start
        turn_same (expiring ds) a m = delay_expires_same (alternative_or_none m.alternative) m.task start
        turn_same (cancelling id) a m = call_expires_same m.task start
        turn_same (acting next) a m = done_same m.alternative a m.task

        pub turn_carried : (u : Turn) (a : Asked) (m : Move) → ordered k c (turn_taken noted plan barrier limits u a m) ≡ turn_taken (carried_out k) plan barrier limits u a m c
        turn_carried u a m =
            sym (turn_same u a m)
            ∙ ap (λ (ts : List (TaskAt C)). turn_taken (carried_out k) plan barrier limits u a m (record c { tasks = ts })) (bare_same c.tasks)

pub carried_law : {C : Type 0} → CarriedLaw C
carried_law plan k limits c m = by (slice_get c.tasks m.task)
  where
    by : (t : Option (TaskAt _)) → step_of plan k limits t m c ≡ carried_by plan k limits t m c
    by None = refl
    by (Some t) = turn_carried k (record c { steps = suc c.steps }) plan k.barrier limits (turn_at plan k.barrier (slice_get (seen plan k c).tasks m.task) m.task (seen plan k c)) (k.asks t.own.pending (scene_of plan k m.task c) t.control) m

-- Steps and runs keep the limits.
use Rattle.std.proofs.Common.{◌≡◌, ℕ, zero, suc, ◌%◌, ◌≤◌, ℤ, pos, nat_le, List, [], ◌∷◌, ◌++◌, length, take, replicate, Option, Some, None, Bool, true, false, Result, refl, sym, ap, ◌∙◌, subst, if◌then◌else◌, slice_get, slice_index_or, arith}
use Rattle.std.specs.Prelude.{◌&&◌, nat_eq, int_le}
use Rattle.std.proofs.lemmas.Bool.{leb-true}
use Rattle.std.proofs.lemmas.List.{length-append, length-replicate, length-take}
use Rattle.aud_text.specs.declared.place.Pos.{Pos}
use Rattle.aud_text.specs.declared.raise.Raise.{Raise}
use Rattle.aud_text.specs.declared.raise.Raise.TheVariants.{Program, Storage}
use Rattle.aud_text.specs.declared.limits.Limits.{Limits}
use Rattle.aud_text.specs.declared.limits.TheConstants.{OBJECTS, OUTPUT, FRAMES, ELEMENTS}
use Rattle.aud_typed.specs.declared.program.Exception.{Exception}
use Rattle.aud_typed.specs.declared.program.Exception.TheVariants.{Predefined}
use Rattle.aud_typed.specs.Tree.{Plan}
use Rattle.aud_meaning.specs.declared.state.Status.{Status}
use Rattle.aud_meaning.specs.declared.state.Status.TheVariants.{Created, Running, Activating, Accepting, Delaying, Calling, Completed, Terminated}
use Rattle.aud_meaning.specs.declared.state.Owner.{Owner}
use Rattle.aud_meaning.specs.declared.state.Owner.TheVariants as owner
use Rattle.aud_meaning.specs.declared.state.Move.{Move}
use Rattle.aud_meaning.specs.Configuration.{Own, Object, Shared, TaskAt, All, Acting}
use Rattle.aud_meaning.specs.Evaluation.{Sight, nearest_zero}
use Rattle.aud_meaning.specs.Control.{Asked, raises_here, raises_in_part, declares, declares_array, declares_tasks, declares_object, ends_activation, activates, goes_on, assigns, puts, enters_loop, next_of_loop, goes_out, raises, raises_again, enters_block, calls_procedure, calls_operation, calls_own_entry, calls_entry, delays, accepts, selects, aborts, requeues, ends, handles, is_left_by, Called, Seen, Controls}
use Rattle.aud_meaning.specs.Effects.{changed_first, innermost, out_of_loops, out_of, live_frames, has_room}
use Rattle.aud_meaning.specs.Effects as effects
use Rattle.aud_meaning.specs.Orders.{Orders, carried_out}
use Rattle.aud_meaning.specs.Parts.{alone, is_created, own_of, owns}
use Rattle.aud_meaning.specs.Tasks as effect
use Rattle.aud_meaning.specs.Step as step
use Rattle.aud_meaning.specs.Step.{call_record, done}
use Rattle.aud_meaning.specs.Run.{Turn, resting, closing, completing, withdrawing, serving, restarting, expiring, cancelling, acting, alternative_or_none, turn_by, turn_at, turn_taken, seen_from, seen, scene_of, step_of, step_with, take_by, take_one, run_by, run_with, moves_at}
use Rattle.aud_meaning.specs.Why.Alone.{IsAlone, acts}
use Rattle.aud_meaning.specs.Why.Carried.{carried_by}
use Rattle.aud_meaning.specs.Why.Limits.{one_if, reserved, Fits, IsWithin, LimitsLaw}
use Rattle.aud_meaning.proofs.Alone.{alone_law}
use Rattle.aud_meaning.proofs.Carrying.{carried_law}
use Rattle.aud_meaning.proofs.Limits.Cells.{IsKept, KeepsCells, acts_kept, all_kept, declared, opened}
use Rattle.aud_meaning.proofs.Limits.Frames.{FitsBeside, beside, closed_fits, either_beside, first_fits, found_all, nth, nth_fits, numbers_rise, numbers_unbegun, out_fits, out_of_loops_fits, value_all_back, value_live}
use Rattle.aud_meaning.proofs.Limits.Kept.{aborts_within, accepts_call_within, activates_within, activation_ended_within, alone_within, call_expires_within, calls_object_within, calls_operation_within, calls_task_within, closes_within, completes_within, declared_within, declares_tasks_within, delay_expires_within, delays_for_within, leaves_within, on_control_within, on_own_within, raised_at_within, raises_in_part_within, roomy, selects_within, serves_within, starts_again_within, withdraws_within}

module _ {C : Type 0} (limits : Limits) (go : Orders C) (plan : Plan) (barrier : ℕ → Sight → Result Bool Raise) where
  abbrev Within : All C → All C → Type 0
  Within start c = IsKept C limits start c

  -- What a task does alone.

  if_room_fits : (at : Pos) (t u : Acting C) → FitsBeside t → (suc (live_frames t.own.opened) ≤ FRAMES → FitsBeside u) → FitsBeside (step.if_room go plan barrier at t u)
  if_room_fits at t u h g = by (has_room t.own) refl
    where
      by : (b : Bool) → has_room t.own ≡ b → FitsBeside (if b then u else effects.raises (Predefined Storage) at t)
      by true e = g (leb-true (suc (live_frames t.own.opened)) FRAMES e)
      by false e = (h.0, h.1, h.2)

  put_fits : (text : List ℕ) (t : Acting C) → FitsBeside t → FitsBeside (effects.puts text t)
  put_fits text t h = by (t.shared.output ++ text) (nat_le (length (t.shared.output ++ text)) OUTPUT) refl
    where
      by : (whole : List ℕ) (b : Bool) → nat_le (length whole) OUTPUT ≡ b → FitsBeside (record t { shared = if b then record t.shared { output = whole } else record t.shared { output = take OUTPUT whole; cut = true } })
      by whole true e = (h.0, h.1, leb-true (length whole) OUTPUT e)
      by whole false e = (h.0, h.1, omega (arith, length-take OUTPUT whole))

  value_fits : (value : Option ℤ) (t : Acting C) → FitsBeside t → FitsBeside (step.with_function_value go plan barrier value t)
  value_fits None t h = h
  value_fits (Some z) t h = ((omega (arith, h.0.0, value_live z t.own.opened), value_all_back z t.own.opened h.0.1), h.1, h.2)

  handled_fits : (x : Exception) (own : Own) → Fits own → Fits (record own { pending = None; opened = changed_first (λ f. record f { handling = Some x }) own.opened })
  handled_fits x own h = first_fits (λ f. record f { handling = Some x }) (λ o. refl) (reserved own.status) own.opened h

  acts_fits : (a : Asked) (t : Acting C) → is_created t.own.status ≡ false → FitsBeside t → FitsBeside (acts go plan barrier a t)
  acts_fits (raises_here raise at) t here h = (h.0, h.1, h.2)
  acts_fits (declares up_to z) t here h =
      let k : FitsBeside (effects.declares (z ∷ []) t) = declared_within (z ∷ []) t h in
      (k.0, k.1, k.2)
  acts_fits (declares_array at s n) t here h =
      let k : FitsBeside (effects.declares (replicate n (nearest_zero s)) t) = declared_within (replicate n (nearest_zero s)) t h in
      (k.0, k.1, k.2)
  acts_fits (goes_on part) t here h = (h.0, h.1, h.2)
  acts_fits (assigns target z) t here h = (h.0, h.1, h.2)
  acts_fits (puts text) t here h = let k : FitsBeside (effects.puts text t) = put_fits text t h in (k.0, k.1, k.2)
  acts_fits (enters_loop f a b) t here h =
      let e : reserved t.own.status ≡ 0 = ap one_if here in
      either_beside (int_le a b) _ _ (if_room_fits f.at t _ h (λ room. ((omega (arith, e, room), (tt, h.0.1)), h.1, h.2))) (h.0, h.1, h.2)
  acts_fits (next_of_loop f) t here h =
      either_beside (step.has_next f.backward (step.loop_cell go plan barrier 0 t) (step.loop_cell go plan barrier 1 t)) _ _ (h.0, h.1, h.2) (closed_fits t.own h.0, h.1, h.2)
  acts_fits (goes_out loops value) t here h =
      let k : FitsBeside (step.with_function_value go plan barrier value t) = value_fits value t h in
      (out_fits loops (step.with_function_value go plan barrier value t).own k.0, k.1, k.2)
  acts_fits (raises x at) t here h = (h.0, h.1, h.2)
  acts_fits (raises_again at) t here h = (h.0, h.1, h.2)
  acts_fits (enters_block at region) t here h =
      let e : reserved t.own.status ≡ 0 = ap one_if here in
      if_room_fits at t _ h (λ room. ((omega (arith, e, room), (tt, h.0.1)), h.1, h.2))
  acts_fits (calls_procedure at unit p into) t here h =
      let e : reserved t.own.status ≡ 0 = ap one_if here in
      if_room_fits at t _ h (λ room. ((omega (arith, e, room), (tt, h.0.1)), h.1, h.2))
  acts_fits (calls_own_entry at) t here h = (h.0, h.1, h.2)
  acts_fits (requeues loops r) t here h = (out_fits loops (step.requeued go plan barrier r t).own h.0, h.1, h.2)
  acts_fits (handles p) t here h = (handled_fits p.exception (out_of_loops t.own) (out_of_loops_fits t.own h.0), h.1, h.2)
  acts_fits a t here h = h

  abbrev with_object : ℕ → List ℤ → ℕ → All C → All C
  with_object declaration cells n c =
      record c {
        shared = record c.shared {
          frames = c.shared.frames ++ cells ∷ [];
          objects = c.shared.objects ++ record { declaration = declaration; display = (own_of n c).display ++ length c.shared.frames ∷ []; actions = [] } ∷ [];
        };
      }

  with_object_within : (declaration : ℕ) (cells : List ℤ) (n : ℕ) (c : All C) → suc (length c.shared.objects) ≤ OBJECTS → Within c c → Within c (with_object declaration cells n c)
  with_object_within declaration cells n c room w =
      let object : Object = record { declaration = declaration; display = (own_of n c).display ++ length c.shared.frames ∷ []; actions = [] } in
      record {
        within = λ i.
            let v : IsWithin C limits c = w.within i in
            record { tasks = v.tasks; objects = omega (arith, length-append c.shared.objects (object ∷ []), room); output = v.output; frames = v.frames };
        cells = opened cells w.cells;
      }

  -- where no frame has more cells yet
  numbered_within : {start : All C} (cells : List ℤ) (n : ℕ) (c : All C) → length cells ≤ ELEMENTS → KeepsCells 0 start.shared.frames c.shared.frames → Within start c → Within start (alone (λ t. step.moves_on go plan barrier 0 (effects.declares cells t)) n c)
  numbered_within {start} cells n c few same w =
      alone_within limits start (λ t. step.moves_on go plan barrier 0 (effects.declares cells t)) n c
      (λ i t is h.
      let k : FitsBeside (effects.declares cells (beside t c.shared)) = declared_within cells (beside t c.shared) h in
      (k.0, k.1, k.2)) (λ t. declared (innermost t.own.opened) cells few same) w

  object_declared_within : (at : Pos) (declaration : ℕ) (cells : List ℤ) (n : ℕ) (c : All C) → Within c c → Within c (step.object_declared go plan barrier at declaration cells n c)
  object_declared_within at declaration cells n c w =
      roomy limits c go plan barrier (nat_le (suc (length c.shared.objects)) OBJECTS) _ _
      (λ e.
      numbered_within (pos (length c.shared.objects) ∷ []) n (with_object declaration cells n c) (omega arith) (opened cells all_kept)
      (with_object_within declaration cells n c (leb-true (suc (length c.shared.objects)) OBJECTS e) w))
      (raises_in_part_within limits c go plan barrier Storage at n c w)

  call_made_within : (alternative : Option ℕ) (o : Owner) (call : Called) (n : ℕ) (c : All C) → Within c c → Within c (step.call_made go plan barrier alternative o call n c)
  call_made_within alternative (owner.Task task) call n c w = calls_task_within limits c go plan barrier alternative (call_record n (owner.Task task) call) task c w
  call_made_within alternative (owner.Object object) call n c w = calls_object_within limits c go plan barrier (call_record n (owner.Object object) call) object c w

  alone_done : (alternative : Option ℕ) (a : Asked) → IsAlone a → (n : ℕ) (c : All C) → is_created (own_of n c).status ≡ false → Within c c → Within c (done go plan barrier limits alternative a n c)
  alone_done alternative a is n c here w =
      subst (Within c) (sym (alone_law go plan barrier limits alternative a is n c))
      (alone_within limits c (acts go plan barrier a) n c (λ i t same h. acts_fits a (beside t c.shared) (ap (λ (o : Own). is_created o.status) same ∙ here) h)
      (λ t. acts_kept go plan barrier a is (beside t c.shared)) w)

  done_within : (alternative : Option ℕ) (a : Asked) (n : ℕ) (c : All C) → is_created (own_of n c).status ≡ false → Within c c → Within c (done go plan barrier limits alternative a n c)
  done_within alternative (raises_here raise at) n c here w = raised_at_within limits c raise at n c w
  done_within alternative (raises_in_part raise at) n c here w = raises_in_part_within limits c go plan barrier raise at n c w
  done_within alternative (declares up_to z) n c here w = alone_done alternative (declares up_to z) tt n c here w
  done_within alternative (declares_array at t size) n c here w =
      roomy limits c go plan barrier (nat_le size ELEMENTS) _ _
      (λ e. numbered_within (replicate size (nearest_zero t)) n c (omega (arith, length-replicate size (nearest_zero t), leb-true size ELEMENTS e)) all_kept w)
      (raises_in_part_within limits c go plan barrier Storage at n c w)
  done_within alternative (declares_tasks at ts) n c here w = declares_tasks_within limits c go plan barrier at ts n c all_kept w
  done_within alternative (declares_object at declaration cells) n c here w = object_declared_within at declaration cells n c w
  done_within alternative ends_activation n c here w =
      on_control_within limits c n (go.takes 0) (effect.activation_ended go plan barrier false n c) (activation_ended_within limits c go plan barrier false n c w)
  done_within alternative (activates at) n c here w =
      let part : ℕ = innermost (own_of n c).opened in
      activates_within limits c go plan barrier at n (effect.not_activated go plan barrier part c) c here
      (numbers_rise (λ (t : TaskAt C). is_created t.own.status && nat_eq t.own.part part) 0 c.tasks)
      (numbers_unbegun (λ (t : TaskAt C). nat_eq t.own.part part) 0 c.tasks (λ x. own_of x c) (found_all c.tasks)) w
  done_within alternative (goes_on part) n c here w = on_control_within limits c n (go.takes part) c w
  done_within alternative (assigns target z) n c here w = alone_done alternative (assigns target z) tt n c here w
  done_within alternative (puts text) n c here w = alone_done alternative (puts text) tt n c here w
  done_within alternative (enters_loop f a b) n c here w = alone_done alternative (enters_loop f a b) tt n c here w
  done_within alternative (next_of_loop f) n c here w = alone_done alternative (next_of_loop f) tt n c here w
  done_within alternative (goes_out loops value) n c here w = alone_done alternative (goes_out loops value) tt n c here w
  done_within alternative (raises x at) n c here w = alone_done alternative (raises x at) tt n c here w
  done_within alternative (raises_again at) n c here w = alone_done alternative (raises_again at) tt n c here w
  done_within alternative (enters_block at region) n c here w = alone_done alternative (enters_block at region) tt n c here w
  done_within alternative (calls_procedure at unit p into) n c here w = alone_done alternative (calls_procedure at unit p into) tt n c here w
  done_within alternative (calls_operation at object unit p into) n c here w = calls_operation_within limits c go plan barrier at object unit p into n c here w
  done_within alternative (calls_own_entry at) n c here w = raised_at_within limits c Program at n c w
  done_within alternative (calls_entry o call) n c here w = call_made_within alternative o call n c w
  done_within alternative (delays ms at) n c here w = delays_for_within limits c go plan barrier ms at n c w
  done_within alternative (accepts a) n c here w = accepts_call_within limits c go plan barrier a n c w
  done_within alternative (selects has_else waits at) n c here w = selects_within limits c go plan barrier alternative has_else waits at n c w
  done_within alternative (aborts ns at) n c here w = aborts_within limits c go plan barrier ns at n c w
  done_within alternative (requeues loops r) n c here w = alone_done alternative (requeues loops r) tt n c here w
  done_within alternative (ends loops) n c here w =
      on_own_within limits c n (out_of loops) (step.leaves go plan barrier alternative None go.behind n c) (λ own h. out_fits loops own h) (leaves_within limits c go plan barrier alternative None go.behind n c w)
  done_within alternative (handles p) n c here w = alone_done alternative (handles p) tt n c here w
  done_within alternative (is_left_by p) n c here w = leaves_within limits c go plan barrier alternative (Some p) (go.left p.exception) n c w

  taken_within : (u : Turn) (a : Asked) (m : Move) (c : All C) → is_created (own_of m.task c).status ≡ false → Within c c → Within c (turn_taken go plan barrier limits u a m c)
  taken_within resting a m c here w = w
  taken_within closing a m c here w = closes_within limits c go plan barrier m.task c w
  taken_within completing a m c here w = completes_within limits c go plan barrier None m.task c w
  taken_within (withdrawing object) a m c here w = withdraws_within limits c go plan barrier object m.task c w
  taken_within (restarting r) a m c here w = starts_again_within limits c go plan barrier r m.task c here w
  taken_within (serving s) a m c here w = serves_within limits c go plan barrier m.alternative s m.task c here w
  taken_within (expiring ds) a m c here w = delay_expires_within limits c go plan barrier (alternative_or_none m.alternative) m.task c w
  taken_within (cancelling id) a m c here w = call_expires_within limits c go plan barrier m.task c w
  taken_within (acting next) a m c here w = done_within m.alternative a m.task c here w

  -- a task that isn't activated rests
  turned_within : (x : TaskAt Seen) (s : All Seen) (a : Asked) (m : Move) (c : All C) (status : Status) → (own_of m.task c).status ≡ status → Within c c → Within c (turn_taken go plan barrier limits (turn_by plan barrier status m.task x s) a m c)
  turned_within x s a m c Created e w = w
  turned_within x s a m c Running e w = taken_within (turn_by plan barrier Running m.task x s) a m c (ap is_created e) w
  turned_within x s a m c Activating e w = taken_within (turn_by plan barrier Activating m.task x s) a m c (ap is_created e) w
  turned_within x s a m c Accepting e w = taken_within (turn_by plan barrier Accepting m.task x s) a m c (ap is_created e) w
  turned_within x s a m c Delaying e w = taken_within (turn_by plan barrier Delaying m.task x s) a m c (ap is_created e) w
  turned_within x s a m c Calling e w = taken_within (turn_by plan barrier Calling m.task x s) a m c (ap is_created e) w
  turned_within x s a m c Completed e w = taken_within (turn_by plan barrier Completed m.task x s) a m c (ap is_created e) w
  turned_within x s a m c Terminated e w = w

-- Steps and runs.

module _ {C : Type 0} (plan : Plan) (k : Controls C) (limits : Limits) where
  abbrev SeenAs : Option (TaskAt Seen) → Own → Type 0
  SeenAs None own = Unit {0}
  SeenAs (Some x) own = own ≡ x.own

  seen_as : (n i : ℕ) (ts : List (TaskAt C)) (os : List Own) (shared : Shared) → SeenAs (slice_get (seen_from plan k i ts os shared) n) (nth n ts)
  seen_as n i [] os shared = tt
  seen_as zero i (t ∷ ts) os shared = refl
  seen_as (suc n) i (t ∷ ts) os shared = seen_as n (suc i) ts os shared

  at_start : (c : All C) → IsKept C limits c c
  at_start c = record { within = λ w. w; cells = all_kept }

  carried_kept : (o : Option (TaskAt C)) (m : Move) (c : All C) → IsKept C limits c (carried_by plan k limits o m c)
  carried_kept None m c = at_start c
  carried_kept (Some t) m c =
      let v = by (k.asks t.own.pending (scene_of plan k m.task c) t.control) (slice_get (seen plan k c).tasks m.task) (seen_as m.task 0 c.tasks (owns c.tasks) c.shared) in
      record { within = λ w. v.within (record { tasks = w.tasks; objects = w.objects; output = w.output; frames = w.frames }); cells = v.cells }
    where
      next : All C
      next = record c { steps = suc c.steps }

      by : (a : Asked) (x : Option (TaskAt Seen)) → SeenAs x (own_of m.task c) → IsKept C limits next (turn_taken (carried_out k) plan k.barrier limits (turn_at plan k.barrier x m.task (seen plan k c)) a m next)
      by a None e = at_start next
      by a (Some x) e = turned_within limits (carried_out k) plan k.barrier x (seen plan k c) a m next x.own.status (ap (λ (o : Own). o.status) e) (at_start next)

  step_kept : (c : All C) (m : Move) → IsKept C limits c (step_with plan k limits c m)
  step_kept c m = subst (λ d. IsKept C limits c d) (sym (carried_law plan k limits c m)) (carried_kept (slice_get c.tasks m.task) m c)

  step_within : (c : All C) (m : Move) → IsWithin C limits c → IsWithin C limits (step_with plan k limits c m)
  step_within c m w = (step_kept c m).within w

  same_within : (choices : List ℕ) (clock : ℕ) (c : All C) → IsWithin C limits c → IsWithin C limits (record c { choices = choices; clock = clock })
  same_within choices clock c w = record { tasks = w.tasks; objects = w.objects; output = w.output; frames = w.frames }

  by_within : (first : Move) (ms : List Move) (choices : List ℕ) (c : All C) → IsWithin C limits c → IsWithin C limits (take_by plan k limits first ms choices c)
  by_within first ms [] c w = step_within c first w
  by_within first ms (choice ∷ choices) c w = step_within (record c { choices = choices }) (slice_index_or ms (choice % length ms) first) (same_within choices c.clock c w)

  one_within : (m : Move) (ms : List Move) (c : All C) → IsWithin C limits c → IsWithin C limits (take_one plan k limits m ms c)
  one_within m [] c w = step_within c m w
  one_within m (x ∷ ms) c w = by_within m (m ∷ x ∷ ms) c.choices c w

  run_within : (n : ℕ) (c : All C) → IsWithin C limits c → IsWithin C limits (run_with plan k limits n c)
  run_within zero c w = w
  run_within (suc n) c w = by (run_within n) (moves_at plan k c)
    where
      by : ((d : All C) → IsWithin C limits d → IsWithin C limits (run_with plan k limits n d)) → (ms : List Move) → IsWithin C limits (run_by plan k limits (run_with plan k limits n) ms c)
      by on [] = w
      by on (m ∷ ms) = on (take_one plan k limits m ms c) (one_within m ms c w)

  counts : (o : Option (TaskAt C)) (m : Move) (c : All C) → (step_of plan k limits o m c).steps ≤ suc c.steps
  counts None m c = omega arith
  counts (Some t) m c = omega arith

pub limits_law : {C : Type 0} → LimitsLaw C
limits_law = λ plan k limits. record {
  opening = λ name left one. record { tasks = one; objects = omega arith; output = omega arith; frames = ((omega arith, (tt, tt)), tt) };
  step = step_within plan k limits;
  run = run_within plan k limits;
  supply = λ choices c w. record { tasks = w.tasks; objects = w.objects; output = w.output; frames = w.frames };
  wait = λ milliseconds c w. record { tasks = w.tasks; objects = w.objects; output = w.output; frames = w.frames };
  live = λ c w n. let h : Fits (own_of n c) = nth_fits n c.tasks w.frames in omega (arith, h.0);
  elements = λ c m. (step_kept plan k limits c m).cells.cells;
  counted = λ c m. counts plan k limits (slice_get c.tasks m.task) m c;
}

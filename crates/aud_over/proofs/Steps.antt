-- Each kind of step keeps programs the same but for what nothing names.
use Rattle.std.proofs.Common.{ℕ, suc, ℤ, pos, List, [], ◌∷◌, ◌++◌, length, replicate, Option, Some, None, Bool, false, sym, ap}
use Rattle.std.specs.Prelude.{Result, nat_le}
use Rattle.aud_text.specs.declared.place.Pos.{Pos}
use Rattle.aud_text.specs.declared.raise.Raise.{Raise}
use Rattle.aud_text.specs.declared.raise.Raise.TheVariants.{Program, Storage}
use Rattle.aud_text.specs.declared.limits.Limits.{Limits}
use Rattle.aud_text.specs.declared.limits.TheConstants.{OBJECTS, ELEMENTS}
use Rattle.aud_typed.specs.Tree.{Plan}
use Rattle.aud_meaning.specs.Orders.{noted}
use Rattle.aud_meaning.specs.declared.state.Owner.{Owner}
use Rattle.aud_meaning.specs.declared.state.Owner.TheVariants as owner
use Rattle.aud_meaning.specs.declared.state.Pending.{Pending}
use Rattle.aud_meaning.specs.Configuration.{Own, TaskAt, All}
use Rattle.aud_meaning.specs.Evaluation.{Sight, nearest_zero}
use Rattle.aud_meaning.specs.Effects as own
use Rattle.aud_meaning.specs.Control.{Called, Asked, raises_here, raises_in_part, declares, declares_array, declares_tasks, declares_object, ends_activation, activates, goes_on, assigns, puts, enters_loop, next_of_loop, goes_out, raises, raises_again, enters_block, calls_procedure, calls_operation, calls_own_entry, calls_entry, delays, accepts, selects, aborts, ends, handles, is_left_by, Moved, takes_part, passes_end, to_handler, out_by, requeues}
use Rattle.aud_meaning.specs.Tasks as effect
use Rattle.aud_meaning.specs.Parts.{own_of, on_shared, alone, on_task}
use Rattle.aud_meaning.specs.Step as step
use Rattle.aud_meaning.specs.Step.{done, call_record, not_handled}
use Rattle.aud_over.specs.Over.{with_kept}
use Rattle.aud_over.proofs.Frames.{agree_length, agree_behind}
use Rattle.aud_over.proofs.Calls.{EachOf}
use Rattle.aud_over.proofs.Beside.{Kept, Beside, each_joined, beside, at_kept, if_beside, own_names, joined_objects, task_kept, own_kept, control_kept, alone_kept, one_more}
use Rattle.aud_over.proofs.Effects.{names_out_of, names_handles, declared_one, variable_one, assigns_one, put_one, loop_entered_one, loop_continued_one, goes_out_one, block_one, requeue_one}
use Rattle.aud_over.proofs.Tasks.{raised_kept, raises_in_part_kept, activation_ended_kept, activates_kept, declares_tasks_kept}
use Rattle.aud_over.proofs.Constructs.{BarrierLooks, calls_procedure_kept, calls_task_kept, accepts_call_kept, selects_kept, delays_kept}
use Rattle.aud_over.proofs.Objects.{calls_object_kept, calls_operation_kept, aborts_kept, at_end_kept}

module _ (p : Kept) (plan : Plan) (barrier : ℕ → Sight → Result Bool Raise) (through : BarrierLooks barrier) where
  abbrev with_object : ℕ → List ℤ → Own → ℕ → All Moved → All Moved
  with_object declaration cells own frame c = on_shared (λ s. record s {
    frames = s.frames ++ cells ∷ [];
    objects = s.objects ++ record { declaration = declaration; display = own.display ++ frame ∷ []; actions = [] } ∷ [];
  }) c

  object_added : (declaration : ℕ) (cells : List ℤ) (o : Own) (c d : All Moved) → EachOf p.named o.display → Beside p c d → Beside p (with_object declaration cells o (length c.shared.frames) c) (with_object declaration cells o (length d.shared.frames) d)
  object_added declaration cells o c d h r = at_kept p (λ x. with_object declaration cells o (length x.shared.frames) x) c d r (λ fs cs m. record {
    fs = fs ++ cells ∷ [];
    cs = cs;
    same = ap (λ n. with_object declaration cells o n (with_kept fs cs c)) (sym (agree_length p.named c.shared.frames fs m.frames));
    may = record {
      frames = agree_behind p.named c.shared.frames fs (cells ∷ []) m.frames;
      calls = m.calls;
      tasks = m.tasks;
      objects = joined_objects p c.shared.objects (record { declaration = declaration; display = o.display ++ length c.shared.frames ∷ []; actions = [] } ∷ []) m.objects
          (each_joined p.named o.display (length c.shared.frames ∷ []) h (p.new (length c.shared.frames) m.room, tt), tt);
      room = one_more p.frames cells c.shared.frames m.room;
      call_room = m.call_room;
    };
  })

  object_kept : (at : Pos) (declaration : ℕ) (cells : List ℤ) (n : ℕ) (c d : All Moved) → Beside p c d → Beside p (step.object_declared noted plan barrier at declaration cells n c) (step.object_declared noted plan barrier at declaration cells n d)
  object_kept at declaration cells n c d r = at_kept p (step.object_declared noted plan barrier at declaration cells n) c d r (λ fs cs m.
      let e : All Moved = with_kept fs cs c in
      let s : Beside p c e = beside p c fs cs m in
      let number = pos (length c.shared.objects) ∷ [] in
      let f = λ (x : All Moved). with_object declaration cells (own_of n c) (length x.shared.frames) x in
      let g = λ (x : All Moved). alone (λ t. step.moves_on noted plan barrier 0 (own.declares number t)) n (f x) in
      if_beside p (nat_le (suc (length c.shared.objects)) OBJECTS) (g c) (effect.raises_in_part noted plan barrier Storage at n c) (g e) (effect.raises_in_part noted plan barrier Storage at n e)
      (alone_kept p (λ t. step.moves_on noted plan barrier 0 (own.declares number t)) n (f c) (f e) (declared_one p plan barrier number)
      (object_added declaration cells (own_of n c) c e (own_names p c.tasks n m.tasks).0 s))
      (raises_in_part_kept p plan barrier Storage at n c e s))

  made_kept : (alternative : Option ℕ) (o : Owner) (call : Called) (n : ℕ) (c d : All Moved) → Beside p c d → Beside p (step.call_made noted plan barrier alternative o call n c) (step.call_made noted plan barrier alternative o call n d)
  made_kept alternative (owner.Task task) call n c d r = calls_task_kept p plan barrier alternative (call_record n (owner.Task task) call) task c d r
  made_kept alternative (owner.Object object) call n c d r = calls_object_kept p plan barrier through (call_record n (owner.Object object) call) object c d r

  leaves_kept : (alternative : Option ℕ) (pending : Option Pending) (to : Moved → Moved) (n : ℕ) (c d : All Moved) → Beside p c d → Beside p (step.leaves noted plan barrier alternative pending to n c) (step.leaves noted plan barrier alternative pending to n d)
  leaves_kept alternative pending to n c d r =
      let f : TaskAt Moved → TaskAt Moved = λ t. record t { control = to t.control; own = record t.own { pending = None } } in
      at_end_kept p plan barrier through alternative pending n (on_task n f c) (on_task n f d) (task_kept p n f c d (λ t h. h) r)

  pub done_kept : (limits : Limits) (alternative : Option ℕ) (asked : Asked) (n : ℕ) (c d : All Moved) → Beside p c d → Beside p (done noted plan barrier limits alternative asked n c) (done noted plan barrier limits alternative asked n d)
  done_kept limits alternative (raises_here raise at) n c d r = raised_kept p raise at n c d r
  done_kept limits alternative (raises_in_part raise at) n c d r = raises_in_part_kept p plan barrier raise at n c d r
  done_kept limits alternative (declares up_to z) n c d r = alone_kept p (step.variable_declared noted plan barrier up_to z) n c d (variable_one p plan barrier up_to z) r
  done_kept limits alternative (declares_array at t count) n c d r =
      let f = λ (x : All Moved). alone (λ a. step.moves_on noted plan barrier 0 (own.declares (replicate count (nearest_zero t)) a)) n x in
      if_beside p (nat_le count ELEMENTS) (f c) (effect.raises_in_part noted plan barrier Storage at n c) (f d) (effect.raises_in_part noted plan barrier Storage at n d)
      (alone_kept p (λ a. step.moves_on noted plan barrier 0 (own.declares (replicate count (nearest_zero t)) a)) n c d (declared_one p plan barrier (replicate count (nearest_zero t))) r)
      (raises_in_part_kept p plan barrier Storage at n c d r)
  done_kept limits alternative (declares_tasks at ts) n c d r = declares_tasks_kept p plan barrier limits at ts n c d r
  done_kept limits alternative (declares_object at declaration cells) n c d r = object_kept at declaration cells n c d r
  done_kept limits alternative ends_activation n c d r =
      control_kept p n (takes_part 0) (effect.activation_ended noted plan barrier false n c) (effect.activation_ended noted plan barrier false n d) (activation_ended_kept p plan barrier false n c d r)
  done_kept limits alternative (activates at) n c d r = at_kept p (done noted plan barrier limits alternative (activates at) n) c d r (λ fs cs m.
      activates_kept p plan barrier at n (effect.not_activated noted plan barrier (own.innermost (own_of n c).opened) c) c (with_kept fs cs c) (beside p c fs cs m))
  done_kept limits alternative (goes_on part) n c d r = control_kept p n (takes_part part) c d r
  done_kept limits alternative (assigns target z) n c d r = alone_kept p (λ t. step.moves_on noted plan barrier 0 (step.stored_at noted plan barrier target z t)) n c d (assigns_one p plan barrier target z) r
  done_kept limits alternative (puts text) n c d r = alone_kept p (λ t. step.moves_on noted plan barrier 0 (own.puts text t)) n c d (put_one p plan barrier text) r
  done_kept limits alternative (enters_loop f a b) n c d r = alone_kept p (step.loop_entered noted plan barrier f a b) n c d (loop_entered_one p plan barrier f a b) r
  done_kept limits alternative (next_of_loop f) n c d r = alone_kept p (step.loop_continued noted plan barrier f) n c d (loop_continued_one p plan barrier f) r
  done_kept limits alternative (goes_out loops value) n c d r =
      alone_kept p (λ t. step.out_of_loops noted plan barrier loops (step.with_function_value noted plan barrier value t)) n c d (goes_out_one p plan barrier loops value) r
  done_kept limits alternative (raises x at) n c d r = own_kept p n (own.pends x at) c d (λ o h. h) r
  done_kept limits alternative (raises_again at) n c d r = at_kept p (done noted plan barrier limits alternative (raises_again at) n) c d r (λ fs cs m.
      own_kept p n (own.pends (not_handled (own.handled (own_of n c).opened None)) at) c (with_kept fs cs c) (λ o h. h) (beside p c fs cs m))
  done_kept limits alternative (enters_block at region) n c d r =
      alone_kept p (λ t. step.if_room noted plan barrier at t (step.moves_on noted plan barrier 1 (own.opens _ region at t.own.display [] 0 t))) n c d (block_one p plan barrier at region) r
  done_kept limits alternative (calls_procedure at unit passed into) n c d r = calls_procedure_kept p plan barrier at unit passed into n c d r
  done_kept limits alternative (calls_operation at object unit passed into) n c d r = calls_operation_kept p plan barrier through at object unit passed into n c d r
  done_kept limits alternative (calls_own_entry at) n c d r = raised_kept p Program at n c d r
  done_kept limits alternative (calls_entry o call) n c d r = made_kept alternative o call n c d r
  done_kept limits alternative (delays ms at) n c d r = delays_kept p plan barrier ms at n c d r
  done_kept limits alternative (accepts a) n c d r = accepts_call_kept p plan barrier a n c d r
  done_kept limits alternative (selects has_else waits at) n c d r = selects_kept p plan barrier alternative has_else waits at n c d r
  done_kept limits alternative (aborts ns at) n c d r = aborts_kept p plan barrier through ns at n c d r
  done_kept limits alternative (requeues loops x) n c d r =
      alone_kept p (λ t. step.out_of_loops noted plan barrier loops (step.requeued noted plan barrier x t)) n c d (requeue_one p plan barrier loops x) r
  done_kept limits alternative (ends loops) n c d r =
      own_kept p n (own.out_of loops) (step.leaves noted plan barrier alternative None passes_end n c) (step.leaves noted plan barrier alternative None passes_end n d) (names_out_of p loops) (leaves_kept alternative None passes_end n c d r)
  done_kept limits alternative (handles x) n c d r =
      task_kept p n (λ t. record t { control = to_handler x.exception t.control; own = own.handles x t.own }) c d (λ t h. names_handles p x t.own h) r
  done_kept limits alternative (is_left_by x) n c d r = leaves_kept alternative (Some x) (out_by x.exception) n c d r

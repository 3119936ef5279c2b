-- Tasks that are declared see frames that are held open by what they depend on; and each kind of step.
use Rattle.std.proofs.Common.{◌≡◌, ◌<◌, ℕ, zero, suc, ◌+◌, ℤ, pos, List, [], ◌∷◌, ◌++◌, map, length, replicate, slice_get, Option, Some, None, Bool, true, false, ◌||◌, refl, sym, ap, ◌∙◌, subst, arith, inl, inr}
use Rattle.std.specs.Prelude.{◌⊎◌, if◌then◌else◌, take, filter, not, ◌&&◌, nat_eq, nat_le, Result}
use Rattle.std.proofs.lemmas.Bool.{eqb-true, eq-eqb}
use Rattle.aud_text.specs.declared.place.Pos.{Pos}
use Rattle.aud_text.specs.declared.raise.Raise.{Raise}
use Rattle.aud_text.specs.declared.raise.Raise.TheVariants.{Program, Storage, Tasking}
use Rattle.aud_text.specs.declared.limits.Limits.{Limits}
use Rattle.aud_text.specs.declared.limits.TheConstants.{OBJECTS, ELEMENTS}
use Rattle.aud_typed.specs.Tree.{Plan, Tasks}
use Rattle.aud_meaning.specs.Orders.{noted}
use Rattle.aud_meaning.specs.declared.state.Status.TheVariants.{Completed}
use Rattle.aud_meaning.specs.declared.state.Owner.{Owner}
use Rattle.aud_meaning.specs.declared.state.Owner.TheVariants as owner
use Rattle.aud_meaning.specs.declared.state.Pending.{Pending}
use Rattle.aud_meaning.specs.Configuration.{Purpose, for_body, for_block, for_loop, for_procedure, for_operation, for_entry, for_accept, Opened, Own, Object, TaskAt, All, Call, Acting}
use Rattle.aud_meaning.specs.Evaluation.{Sight, nearest_zero}
use Rattle.aud_meaning.specs.Control.{Called, Asked, raises_here, raises_in_part, declares, declares_array, declares_tasks, declares_object, ends_activation, activates, goes_on, assigns, puts, enters_loop, next_of_loop, goes_out, raises, raises_again, enters_block, calls_procedure, calls_operation, calls_own_entry, calls_entry, delays, accepts, selects, aborts, ends, handles, is_left_by, Moved, takes_part, passes_end, to_handler, out_by, requeues, does_accept}
use Rattle.aud_meaning.specs.Effects as own
use Rattle.aud_meaning.specs.Effects.{closed, innermost, out_of_loops, out_of_loops_by, is_loop}
use Rattle.aud_meaning.specs.Tasks as effect
use Rattle.aud_meaning.specs.Step as step
use Rattle.aud_meaning.specs.Step.{done, call_record, not_handled}
use Rattle.aud_meaning.specs.Parts.{alone, contains, in_action, is_master, is_terminated, masters_under_way, nobody, on_control, on_own, on_shared, on_task, own_of, owns, raised_at, task_plan, unit_of, Outcome, succeeds, any, call_of, end_action, no_waits, numbers, fails, changed, alone_by, acting, runs, arrives, alternative_of, on_call, is_accepting, is_callable, open_alternatives, cancels}
use Rattle.aud_over.specs.Over.{object_names}
use Rattle.aud_over.specs.Standing.{IsEmpty, around, at, bones, Contains, IsFrame, outermost, IsHeld, IsPinned, MaySee, EachIs, StandsBut, LeavesNoMaster, IsBlock, LeavesFit, LastIsMaster, FirstIsMaster, AreKept, AskedFits}
use Rattle.aud_over.proofs.Calls.{true_is_not_false}
use Rattle.aud_over.proofs.Bones.{each_map, held_more, IsNew, nobody_new, grown, objects_more, objects_same, Tame}
use Rattle.aud_over.proofs.Taming.{IsTame, around_same, refuse_tame, refuse_queues_tame, returned_or_tame, end_tame, serviced_tame, end_call_tame, after, around_more, on_task_tame, on_control_tame, raised_tame, pends_tame, keeps, activation_tame, goes_to_tame, arrives_tame, on_call_tame, cancels_tame, on_own_tame, goes_on as stays_live}
use Rattle.aud_over.proofs.Holding.{HaveEnded, all_ended, close_ended, own_changed, own_at, bones_at, one_changed, got_own}
use Rattle.aud_over.proofs.Leaving.{LeftKept, NoMaster, AnyMaster, left_frame, out_left, out_of_any, own_left_or_kept, LeftAs, left_holds, out_of_left, longer}
use Rattle.aud_over.proofs.Keeping.{none, Held, IsLive, held_tame, alone_still, declares_still, sees_its, each_front, block_held, loop_entered_held, loop_continued_held, goes_out_held, variable_held, declared_held, assigns_held, puts_held, handles_left, requeue_held}
use Rattle.aud_over.proofs.Lasting.{changed_is, if_held, raises_in_part_held, activates_held, at_end_held, out_at, block_with_loops, calls_procedure_held, calls_operation_held, calls_object_held, calls_task_held, accepts_call_held, selects_held, delays_held, aborts_held, entry_ended_tame}
use Rattle.aud_meaning.specs.declared.state.Again.{Again}
use Rattle.aud_meaning.specs.declared.state.OpenAccept.{OpenAccept}
use Rattle.aud_typed.specs.declared.program.Exception.TheVariants.{Predefined}
use Rattle.aud_meaning.specs.declared.state.CallState.TheVariants.{Selected}

module _ (pins : List ℕ) where
  -- Masters.

  or_first : (x y : Bool) → x ≡ true → (x || y) ≡ true
  or_first true y h = refl
  or_first false y h = true_is_not_false (sym h)

  or_second : (x y : Bool) → y ≡ true → (x || y) ≡ true
  or_second true y h = refl
  or_second false y h = h

  or_either : (x y : Bool) → (x || y) ≡ true → (x ≡ true) ⊎ (y ≡ true)
  or_either true y h = inl refl
  or_either false y h = inr h

  contains_joined : (f : ℕ) (ns ms : List ℕ) → Contains f (ns ++ ms) → Contains f ns ⊎ Contains f ms
  contains_joined f [] ms h = inr h
  contains_joined f (n ∷ ns) ms h = by (or_either (nat_eq f n) (contains f (ns ++ ms)) h) (contains_joined f ns ms)
    where
      by : (nat_eq f n ≡ true) ⊎ Contains f (ns ++ ms) → (Contains f (ns ++ ms) → Contains f ns ⊎ Contains f ms) → Contains f (n ∷ ns) ⊎ Contains f ms
      by (inl e) rest = inl (or_first (nat_eq f n) (contains f ns) e)
      by (inr e) rest = of (rest e)
        where
          of : Contains f ns ⊎ Contains f ms → Contains f (n ∷ ns) ⊎ Contains f ms
          of (inl x) = inl (or_second (nat_eq f n) (contains f ns) x)
          of (inr x) = inr x

  contains_first : (f : ℕ) (ns ms : List ℕ) → Contains f ns → Contains f (ns ++ ms)
  contains_first f [] ms h = true_is_not_false (sym h)
  contains_first f (n ∷ ns) ms h = by (nat_eq f n) h (contains_first f ns ms)
    where
      by : (b : Bool) → (b || contains f ns) ≡ true → (Contains f ns → Contains f (ns ++ ms)) → (b || contains f (ns ++ ms)) ≡ true
      by true g rest = refl
      by false g rest = rest g

  contains_second : (f : ℕ) (ns ms : List ℕ) → Contains f ms → Contains f (ns ++ ms)
  contains_second f [] ms h = h
  contains_second f (n ∷ ns) ms h = or_second (nat_eq f n) (contains f (ns ++ ms)) (contains_second f ns ms h)

  -- frames of masters
  abbrev master_frames : List Opened → List ℕ
  master_frames os = map (λ (o : Opened). o.frame) (filter is_master os)

  frame_of : (f : ℕ) (os : List Opened) → Contains f (master_frames os) → IsFrame f (bones os)
  frame_of f [] h = true_is_not_false (sym h)
  frame_of f (o ∷ os) h = by (is_master o) h (frame_of f os)
    where
      by : (b : Bool) → Contains f (map (λ (x : Opened). x.frame) (if b then o ∷ filter is_master os else filter is_master os)) → (Contains f (master_frames os) → IsFrame f (bones os)) → IsFrame f (bones (o ∷ os))
      by true g rest = of (or_either (nat_eq f o.frame) (contains f (master_frames os)) g)
        where
          of : (nat_eq f o.frame ≡ true) ⊎ Contains f (master_frames os) → IsFrame f (bones (o ∷ os))
          of (inl e) = inl (eqb-true f o.frame e)
          of (inr e) = inr (rest e)
      by false g rest = inr (rest g)

  first_master : (o : Opened) (os : List Opened) → is_master o ≡ true → Contains o.frame (master_frames (o ∷ os))
  first_master o os h = by (is_master o) h
    where
      by : (b : Bool) → b ≡ true → Contains o.frame (map (λ (x : Opened). x.frame) (if b then o ∷ filter is_master os else filter is_master os))
      by true e = or_first (nat_eq o.frame o.frame) (contains o.frame (master_frames os)) (eq-eqb o.frame o.frame refl)
      by false e = true_is_not_false (sym e)

  more_masters : (f : ℕ) (o : Opened) (os : List Opened) → Contains f (master_frames os) → Contains f (master_frames (o ∷ os))
  more_masters f o os h = by (is_master o)
    where
      by : (b : Bool) → Contains f (map (λ (x : Opened). x.frame) (if b then o ∷ filter is_master os else filter is_master os))
      by true = or_second (nat_eq f o.frame) (contains f (master_frames os)) h
      by false = h

  last_master : (os : List Opened) → LastIsMaster (bones os) → Contains (outermost (bones os)) (master_frames os)
  last_master [] h = absurd h
  last_master (o ∷ []) h = first_master o [] h
  last_master (o ∷ p ∷ os) h = more_masters (outermost (bones (p ∷ os))) o (p ∷ os) (last_master (p ∷ os) h)

  module _ (plan : Plan) (barrier : ℕ → Sight → Result Bool Raise) where
    module _ (c : All Moved) (n : ℕ) (s : Held pins c) where
      abbrev t : Own
      t = own_of n c

      abbrev ms : List ℕ
      ms = masters_under_way t

      under_way : (f : ℕ) → Contains f ms → IsFrame f (bones t.opened) ⊎ Contains f t.masters
      under_way f h = by (contains_joined f (master_frames t.opened) t.masters h)
        where
          by : Contains f (master_frames t.opened) ⊎ Contains f t.masters → IsFrame f (bones t.opened) ⊎ Contains f t.masters
          by (inl x) = inl (frame_of f t.opened x)
          by (inr x) = inr x

      its_masters : (f : ℕ) → Contains f t.masters → Contains f ms
      its_masters f h = contains_second f (master_frames t.opened) t.masters h

      open_masters : (f : ℕ) → Contains f (master_frames t.opened) → Contains f ms
      open_masters f h = contains_first f (master_frames t.opened) t.masters h

      held_first : (os : List Opened) → t.opened ≡ os → FirstIsMaster (bones os) → (f : ℕ) → IsFrame f (bones os) → IsHeld ms f (bones os)
      held_first [] e h f g = absurd h
      held_first (o ∷ os) e h f g = inl (h, open_masters o.frame (subst (λ ys. Contains o.frame (master_frames ys)) (sym e) (first_master o os h)), g)

      created_sees : FirstIsMaster (bones t.opened) ⊎ EachIs (IsPinned (around pins c.shared.objects)) t.display → (level : ℕ) → EachIs (MaySee (owns c.tasks) (around pins c.shared.objects) ms) (take level t.display)
      created_sees (inr h) level = each_front pins (MaySee (owns c.tasks) (around pins c.shared.objects) ms) level t.display
          (each_map (IsPinned (around pins c.shared.objects)) (MaySee (owns c.tasks) (around pins c.shared.objects) ms) t.display (λ f x. inl x) h)
      created_sees (inl h) level = each_front pins (MaySee (owns c.tasks) (around pins c.shared.objects) ms) level t.display
          (each_map (λ f. IsFrame f (bones t.opened) ⊎ MaySee (owns c.tasks) (around pins c.shared.objects) t.masters f) (MaySee (owns c.tasks) (around pins c.shared.objects) ms) t.display by (sees_its pins c n s))
        where
          more : (f : ℕ) → MaySee (owns c.tasks) (around pins c.shared.objects) t.masters f → MaySee (owns c.tasks) (around pins c.shared.objects) ms f
          more f (inl x) = inl x
          more f (inr x) = inr (x.0, held_more t.masters ms f (bones_at pins c x.0) its_masters x.1)

          by : (f : ℕ) → IsFrame f (bones t.opened) ⊎ MaySee (owns c.tasks) (around pins c.shared.objects) t.masters f → MaySee (owns c.tasks) (around pins c.shared.objects) ms f
          by f (inl x) = inr (n, held_first t.opened refl h f x)
          by f (inr x) = more f x

      created_new : (o : Own) → o.masters ≡ ms → bones o.opened ≡ [] → is_terminated o.status ≡ false → EachIs (MaySee (owns c.tasks) (around pins c.shared.objects) ms) o.display → IsNew (owns c.tasks) (around pins c.shared.objects) (length c.shared.frames) o
      created_new o same none_open alive sees = record {
        opened = none_open;
        ended = λ e. true_is_not_false (sym e ∙ alive);
        sees = subst (λ ns. EachIs (MaySee (owns c.tasks) (around pins c.shared.objects) ns) o.display) (sym same) sees;
        made = λ f h. made f (under_way f (subst (Contains f) same h));
        through = λ k f g h x y. subst (Contains g) (sym same) (through k f g h y (under_way f (subst (Contains f) same x)));
        bodies = λ k f h x w. subst (Contains (outermost (bones_at pins c k))) (sym same) (bodies k f h w (under_way f (subst (Contains f) same x)));
      }
        where
          made : (f : ℕ) → IsFrame f (bones t.opened) ⊎ Contains f t.masters → f < length c.shared.frames
          made f (inl x) = s.made n f x
          made f (inr x) = s.made_masters n f x

          through : (k f g : ℕ) → IsFrame f (bones_at pins c k) → Contains g (own_at pins c k).masters → IsFrame f (bones t.opened) ⊎ Contains f t.masters → Contains g ms
          through k f g h y (inl x) = its_masters g (subst (λ j. Contains g (own_at pins c j).masters) (s.apart k n f h x) y)
          through k f g h y (inr x) = its_masters g (s.through k n f g h x y)

          bodies : (k f : ℕ) → IsFrame f (bones_at pins c k) → LastIsMaster (bones_at pins c k) → IsFrame f (bones t.opened) ⊎ Contains f t.masters → Contains (outermost (bones_at pins c k)) ms
          bodies k f h w (inl x) =
              let same : k ≡ n = s.apart k n f h x in
              subst (λ j. Contains (outermost (bones_at pins c j)) ms) (sym same) (open_masters (outermost (bones t.opened)) (last_master t.opened (subst (λ j. LastIsMaster (bones_at pins c j)) same w)))
          bodies k f h w (inr x) = its_masters (outermost (bones_at pins c k)) (s.bodies k n f h x w)

      all_new : (ts : Tasks) (i count : ℕ) → FirstIsMaster (bones t.opened) ⊎ EachIs (IsPinned (around pins c.shared.objects)) t.display → (k : ℕ) → IsNew (owns c.tasks) (around pins c.shared.objects) (length c.shared.frames) (at (owns (effect.all_created noted plan barrier t ts i count)) k)
      all_new ts i zero h k = nobody_new (owns c.tasks) (around pins c.shared.objects) (length c.shared.frames)
      all_new ts i (suc count) h zero =
          created_new (effect.created noted plan barrier t ts i).own refl refl refl (created_sees h (unit_of plan (task_plan plan ts.task_type).unit).level)
      all_new ts i (suc count) h (suc k) = all_new ts (suc i) count h k

    owns_joined : (ts us : List (TaskAt Moved)) → owns (ts ++ us) ≡ owns ts ++ owns us
    owns_joined [] us = refl
    owns_joined (t ∷ ts) us = ap (λ os. t.own ∷ os) (owns_joined ts us)

    grown_by : (us : List (TaskAt Moved)) (c : All Moved) → ((k : ℕ) → IsNew (owns c.tasks) (around pins c.shared.objects) (length c.shared.frames) (at (owns us) k)) → Held pins c → Held pins (record c { tasks = c.tasks ++ us })
    grown_by us c h s = subst (λ os. StandsBut (none pins) os (around pins c.shared.objects) (length c.shared.frames)) (sym (owns_joined c.tasks us)) (grown (none pins) (owns c.tasks) (owns us) (around pins c.shared.objects) (length c.shared.frames) h s)

    abbrev declared_in : Tasks → ℕ → All Moved → All Moved
    declared_in ts n c =
        on_control n (takes_part 0)
        (alone (λ t. own.declares (effect.counted_from noted plan barrier (length c.tasks) ts.length) t) n
        (record c { tasks = c.tasks ++ effect.all_created noted plan barrier (own_of n c) ts 0 ts.length }))

    declared_by : (ts : Tasks) (n : ℕ) (c : All Moved) → ((k : ℕ) → IsNew (owns c.tasks) (around pins c.shared.objects) (length c.shared.frames) (at (owns (effect.all_created noted plan barrier (own_of n c) ts 0 ts.length)) k)) → Held pins c → Held pins (declared_in ts n c)
    declared_by ts n c h s =
        let cells = effect.counted_from noted plan barrier (length c.tasks) ts.length in
        let d : All Moved = record c { tasks = c.tasks ++ effect.all_created noted plan barrier (own_of n c) ts 0 ts.length } in
        let e : All Moved = alone (λ t. own.declares cells t) n d in
        held_tame pins e (on_control n (takes_part 0) e) (on_control_tame n (takes_part 0) e)
        (alone_still pins (λ t. own.declares cells t) n d (λ u. declares_still pins cells u) (grown_by (effect.all_created noted plan barrier (own_of n c) ts 0 ts.length) c h s))

    nothing_new : (ts : Tasks) (n i count : ℕ) (c : All Moved) → nat_eq count 0 ≡ true → (k : ℕ) → IsNew (owns c.tasks) (around pins c.shared.objects) (length c.shared.frames) (at (owns (effect.all_created noted plan barrier (own_of n c) ts i count)) k)
    nothing_new ts n i zero c e k = nobody_new (owns c.tasks) (around pins c.shared.objects) (length c.shared.frames)
    nothing_new ts n i (suc count) c e k = absurd (let z : suc count ≡ 0 = eqb-true (suc count) 0 e in let no : ⊥ = omega (arith, z) in no)

    declares_tasks_by : (limits : Limits) (at : Pos) (ts : Tasks) (n : ℕ) (c : All Moved) → (x y : Bool) → nat_eq ts.length 0 ≡ x → in_action n c ≡ y → (nat_eq ts.length 0 ≡ false → in_action n c ≡ false → FirstIsMaster (bones_at pins c n) ⊎ EachIs (IsPinned (around pins c.shared.objects)) (own_at pins c n).display) → Held pins c → Held pins (if not x && y then effect.raises_in_part noted plan barrier Program at n c else if nat_le ts.length ELEMENTS && nat_le (length c.tasks + ts.length) limits.tasks then declared_in ts n c else effect.raises_in_part noted plan barrier Storage at n c)
    declares_tasks_by limits at ts n c false true e f h s = raises_in_part_held pins plan barrier Program at n c s
    declares_tasks_by limits at ts n c true y e f h s =
        if_held pins (nat_le ts.length ELEMENTS && nat_le (length c.tasks + ts.length) limits.tasks) (declared_in ts n c) (effect.raises_in_part noted plan barrier Storage at n c)
        (declared_by ts n c (nothing_new ts n 0 ts.length c e) s) (raises_in_part_held pins plan barrier Storage at n c s)
    declares_tasks_by limits at ts n c false false e f h s =
        if_held pins (nat_le ts.length ELEMENTS && nat_le (length c.tasks + ts.length) limits.tasks) (declared_in ts n c) (effect.raises_in_part noted plan barrier Storage at n c)
        (declared_by ts n c (all_new c n s ts 0 ts.length (h e f)) s) (raises_in_part_held pins plan barrier Storage at n c s)

    declares_tasks_held : (limits : Limits) (at : Pos) (ts : Tasks) (n : ℕ) (c : All Moved) → (nat_eq ts.length 0 ≡ false → in_action n c ≡ false → FirstIsMaster (bones_at pins c n) ⊎ EachIs (IsPinned (around pins c.shared.objects)) (own_at pins c n).display) → Held pins c → Held pins (effect.declares_tasks noted plan barrier limits at ts n c)
    declares_tasks_held limits at ts n c h s = declares_tasks_by limits at ts n c (nat_eq ts.length 0) (in_action n c) refl refl h s

    -- Objects.

    object_held : (at : Pos) (declaration : ℕ) (cells : List ℤ) (n : ℕ) (c : All Moved) → Held pins c → Held pins (step.object_declared noted plan barrier at declaration cells n c)
    object_held at declaration cells n c s =
        let x : Object = record { declaration = declaration; display = (own_of n c).display ++ length c.shared.frames ∷ []; actions = [] } in
        let d : All Moved = on_shared (λ y. record y { frames = y.frames ++ cells ∷ []; objects = y.objects ++ record { declaration = declaration; display = (own_of n c).display ++ length y.frames ∷ []; actions = [] } ∷ [] }) c in
        if_held pins (nat_le (suc (length c.shared.objects)) OBJECTS) (alone (λ t. step.moves_on noted plan barrier 0 (own.declares (pos (length c.shared.objects) ∷ []) t)) n d) (effect.raises_in_part noted plan barrier Storage at n c)
        (declared_held pins plan barrier (pos (length c.shared.objects) ∷ []) n d
        (subst (λ k. StandsBut (none pins) (owns c.tasks) (around pins (c.shared.objects ++ x ∷ [])) k) (sym (longer pins cells c.shared.frames))
        (objects_same (none pins) (owns c.tasks) (around pins c.shared.objects ++ x ∷ []) (around pins (c.shared.objects ++ x ∷ [])) (suc (length c.shared.frames)) (λ f. around_more pins c.shared.objects x f)
        (objects_more (none pins) (owns c.tasks) (around pins c.shared.objects) (x ∷ []) (length c.shared.frames) s))))
        (raises_in_part_held pins plan barrier Storage at n c s)

    made_held : (alternative : Option ℕ) (o : Owner) (call : Called) (n : ℕ) (c : All Moved) → IsLive pins n c → Held pins c → Held pins (step.call_made noted plan barrier alternative o call n c)
    made_held alternative (owner.Task task) call n c live s = calls_task_held pins plan barrier alternative (call_record n (owner.Task task) call) task c s
    made_held alternative (owner.Object object) call n c live s = calls_object_held pins plan barrier (call_record n (owner.Object object) call) object c live s

    leaves_held : (alternative : Option ℕ) (pending : Option Pending) (to : Moved → Moved) (n : ℕ) (c : All Moved) → Held pins c → Held pins (step.leaves noted plan barrier alternative pending to n c)
    leaves_held alternative pending to n c s =
        let f : TaskAt Moved → TaskAt Moved = λ t. record t { control = to t.control; own = record t.own { pending = None } } in
        at_end_held pins plan barrier alternative pending n (on_task n f c) (held_tame pins c (on_task n f c) (on_task_tame n f c (λ t. keeps t.own (record t.own { pending = None }) refl refl refl refl)) s)

    -- A block that is left together with loops around it.

    out_pending : (ys : List Opened) (o : Own) → (out_of_loops_by ys (record o { pending = None })).opened ≡ (out_of_loops_by ys o).opened
    out_pending [] o = refl
    out_pending (q ∷ ys) o = by (is_loop q.purpose) (out_pending ys (record o { display = q.saved; opened = ys }))
      where
        by : (b : Bool) → (out_of_loops_by ys (record o { display = q.saved; opened = ys; pending = None })).opened ≡ (out_of_loops_by ys (record o { display = q.saved; opened = ys })).opened → (if b then out_of_loops_by ys (record o { display = q.saved; opened = ys; pending = None }) else record o { pending = None }).opened ≡ (if b then out_of_loops_by ys (record o { display = q.saved; opened = ys }) else o).opened
        by true e = e
        by false e = refl

    block_is : (q : Purpose) → IsBlock q → q ≡ for_block
    block_is for_body h = absurd h
    block_is for_block h = refl
    block_is for_loop h = absurd h
    block_is (for_procedure r) h = absurd h
    block_is (for_operation n r) h = absurd h
    block_is (for_entry n i x b) h = absurd h
    block_is (for_accept i) h = absurd h

    master_block : (o : Opened) → o.purpose ≡ for_block → is_master o ≡ true
    master_block o e = ap (λ q. is_master (record o { purpose = q })) e

    ends_with : (alternative : Option ℕ) (loops n : ℕ) (ys : List Opened) (c : All Moved) → (out_of_loops (own_at pins c n)).opened ≡ ys → LeavesFit loops ys → LeavesNoMaster loops (bones_at pins (step.leaves noted plan barrier alternative None passes_end n c) n)
    ends_with alternative zero n ys c e h = tt
    ends_with alternative (suc k) n [] c e h = absurd h
    ends_with alternative (suc k) n (o ∷ os) c e h =
        let f : TaskAt Moved → TaskAt Moved = λ t. record t { control = passes_end t.control; own = record t.own { pending = None } } in
        let d : All Moved = on_task n f c in
        let e' : (out_of_loops (own_at pins d n)).opened ≡ o ∷ os = by (changed_is pins c.tasks n f (λ w. record w { pending = None }) (λ t. refl)) in
        let p : o.purpose ≡ for_block = block_is o.purpose h.0 in
        let x : All Moved = on_own n out_of_loops d in
        subst (λ ys. LeavesNoMaster (suc k) (bones_at pins (effect.at_end_of noted plan barrier alternative ys None n d) n)) (sym e')
        (subst (λ q. LeavesNoMaster (suc k) (bones_at pins (effect.at_end_by noted plan barrier alternative q None o n d) n)) (sym p)
        (block_with_loops pins plan barrier (suc k) None o os n x (master_block o p) (out_at pins plan barrier n o os d e') h.1))
      where
        by : (own_at pins (on_task n (λ t. record t { control = passes_end t.control; own = record t.own { pending = None } }) c) n ≡ record (own_at pins c n) { pending = None }) ⊎ ((own_at pins c n ≡ nobody) × (slice_get (on_task n (λ t. record t { control = passes_end t.control; own = record t.own { pending = None } }) c).tasks n ≡ None)) → (out_of_loops (own_at pins (on_task n (λ t. record t { control = passes_end t.control; own = record t.own { pending = None } }) c) n)).opened ≡ o ∷ os
        by (inl z) = ap (λ w. (out_of_loops w).opened) z ∙ out_pending (own_at pins c n).opened (own_at pins c n) ∙ e
        by (inr z) = absurd (subst (λ ys. IsFrame o.frame (bones ys)) (sym e ∙ ap (λ w. (out_of_loops w).opened) z.0) (inl refl))

    -- Of what the task itself had open nothing is added at the end of a construct.

    record Fewer (n : ℕ) (c d : All Moved) : Type 0 where
      frames : (f : ℕ) → IsFrame f (bones_at pins d n) → IsFrame f (bones_at pins c n)
      objects : (f : ℕ) → any (object_names f) c.shared.objects ≡ any (object_names f) d.shared.objects

    fewer_then : (n : ℕ) (c d e : All Moved) → Fewer n c d → Fewer n d e → Fewer n c e
    fewer_then n c d e h g = record { frames = λ f x. h.frames f (g.frames f x); objects = λ f. h.objects f ∙ g.objects f }

    fewer_tame : (n : ℕ) (c d : All Moved) → IsTame c d → Fewer n c d
    fewer_tame n c d t = record { frames = λ f h. subst (IsFrame f) (t.tasks n).opened h; objects = t.objects }

    fewer_ended : (n : ℕ) (c d : All Moved) → HaveEnded pins c d → Fewer n c d
    fewer_ended n c d e = record { frames = λ f h. by f (e.frames n) h; objects = e.objects }
      where
        by : (f : ℕ) → ((bones_at pins d n ≡ bones_at pins c n) × ((own_at pins d n).display ≡ (own_at pins c n).display)) ⊎ IsEmpty (own_at pins d n) → IsFrame f (bones_at pins d n) → IsFrame f (bones_at pins c n)
        by f (inl z) h = subst (IsFrame f) z.0 h
        by f (inr z) h = absurd (subst (IsFrame f) z.opened h)

    fewer_own : (n : ℕ) (f : Own → Own) (c : All Moved) → ((o : Own) (i : ℕ) → IsFrame i (bones (f o).opened) → IsFrame i (bones o.opened)) → Fewer n c (on_own n f c)
    fewer_own n f c h = record { frames = λ i x. by i (own_changed pins n f c n) x; objects = λ i. refl }
      where
        by : (i : ℕ) → (own_at pins (on_own n f c) n ≡ own_at pins c n) ⊎ ((n ≡ n) × (own_at pins (on_own n f c) n ≡ f (own_at pins c n))) → IsFrame i (bones_at pins (on_own n f c) n) → IsFrame i (bones_at pins c n)
        by i (inl z) x = subst (λ (o : Own). IsFrame i (bones o.opened)) z x
        by i (inr z) x = h (own_at pins c n) i (subst (λ (o : Own). IsFrame i (bones o.opened)) z.1 x)

    closed_fewer : (o : Own) (i : ℕ) → IsFrame i (bones (own.closed o).opened) → IsFrame i (bones o.opened)
    closed_fewer o i h =
        let l : LeftKept pins o (own.out_of 1 o) = out_of_any pins 1 o in
        left_frame pins (AnyMaster pins) l.count o.display (bones o.opened) (own.closed o).display (bones (own.closed o).opened) l.left i h

    loops_fewer : (o : Own) (i : ℕ) → IsFrame i (bones (out_of_loops o).opened) → IsFrame i (bones o.opened)
    loops_fewer o i h =
        let l : LeftAs pins o (out_of_loops o) = out_left pins o in
        left_frame pins (NoMaster pins) l.count o.display (bones o.opened) (out_of_loops o).display (bones (out_of_loops o).opened) l.left i h

    -- it waits in no accept
    abbrev pub IsQuiet : ℕ → All Moved → Type 0
    IsQuiet n c = is_accepting (own_at pins c n).status ≡ false

    changed_status : (ts : List (TaskAt Moved)) (n : ℕ) (f : TaskAt Moved → TaskAt Moved) → ((t : TaskAt Moved) → (f t).own.status ≡ t.own.status) → (at (owns (changed n f ts)) n).status ≡ (at (owns ts) n).status
    changed_status [] n f h = refl
    changed_status (t ∷ ts) zero f h = h t
    changed_status (t ∷ ts) (suc n) f h = changed_status ts n f h

    still_quiet : (n : ℕ) (f : TaskAt Moved → TaskAt Moved) (c : All Moved) → ((t : TaskAt Moved) → (f t).own.status ≡ t.own.status) → IsQuiet n c → IsQuiet n (on_task n f c)
    still_quiet n f c h quiet = ap is_accepting (changed_status c.tasks n f h) ∙ quiet

    closed_status : (os : List Opened) (o : Own) → (own.closed_by os o).status ≡ o.status
    closed_status [] o = refl
    closed_status (x ∷ xs) o = refl

    out_status : (os : List Opened) (o : Own) → (out_of_loops_by os o).status ≡ o.status
    out_status [] o = refl
    out_status (x ∷ xs) o = by (is_loop x.purpose) (out_status xs (record o { display = x.saved; opened = xs }))
      where
        by : (b : Bool) → (out_of_loops_by xs (record o { display = x.saved; opened = xs })).status ≡ o.status → (if b then out_of_loops_by xs (record o { display = x.saved; opened = xs }) else o).status ≡ o.status
        by true e = e
        by false e = refl

    -- of another task
    changed_other : (ts : List (TaskAt Moved)) (k n : ℕ) (f : TaskAt Moved → TaskAt Moved) → ¬ (k ≡ n) → at (owns (changed k f ts)) n ≡ at (owns ts) n
    changed_other [] k n f e = refl
    changed_other (t ∷ ts) zero zero f e = absurd (e refl)
    changed_other (t ∷ ts) zero (suc n) f e = refl
    changed_other (t ∷ ts) (suc k) zero f e = refl
    changed_other (t ∷ ts) (suc k) (suc n) f e = changed_other ts k n f (λ h. e (ap suc h))

    accepted_fewer : (call : Call) (region : ℕ) (a : OpenAccept) (id k n : ℕ) (c : All Moved) → ¬ (k ≡ n) → Fewer n c (alone (λ t. own.opens (for_accept id) region a.at t.own.display call.values (length call.values) t) k c)
    accepted_fewer call region a id k n c e = by (slice_get c.tasks k)
      where
        f : Acting Moved → Acting Moved
        f t = own.opens (for_accept id) region a.at t.own.display call.values (length call.values) t

        by : (o : Option (TaskAt Moved)) → Fewer n c (alone_by f o k c)
        by None = record { frames = λ i h. h; objects = λ i. refl }
        by (Some t) = record {
          frames = λ i h. subst (λ (o : Own). IsFrame i (bones o.opened)) (changed_other c.tasks k n (λ old. record { control = (f (acting t c.shared)).control; own = (f (acting t c.shared)).own }) e) h;
          objects = λ i. refl;
        }

    rendezvous_by_fewer : (region : Option ℕ) (a : OpenAccept) (id k n : ℕ) (c : All Moved) → ¬ (k ≡ n) → Fewer n c (effect.rendezvous_by noted plan barrier region a id k c)
    rendezvous_by_fewer None a id k n c e =
        let d : All Moved = on_task k (λ t. record { control = takes_part a.alternative t.control; own = runs t.own }) c in
        let outcome : Outcome = succeeds ((call_of id c).values ++ (call_of id c).unseen) in
        fewer_tame n c (effect.end_call noted plan barrier outcome id d) (after c d (effect.end_call noted plan barrier outcome id d) (goes_to_tame plan barrier a.alternative k c) (end_call_tame plan barrier outcome id d))
    rendezvous_by_fewer (Some region) a id k n c e =
        let g : TaskAt Moved → TaskAt Moved = λ t. record { control = does_accept a.alternative t.control; own = runs t.own } in
        let d : All Moved = on_task k g c in
        let x : All Moved = effect.rendezvous_by noted plan barrier (Some region) a id k c in
        fewer_then n c d x (fewer_tame n c d (on_task_tame k g c (λ t. goes_on_tame t.own))) (accepted_fewer (call_of id c) region a id k n d e)
      where
        goes_on_tame : (o : Own) → Tame o (runs o)
        goes_on_tame o = stays_live o (runs o) refl refl refl refl refl

    made_again_fewer : (alternative : Option ℕ) (ones : List OpenAccept) (id k n : ℕ) (c : All Moved) → (k ≡ n → ones ≡ []) → Fewer n c (effect.made_again noted plan barrier alternative ones id k c)
    made_again_fewer alternative [] id k n c h = fewer_tame n c (arrives id c) (arrives_tame id c)
    made_again_fewer alternative (a ∷ more) id k n c h = by (nat_eq k n) refl
      where
        IsSome : List OpenAccept → Type 0
        IsSome [] = ⊥
        IsSome (x ∷ xs) = Unit {0}

        by : (b : Bool) → nat_eq k n ≡ b → Fewer n c (effect.made_again noted plan barrier alternative (a ∷ more) id k c)
        by true e = absurd (subst IsSome (h (eqb-true k n e)) tt)
        by false e =
            let one = alternative_of alternative a (a ∷ more) in
            let d : All Moved = on_call id (λ call. record call { state = Selected }) c in
            fewer_then n c d (effect.made_again noted plan barrier alternative (a ∷ more) id k c) (fewer_tame n c d (on_call_tame id (λ call. record call { state = Selected }) c)) (rendezvous_by_fewer one.region one id k n d (λ g. true_is_not_false (sym (eq-eqb k n g) ∙ e)))

    requeued_fewer : (alternative : Option ℕ) (o : Owner) (at : Pos) (id n : ℕ) (c : All Moved) → IsQuiet n c → Fewer n c (effect.requeued_on noted plan barrier alternative o at id n c)
    requeued_fewer alternative (owner.Task k) at id n c quiet = by (effect.is_lost noted plan barrier (call_of id c) c) (is_callable (own_of k c))
      where
        f : Call → Call
        f = effect.called_of noted plan barrier (owner.Task k)

        ones : List OpenAccept
        ones = open_alternatives (own_of k c) (call_of id c).entry

        none_open : k ≡ n → ones ≡ []
        none_open e =
            let q : is_accepting (own_of k c).status ≡ false = ap (λ i. is_accepting (own_at pins c i).status) e ∙ quiet in
            ap (λ b. if b && not (own_of k c).abnormal then filter (λ (a : OpenAccept). nat_eq a.entry (call_of id c).entry) (own_of k c).waits.accepts else []) q

        by : (x y : Bool) → Fewer n c (if x then cancels id c else if y then effect.made_again noted plan barrier alternative ones id k (on_call id f c) else effect.end_call noted plan barrier (fails (Predefined Tasking)) id c)
        by true y = fewer_tame n c (cancels id c) (cancels_tame id c)
        by false true = fewer_then n c (on_call id f c) (effect.made_again noted plan barrier alternative ones id k (on_call id f c)) (fewer_tame n c (on_call id f c) (on_call_tame id f c)) (made_again_fewer alternative ones id k n (on_call id f c) none_open)
        by false false = fewer_tame n c (effect.end_call noted plan barrier (fails (Predefined Tasking)) id c) (end_call_tame plan barrier (fails (Predefined Tasking)) id c)
    requeued_fewer alternative (owner.Object object) at id n c quiet =
        let g : Own → Own = λ own. record own { restart = Some (record { call = id; object = object; at = at }) } in
        fewer_tame n c (on_own n g c) (on_own_tame n g c (λ o. keeps o (g o) refl refl refl refl))

    accept_ended_fewer : (alternative : Option ℕ) (o : Option Again) (values : List ℤ) (id n : ℕ) (c : All Moved) → IsQuiet n c → Fewer n c (effect.accept_ended noted plan barrier alternative o values id n c)
    accept_ended_fewer alternative None values id n c quiet = fewer_tame n c (effect.end_call noted plan barrier (succeeds values) id c) (end_call_tame plan barrier (succeeds values) id c)
    accept_ended_fewer alternative (Some x) values id n c quiet =
        let f = effect.retargeted noted plan barrier x values in
        fewer_then n c (on_call id f c) (effect.accept_ended noted plan barrier alternative (Some x) values id n c) (fewer_tame n c (on_call id f c) (on_call_tame id f c)) (requeued_fewer alternative x.owner x.at id n (on_call id f c) quiet)

    end_by_fewer : (alternative : Option ℕ) (q : Purpose) (o : Opened) (n : ℕ) (c : All Moved) → IsQuiet n c → Fewer n c (effect.at_end_by noted plan barrier alternative q None o n c)
    end_by_fewer alternative for_body o n c quiet =
        let opened = (own_of n c).opened in
        let f : Own → Own = λ own. record own { status = Completed; pending = None; raised = None; waits = no_waits } in
        let c1 : All Moved = on_own n f c in
        let c2 : All Moved = effect.refuse noted plan barrier Tasking (effect.accepts_under_way noted plan barrier opened) c1 in
        let c3 : All Moved = effect.refuse_queues noted plan barrier n c2 in
        let c4 : All Moved = effect.terminate_all noted plan barrier (numbers (effect.created_in noted plan barrier opened) 0 c.tasks) c3 in
        let c5 : All Moved = effect.activation_ended noted plan barrier false n c4 in
        fewer_then n c c1 c5 (fewer_own n f c (λ w i h. h))
        (fewer_then n c1 c3 c5 (fewer_tame n c1 c3 (after c1 c2 c3 (refuse_tame plan barrier Tasking (effect.accepts_under_way noted plan barrier opened) c1) (refuse_queues_tame plan barrier n c2)))
        (fewer_then n c3 c4 c5 (fewer_ended n c3 c4 (all_ended pins plan barrier (numbers (effect.created_in noted plan barrier opened) 0 c.tasks) c3))
        (fewer_tame n c4 c5 (activation_tame plan barrier false n c4))))
    end_by_fewer alternative for_block o n c quiet =
        let x : All Moved = on_own n out_of_loops c in
        let d : All Moved = on_own n own.closed x in
        let e : All Moved = effect.close_master noted plan barrier o.frame d in
        fewer_then n c x e (fewer_own n out_of_loops c loops_fewer) (fewer_then n x d e (fewer_own n own.closed x closed_fewer) (fewer_ended n d e (close_ended pins plan barrier o.frame d)))
    end_by_fewer alternative for_loop o n c quiet = record { frames = λ f h. h; objects = λ f. refl }
    end_by_fewer alternative (for_procedure r) o n c quiet =
        let x : All Moved = on_own n out_of_loops c in
        let d : All Moved = on_own n own.closed x in
        let e : All Moved = effect.close_master noted plan barrier o.frame d in
        let z : All Moved = effect.returned_or noted plan barrier None r o.frame o.at n e in
        fewer_then n c x z (fewer_own n out_of_loops c loops_fewer) (fewer_then n x d z (fewer_own n own.closed x closed_fewer)
        (fewer_then n d e z (fewer_ended n d e (close_ended pins plan barrier o.frame d)) (fewer_tame n e z (returned_or_tame plan barrier None r o.frame o.at n e))))
    end_by_fewer alternative (for_operation object r) o n c quiet =
        let x : All Moved = on_own n out_of_loops c in
        let d : All Moved = on_own n own.closed x in
        let e : All Moved = effect.returned_or noted plan barrier None r o.frame o.at n d in
        let z : All Moved = if r.is_function then end_action n object e else effect.serviced noted plan barrier object o.at n e in
        fewer_then n c x z (fewer_own n out_of_loops c loops_fewer) (fewer_then n x d z (fewer_own n own.closed x closed_fewer)
        (fewer_then n d e z (fewer_tame n d e (returned_or_tame plan barrier None r o.frame o.at n d))
        (by r.is_function e)))
      where
        by : (b : Bool) (e : All Moved) → Fewer n e (if b then end_action n object e else effect.serviced noted plan barrier object o.at n e)
        by true e = fewer_tame n e (end_action n object e) (end_tame n object e)
        by false e = fewer_tame n e (effect.serviced noted plan barrier object o.at n e) (serviced_tame plan barrier object o.at n e)
    end_by_fewer alternative (for_entry object id served back) o n c quiet =
        let x : All Moved = on_own n out_of_loops c in
        let f : Own → Own = λ own. record (closed own) { status = back.status; pending = back.pending; again = None } in
        let values = effect.present_values noted plan barrier id o.frame x in
        let d : All Moved = on_own n f x in
        let e : All Moved = effect.entry_ended noted plan barrier None (own_of n x).again values object id d in
        let z : All Moved = effect.serviced noted plan barrier object o.at n e in
        fewer_then n c x z (fewer_own n out_of_loops c loops_fewer) (fewer_then n x d z (fewer_own n f x closed_fewer)
        (fewer_tame n d z (after d e z (entry_ended_tame pins plan barrier None (own_of n x).again values object id d) (serviced_tame plan barrier object o.at n e))))
    end_by_fewer alternative (for_accept id) o n c quiet =
        let x : All Moved = on_own n out_of_loops c in
        let values = effect.present_values noted plan barrier id o.frame x in
        let f : Own → Own = λ own. record (closed own) { again = None } in
        let d : All Moved = on_own n f x in
        let e : All Moved = effect.accept_ended noted plan barrier alternative (own_of n x).again values id n d in
        fewer_then n c x e (fewer_own n out_of_loops c loops_fewer) (fewer_then n x d e (fewer_own n f x closed_fewer)
        (accept_ended_fewer alternative (own_of n x).again values id n d
        (still_quiet n (λ t. record t { own = f t.own }) x (λ t. closed_status t.own.opened t.own) (still_quiet n (λ t. record t { own = out_of_loops t.own }) c (λ t. out_status t.own.opened t.own) quiet))))

    end_of_fewer : (alternative : Option ℕ) (ys : List Opened) (n : ℕ) (c : All Moved) → IsQuiet n c → Fewer n c (effect.at_end_of noted plan barrier alternative ys None n c)
    end_of_fewer alternative [] n c quiet = record { frames = λ f h. h; objects = λ f. refl }
    end_of_fewer alternative (o ∷ os) n c quiet = end_by_fewer alternative o.purpose o n c quiet

    leaves_fewer : (alternative : Option ℕ) (n : ℕ) (c : All Moved) → IsQuiet n c → Fewer n c (step.leaves noted plan barrier alternative None passes_end n c)
    leaves_fewer alternative n c quiet =
        let f : TaskAt Moved → TaskAt Moved = λ t. record t { control = passes_end t.control; own = record t.own { pending = None } } in
        let d : All Moved = on_task n f c in
        fewer_then n c d (step.leaves noted plan barrier alternative None passes_end n c) (fewer_tame n c d (on_task_tame n f c (λ t. keeps t.own (record t.own { pending = None }) refl refl refl refl)))
        (end_of_fewer alternative (out_of_loops (own_of n d)).opened n d (still_quiet n f c (λ t. refl) quiet))

    kept_then : (n : ℕ) (c d : All Moved) → Fewer n c d → AreKept (IsPinned (around pins c.shared.objects)) (own_at pins c n) → AreKept (IsPinned (around pins d.shared.objects)) (own_at pins d n)
    kept_then n c d h k f g = by (k f (h.frames f g))
      where
        by : IsPinned (around pins c.shared.objects) f → IsPinned (around pins d.shared.objects) f
        by (inl x) = inl x
        by (inr x) = inr (sym (around_same pins c.shared.objects d.shared.objects f (h.objects f)) ∙ x)

    ends_by : (alternative : Option ℕ) (loops n : ℕ) (c : All Moved) → IsQuiet n c → LeavesFit loops (out_of_loops (own_at pins c n)).opened ⊎ AreKept (IsPinned (around pins c.shared.objects)) (own_at pins c n) → Held pins c → Held pins (on_own n (own.out_of loops) (step.leaves noted plan barrier alternative None passes_end n c))
    ends_by alternative loops n c quiet (inl h) s =
        let d : All Moved = step.leaves noted plan barrier alternative None passes_end n c in
        own_left_or_kept pins (none pins) n (own.out_of loops) d (inl (out_of_left pins loops (own_at pins d n) (ends_with alternative loops n (out_of_loops (own_at pins c n)).opened c refl h))) (leaves_held alternative None passes_end n c s)
    ends_by alternative loops n c quiet (inr h) s =
        let d : All Moved = step.leaves noted plan barrier alternative None passes_end n c in
        own_left_or_kept pins (none pins) n (own.out_of loops) d (inr (out_of_any pins loops (own_at pins d n), kept_then n c d (leaves_fewer alternative n c quiet) h)) (leaves_held alternative None passes_end n c s)

    -- Each kind of step.

    pub done_held : (limits : Limits) (alternative : Option ℕ) (asked : Asked) (n : ℕ) (c : All Moved) → IsQuiet n c → IsLive pins n c → AskedFits (IsPinned (around pins c.shared.objects)) (own_at pins c n) (in_action n c) asked → Held pins c → Held pins (done noted plan barrier limits alternative asked n c)
    done_held limits alternative (raises_here raise at) n c quiet live h s = held_tame pins c (raised_at raise at n c) (raised_tame raise at n c) s
    done_held limits alternative (raises_in_part raise at) n c quiet live h s = raises_in_part_held pins plan barrier raise at n c s
    done_held limits alternative (declares up_to z) n c quiet live h s = variable_held pins plan barrier up_to z n c s
    done_held limits alternative (declares_array at t count) n c quiet live h s =
        if_held pins (nat_le count ELEMENTS) (alone (λ a. step.moves_on noted plan barrier 0 (own.declares (replicate count (nearest_zero t)) a)) n c) (effect.raises_in_part noted plan barrier Storage at n c)
        (declared_held pins plan barrier (replicate count (nearest_zero t)) n c s) (raises_in_part_held pins plan barrier Storage at n c s)
    done_held limits alternative (declares_tasks at ts) n c quiet live h s = declares_tasks_held limits at ts n c h s
    done_held limits alternative (declares_object at declaration cells) n c quiet live h s = object_held at declaration cells n c s
    done_held limits alternative ends_activation n c quiet live h s =
        let d : All Moved = effect.activation_ended noted plan barrier false n c in
        held_tame pins c (on_control n (takes_part 0) d) (after c d (on_control n (takes_part 0) d) (activation_tame plan barrier false n c) (on_control_tame n (takes_part 0) d)) s
    done_held limits alternative (activates at) n c quiet live h s = activates_held pins plan barrier at n (effect.not_activated noted plan barrier (innermost (own_of n c).opened) c) c s
    done_held limits alternative (goes_on part) n c quiet live h s = held_tame pins c (on_control n (takes_part part) c) (on_control_tame n (takes_part part) c) s
    done_held limits alternative (assigns target z) n c quiet live h s = assigns_held pins plan barrier target z n c s
    done_held limits alternative (puts text) n c quiet live h s = puts_held pins plan barrier text n c s
    done_held limits alternative (enters_loop f a b) n c quiet live h s = loop_entered_held pins plan barrier f a b n c live s
    done_held limits alternative (next_of_loop f) n c quiet live h s = loop_continued_held pins plan barrier f n c h s
    done_held limits alternative (goes_out loops value) n c quiet live h s = goes_out_held pins plan barrier loops value n c h s
    done_held limits alternative (requeues loops x) n c quiet live h s = requeue_held pins plan barrier loops x n c h s
    done_held limits alternative (raises x at) n c quiet live h s = held_tame pins c (on_own n (own.pends x at) c) (pends_tame x at n c) s
    done_held limits alternative (raises_again at) n c quiet live h s =
        let x = not_handled (own.handled (own_of n c).opened None) in
        held_tame pins c (on_own n (own.pends x at) c) (pends_tame x at n c) s
    done_held limits alternative (enters_block at region) n c quiet live h s = block_held pins plan barrier at region n c live s
    done_held limits alternative (calls_procedure at unit passed into) n c quiet live h s = calls_procedure_held pins plan barrier at unit passed into n c live s
    done_held limits alternative (calls_operation at object unit passed into) n c quiet live h s = calls_operation_held pins plan barrier at object unit passed into n c live s
    done_held limits alternative (calls_own_entry at) n c quiet live h s = held_tame pins c (raised_at Program at n c) (raised_tame Program at n c) s
    done_held limits alternative (calls_entry o call) n c quiet live h s = made_held alternative o call n c live s
    done_held limits alternative (delays ms at) n c quiet live h s = delays_held pins plan barrier ms at n c s
    done_held limits alternative (accepts a) n c quiet live h s = accepts_call_held pins plan barrier a n c s
    done_held limits alternative (selects has_else waits at) n c quiet live h s = selects_held pins plan barrier alternative has_else waits at n c s
    done_held limits alternative (aborts ns at) n c quiet live h s = aborts_held pins plan barrier ns at n c s
    done_held limits alternative (ends loops) n c quiet live h s = ends_by alternative loops n c quiet h s
    done_held limits alternative (handles x) n c quiet live h s =
        let f : TaskAt Moved → TaskAt Moved = λ t. record t { control = to_handler x.exception t.control; own = own.handles x t.own } in
        let l : LeftAs pins (own_at pins c n) (own.handles x (own_at pins c n)) = handles_left pins x (own_at pins c n) in
        left_holds pins (none pins) n (own.handles x (own_at pins c n)) (owns c.tasks) (owns (on_task n f c).tasks) (around pins c.shared.objects) (length c.shared.frames)
        (one_changed pins c.tasks n f (own.handles x (own_at pins c n)) (λ t e. ap (own.handles x) (sym (got_own pins c.tasks n t e)))) l.count l.left l.masters (inl l.status) s
    done_held limits alternative (is_left_by x) n c quiet live h s = leaves_held alternative (Some x) (out_by x.exception) n c s

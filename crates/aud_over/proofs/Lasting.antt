-- Each kind of step keeps those frames open that are seen: what it does to all tasks.
use Rattle.std.proofs.Common.{◌≡◌, ℕ, zero, suc, ◌+◌, ℤ, pos, List, [], ◌∷◌, length, slice_get, slice_index_or, Option, Some, None, Bool, true, false, refl, sym, ap, ◌∙◌, subst, inl, inr, ◌++◌}
use Rattle.std.specs.Prelude.{◌⊎◌, if◌then◌else◌, take, filter, not, ◌&&◌, nat_eq, Result, Ok, Err, is_some}
use Rattle.aud_text.specs.declared.place.Pos.{Pos}
use Rattle.aud_text.specs.declared.raise.Raise.{Raise}
use Rattle.aud_text.specs.declared.raise.Raise.TheVariants.{Program, Storage, Tasking}
use Rattle.aud_typed.specs.declared.program.Exception.{Exception}
use Rattle.aud_typed.specs.declared.program.Exception.TheVariants.{Predefined}
use Rattle.aud_typed.specs.Tree.{Plan}
use Rattle.aud_meaning.specs.Orders.{noted}
use Rattle.aud_meaning.specs.declared.state.Status.TheVariants.{Running, Activating, Accepting, Delaying, Calling, Completed}
use Rattle.aud_meaning.specs.declared.state.CallState.TheVariants.{Selected}
use Rattle.aud_meaning.specs.declared.state.Owner.{Owner}
use Rattle.aud_meaning.specs.declared.state.Owner.TheVariants as owner
use Rattle.aud_meaning.specs.declared.state.Pending.{Pending}
use Rattle.aud_meaning.specs.declared.state.Resumed.{Resumed}
use Rattle.aud_meaning.specs.declared.state.OpenAccept.{OpenAccept}
use Rattle.aud_meaning.specs.declared.state.Serving.{Serving}
use Rattle.aud_meaning.specs.Configuration.{Target, Returning, Purpose, for_body, for_block, for_loop, for_procedure, for_operation, for_entry, for_accept, Opened, Waits, Own, Call, TaskAt, All, Acting}
use Rattle.aud_meaning.specs.Evaluation.{Sight, Passed}
use Rattle.aud_meaning.specs.Control.{Moved, takes_part, does_accept, enters_body}
use Rattle.aud_meaning.specs.Effects as own
use Rattle.aud_meaning.specs.Effects.{opens, innermost, closed, closed_by, out_of_loops, has_room, pends}
use Rattle.aud_meaning.specs.Tasks as effect
use Rattle.aud_meaning.specs.Parts.{succeeds, fails, Waiting, any, acts_on, alone, alone_by, alternative_of, arrives, begin_action, blocks, body_master, call_number, call_of, calls_on_object, cancels, contains, end_action, entry_plan, exception_of, in_action, is_callable, is_created, is_master, is_terminated, new_call, no_waits, nobody, numbers, object_of, on_call, on_control, on_own, on_task, open_alternatives, own_of, owns, queue, raised_at, runs, stands_at_call, unit_of, changed}
use Rattle.aud_over.specs.Standing.{AreKept, IsPinned, LastIsMaster, around, at, bone, bones, back_of, Contains, IsFrame, outermost, MaySee, EachIs, GoesBack, AreStacked, IsEmpty, LeavesNoMaster}
use Rattle.aud_over.proofs.Calls.{true_is_not_false}
use Rattle.aud_over.proofs.Bones.{each_map, popped}
use Rattle.aud_over.proofs.Taming.{around_same, IsTame, after, on_own_tame, on_task_tame, on_control_tame, on_call_tame, new_call_tame, raised_tame, cancels_tame, arrives_tame, at_call_tame, begin_tame, end_tame, keeps, goes_on, end_call_tame, refuse_tame, refuse_queues_tame, activation_tame, serviced_tame, goes_to_tame, returned_or_tame}
use Rattle.aud_over.proofs.Holding.{Holds, own_at, bones_at, own_changed, numbers_pass, terminate_holds, frameless_hold, close_holds, close_empty, close_ended}
use Rattle.aud_over.proofs.Leaving.{out_left, own_left}
use Rattle.aud_over.proofs.Keeping.{none, Held, IsLive, held_tame, sees_its, each_front, sees_object, alone_opens, alone_opens_here}
use Rattle.aud_meaning.specs.declared.state.Again.{Again}
use Rattle.aud_meaning.specs.declared.state.Restart.{Restart}

module _ (pins : List ℕ) where
  -- An own part that was changed.

  pub changed_is : (ts : List (TaskAt Moved)) (n : ℕ) (f : TaskAt Moved → TaskAt Moved) (g : Own → Own) → ((t : TaskAt Moved) → (f t).own ≡ g t.own) → (at (owns (changed n f ts)) n ≡ g (at (owns ts) n)) ⊎ ((at (owns ts) n ≡ nobody) × (slice_get (changed n f ts) n ≡ None))
  changed_is [] n f g h = inr (refl, refl)
  changed_is (t ∷ ts) zero f g h = inl (h t)
  changed_is (t ∷ ts) (suc n) f g h = changed_is ts n f g h

  -- it is live then, or there is no such task
  abbrev pub LiveOrNone : ℕ → All Moved → Type 0
  LiveOrNone n c = IsLive pins n c ⊎ (slice_get c.tasks n ≡ None)

  live_then : (n : ℕ) (f : TaskAt Moved → TaskAt Moved) (g : Own → Own) (c : All Moved) → ((t : TaskAt Moved) → (f t).own ≡ g t.own) → ((o : Own) → (is_terminated (g o).status ≡ false) × (is_created (g o).status ≡ false)) → LiveOrNone n (on_task n f c)
  live_then n f g c h live = by (changed_is c.tasks n f g h)
    where
      by : (at (owns (changed n f c.tasks)) n ≡ g (at (owns c.tasks) n)) ⊎ ((at (owns c.tasks) n ≡ nobody) × (slice_get (changed n f c.tasks) n ≡ None)) → LiveOrNone n (on_task n f c)
      by (inl e) = inl (subst (λ (o : Own). (is_terminated o.status ≡ false) × (is_created o.status ≡ false)) (sym e) (live (at (owns c.tasks) n)))
      by (inr z) = inr z.1

  not_nobody : (n : ℕ) (c : All Moved) → IsLive pins n c → ¬ (own_at pins c n ≡ nobody)
  not_nobody n c live e = true_is_not_false (sym (ap (λ (o : Own). is_terminated o.status) e) ∙ live.0)

  -- a task that was live
  pub still_live : (n : ℕ) (f : Own → Own) (c : All Moved) → IsLive pins n c → ((o : Own) → (is_terminated (f o).status ≡ false) × (is_created (f o).status ≡ false)) → IsLive pins n (on_own n f c)
  still_live n f c live h = by (changed_is c.tasks n (λ t. record t { own = f t.own }) f (λ t. refl))
    where
      by : (own_at pins (on_own n f c) n ≡ f (own_at pins c n)) ⊎ ((own_at pins c n ≡ nobody) × (slice_get (on_own n f c).tasks n ≡ None)) → IsLive pins n (on_own n f c)
      by (inl e) = subst (λ (o : Own). (is_terminated o.status ≡ false) × (is_created o.status ≡ false)) (sym e) (h (own_at pins c n))
      by (inr z) = absurd (not_nobody n c live z.0)

  control_live : (n : ℕ) (f : Moved → Moved) (c : All Moved) → IsLive pins n c → IsLive pins n (on_control n f c)
  control_live n f c live = by (changed_is c.tasks n (λ t. record { control = f t.control; own = t.own }) (λ o. o) (λ t. refl))
    where
      by : (own_at pins (on_control n f c) n ≡ own_at pins c n) ⊎ ((own_at pins c n ≡ nobody) × (slice_get (on_control n f c).tasks n ≡ None)) → IsLive pins n (on_control n f c)
      by (inl e) = subst (λ (o : Own). (is_terminated o.status ≡ false) × (is_created o.status ≡ false)) (sym e) live
      by (inr z) = absurd (not_nobody n c live z.0)

  none_alone : (f : Acting Moved → Acting Moved) (n : ℕ) (c : All Moved) → slice_get c.tasks n ≡ None → Held pins c → Held pins (alone f n c)
  none_alone f n c e s = subst (λ o. Held pins (alone_by f o n c)) (sym e) s

  pub opens_or_none : (purpose : Purpose) (region : ℕ) (at : Pos) (display : List ℕ) (cells : List ℤ) (elaborated n : ℕ) (c : All Moved) → GoesBack (back_of purpose) → LiveOrNone n c → EachIs (λ f. IsFrame f (bones_at pins c n) ⊎ MaySee (owns c.tasks) (around pins c.shared.objects) (own_at pins c n).masters f) display → Held pins c → Held pins (alone (λ t. opens purpose region at display cells elaborated t) n c)
  opens_or_none purpose region at display cells elaborated n c back (inl live) may s = alone_opens pins purpose region at display cells elaborated n c back live may s
  opens_or_none purpose region at display cells elaborated n c back (inr e) may s = none_alone (λ t. opens purpose region at display cells elaborated t) n c e s

  opens_here_or_none : (purpose : Purpose) (region : ℕ) (at : Pos) (cells : List ℤ) (elaborated n : ℕ) (c : All Moved) → GoesBack (back_of purpose) → LiveOrNone n c → Held pins c → Held pins (alone (λ t. opens purpose region at t.own.display cells elaborated t) n c)
  opens_here_or_none purpose region at cells elaborated n c back (inl live) s = alone_opens_here pins purpose region at cells elaborated n c back live s
  opens_here_or_none purpose region at cells elaborated n c back (inr e) s = none_alone (λ t. opens purpose region at t.own.display cells elaborated t) n c e s

  pub if_held : (b : Bool) (x y : All Moved) → Held pins x → Held pins y → Held pins (if b then x else y)
  if_held true x y h g = h
  if_held false x y h g = g

  runs_live : (o : Own) → (is_terminated (runs o).status ≡ false) × (is_created (runs o).status ≡ false)
  runs_live o = (refl, refl)

  outer_same : (os : List Opened) → own.outermost os ≡ outermost (bones os)
  outer_same [] = refl
  outer_same (o ∷ []) = refl
  outer_same (o ∷ p ∷ os) = outer_same (p ∷ os)

  -- What is left to be ended.

  but_those : (master : ℕ) (c : All Moved) → Held pins c → Holds pins (λ ms. contains master ms) c
  but_those master c s = record { sees = λ n e. s.sees n refl; made = s.made; made_masters = s.made_masters; ended = s.ended; created = s.created; back = s.back; apart = s.apart; through = s.through; bodies = s.bodies }

  first_true : (x y : Bool) → (x && y) ≡ true → x ≡ true
  first_true true y h = refl
  first_true false y h = h

  module _ (plan : Plan) (barrier : ℕ → Sight → Result Bool Raise) where
    -- Tasks that are created and not activated.

    created_end : (q : Own → Bool) (c : All Moved) → Held pins c → Held pins (effect.terminate_all noted plan barrier (numbers (λ (t : TaskAt Moved). is_created t.own.status && q t.own) 0 c.tasks) c)
    created_end q c s =
        let ns = numbers (λ (t : TaskAt Moved). is_created t.own.status && q t.own) 0 c.tasks in
        frameless_hold pins plan barrier (none pins) ns c
        (each_map (λ n. (is_created (own_at pins c n).status && q (own_at pins c n)) ≡ true) (λ n. bones_at pins c n ≡ []) ns (λ n e. s.created n (first_true (is_created (own_at pins c n).status) (q (own_at pins c n)) e))
        (numbers_pass pins (λ o. is_created o.status && q o) c)) s

    pub raises_in_part_held : (raise : Raise) (at : Pos) (n : ℕ) (c : All Moved) → Held pins c → Held pins (effect.raises_in_part noted plan barrier raise at n c)
    raises_in_part_held raise at n c s =
        let part = innermost (own_of n c).opened in
        let d : All Moved = effect.terminate_all noted plan barrier (effect.not_activated noted plan barrier part c) c in
        held_tame pins d (raised_at raise at n d) (raised_tame raise at n d) (created_end (λ o. nat_eq o.part part) c s)

    -- Activation.

    begins_held : (activator n : ℕ) (c : All Moved) → Held pins c → Held pins (effect.begins noted plan barrier activator n c)
    begins_held activator n c s =
        let own = own_of n c in
        let f : Own → Own = λ o. record o { status = Running; activator = Some activator } in
        let d : All Moved = on_own n f c in
        let t : IsTame c d = on_own_tame n f c (λ o. goes_on o (f o) refl refl refl refl refl) in
        let s' : Held pins d = held_tame pins c d t s in
        opens_or_none for_body (unit_of plan own.unit).region (unit_of plan own.unit).at own.display (pos n ∷ []) 1 n d tt
        (live_then n (λ t. record t { own = f t.own }) f c (λ t. refl) (λ o. (refl, refl)))
        (subst (EachIs (λ g. IsFrame g (bones_at pins d n) ⊎ MaySee (owns d.tasks) (around pins d.shared.objects) (own_at pins d n).masters g)) (t.tasks n).display (sees_its pins d n s')) s'

    begin_all_held : (activator : ℕ) (ns : List ℕ) (c : All Moved) → Held pins c → Held pins (effect.begin_all noted plan barrier activator ns c)
    begin_all_held activator [] c s = s
    begin_all_held activator (n ∷ ns) c s = begin_all_held activator ns (effect.begins noted plan barrier activator n c) (begins_held activator n c s)

    pub activates_held : (at : Pos) (n : ℕ) (ns : List ℕ) (c : All Moved) → Held pins c → Held pins (effect.activates noted plan barrier at n ns c)
    activates_held at n [] c s = held_tame pins c (on_control n (takes_part 0) c) (on_control_tame n (takes_part 0) c) s
    activates_held at n (m ∷ ms) c s =
        let f : Own → Own = λ own. record (blocks Activating at no_waits own) { failed = false } in
        let d : All Moved = on_own n f c in
        begin_all_held n (m ∷ ms) d (held_tame pins c d (on_own_tame n f c (λ o. goes_on o (f o) refl refl refl refl refl)) s)

    -- Completion.

    pub completes_held : (raised : Option Exception) (n : ℕ) (c : All Moved) → Held pins c → Held pins (effect.completes noted plan barrier raised n c)
    completes_held raised n c s =
        let opened = (own_of n c).opened in
        let f : Own → Own = λ own. record own { status = Completed; pending = None; raised = raised; waits = no_waits } in
        let c1 : All Moved = on_own n f c in
        let c2 : All Moved = effect.refuse noted plan barrier Tasking (effect.accepts_under_way noted plan barrier opened) c1 in
        let c3 : All Moved = effect.refuse_queues noted plan barrier n c2 in
        let ns = numbers (effect.created_in noted plan barrier opened) 0 c.tasks in
        let c4 : All Moved = effect.terminate_all noted plan barrier ns c3 in
        let t1 : IsTame c c1 = on_own_tame n f c (λ o. goes_on o (f o) refl refl refl refl refl) in
        let t : IsTame c c3 = after c c1 c3 t1 (after c1 c2 c3 (refuse_tame plan barrier Tasking (effect.accepts_under_way noted plan barrier opened) c1) (refuse_queues_tame plan barrier n c2)) in
        held_tame pins c4 (effect.activation_ended noted plan barrier (is_some raised) n c4) (activation_tame plan barrier (is_some raised) n c4)
        (frameless_hold pins plan barrier (none pins) ns c3
        (each_map (λ k. (is_created (own_at pins c k).status && any (λ (o : Opened). nat_eq o.frame (own_at pins c k).part) opened) ≡ true) (λ k. bones_at pins c3 k ≡ []) ns
        (λ k e. (t.tasks k).opened ∙ s.created k (first_true (is_created (own_at pins c k).status) (any (λ (o : Opened). nat_eq o.frame (own_at pins c k).part) opened) e))
        (numbers_pass pins (λ o. is_created o.status && any (λ (x : Opened). nat_eq x.frame o.part) opened) c))
        (held_tame pins c c3 t s))

    pub closes_held : (n : ℕ) (c : All Moved) → LastIsMaster (bones_at pins c n) ⊎ AreKept (IsPinned (around pins c.shared.objects)) (own_at pins c n) → Held pins c → Held pins (effect.closes noted plan barrier n c)
    closes_held n c h s =
        let master = body_master (own_of n c) in
        let d : All Moved = effect.close_master noted plan barrier master c in
        terminate_holds pins plan barrier (none pins) n d (λ m e. free m h (contains master (own_at pins d m).masters) refl) (close_holds pins plan barrier master c (but_those master c s))
      where
        last : (m f : ℕ) → LastIsMaster (bones_at pins c n) → IsFrame f (bones_at pins c n) → Contains f (own_at pins c m).masters → Contains (body_master (own_of n c)) (own_at pins c m).masters
        last m f l h g = subst (λ k. Contains k (own_at pins c m).masters) (sym (outer_same (own_of n c).opened)) (s.bodies n m f h g l)

        pinned_there : (f : ℕ) → IsPinned (around pins c.shared.objects) f → IsPinned (around pins (effect.close_master noted plan barrier (body_master (own_of n c)) c).shared.objects) f
        pinned_there f (inl x) = inl x
        pinned_there f (inr x) = inr (sym (around_same pins c.shared.objects (effect.close_master noted plan barrier (body_master (own_of n c)) c).shared.objects f ((close_ended pins plan barrier (body_master (own_of n c)) c).objects f)) ∙ x)

        free : (m : ℕ) → LastIsMaster (bones_at pins c n) ⊎ AreKept (IsPinned (around pins c.shared.objects)) (own_at pins c n) → (b : Bool) → contains (body_master (own_of n c)) (own_at pins (effect.close_master noted plan barrier (body_master (own_of n c)) c) m).masters ≡ b → IsEmpty (own_at pins (effect.close_master noted plan barrier (body_master (own_of n c)) c) m) ⊎ ((f : ℕ) → IsFrame f (bones_at pins (effect.close_master noted plan barrier (body_master (own_of n c)) c) n) → (¬ Contains f (own_at pins (effect.close_master noted plan barrier (body_master (own_of n c)) c) m).masters) ⊎ AreKept (IsPinned (around pins (effect.close_master noted plan barrier (body_master (own_of n c)) c).shared.objects)) (own_at pins (effect.close_master noted plan barrier (body_master (own_of n c)) c) n))
        free m (inr k) b e = inr (λ f h. inr (λ g w. by g w ((close_ended pins plan barrier (body_master (own_of n c)) c).frames n)))
          where
            by : (g : ℕ) → IsFrame g (bones_at pins (effect.close_master noted plan barrier (body_master (own_of n c)) c) n) → ((bones_at pins (effect.close_master noted plan barrier (body_master (own_of n c)) c) n ≡ bones_at pins c n) × ((own_at pins (effect.close_master noted plan barrier (body_master (own_of n c)) c) n).display ≡ (own_at pins c n).display)) ⊎ IsEmpty (own_at pins (effect.close_master noted plan barrier (body_master (own_of n c)) c) n) → IsPinned (around pins (effect.close_master noted plan barrier (body_master (own_of n c)) c).shared.objects) g
            by g w (inl z) = pinned_there g (k g (subst (IsFrame g) z.0 w))
            by g w (inr z) = absurd (subst (IsFrame g) z.opened w)
        free m (inl l) true e = inl (close_empty pins plan barrier (body_master (own_of n c)) c (but_those (body_master (own_of n c)) c s) m e)
        free m (inl l) false e = inr (λ f h. inl (λ g. by ((close_ended pins plan barrier (body_master (own_of n c)) c).frames n) f h g))
          where
            by : ((bones_at pins (effect.close_master noted plan barrier (body_master (own_of n c)) c) n ≡ bones_at pins c n) × ((own_at pins (effect.close_master noted plan barrier (body_master (own_of n c)) c) n).display ≡ (own_at pins c n).display)) ⊎ IsEmpty (own_at pins (effect.close_master noted plan barrier (body_master (own_of n c)) c) n) → (f : ℕ) → IsFrame f (bones_at pins (effect.close_master noted plan barrier (body_master (own_of n c)) c) n) → Contains f (own_at pins (effect.close_master noted plan barrier (body_master (own_of n c)) c) m).masters → ⊥
            by (inl z) f h g =
                let same = (close_ended pins plan barrier (body_master (own_of n c)) c).masters m in
                true_is_not_false (sym (subst (Contains (body_master (own_of n c))) (sym same) (last m f l (subst (IsFrame f) z.0 h) (subst (Contains f) same g))) ∙ e)
            by (inr z) f h g = subst (IsFrame f) z.opened h

    -- The ends of constructs.

    -- the task's innermost frame is this one
    abbrev pub AtEnd : ℕ → Opened → List Opened → All Moved → Type 0
    AtEnd n o os c = (own_at pins c n).opened ≡ o ∷ os

    closed_one : (n : ℕ) (o : Opened) (os : List Opened) (f : Own → Own) (c : All Moved) → AtEnd n o os c → ((w : Own) → ((f w).display ≡ (closed w).display) × ((f w).opened ≡ (closed w).opened) × ((f w).masters ≡ (closed w).masters)) → ((is_terminated (f (own_at pins c n)).status ≡ true → is_terminated (own_at pins c n).status ≡ true) × (is_created (f (own_at pins c n)).status ≡ true → is_created (own_at pins c n).status ≡ true)) ⊎ ((is_created (f (own_at pins c n)).status ≡ false) × (is_terminated (f (own_at pins c n)).status ≡ false)) → (is_master o ≡ false) ⊎ Unit {0} → Held pins c → Holds pins (λ ms. if is_master o then contains o.frame ms else false) (on_own n f c)
    closed_one n o os f c e like status kind s =
        let w = own_at pins c n in
        popped (none pins) (λ ms. if is_master o then contains o.frame ms else false) n (f w) (owns c.tasks) (owns (on_own n f c).tasks) (around pins c.shared.objects) (length c.shared.frames) (own_changed pins n f c) (bone o) (bones os)
        (ap bones e)
        (ap bones (like w).1 ∙ ap (λ ys. bones (closed_by ys w).opened) e)
        ((like w).0 ∙ ap (λ ys. (closed_by ys w).display) e)
        ((like w).2 ∙ ap (λ ys. (closed_by ys w).masters) e)
        status (λ ms g. (refl, λ h k. fit ms (is_master o) h k g)) s
      where
        fit : (ms : List ℕ) (b : Bool) → b ≡ true → Contains o.frame ms → (if b then contains o.frame ms else false) ≡ false → ⊥
        fit ms true h k g = true_is_not_false (sym k ∙ g)
        fit ms false h k g = true_is_not_false (sym h)

    not_master_held : (o : Opened) (c : All Moved) → is_master o ≡ false → Holds pins (λ ms. if is_master o then contains o.frame ms else false) c → Held pins c
    not_master_held o c e s = subst (λ b. Holds pins (λ ms. if b then contains o.frame ms else false) c) e s

    master_held : (o : Opened) (c : All Moved) → is_master o ≡ true → Holds pins (λ ms. if is_master o then contains o.frame ms else false) c → Held pins (effect.close_master noted plan barrier o.frame c)
    master_held o c e s = close_holds pins plan barrier o.frame c (subst (λ b. Holds pins (λ ms. if b then contains o.frame ms else false) c) e s)

    closed_status : (os : List Opened) (o : Own) → (closed_by os o).status ≡ o.status
    closed_status [] o = refl
    closed_status (x ∷ xs) o = refl

    same_status : (w : Own) → ((is_terminated (closed w).status ≡ true → is_terminated w.status ≡ true) × (is_created (closed w).status ≡ true → is_created w.status ≡ true)) ⊎ ((is_created (closed w).status ≡ false) × (is_terminated (closed w).status ≡ false))
    same_status w = inl (λ h. subst (λ k. is_terminated k ≡ true) (closed_status w.opened w) h, λ h. subst (λ k. is_created k ≡ true) (closed_status w.opened w) h)

    block_end_held : (pending : Option Pending) (o : Opened) (os : List Opened) (n : ℕ) (c : All Moved) → is_master o ≡ true → AtEnd n o os c → Held pins c → Held pins (effect.at_block_end noted plan barrier pending o n c)
    block_end_held None o os n c k e s = master_held o (on_own n closed c) k (closed_one n o os closed c e (λ w. (refl, refl, refl)) (same_status (own_at pins c n)) (inr tt) s)
    block_end_held (Some x) o os n c k e s =
        let f : Own → Own = λ own. pends x.exception o.at (closed own) in
        master_held o (on_own n f c) k (closed_one n o os f c e (λ w. (refl, refl, refl)) (same_status (own_at pins c n)) (inr tt) s)

    procedure_end_held : (pending : Option Pending) (r : Returning) (o : Opened) (os : List Opened) (n : ℕ) (c : All Moved) → is_master o ≡ true → AtEnd n o os c → Held pins c → Held pins (effect.at_procedure_end noted plan barrier pending r o n c)
    procedure_end_held pending r o os n c k e s =
        let d : All Moved = effect.close_master noted plan barrier o.frame (on_own n closed c) in
        held_tame pins d (effect.returned_or noted plan barrier pending r o.frame o.at n d) (returned_or_tame plan barrier pending r o.frame o.at n d)
        (master_held o (on_own n closed c) k (closed_one n o os closed c e (λ w. (refl, refl, refl)) (same_status (own_at pins c n)) (inr tt) s))

    rendezvous_by_held : (region : Option ℕ) (a : OpenAccept) (id n : ℕ) (c : All Moved) → Held pins c → Held pins (effect.rendezvous_by noted plan barrier region a id n c)
    rendezvous_by_held None a id n c s =
        let d : All Moved = on_task n (λ t. record { control = takes_part a.alternative t.control; own = runs t.own }) c in
        held_tame pins c (effect.rendezvous_by noted plan barrier None a id n c) (after c d (effect.rendezvous_by noted plan barrier None a id n c) (goes_to_tame plan barrier a.alternative n c) (end_call_tame plan barrier (succeeds ((call_of id c).values ++ (call_of id c).unseen)) id d)) s
    rendezvous_by_held (Some region) a id n c s =
        let f : TaskAt Moved → TaskAt Moved = λ t. record { control = does_accept a.alternative t.control; own = runs t.own } in
        let d : All Moved = on_task n f c in
        opens_here_or_none (for_accept id) region a.at (call_of id c).values (length (call_of id c).values) n d tt (live_then n f runs c (λ t. refl) runs_live)
        (held_tame pins c d (on_task_tame n f c (λ t. goes_on t.own (runs t.own) refl refl refl refl refl)) s)

    rendezvous_held : (a : OpenAccept) (id n : ℕ) (c : All Moved) → Held pins c → Held pins (effect.rendezvous noted plan barrier a id n c)
    rendezvous_held a id n c s =
        let d : All Moved = on_call id (λ call. record call { state = Selected }) c in
        rendezvous_by_held a.region a id n d (held_tame pins c d (on_call_tame id (λ call. record call { state = Selected }) c) s)

    -- Requeue.

    made_again_held : (alternative : Option ℕ) (ones : List OpenAccept) (id task : ℕ) (c : All Moved) → Held pins c → Held pins (effect.made_again noted plan barrier alternative ones id task c)
    made_again_held alternative [] id task c s = held_tame pins c (arrives id c) (arrives_tame id c) s
    made_again_held alternative (a ∷ more) id task c s = rendezvous_held (alternative_of alternative a (a ∷ more)) id task c s

    requeued_held : (alternative : Option ℕ) (o : Owner) (at : Pos) (id n : ℕ) (c : All Moved) → Held pins c → Held pins (effect.requeued_on noted plan barrier alternative o at id n c)
    requeued_held alternative (owner.Task task) at id n c s =
        let call = call_of id c in
        let f = effect.called_of noted plan barrier (owner.Task task) in
        let ones = open_alternatives (own_of task c) call.entry in
        let x : All Moved = effect.made_again noted plan barrier alternative ones id task (on_call id f c) in
        let y : All Moved = effect.end_call noted plan barrier (fails (Predefined Tasking)) id c in
        if_held (effect.is_lost noted plan barrier call c) (cancels id c) (if is_callable (own_of task c) then x else y)
        (held_tame pins c (cancels id c) (cancels_tame id c) s)
        (if_held (is_callable (own_of task c)) x y
        (made_again_held alternative ones id task (on_call id f c) (held_tame pins c (on_call id f c) (on_call_tame id f c) s))
        (held_tame pins c y (end_call_tame plan barrier (fails (Predefined Tasking)) id c) s))
    requeued_held alternative (owner.Object object) at id n c s =
        let g : Own → Own = λ own. record own { restart = Some (record { call = id; object = object; at = at }) } in
        held_tame pins c (on_own n g c) (on_own_tame n g c (λ o. keeps o (g o) refl refl refl refl)) s

    accept_ended_held : (alternative : Option ℕ) (o : Option Again) (values : List ℤ) (id n : ℕ) (c : All Moved) → Held pins c → Held pins (effect.accept_ended noted plan barrier alternative o values id n c)
    accept_ended_held alternative None values id n c s = held_tame pins c (effect.end_call noted plan barrier (succeeds values) id c) (end_call_tame plan barrier (succeeds values) id c) s
    accept_ended_held alternative (Some x) values id n c s =
        let f = effect.retargeted noted plan barrier x values in
        requeued_held alternative x.owner x.at id n (on_call id f c) (held_tame pins c (on_call id f c) (on_call_tame id f c) s)

    queued_again_tame : (object id : ℕ) (c : All Moved) → IsTame c (effect.queued_again noted plan barrier object id c)
    queued_again_tame object id c = by (effect.is_lost noted plan barrier (call_of id c) c)
      where
        by : (b : Bool) → IsTame c (if b then cancels id c else arrives id (on_call id (effect.called_of noted plan barrier (owner.Object object)) c))
        by true = cancels_tame id c
        by false =
            let f = effect.called_of noted plan barrier (owner.Object object) in
            after c (on_call id f c) (arrives id (on_call id f c)) (on_call_tame id f c) (arrives_tame id (on_call id f c))

    pub entry_ended_tame : (pending : Option Pending) (o : Option Again) (values : List ℤ) (object id : ℕ) (c : All Moved) → IsTame c (effect.entry_ended noted plan barrier pending o values object id c)
    entry_ended_tame (Some x) o values object id c = end_call_tame plan barrier (fails x.exception) id c
    entry_ended_tame None None values object id c = end_call_tame plan barrier (succeeds values) id c
    entry_ended_tame None (Some x) values object id c =
        let f = effect.retargeted noted plan barrier x values in
        after c (on_call id f c) (effect.queued_again noted plan barrier object id (on_call id f c)) (on_call_tame id f c) (queued_again_tame object id (on_call id f c))

    accept_end_held : (alternative : Option ℕ) (pending : Option Pending) (id : ℕ) (o : Opened) (os : List Opened) (n : ℕ) (c : All Moved) → is_master o ≡ false → AtEnd n o os c → Held pins c → Held pins (effect.at_accept_end noted plan barrier alternative pending id o n c)
    accept_end_held alternative None id o os n c k e s =
        let f : Own → Own = λ own. record (closed own) { again = None } in
        let d : All Moved = on_own n f c in
        accept_ended_held alternative (own_of n c).again (effect.present_values noted plan barrier id o.frame c) id n d
        (not_master_held o d k (closed_one n o os f c e (λ w. (refl, refl, refl)) (same_status (own_at pins c n)) (inr tt) s))
    accept_end_held alternative (Some x) id o os n c k e s =
        let f : Own → Own = λ own. pends x.exception o.at (record (closed own) { again = None }) in
        let d : All Moved = on_own n f c in
        held_tame pins d (effect.end_call noted plan barrier (fails x.exception) id d) (end_call_tame plan barrier (fails x.exception) id d)
        (not_master_held o d k (closed_one n o os f c e (λ w. (refl, refl, refl)) (same_status (own_at pins c n)) (inr tt) s))

    operation_end_held : (pending : Option Pending) (object : ℕ) (r : Returning) (o : Opened) (os : List Opened) (n : ℕ) (c : All Moved) → is_master o ≡ false → AtEnd n o os c → Held pins c → Held pins (effect.at_operation_end noted plan barrier pending object r o n c)
    operation_end_held pending object r o os n c k e s =
        let d : All Moved = on_own n closed c in
        let x : All Moved = effect.returned_or noted plan barrier pending r o.frame o.at n d in
        let s' : Held pins x = held_tame pins d x (returned_or_tame plan barrier pending r o.frame o.at n d) (not_master_held o d k (closed_one n o os closed c e (λ w. (refl, refl, refl)) (same_status (own_at pins c n)) (inr tt) s)) in
        if_held r.is_function (end_action n object x) (effect.serviced noted plan barrier object o.at n x) (held_tame pins x (end_action n object x) (end_tame n object x) s')
        (held_tame pins x (effect.serviced noted plan barrier object o.at n x) (serviced_tame plan barrier object o.at n x) s')

    entry_end_held : (pending : Option Pending) (object id : ℕ) (back : Resumed) (o : Opened) (os : List Opened) (n : ℕ) (c : All Moved) → is_master o ≡ false → (is_created back.status ≡ false) × (is_terminated back.status ≡ false) → AtEnd n o os c → Held pins c → Held pins (effect.at_entry_end noted plan barrier pending object id back o n c)
    entry_end_held pending object id back o os n c k b e s =
        let f : Own → Own = λ own. record (closed own) { status = back.status; pending = back.pending; again = None } in
        let values = effect.present_values noted plan barrier id o.frame c in
        let d : All Moved = on_own n f c in
        let x : All Moved = effect.entry_ended noted plan barrier pending (own_of n c).again values object id d in
        held_tame pins x (effect.serviced noted plan barrier object o.at n x) (serviced_tame plan barrier object o.at n x)
        (held_tame pins d x (entry_ended_tame pending (own_of n c).again values object id d)
        (not_master_held o d k (closed_one n o os f c e (λ w. (refl, refl, refl)) (inr b) (inr tt) s)))

    -- the loops within the construct are left
    pub out_at : (n : ℕ) (o : Opened) (os : List Opened) (c : All Moved) → (out_of_loops (own_at pins c n)).opened ≡ o ∷ os → AtEnd n o os (on_own n out_of_loops c)
    out_at n o os c e = by (changed_is c.tasks n (λ t. record t { own = out_of_loops t.own }) out_of_loops (λ t. refl))
      where
        by : (own_at pins (on_own n out_of_loops c) n ≡ out_of_loops (own_at pins c n)) ⊎ ((own_at pins c n ≡ nobody) × (slice_get (on_own n out_of_loops c).tasks n ≡ None)) → AtEnd n o os (on_own n out_of_loops c)
        by (inl z) = ap (λ (w : Own). w.opened) z ∙ e
        by (inr z) = absurd (subst (λ ys. IsFrame o.frame (bones ys)) (sym e ∙ ap (λ w. (out_of_loops w).opened) z.0) (inl refl))

    pub out_held : (n : ℕ) (c : All Moved) → Held pins c → Held pins (on_own n out_of_loops c)
    out_held n c s = own_left pins (none pins) n out_of_loops c (out_left pins (own_at pins c n)) s

    back_by : (n : ℕ) (o : Opened) (os : List Opened) (object id : ℕ) (served : Bool) (b : Resumed) (c : All Moved) → o.purpose ≡ for_entry object id served b → AtEnd n o os c → Held pins c → (is_created b.status ≡ false) × (is_terminated b.status ≡ false)
    back_by n o os object id served b c p e s =
        let g : GoesBack (back_of o.purpose) = (subst (λ ys. AreStacked (bones ys)) e (s.back n)).0.0 in
        subst (λ q. GoesBack (back_of q)) p g

    master_of : (o : Opened) (q : Purpose) → o.purpose ≡ q → is_master (record o { purpose = q }) ≡ is_master o
    master_of o q e = ap (λ p. is_master (record o { purpose = p })) (sym e)

    end_by_held : (alternative : Option ℕ) (q : Purpose) (pending : Option Pending) (o : Opened) (os : List Opened) (n : ℕ) (c : All Moved) → o.purpose ≡ q → (out_of_loops (own_at pins c n)).opened ≡ o ∷ os → Held pins c → Held pins (effect.at_end_by noted plan barrier alternative q pending o n c)
    end_by_held alternative for_body pending o os n c p e s = completes_held (exception_of pending) n c s
    end_by_held alternative for_block pending o os n c p e s = block_end_held pending o os n (on_own n out_of_loops c) (sym (master_of o for_block p)) (out_at n o os c e) (out_held n c s)
    end_by_held alternative for_loop pending o os n c p e s = s
    end_by_held alternative (for_procedure r) pending o os n c p e s = procedure_end_held pending r o os n (on_own n out_of_loops c) (sym (master_of o (for_procedure r) p)) (out_at n o os c e) (out_held n c s)
    end_by_held alternative (for_operation object r) pending o os n c p e s = operation_end_held pending object r o os n (on_own n out_of_loops c) (sym (master_of o (for_operation object r) p)) (out_at n o os c e) (out_held n c s)
    end_by_held alternative (for_entry object id served back) pending o os n c p e s =
        entry_end_held pending object id back o os n (on_own n out_of_loops c) (sym (master_of o (for_entry object id served back) p))
        (back_by n o os object id served back (on_own n out_of_loops c) p (out_at n o os c e) (out_held n c s)) (out_at n o os c e) (out_held n c s)
    end_by_held alternative (for_accept id) pending o os n c p e s = accept_end_held alternative pending id o os n (on_own n out_of_loops c) (sym (master_of o (for_accept id) p)) (out_at n o os c e) (out_held n c s)

    end_of_held : (alternative : Option ℕ) (ys : List Opened) (pending : Option Pending) (n : ℕ) (c : All Moved) → (out_of_loops (own_at pins c n)).opened ≡ ys → Held pins c → Held pins (effect.at_end_of noted plan barrier alternative ys pending n c)
    end_of_held alternative [] pending n c e s = s
    end_of_held alternative (o ∷ os) pending n c e s = end_by_held alternative o.purpose pending o os n c refl e s

    pub at_end_held : (alternative : Option ℕ) (pending : Option Pending) (n : ℕ) (c : All Moved) → Held pins c → Held pins (effect.at_end noted plan barrier alternative pending n c)
    at_end_held alternative pending n c s = end_of_held alternative (out_of_loops (own_of n c)).opened pending n c refl s

    -- a block, with loops around it that are left at once
    pub block_with_loops : (k : ℕ) (pending : Option Pending) (o : Opened) (os : List Opened) (n : ℕ) (c : All Moved) → is_master o ≡ true → AtEnd n o os c → LeavesNoMaster k (bones os) → LeavesNoMaster k (bones_at pins (effect.at_block_end noted plan barrier pending o n c) n)
    block_with_loops k pending o os n c m e h = by pending
      where
        closed_as : (f : Own → Own) → ((w : Own) → (f w).opened ≡ (closed w).opened) → (d : All Moved) → d ≡ on_own n f c → (bones_at pins d n ≡ bones os) ⊎ (bones_at pins d n ≡ [])
        closed_as f like d is = subst (λ x. (bones_at pins x n ≡ bones os) ⊎ (bones_at pins x n ≡ [])) (sym is) (of (changed_is c.tasks n (λ t. record t { own = f t.own }) f (λ t. refl)))
          where
            of : (own_at pins (on_own n f c) n ≡ f (own_at pins c n)) ⊎ ((own_at pins c n ≡ nobody) × (slice_get (on_own n f c).tasks n ≡ None)) → (bones_at pins (on_own n f c) n ≡ bones os) ⊎ (bones_at pins (on_own n f c) n ≡ [])
            of (inl z) = inl (ap (λ (w : Own). bones w.opened) z ∙ ap bones (like (own_at pins c n)) ∙ ap (λ ys. bones (closed_by ys (own_at pins c n)).opened) e)
            of (inr z) = absurd (subst (λ ys. IsFrame o.frame (bones ys)) (sym e ∙ ap (λ (w : Own). w.opened) z.0) (inl refl))

        fits : (d : All Moved) → (bones_at pins d n ≡ bones os) ⊎ (bones_at pins d n ≡ []) → LeavesNoMaster k (bones_at pins (effect.close_master noted plan barrier o.frame d) n)
        fits d w = fits_by ((close_ended pins plan barrier o.frame d).frames n) w
          where
            none_left : (j : ℕ) → LeavesNoMaster j []
            none_left zero = tt
            none_left (suc j) = tt

            was : (bones_at pins d n ≡ bones os) ⊎ (bones_at pins d n ≡ []) → LeavesNoMaster k (bones_at pins d n)
            was (inl z) = subst (LeavesNoMaster k) (sym z) h
            was (inr z) = subst (LeavesNoMaster k) (sym z) (none_left k)

            fits_by : ((bones_at pins (effect.close_master noted plan barrier o.frame d) n ≡ bones_at pins d n) × ((own_at pins (effect.close_master noted plan barrier o.frame d) n).display ≡ (own_at pins d n).display)) ⊎ IsEmpty (own_at pins (effect.close_master noted plan barrier o.frame d) n) → (bones_at pins d n ≡ bones os) ⊎ (bones_at pins d n ≡ []) → LeavesNoMaster k (bones_at pins (effect.close_master noted plan barrier o.frame d) n)
            fits_by (inl z) w = subst (LeavesNoMaster k) (sym z.0) (was w)
            fits_by (inr z) w = subst (LeavesNoMaster k) (sym z.opened) (none_left k)

        by : (x : Option Pending) → LeavesNoMaster k (bones_at pins (effect.at_block_end noted plan barrier x o n c) n)
        by None = fits (on_own n closed c) (closed_as closed (λ w. refl) (on_own n closed c) refl)
        by (Some x) = fits (on_own n (λ own. pends x.exception o.at (closed own)) c) (closed_as (λ own. pends x.exception o.at (closed own)) (λ w. refl) (on_own n (λ own. pends x.exception o.at (closed own)) c) refl)

    -- Calls.

    pub calls_procedure_held : (at : Pos) (unit : ℕ) (passed : Passed) (into : Option Target) (n : ℕ) (c : All Moved) → IsLive pins n c → Held pins c → Held pins (effect.calls_procedure noted plan barrier at unit passed into n c)
    calls_procedure_held at unit passed into n c live s =
        let u = unit_of plan unit in
        let own = own_of n c in
        let purpose : Purpose = for_procedure (record { is_function = u.is_function; backs = passed.backs; into = into; value = None }) in
        let d : All Moved = on_control n (enters_body unit) c in
        let t : IsTame c d = on_control_tame n (enters_body unit) c in
        let s' : Held pins d = held_tame pins c d t s in
        if_held (has_room own) (effect.opens_for noted plan barrier purpose unit at (take u.level own.display) passed.values n d) (raised_at Storage at n c)
        (opens_or_none purpose (unit_of plan unit).region at (take u.level own.display) passed.values (length passed.values) n d tt
        (inl (control_live n (enters_body unit) c live))
        (each_front pins (λ g. IsFrame g (bones_at pins d n) ⊎ MaySee (owns d.tasks) (around pins d.shared.objects) (own_at pins d n).masters g) u.level own.display
        (subst (EachIs (λ g. IsFrame g (bones_at pins d n) ⊎ MaySee (owns d.tasks) (around pins d.shared.objects) (own_at pins d n).masters g)) (t.tasks n).display (sees_its pins d n s'))) s')
        (held_tame pins c (raised_at Storage at n c) (raised_tame Storage at n c) s)

    pub calls_operation_held : (at : Pos) (object unit : ℕ) (passed : Passed) (into : Option Target) (n : ℕ) (c : All Moved) → IsLive pins n c → Held pins c → Held pins (effect.calls_operation noted plan barrier at object unit passed into n c)
    calls_operation_held at object unit passed into n c live s =
        let u = unit_of plan unit in
        let purpose : Purpose = for_operation object (record { is_function = u.is_function; backs = passed.backs; into = into; value = None }) in
        let d : All Moved = on_control n (enters_body unit) c in
        let s' : Held pins d = held_tame pins c d (on_control_tame n (enters_body unit) c) s in
        let e : All Moved = effect.opens_for noted plan barrier purpose unit at (object_of object c).display passed.values n d in
        let s'' : Held pins e = opens_or_none purpose (unit_of plan unit).region at (object_of object c).display passed.values (length passed.values) n d tt (inl (control_live n (enters_body unit) c live)) (sees_object pins d n object) s' in
        if_held (acts_on n (object_of object c)) (raised_at Program at n c) (if has_room (own_of n c) then begin_action n object u.is_function e else raised_at Storage at n c)
        (held_tame pins c (raised_at Program at n c) (raised_tame Program at n c) s)
        (if_held (has_room (own_of n c)) (begin_action n object u.is_function e) (raised_at Storage at n c)
        (held_tame pins e (begin_action n object u.is_function e) (begin_tame n object u.is_function e) s'')
        (held_tame pins c (raised_at Storage at n c) (raised_tame Storage at n c) s))

    pub enters_entry_held : (served : Bool) (at : Pos) (object id n : ℕ) (c : All Moved) → IsLive pins n c → Held pins c → Held pins (effect.enters_entry noted plan barrier served at object id n c)
    enters_entry_held served at object id n c live s =
        let call = call_of id c in
        let unit = (entry_plan plan call.entry).unit in
        let own = own_of n c in
        let f : TaskAt Moved → TaskAt Moved = λ t. record { control = enters_body unit t.control; own = record t.own { status = Running; pending = None; serving = None } } in
        let g : Own → Own = λ o. record o { status = Running; pending = None; serving = None } in
        let d : All Moved = on_task n f c in
        let s' : Held pins d = held_tame pins c d (on_task_tame n f c (λ t. goes_on t.own (g t.own) refl refl refl refl refl)) s in
        let e : All Moved = effect.opens_for noted plan barrier (for_entry object id served (record { status = own.status; pending = own.pending })) unit at (object_of object c).display call.values n d in
        held_tame pins e (on_call id (λ a. record a { state = Selected }) e) (on_call_tame id (λ a. record a { state = Selected }) e)
        (opens_or_none (for_entry object id served (record { status = own.status; pending = own.pending })) (unit_of plan unit).region at (object_of object c).display call.values (length call.values) n d (live.1, live.0)
        (live_then n f g c (λ t. refl) (λ o. (refl, refl))) (sees_object pins d n object) s')

    waits_held : (b : Bool) (at : Pos) (object id n : ℕ) (c : All Moved) → Held pins c → Held pins (if b then end_action n object (cancels id (on_task n (λ t. record { control = takes_part 1 t.control; own = runs t.own }) c)) else effect.serviced noted plan barrier object at n (arrives id c))
    waits_held true at object id n c s =
        let d : All Moved = on_task n (λ t. record { control = takes_part 1 t.control; own = runs t.own }) c in
        held_tame pins c (end_action n object (cancels id d)) (after c d (end_action n object (cancels id d)) (goes_to_tame plan barrier 1 n c) (after d (cancels id d) (end_action n object (cancels id d)) (cancels_tame id d) (end_tame n object (cancels id d)))) s
    waits_held false at object id n c s =
        held_tame pins c (effect.serviced noted plan barrier object at n (arrives id c)) (after c (arrives id c) (effect.serviced noted plan barrier object at n (arrives id c)) (arrives_tame id c) (serviced_tame plan barrier object at n (arrives id c))) s

    barrier_met_held : (met : Result Bool Raise) (at : Pos) (object id n : ℕ) (c : All Moved) → IsLive pins n c → Held pins c → Held pins (effect.barrier_met noted plan barrier met at object id n c)
    barrier_met_held (Err raise) at object id n c live s =
        let d : All Moved = effect.end_call noted plan barrier (fails (Predefined Program)) id c in
        let e : All Moved = effect.refuse noted plan barrier Program (calls_on_object object c.shared.calls) d in
        held_tame pins c (end_action n object e) (after c d (end_action n object e) (end_call_tame plan barrier (fails (Predefined Program)) id c) (after d e (end_action n object e) (refuse_tame plan barrier Program (calls_on_object object c.shared.calls) d) (end_tame n object e))) s
    barrier_met_held (Ok true) at object id n c live s = enters_entry_held false at object id n c live s
    barrier_met_held (Ok false) at object id n c live s = waits_held (effect.is_conditional noted plan barrier (call_of id c).form) at object id n c s

    pub calls_object_held : (call : Call) (object : ℕ) (c : All Moved) → IsLive pins call.caller c → Held pins c → Held pins (effect.calls_object noted plan barrier call object c)
    calls_object_held call object c live s =
        let n = call.caller in
        let id = call_number c in
        let d : All Moved = new_call call c in
        let f : Own → Own = λ own. record (blocks Calling call.at no_waits own) { call = id } in
        let e : All Moved = on_own n f d in
        let x : All Moved = begin_action n object false e in
        let t : IsTame c x = after c d x (new_call_tame call c) (after d e x (at_call_tame n id call.at d) (begin_tame n object false e)) in
        if_held (in_action n c) (raised_at Program call.at n c) (if has_room (own_of n c) then effect.barrier_met noted plan barrier (effect.barrier_of plan barrier object call.entry c) call.at object id n x else raised_at Storage call.at n c)
        (held_tame pins c (raised_at Program call.at n c) (raised_tame Program call.at n c) s)
        (if_held (has_room (own_of n c)) (effect.barrier_met noted plan barrier (effect.barrier_of plan barrier object call.entry c) call.at object id n x) (raised_at Storage call.at n c)
        (barrier_met_held (effect.barrier_of plan barrier object call.entry c) call.at object id n x (still_live n f d live (λ o. (refl, refl))) (held_tame pins c x t s))
        (held_tame pins c (raised_at Storage call.at n c) (raised_tame Storage call.at n c) s))

    -- Rendezvous.

    blocks_held : (n : ℕ) (f : Own → Own) (c : All Moved) → ((o : Own) → ((f o).masters ≡ o.masters) × ((f o).display ≡ o.display) × ((f o).opened ≡ o.opened) × (is_terminated (f o).status ≡ false) × (is_created (f o).status ≡ false)) → Held pins c → Held pins (on_own n f c)
    blocks_held n f c h s = held_tame pins c (on_own n f c) (on_own_tame n f c (λ o. goes_on o (f o) (h o).0 (h o).1 (ap bones (h o).2) (h o).3 (h o).4)) s

    oldest_held : (a : OpenAccept) (ws : List Waiting) (n : ℕ) (c : All Moved) → Held pins c → Held pins (effect.accepts_oldest noted plan barrier a ws n c)
    oldest_held a [] n c s = blocks_held n (blocks Accepting a.at (record { accepts = a ∷ []; delays = []; terminate = false })) c (λ o. (refl, refl, refl, refl, refl)) s
    oldest_held a (w ∷ ws) n c s = rendezvous_held a w.call n c s

    pub accepts_call_held : (a : OpenAccept) (n : ℕ) (c : All Moved) → Held pins c → Held pins (effect.accepts_call noted plan barrier a n c)
    accepts_call_held a n c s = oldest_held a (queue n a.entry c.shared.calls) n c s

    calls_open_held : (alternative : Option ℕ) (ones : List OpenAccept) (call : Call) (task : ℕ) (c : All Moved) → Held pins c → Held pins (effect.calls_open noted plan barrier alternative ones call task c)
    calls_open_held alternative [] call task c s =
        let d : All Moved = new_call call c in
        let e : All Moved = stands_at_call call.caller (call_number c) call.at d in
        if_held (effect.is_conditional noted plan barrier call.form) (on_control call.caller (takes_part 1) c) (arrives (call_number c) e)
        (held_tame pins c (on_control call.caller (takes_part 1) c) (on_control_tame call.caller (takes_part 1) c) s)
        (held_tame pins c (arrives (call_number c) e) (after c d (arrives (call_number c) e) (new_call_tame call c) (after d e (arrives (call_number c) e) (at_call_tame call.caller (call_number c) call.at d) (arrives_tame (call_number c) e))) s)
    calls_open_held alternative (a ∷ more) call task c s =
        let d : All Moved = new_call call c in
        let e : All Moved = stands_at_call call.caller (call_number c) call.at d in
        rendezvous_held (alternative_of alternative a (a ∷ more)) (call_number c) task e (held_tame pins c e (after c d e (new_call_tame call c) (at_call_tame call.caller (call_number c) call.at d)) s)

    pub calls_task_held : (alternative : Option ℕ) (call : Call) (task : ℕ) (c : All Moved) → Held pins c → Held pins (effect.calls_task noted plan barrier alternative call task c)
    calls_task_held alternative call task c s =
        let ones = open_alternatives (own_of task c) call.entry in
        if_held (in_action call.caller c) (raised_at Program call.at call.caller c) (if is_callable (own_of task c) then effect.calls_open noted plan barrier alternative ones call task c else raised_at Tasking call.at call.caller c)
        (held_tame pins c (raised_at Program call.at call.caller c) (raised_tame Program call.at call.caller c) s)
        (if_held (is_callable (own_of task c)) (effect.calls_open noted plan barrier alternative ones call task c) (raised_at Tasking call.at call.caller c)
        (calls_open_held alternative ones call task c s) (held_tame pins c (raised_at Tasking call.at call.caller c) (raised_tame Tasking call.at call.caller c) s))

    picked_held : (ones : List OpenAccept) (n : ℕ) (c : All Moved) → Held pins c → Held pins (effect.selected_first noted plan barrier ones n c)
    picked_held [] n c s = s
    picked_held (o ∷ os) n c s = accepts_call_held o n c s

    pub selects_held : (alternative : Option ℕ) (has_else : Bool) (waits : Waits) (at : Pos) (n : ℕ) (c : All Moved) → Held pins c → Held pins (effect.selects noted plan barrier alternative has_else waits at n c)
    selects_held None true waits at n c s = held_tame pins c (on_control n (takes_part 0) c) (on_control_tame n (takes_part 0) c) s
    selects_held None false waits at n c s =
        if_held (nat_eq (length waits.accepts + length waits.delays) 0 && not waits.terminate) (raised_at Program at n c) (on_own n (blocks Accepting at waits) c)
        (held_tame pins c (raised_at Program at n c) (raised_tame Program at n c) s) (blocks_held n (blocks Accepting at waits) c (λ o. (refl, refl, refl, refl, refl)) s)
    selects_held (Some a) has_else waits at n c s = picked_held (filter (λ (o : OpenAccept). nat_eq o.alternative a) waits.accepts) n c s

    pub delays_held : (ms : ℕ) (at : Pos) (n : ℕ) (c : All Moved) → Held pins c → Held pins (effect.delays_for noted plan barrier ms at n c)
    delays_held ms at n c s =
        let f : Own → Own = blocks Delaying at (record { accepts = []; delays = record { alternative = 0; time = c.clock + ms } ∷ []; terminate = false }) in
        if_held (in_action n c) (raised_at Program at n c) (if nat_eq ms 0 then on_control n (takes_part 0) c else on_own n f c)
        (held_tame pins c (raised_at Program at n c) (raised_tame Program at n c) s)
        (if_held (nat_eq ms 0) (on_control n (takes_part 0) c) (on_own n f c) (held_tame pins c (on_control n (takes_part 0) c) (on_control_tame n (takes_part 0) c) s)
        (blocks_held n f c (λ o. (refl, refl, refl, refl, refl)) s))

    -- The step start of a call that is made again.

    kept_live : (n : ℕ) (f : Own → Own) (c : All Moved) → ((o : Own) → (f o).status ≡ o.status) → IsLive pins n c → IsLive pins n (on_own n f c)
    kept_live n f c h live = by (changed_is c.tasks n (λ t. record t { own = f t.own }) f (λ t. refl))
      where
        by : (own_at pins (on_own n f c) n ≡ f (own_at pins c n)) ⊎ ((own_at pins c n ≡ nobody) × (slice_get (on_own n f c).tasks n ≡ None)) → IsLive pins n (on_own n f c)
        by (inl e) = subst (λ k. (is_terminated k ≡ false) × (is_created k ≡ false)) (sym (ap (λ (o : Own). o.status) e ∙ h (own_at pins c n))) live
        by (inr z) = absurd (not_nobody n c live z.0)

    pub starts_again_held : (x : Restart) (n : ℕ) (c : All Moved) → IsLive pins n c → Held pins c → Held pins (effect.starts_again noted plan barrier x n c)
    starts_again_held x n c live s =
        let call = call_of x.call c in
        let f : Own → Own = λ own. record own { restart = None } in
        let d : All Moved = on_own n f c in
        let t : IsTame c d = on_own_tame n f c (λ o. keeps o (f o) refl refl refl refl) in
        let g = effect.called_of noted plan barrier (owner.Object x.object) in
        let e : All Moved = on_call x.call g d in
        let y : All Moved = begin_action n x.object false e in
        let met = effect.barrier_of plan barrier x.object call.entry c in
        if_held (effect.is_lost noted plan barrier call c) (cancels x.call d) (effect.barrier_met noted plan barrier met x.at x.object x.call n y)
        (held_tame pins c (cancels x.call d) (after c d (cancels x.call d) t (cancels_tame x.call d)) s)
        (barrier_met_held met x.at x.object x.call n y (kept_live n f c (λ o. refl) live)
        (held_tame pins c y (after c d y t (after d e y (on_call_tame x.call g d) (begin_tame n x.object false e))) s))

    -- The step serve.

    served_held : (s : Serving) (ws : List Waiting) (n : ℕ) (c : All Moved) → IsLive pins n c → Held pins c → Held pins (effect.serves_oldest noted plan barrier ws s n c)
    served_held s [] n c live h = h
    served_held s (w ∷ ws) n c live h = enters_entry_held true s.at s.object w.call n c live h

    pub serves_held : (alternative : Option ℕ) (s : Serving) (n : ℕ) (c : All Moved) → IsLive pins n c → Held pins c → Held pins (effect.serves noted plan barrier alternative s n c)
    serves_held None s n c live h = held_tame pins c (effect.serviced noted plan barrier s.object s.at n c) (serviced_tame plan barrier s.object s.at n c) h
    serves_held (Some index) s n c live h = served_held s (queue s.object (slice_index_or (0 ∷ effect.entries_of plan barrier s.object c) index 0) c.shared.calls) n c live h

    -- Abort.

    each_held : (f : ℕ → All Moved → All Moved) (ns : List ℕ) (c : All Moved) → ((n : ℕ) (x : All Moved) → Held pins x → Held pins (f n x)) → Held pins c → Held pins (effect.each noted plan barrier f ns c)
    each_held f [] c h s = s
    each_held f (n ∷ ns) c h s = each_held f ns (f n c) h (h n c s)

    withdraws_names : (o : Owner) (own : Own) → ((effect.withdraws_from noted plan barrier o own).masters ≡ own.masters) × ((effect.withdraws_from noted plan barrier o own).display ≡ own.display) × ((effect.withdraws_from noted plan barrier o own).opened ≡ own.opened) × ((effect.withdraws_from noted plan barrier o own).status ≡ own.status)
    withdraws_names (owner.Task m) own = (refl, refl, refl, refl)
    withdraws_names (owner.Object object) own = (refl, refl, refl, refl)

    loses_held : (n : ℕ) (ids : List ℕ) (c : All Moved) → Held pins c → Held pins (effect.loses_call noted plan barrier n ids c)
    loses_held n [] c s = s
    loses_held n (id ∷ ids) c s =
        let f : Own → Own = effect.withdraws_from noted plan barrier (call_of id c).owner in
        let d : All Moved = on_own n f c in
        loses_held n ids (cancels id d) (held_tame pins c (cancels id d) (after c d (cancels id d) (on_own_tame n f c (λ o. let w = withdraws_names (call_of id c).owner o in keeps o (f o) w.0 w.1 (ap bones w.2) w.3)) (cancels_tame id d)) s)

    ended_held : (b : Bool) (n : ℕ) (c : All Moved) → is_created (own_of n c).status ≡ b → Held pins c → Held pins (if b then effect.terminate noted plan barrier n c else c)
    ended_held true n c e s = terminate_holds pins plan barrier (none pins) n c (λ m z. inr (λ f h. inl (λ g. subst (IsFrame f) (s.created n e) h))) s
    ended_held false n c e s = s

    pub aborts_held : (ns : List ℕ) (at : Pos) (n : ℕ) (c : All Moved) → Held pins c → Held pins (effect.aborts noted plan barrier ns at n c)
    aborts_held ns at n c s =
        let hit = effect.hit_from noted plan barrier ns (effect.bodies_of noted plan barrier ns c) 0 c.tasks in
        let d : All Moved = on_control n (takes_part 0) c in
        let f1 = λ (k : ℕ) (x : All Moved). on_own k (λ own. record own { abnormal = true }) x in
        let f2 = λ (k : ℕ) (x : All Moved). effect.loses_call noted plan barrier k (effect.own_calls noted plan barrier k x.shared.calls) x in
        let d1 : All Moved = effect.each noted plan barrier f1 hit d in
        let d2 : All Moved = effect.each noted plan barrier f2 hit d1 in
        let d3 : All Moved = effect.each noted plan barrier (effect.refuse_queues noted plan barrier) hit d2 in
        if_held (in_action n c) (raised_at Program at n c) (effect.aborted noted plan barrier hit d)
        (held_tame pins c (raised_at Program at n c) (raised_tame Program at n c) s)
        (each_held (effect.terminates_created noted plan barrier) hit d3 (λ k x h. ended_held (is_created (own_of k x).status) k x refl h)
        (each_held (effect.refuse_queues noted plan barrier) hit d2 (λ k x h. held_tame pins x (effect.refuse_queues noted plan barrier k x) (refuse_queues_tame plan barrier k x) h)
        (each_held f2 hit d1 (λ k x h. loses_held k (effect.own_calls noted plan barrier k x.shared.calls) x h)
        (each_held f1 hit d (λ k x h. held_tame pins x (f1 k x) (on_own_tame k (λ own. record own { abnormal = true }) x (λ o. keeps o (record o { abnormal = true }) refl refl refl refl)) h)
        (held_tame pins c d (on_control_tame n (takes_part 0) c) s)))))

-- Bodies of entries that are left, at their end or by an exception: their calls end, or are made again.
use Rattle.std.proofs.Common.{◌≡◌, ◌⊎◌, ℕ, suc, ℤ, List, [], ◌∷◌, Option, Some, None, Bool, true, false, refl, sym, ap, ◌∙◌, subst, inl, inr, if◌then◌else◌, slice_get}
use Rattle.std.proofs.lemmas.Bool.{eq-eqb, eqb-true, true≢false}
use Rattle.std.specs.Prelude.{◌&&◌, nat_eq, not}
use Rattle.aud_text.specs.declared.limits.Limits.{Limits}
use Rattle.aud_text.specs.declared.place.Pos.{Pos}
use Rattle.aud_text.specs.declared.raise.Raise.{Raise}
use Rattle.aud_typed.specs.declared.program.Exception.{Exception}
use Rattle.aud_typed.specs.declared.program.Exception.TheVariants.{Predefined}
use Rattle.aud_typed.specs.Tree.{Plan}
use Rattle.aud_meaning.specs.declared.state.Again.{Again}
use Rattle.aud_meaning.specs.declared.state.CallState.TheVariants.{Queued, Selected, Done, Cancelled}
use Rattle.aud_meaning.specs.declared.state.Construct.TheVariants as construct
use Rattle.aud_meaning.specs.declared.state.Owner.{Owner}
use Rattle.aud_meaning.specs.declared.state.Owner.TheVariants as owner
use Rattle.aud_meaning.specs.declared.state.Pending.{Pending}
use Rattle.aud_meaning.specs.declared.state.Resumed.{Resumed}
use Rattle.aud_meaning.specs.declared.state.Status.TheVariants.{Running, Calling}
use Rattle.aud_meaning.specs.Configuration.{for_entry, Opened, Own, Call, Object, TaskAt, All}
use Rattle.aud_meaning.specs.Control.{ends, here, is_left_by, out_by, passes_end}
use Rattle.aud_meaning.specs.Effects.{closed, copied_back, is_loop, out_of, out_of_loops, out_of_loops_by, pends}
use Rattle.aud_meaning.specs.Parts.{Outcome, succeeds, fails, arrives, call_of, cancels, changed, contains, is_over, on_call, on_task, own_of, runs, with_frames}
use Rattle.aud_meaning.specs.Step.{done}
use Rattle.aud_meaning.specs.Tasks as effect
use Rattle.aud_meaning.proofs.Open.Tasks.{call_at}
use Rattle.aud_code.specs.Places.{Spot}
use Rattle.aud_code.specs.Flat.{Flat, Ends, end_at, ended_in, flat_controls, left_by}
use Rattle.aud_code.specs.Seen.{IsSeen}
use Rattle.aud_code.specs.Sound.{Counts, IsSound}
use Rattle.aud_code.specs.Starts.{IsSpot}
use Rattle.aud_code.proofs.Starts.{moved_kept}
use Rattle.aud_over.specs.Over.{is_call_over}
use Rattle.aud_framed.specs.Held.{GoesBack, StandsAt}
use Rattle.aud_framed.specs.Waiting.{TaskFramed, is_of_object}
use Rattle.aud_framed.specs.Calls.{AgainFits, AreApart, CallsOn, RequeueFits, Serves, ServesBy, Waits, WithinEntry, calls_in, objects_in, with_restarted, with_served}
use Rattle.aud_framed.specs.Framed.{IsFramed}
use Rattle.aud_framed.specs.Ways.{LeadsTo}
use Rattle.aud_framed.specs.Stepping.{HasWays}
use Rattle.aud_framed.proofs.Stepping.Actions.{changes_it, object_at}
use Rattle.aud_framed.proofs.Stepping.Blocks.{own_changed}
use Rattle.aud_framed.proofs.Stepping.Calls.{IsUnserved, like_same, over_framed, served_by}
use Rattle.aud_framed.proofs.Stepping.Choosing.{object_there}
use Rattle.aud_framed.proofs.Stepping.Ending.{Good, end_call_good}
use Rattle.aud_framed.proofs.Stepping.Finished.{end_leads, inner_likens, inner_quiet, innermost_is, its_side, out_leads, then_follows}
use Rattle.aud_framed.proofs.Stepping.Handling.{a_loop, loops_again}
use Rattle.aud_framed.proofs.Stepping.Holding.{HasObject, caller_waits, nobody_serves}
use Rattle.aud_framed.proofs.Stepping.Leaving.{got_changed, left_shape}
use Rattle.aud_framed.proofs.Stepping.Parts.{Follows, Likens, follows, like_framed, own_got}
use Rattle.aud_framed.proofs.Stepping.Refusing.{orders, other_task}
use Rattle.aud_framed.proofs.Stepping.Requeuing.{call_framed, changed_call, there_changed}
use Rattle.aud_framed.proofs.Stepping.Serving.{inner_apart, serviced_good}
use Rattle.aud_framed.proofs.Stepping.Tasks.{fused, no_loops, task_good, unchanged}

-- out of loops a call is made again where it was
loops_requeue : (plan : Plan) (c : All Spot) (r : Again) (os : List Opened) (own : Own) → own.opened ≡ os → RequeueFits plan c r os → RequeueFits plan c r (out_of_loops_by os own).opened
loops_requeue plan c r [] own e h = absurd h
loops_requeue plan c r (o ∷ os) own e h = by (is_loop o.purpose) refl (loops_requeue plan c r os (record own { display = o.saved; opened = os }) refl)
  where
    by : (b : Bool) → is_loop o.purpose ≡ b → (RequeueFits plan c r os → RequeueFits plan c r (out_of_loops_by os (record own { display = o.saved; opened = os })).opened) → RequeueFits plan c r (if b then out_of_loops_by os (record own { display = o.saved; opened = os }) else own).opened
    by true q on = on (subst (λ p. RequeueFits plan c r (record o { purpose = p } ∷ os) → RequeueFits plan c r os) (sym (a_loop o.purpose q)) (λ k. k) h)
    by false q on = subst (λ ps. RequeueFits plan c r ps) (sym e) h

-- A task behind the end of a call: it is as it was, but that it runs if it was the caller.
record AfterCall (id : ℕ) (d e : All Spot) (n : ℕ) (v : TaskAt Spot) : Type 0 where
  task : TaskAt Spot
  got : slice_get e.tasks n ≡ Some task
  opened : task.own.opened ≡ v.own.opened
  restart : task.own.restart ≡ v.own.restart
  again : task.own.again ≡ v.own.again
  status : (task.own.status ≡ Running) ⊎ (task.own.status ≡ v.own.status)
  objects : e.shared.objects ≡ d.shared.objects
  calls : e.shared.calls ≡ changed id (λ (a : Call). record a { state = Done }) d.shared.calls

-- it runs on, whatever is pending
record GoesOn (f : TaskAt Spot → TaskAt Spot) : Type 0 where
  opened : (v : TaskAt Spot) → (f v).own.opened ≡ v.own.opened
  restart : (v : TaskAt Spot) → (f v).own.restart ≡ v.own.restart
  again : (v : TaskAt Spot) → (f v).own.again ≡ v.own.again
  status : (v : TaskAt Spot) → (f v).own.status ≡ Running

after_call : (id m n : ℕ) (f : TaskAt Spot → TaskAt Spot) (d : All Spot) (v : TaskAt Spot) → GoesOn f → slice_get d.tasks n ≡ Some v → AfterCall id d (on_task m f (on_call id (λ (a : Call). record a { state = Done }) d)) n v
after_call id m n f d v g is = by (nat_eq m n) refl
  where
    by : (b : Bool) → nat_eq m n ≡ b → AfterCall id d (on_task m f (on_call id (λ (a : Call). record a { state = Done }) d)) n v
    by true e = record {
      task = f v;
      got = subst (λ k. slice_get (changed k f d.tasks) n ≡ Some (f v)) (sym (eqb-true m n e)) (got_changed n f d.tasks v is);
      opened = g.opened v;
      restart = g.restart v;
      again = g.again v;
      status = inl (g.status v);
      objects = refl;
      calls = refl;
    }
    by false e = record {
      task = v;
      got = other_task m n f d.tasks (λ q. true≢false (sym (eq-eqb m n q) ∙ e)) ∙ is;
      opened = refl;
      restart = refl;
      again = refl;
      status = inr refl;
      objects = refl;
      calls = refl;
    }

pub lost_not : (s ill : Bool) → not s && ill ≡ false → ill ≡ true → s ≡ true
lost_not true ill h k = refl
lost_not false ill h k = absurd (true≢false (sym k ∙ h))

module _ (plan : Plan) (code : Flat) (table : List Counts) (tasks barriers seen : List ℕ) (sound : IsSound code) (fits : IsSeen code table tasks barriers seen) (ways : HasWays code) where
  abbrev pub Kept : All Spot → Type 0
  Kept c = Good plan code table tasks barriers seen sound fits ways c

  fails_after : (x : Exception) (id n : ℕ) (d : All Spot) (v : TaskAt Spot) → slice_get d.tasks n ≡ Some v → AfterCall id d (effect.caller_fails (orders plan code table tasks barriers seen sound fits ways) plan (flat_controls plan code).barrier id (call_of id d) x d) n v
  fails_after x id n d v is = after_call id (call_of id d).caller n (λ (t : TaskAt Spot). record t { own = pends x (call_of id d).at (runs t.own) }) d v (record { opened = λ v. refl; restart = λ v. refl; again = λ v. refl; status = λ v. refl }) is

  ended_after : (outcome : Outcome) (id n : ℕ) (d : All Spot) (v : TaskAt Spot) → slice_get d.tasks n ≡ Some v → AfterCall id d (effect.end_call (orders plan code table tasks barriers seen sound fits ways) plan (flat_controls plan code).barrier outcome id d) n v
  ended_after (fails x) id n d v is = fails_after x id n d v is
  ended_after (succeeds values) id n d v is = by (copied_back values (call_of id d).backs d.shared.frames).raised
    where
      same : (e : All Spot) → AfterCall id (with_frames (copied_back values (call_of id d).backs d.shared.frames).frames d) e n v → AfterCall id d e n v
      same e h = record { task = h.task; got = h.got; opened = h.opened; restart = h.restart; again = h.again; status = h.status; objects = h.objects; calls = h.calls }

      by : (r : Option Raise) → AfterCall id d (effect.ended_by (orders plan code table tasks barriers seen sound fits ways) plan (flat_controls plan code).barrier r id (call_of id d) (with_frames (copied_back values (call_of id d).backs d.shared.frames).frames d)) n v
      by None =
          same _ (after_call id (call_of id d).caller n (λ (t : TaskAt Spot). record { control = (orders plan code table tasks barriers seen sound fits ways).takes 0 t.control; own = runs t.own })
          (with_frames (copied_back values (call_of id d).backs d.shared.frames).frames d) v (record { opened = λ v. refl; restart = λ v. refl; again = λ v. refl; status = λ v. refl }) is)
      by (Some raise) = same _ (fails_after (Predefined raise) id n (with_frames (copied_back values (call_of id d).backs d.shared.frames).frames d) v is)

  -- The call of an entry's body that is left, and then its object.
  module _ (n object id : ℕ) (c : All Spot) (t : TaskAt Spot) (w : Kept c) (is : slice_get c.tasks n ≡ Some t) (unmade : t.own.restart ≡ None) (still : t.own.again ≡ None) (holds : HasObject plan n object c) (unserved : contains id (calls_in t.own.opened) ≡ false) (selected : (call_of id c).state ≡ Selected) (its : (call_of id c).owner ≡ owner.Object object) (may : (t.own.status ≡ Running) ⊎ ((t.own.status ≡ Calling) × CallsOn plan c n object)) where
    pub live : is_call_over (call_of id c).state ≡ false
    live = ap is_call_over selected

    pub own_is : own_of n c ≡ t.own
    own_is = own_got n c.tasks t is

    pub free : IsUnserved id c
    free =
        nobody_serves plan code seen n object id c w.framed holds its
        (λ alive. subst (λ (x : Own). contains id (served_by x) ≡ false) (sym own_is) (subst (λ r. contains id (with_restarted r (calls_in t.own.opened)) ≡ false) (sym unmade) unserved))

    pub outside : contains object (objects_in t.own.opened) ≡ false
    outside = subst (λ (x : Own). contains object (objects_in x.opened) ≡ false) own_is holds.outside

    serviced_after : (outcome : Outcome) (o_at : Pos) → Kept (effect.serviced (orders plan code table tasks barriers seen sound fits ways) plan (flat_controls plan code).barrier object o_at n (effect.end_call (orders plan code table tasks barriers seen sound fits ways) plan (flat_controls plan code).barrier outcome id c))
    serviced_after outcome o_at =
        let a : AfterCall id c (effect.end_call (orders plan code table tasks barriers seen sound fits ways) plan (flat_controls plan code).barrier outcome id c) n t = ended_after outcome id n c t is in
        serviced_good plan code table tasks barriers seen sound fits ways object o_at n _ a.task
        (end_call_good plan code table tasks barriers seen sound fits ways outcome id c w live free (caller_waits plan code seen n object id c w.framed holds its live))
        a.got (subst (λ (xs : List Object). changes_it n (object_at object xs) ≡ true) (sym a.objects) holds.acts)
        (subst (λ os. contains object (objects_in os) ≡ false) (sym a.opened) outside) (a.restart ∙ unmade) (a.again ∙ still) (by a.status may a.calls)
      where
        after : All Spot
        after = effect.end_call (orders plan code table tasks barriers seen sound fits ways) plan (flat_controls plan code).barrier outcome id c

        task_after : TaskAt Spot
        task_after = (ended_after outcome id n c t is).task

        calls_after : after.shared.calls ≡ changed id (λ (a : Call). record a { state = Done }) c.shared.calls → CallsOn plan c n object → CallsOn plan after n object
        calls_after e h i alive mine =
            subst (λ (cs : List Call). is_call_over (call_at i cs).state ≡ false → (call_at i cs).caller ≡ n → (call_at i cs).owner ≡ owner.Object object) (sym e)
            (λ alive mine. let k = like_same id i (λ (a : Call). record a { state = Done }) c (λ a. refl) alive in k.1 ∙ h i k.0 (sym k.2 ∙ mine)) alive mine

        by : (task_after.own.status ≡ Running) ⊎ (task_after.own.status ≡ t.own.status) → (t.own.status ≡ Running) ⊎ ((t.own.status ≡ Calling) × CallsOn plan c n object) → after.shared.calls ≡ changed id (λ (a : Call). record a { state = Done }) c.shared.calls → (task_after.own.status ≡ Running) ⊎ ((task_after.own.status ≡ Calling) × CallsOn plan after n object)
        by (inl e) m k = inl e
        by (inr e) (inl m) k = inl (e ∙ m)
        by (inr e) (inr m) k = inr (e ∙ m.0, calls_after k m.1)

    -- with the call changed
    pub changed_serviced : (f : Call → Call) (arrivals : ℕ) (o_at : Pos) → IsFramed plan code seen (on_call id f c) → (CallsOn plan c n object → CallsOn plan (on_call id f c) n object) → Kept (effect.serviced (orders plan code table tasks barriers seen sound fits ways) plan (flat_controls plan code).barrier object o_at n (record c { shared = record c.shared { calls = changed id f c.shared.calls; arrivals = arrivals } }))
    changed_serviced f arrivals o_at framed calls =
        serviced_good plan code table tasks barriers seen sound fits ways object o_at n (record c { shared = record c.shared { calls = changed id f c.shared.calls; arrivals = arrivals } }) t
        (record { framed = like_framed plan code seen (on_call id f c) (record c { shared = record c.shared { calls = changed id f c.shared.calls; arrivals = arrivals } }) refl refl refl framed; spots = w.spots })
        is holds.acts outside unmade still (by may)
      where
        by : (t.own.status ≡ Running) ⊎ ((t.own.status ≡ Calling) × CallsOn plan c n object) → (t.own.status ≡ Running) ⊎ ((t.own.status ≡ Calling) × CallsOn plan (record c { shared = record c.shared { calls = changed id f c.shared.calls; arrivals = arrivals } }) n object)
        by (inl e) = inl e
        by (inr h) = inr (h.0, calls h.1)

    pub on_still : (f : Call → Call) → ((a : Call) → (f a).caller ≡ a.caller) → ((a : Call) → a.owner ≡ owner.Object object → (f a).owner ≡ owner.Object object) → CallsOn plan c n object → CallsOn plan (on_call id f c) n object
    on_still f caller kept h i =
        changed_call (λ a. is_call_over a.state ≡ false → a.caller ≡ n → a.owner ≡ owner.Object object) id f c.shared.calls i (h i)
        (λ e. subst (λ k. is_call_over (f (call_of k c)).state ≡ false → (f (call_of k c)).caller ≡ n → (f (call_of k c)).owner ≡ owner.Object object) e (λ alive mine. kept (call_of id c) its))

    module _ (r : Again) (values : List ℤ) (o_at : Pos) (entry : is_of_object plan r.entry ≡ true) where
      abbrev again : Call → Call
      again a = effect.retargeted (orders plan code table tasks barriers seen sound fits ways) plan (flat_controls plan code).barrier r values a

      abbrev changed_one : All Spot
      changed_one = on_call id (λ (a : Call). effect.retargeted (orders plan code table tasks barriers seen sound fits ways) plan (flat_controls plan code).barrier r values a) c

      abbrev lost : Call → Call
      lost a = record (effect.retargeted (orders plan code table tasks barriers seen sound fits ways) plan (flat_controls plan code).barrier r values a) { state = Cancelled }

      abbrev back_queued : Call → Call
      back_queued a = record (effect.called_of (orders plan code table tasks barriers seen sound fits ways) plan (flat_controls plan code).barrier (owner.Object object) (effect.retargeted (orders plan code table tasks barriers seen sound fits ways) plan (flat_controls plan code).barrier r values a)) { state = Queued; arrival = c.shared.arrivals }

      is_there : call_of id changed_one ≡ again (call_of id c)
      is_there = there_changed id (λ (a : Call). effect.retargeted (orders plan code table tasks barriers seen sound fits ways) plan (flat_controls plan code).barrier r values a) c.shared.calls live

      lost_serviced : Kept (effect.serviced (orders plan code table tasks barriers seen sound fits ways) plan (flat_controls plan code).barrier object o_at n (cancels id changed_one))
      lost_serviced =
          subst (λ cs. Kept (effect.serviced (orders plan code table tasks barriers seen sound fits ways) plan (flat_controls plan code).barrier object o_at n (record c { shared = record c.shared { calls = cs } }))) (sym (fused id (λ (a : Call). record a { state = Cancelled }) (λ (a : Call). effect.retargeted (orders plan code table tasks barriers seen sound fits ways) plan (flat_controls plan code).barrier r values a) c.shared.calls))
          (changed_serviced lost c.shared.arrivals o_at (over_framed plan code seen id lost c (λ a. refl) free w.framed) (on_still lost (λ a. refl) (λ a e. e)))

      queued_serviced : effect.is_lost (orders plan code table tasks barriers seen sound fits ways) plan (flat_controls plan code).barrier (call_of id changed_one) changed_one ≡ false → Kept (effect.serviced (orders plan code table tasks barriers seen sound fits ways) plan (flat_controls plan code).barrier object o_at n (arrives id (on_call id (λ (a : Call). effect.called_of (orders plan code table tasks barriers seen sound fits ways) plan (flat_controls plan code).barrier (owner.Object object) a) changed_one)))
      queued_serviced kept =
          subst (λ cs. Kept (effect.serviced (orders plan code table tasks barriers seen sound fits ways) plan (flat_controls plan code).barrier object o_at n (record c { shared = record c.shared { calls = cs; arrivals = suc c.shared.arrivals } })))
          (sym (fused id (λ (a : Call). record a { state = Queued; arrival = c.shared.arrivals }) (λ (a : Call). effect.called_of (orders plan code table tasks barriers seen sound fits ways) plan (flat_controls plan code).barrier (owner.Object object) a) (changed id (λ (a : Call). effect.retargeted (orders plan code table tasks barriers seen sound fits ways) plan (flat_controls plan code).barrier r values a) c.shared.calls)
          ∙ fused id (λ (a : Call). record (effect.called_of (orders plan code table tasks barriers seen sound fits ways) plan (flat_controls plan code).barrier (owner.Object object) a) { state = Queued; arrival = c.shared.arrivals }) (λ (a : Call). effect.retargeted (orders plan code table tasks barriers seen sound fits ways) plan (flat_controls plan code).barrier r values a) c.shared.calls))
          (changed_serviced back_queued (suc c.shared.arrivals) o_at
          (call_framed plan code seen id back_queued c free live (λ a. refl) (λ o e. sym its ∙ e) (λ h. subst (λ q. Waits q (own_of (call_of id c).caller c)) its (w.framed.calls id live).1) (λ q. (entry, object_there n object c.shared.objects holds.acts))
          (λ q ill. lost_not (not r.with_abort) (own_of (call_of id c).caller c).abnormal (subst (λ (a : Call). not a.stays && (own_of a.caller c).abnormal ≡ false) is_there kept) ill) w.framed)
          (on_still back_queued (λ a. refl) (λ a e. refl)))

      again_serviced : Kept (effect.serviced (orders plan code table tasks barriers seen sound fits ways) plan (flat_controls plan code).barrier object o_at n (effect.queued_again (orders plan code table tasks barriers seen sound fits ways) plan (flat_controls plan code).barrier object id changed_one))
      again_serviced = by (effect.is_lost (orders plan code table tasks barriers seen sound fits ways) plan (flat_controls plan code).barrier (call_of id changed_one) changed_one) refl
        where
          by : (b : Bool) → effect.is_lost (orders plan code table tasks barriers seen sound fits ways) plan (flat_controls plan code).barrier (call_of id changed_one) changed_one ≡ b → Kept (effect.serviced (orders plan code table tasks barriers seen sound fits ways) plan (flat_controls plan code).barrier object o_at n (if b then cancels id changed_one else arrives id (on_call id (λ (a : Call). effect.called_of (orders plan code table tasks barriers seen sound fits ways) plan (flat_controls plan code).barrier (owner.Object object) a) changed_one)))
          by true e = lost_serviced
          by false e = queued_serviced e

    -- however its body ended
    ended_serviced : (p : Option Pending) (again : Option Again) (values : List ℤ) (o_at : Pos) → ((r : Again) → again ≡ Some r → is_of_object plan r.entry ≡ true) → Kept (effect.serviced (orders plan code table tasks barriers seen sound fits ways) plan (flat_controls plan code).barrier object o_at n (effect.entry_ended (orders plan code table tasks barriers seen sound fits ways) plan (flat_controls plan code).barrier p again values object id c))
    ended_serviced (Some p) again values o_at h = serviced_after (fails p.exception) o_at
    ended_serviced None None values o_at h = serviced_after (succeeds values) o_at
    ended_serviced None (Some r) values o_at h = again_serviced r values o_at (h r refl)

  -- The body is left.

  module _ (n : ℕ) (c : All Spot) (t : TaskAt Spot) (o : Opened) (os : List Opened) (to : Spot → Spot) (w : Kept c) (is : slice_get c.tasks n ≡ Some t) (running : t.own.status ≡ Running) (inner : (out_of_loops t.own).opened ≡ o ∷ os) (object id : ℕ) (served : Bool) (back : Resumed) (entry : o.purpose ≡ for_entry object id served back) (unserving : t.own.serving ≡ None) (unmade : t.own.restart ≡ None) (places : (s : Spot) → IsSpot code.lines s → IsSpot code.lines (to s)) (goes : GoesBack code.lines back ((to t.control).place ∷ [])) (stands : StandsAt code.lines seen back.pending (to t.control) o.saved os) where
    abbrev begun : TaskAt Spot → TaskAt Spot
    begun u = record u { control = to u.control; own = record u.own { pending = None } }

    abbrev left : TaskAt Spot → TaskAt Spot
    left u = record { control = to u.control; own = record (closed (out_of_loops (record u.own { pending = None }))) { status = back.status; pending = back.pending; again = None } }

    abbrev resumed : Own
    resumed = record t.own { status = back.status; pending = back.pending; again = None; display = o.saved; opened = os }

    left_is : (left t).own ≡ resumed
    left_is = ap (λ (x : Own). record x { status = back.status; pending = back.pending; again = None }) (left_shape (record t.own { pending = None }) o os (inner_quiet plan code table tasks barriers seen sound fits ways n c t o os to w is running inner))

    mine : Serves plan c n t.own
    mine = its_side plan code table tasks barriers seen sound fits ways n c t o os to w is running inner

    likens : Likens plan c n t.own.opened (o ∷ os)
    likens = inner_likens plan code table tasks barriers seen sound fits ways n c t o os to w is running inner

    serves_by : ServesBy plan c n (for_entry object id served back) os
    serves_by = subst (λ p. ServesBy plan c n p os) entry (likens.serves mine.opened).0

    apart_objects : AreApart (object ∷ objects_in os)
    apart_objects =
        inner_apart t.own.serving (object ∷ objects_in os)
        (subst (λ is. AreApart (with_served t.own.serving is)) (sym likens.objects ∙ subst (λ p. objects_in (record o { purpose = p } ∷ os) ≡ object ∷ objects_in os) (sym entry) refl) mine.objects)

    apart_calls : AreApart (id ∷ calls_in os)
    apart_calls =
        subst (λ is. AreApart is) (sym likens.calls ∙ subst (λ p. calls_in (record o { purpose = p } ∷ os) ≡ id ∷ calls_in os) (sym entry) refl)
        (subst (λ r. AreApart (with_restarted r (calls_in t.own.opened))) unmade mine.calls)

    within_still : (q : Owner) → WithinEntry q (o ∷ os) → (back.status ≡ Calling) ⊎ WithinEntry q os
    within_still q = subst (λ p. WithinEntry q (record o { purpose = p } ∷ os) → (back.status ≡ Calling) ⊎ WithinEntry q os) (sym entry) (λ h. by h)
      where
        by : ((q ≡ owner.Object object) × (back.status ≡ Calling)) ⊎ WithinEntry q os → (back.status ≡ Calling) ⊎ WithinEntry q os
        by (inl h) = inl h.1
        by (inr h) = inr h

    waits_still : (q : Owner) → Waits q (record t.own { opened = o ∷ os }) → Waits q resumed
    waits_still q (inl h) = let wrong : Running ≡ Calling = sym running ∙ h in absurd cc
    waits_still q (inr h) = by (within_still q h.1) goes
      where
        by : (back.status ≡ Calling) ⊎ WithinEntry q os → GoesBack code.lines back ((to t.control).place ∷ []) → Waits q resumed
        by (inl e) g = inl e
        by (inr k) (inl e) = inr (inl e, k)
        by (inr k) (inr e) = inl e.0

    again_fits : (r : Again) → t.own.again ≡ Some r → AgainFits plan c r (record t.own { opened = o ∷ os })
    again_fits r e = let k = mine.again r e in (subst (λ ps. RequeueFits plan c r ps) inner (loops_requeue plan c r t.own.opened t.own refl k.0), k.1)

    again_entry : (r : Again) → t.own.again ≡ Some r → is_of_object plan r.entry ≡ true
    again_entry r e = subst (λ p. RequeueFits plan c r (record o { purpose = p } ∷ os)) entry (again_fits r e).0

    left_goes : Follows plan c n t.own resumed
    left_goes =
        then_follows plan c n t.own (record t.own { opened = o ∷ os }) resumed
        (follows plan c n t.own (record t.own { opened = o ∷ os }) refl again_fits likens)
        (record {
          live = λ h. ap is_over running;
          waits = λ i live its h. (h.0, waits_still _ h.1);
          serves = λ live x. record {
            opened = x.opened.1;
            calls = subst (λ r. AreApart (with_restarted r (calls_in os))) (sym unmade) apart_calls.1;
            objects = subst (λ q. AreApart (with_served q (objects_in os))) (sym unserving) apart_objects.1;
            serving = λ y e. let wrong : None ≡ Some y = sym unserving ∙ e in absurd cc;
            again = λ y e. absurd cc;
            restart = λ y e. let wrong : None ≡ Some y = sym unmade ∙ e in absurd cc;
            withdraw = λ y e. let h = x.withdraw y e in ((h.0.0, waits_still h.0.0 h.0.1), h.1);
          };
          abnormal = λ h. h;
        })

    resumed_framed : TaskFramed plan code seen back.status (record { control = to t.control; own = resumed })
    resumed_framed = by goes
      where
        by : GoesBack code.lines back ((to t.control).place ∷ []) → TaskFramed plan code seen back.status (record { control = to t.control; own = resumed })
        by (inl e) = subst (λ st. TaskFramed plan code seen st (record { control = to t.control; own = resumed })) (sym e) stands
        by (inr h) = subst (λ st. TaskFramed plan code seen st (record { control = to t.control; own = resumed })) (sym h.0) (stands, h.1, h.2)

    left_good : Kept (on_task n left c)
    left_good =
        task_good plan code table tasks barriers seen sound fits ways n left c t is
        (subst (λ (x : Own). TaskFramed plan code seen x.status (record { control = to t.control; own = x })) (sym left_is) resumed_framed)
        (subst (λ x. Follows plan c n t.own x) (sym left_is) left_goes) (λ u h. places u.control h) w

    left_there : slice_get (on_task n left c).tasks n ≡ Some (left t)
    left_there = got_changed n left c.tasks t is

    left_own : own_of n (on_task n left c) ≡ resumed
    left_own = own_got n (on_task n left c).tasks (left t) left_there ∙ left_is

    entry_serviced : (p : Option Pending) → Kept (effect.serviced (orders plan code table tasks barriers seen sound fits ways) plan (flat_controls plan code).barrier object o.at n (effect.entry_ended (orders plan code table tasks barriers seen sound fits ways) plan (flat_controls plan code).barrier p t.own.again (effect.present_values (orders plan code table tasks barriers seen sound fits ways) plan (flat_controls plan code).barrier id o.frame c) object id (on_task n left c)))
    entry_serviced p =
        ended_serviced n object id (on_task n left c) (left t) left_good left_there (ap (λ (x : Own). x.restart) left_is ∙ unmade) (ap (λ (x : Own). x.again) left_is)
        (record { acts = serves_by.1.0; outside = ap (λ (x : Own). contains object (objects_in x.opened)) left_own ∙ apart_objects.0 })
        (ap (λ (x : Own). contains id (calls_in x.opened)) left_is ∙ apart_calls.0) serves_by.0.0 serves_by.0.1 (by goes) p t.own.again (effect.present_values (orders plan code table tasks barriers seen sound fits ways) plan (flat_controls plan code).barrier id o.frame c) o.at again_entry
      where
        by : GoesBack code.lines back ((to t.control).place ∷ []) → ((left t).own.status ≡ Running) ⊎ (((left t).own.status ≡ Calling) × CallsOn plan (on_task n left c) n object)
        by (inl e) = inl (ap (λ (x : Own). x.status) left_is ∙ e)
        by (inr h) = inr (ap (λ (x : Own). x.status) left_is ∙ h.0, serves_by.1.1 h.0)

    abbrev out_own : List (TaskAt Spot)
    out_own = changed n (λ (u : TaskAt Spot). record u { own = out_of_loops u.own }) (changed n begun c.tasks)

    again_is : (own_of n (record c { tasks = out_own })).again ≡ t.own.again
    again_is =
        ap (λ (x : Own). x.again) (own_changed n (λ (u : TaskAt Spot). record u { own = out_of_loops u.own }) (changed n begun c.tasks) (begun t) (got_changed n begun c.tasks t is))
        ∙ loops_again t.own.opened (record t.own { pending = None })

    all_left : changed n (λ (u : TaskAt Spot). record u { own = record (closed u.own) { status = back.status; pending = back.pending; again = None } }) out_own ≡ changed n left c.tasks
    all_left =
        fused n (λ (u : TaskAt Spot). record u { own = record (closed u.own) { status = back.status; pending = back.pending; again = None } }) (λ (u : TaskAt Spot). record u { own = out_of_loops u.own }) (changed n begun c.tasks)
        ∙ fused n (λ (u : TaskAt Spot). record u { own = record (closed (out_of_loops u.own)) { status = back.status; pending = back.pending; again = None } }) begun c.tasks

    abbrev behind_entry : Option Pending → Option Again → List (TaskAt Spot) → All Spot
    behind_entry p a ts = effect.serviced (orders plan code table tasks barriers seen sound fits ways) plan (flat_controls plan code).barrier object o.at n (effect.entry_ended (orders plan code table tasks barriers seen sound fits ways) plan (flat_controls plan code).barrier p a (effect.present_values (orders plan code table tasks barriers seen sound fits ways) plan (flat_controls plan code).barrier id o.frame c) object id (record c { tasks = ts }))

    pub entry_left : (alternative : Option ℕ) (p : Option Pending) → Kept (effect.at_end (orders plan code table tasks barriers seen sound fits ways) plan (flat_controls plan code).barrier alternative p n (on_task n (λ (u : TaskAt Spot). record u { control = to u.control; own = record u.own { pending = None } }) c))
    entry_left alternative p =
        subst (λ d. Kept d) (sym (
        ap (λ ps. effect.at_end_of (orders plan code table tasks barriers seen sound fits ways) plan (flat_controls plan code).barrier alternative ps p n (on_task n begun c)) (innermost_is plan code table tasks barriers seen sound fits ways n c t o os to w is running inner)
        ∙ (ap (λ q. effect.at_end_by (orders plan code table tasks barriers seen sound fits ways) plan (flat_controls plan code).barrier alternative q p o n (on_task n begun c)) entry
        ∙ (ap (λ a. behind_entry p a (changed n (λ (u : TaskAt Spot). record u { own = record (closed u.own) { status = back.status; pending = back.pending; again = None } }) out_own)) again_is
        ∙ ap (λ ts. behind_entry p t.own.again ts) all_left))))
        (entry_serviced p)

  pub ended_entry : (limits : Limits) (alternative : Option ℕ) (n : ℕ) (c : All Spot) (t : TaskAt Spot) (o : Opened) (os : List Opened) (object id : ℕ) (served : Bool) (back : Resumed) (next : ℕ) → Kept c → slice_get c.tasks n ≡ Some t → t.own.status ≡ Running → t.own.pending ≡ None → t.own.serving ≡ None → t.own.restart ≡ None → t.own.opened ≡ o ∷ os → o.purpose ≡ for_entry object id served back → (end_at code t.control.place).last ≡ Ends construct.Unit next → Kept (done (orders plan code table tasks barriers seen sound fits ways) plan (flat_controls plan code).barrier limits alternative (ends 0) n c)
  ended_entry limits alternative n c t o os object id served back next w is running none unserving unmade opened entry ending =
      subst (λ ts. Kept (record after { tasks = ts })) (sym (unchanged n (λ (u : TaskAt Spot). record u { own = out_of 0 u.own }) after.tasks (λ u. refl)))
      (entry_left n c t o os behind w is running (ap (λ (x : Own). x.opened) (no_loops t.own o os opened (ap is_loop entry)) ∙ opened) object id served back entry unserving unmade (λ s h. moved_kept code sound plan (passes_end here) s h)
      leads.0 leads.1 alternative None)
    where
      behind : Spot → Spot
      behind = (orders plan code table tasks barriers seen sound fits ways).behind

      after : All Spot
      after = effect.at_end (orders plan code table tasks barriers seen sound fits ways) plan (flat_controls plan code).barrier alternative None n (on_task n (λ (u : TaskAt Spot). record { control = (orders plan code table tasks barriers seen sound fits ways).behind u.control; own = record u.own { pending = None } }) c)

      leads : LeadsTo code seen (StandsAt code.lines seen None (ended_in code (end_at code t.control.place).last t.control) o.saved os) (for_entry object id served back) (ended_in code (end_at code t.control.place).last t.control) o.saved os
      leads = subst (λ q. LeadsTo code seen (StandsAt code.lines seen None (ended_in code (end_at code t.control.place).last t.control) o.saved os) q (ended_in code (end_at code t.control.place).last t.control) o.saved os) entry (end_leads plan code table tasks barriers seen sound fits ways n c t o os next w is running none opened ending)

  pub left_entry : (limits : Limits) (alternative : Option ℕ) (n : ℕ) (c : All Spot) (t : TaskAt Spot) (o : Opened) (os : List Opened) (object id : ℕ) (served : Bool) (back : Resumed) (p : Pending) → Kept c → slice_get c.tasks n ≡ Some t → t.own.status ≡ Running → t.own.pending ≡ Some p → t.own.serving ≡ None → t.own.restart ≡ None → (out_of_loops t.own).opened ≡ o ∷ os → o.purpose ≡ for_entry object id served back → Kept (done (orders plan code table tasks barriers seen sound fits ways) plan (flat_controls plan code).barrier limits alternative (is_left_by p) n c)
  left_entry limits alternative n c t o os object id served back p w is running pending unserving unmade inner entry =
      entry_left n c t o os ((orders plan code table tasks barriers seen sound fits ways).left p.exception) w is running inner object id served back entry unserving unmade (λ s h. moved_kept code sound plan (out_by p.exception here) s h)
      leads.0 leads.1 alternative (Some p)
    where
      leads : LeadsTo code seen ((x : Pending) → StandsAt code.lines seen (Some x) (left_by code (end_at code t.control.place).out t.control) o.saved os) (for_entry object id served back) (left_by code (end_at code t.control.place).out t.control) o.saved os
      leads = subst (λ q. LeadsTo code seen ((x : Pending) → StandsAt code.lines seen (Some x) (left_by code (end_at code t.control.place).out t.control) o.saved os) q (left_by code (end_at code t.control.place).out t.control) o.saved os) entry (out_leads plan code table tasks barriers seen sound fits ways n c t o os p w is running pending inner)

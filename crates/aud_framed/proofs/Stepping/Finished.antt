-- Bodies of operations that are left, at their end or by an exception.
use Rattle.std.proofs.Common.{◌≡◌, ℕ, List, ◌∷◌, Option, Some, None, Bool, true, false, refl, sym, ap, ◌∙◌, subst, inl, inr, if◌then◌else◌, slice_get}
use Rattle.std.specs.Prelude.{◌&&◌, is_none}
use Rattle.aud_text.specs.declared.limits.Limits.{Limits}
use Rattle.aud_text.specs.declared.place.Pos.{Pos}
use Rattle.aud_text.specs.declared.raise.Raise.{Raise}
use Rattle.aud_text.specs.declared.raise.Raise.TheVariants.{Program}
use Rattle.aud_typed.specs.declared.program.Exception.{Exception}
use Rattle.aud_typed.specs.declared.program.Exception.TheVariants.{Predefined}
use Rattle.aud_typed.specs.Tree.{Plan}
use Rattle.aud_meaning.specs.declared.state.Construct.TheVariants as construct
use Rattle.aud_meaning.specs.declared.state.Owner.{Owner}
use Rattle.aud_meaning.specs.declared.state.Pending.{Pending}
use Rattle.aud_meaning.specs.declared.state.Status.TheVariants.{Running}
use Rattle.aud_meaning.specs.Configuration.{for_operation, Opened, Own, Object, Returning, TaskAt, All}
use Rattle.aud_meaning.specs.Control.{ends, here, is_left_by, out_by, passes_end}
use Rattle.aud_meaning.specs.Effects.{CopiedBack, closed, is_loop, out_of, out_of_loops, pends}
use Rattle.aud_meaning.specs.Parts.{changed, contains, end_action, is_over, on_own, on_task, own_of}
use Rattle.aud_meaning.specs.Step.{done}
use Rattle.aud_meaning.specs.Tasks as effect
use Rattle.aud_code.specs.Places.{Spot}
use Rattle.aud_code.specs.Flat.{Flat, Ends, end_at, ended_in, flat_controls, left_by}
use Rattle.aud_code.specs.Seen.{IsSeen}
use Rattle.aud_code.specs.Sound.{Counts, IsSound}
use Rattle.aud_code.specs.Starts.{IsSpot}
use Rattle.aud_code.proofs.Starts.{moved_kept}
use Rattle.aud_framed.specs.Held.{StandsAt}
use Rattle.aud_framed.specs.Waiting.{TaskFramed}
use Rattle.aud_framed.specs.Calls.{AreApart, Serves, ServesBy, Waits, WithinEntry, calls_in, changes, objects_in, with_restarted, with_served}
use Rattle.aud_framed.specs.Ways.{LeadsTo, LeavesConstruct, StandsAtStep}
use Rattle.aud_framed.specs.Stepping.{HasWays}
use Rattle.aud_framed.proofs.Bodies.{ends_framed}
use Rattle.aud_framed.proofs.Exceptions.{left_framed}
use Rattle.aud_framed.proofs.Stepping.Actions.{changes_it, object_at}
use Rattle.aud_framed.proofs.Stepping.Blocks.{own_changed}
use Rattle.aud_framed.proofs.Stepping.Ending.{Good}
use Rattle.aud_framed.proofs.Stepping.Ends.{does_some, first_same, some_pending}
use Rattle.aud_framed.proofs.Stepping.Handling.{loops_likens}
use Rattle.aud_framed.proofs.Stepping.Leaving.{got_changed, left_shape, loops_quiet, returned_good}
use Rattle.aud_framed.proofs.Stepping.Lone.{at_step, begins_there, end_found, spot_of}
use Rattle.aud_framed.proofs.Stepping.Parts.{Follows, Likens, follows, framed_at, own_got}
use Rattle.aud_framed.proofs.Stepping.Refusing.{orders}
use Rattle.aud_framed.proofs.Stepping.Serving.{ended_good, inner_apart, serviced_good}
use Rattle.aud_framed.proofs.Stepping.Tasks.{fused, no_loops, task_good, unchanged}

pub then_follows : (plan : Plan) (c : All Spot) (n : ℕ) (a b d : Own) → Follows plan c n a b → Follows plan c n b d → Follows plan c n a d
then_follows plan c n a b d f g = record {
  live = λ h. f.live (g.live h);
  waits = λ id live mine h. g.waits id live mine (f.waits id live mine h);
  serves = λ live s. g.serves live (f.serves (g.live live) s);
  abnormal = λ h. f.abnormal (g.abnormal h);
}

-- Behind a body, at the statement that called it, the task is as it was.
pub record IsBack (c d : All Spot) (n : ℕ) (t : TaskAt Spot) : Type 0 where
  pub task : TaskAt Spot
  pub got : slice_get d.tasks n ≡ Some task
  pub own : task.own ≡ record t.own { pending = task.own.pending }
  pub objects : d.shared.objects ≡ c.shared.objects

module _ (plan : Plan) (code : Flat) (table : List Counts) (tasks barriers seen : List ℕ) (sound : IsSound code) (fits : IsSeen code table tasks barriers seen) (ways : HasWays code) where
  abbrev pub Kept : All Spot → Type 0
  Kept c = Good plan code table tasks barriers seen sound fits ways c

  module _ (n : ℕ) (c : All Spot) (t : TaskAt Spot) (is : slice_get c.tasks n ≡ Some t) where
    pended_back : (x : Exception) (at : Pos) → IsBack c (on_own n (pends x at) c) n t
    pended_back x at = record { task = record t { own = pends x at t.own }; got = got_changed n (λ (u : TaskAt Spot). record u { own = pends x at u.own }) c.tasks t is; own = refl; objects = refl }

    given_back : (back : CopiedBack) (at : Pos) → IsBack c (effect.given_back (orders plan code table tasks barriers seen sound fits ways) plan (flat_controls plan code).barrier back at n c) n t
    given_back back at = by back.raised
      where
        by : (r : Option Raise) → IsBack c (effect.given_back (orders plan code table tasks barriers seen sound fits ways) plan (flat_controls plan code).barrier (record back { raised = r }) at n c) n t
        by None = record {
          task = record t { control = (orders plan code table tasks barriers seen sound fits ways).takes 0 t.control };
          got = got_changed n (λ (u : TaskAt Spot). record u { control = (orders plan code table tasks barriers seen sound fits ways).takes 0 u.control }) c.tasks t is;
          own = refl;
          objects = refl;
        }
        by (Some raise) = record { task = record t { own = pends (Predefined raise) at t.own }; got = got_changed n (λ (u : TaskAt Spot). record u { own = pends (Predefined raise) at u.own }) c.tasks t is; own = refl; objects = refl }

    either_back : (b : Bool) (x y : All Spot) → IsBack c x n t → IsBack c y n t → IsBack c (if b then x else y) n t
    either_back true x y h k = h
    either_back false x y h k = k

    returned_back : (p : Option Pending) (r : Returning) (frame : ℕ) (at : Pos) → IsBack c (effect.returned_or (orders plan code table tasks barriers seen sound fits ways) plan (flat_controls plan code).barrier p r frame at n c) n t
    returned_back None r frame at = either_back (r.is_function && is_none r.value) _ _ (pended_back (Predefined Program) at) (given_back _ at)
    returned_back (Some p) r frame at = pended_back p.exception at

  either_kept : (b : Bool) (x y : All Spot) → (b ≡ true → Kept x) → (b ≡ false → Kept y) → Kept (if b then x else y)
  either_kept true x y h k = h refl
  either_kept false x y h k = k refl

  -- The innermost construct is left, of whatever kind.

  module _ (n : ℕ) (c : All Spot) (t : TaskAt Spot) (o : Opened) (os : List Opened) (to : Spot → Spot) (w : Kept c) (is : slice_get c.tasks n ≡ Some t) (running : t.own.status ≡ Running) (inner : (out_of_loops t.own).opened ≡ o ∷ os) where
    abbrev pub start : TaskAt Spot → TaskAt Spot
    start u = record u { control = to u.control; own = record u.own { pending = None } }

    abbrev pub gone : TaskAt Spot → TaskAt Spot
    gone u = record { control = to u.control; own = closed (out_of_loops (record u.own { pending = None })) }

    pub inner_quiet : (out_of_loops (record t.own { pending = None })).opened ≡ o ∷ os
    inner_quiet = loops_quiet t.own.opened t.own ∙ inner

    pub gone_is : (gone t).own ≡ record t.own { pending = None; display = o.saved; opened = os }
    gone_is = left_shape (record t.own { pending = None }) o os inner_quiet

    pub innermost_is : (out_of_loops (own_of n (on_task n start c))).opened ≡ o ∷ os
    innermost_is = ap (λ (x : Own). (out_of_loops x).opened) (own_changed n start c.tasks t is) ∙ inner_quiet

    pub both : changed n (λ (u : TaskAt Spot). record u { own = closed u.own }) (changed n (λ (u : TaskAt Spot). record u { own = out_of_loops u.own }) (changed n start c.tasks)) ≡ changed n (λ (u : TaskAt Spot). record { control = to u.control; own = closed (out_of_loops (record u.own { pending = None })) }) c.tasks
    both =
        fused n (λ (u : TaskAt Spot). record u { own = closed u.own }) (λ (u : TaskAt Spot). record u { own = out_of_loops u.own }) (changed n start c.tasks)
        ∙ fused n (λ (u : TaskAt Spot). record u { own = closed (out_of_loops u.own) }) start c.tasks

    pub inner_likens : Likens plan c n t.own.opened (o ∷ os)
    inner_likens = subst (λ ps. Likens plan c n t.own.opened ps) inner (loops_likens plan c n t.own.opened t.own refl)

    pub its_side : Serves plan c n t.own
    its_side = subst (λ (x : Own). Serves plan c n x) (own_got n c.tasks t is) (w.framed.serves n (ap (λ (x : Own). is_over x.status) (own_got n c.tasks t is) ∙ ap is_over running))

    -- An operation's body.

    module _ (object : ℕ) (r : Returning) (operation : o.purpose ≡ for_operation object r) (still : t.own.again ≡ None) (unserving : t.own.serving ≡ None) (unmade : t.own.restart ≡ None) (places : (s : Spot) → IsSpot code.lines s → IsSpot code.lines (to s)) (stands : (p : Option Pending) → StandsAt code.lines seen p (to t.control) o.saved os) where
      objects_are : objects_in (o ∷ os) ≡ object ∷ objects_in os
      objects_are = subst (λ p. objects_in (record o { purpose = p } ∷ os) ≡ object ∷ objects_in os) (sym operation) refl

      calls_are : calls_in (o ∷ os) ≡ calls_in os
      calls_are = subst (λ p. calls_in (record o { purpose = p } ∷ os) ≡ calls_in os) (sym operation) refl

      within_still : (q : Owner) → WithinEntry q (o ∷ os) → WithinEntry q os
      within_still q = subst (λ p. WithinEntry q (record o { purpose = p } ∷ os) → WithinEntry q os) (sym operation) (λ h. h)

      apart_objects : AreApart (object ∷ objects_in os)
      apart_objects = inner_apart t.own.serving (object ∷ objects_in os) (subst (λ is. AreApart (with_served t.own.serving is)) (inner_likens_objects ∙ objects_are) its_side.objects)
        where
          inner_likens_objects : objects_in t.own.opened ≡ objects_in (o ∷ os)
          inner_likens_objects = sym inner_likens.objects

      waits_still : (q : Owner) → Waits q (record t.own { opened = o ∷ os }) → Waits q (record t.own { pending = None; display = o.saved; opened = os })
      waits_still q (inl h) = inl h
      waits_still q (inr h) = inr (h.0, within_still q h.1)

      left_goes : Follows plan c n t.own (record t.own { pending = None; display = o.saved; opened = os })
      left_goes =
          then_follows plan c n t.own (record t.own { opened = o ∷ os }) (record t.own { pending = None; display = o.saved; opened = os })
          (follows plan c n t.own (record t.own { opened = o ∷ os }) refl (λ q e. let wrong : None ≡ Some q = sym still ∙ e in absurd cc) inner_likens)
          (record {
            live = λ h. h;
            waits = λ id live mine h. (h.0, waits_still _ h.1);
            serves = λ live x. record {
              opened = x.opened.1;
              calls = subst (λ is. AreApart (with_restarted t.own.restart is)) calls_are x.calls;
              objects = subst (λ q. AreApart (with_served q (objects_in os))) (sym unserving) apart_objects.1;
              serving = λ y e. let wrong : None ≡ Some y = sym unserving ∙ e in absurd cc;
              again = λ y e. let wrong : None ≡ Some y = sym still ∙ e in absurd cc;
              restart = λ y e. let wrong : None ≡ Some y = sym unmade ∙ e in absurd cc;
              withdraw = λ y e. let h = x.withdraw y e in ((h.0.0, waits_still h.0.0 h.0.1), h.1);
            };
            abnormal = λ h. h;
          })

      gone_framed : TaskFramed plan code seen (gone t).own.status (gone t)
      gone_framed =
          subst (λ (x : Own). TaskFramed plan code seen x.status (record { control = to t.control; own = x })) (sym gone_is)
          (subst (λ st. TaskFramed plan code seen st (record { control = to t.control; own = record t.own { pending = None; display = o.saved; opened = os } })) (sym running) (stands None))

      left_good : Kept (on_task n gone c)
      left_good =
          task_good plan code table tasks barriers seen sound fits ways n gone c t is gone_framed (subst (λ x. Follows plan c n t.own x) (sym gone_is) left_goes)
          (λ u h. places u.control h) w

      gone_there : slice_get (on_task n gone c).tasks n ≡ Some (gone t)
      gone_there = got_changed n gone c.tasks t is

      changing : r.is_function ≡ false → changes plan c n object ≡ true
      changing e = (subst (λ p. ServesBy plan c n p os) operation (inner_likens.serves its_side.opened).0).1 e

      back : (p : Option Pending) → IsBack (on_task n gone c) (effect.returned_or (orders plan code table tasks barriers seen sound fits ways) plan (flat_controls plan code).barrier p r o.frame o.at n (on_task n gone c)) n (gone t)
      back p = returned_back n (on_task n gone c) (gone t) gone_there p r o.frame o.at

      back_good : (p : Option Pending) → Kept (effect.returned_or (orders plan code table tasks barriers seen sound fits ways) plan (flat_controls plan code).barrier p r o.frame o.at n (on_task n gone c))
      back_good p =
          returned_good plan code table tasks barriers seen sound fits ways p r o.frame o.at n (on_task n gone c) (gone t) left_good gone_there
          (ap (λ (x : Own). x.status) gone_is ∙ running) (ap (λ (x : Own). x.pending) gone_is) (ap (λ (x : Own). x.again) gone_is ∙ still)
          (does_some code seen (to t.control) o.saved os some_pending stands)

      back_own : (p : Option Pending) → (back p).task.own ≡ record t.own { pending = (back p).task.own.pending; display = o.saved; opened = os }
      back_own p = (back p).own ∙ ap (λ (x : Own). record x { pending = (back p).task.own.pending }) gone_is

      finished : (p : Option Pending) → Kept (if r.is_function then end_action n object (effect.returned_or (orders plan code table tasks barriers seen sound fits ways) plan (flat_controls plan code).barrier p r o.frame o.at n (on_task n gone c)) else effect.serviced (orders plan code table tasks barriers seen sound fits ways) plan (flat_controls plan code).barrier object o.at n (effect.returned_or (orders plan code table tasks barriers seen sound fits ways) plan (flat_controls plan code).barrier p r o.frame o.at n (on_task n gone c)))
      finished p =
          let outside : contains object (objects_in (back p).task.own.opened) ≡ false = subst (λ (x : Own). contains object (objects_in x.opened) ≡ false) (sym (back_own p)) apart_objects.0 in
          either_kept r.is_function _ _
          (λ e. ended_good plan code table tasks barriers seen sound fits ways n object _ (ap (λ (x : Own). contains object (objects_in x.opened)) (own_got n _ (back p).task (back p).got) ∙ outside) (back_good p))
          (λ e. serviced_good plan code table tasks barriers seen sound fits ways object o.at n _ (back p).task (back_good p) (back p).got
          (subst (λ (xs : List Object). changes_it n (object_at object xs) ≡ true) (sym (back p).objects) (changing e)) outside
          (ap (λ (x : Own). x.restart) (back_own p) ∙ unmade) (ap (λ (x : Own). x.again) (back_own p) ∙ still) (inl (ap (λ (x : Own). x.status) (back_own p) ∙ running)))

      pub operation_left : (alternative : Option ℕ) (p : Option Pending) → Kept (effect.at_end (orders plan code table tasks barriers seen sound fits ways) plan (flat_controls plan code).barrier alternative p n (on_task n start c))
      operation_left alternative p =
          subst (λ d. Kept d) (sym (
          ap (λ ps. effect.at_end_of (orders plan code table tasks barriers seen sound fits ways) plan (flat_controls plan code).barrier alternative ps p n (on_task n start c)) innermost_is
          ∙ (ap (λ q. effect.at_end_by (orders plan code table tasks barriers seen sound fits ways) plan (flat_controls plan code).barrier alternative q p o n (on_task n start c)) operation
          ∙ ap (λ ts. at_end_in p (record c { tasks = ts })) both)))
          (finished p)
        where
          at_end_in : Option Pending → All Spot → All Spot
          at_end_in p d = if r.is_function then end_action n object (effect.returned_or (orders plan code table tasks barriers seen sound fits ways) plan (flat_controls plan code).barrier p r o.frame o.at n d) else effect.serviced (orders plan code table tasks barriers seen sound fits ways) plan (flat_controls plan code).barrier object o.at n (effect.returned_or (orders plan code table tasks barriers seen sound fits ways) plan (flat_controls plan code).barrier p r o.frame o.at n d)

  -- Where the leaving step leads.

  pub end_leads : (n : ℕ) (c : All Spot) (t : TaskAt Spot) (o : Opened) (os : List Opened) (next : ℕ) → Kept c → slice_get c.tasks n ≡ Some t → t.own.status ≡ Running → t.own.pending ≡ None → t.own.opened ≡ o ∷ os → (end_at code t.control.place).last ≡ Ends construct.Unit next → LeadsTo code seen (StandsAt code.lines seen None (ended_in code (end_at code t.control.place).last t.control) o.saved os) o.purpose (ended_in code (end_at code t.control.place).last t.control) o.saved os
  end_leads n c t o os next w is running none opened ending =
      ends_framed code table tasks barriers seen sound fits t.control.place next t.control.returns t.own.display o os (end_at code t.control.place)
      (subst (λ ps. StandsAtStep code seen t.control.place (end_at code t.control.place) t.control.returns t.own.display ps) opened (at_step plan code seen n c t w.spots is running none w.framed)) construct.Unit ending

  pub out_leads : (n : ℕ) (c : All Spot) (t : TaskAt Spot) (o : Opened) (os : List Opened) (p : Pending) → Kept c → slice_get c.tasks n ≡ Some t → t.own.status ≡ Running → t.own.pending ≡ Some p → (out_of_loops t.own).opened ≡ o ∷ os → LeadsTo code seen ((q : Pending) → StandsAt code.lines seen (Some q) (left_by code (end_at code t.control.place).out t.control) o.saved os) o.purpose (left_by code (end_at code t.control.place).out t.control) o.saved os
  out_leads n c t o os p w is running pending inner =
      subst (λ ps. LeadsTo code seen ((q : Pending) → StandsAt code.lines seen (Some q) (left_by code (end_at code t.control.place).out t.control) o.saved ps) o.purpose (left_by code (end_at code t.control.place).out t.control) o.saved ps) same.1
      (subst (λ (x : Opened). LeadsTo code seen ((q : Pending) → StandsAt code.lines seen (Some q) (left_by code (end_at code t.control.place).out t.control) x.saved out.os) x.purpose (left_by code (end_at code t.control.place).out t.control) x.saved out.os) same.0 out.leads)
    where
      stands_here : StandsAt code.lines seen (Some p) t.control t.own.display t.own.opened
      stands_here =
          subst (λ q. StandsAt code.lines seen q t.control t.own.display t.own.opened) pending
          (subst (λ st. TaskFramed plan code seen st t) running (framed_at plan code seen n c.tasks t is w.framed.tasks))

      out : LeavesConstruct code seen (left_by code (end_at code t.control.place).out t.control) t.own
      out =
          left_framed code table tasks barriers seen sound fits t.control.place t.control.returns t.own (end_at code t.control.place) p
          (record { begins = begins_there code.lines t.control.place _ stands_here (spot_of code.lines n c.tasks t is w.spots).place; is = end_found code t.control.place _ stands_here; stands = stands_here })

      same : (out.o ≡ o) × (out.os ≡ os)
      same = first_same out.o o out.os os (sym out.opened ∙ inner)

  pub ended_operation : (limits : Limits) (alternative : Option ℕ) (n : ℕ) (c : All Spot) (t : TaskAt Spot) (o : Opened) (os : List Opened) (object : ℕ) (r : Returning) (next : ℕ) → Kept c → slice_get c.tasks n ≡ Some t → t.own.status ≡ Running → t.own.pending ≡ None → t.own.again ≡ None → t.own.serving ≡ None → t.own.restart ≡ None → t.own.opened ≡ o ∷ os → o.purpose ≡ for_operation object r → (end_at code t.control.place).last ≡ Ends construct.Unit next → Kept (done (orders plan code table tasks barriers seen sound fits ways) plan (flat_controls plan code).barrier limits alternative (ends 0) n c)
  ended_operation limits alternative n c t o os object r next w is running none still unserving unmade opened operation ending =
      subst (λ ts. Kept (record after { tasks = ts })) (sym (unchanged n (λ (u : TaskAt Spot). record u { own = out_of 0 u.own }) after.tasks (λ u. refl)))
      (operation_left n c t o os behind w is running (ap (λ (x : Own). x.opened) (no_loops t.own o os opened (ap is_loop operation)) ∙ opened) object r operation still unserving unmade (λ s h. moved_kept code sound plan (passes_end here) s h)
      (subst (λ q. LeadsTo code seen (StandsAt code.lines seen None (ended_in code (end_at code t.control.place).last t.control) o.saved os) q (ended_in code (end_at code t.control.place).last t.control) o.saved os) operation (end_leads n c t o os next w is running none opened ending))
      alternative None)
    where
      behind : Spot → Spot
      behind = (orders plan code table tasks barriers seen sound fits ways).behind

      after : All Spot
      after = effect.at_end (orders plan code table tasks barriers seen sound fits ways) plan (flat_controls plan code).barrier alternative None n (on_task n (λ (u : TaskAt Spot). record { control = (orders plan code table tasks barriers seen sound fits ways).behind u.control; own = record u.own { pending = None } }) c)

  pub left_operation : (limits : Limits) (alternative : Option ℕ) (n : ℕ) (c : All Spot) (t : TaskAt Spot) (o : Opened) (os : List Opened) (object : ℕ) (r : Returning) (p : Pending) → Kept c → slice_get c.tasks n ≡ Some t → t.own.status ≡ Running → t.own.pending ≡ Some p → t.own.again ≡ None → t.own.serving ≡ None → t.own.restart ≡ None → (out_of_loops t.own).opened ≡ o ∷ os → o.purpose ≡ for_operation object r → Kept (done (orders plan code table tasks barriers seen sound fits ways) plan (flat_controls plan code).barrier limits alternative (is_left_by p) n c)
  left_operation limits alternative n c t o os object r p w is running pending still unserving unmade inner operation =
      operation_left n c t o os ((orders plan code table tasks barriers seen sound fits ways).left p.exception) w is running inner object r operation still unserving unmade (λ s h. moved_kept code sound plan (out_by p.exception here) s h)
      (subst (λ q. LeadsTo code seen ((x : Pending) → StandsAt code.lines seen (Some x) (left_by code (end_at code t.control.place).out t.control) o.saved os) q (left_by code (end_at code t.control.place).out t.control) o.saved os) operation (out_leads n c t o os p w is running pending inner))
      alternative (Some p)

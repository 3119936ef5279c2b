-- What an accept does is left, at its end or by an exception: its call is over.
use Rattle.std.proofs.Common.{◌≡◌, ℕ, List, [], ◌∷◌, Option, Some, None, Bool, true, false, refl, sym, ap, ◌∙◌, subst, inl, inr, slice_get}
use Rattle.std.proofs.lemmas.Bool.{eqb-true, eq-eqb, true≢false}
use Rattle.std.specs.Prelude.{◌||◌, nat_eq, ℤ}
use Rattle.aud_text.specs.declared.limits.Limits.{Limits}
use Rattle.aud_typed.specs.Tree.{Plan}
use Rattle.aud_meaning.specs.declared.state.Construct.TheVariants as construct
use Rattle.aud_meaning.specs.declared.state.Owner.{Owner}
use Rattle.aud_meaning.specs.declared.state.Owner.TheVariants as owner
use Rattle.aud_meaning.specs.declared.state.Pending.{Pending}
use Rattle.aud_meaning.specs.declared.state.Restart.{Restart}
use Rattle.aud_meaning.specs.declared.state.Status.TheVariants.{Running, Calling}
use Rattle.aud_meaning.specs.Configuration.{for_accept, Opened, Own, TaskAt, All}
use Rattle.aud_meaning.specs.Control.{ends, here, is_left_by, out_by, passes_end}
use Rattle.aud_meaning.specs.Effects.{closed, is_loop, out_of, out_of_loops, pends}
use Rattle.aud_meaning.specs.Parts.{call_of, changed, contains, fails, is_over, on_own, on_task, own_of, succeeds}
use Rattle.aud_meaning.specs.Step.{done}
use Rattle.aud_meaning.specs.Tasks as effect
use Rattle.aud_code.specs.Places.{Spot}
use Rattle.aud_code.specs.Flat.{Flat, Ends, end_at, ended_in, flat_controls, left_by}
use Rattle.aud_code.specs.Seen.{IsSeen}
use Rattle.aud_code.specs.Sound.{Counts, IsSound}
use Rattle.aud_code.specs.Starts.{IsSpot}
use Rattle.aud_code.proofs.Starts.{moved_kept}
use Rattle.aud_over.specs.Over.{is_call_over}
use Rattle.aud_framed.specs.Held.{StandsAt}
use Rattle.aud_framed.specs.Waiting.{TaskFramed}
use Rattle.aud_framed.specs.Calls.{AreApart, IsServed, Serves, ServesIn, Waits, WithinEntry, calls_in, objects_in, with_restarted, with_served}
use Rattle.aud_framed.specs.Ways.{LeadsTo, LeavesConstruct, Pends, StandsAtStep}
use Rattle.aud_framed.specs.Stepping.{HasWays}
use Rattle.aud_framed.proofs.Bodies.{ends_framed}
use Rattle.aud_framed.proofs.Exceptions.{left_framed}
use Rattle.aud_framed.proofs.Stepping.Arriving.{unserved_elsewhere}
use Rattle.aud_framed.proofs.Stepping.Beginning.{other_own}
use Rattle.aud_framed.proofs.Stepping.Blocks.{own_changed}
use Rattle.aud_framed.proofs.Stepping.Calls.{IsUnserved, served_by}
use Rattle.aud_framed.proofs.Stepping.Ending.{Good, end_call_good, task_caller}
use Rattle.aud_framed.proofs.Stepping.Ends.{first_same}
use Rattle.aud_framed.proofs.Stepping.Handling.{loops_again, loops_likens}
use Rattle.aud_framed.proofs.Stepping.Leaving.{got_changed, left_shape, loops_quiet}
use Rattle.aud_framed.proofs.Stepping.Lone.{at_step, begins_there, end_found, spot_of}
use Rattle.aud_framed.proofs.Stepping.Parts.{Follows, Likens, framed_at, own_got}
use Rattle.aud_framed.proofs.Stepping.Refusing.{orders}
use Rattle.aud_framed.proofs.Stepping.Rendezvous.{neither_is}
use Rattle.aud_framed.proofs.Stepping.Tasks.{fused, no_loops, task_good, unchanged}

-- one number less
others_apart : (r : Option Restart) (id : ℕ) (ns : List ℕ) → AreApart (with_restarted r (id ∷ ns)) → AreApart (with_restarted r ns)
others_apart None id ns h = h.1
others_apart (Some r) id ns h = ((neither_is (nat_eq r.call id) (contains r.call ns) h.0).1, h.1.1)

no_more : (r : Option Restart) (id : ℕ) (ns : List ℕ) → AreApart (with_restarted r (id ∷ ns)) → contains id (with_restarted r ns) ≡ false
no_more None id ns h = h.0
no_more (Some r) id ns h = ap (λ b. b || contains id ns) (differs (nat_eq id r.call) refl) ∙ h.1.0
  where
    differs : (b : Bool) → nat_eq id r.call ≡ b → b ≡ false
    differs true e = absurd (true≢false (sym (eq-eqb r.call id (sym (eqb-true id r.call e))) ∙ (neither_is (nat_eq r.call id) (contains r.call ns) h.0).0))
    differs false e = refl

module _ (plan : Plan) (code : Flat) (table : List Counts) (tasks barriers seen : List ℕ) (sound : IsSound code) (fits : IsSeen code table tasks barriers seen) (ways : HasWays code) where
  abbrev pub Kept : All Spot → Type 0
  Kept c = Good plan code table tasks barriers seen sound fits ways c

  -- where the task goes on, and what is pending there
  module _ (n : ℕ) (c : All Spot) (t : TaskAt Spot) (o : Opened) (os : List Opened) (id : ℕ) (to : Spot → Spot) (leave : Own → Own) (q : Option Pending) (w : Kept c) (is : slice_get c.tasks n ≡ Some t) (running : t.own.status ≡ Running) (inner : (out_of_loops t.own).opened ≡ o ∷ os) (for_it : o.purpose ≡ for_accept id) (places : (s : Spot) → IsSpot code.lines s → IsSpot code.lines (to s)) (leaves_it : leave (record t.own { pending = None; display = o.saved; opened = os }) ≡ record t.own { pending = q; display = o.saved; opened = os; again = None }) (stands : StandsAt code.lines seen q (to t.control) o.saved os) where
    abbrev pub left : TaskAt Spot → TaskAt Spot
    left u = record { control = to u.control; own = leave (closed (out_of_loops (record u.own { pending = None }))) }

    abbrev new : Own
    new = record t.own { pending = q; display = o.saved; opened = os; again = None }

    pub left_is : (left t).own ≡ new
    left_is = ap leave (left_shape (record t.own { pending = None }) o os (loops_quiet t.own.opened t.own ∙ inner)) ∙ leaves_it

    serves : Serves plan c n t.own
    serves =
        subst (λ (x : Own). Serves plan c n x) (own_got n c.tasks t is)
        (w.framed.serves n (ap (λ (x : Own). is_over x.status) (own_got n c.tasks t is) ∙ ap is_over running))

    around : Likens plan c n t.own.opened (o ∷ os)
    around = subst (λ ps. Likens plan c n t.own.opened ps) inner (loops_likens plan c n t.own.opened t.own refl)

    served : (IsServed plan c id (owner.Task n) × (objects_in os ≡ [])) × ServesIn plan c n os
    served = subst (λ p. ServesIn plan c n (record o { purpose = p } ∷ os)) for_it (around.serves serves.opened)

    calls_are : calls_in t.own.opened ≡ id ∷ calls_in os
    calls_are = sym around.calls ∙ ap (λ p. calls_in (record o { purpose = p } ∷ os)) for_it

    objects_are : objects_in os ≡ objects_in t.own.opened
    objects_are = ap (λ p. objects_in (record o { purpose = p } ∷ os)) (sym for_it) ∙ around.objects

    apart : AreApart (with_restarted t.own.restart (id ∷ calls_in os))
    apart = subst (λ ns. AreApart (with_restarted t.own.restart ns)) calls_are serves.calls

    within : (x : Owner) → WithinEntry x t.own.opened → WithinEntry x os
    within x h = subst (λ p. WithinEntry x (record o { purpose = p } ∷ os)) for_it (around.within x h)

    waits_on : (x : Owner) → Waits x t.own → Waits x new
    waits_on x (inl h) = inl h
    waits_on x (inr h) = inr (h.0, within x h.1)

    follows_it : Follows plan c n t.own new
    follows_it = record {
      live = λ h. h;
      waits = λ i live its h. (h.0, waits_on (call_of i c).owner h.1);
      serves = λ live s. record {
        opened = served.1;
        calls = others_apart t.own.restart id (calls_in os) apart;
        objects = subst (λ ns. AreApart (with_served t.own.serving ns)) (sym objects_are) s.objects;
        serving = s.serving;
        again = λ r e. absurd cc;
        restart = λ r e. let y = s.restart r e in record { served = y.served; form = y.form; entry = y.entry; outside = objects_are ∙ y.outside; apart = y.apart };
        withdraw = λ x e. let h = s.withdraw x e in ((h.0.0, waits_on h.0.0 h.0.1), h.1);
      };
      abnormal = λ h. h;
    }

    pub left_good : Kept (on_task n left c)
    left_good =
        task_good plan code table tasks barriers seen sound fits ways n left c t is
        (subst (λ (x : Own). TaskFramed plan code seen x.status (record { control = to t.control; own = x })) (sym left_is)
        (subst (λ st. TaskFramed plan code seen st (record { control = to t.control; own = new })) (sym running) stands))
        (subst (λ x. Follows plan c n t.own x) (sym left_is) follows_it) (λ u h. places u.control h) w

    -- the call is one of the task that it serves no more

    pub was_served : IsServed plan c id (owner.Task n)
    was_served = served.0.0

    pub outside : objects_in os ≡ []
    outside = served.0.1

    pub live : is_call_over (call_of id c).state ≡ false
    live = ap is_call_over served.0.0.0

    pub free : IsUnserved id (on_task n left c)
    free m alive = by (nat_eq n m) refl
      where
        by : (b : Bool) → nat_eq n m ≡ b → contains id (served_by (own_of m (on_task n left c))) ≡ false
        by true e =
            subst (λ k. contains id (served_by (own_of k (on_task n left c))) ≡ false) (eqb-true n m e)
            (subst (λ (x : Own). contains id (served_by x) ≡ false) (sym (own_changed n left c.tasks t is ∙ left_is)) (no_more t.own.restart id (calls_in os) apart))
        by false e =
            let differs : n ≡ m → ⊥ = (λ k. true≢false (sym (eq-eqb n m k) ∙ e)) in
            let same : own_of m (on_task n left c) ≡ own_of m c = other_own n m left c.tasks differs in
            subst (λ (x : Own). contains id (served_by x) ≡ false) (sym same)
            (unserved_elsewhere plan c m n id (own_of m c) served.0.0.1 differs (w.framed.serves m (subst (λ (x : Own). is_over x.status ≡ false) same alive)))

    caller_waits : (own_of (call_of id c).caller c).status ≡ Calling
    caller_waits = task_caller n (own_of (call_of id c).caller c) (subst (λ x. Waits x (own_of (call_of id c).caller c)) served.0.0.1 (w.framed.calls id live).1)

    pub waiting : (own_of (call_of id c).caller (on_task n left c)).status ≡ Calling
    waiting =
        ap (λ (x : Own). x.status)
        (other_own n (call_of id c).caller left c.tasks
        (λ e. let wrong : Running ≡ Calling = sym running ∙ (ap (λ (x : Own). x.status) (sym (own_got n c.tasks t is)) ∙ (ap (λ k. (own_of k c).status) e ∙ caller_waits)) in absurd cc))
        ∙ caller_waits

  -- The leaving step.

  abbrev start_with : (Spot → Spot) → TaskAt Spot → TaskAt Spot
  start_with to u = record u { control = to u.control; own = record u.own { pending = None } }

  abbrev at_end : Option ℕ → Option Pending → ℕ → All Spot → All Spot
  at_end alternative p n c = effect.at_end (orders plan code table tasks barriers seen sound fits ways) plan (flat_controls plan code).barrier alternative p n c

  module _ (alternative : Option ℕ) (n : ℕ) (c : All Spot) (t : TaskAt Spot) (o : Opened) (os : List Opened) (id : ℕ) (to : Spot → Spot) (is : slice_get c.tasks n ≡ Some t) (inner : (out_of_loops t.own).opened ≡ o ∷ os) (for_it : o.purpose ≡ for_accept id) where
    abbrev c2 : All Spot
    c2 = on_own n out_of_loops (on_task n (start_with to) c)

    pub end_is : (p : Option Pending) → at_end alternative p n (on_task n (start_with to) c) ≡ effect.at_accept_end (orders plan code table tasks barriers seen sound fits ways) plan (flat_controls plan code).barrier alternative p id o n c2
    end_is p =
        ap (λ ps. effect.at_end_of (orders plan code table tasks barriers seen sound fits ways) plan (flat_controls plan code).barrier alternative ps p n (on_task n (start_with to) c))
        (ap (λ (x : Own). (out_of_loops x).opened) (own_changed n (start_with to) c.tasks t is) ∙ (loops_quiet t.own.opened t.own ∙ inner))
        ∙ ap (λ r. effect.at_end_by (orders plan code table tasks barriers seen sound fits ways) plan (flat_controls plan code).barrier alternative r p o n (on_task n (start_with to) c)) for_it

    pub again_is : (own_of n c2).again ≡ t.own.again
    again_is =
        ap (λ (x : Own). x.again) (own_changed n (λ (u : TaskAt Spot). record u { own = out_of_loops u.own }) (changed n (start_with to) c.tasks) (start_with to t) (got_changed n (start_with to) c.tasks t is))
        ∙ loops_again t.own.opened (record t.own { pending = None })

    pub tasks_are : (leave : Own → Own) → changed n (λ (u : TaskAt Spot). record u { own = leave u.own }) c2.tasks ≡ changed n (λ (u : TaskAt Spot). record { control = to u.control; own = leave (out_of_loops (record u.own { pending = None })) }) c.tasks
    tasks_are leave =
        fused n (λ (u : TaskAt Spot). record u { own = leave u.own }) (λ (u : TaskAt Spot). record u { own = out_of_loops u.own }) (changed n (start_with to) c.tasks)
        ∙ fused n (λ (u : TaskAt Spot). record u { own = leave (out_of_loops u.own) }) (start_with to) c.tasks

  -- Its normal end, that makes the call no more.
  pub accept_ended_good : (limits : Limits) (alternative : Option ℕ) (n : ℕ) (c : All Spot) (t : TaskAt Spot) (o : Opened) (os : List Opened) (id next : ℕ) → Kept c → slice_get c.tasks n ≡ Some t → t.own.status ≡ Running → t.own.pending ≡ None → t.own.again ≡ None → t.own.opened ≡ o ∷ os → o.purpose ≡ for_accept id → (end_at code t.control.place).last ≡ Ends construct.Accept next → Kept (done (orders plan code table tasks barriers seen sound fits ways) plan (flat_controls plan code).barrier limits alternative (ends 0) n c)
  accept_ended_good limits alternative n c t o os id next w is running none still opened for_it ending =
      subst (λ ts. Kept (record ended { tasks = ts })) (sym (unchanged n (λ (u : TaskAt Spot). record u { own = out_of 0 u.own }) ended.tasks (λ u. refl)))
      (subst (λ d. Kept d) (sym path)
      (end_call_good plan code table tasks barriers seen sound fits ways (succeeds values) id (on_task n (left n c t o os id behind leave None w is running inner for_it places refl stands) c) (left_good n c t o os id behind leave None w is running inner for_it places refl stands)
      (live n c t o os id behind leave None w is running inner for_it places refl stands) (free n c t o os id behind leave None w is running inner for_it places refl stands) (waiting n c t o os id behind leave None w is running inner for_it places refl stands)))
    where
      behind : Spot → Spot
      behind = (orders plan code table tasks barriers seen sound fits ways).behind

      leave : Own → Own
      leave own = record own { again = None }

      places : (s : Spot) → IsSpot code.lines s → IsSpot code.lines (behind s)
      places s h = moved_kept code sound plan (passes_end here) s h

      inner : (out_of_loops t.own).opened ≡ o ∷ os
      inner = ap (λ (x : Own). x.opened) (no_loops t.own o os opened (ap is_loop for_it)) ∙ opened

      step : StandsAtStep code seen t.control.place (end_at code t.control.place) t.control.returns t.own.display (o ∷ os)
      step = subst (λ ps. StandsAtStep code seen t.control.place (end_at code t.control.place) t.control.returns t.own.display ps) opened (at_step plan code seen n c t w.spots is running none w.framed)

      stands : StandsAt code.lines seen None (behind t.control) o.saved os
      stands =
          subst (λ p. LeadsTo code seen (StandsAt code.lines seen None (ended_in code (end_at code t.control.place).last t.control) o.saved os) p (ended_in code (end_at code t.control.place).last t.control) o.saved os) for_it
          (ends_framed code table tasks barriers seen sound fits t.control.place next t.control.returns t.own.display o os (end_at code t.control.place) step construct.Accept ending)

      before : All Spot
      before = on_own n out_of_loops (on_task n (start_with behind) c)

      values : List ℤ
      values = effect.present_values (orders plan code table tasks barriers seen sound fits ways) plan (flat_controls plan code).barrier id o.frame before

      ended : All Spot
      ended = at_end alternative None n (on_task n (start_with behind) c)

      path : ended ≡ effect.end_call (orders plan code table tasks barriers seen sound fits ways) plan (flat_controls plan code).barrier (succeeds values) id (on_task n (left n c t o os id behind leave None w is running inner for_it places refl stands) c)
      path =
          end_is alternative n c t o os id behind is inner for_it None
          ∙ (ap (λ r. effect.accept_ended (orders plan code table tasks barriers seen sound fits ways) plan (flat_controls plan code).barrier alternative r values id n (on_own n (λ own. record (closed own) { again = None }) before)) (again_is alternative n c t o os id behind is inner for_it ∙ still)
          ∙ ap (λ ts. effect.end_call (orders plan code table tasks barriers seen sound fits ways) plan (flat_controls plan code).barrier (succeeds values) id (record c { tasks = ts })) (tasks_are alternative n c t o os id behind is inner for_it (λ own. record (closed own) { again = None })))

  -- An exception leaves it, and is raised in the caller too.
  pub accept_left_good : (limits : Limits) (alternative : Option ℕ) (n : ℕ) (c : All Spot) (t : TaskAt Spot) (o : Opened) (os : List Opened) (id : ℕ) (p : Pending) → Kept c → slice_get c.tasks n ≡ Some t → t.own.status ≡ Running → t.own.pending ≡ Some p → (out_of_loops t.own).opened ≡ o ∷ os → o.purpose ≡ for_accept id → Kept (done (orders plan code table tasks barriers seen sound fits ways) plan (flat_controls plan code).barrier limits alternative (is_left_by p) n c)
  accept_left_good limits alternative n c t o os id p w is running pending inner for_it =
      subst (λ d. Kept d) (sym path)
      (end_call_good plan code table tasks barriers seen sound fits ways (fails p.exception) id (on_task n (left n c t o os id to leave (Some q) w is running inner for_it places refl stands) c) (left_good n c t o os id to leave (Some q) w is running inner for_it places refl stands)
      (live n c t o os id to leave (Some q) w is running inner for_it places refl stands) (free n c t o os id to leave (Some q) w is running inner for_it places refl stands) (waiting n c t o os id to leave (Some q) w is running inner for_it places refl stands))
    where
      to : Spot → Spot
      to = (orders plan code table tasks barriers seen sound fits ways).left p.exception

      q : Pending
      q = record { exception = p.exception; at = o.at }

      leave : Own → Own
      leave own = pends p.exception o.at (record own { again = None })

      places : (s : Spot) → IsSpot code.lines s → IsSpot code.lines (to s)
      places s h = moved_kept code sound plan (out_by p.exception here) s h

      stands_here : StandsAt code.lines seen (Some p) t.control t.own.display t.own.opened
      stands_here =
          subst (λ r. StandsAt code.lines seen r t.control t.own.display t.own.opened) pending
          (subst (λ st. TaskFramed plan code seen st t) running (framed_at plan code seen n c.tasks t is w.framed.tasks))

      pends_here : Pends code seen t.control.place (end_at code t.control.place) t.control.returns t.own.display t.own.opened p
      pends_here = record { begins = begins_there code.lines t.control.place _ stands_here (spot_of code.lines n c.tasks t is w.spots).place; is = end_found code t.control.place _ stands_here; stands = stands_here }

      out : LeavesConstruct code seen (left_by code (end_at code t.control.place).out t.control) t.own
      out = left_framed code table tasks barriers seen sound fits t.control.place t.control.returns t.own (end_at code t.control.place) p pends_here

      same : (out.o ≡ o) × (out.os ≡ os)
      same = first_same out.o o out.os os (sym out.opened ∙ inner)

      leads : LeadsTo code seen ((r : Pending) → StandsAt code.lines seen (Some r) (left_by code (end_at code t.control.place).out t.control) o.saved os) o.purpose (left_by code (end_at code t.control.place).out t.control) o.saved os
      leads =
          subst (λ ps. LeadsTo code seen ((r : Pending) → StandsAt code.lines seen (Some r) (left_by code (end_at code t.control.place).out t.control) o.saved ps) o.purpose (left_by code (end_at code t.control.place).out t.control) o.saved ps) same.1
          (subst (λ (x : Opened). LeadsTo code seen ((r : Pending) → StandsAt code.lines seen (Some r) (left_by code (end_at code t.control.place).out t.control) x.saved out.os) x.purpose (left_by code (end_at code t.control.place).out t.control) x.saved out.os) same.0 out.leads)

      stands : StandsAt code.lines seen (Some q) (to t.control) o.saved os
      stands =
          subst (λ x. LeadsTo code seen ((r : Pending) → StandsAt code.lines seen (Some r) (left_by code (end_at code t.control.place).out t.control) o.saved os) x (left_by code (end_at code t.control.place).out t.control) o.saved os) for_it leads q

      path : at_end alternative (Some p) n (on_task n (start_with to) c) ≡ effect.end_call (orders plan code table tasks barriers seen sound fits ways) plan (flat_controls plan code).barrier (fails p.exception) id (on_task n (left n c t o os id to leave (Some q) w is running inner for_it places refl stands) c)
      path =
          end_is alternative n c t o os id to is inner for_it (Some p)
          ∙ ap (λ ts. effect.end_call (orders plan code table tasks barriers seen sound fits ways) plan (flat_controls plan code).barrier (fails p.exception) id (record c { tasks = ts })) (tasks_are alternative n c t o os id to is inner for_it (λ own. pends p.exception o.at (record (closed own) { again = None })))

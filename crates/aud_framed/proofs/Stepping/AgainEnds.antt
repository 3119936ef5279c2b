-- What an accept does is left at its end, and its call is made again: on an entry of a task, or on an object as the next step.
use Rattle.std.proofs.Common.{◌≡◌, ℕ, ℤ, List, [], ◌∷◌, Option, Some, None, Bool, true, false, refl, sym, ap, ◌∙◌, subst, inl, if◌then◌else◌, slice_get}
use Rattle.std.proofs.lemmas.Option.{same_Some}
use Rattle.std.specs.Prelude.{not}
use Rattle.aud_text.specs.declared.limits.Limits.{Limits}
use Rattle.aud_text.specs.declared.place.Pos.{Pos}
use Rattle.aud_text.specs.declared.raise.Raise.TheVariants.{Tasking}
use Rattle.aud_typed.specs.declared.program.Exception.TheVariants.{Predefined}
use Rattle.aud_typed.specs.Tree.{Plan}
use Rattle.aud_meaning.specs.declared.state.Again.{Again}
use Rattle.aud_meaning.specs.declared.state.CallState.TheVariants.{Selected, Cancelled}
use Rattle.aud_meaning.specs.declared.state.Construct.TheVariants as construct
use Rattle.aud_meaning.specs.declared.state.Form.{Form}
use Rattle.aud_meaning.specs.declared.state.Form.TheVariants.{Plain, Conditional, TimedTo}
use Rattle.aud_meaning.specs.declared.state.OpenAccept.{OpenAccept}
use Rattle.aud_meaning.specs.declared.state.Owner.{Owner}
use Rattle.aud_meaning.specs.declared.state.Owner.TheVariants as owner
use Rattle.aud_meaning.specs.declared.state.Restart.{Restart}
use Rattle.aud_meaning.specs.declared.state.Status.TheVariants.{Running, Calling}
use Rattle.aud_meaning.specs.Configuration.{for_accept, Opened, Own, Call, TaskAt, All}
use Rattle.aud_meaning.specs.Control.{ends, here, passes_end}
use Rattle.aud_meaning.specs.Effects.{closed, is_loop, out_of, out_of_loops}
use Rattle.aud_meaning.specs.Parts.{alternative_of, arrives, call_of, cancels, contains, fails, is_callable, is_over, on_call, on_own, on_task, open_alternatives, own_of}
use Rattle.aud_meaning.specs.Step.{done}
use Rattle.aud_meaning.specs.Tasks as effect
use Rattle.aud_code.specs.Places.{Spot}
use Rattle.aud_code.specs.Flat.{Flat, Ends, end_at, ended_in, flat_controls}
use Rattle.aud_code.specs.Seen.{IsSeen}
use Rattle.aud_code.specs.Sound.{Counts, IsSound}
use Rattle.aud_code.specs.Starts.{IsSpot}
use Rattle.aud_code.proofs.Starts.{moved_kept}
use Rattle.aud_over.specs.Over.{is_call_over}
use Rattle.aud_framed.specs.Held.{StandsAt}
use Rattle.aud_framed.specs.Waiting.{is_of_object}
use Rattle.aud_framed.specs.Calls.{AgainFits, AreApart, EntryFits, IsAgain, IsEntryOf, RequeueFits, RestartFits, calls_in, objects_in, with_restarted}
use Rattle.aud_framed.specs.Ways.{LeadsTo, StandsAtStep}
use Rattle.aud_framed.specs.Stepping.{HasWays}
use Rattle.aud_framed.proofs.Bodies.{ends_framed}
use Rattle.aud_framed.proofs.Stepping.AcceptEnds.{again_is, end_is, free, left, left_good, left_is, outside, tasks_are, waiting, was_served}
use Rattle.aud_framed.proofs.Stepping.Arriving.{arrived_framed}
use Rattle.aud_framed.proofs.Stepping.Calling.{IsAcceptor, acceptor_of}
use Rattle.aud_framed.proofs.Stepping.Calls.{IsUnserved, over_framed, served_by}
use Rattle.aud_framed.proofs.Stepping.Ending.{Good, end_call_good}
use Rattle.aud_framed.proofs.Stepping.Leaving.{got_changed}
use Rattle.aud_framed.proofs.Stepping.Lone.{at_step}
use Rattle.aud_framed.proofs.Stepping.Parts.{framed_at, own_got}
use Rattle.aud_framed.proofs.Stepping.Refusing.{orders}
use Rattle.aud_framed.proofs.Stepping.Rendezvous.{rendezvous_good}
use Rattle.aud_framed.proofs.Stepping.Requeuing.{call_framed, there_changed}
use Rattle.aud_framed.proofs.Stepping.Restarting.{restarting_framed}
use Rattle.aud_framed.proofs.Stepping.Served.{lost_not}
use Rattle.aud_framed.proofs.Stepping.Tasks.{fused, no_loops, task_good, unchanged}

module _ (plan : Plan) (code : Flat) (table : List Counts) (tasks barriers seen : List ℕ) (sound : IsSound code) (fits : IsSeen code table tasks barriers seen) (ways : HasWays code) where
  abbrev pub Kept : All Spot → Type 0
  Kept c = Good plan code table tasks barriers seen sound fits ways c

  abbrev retargeted : Again → List ℤ → Call → Call
  retargeted r values a = effect.retargeted (orders plan code table tasks barriers seen sound fits ways) plan (flat_controls plan code).barrier r values a

  abbrev called : ℕ → Call → Call
  called task a = effect.called_of (orders plan code table tasks barriers seen sound fits ways) plan (flat_controls plan code).barrier (owner.Task task) a

  abbrev is_lost : Call → All Spot → Bool
  is_lost a c = effect.is_lost (orders plan code table tasks barriers seen sound fits ways) plan (flat_controls plan code).barrier a c

  timed_again : (form : Form) → IsAgain (effect.form_again (orders plan code table tasks barriers seen sound fits ways) plan (flat_controls plan code).barrier form)
  timed_again Plain = tt
  timed_again (Conditional time) = tt
  timed_again (TimedTo time) = tt

  -- A call of an entry of the task n that it serves no more, and whose caller waits.
  module _ (r : Again) (values : List ℤ) (alternative : Option ℕ) (id n : ℕ) (c : All Spot) (t : TaskAt Spot) (w : Kept c) (is : slice_get c.tasks n ≡ Some t) (selected : (call_of id c).state ≡ Selected) (its : (call_of id c).owner ≡ owner.Task n) (unserved : IsUnserved id c) (waits : (own_of (call_of id c).caller c).status ≡ Calling) where
    live : is_call_over (call_of id c).state ≡ false
    live = ap is_call_over selected

    no_object : (q : Owner) (object : ℕ) → (call_of id c).owner ≡ owner.Object object → q ≡ owner.Object object
    no_object q object e = let wrong : owner.Task n ≡ owner.Object object = sym its ∙ e in absurd cc

    abbrev made : All Spot
    made = on_call id (λ (a : Call). retargeted r values a) c

    made_is : call_of id made ≡ retargeted r values (call_of id c)
    made_is = there_changed id (λ (a : Call). retargeted r values a) c.shared.calls live

    made_good : Kept made
    made_good = record {
      framed = call_framed plan code seen id (λ (a : Call). retargeted r values a) c unserved live (λ a. refl) (no_object (call_of id c).owner) (λ h. inl waits) (λ e. absurd cc) (λ e. absurd cc) w.framed;
      spots = w.spots;
    }

    -- its caller is abnormal
    lost_good : Kept (cancels id made)
    lost_good =
        subst (λ cs. Kept (record c { shared = record c.shared { calls = cs } })) (sym (fused id (λ (a : Call). record a { state = Cancelled }) (λ (a : Call). retargeted r values a) c.shared.calls))
        (record { framed = over_framed plan code seen id (λ (a : Call). record (retargeted r values a) { state = Cancelled }) c (λ a. refl) unserved w.framed; spots = w.spots })

    -- the other task is over or abnormal
    refused_good : Kept (effect.end_call (orders plan code table tasks barriers seen sound fits ways) plan (flat_controls plan code).barrier (fails (Predefined Tasking)) id made)
    refused_good =
        end_call_good plan code table tasks barriers seen sound fits ways (fails (Predefined Tasking)) id made made_good (ap (λ (a : Call). is_call_over a.state) made_is) unserved
        (ap (λ (a : Call). (own_of a.caller c).status) made_is ∙ waits)

    -- On an entry of another task, or of the same one.
    module _ (task : ℕ) (entry : is_of_object plan r.entry ≡ false) where
      abbrev aimed : Call → Call
      aimed a = called task (retargeted r values a)

      abbrev there : All Spot
      there = on_call id (λ (a : Call). aimed a) c

      there_is : call_of id there ≡ aimed (call_of id c)
      there_is = there_changed id (λ (a : Call). aimed a) c.shared.calls live

      there_good : Kept there
      there_good = record {
        framed = call_framed plan code seen id (λ (a : Call). aimed a) c unserved live (λ a. refl) (no_object (owner.Task task)) (λ h. inl waits) (λ e. absurd cc) (λ e. absurd cc) w.framed;
        spots = w.spots;
      }

      -- it is queued
      queued_good : is_lost (call_of id made) made ≡ false → Kept (arrives id there)
      queued_good kept = record {
        framed =
            arrived_framed plan code seen id there (ap (λ (a : Call). is_call_over a.state) there_is) unserved (subst (λ (a : Call). IsEntryOf plan there a.owner a.entry) (sym there_is) entry)
            (subst (λ (a : Call). (own_of a.caller there).abnormal ≡ true → a.stays ≡ true) (sym there_is)
            (λ ill. lost_not (not r.with_abort) (own_of (call_of id c).caller c).abnormal (subst (λ (a : Call). is_lost a made ≡ false) made_is kept) ill)) there_good.framed;
        spots = there_good.spots;
      }

      -- it is accepted at once
      met_good : (entry : ℕ) (a : OpenAccept) (more : List OpenAccept) → open_alternatives (own_of task c) entry ≡ a ∷ more → Kept (effect.made_again (orders plan code table tasks barriers seen sound fits ways) plan (flat_controls plan code).barrier alternative (a ∷ more) id task there)
      met_good entry a more e =
          let y : IsAcceptor plan code table tasks barriers seen sound fits ways task there (alternative_of alternative a (a ∷ more)) = acceptor_of plan code table tasks barriers seen sound fits ways alternative task entry there a more there_good e in
          let b : OpenAccept = alternative_of alternative a (a ∷ more) in
          subst (λ cs. Kept (effect.rendezvous_by (orders plan code table tasks barriers seen sound fits ways) plan (flat_controls plan code).barrier b.region b id task (record c { shared = record c.shared { calls = cs } })))
          (sym (fused id (λ (a : Call). record a { state = Selected }) (λ (a : Call). aimed a) c.shared.calls))
          (rendezvous_good plan code table tasks barriers seen sound fits ways b id task there y.task there_good y.is y.opens (ap (λ (a : Call). a.state) there_is) (ap (λ (a : Call). a.owner) there_is) unserved)

      either_good : (entry : ℕ) → is_lost (call_of id made) made ≡ false → Kept (effect.made_again (orders plan code table tasks barriers seen sound fits ways) plan (flat_controls plan code).barrier alternative (open_alternatives (own_of task c) entry) id task (on_call id (λ (a : Call). called task a) made))
      either_good entry kept =
          subst (λ cs. Kept (effect.made_again (orders plan code table tasks barriers seen sound fits ways) plan (flat_controls plan code).barrier alternative (open_alternatives (own_of task c) entry) id task (record c { shared = record c.shared { calls = cs } })))
          (sym (fused id (λ (a : Call). called task a) (λ (a : Call). retargeted r values a) c.shared.calls))
          (by (open_alternatives (own_of task c) entry) refl)
        where
          by : (ones : List OpenAccept) → open_alternatives (own_of task c) entry ≡ ones → Kept (effect.made_again (orders plan code table tasks barriers seen sound fits ways) plan (flat_controls plan code).barrier alternative ones id task there)
          by [] e = queued_good kept
          by (a ∷ more) e = met_good entry a more e

      on_task_good : (at : Pos) → Kept (effect.requeued_on (orders plan code table tasks barriers seen sound fits ways) plan (flat_controls plan code).barrier alternative (owner.Task task) at id n made)
      on_task_good at = by (is_lost (call_of id made) made) refl (is_callable (own_of task made))
        where
          by : (b : Bool) → is_lost (call_of id made) made ≡ b → (callable : Bool) → Kept (if b then cancels id made else if callable then effect.made_again (orders plan code table tasks barriers seen sound fits ways) plan (flat_controls plan code).barrier alternative (open_alternatives (own_of task made) (call_of id made).entry) id task (on_call id (λ (a : Call). called task a) made) else effect.end_call (orders plan code table tasks barriers seen sound fits ways) plan (flat_controls plan code).barrier (fails (Predefined Tasking)) id made)
          by true e callable = lost_good
          by false e true = either_good (call_of id made).entry e
          by false e false = refused_good

    -- On an object: the acceptor is to call it next.
    module _ (running : t.own.status ≡ Running) (unserving : t.own.serving ≡ None) (unmade : t.own.restart ≡ None) (still : t.own.again ≡ None) (outside : objects_in t.own.opened ≡ []) (object : ℕ) (entry : EntryFits plan c (owner.Object object) r.entry) (at : Pos) where
      abbrev next : Restart
      next = record { call = id; object = object; at = at }

      apart : AreApart (calls_in t.own.opened) → AreApart (id ∷ calls_in t.own.opened)
      apart h = (subst (λ q. contains id (with_restarted q (calls_in t.own.opened)) ≡ false) unmade mine, h)
        where
          own_is : own_of n c ≡ t.own
          own_is = own_got n c.tasks t is

          mine : contains id (served_by t.own) ≡ false
          mine = subst (λ (x : Own). contains id (served_by x) ≡ false) own_is (unserved n (ap (λ (x : Own). is_over x.status) own_is ∙ ap is_over running))

      next_fits : RestartFits plan made n (record t.own { restart = Some next }) next
      next_fits = record {
        served = subst (λ (a : Call). (a.state ≡ Selected) × (a.owner ≡ owner.Task n)) (sym made_is) (refl, its);
        form = subst (λ (a : Call). IsAgain a.form) (sym made_is) (timed_again (call_of id c).form);
        entry = subst (λ (a : Call). EntryFits plan made (owner.Object object) a.entry) (sym made_is) entry;
        outside = outside;
        apart = (unserving, λ q. let wrong : Running ≡ Calling = sym running ∙ q in absurd cc);
      }

      on_object_good : Kept (on_own n (λ own. record own { restart = Some next }) made)
      on_object_good =
          task_good plan code table tasks barriers seen sound fits ways n (λ u. record u { own = record u.own { restart = Some next } }) made t is
          (restarting_framed plan code seen (Some next) t running (framed_at plan code seen n c.tasks t is w.framed.tasks))
          (record {
            live = λ h. h;
            waits = λ i live its h. h;
            serves = λ live s. record {
              opened = s.opened;
              calls = apart (subst (λ q. AreApart (with_restarted q (calls_in t.own.opened))) unmade s.calls);
              objects = s.objects;
              serving = s.serving;
              again = λ a e. let wrong : None ≡ Some a = sym still ∙ e in absurd cc;
              restart = λ x e. subst (λ y. RestartFits plan made n (record t.own { restart = Some next }) y) (same_Some next x e) next_fits;
              withdraw = s.withdraw;
            };
            abnormal = λ h. h;
          }) (λ u h. h) made_good

  -- The normal end of an accept that makes its call again.
  module _ (limits : Limits) (alternative : Option ℕ) (n : ℕ) (c : All Spot) (t : TaskAt Spot) (o : Opened) (os : List Opened) (id next : ℕ) (r : Again) (w : Kept c) (is : slice_get c.tasks n ≡ Some t) (running : t.own.status ≡ Running) (none : t.own.pending ≡ None) (makes : t.own.again ≡ Some r) (opened : t.own.opened ≡ o ∷ os) (for_it : o.purpose ≡ for_accept id) (ending : (end_at code t.control.place).last ≡ Ends construct.Accept next) where
    abbrev behind : Spot → Spot
    behind s = (orders plan code table tasks barriers seen sound fits ways).behind s

    abbrev leave : Own → Own
    leave own = record own { again = None }

    places : (s : Spot) → IsSpot code.lines s → IsSpot code.lines (behind s)
    places s h = moved_kept code sound plan (passes_end here) s h

    inner : (out_of_loops t.own).opened ≡ o ∷ os
    inner = ap (λ (x : Own). x.opened) (no_loops t.own o os opened (ap is_loop for_it)) ∙ opened

    step : StandsAtStep code seen t.control.place (end_at code t.control.place) t.control.returns t.own.display (o ∷ os)
    step = subst (λ ps. StandsAtStep code seen t.control.place (end_at code t.control.place) t.control.returns t.own.display ps) opened (at_step plan code seen n c t w.spots is running none w.framed)

    stands : StandsAt code.lines seen None (behind t.control) o.saved os
    stands =
        subst (λ p. LeadsTo code seen (StandsAt code.lines seen None (ended_in code (end_at code t.control.place).last t.control) o.saved os) p (ended_in code (end_at code t.control.place).last t.control) o.saved os) for_it
        (ends_framed code table tasks barriers seen sound fits t.control.place next t.control.returns t.own.display o os (end_at code t.control.place) step construct.Accept ending)

    makes_fit : AgainFits plan c r t.own
    makes_fit =
        let own_is : own_of n c ≡ t.own = own_got n c.tasks t is in
        subst (λ (x : Own). AgainFits plan c r x) own_is
        ((w.framed.serves n (ap (λ (x : Own). is_over x.status) own_is ∙ ap is_over running)).again r (ap (λ (x : Own). x.again) own_is ∙ makes))

    entry : EntryFits plan c r.owner r.entry
    entry = subst (λ p. RequeueFits plan c r (record o { purpose = p } ∷ os)) for_it (subst (λ ps. RequeueFits plan c r ps) opened makes_fit.0)

    abbrev gone : TaskAt Spot → TaskAt Spot
    gone u = left plan code table tasks barriers seen sound fits ways n c t o os id (λ s. behind s) (λ own. leave own) None w is running inner for_it places refl stands u

    abbrev d : All Spot
    d = on_task n (λ u. gone u) c

    gone_is : (gone t).own ≡ record t.own { pending = None; display = o.saved; opened = os; again = None }
    gone_is = left_is plan code table tasks barriers seen sound fits ways n c t o os id (λ s. behind s) (λ own. leave own) None w is running inner for_it places refl stands

    d_good : Kept d
    d_good = left_good plan code table tasks barriers seen sound fits ways n c t o os id (λ s. behind s) (λ own. leave own) None w is running inner for_it places refl stands

    d_there : slice_get d.tasks n ≡ Some (gone t)
    d_there = got_changed n (λ u. gone u) c.tasks t is

    d_free : IsUnserved id d
    d_free = free plan code table tasks barriers seen sound fits ways n c t o os id (λ s. behind s) (λ own. leave own) None w is running inner for_it places refl stands

    d_waits : (own_of (call_of id d).caller d).status ≡ Calling
    d_waits = waiting plan code table tasks barriers seen sound fits ways n c t o os id (λ s. behind s) (λ own. leave own) None w is running inner for_it places refl stands

    was_its : ((call_of id c).state ≡ Selected) × ((call_of id c).owner ≡ owner.Task n)
    was_its = was_served plan code table tasks barriers seen sound fits ways n c t o os id (λ s. behind s) (λ own. leave own) None w is running inner for_it places refl stands

    in_none : objects_in os ≡ []
    in_none = outside plan code table tasks barriers seen sound fits ways n c t o os id (λ s. behind s) (λ own. leave own) None w is running inner for_it places refl stands

    requeued : (values : List ℤ) (q : Owner) → r.owner ≡ q → Kept (effect.requeued_on (orders plan code table tasks barriers seen sound fits ways) plan (flat_controls plan code).barrier alternative q r.at id n (on_call id (λ (a : Call). retargeted r values a) d))
    requeued values (owner.Task task) e = on_task_good r values alternative id n d (gone t) d_good d_there was_its.0 was_its.1 d_free d_waits task (subst (λ q. EntryFits plan c q r.entry) e entry) r.at
    requeued values (owner.Object object) e =
        on_object_good r values alternative id n d (gone t) d_good d_there was_its.0 was_its.1 d_free d_waits (ap (λ (x : Own). x.status) gone_is ∙ running) (ap (λ (x : Own). x.serving) gone_is ∙ makes_fit.1.1.0)
        (ap (λ (x : Own). x.restart) gone_is ∙ makes_fit.1.1.1) (ap (λ (x : Own). x.again) gone_is) (ap (λ (x : Own). objects_in x.opened) gone_is ∙ in_none) object (subst (λ q. EntryFits plan c q r.entry) e entry) r.at

    abbrev start : TaskAt Spot → TaskAt Spot
    start u = record u { control = (orders plan code table tasks barriers seen sound fits ways).behind u.control; own = record u.own { pending = None } }

    abbrev before : All Spot
    before = on_own n out_of_loops (on_task n start c)

    abbrev values : List ℤ
    values = effect.present_values (orders plan code table tasks barriers seen sound fits ways) plan (flat_controls plan code).barrier id o.frame before

    abbrev ended : All Spot
    ended = effect.at_end (orders plan code table tasks barriers seen sound fits ways) plan (flat_controls plan code).barrier alternative None n (on_task n start c)

    path : ended ≡ effect.requeued_on (orders plan code table tasks barriers seen sound fits ways) plan (flat_controls plan code).barrier alternative r.owner r.at id n (on_call id (λ (a : Call). retargeted r values a) d)
    path =
        end_is plan code table tasks barriers seen sound fits ways alternative n c t o os id (λ s. behind s) is inner for_it None
        ∙ (ap (λ x. effect.accept_ended (orders plan code table tasks barriers seen sound fits ways) plan (flat_controls plan code).barrier alternative x values id n (on_own n (λ own. record (closed own) { again = None }) before)) (again_is plan code table tasks barriers seen sound fits ways alternative n c t o os id (λ s. behind s) is inner for_it ∙ makes)
        ∙ ap (λ ts. effect.requeued_on (orders plan code table tasks barriers seen sound fits ways) plan (flat_controls plan code).barrier alternative r.owner r.at id n (on_call id (λ (a : Call). retargeted r values a) (record c { tasks = ts })))
        (tasks_are plan code table tasks barriers seen sound fits ways alternative n c t o os id (λ s. behind s) is inner for_it (λ own. record (closed own) { again = None })))

    pub accept_again_good : Kept (done (orders plan code table tasks barriers seen sound fits ways) plan (flat_controls plan code).barrier limits alternative (ends 0) n c)
    accept_again_good =
        subst (λ ts. Kept (record ended { tasks = ts })) (sym (unchanged n (λ (u : TaskAt Spot). record u { own = out_of 0 u.own }) ended.tasks (λ u. refl)))
        (subst (λ x. Kept x) (sym path) (requeued values r.owner refl))

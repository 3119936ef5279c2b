-- A call whose time has come is cancelled, and an aborted task withdraws from an object: the object is serviced.
use Rattle.std.proofs.Common.{◌≡◌, ◌⊎◌, ◌<◌, ℕ, List, [], ◌∷◌, length, Option, Some, None, true, false, refl, sym, ap, ◌∙◌, subst, inl, inr, slice_get}
use Rattle.std.proofs.lemmas.Bool.{true≢false, false≢true}
use Rattle.std.specs.Prelude.{◌&&◌, nat_eq, not}
use Rattle.aud_text.specs.declared.place.Pos.{Pos}
use Rattle.aud_typed.specs.Tree.{Plan}
use Rattle.aud_meaning.specs.declared.state.Action.{Action}
use Rattle.aud_meaning.specs.declared.state.Again.{Again}
use Rattle.aud_meaning.specs.declared.state.CallState.TheVariants.{Queued, Cancelled}
use Rattle.aud_meaning.specs.declared.state.Owner.{Owner}
use Rattle.aud_meaning.specs.declared.state.Owner.TheVariants as owner
use Rattle.aud_meaning.specs.declared.state.Restart.{Restart}
use Rattle.aud_meaning.specs.declared.state.Status.{Status}
use Rattle.aud_meaning.specs.declared.state.Status.TheVariants.{Created, Running, Activating, Accepting, Delaying, Calling, Completed, Terminated}
use Rattle.aud_meaning.specs.Configuration.{Own, Object, Call, TaskAt, All}
use Rattle.aud_meaning.specs.Parts.{acts_on, any, begin_action, call_of, cancels, contains, in_action, in_the_way, is_idle, is_over, object_of, on_own, on_task, own_of, runs}
use Rattle.aud_meaning.specs.Tasks as effect
use Rattle.aud_code.specs.Places.{Spot}
use Rattle.aud_code.specs.Flat.{Flat, flat_controls}
use Rattle.aud_code.specs.Seen.{IsSeen}
use Rattle.aud_code.specs.Sound.{Counts, IsSound}
use Rattle.aud_over.specs.Over.{is_call_over}
use Rattle.aud_framed.specs.Waiting.{TaskFramed}
use Rattle.aud_framed.specs.Calls.{CallsOn, IsEntryOf, Serves, Waits, objects_in}
use Rattle.aud_framed.specs.Stepping.{HasWays}
use Rattle.aud_framed.proofs.Stepping.Actions.{action_begun}
use Rattle.aud_framed.proofs.Stepping.Barriers.{cancelled_good}
use Rattle.aud_framed.proofs.Stepping.Calls.{over_framed, unserved_queued}
use Rattle.aud_framed.proofs.Stepping.Delays.{not_within, outside}
use Rattle.aud_framed.proofs.Stepping.Ending.{Good}
use Rattle.aud_framed.proofs.Stepping.Entering.{begun_changes}
use Rattle.aud_framed.proofs.Stepping.Holding.{not_inside}
use Rattle.aud_framed.proofs.Stepping.Leaving.{got_changed}
use Rattle.aud_framed.proofs.Stepping.Parts.{framed_at, own_got}
use Rattle.aud_framed.proofs.Stepping.Refusing.{orders}
use Rattle.aud_framed.proofs.Stepping.Serving.{serviced_good}
use Rattle.aud_framed.proofs.Stepping.Tasks.{task_good}

-- Nobody acts on an object that is idle.

none_there : (o : Object) → is_idle o ≡ true → o.actions ≡ []
none_there o h = by o.actions h
  where
    by : (xs : List Action) → is_idle (record o { actions = xs }) ≡ true → xs ≡ []
    by [] h = refl
    by (a ∷ more) h = absurd (false≢true h)

idle_free : (n : ℕ) (o : Object) → is_idle o ≡ true → in_the_way n false o ≡ false
idle_free n o h = ap (λ xs. any (λ (a : Action). not (nat_eq a.task n) && not (false && a.reading)) xs) (none_there o h)

idle_unused : (n : ℕ) (o : Object) → is_idle o ≡ true → acts_on n o ≡ false
idle_unused n o h = ap (λ xs. any (λ (a : Action). nat_eq a.task n) xs) (none_there o h)

pub withdrawing_framed : (plan : Plan) (code : Flat) (seen : List ℕ) (x : Option ℕ) (s : Status) (t : TaskAt Spot) → TaskFramed plan code seen s t → TaskFramed plan code seen s (record t { own = record t.own { withdraw = x } })
withdrawing_framed plan code seen x Created t h = record { place = h.place; display = h.display; opened = h.opened; none = h.none }
withdrawing_framed plan code seen x Running t h = h
withdrawing_framed plan code seen x Activating t h = h
withdrawing_framed plan code seen x Accepting t h = h
withdrawing_framed plan code seen x Delaying t h = h
withdrawing_framed plan code seen x Calling t h = h
withdrawing_framed plan code seen x Completed t h = h
withdrawing_framed plan code seen x Terminated t h = h

none_restarted : (plan : Plan) (c : All Spot) (n : ℕ) (own : Own) → own.status ≡ Calling → Serves plan c n own → own.restart ≡ None
none_restarted plan c n own waiting s = by own.restart refl
  where
    by : (r : Option Restart) → own.restart ≡ r → r ≡ None
    by None e = refl
    by (Some r) e = absurd ((s.restart r e).apart.1 waiting)

none_again : (plan : Plan) (c : All Spot) (n : ℕ) (own : Own) → own.status ≡ Calling → Serves plan c n own → own.again ≡ None
none_again plan c n own waiting s = by own.again refl
  where
    by : (r : Option Again) → own.again ≡ r → r ≡ None
    by None e = refl
    by (Some r) e = let wrong : Calling ≡ Running = sym waiting ∙ (s.again r e).1.0 in absurd cc

module _ (plan : Plan) (code : Flat) (table : List Counts) (tasks barriers seen : List ℕ) (sound : IsSound code) (fits : IsSeen code table tasks barriers seen) (ways : HasWays code) where
  abbrev pub Kept : All Spot → Type 0
  Kept c = Good plan code table tasks barriers seen sound fits ways c

  -- an idle object is serviced by a task that is in no body of it
  idle_serviced : (object : ℕ) (at : Pos) (n : ℕ) (c : All Spot) (t : TaskAt Spot) → Kept c → slice_get c.tasks n ≡ Some t → object < length c.shared.objects → is_idle (object_of object c) ≡ true → contains object (objects_in t.own.opened) ≡ false → t.own.restart ≡ None → t.own.again ≡ None → (t.own.status ≡ Running) ⊎ ((t.own.status ≡ Calling) × CallsOn plan c n object) → Kept (effect.serviced (orders plan code table tasks barriers seen sound fits ways) plan (flat_controls plan code).barrier object at n (begin_action n object false c))
  idle_serviced object at n c t w is there idle inside unmade still may =
      serviced_good plan code table tasks barriers seen sound fits ways object at n (begin_action n object false c) t
      (record { framed = action_begun plan code seen n object false c (idle_free n (object_of object c) idle) (λ e. absurd (true≢false (sym e))) w.framed; spots = w.spots })
      is (begun_changes plan n object false c there refl) inside unmade still may

  module _ (n : ℕ) (c : All Spot) (t : TaskAt Spot) (w : Kept c) (is : slice_get c.tasks n ≡ Some t) (alive : is_over t.own.status ≡ false) where
    own_is : own_of n c ≡ t.own
    own_is = own_got n c.tasks t is

    mine : Serves plan c n t.own
    mine = subst (λ x. Serves plan c n x) own_is (w.framed.serves n (ap (λ (x : Own). is_over x.status) own_is ∙ alive))

    pub expired : t.own.status ≡ Calling → (call_of t.own.call c).state ≡ Queued → ((object : ℕ) → (call_of t.own.call c).owner ≡ owner.Object object → is_idle (object_of object c) ≡ true) → Kept (effect.call_expires (orders plan code table tasks barriers seen sound fits ways) plan (flat_controls plan code).barrier n c)
    expired waiting queued idle =
        subst (λ (x : Own). Kept (effect.cancelled_on (orders plan code table tasks barriers seen sound fits ways) plan (flat_controls plan code).barrier (call_of x.call c).owner (call_of x.call c).at n (cancels x.call (on_task n (λ (u : TaskAt Spot). record { control = (orders plan code table tasks barriers seen sound fits ways).takes 1 u.control; own = runs u.own }) c)))) (sym own_is)
        (by (call_of t.own.call c).owner refl)
      where
        none : t.own.withdraw ≡ None
        none = at t.own.withdraw refl
          where
            at : (o : Option ℕ) → t.own.withdraw ≡ o → o ≡ None
            at None e = refl
            at (Some object) e = absurd (true≢false (sym (mine.withdraw object e).1.1.0.1 ∙ ap is_call_over queued))

        goes : TaskAt Spot → TaskAt Spot
        goes = λ u. record { control = (orders plan code table tasks barriers seen sound fits ways).takes 1 u.control; own = runs u.own }

        after : Kept (cancels t.own.call (on_task n (λ (u : TaskAt Spot). record { control = (orders plan code table tasks barriers seen sound fits ways).takes 1 u.control; own = runs u.own }) c))
        after =
            cancelled_good plan code table tasks barriers seen sound fits ways t.own.call n c t
            (record {
              framed = over_framed plan code seen t.own.call (λ (a : Call). record a { state = Cancelled }) c (λ a. refl) (λ k live. unserved_queued plan c k t.own.call (own_of k c) queued (w.framed.serves k live)) w.framed;
              spots = w.spots;
            }) is waiting none refl

        by : (o : Owner) → (call_of t.own.call c).owner ≡ o → Kept (effect.cancelled_on (orders plan code table tasks barriers seen sound fits ways) plan (flat_controls plan code).barrier o (call_of t.own.call c).at n (cancels t.own.call (on_task n (λ (u : TaskAt Spot). record { control = (orders plan code table tasks barriers seen sound fits ways).takes 1 u.control; own = runs u.own }) c)))
        by (owner.Task m) e = after
        by (owner.Object object) e =
            idle_serviced object (call_of t.own.call c).at n (cancels t.own.call (on_task n goes c)) (goes t) after (got_changed n goes c.tasks t is)
            (subst (λ o. IsEntryOf plan c o (call_of t.own.call c).entry) e (w.framed.queued t.own.call queued)).1 (idle object e)
            (not_inside plan c n object t.own.opened (idle_unused n (object_of object c) (idle object e)) mine.opened)
            (none_restarted plan c n t.own waiting mine) (none_again plan c n t.own waiting mine) (inl refl)

    pub withdrew : (object : ℕ) → t.own.withdraw ≡ Some object → in_action n c ≡ false → is_idle (object_of object c) ≡ true → Kept (effect.withdraws (orders plan code table tasks barriers seen sound fits ways) plan (flat_controls plan code).barrier object n c)
    withdrew object from free idle =
        idle_serviced object (own_of n c).at n (on_own n (λ own. record own { withdraw = None }) c) (record t { own = record t.own { withdraw = None } }) gone (got_changed n (λ (u : TaskAt Spot). record u { own = record u.own { withdraw = None } }) c.tasks t is)
        (mine.withdraw object from).1.1.1 idle (not_inside plan c n object t.own.opened (idle_unused n (object_of object c) idle) mine.opened) (none_restarted plan c n t.own waiting mine) (none_again plan c n t.own waiting mine)
        (inr (waiting, λ i live its. absurd ((mine.withdraw object from).1.0 i live its)))
      where
        waiting : t.own.status ≡ Calling
        waiting = by (mine.withdraw object from).0.1
          where
            by : Waits (mine.withdraw object from).0.0 t.own → t.own.status ≡ Calling
            by (inl e) = e
            by (inr k) = absurd (not_within (mine.withdraw object from).0.0 t.own.opened (outside plan c n free t.own.opened mine.opened) k.1)

        gone : Kept (on_own n (λ own. record own { withdraw = None }) c)
        gone =
            task_good plan code table tasks barriers seen sound fits ways n (λ u. record u { own = record u.own { withdraw = None } }) c t is
            (withdrawing_framed plan code seen None t.own.status t (framed_at plan code seen n c.tasks t is w.framed.tasks))
            (record {
              live = λ h. h;
              waits = λ id live its h. h;
              serves = λ live s. record {
                opened = s.opened;
                calls = s.calls;
                objects = s.objects;
                serving = s.serving;
                again = s.again;
                restart = λ r q. let x = s.restart r q in record { served = x.served; form = x.form; entry = x.entry; outside = x.outside; apart = x.apart };
                withdraw = λ o e. absurd cc;
              };
              abnormal = λ h. h;
            }) (λ u h. h) w

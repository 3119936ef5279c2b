-- A call on an entry of an object meets the entry's barrier: its body is entered, or the call waits, is cancelled or refused.
use Rattle.std.proofs.Common.{◌≡◌, ◌⊎◌, ℕ, zero, suc, List, [], ◌∷◌, Some, None, Result, Ok, Err, Bool, true, false, refl, sym, ap, ◌∙◌, subst, if◌then◌else◌, slice_get}
use Rattle.std.specs.Prelude.{◌&&◌}
use Rattle.aud_text.specs.declared.place.Pos.{Pos}
use Rattle.aud_text.specs.declared.raise.Raise.{Raise}
use Rattle.aud_text.specs.declared.raise.Raise.TheVariants.{Program}
use Rattle.aud_typed.specs.declared.program.Exception.TheVariants.{Predefined}
use Rattle.aud_typed.specs.Tree.{Plan}
use Rattle.aud_meaning.specs.declared.state.CallState.TheVariants.{Queued, Selected, Done, Cancelled}
use Rattle.aud_meaning.specs.declared.state.Owner.TheVariants as owner
use Rattle.aud_meaning.specs.declared.state.Status.TheVariants.{Running, Calling}
use Rattle.aud_meaning.specs.Configuration.{Own, Call, TaskAt, All}
use Rattle.aud_meaning.specs.Control.{here, takes_part}
use Rattle.aud_meaning.specs.Parts.{arrives, call_of, calls_on_object, cancels, changed, contains, end_action, fails, is_object, is_over, is_queued, numbers, on_call, on_task, own_of, runs}
use Rattle.aud_meaning.specs.Tasks as effect
use Rattle.aud_meaning.proofs.Open.Tasks.{call_at}
use Rattle.aud_code.specs.Places.{Spot}
use Rattle.aud_code.specs.Flat.{Flat, end_at, flat_controls}
use Rattle.aud_code.specs.Seen.{IsSeen}
use Rattle.aud_code.specs.Sound.{Counts, IsSound}
use Rattle.aud_code.proofs.Starts.{moved_kept}
use Rattle.aud_over.specs.Over.{is_call_over}
use Rattle.aud_framed.specs.Held.{StandsAt}
use Rattle.aud_framed.specs.Calls.{CallsOn, EntryFits, IsEntryOf, calls_in, objects_in}
use Rattle.aud_framed.specs.Framed.{HasLevels}
use Rattle.aud_framed.specs.Stepping.{HasWays}
use Rattle.aud_framed.proofs.Stepping.Calls.{now_over, over_framed}
use Rattle.aud_framed.proofs.Stepping.Ending.{Good, StandsCalling, call_plain, calling, changed_spots, end_call_good, none_to_withdraw, runner}
use Rattle.aud_framed.proofs.Stepping.Entering.{entry_at_once}
use Rattle.aud_framed.proofs.Stepping.Going.{part_goes}
use Rattle.aud_framed.proofs.Stepping.Holding.{HasObject, Held, caller_waits, failed_holds, object_refused}
use Rattle.aud_framed.proofs.Stepping.Leaving.{got_changed}
use Rattle.aud_framed.proofs.Stepping.Parts.{own_got, task_framed}
use Rattle.aud_framed.proofs.Stepping.Refusing.{orders}
use Rattle.aud_framed.proofs.Stepping.Requeuing.{call_framed}
use Rattle.aud_framed.proofs.Stepping.Served.{changed_serviced, free, on_still, outside}
use Rattle.aud_framed.proofs.Stepping.Serving.{ended_good}

-- a change of one call that a test doesn't tell apart
numbers_same : (p : Call → Bool) (m id : ℕ) (f : Call → Call) (cs : List Call) → p (f (call_at id cs)) ≡ p (call_at id cs) → numbers p m (changed id f cs) ≡ numbers p m cs
numbers_same p m id f [] e = refl
numbers_same p m zero f (a ∷ more) e = ap (λ b. if b then m ∷ numbers p (suc m) more else numbers p (suc m) more) e
numbers_same p m (suc id) f (a ∷ more) e = ap (λ ns. if p a then m ∷ ns else ns) (numbers_same p (suc m) id f more e)

module _ (plan : Plan) (code : Flat) (table : List Counts) (tasks barriers seen : List ℕ) (sound : IsSound code) (fits : IsSeen code table tasks barriers seen) (ways : HasWays code) where
  abbrev pub Kept : All Spot → Type 0
  Kept c = Good plan code table tasks barriers seen sound fits ways c

  either_kept : (b : Bool) (x y : All Spot) → (b ≡ true → Kept x) → (b ≡ false → Kept y) → Kept (if b then x else y)
  either_kept true x y h k = h refl
  either_kept false x y h k = k refl

  -- a call is cancelled whose caller goes on at its other part
  pub cancelled_good : (id n : ℕ) (c : All Spot) (t : TaskAt Spot) → Kept (on_call id (λ (a : Call). record a { state = Cancelled }) c) → slice_get c.tasks n ≡ Some t → t.own.status ≡ Calling → t.own.withdraw ≡ None → t.own.call ≡ id → Kept (cancels id (on_task n (λ (u : TaskAt Spot). record { control = (orders plan code table tasks barriers seen sound fits ways).takes 1 u.control; own = runs u.own }) c))
  cancelled_good id n c t w is waiting none mine = record {
    framed =
        task_framed plan code seen n goes after t is stands
        (runner plan code table tasks barriers seen sound fits ways after n t.own (runs t.own) (record { status = refl; call = refl; opened = refl; serving = refl; again = refl; restart = refl; withdraw = refl; abnormal = refl }) waiting none
        (subst (λ i. is_call_over (call_of i after).state ≡ true) (sym mine) (now_over id (λ (a : Call). record a { state = Cancelled }) c.shared.calls (λ a. refl)))) w.framed;
    spots = changed_spots plan code table tasks barriers seen sound fits ways n goes c.tasks (λ u h. moved_kept code sound plan (takes_part 1 here) u.control h) w.spots;
  }
    where
      goes : TaskAt Spot → TaskAt Spot
      goes = λ u. record { control = (orders plan code table tasks barriers seen sound fits ways).takes 1 u.control; own = runs u.own }

      after : All Spot
      after = on_call id (λ (a : Call). record a { state = Cancelled }) c

      s : StandsCalling plan code table tasks barriers seen sound fits ways t
      s = calling plan code table tasks barriers seen sound fits ways (on_call id (λ (a : Call). record a { state = Cancelled }) c) n t w is waiting

      stands : StandsAt code.lines seen t.own.pending ((orders plan code table tasks barriers seen sound fits ways).takes 1 t.control) t.own.display t.own.opened
      stands =
          subst (λ p. StandsAt code.lines seen p ((orders plan code table tasks barriers seen sound fits ways).takes 1 t.control) t.own.display t.own.opened) (sym s.none)
          (part_goes code table tasks barriers seen sound fits ways t.control.place t.control.returns t.own.display t.own.opened (end_at code t.control.place) s.at 1 (call_plain (end_at code t.control.place).last s.call))

  module _ (levels : HasLevels plan code tasks seen) (at : Pos) (object id n : ℕ) (c : All Spot) (t : TaskAt Spot) (w : Kept c) (is : slice_get c.tasks n ≡ Some t) (unmade : t.own.restart ≡ None) (still : t.own.again ≡ None) (holds : HasObject plan n object c) (unserved : contains id (calls_in t.own.opened) ≡ false) (selected : (call_of id c).state ≡ Selected) (its : (call_of id c).owner ≡ owner.Object object) (may : (t.own.status ≡ Running) ⊎ ((t.own.status ≡ Calling) × CallsOn plan c n object)) (entry : EntryFits plan c (owner.Object object) (call_of id c).entry) (healthy : (own_of (call_of id c).caller c).abnormal ≡ true → (call_of id c).stays ≡ true) (conditional : effect.is_conditional (orders plan code table tasks barriers seen sound fits ways) plan (flat_controls plan code).barrier (call_of id c).form ≡ true → ((call_of id c).caller ≡ n) × (t.own.status ≡ Calling)) where
    refused : Kept (end_action n object (effect.refuse (orders plan code table tasks barriers seen sound fits ways) plan (flat_controls plan code).barrier Program (calls_on_object object c.shared.calls) (effect.end_call (orders plan code table tasks barriers seen sound fits ways) plan (flat_controls plan code).barrier (fails (Predefined Program)) id c)))
    refused =
        let d : All Spot = effect.end_call (orders plan code table tasks barriers seen sound fits ways) plan (flat_controls plan code).barrier (fails (Predefined Program)) id c in
        let good : Kept d =
        end_call_good plan code table tasks barriers seen sound fits ways (fails (Predefined Program)) id c w (ap is_call_over selected)
        (free plan code table tasks barriers seen sound fits ways n object id c t w is unmade still holds unserved selected its may)
        (caller_waits plan code seen n object id c w.framed holds its (ap is_call_over selected)) in
        let h : Held plan code table tasks barriers seen sound fits ways n object (effect.refuse (orders plan code table tasks barriers seen sound fits ways) plan (flat_controls plan code).barrier Program (calls_on_object object d.shared.calls) d) =
        object_refused plan code table tasks barriers seen sound fits ways n object Program d (record { good = good; holds = failed_holds plan code table tasks barriers seen sound fits ways n object (Predefined Program) id c holds }) in
        let same : calls_on_object object d.shared.calls ≡ calls_on_object object c.shared.calls =
        numbers_same (λ (a : Call). is_queued a.state && is_object object a.owner) 0 id (λ (a : Call). record a { state = Done }) c.shared.calls
        (ap (λ q. is_queued q && is_object object (call_of id c).owner) (sym selected)) in
        subst (λ ids. Kept (end_action n object (effect.refuse (orders plan code table tasks barriers seen sound fits ways) plan (flat_controls plan code).barrier Program ids d))) same (ended_good plan code table tasks barriers seen sound fits ways n object _ h.holds.outside h.good)

    entered : Kept (effect.enters_entry (orders plan code table tasks barriers seen sound fits ways) plan (flat_controls plan code).barrier false at object id n c)
    entered =
        entry_at_once plan code table tasks barriers seen sound fits ways levels false at object id n c t w is may unmade still holds.acts
        (outside plan code table tasks barriers seen sound fits ways n object id c t w is unmade still holds unserved selected its may) unserved (selected, its) entry.1

    withdrawn : effect.is_conditional (orders plan code table tasks barriers seen sound fits ways) plan (flat_controls plan code).barrier (call_of id c).form ≡ true → Kept (end_action n object (cancels id (on_task n (λ (u : TaskAt Spot). record { control = (orders plan code table tasks barriers seen sound fits ways).takes 1 u.control; own = runs u.own }) c)))
    withdrawn e =
        let k = conditional e in
        let f : TaskAt Spot → TaskAt Spot = (λ (u : TaskAt Spot). record { control = (orders plan code table tasks barriers seen sound fits ways).takes 1 u.control; own = runs u.own }) in
        let waits : (own_of n c).status ≡ Calling = ap (λ (x : Own). x.status) (own_got n c.tasks t is) ∙ k.1 in
        let alive : is_call_over (call_of id c).state ≡ false = ap is_call_over selected in
        let none : t.own.withdraw ≡ None = ap (λ (x : Own). x.withdraw) (sym (own_got n c.tasks t is)) ∙ none_to_withdraw plan code table tasks barriers seen sound fits ways c n id (w.framed.serves n (ap is_over waits)) alive k.0 in
        let mine : t.own.call ≡ id = ap (λ (x : Own). x.call) (sym (own_got n c.tasks t is)) ∙ subst (λ m. (own_of m c).call ≡ id) k.0 (w.framed.calls id alive).0 in
        ended_good plan code table tasks barriers seen sound fits ways n object _
        (ap (λ (x : Own). contains object (objects_in x.opened)) (own_got n (changed n f c.tasks) (f t) (got_changed n f c.tasks t is))
        ∙ outside plan code table tasks barriers seen sound fits ways n object id c t w is unmade still holds unserved selected its may)
        (cancelled_good id n c t
        (record {
          framed =
              over_framed plan code seen id (λ (a : Call). record a { state = Cancelled }) c (λ a. refl)
              (free plan code table tasks barriers seen sound fits ways n object id c t w is unmade still holds unserved selected its may) w.framed;
          spots = w.spots;
        }) is k.1 none mine)

    waits_there : Kept (effect.serviced (orders plan code table tasks barriers seen sound fits ways) plan (flat_controls plan code).barrier object at n (arrives id c))
    waits_there =
        let f : Call → Call = (λ (a : Call). record a { state = Queued; arrival = c.shared.arrivals }) in
        changed_serviced plan code table tasks barriers seen sound fits ways n object id c t w is unmade still holds unserved selected its may f (suc c.shared.arrivals) at
        (call_framed plan code seen id f c
        (free plan code table tasks barriers seen sound fits ways n object id c t w is unmade still holds unserved selected its may)
        (ap is_call_over selected) (λ a. refl) (λ o e. e) (λ h. (w.framed.calls id (ap is_call_over selected)).1) (λ q. subst (λ o. IsEntryOf plan c o (call_of id c).entry) (sym its) entry.0) (λ q ill. healthy ill) w.framed)
        (on_still plan code table tasks barriers seen sound fits ways n object id c t w is unmade still holds unserved selected its may f (λ a. refl) (λ a e. e))

    pub barrier_good : (b : Result Bool Raise) → Kept (effect.barrier_met (orders plan code table tasks barriers seen sound fits ways) plan (flat_controls plan code).barrier b at object id n c)
    barrier_good (Err raise) = refused
    barrier_good (Ok true) = entered
    barrier_good (Ok false) = either_kept (effect.is_conditional (orders plan code table tasks barriers seen sound fits ways) plan (flat_controls plan code).barrier (call_of id c).form) _ _ withdrawn (λ e. waits_there)

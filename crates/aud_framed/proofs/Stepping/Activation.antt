-- Activations that end.
use Rattle.std.proofs.Common.{◌≡◌, ℕ, List, Option, Some, None, Bool, true, false, refl, sym, ap, ◌∙◌, subst, inl, inr, if◌then◌else◌, slice_get}
use Rattle.std.proofs.lemmas.Bool.{false≢true}
use Rattle.std.specs.Prelude.{◌&&◌, ◌||◌, not}
use Rattle.aud_text.specs.declared.raise.Raise.TheVariants.{Tasking}
use Rattle.aud_typed.specs.declared.program.Exception.TheVariants.{Predefined}
use Rattle.aud_typed.specs.Tree.{Plan}
use Rattle.aud_meaning.specs.declared.state.Owner.{Owner}
use Rattle.aud_meaning.specs.declared.state.Pending.{Pending}
use Rattle.aud_meaning.specs.declared.state.Status.{Status}
use Rattle.aud_meaning.specs.declared.state.Status.TheVariants.{Created, Running, Activating, Accepting, Delaying, Calling, Completed, Terminated}
use Rattle.aud_meaning.specs.Configuration.{Own, TaskAt, All}
use Rattle.aud_meaning.specs.Control.{here, takes_part}
use Rattle.aud_meaning.specs.Effects.{pends}
use Rattle.aud_meaning.specs.Parts.{any, is_over, on_own, own_of, runs}
use Rattle.aud_meaning.specs.Tasks as effect
use Rattle.aud_code.specs.Places.{Spot, goes_there}
use Rattle.aud_code.specs.Flat.{Flat, Does, end_at, flat_controls}
use Rattle.aud_code.specs.Frames.{found, Found}
use Rattle.aud_code.specs.Instruction.{Activate}
use Rattle.aud_code.specs.Seen.{IsSeen}
use Rattle.aud_code.specs.Sound.{Counts, IsSound}
use Rattle.aud_code.proofs.Starts.{moved_kept}
use Rattle.aud_framed.specs.Held.{StandsAt}
use Rattle.aud_framed.specs.Waiting.{TaskFramed}
use Rattle.aud_framed.specs.Calls.{AreApart, IsPast, ServesIn, Waits, WithinEntry, calls_in, objects_in, with_restarted, with_served}
use Rattle.aud_framed.specs.Ways.{StandsAtStep}
use Rattle.aud_framed.specs.Stepping.{HasWays}
use Rattle.aud_framed.proofs.Blocks.{activates_framed}
use Rattle.aud_framed.proofs.Stepping.Ending.{Good, RunsOn, got_there}
use Rattle.aud_framed.proofs.Stepping.Going.{part_goes, pends_there}
use Rattle.aud_framed.proofs.Stepping.Lone.{begins_there, end_found, spot_of}
use Rattle.aud_framed.proofs.Stepping.Parts.{Follows, framed_at, own_got}
use Rattle.aud_framed.proofs.Stepping.Refusing.{none_changed, orders}
use Rattle.aud_framed.proofs.Stepping.Tasks.{task_good}

-- Who waits for an activation, and whether one has failed, counts for nothing else.

watched_framed : (plan : Plan) (code : Flat) (seen : List ℕ) (s : Status) (t : TaskAt Spot) (a : Option ℕ) (f : Bool) → TaskFramed plan code seen s t → TaskFramed plan code seen s (record t { own = record t.own { activator = a; failed = f } })
watched_framed plan code seen Created t a f h = record { place = h.place; display = h.display; opened = h.opened; none = h.none }
watched_framed plan code seen Running t a f h = h
watched_framed plan code seen Activating t a f h = h
watched_framed plan code seen Accepting t a f h = h
watched_framed plan code seen Delaying t a f h = h
watched_framed plan code seen Calling t a f h = h
watched_framed plan code seen Completed t a f h = h
watched_framed plan code seen Terminated t a f h = h

module _ (plan : Plan) (code : Flat) (table : List Counts) (tasks barriers seen : List ℕ) (sound : IsSound code) (fits : IsSeen code table tasks barriers seen) (ways : HasWays code) where
  abbrev pub Kept : All Spot → Type 0
  Kept c = Good plan code table tasks barriers seen sound fits ways c

  watched : (n : ℕ) (a : Own → Option ℕ) (f : Own → Bool) (c : All Spot) → Kept c → Kept (on_own n (λ own. record own { activator = a own; failed = f own }) c)
  watched n a f c w = by (slice_get c.tasks n) refl
    where
      by : (o : Option (TaskAt Spot)) → slice_get c.tasks n ≡ o → Kept (on_own n (λ own. record own { activator = a own; failed = f own }) c)
      by None e = subst (λ ts. Kept (record c { tasks = ts })) (sym (none_changed n (λ t. record t { own = record t.own { activator = a t.own; failed = f t.own } }) c.tasks e)) w
      by (Some t) e =
          task_good plan code table tasks barriers seen sound fits ways n (λ u. record u { own = record u.own { activator = a u.own; failed = f u.own } }) c t e
          (watched_framed plan code seen t.own.status t (a t.own) (f t.own) (framed_at plan code seen n c.tasks t e w.framed.tasks))
          (record {
            live = λ h. h;
            waits = λ id live mine h. h;
            serves = λ live s. record {
              opened = s.opened;
              calls = s.calls;
              objects = s.objects;
              serving = s.serving;
              again = s.again;
              restart = λ r q. let x = s.restart r q in record { served = x.served; form = x.form; entry = x.entry; outside = x.outside; apart = x.apart };
              withdraw = s.withdraw;
            };
            abnormal = λ h. h;
          }) (λ u h. h) w

  -- a task that waited for activations runs on
  runs_again : (c : All Spot) (n : ℕ) (own new : Own) → RunsOn plan code table tasks barriers seen sound fits ways own new → own.status ≡ Activating → Follows plan c n own new
  runs_again c n own new r activating = record {
    live = λ h. ap is_over activating;
    waits = λ id live mine h. (r.call ∙ h.0, waits_on _ h.1);
    serves = λ live s. record {
      opened = subst (λ os. ServesIn plan c n os) (sym r.opened) s.opened;
      calls = subst (λ os. AreApart (with_restarted new.restart (calls_in os))) (sym r.opened) (subst (λ x. AreApart (with_restarted x (calls_in own.opened))) (sym r.restart) s.calls);
      objects = subst (λ os. AreApart (with_served new.serving (objects_in os))) (sym r.opened) (subst (λ x. AreApart (with_served x (objects_in own.opened))) (sym r.serving) s.objects);
      serving = λ x e. let h = s.serving x (sym r.serving ∙ e) in (h.0, inl r.status);
      again = λ x e. let wrong : Activating ≡ Running = sym activating ∙ (s.again x (sym r.again ∙ e)).1.0 in absurd cc;
      restart = λ x e.
          let y = s.restart x (sym r.restart ∙ e) in
          record { served = y.served; form = y.form; entry = y.entry; outside = ap (λ os. objects_in os) r.opened ∙ y.outside; apart = (r.serving ∙ y.apart.0, λ q. let wrong : Running ≡ Calling = sym r.status ∙ q in absurd cc) };
      withdraw = λ o e. let h = s.withdraw o (sym r.withdraw ∙ e) in ((h.0.0, waits_on h.0.0 h.0.1), (h.1.0, (subst (λ id. IsPast plan c id) (sym r.call) h.1.1.0, h.1.1.1)));
    };
    abnormal = λ h. sym r.abnormal ∙ h;
  }
    where
      waits_on : (o : Owner) → Waits o own → Waits o new
      waits_on o (inl h) = let wrong : Activating ≡ Calling = sym activating ∙ h in absurd cc
      waits_on o (inr h) = inr (inl r.status, subst (λ os. WithinEntry o os) (sym r.opened) h.1)

  goes_behind : (m : ℕ) (c : All Spot) (t : TaskAt Spot) → Kept c → slice_get c.tasks m ≡ Some t → t.own.status ≡ Activating → Kept (effect.activator_goes_on (orders plan code table tasks barriers seen sound fits ways) plan (flat_controls plan code).barrier m c)
  goes_behind m c t w is activating = by (subst (λ st. TaskFramed plan code seen st t) activating (framed_at plan code seen m c.tasks t is w.framed.tasks))
    where
      runs_on : (b : Bool) (own : Own) → RunsOn plan code table tasks barriers seen sound fits ways own (if b then pends (Predefined Tasking) own.at (runs own) else runs own)
      runs_on true own = record { status = refl; call = refl; opened = refl; serving = refl; again = refl; restart = refl; withdraw = refl; abnormal = refl }
      runs_on false own = record { status = refl; call = refl; opened = refl; serving = refl; again = refl; restart = refl; withdraw = refl; abnormal = refl }

      by : TaskFramed plan code seen Activating t → Kept (effect.activator_goes_on (orders plan code table tasks barriers seen sound fits ways) plan (flat_controls plan code).barrier m c)
      by h =
          task_good plan code table tasks barriers seen sound fits ways m (λ u. record { control = (orders plan code table tasks barriers seen sound fits ways).takes 0 u.control; own = if u.own.failed then pends (Predefined Tasking) u.own.at (runs u.own) else runs u.own }) c t is
          (standing t.own.failed) (runs_again c m t.own _ (runs_on t.own.failed t.own) activating)
          (λ u g. moved_kept code sound plan (takes_part 0 here) u.control g) w
        where
          stands : StandsAt code.lines seen None t.control t.own.display t.own.opened
          stands = subst (λ p. StandsAt code.lines seen p t.control t.own.display t.own.opened) h.1 h.0

          is_there : found code.lines t.control.place ≡ Some (end_at code t.control.place)
          is_there = end_found code t.control.place _ stands

          line : (end_at code t.control.place).last ≡ Does Activate
          line = subst (λ x. Found x (λ l. l.last ≡ Does Activate)) is_there h.2

          s : StandsAtStep code seen t.control.place (end_at code t.control.place) t.control.returns t.own.display t.own.opened
          s = record { begins = begins_there code.lines t.control.place _ stands (spot_of code.lines m c.tasks t is w.spots).place; is = is_there; stands = stands }

          pending : (p : Pending) (o : Option ℕ) → slice_get (end_at code t.control.place).ways 0 ≡ o → StandsAt code.lines seen (Some p) (goes_there o t.control) t.own.display t.own.opened
          pending p None e = pends_there code table tasks barriers seen sound fits ways t.control.place t.control.returns t.own.display t.own.opened (end_at code t.control.place) s p (Activate, line)
          pending p (Some k) e = activates_framed code table tasks barriers seen sound fits t.control.place k t.control.returns t.own.display t.own.opened (end_at code t.control.place) p s line e

          standing : (b : Bool) → TaskFramed plan code seen (if b then pends (Predefined Tasking) t.own.at (runs t.own) else runs t.own).status (record { control = (orders plan code table tasks barriers seen sound fits ways).takes 0 t.control; own = if b then pends (Predefined Tasking) t.own.at (runs t.own) else runs t.own })
          standing true = pending (record { exception = Predefined Tasking; at = t.own.at }) (slice_get (end_at code t.control.place).ways 0) refl
          standing false =
              subst (λ p. StandsAt code.lines seen p ((orders plan code table tasks barriers seen sound fits ways).takes 0 t.control) t.own.display t.own.opened) (sym h.1)
              (part_goes code table tasks barriers seen sound fits ways t.control.place t.control.returns t.own.display t.own.opened (end_at code t.control.place) s 0 (Activate, (line, tt)))

  looks : (m : ℕ) (c : All Spot) → Kept c → Kept (effect.activator_looks (orders plan code table tasks barriers seen sound fits ways) plan (flat_controls plan code).barrier m c)
  looks m c w = by (is_activating_now (own_of m c).status) refl (not (any (effect.is_awaited_by (orders plan code table tasks barriers seen sound fits ways) plan (flat_controls plan code).barrier m) c.tasks))
    where
      is_activating_now : Status → Bool
      is_activating_now = effect.is_activating (orders plan code table tasks barriers seen sound fits ways) plan (flat_controls plan code).barrier

      it_is : (s : Status) → effect.is_activating (orders plan code table tasks barriers seen sound fits ways) plan (flat_controls plan code).barrier s ≡ true → s ≡ Activating
      it_is Created e = absurd (false≢true e)
      it_is Running e = absurd (false≢true e)
      it_is Activating e = refl
      it_is Accepting e = absurd (false≢true e)
      it_is Delaying e = absurd (false≢true e)
      it_is Calling e = absurd (false≢true e)
      it_is Completed e = absurd (false≢true e)
      it_is Terminated e = absurd (false≢true e)

      there : (own_of m c).status ≡ Activating → Kept (effect.activator_goes_on (orders plan code table tasks barriers seen sound fits ways) plan (flat_controls plan code).barrier m c)
      there e = on (got_there m c.tasks (λ q. let wrong : Activating ≡ Terminated = sym e ∙ q in absurd cc))
        where
          on : (t : TaskAt Spot) × (slice_get c.tasks m ≡ Some t) → Kept (effect.activator_goes_on (orders plan code table tasks barriers seen sound fits ways) plan (flat_controls plan code).barrier m c)
          on x = goes_behind m c x.0 w x.1 (ap (λ (o : Own). o.status) (sym (own_got m c.tasks x.0 x.1)) ∙ e)

      by : (b : Bool) → effect.is_activating (orders plan code table tasks barriers seen sound fits ways) plan (flat_controls plan code).barrier (own_of m c).status ≡ b → (d : Bool) → Kept (if b && d then effect.activator_goes_on (orders plan code table tasks barriers seen sound fits ways) plan (flat_controls plan code).barrier m c else c)
      by true e true = there (it_is (own_of m c).status e)
      by true e false = w
      by false e d = w

  pub activation_over : (failed : Bool) (n : ℕ) (c : All Spot) → Kept c → Kept (effect.activation_ended (orders plan code table tasks barriers seen sound fits ways) plan (flat_controls plan code).barrier failed n c)
  activation_over failed n c w = by (own_of n c).activator
    where
      by : (a : Option ℕ) → Kept (effect.activation_ended_by (orders plan code table tasks barriers seen sound fits ways) plan (flat_controls plan code).barrier a failed n c)
      by None = w
      by (Some m) =
          looks m (on_own m (λ own. record own { failed = own.failed || failed }) (on_own n (λ own. record own { activator = None }) c))
          (watched m (λ own. own.activator) (λ own. own.failed || failed) (on_own n (λ own. record own { activator = None }) c) (watched n (λ own. None) (λ own. own.failed) c w))

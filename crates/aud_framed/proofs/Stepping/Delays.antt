-- Delays: tasks that wait for a time, and go on at it.
use Rattle.std.proofs.Common.{◌≡◌, ◌⊎◌, ℕ, zero, suc, ◌+◌, List, [], ◌∷◌, length, Some, None, Bool, true, false, refl, sym, ap, ◌∙◌, subst, inl, inr, if◌then◌else◌, slice_get, slice_index_or}
use Rattle.std.proofs.lemmas.Bool.{true≢false}
use Rattle.std.specs.Prelude.{◌&&◌, ◌||◌, nat_eq, not}
use Rattle.aud_text.specs.declared.place.Pos.{Pos}
use Rattle.aud_text.specs.declared.raise.Raise.TheVariants.{Program}
use Rattle.aud_typed.specs.declared.program.Exception.TheVariants.{Predefined}
use Rattle.aud_typed.specs.Tree.{Plan}
use Rattle.aud_meaning.specs.declared.state.Action.{Action}
use Rattle.aud_meaning.specs.declared.state.Owner.{Owner}
use Rattle.aud_meaning.specs.declared.state.Status.TheVariants.{Running, Accepting, Delaying, Calling}
use Rattle.aud_meaning.specs.Configuration.{Purpose, for_body, for_block, for_loop, for_procedure, for_operation, for_entry, for_accept, Opened, Own, Object, TaskAt, Waits as WaitsAt, All}
use Rattle.aud_meaning.specs.Control.{here, takes_part}
use Rattle.aud_meaning.specs.Parts.{acts_on, any, blocks, in_action, is_over, no_object, object_of, on_control, on_own, own_of, runs}
use Rattle.aud_meaning.specs.Tasks as effect
use Rattle.aud_code.specs.Places.{Spot}
use Rattle.aud_code.specs.Flat.{Flat, Last, Does, end_at, flat_controls}
use Rattle.aud_code.specs.Frames.{Found, OpensAccept}
use Rattle.aud_code.specs.Instruction.{Delay, Accept, Select}
use Rattle.aud_code.specs.Seen.{IsSeen}
use Rattle.aud_code.specs.Sound.{Counts, IsSound}
use Rattle.aud_code.proofs.Starts.{moved_kept}
use Rattle.aud_framed.specs.Held.{StandsAt}
use Rattle.aud_framed.specs.Waiting.{EachOffered, TaskFramed}
use Rattle.aud_framed.specs.Calls.{AreApart, Serves, ServesIn, Waits, WithinEntry, calls_in, changes, objects_in, with_restarted, with_served}
use Rattle.aud_framed.specs.Ways.{StandsAtStep}
use Rattle.aud_framed.specs.Stepping.{DoesPlain, HasWays}
use Rattle.aud_framed.proofs.Stepping.Blocks.{raised_good}
use Rattle.aud_framed.proofs.Stepping.Ending.{Good, RunsOn}
use Rattle.aud_framed.proofs.Stepping.Going.{part_goes}
use Rattle.aud_framed.proofs.Stepping.Lone.{at_step, begins_there, end_found, spot_of}
use Rattle.aud_framed.proofs.Stepping.Parts.{Follows, follows, framed_at, like_frames, own_got}
use Rattle.aud_framed.proofs.Stepping.Refusing.{Rests, orders, rest_waits}
use Rattle.aud_framed.proofs.Stepping.Tasks.{task_good}

-- A task with no action is in no object's body.

none_acts : (n : ℕ) (os : List Object) (i : ℕ) → any (acts_on n) os ≡ false → acts_on n (slice_index_or os i no_object) ≡ false
none_acts n [] i h = refl
none_acts n (o ∷ os) i h = by (acts_on n o) refl h i (λ j. none_acts n os j)
  where
    by : (b : Bool) → acts_on n o ≡ b → b || any (acts_on n) os ≡ false → (i : ℕ) → ((j : ℕ) → any (acts_on n) os ≡ false → acts_on n (slice_index_or os j no_object) ≡ false) → acts_on n (slice_index_or (o ∷ os) i no_object) ≡ false
    by true e h i on = absurd (true≢false h)
    by false e h zero on = e
    by false e h (suc j) on = on j h

pub changing_acts : (n : ℕ) (ones : List Action) → any (λ (a : Action). nat_eq a.task n && not a.reading) ones ≡ true → any (λ (a : Action). nat_eq a.task n) ones ≡ true
changing_acts n [] h = h
changing_acts n (a ∷ more) h = by (nat_eq a.task n) (not a.reading) h (changing_acts n more)
  where
    by : (b r : Bool) → (b && r) || any (λ (a : Action). nat_eq a.task n && not a.reading) more ≡ true → (any (λ (a : Action). nat_eq a.task n && not a.reading) more ≡ true → any (λ (a : Action). nat_eq a.task n) more ≡ true) → b || any (λ (a : Action). nat_eq a.task n) more ≡ true
    by true r h on = refl
    by false r h on = on h

module _ (plan : Plan) (c : All Spot) (n : ℕ) (free : in_action n c ≡ false) where
  pub no_change : (object : ℕ) → changes plan c n object ≡ true → ⊥
  no_change object h = true≢false (sym (changing_acts n (object_of object c).actions h) ∙ none_acts n c.shared.objects object free)

  pub outside : (os : List Opened) → ServesIn plan c n os → objects_in os ≡ []
  outside [] h = refl
  outside (o ∷ os) h = by o.purpose h (outside os)
    where
      by : (p : Purpose) → ServesIn plan c n (record o { purpose = p } ∷ os) → (ServesIn plan c n os → objects_in os ≡ []) → objects_in (record o { purpose = p } ∷ os) ≡ []
      by for_body h on = on h.1
      by for_block h on = on h.1
      by for_loop h on = on h.1
      by (for_procedure r) h on = on h.1
      by (for_operation object r) h on = absurd (true≢false (sym h.0.0 ∙ none_acts n c.shared.objects object free))
      by (for_entry object id served back) h on = absurd (no_change object h.0.1.0)
      by (for_accept id) h on = on h.1

pub not_within : (o : Owner) (os : List Opened) → objects_in os ≡ [] → WithinEntry o os → ⊥
not_within o [] e h = h
not_within o (x ∷ xs) e h = by x.purpose e h (not_within o xs)
  where
    by : (p : Purpose) → objects_in (record x { purpose = p } ∷ xs) ≡ [] → WithinEntry o (record x { purpose = p } ∷ xs) → (objects_in xs ≡ [] → WithinEntry o xs → ⊥) → ⊥
    by for_body e h on = on e h
    by for_block e h on = on e h
    by for_loop e h on = on e h
    by (for_procedure r) e h on = on e h
    by (for_operation object r) e h on = absurd cc
    by (for_entry object id served back) e h on = absurd cc
    by (for_accept id) e h on = on e h

pub running_outside : (o : Owner) (own : Own) → own.status ≡ Running → objects_in own.opened ≡ [] → Waits o own → ⊥
running_outside o own running e (inl h) = let wrong : Running ≡ Calling = sym running ∙ h in absurd cc
running_outside o own running e (inr h) = not_within o own.opened e h.1

pub accept_plain : (last : Last) → OpensAccept last → DoesPlain last
accept_plain (Does (Accept entry region)) h = (Accept entry region, (refl, tt))
accept_plain (Does (Select has_else)) h = (Select has_else, (refl, tt))
accept_plain last h = absurd h

module _ (plan : Plan) (code : Flat) (table : List Counts) (tasks barriers seen : List ℕ) (sound : IsSound code) (fits : IsSeen code table tasks barriers seen) (ways : HasWays code) where
  abbrev Kept : All Spot → Type 0
  Kept c = Good plan code table tasks barriers seen sound fits ways c

  -- one that waited for a time or for callers runs on
  wakes : (c : All Spot) (n : ℕ) (own new : Own) → RunsOn plan code table tasks barriers seen sound fits ways own new → Rests own.status → is_over own.status ≡ false → Follows plan c n own new
  wakes c n own new r rests alive = record {
    live = λ h. alive;
    waits = λ id live mine h. absurd (rest_waits _ own rests h.1);
    serves = λ live s. record {
      opened = subst (λ os. ServesIn plan c n os) (sym r.opened) s.opened;
      calls = subst (λ os. AreApart (with_restarted new.restart (calls_in os))) (sym r.opened) (subst (λ x. AreApart (with_restarted x (calls_in own.opened))) (sym r.restart) s.calls);
      objects = subst (λ os. AreApart (with_served new.serving (objects_in os))) (sym r.opened) (subst (λ x. AreApart (with_served x (objects_in own.opened))) (sym r.serving) s.objects);
      serving = λ x e. let h = s.serving x (sym r.serving ∙ e) in (h.0, inl r.status);
      again = λ x e. absurd (subst (λ q. Rests q) (s.again x (sym r.again ∙ e)).1.0 rests);
      restart = λ x e.
          let y = s.restart x (sym r.restart ∙ e) in
          record { served = y.served; form = y.form; entry = y.entry; outside = ap (λ os. objects_in os) r.opened ∙ y.outside; apart = (r.serving ∙ y.apart.0, λ q. let wrong : Running ≡ Calling = sym r.status ∙ q in absurd cc) };
      withdraw = λ o e. let h = (s.withdraw o (sym r.withdraw ∙ e)).0 in absurd (rest_waits h.0 own rests h.1);
    };
    abnormal = λ h. sym r.abnormal ∙ h;
  }

  takes_at : (alternative n : ℕ) (c : All Spot) (t : TaskAt Spot) → Kept c → slice_get c.tasks n ≡ Some t → Rests t.own.status → is_over t.own.status ≡ false → t.own.pending ≡ None → StandsAt code.lines seen None t.control t.own.display t.own.opened → DoesPlain (end_at code t.control.place).last → Kept (effect.delay_expires (orders plan code table tasks barriers seen sound fits ways) plan (flat_controls plan code).barrier alternative n c)
  takes_at alternative n c t w is rests alive none stands plain =
      let s : StandsAtStep code seen t.control.place (end_at code t.control.place) t.control.returns t.own.display t.own.opened =
      record { begins = begins_there code.lines t.control.place _ stands (spot_of code.lines n c.tasks t is w.spots).place; is = end_found code t.control.place _ stands; stands = stands } in
      task_good plan code table tasks barriers seen sound fits ways n (λ u. record { control = (orders plan code table tasks barriers seen sound fits ways).takes alternative u.control; own = runs u.own }) c t is
      (subst (λ p. StandsAt code.lines seen p ((orders plan code table tasks barriers seen sound fits ways).takes alternative t.control) t.own.display t.own.opened) (sym none)
      (part_goes code table tasks barriers seen sound fits ways t.control.place t.control.returns t.own.display t.own.opened (end_at code t.control.place) s alternative plain))
      (wakes c n t.own (runs t.own) (record { status = refl; call = refl; opened = refl; serving = refl; again = refl; restart = refl; withdraw = refl; abnormal = refl }) rests alive)
      (λ u h. moved_kept code sound plan (takes_part alternative here) u.control h) w

  -- a delay's time has come
  pub delay_expired : (alternative n : ℕ) (c : All Spot) (t : TaskAt Spot) → Kept c → slice_get c.tasks n ≡ Some t → (t.own.status ≡ Delaying) ⊎ (t.own.status ≡ Accepting) → Kept (effect.delay_expires (orders plan code table tasks barriers seen sound fits ways) plan (flat_controls plan code).barrier alternative n c)
  delay_expired alternative n c t w is (inl e) = by (subst (λ st. TaskFramed plan code seen st t) e (framed_at plan code seen n c.tasks t is w.framed.tasks))
    where
      by : TaskFramed plan code seen Delaying t → Kept (effect.delay_expires (orders plan code table tasks barriers seen sound fits ways) plan (flat_controls plan code).barrier alternative n c)
      by h =
          let stands : StandsAt code.lines seen None t.control t.own.display t.own.opened = subst (λ p. StandsAt code.lines seen p t.control t.own.display t.own.opened) h.1 h.0 in
          takes_at alternative n c t w is (subst (λ st. Rests st) (sym e) tt) (ap is_over e) h.1 stands
          (Delay, (subst (λ x. Found x (λ l. l.last ≡ Does Delay)) (end_found code t.control.place _ stands) h.2, tt))
  delay_expired alternative n c t w is (inr e) = by (subst (λ st. TaskFramed plan code seen st t) e (framed_at plan code seen n c.tasks t is w.framed.tasks))
    where
      by : TaskFramed plan code seen Accepting t → Kept (effect.delay_expires (orders plan code table tasks barriers seen sound fits ways) plan (flat_controls plan code).barrier alternative n c)
      by h =
          let stands : StandsAt code.lines seen None t.control t.own.display t.own.opened = subst (λ p. StandsAt code.lines seen p t.control t.own.display t.own.opened) h.1.0 h.0 in
          takes_at alternative n c t w is (subst (λ st. Rests st) (sym e) tt) (ap is_over e) h.1.0 stands
          (accept_plain (end_at code t.control.place).last (subst (λ x. Found x (λ l. OpensAccept l.last × EachOffered code.lines seen l t.control.place (length t.own.display) t.own.waits.accepts)) (end_found code t.control.place _ stands) h.1.1.0).0)

  -- A delay begins.

  either_kept : (b : Bool) (x y : All Spot) → (b ≡ true → Kept x) → (b ≡ false → Kept y) → Kept (if b then x else y)
  either_kept true x y h k = h refl
  either_kept false x y h k = k refl

  blocked : (c : All Spot) (n : ℕ) (own : Own) (at : Pos) (waits : WaitsAt) → own.status ≡ Running → own.again ≡ None → in_action n c ≡ false → Serves plan c n own → Follows plan c n own (blocks Delaying at waits own)
  blocked c n own at waits running still free mine = record {
    live = λ h. ap is_over running;
    waits = λ id live its h. absurd (running_outside _ own running (outside plan c n free own.opened mine.opened) h.1);
    serves = λ live s. record {
      opened = s.opened;
      calls = s.calls;
      objects = s.objects;
      serving = λ x e. absurd (no_change plan c n free x.object (s.serving x e).0);
      again = λ x e. let wrong : None ≡ Some x = sym still ∙ e in absurd cc;
      restart = λ x e. let y = s.restart x e in record { served = y.served; form = y.form; entry = y.entry; outside = y.outside; apart = (y.apart.0, λ q. absurd cc) };
      withdraw = λ o e. let h = (s.withdraw o e).0 in absurd (running_outside h.0 own running (outside plan c n free own.opened s.opened) h.1);
    };
    abnormal = λ h. h;
  }

  pub delay_begun : (ms : ℕ) (at : Pos) (n : ℕ) (c : All Spot) (t : TaskAt Spot) → Kept c → slice_get c.tasks n ≡ Some t → t.own.status ≡ Running → t.own.pending ≡ None → t.own.again ≡ None → (end_at code t.control.place).last ≡ Does Delay → Kept (effect.delays_for (orders plan code table tasks barriers seen sound fits ways) plan (flat_controls plan code).barrier ms at n c)
  delay_begun ms at n c t w is running none still line =
      either_kept (in_action n c) _ _ (λ acts. raised_good plan code table tasks barriers seen sound fits ways (Predefined Program) at n c t w is running none still (Delay, line))
      (λ free. either_kept (nat_eq ms 0) _ _ (λ e. goes_on) (λ e. waits free))
    where
      s : StandsAtStep code seen t.control.place (end_at code t.control.place) t.control.returns t.own.display t.own.opened
      s = at_step plan code seen n c t w.spots is running none w.framed

      goes_on : Kept (on_control n ((orders plan code table tasks barriers seen sound fits ways).takes 0) c)
      goes_on =
          task_good plan code table tasks barriers seen sound fits ways n (λ u. record u { control = (orders plan code table tasks barriers seen sound fits ways).takes 0 u.control }) c t is
          (subst (λ st. TaskFramed plan code seen st (record t { control = (orders plan code table tasks barriers seen sound fits ways).takes 0 t.control })) (sym running)
          (subst (λ p. StandsAt code.lines seen p ((orders plan code table tasks barriers seen sound fits ways).takes 0 t.control) t.own.display t.own.opened) (sym none)
          (part_goes code table tasks barriers seen sound fits ways t.control.place t.control.returns t.own.display t.own.opened (end_at code t.control.place) s 0 (Delay, (line, tt)))))
          (follows plan c n t.own t.own refl (λ r e. let wrong : None ≡ Some r = sym still ∙ e in absurd cc) (like_frames plan c n t.own.opened))
          (λ u h. moved_kept code sound plan (takes_part 0 here) u.control h) w

      waits : in_action n c ≡ false → Kept (on_own n (blocks Delaying at (record { accepts = []; delays = record { alternative = 0; time = c.clock + ms } ∷ []; terminate = false })) c)
      waits free =
          let ws : WaitsAt = record { accepts = []; delays = record { alternative = 0; time = c.clock + ms } ∷ []; terminate = false } in
          let alive : is_over (own_of n c).status ≡ false = ap (λ (x : Own). is_over x.status) (own_got n c.tasks t is) ∙ ap is_over running in
          task_good plan code table tasks barriers seen sound fits ways n (λ u. record u { own = blocks Delaying at ws u.own }) c t is
          (subst (λ p. StandsAt code.lines seen p t.control t.own.display t.own.opened) (sym none) s.stands, none, subst (λ x. Found x (λ l. l.last ≡ Does Delay)) (sym s.is) line)
          (blocked c n t.own at ws running still free (subst (λ x. Serves plan c n x) (own_got n c.tasks t is) (w.framed.serves n alive))) (λ u h. h) w

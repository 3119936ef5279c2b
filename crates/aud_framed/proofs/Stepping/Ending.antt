-- A call ends: its caller goes on behind it, or has an exception pending at it.
use Rattle.std.proofs.Common.{◌≡◌, ℕ, zero, suc, List, [], ◌∷◌, Option, Some, None, true, false, refl, sym, ap, ◌∙◌, subst, inl, inr, slice_get}
use Rattle.std.proofs.lemmas.Bool.{true≢false}
use Rattle.aud_text.specs.declared.raise.Raise.{Raise}
use Rattle.aud_typed.specs.declared.program.Exception.{Exception}
use Rattle.aud_typed.specs.declared.program.Exception.TheVariants.{Predefined}
use Rattle.aud_typed.specs.Tree.{Plan}
use Rattle.aud_meaning.specs.declared.state.CallState.TheVariants.{Done}
use Rattle.aud_meaning.specs.declared.state.Owner.TheVariants as owner
use Rattle.aud_meaning.specs.declared.state.Pending.{Pending}
use Rattle.aud_meaning.specs.declared.state.Status.TheVariants.{Running, Calling, Terminated}
use Rattle.aud_meaning.specs.Configuration.{Purpose, for_body, for_block, for_loop, for_procedure, for_operation, for_entry, for_accept, Frame, Opened, Own, Call, TaskAt, All}
use Rattle.aud_meaning.specs.Effects.{CopiedBack, copied_back, pends}
use Rattle.aud_meaning.specs.Control.{here, takes_part}
use Rattle.aud_meaning.specs.Orders.{Orders, carried_out}
use Rattle.aud_meaning.specs.Parts.{Outcome, succeeds, fails, call_of, changed, is_over, on_call, on_task, own_of, runs, with_frames}
use Rattle.aud_meaning.specs.Tasks as effect
use Rattle.aud_meaning.proofs.Limits.Frames.{nth}
use Rattle.aud_code.specs.Places.{Spot}
use Rattle.aud_code.specs.Flat.{Flat, Last, end_at, flat_controls}
use Rattle.aud_code.specs.Frames.{Found}
use Rattle.aud_code.specs.Instruction.{CallTask, CallObject}
use Rattle.aud_code.specs.Seen.{IsSeen}
use Rattle.aud_code.specs.Sound.{Counts, IsSound}
use Rattle.aud_code.specs.Starts.{AreSpots, IsSpot}
use Rattle.aud_code.proofs.Starts.{moved_kept}
use Rattle.aud_over.specs.Over.{is_call_over}
use Rattle.aud_framed.specs.Held.{IsCall, StandsAt}
use Rattle.aud_framed.specs.Waiting.{TaskFramed}
use Rattle.aud_framed.specs.Calls.{AreApart, Serves, ServesIn, Waits, WithinEntry, calls_in, objects_in, with_restarted, with_served}
use Rattle.aud_framed.specs.Ways.{StandsAtStep}
use Rattle.aud_framed.specs.Stepping.{DoesPlain, HasWays, IsKept}
use Rattle.aud_framed.proofs.Stepping.Calls.{IsUnserved, now_over, over_framed}
use Rattle.aud_framed.proofs.Stepping.Going.{part_goes, pends_there}
use Rattle.aud_framed.proofs.Stepping.Lone.{begins_there, end_found, spot_of}
use Rattle.aud_framed.proofs.Stepping.Parts.{Follows, framed_at, like_framed, own_got, task_framed}

-- who calls a task waits for it, and serves nobody meanwhile
within_task : (m : ℕ) (os : List Opened) → WithinEntry (owner.Task m) os → ⊥
within_task m [] h = h
within_task m (o ∷ os) h = by o.purpose h (within_task m os)
  where
    by : (p : Purpose) → WithinEntry (owner.Task m) (record o { purpose = p } ∷ os) → (WithinEntry (owner.Task m) os → ⊥) → ⊥
    by for_body h on = on h
    by for_block h on = on h
    by for_loop h on = on h
    by (for_procedure r) h on = on h
    by (for_operation n r) h on = on h
    by (for_entry n id served back) (inl h) on = let clash = h.0 in absurd cc
    by (for_entry n id served back) (inr h) on = on h
    by (for_accept id) h on = on h

pub task_caller : (m : ℕ) (own : Own) → Waits (owner.Task m) own → own.status ≡ Calling
task_caller m own (inl h) = h
task_caller m own (inr h) = absurd (within_task m own.opened h.1)

-- the task of a number, where its status says that it is there
pub got_there : (n : ℕ) (ts : List (TaskAt Spot)) → ((nth n ts).status ≡ Terminated → ⊥) → (t : TaskAt Spot) × (slice_get ts n ≡ Some t)
got_there n [] h = absurd (h refl)
got_there zero (t ∷ ts) h = (t, refl)
got_there (suc n) (t ∷ ts) h = got_there n ts h

pub call_plain : (last : Last) → IsCall last → DoesPlain last
call_plain last (inl h) = (CallTask h.0 h.1, (h.2, tt))
call_plain last (inr h) = (CallObject h.0 h.1 h.2, (h.3, tt))

module _ (plan : Plan) (code : Flat) (table : List Counts) (tasks barriers seen : List ℕ) (sound : IsSound code) (fits : IsSeen code table tasks barriers seen) (ways : HasWays code) where
  abbrev pub go : Orders Spot
  go = carried_out (flat_controls plan code)

  -- all that is kept
  abbrev pub Good : All Spot → Type 0
  Good c = IsKept plan code seen c

  -- Places.

  pub changed_spots : (n : ℕ) (f : TaskAt Spot → TaskAt Spot) (ts : List (TaskAt Spot)) → ((t : TaskAt Spot) → IsSpot code.lines t.control → IsSpot code.lines (f t).control) → AreSpots code.lines ts → AreSpots code.lines (changed n f ts)
  changed_spots n f [] g h = tt
  changed_spots zero f (t ∷ ts) g h = (g t h.0, h.1)
  changed_spots (suc n) f (t ∷ ts) g h = (h.0, changed_spots n f ts g h.1)

  -- it stands at a call
  pub record StandsCalling (t : TaskAt Spot) : Type 0 where
    pub at : StandsAtStep code seen t.control.place (end_at code t.control.place) t.control.returns t.own.display t.own.opened
    pub call : IsCall (end_at code t.control.place).last
    pub none : t.own.pending ≡ None

  pub calling : (c : All Spot) (n : ℕ) (t : TaskAt Spot) → Good c → slice_get c.tasks n ≡ Some t → t.own.status ≡ Calling → StandsCalling t
  calling c n t w is e = by (subst (λ s. TaskFramed plan code seen s t) e (framed_at plan code seen n c.tasks t is w.framed.tasks))
    where
      by : TaskFramed plan code seen Calling t → StandsCalling t
      by h =
          let stands : StandsAt code.lines seen None t.control t.own.display t.own.opened = subst (λ p. StandsAt code.lines seen p t.control t.own.display t.own.opened) h.1 h.0 in
          let found_is = end_found code t.control.place _ stands in
          record {
            at = record { begins = begins_there code.lines t.control.place _ stands (spot_of code.lines n c.tasks t is w.spots).place; is = found_is; stands = stands };
            call = subst (λ x. Found x (λ l. IsCall l.last)) found_is h.2;
            none = h.1;
          }

  pending_at_call : (t : TaskAt Spot) (p : Pending) → StandsCalling t → StandsAt code.lines seen (Some p) t.control t.own.display t.own.opened
  pending_at_call t p s =
      let d = call_plain (end_at code t.control.place).last s.call in
      pends_there code table tasks barriers seen sound fits ways t.control.place t.control.returns t.own.display t.own.opened (end_at code t.control.place) s.at p (d.0, d.1.0)

  behind_call : (t : TaskAt Spot) → StandsCalling t → StandsAt code.lines seen None (go.takes 0 t.control) t.own.display t.own.opened
  behind_call t s = part_goes code table tasks barriers seen sound fits ways t.control.place t.control.returns t.own.display t.own.opened (end_at code t.control.place) s.at 0 (call_plain (end_at code t.control.place).last s.call)

  -- The caller of a call that is over runs.

  -- new is own, but that it runs
  pub record RunsOn (own new : Own) : Type 0 where
    pub status : new.status ≡ Running
    pub call : new.call ≡ own.call
    pub opened : new.opened ≡ own.opened
    pub serving : new.serving ≡ own.serving
    pub again : new.again ≡ own.again
    pub restart : new.restart ≡ own.restart
    pub withdraw : new.withdraw ≡ own.withdraw
    pub abnormal : new.abnormal ≡ own.abnormal

  pub runner : (c : All Spot) (n : ℕ) (own new : Own) → RunsOn own new → own.status ≡ Calling → own.withdraw ≡ None → is_call_over (call_of own.call c).state ≡ true → Follows plan c n own new
  runner c n own new r calling none over = record {
    live = λ h. subst (λ s. is_over s ≡ false) (sym calling) refl;
    waits = λ id live mine h. absurd (true≢false (sym over ∙ subst (λ i. is_call_over (call_of i c).state ≡ false) (sym h.0) live));
    serves = λ live s. record {
      opened = subst (λ os. ServesIn plan c n os) (sym r.opened) s.opened;
      calls = subst (λ os. AreApart (with_restarted new.restart (calls_in os))) (sym r.opened) (subst (λ x. AreApart (with_restarted x (calls_in own.opened))) (sym r.restart) s.calls);
      objects = subst (λ os. AreApart (with_served new.serving (objects_in os))) (sym r.opened) (subst (λ x. AreApart (with_served x (objects_in own.opened))) (sym r.serving) s.objects);
      serving = λ x e. let h = s.serving x (sym r.serving ∙ e) in (h.0, inl r.status);
      again = λ x e. let wrong : Calling ≡ Running = sym calling ∙ (s.again x (sym r.again ∙ e)).1.0 in absurd cc;
      restart = λ x e.
          let y = s.restart x (sym r.restart ∙ e) in
          record { served = y.served; form = y.form; entry = y.entry; outside = ap (λ os. objects_in os) r.opened ∙ y.outside; apart = (r.serving ∙ y.apart.0, λ q. absurd (y.apart.1 calling)) };
      withdraw = λ o e. let clash = sym none ∙ (sym r.withdraw ∙ e) in absurd cc;
    };
    abnormal = λ h. sym r.abnormal ∙ h;
  }

  -- frames alone change
  pub with_frames_good : (frames : List Frame) (c : All Spot) → Good c → Good (with_frames frames c)
  with_frames_good frames c w = record {
    framed = like_framed plan code seen c (with_frames frames c) refl refl refl w.framed;
    spots = w.spots;
  }

  abbrev pub is_done : Call → Call
  is_done a = record a { state = Done }

  pub none_to_withdraw : (c : All Spot) (n id : ℕ) → Serves plan c n (own_of n c) → is_call_over (call_of id c).state ≡ false → (call_of id c).caller ≡ n → (own_of n c).withdraw ≡ None
  none_to_withdraw c n id s live mine = by (own_of n c).withdraw refl
    where
      by : (o : Option ℕ) → (own_of n c).withdraw ≡ o → o ≡ None
      by None e = refl
      by (Some object) e = absurd ((s.withdraw object e).1.0 id live mine)

  module _ (c : All Spot) (id : ℕ) (w : Good c) (live : is_call_over (call_of id c).state ≡ false) (free : IsUnserved id c) (waiting : (own_of (call_of id c).caller c).status ≡ Calling) where
    abbrev pub m : ℕ
    m = (call_of id c).caller

    abbrev after : All Spot
    after = on_call id is_done c

    caller_call : (own_of m c).call ≡ id
    caller_call = (w.framed.calls id live).0

    after_good : Good after
    after_good = record {
      framed = over_framed plan code seen id is_done c (λ a. refl) free w.framed;
      spots = w.spots;
    }

    -- its caller runs on
    pub ended : (f : TaskAt Spot → TaskAt Spot) → ((t : TaskAt Spot) → RunsOn t.own (f t).own) → ((t : TaskAt Spot) → StandsCalling t → StandsAt code.lines seen (f t).own.pending (f t).control (f t).own.display (f t).own.opened) → ((t : TaskAt Spot) → IsSpot code.lines t.control → IsSpot code.lines (f t).control) → Good (on_task m f (on_call id is_done c))
    ended f runs stands places = by (got_there m c.tasks (λ e. let clash = sym waiting ∙ e in absurd cc))
      where
        by : (t : TaskAt Spot) × (slice_get c.tasks m ≡ Some t) → Good (on_task m f (on_call id is_done c))
        by x =
            let t : TaskAt Spot = x.0 in
            let own_is : own_of m c ≡ t.own = own_got m c.tasks t x.1 in
            let e : t.own.status ≡ Calling = ap (λ (o : Own). o.status) (sym own_is) ∙ waiting in
            let s : StandsCalling t = calling c m t w x.1 e in
            let over : is_call_over (call_of t.own.call after).state ≡ true =
            subst (λ (o : Own). is_call_over (call_of o.call after).state ≡ true) own_is (subst (λ i. is_call_over (call_of i after).state ≡ true) (sym caller_call) (now_over id is_done c.shared.calls (λ a. refl))) in
            let none : t.own.withdraw ≡ None =
            subst (λ (o : Own). o.withdraw ≡ None) own_is (none_to_withdraw c m id (w.framed.serves m (ap is_over waiting)) live refl) in
            record {
              framed =
                  task_framed plan code seen m f after t x.1 (subst (λ st. TaskFramed plan code seen st (f t)) (sym (runs t).status) (stands t s)) (runner after m t.own (f t).own (runs t) e none over)
                  after_good.framed;
              spots = changed_spots m f c.tasks places after_good.spots;
            }

    takes_place : (s : Spot) → IsSpot code.lines s → IsSpot code.lines (go.takes 0 s)
    takes_place s h = moved_kept code sound plan (takes_part 0 here) s h

    fails_good : (x : Exception) → Good (effect.caller_fails go plan (flat_controls plan code).barrier id (call_of id c) x c)
    fails_good x =
        ended (λ t. record t { own = pends x (call_of id c).at (runs t.own) })
        (λ t. record { status = refl; call = refl; opened = refl; serving = refl; again = refl; restart = refl; withdraw = refl; abnormal = refl })
        (λ t s. pending_at_call t (record { exception = x; at = (call_of id c).at }) s) (λ t h. h)

    goes_on_good : Good (effect.caller_goes_on go plan (flat_controls plan code).barrier id (call_of id c) c)
    goes_on_good =
        ended (λ t. record { control = go.takes 0 t.control; own = runs t.own })
        (λ t. record { status = refl; call = refl; opened = refl; serving = refl; again = refl; restart = refl; withdraw = refl; abnormal = refl })
        (λ t s. subst (λ p. StandsAt code.lines seen p (go.takes 0 t.control) t.own.display t.own.opened) (sym s.none) (behind_call t s)) (λ t h. takes_place t.control h)

    by_good : (r : Option Raise) → Good (effect.ended_by go plan (flat_controls plan code).barrier r id (call_of id c) c)
    by_good None = goes_on_good
    by_good (Some raise) = fails_good (Predefined raise)

  pub end_call_good : (outcome : Outcome) (id : ℕ) (c : All Spot) → Good c → is_call_over (call_of id c).state ≡ false → IsUnserved id c → (own_of (call_of id c).caller c).status ≡ Calling → Good (effect.end_call go plan (flat_controls plan code).barrier outcome id c)
  end_call_good (fails x) id c w live free waiting = fails_good c id w live free waiting x
  end_call_good (succeeds values) id c w live free waiting =
      let back : CopiedBack = copied_back values (call_of id c).backs c.shared.frames in
      by_good (with_frames back.frames c) id (with_frames_good back.frames c w) live free waiting back.raised

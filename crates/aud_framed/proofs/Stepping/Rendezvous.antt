-- Rendezvous: an acceptor that runs or waits, and a call that is selected.
use Rattle.std.proofs.Common.{◌≡◌, ℕ, List, [], ◌∷◌, ◌++◌, length, Option, Some, None, Bool, true, false, refl, sym, ap, ◌∙◌, subst, inl, slice_get}
use Rattle.std.proofs.lemmas.Bool.{eq-eqb, eqb-true, true≢false}
use Rattle.std.specs.Prelude.{◌||◌, nat_eq}
use Rattle.aud_typed.specs.Tree.{Plan}
use Rattle.aud_meaning.specs.declared.state.Again.{Again}
use Rattle.aud_meaning.specs.declared.state.CallState.TheVariants.{Queued, Selected}
use Rattle.aud_meaning.specs.declared.state.OpenAccept.{OpenAccept}
use Rattle.aud_meaning.specs.declared.state.Owner.{Owner}
use Rattle.aud_meaning.specs.declared.state.Owner.TheVariants as owner
use Rattle.aud_meaning.specs.declared.state.Restart.{Restart}
use Rattle.aud_meaning.specs.declared.state.Status.TheVariants.{Running, Accepting, Calling}
use Rattle.aud_meaning.specs.Configuration.{Purpose, for_body, for_block, for_loop, for_procedure, for_operation, for_entry, for_accept, Opened, Own, Call, TaskAt, All}
use Rattle.aud_meaning.specs.Control.{does_accept, here, takes_part}
use Rattle.aud_meaning.specs.Effects as effects
use Rattle.aud_meaning.specs.Parts.{Waiting, call_of, contains, is_over, on_call, on_task, own_of, queue, runs, succeeds}
use Rattle.aud_meaning.specs.Tasks as effect
use Rattle.aud_code.specs.Places.{Spot, goes_there}
use Rattle.aud_code.specs.Flat.{Flat, Does, end_at, flat_controls}
use Rattle.aud_code.specs.Frames.{found, Found, IsWritten, OpensAccept, BodyAt}
use Rattle.aud_code.specs.Instruction.{Accept}
use Rattle.aud_code.specs.Seen.{IsSeen, DoingSees}
use Rattle.aud_code.specs.Sound.{Counts, IsSound}
use Rattle.aud_code.proofs.Starts.{moved_kept}
use Rattle.aud_over.specs.Over.{is_call_over}
use Rattle.aud_framed.specs.Held.{StandsAt}
use Rattle.aud_framed.specs.Waiting.{AllOfTasks, EachOffered, IsOffered, TaskFramed}
use Rattle.aud_framed.specs.Calls.{AreApart, EntryFits, IsEntryOf, RequeueFits, ServesIn, Waits, calls_in, objects_in, with_restarted, with_served}
use Rattle.aud_framed.specs.Ways.{StandsAtStep}
use Rattle.aud_framed.specs.Stepping.{HasWays}
use Rattle.aud_framed.proofs.Bodies.{accepts_framed}
use Rattle.aud_framed.proofs.Offers.{accept_offers}
use Rattle.aud_framed.proofs.Stepping.Accepting.{accept_waits}
use Rattle.aud_framed.proofs.Stepping.Beginning.{then_alone}
use Rattle.aud_framed.proofs.Stepping.Calls.{IsUnserved, served_by, unserved_queued}
use Rattle.aud_framed.proofs.Stepping.Delays.{accept_plain, running_outside}
use Rattle.aud_framed.proofs.Stepping.Ending.{Good, RunsOn, end_call_good, task_caller}
use Rattle.aud_framed.proofs.Stepping.Going.{one_longer, part_goes}
use Rattle.aud_framed.proofs.Stepping.Lone.{at_step, begins_there, end_found, spot_of}
use Rattle.aud_framed.proofs.Stepping.Meeting.{first_in, its_task, now_selected}
use Rattle.aud_framed.proofs.Stepping.Parts.{Follows, changed_own, framed_at, own_got, same_task}
use Rattle.aud_framed.proofs.Stepping.Refusing.{Rests, orders, rest_waits}
use Rattle.aud_framed.proofs.Stepping.Selecting.{field_same, selected_framed}
use Rattle.aud_framed.proofs.Stepping.Tasks.{task_good}

-- One number more.

pub neither_is : (a b : Bool) → a || b ≡ false → (a ≡ false) × (b ≡ false)
neither_is true b h = absurd (true≢false h)
neither_is false b h = (refl, h)

still_differs : (a b : ℕ) → nat_eq a b ≡ false → nat_eq b a ≡ false
still_differs a b h = by (nat_eq b a) refl
  where
    by : (x : Bool) → nat_eq b a ≡ x → x ≡ false
    by true e = absurd (true≢false (sym (eq-eqb a b (sym (eqb-true b a e))) ∙ h))
    by false e = refl

pub one_apart : (r : Option Restart) (id : ℕ) (ns : List ℕ) → contains id (with_restarted r ns) ≡ false → AreApart (with_restarted r ns) → AreApart (with_restarted r (id ∷ ns))
one_apart None id ns h k = (h, k)
one_apart (Some r) id ns h k =
    let x = neither_is (nat_eq id r.call) (contains id ns) h in
    (ap (λ b. b || contains r.call ns) (still_differs id r.call x.0) ∙ k.0, (x.1, k.1))

-- what the innermost accept makes again, in no object's body, any accept within it makes again
pub again_within : (plan : Plan) (c : All Spot) (r : Again) (os : List Opened) → RequeueFits plan c r os → objects_in os ≡ [] → EntryFits plan c r.owner r.entry
again_within plan c r [] h e = absurd h
again_within plan c r (o ∷ os) h e = by o.purpose h e (again_within plan c r os)
  where
    by : (p : Purpose) → RequeueFits plan c r (record o { purpose = p } ∷ os) → objects_in (record o { purpose = p } ∷ os) ≡ [] → (RequeueFits plan c r os → objects_in os ≡ [] → EntryFits plan c r.owner r.entry) → EntryFits plan c r.owner r.entry
    by for_body h e on = absurd h
    by for_block h e on = on h e
    by for_loop h e on = on h e
    by (for_procedure q) h e on = absurd h
    by (for_operation n q) h e on = absurd h
    by (for_entry n id served back) h e on = absurd cc
    by (for_accept id) h e on = h

module _ (plan : Plan) (code : Flat) (table : List Counts) (tasks barriers seen : List ℕ) (sound : IsSound code) (fits : IsSeen code table tasks barriers seen) (ways : HasWays code) where
  abbrev pub Kept : All Spot → Type 0
  Kept c = Good plan code table tasks barriers seen sound fits ways c

  -- The accept is open where the task stands.
  pub record OpensHere (a : OpenAccept) (t : TaskAt Spot) : Type 0 where
    pub at : StandsAtStep code seen t.control.place (end_at code t.control.place) t.control.returns t.own.display t.own.opened
    pub opens : OpensAccept (end_at code t.control.place).last
    pub offered : IsOffered code.lines seen (end_at code t.control.place) t.control.place (length t.own.display) a
    pub none : t.own.pending ≡ None
    pub alive : is_over t.own.status ≡ false
    pub calls_none : (o : Owner) → Waits o t.own → ⊥
    pub outside : objects_in t.own.opened ≡ []

  pub at_accept : (a : OpenAccept) (n : ℕ) (c : All Spot) (t : TaskAt Spot) → Kept c → slice_get c.tasks n ≡ Some t → t.own.status ≡ Running → t.own.pending ≡ None → objects_in t.own.opened ≡ [] → (end_at code t.control.place).last ≡ Does (Accept a.entry a.region) → a.alternative ≡ 0 → OpensHere a t
  at_accept a n c t w is running none outside line only =
      let s = at_step plan code seen n c t w.spots is running none w.framed in
      record {
        at = s;
        opens = subst (λ last. OpensAccept last) (sym line) tt;
        offered = accept_offers code table tasks barriers seen sound fits t.control.place t.control.returns t.own.display t.own.opened (end_at code t.control.place) s a only line;
        none = none;
        alive = ap is_over running;
        calls_none = λ o x. running_outside o t.own running outside x;
        outside = outside;
      }

  -- each of those that it waits at
  abbrev pub AllOpenHere : TaskAt Spot → List OpenAccept → Type 0
  AllOpenHere t [] = Unit {0}
  AllOpenHere t (a ∷ more) = OpensHere a t × AllOpenHere t more

  pub waits_here : (n : ℕ) (c : All Spot) (t : TaskAt Spot) → Kept c → slice_get c.tasks n ≡ Some t → t.own.status ≡ Accepting → AllOpenHere t t.own.waits.accepts
  waits_here n c t w is accepting = by (subst (λ st. TaskFramed plan code seen st t) accepting (framed_at plan code seen n c.tasks t is w.framed.tasks))
    where
      by : TaskFramed plan code seen Accepting t → AllOpenHere t t.own.waits.accepts
      by h = each t.own.waits.accepts waited.1
        where
          stands : StandsAt code.lines seen None t.control t.own.display t.own.opened
          stands = subst (λ p. StandsAt code.lines seen p t.control t.own.display t.own.opened) h.1.0 h.0

          there : found code.lines t.control.place ≡ Some (end_at code t.control.place)
          there = end_found code t.control.place _ stands

          waited : OpensAccept (end_at code t.control.place).last × EachOffered code.lines seen (end_at code t.control.place) t.control.place (length t.own.display) t.own.waits.accepts
          waited = subst (λ x. Found x (λ l. OpensAccept l.last × EachOffered code.lines seen l t.control.place (length t.own.display) t.own.waits.accepts)) there h.1.1.0

          one : (a : OpenAccept) → IsOffered code.lines seen (end_at code t.control.place) t.control.place (length t.own.display) a → OpensHere a t
          one a k = record {
            at = record { begins = begins_there code.lines t.control.place _ stands (spot_of code.lines n c.tasks t is w.spots).place; is = there; stands = stands };
            opens = waited.0;
            offered = k;
            none = h.1.0;
            alive = ap is_over accepting;
            calls_none = λ o x. rest_waits o t.own (subst (λ s. Rests s) (sym accepting) tt) x;
            outside = h.1.1.1.1;
          }

          each : (ones : List OpenAccept) → EachOffered code.lines seen (end_at code t.control.place) t.control.place (length t.own.display) ones → AllOpenHere t ones
          each [] k = tt
          each (a ∷ more) k = (one a k.0, each more k.1)

  -- it runs on
  woken : (c : All Spot) (n : ℕ) (own new : Own) → RunsOn plan code table tasks barriers seen sound fits ways own new → is_over own.status ≡ false → ((o : Owner) → Waits o own → ⊥) → Follows plan c n own new
  woken c n own new r alive calls_none = record {
    live = λ h. alive;
    waits = λ id live mine h. absurd (calls_none _ h.1);
    serves = λ live s. record {
      opened = subst (λ os. ServesIn plan c n os) (sym r.opened) s.opened;
      calls = subst (λ os. AreApart (with_restarted new.restart (calls_in os))) (sym r.opened) (subst (λ x. AreApart (with_restarted x (calls_in own.opened))) (sym r.restart) s.calls);
      objects = subst (λ os. AreApart (with_served new.serving (objects_in os))) (sym r.opened) (subst (λ x. AreApart (with_served x (objects_in own.opened))) (sym r.serving) s.objects);
      serving = λ x e. let h = s.serving x (sym r.serving ∙ e) in (h.0, inl r.status);
      again = λ x e. let k = s.again x (sym r.again ∙ e) in (subst (λ os. RequeueFits plan c x os) (sym r.opened) k.0, (r.status, (r.serving ∙ k.1.1.0, r.restart ∙ k.1.1.1)));
      restart = λ x e.
          let y = s.restart x (sym r.restart ∙ e) in
          record { served = y.served; form = y.form; entry = y.entry; outside = ap (λ os. objects_in os) r.opened ∙ y.outside; apart = (r.serving ∙ y.apart.0, λ q. let wrong : Running ≡ Calling = sym r.status ∙ q in absurd cc) };
      withdraw = λ o e. let h = (s.withdraw o (sym r.withdraw ∙ e)).0 in absurd (calls_none h.0 h.1);
    };
    abnormal = λ h. sym r.abnormal ∙ h;
  }

  module _ (a : OpenAccept) (id n : ℕ) (c : All Spot) (t : TaskAt Spot) (w : Kept c) (is : slice_get c.tasks n ≡ Some t) (h : OpensHere a t) (selected : (call_of id c).state ≡ Selected) (its : (call_of id c).owner ≡ owner.Task n) (free : IsUnserved id c) where
    alive_one : (u : TaskAt Spot) → slice_get c.tasks n ≡ Some u → is_over u.own.status ≡ false
    alive_one u e = subst (λ (x : TaskAt Spot). is_over x.own.status ≡ false) (same_task n c.tasks t u is e) h.alive

    live : is_call_over (call_of id c).state ≡ false
    live = ap is_call_over selected

    caller_waits : (own_of (call_of id c).caller c).status ≡ Calling
    caller_waits = task_caller n (own_of (call_of id c).caller c) (subst (λ o. Waits o (own_of (call_of id c).caller c)) its (w.framed.calls id live).1)

    -- It does nothing: the call is over.

    abbrev met : All Spot
    met = on_task n (λ (u : TaskAt Spot). record { control = (orders plan code table tasks barriers seen sound fits ways).takes a.alternative u.control; own = runs u.own }) c

    met_good : Kept met
    met_good =
        task_good plan code table tasks barriers seen sound fits ways n (λ (u : TaskAt Spot). record { control = (orders plan code table tasks barriers seen sound fits ways).takes a.alternative u.control; own = runs u.own }) c t is
        (subst (λ p. StandsAt code.lines seen p ((orders plan code table tasks barriers seen sound fits ways).takes a.alternative t.control) t.own.display t.own.opened) (sym h.none)
        (part_goes code table tasks barriers seen sound fits ways t.control.place t.control.returns t.own.display t.own.opened (end_at code t.control.place) h.at a.alternative (accept_plain (end_at code t.control.place).last h.opens)))
        (woken c n t.own (runs t.own) (record { status = refl; call = refl; opened = refl; serving = refl; again = refl; restart = refl; withdraw = refl; abnormal = refl }) h.alive h.calls_none)
        (λ u k. moved_kept code sound plan (takes_part a.alternative here) u.control k) w

    met_free : IsUnserved id met
    met_free m alive =
        changed_own (λ i own. is_over own.status ≡ false → contains id (served_by own) ≡ false) n (λ (u : TaskAt Spot). record { control = (orders plan code table tasks barriers seen sound fits ways).takes a.alternative u.control; own = runs u.own }) c.tasks
        (λ u e k goes. k (alive_one u e)) m (free m) alive

    met_waits : (own_of (call_of id c).caller met).status ≡ Calling
    met_waits =
        changed_own (λ i own. own.status ≡ Calling) n (λ (u : TaskAt Spot). record { control = (orders plan code table tasks barriers seen sound fits ways).takes a.alternative u.control; own = runs u.own }) c.tasks
        (λ u e k. absurd (h.calls_none (owner.Task n) (inl (subst (λ (x : TaskAt Spot). x.own.status ≡ Calling) (same_task n c.tasks u t e is) k)))) (call_of id c).caller caller_waits

    -- It does something: a frame is opened.

    abbrev opened_for : ℕ → Opened
    opened_for region = record { frame = length c.shared.frames; region = region; elaborated = length (call_of id c).values; handling = None; saved = t.own.display; at = a.at; purpose = for_accept id }

    serving : (own : Own) (o : Opened) (display : List ℕ) → own ≡ t.own → o.purpose ≡ for_accept id → Follows plan c n own (record (runs own) { display = display; opened = o ∷ own.opened })
    serving own o display same for_it = record {
      live = λ k. subst (λ (x : Own). is_over x.status ≡ false) (sym same) h.alive;
      waits = λ i k mine x. absurd (calls_none _ x.1);
      serves = λ k s. record {
        opened = subst (λ p. ServesIn plan c n (record o { purpose = p } ∷ own.opened)) (sym for_it) (((selected, its), outside), s.opened);
        calls =
            subst (λ p. AreApart (with_restarted own.restart (calls_in (record o { purpose = p } ∷ own.opened)))) (sym for_it)
            (one_apart own.restart id (calls_in own.opened) unserved s.calls);
        objects = subst (λ p. AreApart (with_served own.serving (objects_in (record o { purpose = p } ∷ own.opened)))) (sym for_it) s.objects;
        serving = λ x e. ((s.serving x e).0, inl refl);
        again = λ r e. let k = s.again r e in (subst (λ p. RequeueFits plan c r (record o { purpose = p } ∷ own.opened)) (sym for_it) (again_within plan c r own.opened k.0 outside), (refl, k.1.1));
        restart = λ r e.
            let y = s.restart r e in
            record { served = y.served; form = y.form; entry = y.entry; outside = ap (λ p. objects_in (record o { purpose = p } ∷ own.opened)) for_it ∙ outside; apart = (y.apart.0, λ q. absurd cc) };
        withdraw = λ x e. let k = (s.withdraw x e).0 in absurd (calls_none k.0 k.1);
      };
      abnormal = λ k. k;
    }
      where
        calls_none : (o : Owner) → Waits o own → ⊥
        calls_none o x = h.calls_none o (subst (λ (y : Own). Waits o y) same x)

        outside : objects_in own.opened ≡ []
        outside = ap (λ (y : Own). objects_in y.opened) same ∙ h.outside

        unserved : contains id (served_by own) ≡ false
        unserved =
            let own_is : own_of n c ≡ own = own_got n c.tasks t is ∙ sym same in
            subst (λ (y : Own). contains id (served_by y) ≡ false) own_is
            (free n (subst (λ (y : Own). is_over y.status ≡ false) (sym (own_got n c.tasks t is)) h.alive))

    begun : (region : ℕ) → a.region ≡ Some region → StandsAt code.lines seen None (goes_there (slice_get (end_at code t.control.place).bodies a.alternative) t.control) (t.own.display ++ length c.shared.frames ∷ []) (opened_for region ∷ t.own.opened)
    begun region e = by (slice_get (end_at code t.control.place).bodies a.alternative) refl
      where
        by : (o : Option ℕ) → slice_get (end_at code t.control.place).bodies a.alternative ≡ o → StandsAt code.lines seen None (goes_there o t.control) (t.own.display ++ length c.shared.frames ∷ []) (opened_for region ∷ t.own.opened)
        by None q = absurd (subst (λ o. IsWritten o (λ b. BodyAt code.lines a.region (end_at code t.control.place).within t.control.place b × DoingSees seen a.region (length t.own.display) b)) q h.offered)
        by (Some b) q =
            accepts_framed code table tasks barriers seen sound fits t.control.place b region id t.control.returns t.own.display (t.own.display ++ length c.shared.frames ∷ []) a (opened_for region) t.own.opened (end_at code t.control.place) h.at h.opens h.offered e q refl refl
            (one_longer t.own.display (length c.shared.frames))

    pub rendezvous_good : Kept (effect.rendezvous_by (orders plan code table tasks barriers seen sound fits ways) plan (flat_controls plan code).barrier a.region a id n c)
    rendezvous_good = by a.region refl
      where
        by : (r : Option ℕ) → a.region ≡ r → Kept (effect.rendezvous_by (orders plan code table tasks barriers seen sound fits ways) plan (flat_controls plan code).barrier r a id n c)
        by None e = end_call_good plan code table tasks barriers seen sound fits ways (succeeds ((call_of id c).values ++ (call_of id c).unseen)) id met met_good live met_free met_waits
        by (Some region) e =
            (then_alone plan code table tasks barriers seen sound fits ways (λ u. effects.opens (for_accept id) region a.at u.own.display (call_of id c).values (length (call_of id c).values) u)
            (λ u. record { control = (orders plan code table tasks barriers seen sound fits ways).accepts a.alternative u.control; own = runs u.own }) n c t w is refl refl
            (subst (λ p. StandsAt code.lines seen p (goes_there (slice_get (end_at code t.control.place).bodies a.alternative) t.control) (t.own.display ++ length c.shared.frames ∷ []) (opened_for region ∷ t.own.opened)) (sym h.none) (begun region e))
            (serving t.own (opened_for region) (t.own.display ++ length c.shared.frames ∷ []) refl refl)
            (moved_kept code sound plan (does_accept a.alternative here) t.control (spot_of code.lines n c.tasks t is w.spots))).good

  -- A call that is queued is selected and accepted.
  pub queued_meets : (a : OpenAccept) (id n : ℕ) (c : All Spot) (t : TaskAt Spot) → Kept c → slice_get c.tasks n ≡ Some t → OpensHere a t → (call_of id c).state ≡ Queued → (call_of id c).owner ≡ owner.Task n → Kept (effect.rendezvous (orders plan code table tasks barriers seen sound fits ways) plan (flat_controls plan code).barrier a id n c)
  queued_meets a id n c t w is h queued its =
      rendezvous_good a id n (on_call id (λ (x : Call). record x { state = Selected }) c) t (record { framed = selected_framed plan code seen id c queued w.framed; spots = w.spots }) is h
      (now_selected id c.shared.calls queued)
      (field_same (λ (x : Call). x.owner) id id (λ x. record x { state = Selected }) c.shared.calls (λ x. refl) ∙ its)
      (λ m alive. unserved_queued plan c m id (own_of m c) queued (w.framed.serves m alive))

  -- The step accept.
  pub accepts_good : (a : OpenAccept) (n : ℕ) (c : All Spot) (t : TaskAt Spot) → Kept c → slice_get c.tasks n ≡ Some t → t.own.status ≡ Running → t.own.pending ≡ None → t.own.again ≡ None → t.own.serving ≡ None → objects_in t.own.opened ≡ [] → AllOfTasks plan (a ∷ []) → (end_at code t.control.place).last ≡ Does (Accept a.entry a.region) → a.alternative ≡ 0 → Kept (effect.accepts_call (orders plan code table tasks barriers seen sound fits ways) plan (flat_controls plan code).barrier a n c)
  accepts_good a n c t w is running none still serves_none outside its line only = by (queue n a.entry c.shared.calls) refl
    where
      by : (ws : List Waiting) → queue n a.entry c.shared.calls ≡ ws → Kept (effect.accepts_call (orders plan code table tasks barriers seen sound fits ways) plan (flat_controls plan code).barrier a n c)
      by [] e = accept_waits plan code table tasks barriers seen sound fits ways a n c t w is running none still serves_none outside its line only e
      by (x ∷ xs) e =
          let q = first_in n a.entry c x xs e in
          subst (λ ws. Kept (effect.accepts_oldest (orders plan code table tasks barriers seen sound fits ways) plan (flat_controls plan code).barrier a ws n c)) (sym e)
          (queued_meets a x.call n c t w is (at_accept a n c t w is running none outside line only) q.queued
          (its_task plan c n a.entry (call_of x.call c).owner (subst (λ k. IsEntryOf plan c (call_of x.call c).owner k) q.entry_is (w.framed.queued x.call q.queued)) its.0 q.owner_is))

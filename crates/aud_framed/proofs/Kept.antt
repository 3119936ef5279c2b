-- What holds at the beginning, and of what is left where the rest is forgotten.
use Rattle.std.proofs.Common.{◌≡◌, ◌<◌, ℕ, zero, suc, List, [], ◌∷◌, length, Bool, true, false, ◌||◌, refl, sym, ap, ◌∙◌, subst, slice_index_or, inl, inr}
use Rattle.std.specs.Prelude.{◌⊎◌, not, ◌&&◌, nat_eq}
use Rattle.aud_typed.specs.Tree.{Plan}
use Rattle.aud_meaning.specs.declared.state.Action.{Action}
use Rattle.aud_meaning.specs.declared.state.Again.{Again}
use Rattle.aud_meaning.specs.declared.state.CallState.{CallState}
use Rattle.aud_meaning.specs.declared.state.CallState.TheVariants.{Queued, Selected, Done, Cancelled}
use Rattle.aud_meaning.specs.declared.state.Owner.{Owner}
use Rattle.aud_meaning.specs.declared.state.Owner.TheVariants as owner
use Rattle.aud_meaning.specs.declared.state.Restart.{Restart}
use Rattle.aud_meaning.specs.declared.state.Status.TheVariants.{Running, Calling}
use Rattle.aud_meaning.specs.Configuration.{Purpose, for_body, for_block, for_loop, for_procedure, for_operation, for_entry, for_accept, Opened, Own, Call, Object, TaskAt, All}
use Rattle.aud_meaning.specs.Parts.{acts_on, any, is_over, owns, no_call, no_object, nobody, own_of, call_of, is_queued, entry_plan, unit_of}
use Rattle.aud_meaning.specs.Run.{supplied, advanced}
use Rattle.aud_meaning.specs.Why.Open.{IsSettled, IsUnmet, NoneMissed}
use Rattle.aud_code.specs.Places.{Spot}
use Rattle.aud_code.specs.Flat.{Flat}
use Rattle.aud_over.specs.Over.{is_call_over, is_served, call_if, calls_left, forgotten}
use Rattle.aud_over.proofs.Calls.{true_is_not_false}
use Rattle.aud_framed.specs.Waiting.{AllFramed}
use Rattle.aud_framed.specs.Calls.{CallerWaits, IsEntryOf, EntryFits, IsServed, ServesBy, ServesIn, RequeueFits, RestartFits, Serves, IsAgain, CallsOn, HasNoCall, IsPast, changes}
use Rattle.aud_framed.specs.Framed.{AllObjectsFit, IsFramed}

-- Where the calls that are selected and the objects are the same, tasks serve as they did.
module _ (plan : Plan) (c d : All Spot) (calls : (id : ℕ) → (call_of id c).state ≡ Selected → call_of id d ≡ call_of id c) (lives : (id : ℕ) → is_call_over (call_of id d).state ≡ false → call_of id c ≡ call_of id d) (objects : c.shared.objects ≡ d.shared.objects) (counts : length c.shared.calls ≡ length d.shared.calls) where
  served : (id : ℕ) (o : Owner) → IsServed plan c id o → IsServed plan d id o
  served id o h = let e = calls id h.0 in (ap (λ (x : Call). x.state) e ∙ h.0, ap (λ (x : Call). x.owner) e ∙ h.1)

  calls_on : (n object : ℕ) → CallsOn plan c n object → CallsOn plan d n object
  calls_on n object h id live is =
      let e = lives id live in
      sym (ap (λ (x : Call). x.owner) e) ∙ h id (ap (λ (x : Call). is_call_over x.state) e ∙ live) (ap (λ (x : Call). x.caller) e ∙ is)

  no_call_has : (n : ℕ) → HasNoCall plan c n → HasNoCall plan d n
  no_call_has n h id live is = let e = lives id live in h id (ap (λ (x : Call). is_call_over x.state) e ∙ live) (ap (λ (x : Call). x.caller) e ∙ is)

  past : (id : ℕ) → IsPast plan c id → IsPast plan d id
  past id h = (subst (λ k. id < k) counts h.0, by (is_call_over (call_of id d).state) refl)
    where
      by : (b : Bool) → is_call_over (call_of id d).state ≡ b → b ≡ true
      by true e = refl
      by false e = true_is_not_false (sym h.1 ∙ (ap (λ (x : Call). is_call_over x.state) (lives id e) ∙ e))

  changing : (n object : ℕ) → changes plan c n object ≡ true → changes plan d n object ≡ true
  changing n object h = subst (λ (xs : List Object). any (λ (a : Action). nat_eq a.task n && not a.reading) (slice_index_or xs object no_object).actions ≡ true) objects h

  serves_by : (n : ℕ) (p : Purpose) (os : List Opened) → ServesBy plan c n p os → ServesBy plan d n p os
  serves_by n for_body os h = h
  serves_by n for_block os h = h
  serves_by n for_loop os h = h
  serves_by n (for_procedure r) os h = h
  serves_by n (for_operation object r) os h = (subst (λ (xs : List Object). acts_on n (slice_index_or xs object no_object) ≡ true) objects h.0, λ e. changing n object (h.1 e))
  serves_by n (for_entry object id was back) os h = (served id (owner.Object object) h.0, (changing n object h.1.0, λ e. calls_on n object (h.1.1 e)))
  serves_by n (for_accept id) os h = (served id (owner.Task n) h.0, h.1)

  serves_in : (n : ℕ) (os : List Opened) → ServesIn plan c n os → ServesIn plan d n os
  serves_in n [] h = h
  serves_in n (o ∷ os) h = (serves_by n o.purpose os h.0, serves_in n os h.1)

  entry_of : (o : Owner) (entry : ℕ) → IsEntryOf plan c o entry → IsEntryOf plan d o entry
  entry_of (owner.Task m) entry h = h
  entry_of (owner.Object object) entry h = (h.0, subst (λ (xs : List Object). object < length xs) objects h.1)

  entry_fits : (o : Owner) (entry : ℕ) → EntryFits plan c o entry → EntryFits plan d o entry
  entry_fits (owner.Task m) entry h = h
  entry_fits (owner.Object object) entry h =
      (entry_of (owner.Object object) entry h.0, subst (λ (xs : List Object). (unit_of plan (entry_plan plan entry).unit).level ≡ length (slice_index_or xs object no_object).display) objects h.1)

  requeue_fits : (r : Again) (os : List Opened) → RequeueFits plan c r os → RequeueFits plan d r os
  requeue_fits r [] h = absurd h
  requeue_fits r (o ∷ os) h = by o.purpose h (requeue_fits r os)
    where
      by : (p : Purpose) → RequeueFits plan c r ((record o { purpose = p }) ∷ os) → (RequeueFits plan c r os → RequeueFits plan d r os) → RequeueFits plan d r ((record o { purpose = p }) ∷ os)
      by for_body h on = absurd h
      by for_block h on = on h
      by for_loop h on = on h
      by (for_procedure p) h on = absurd h
      by (for_operation n p) h on = absurd h
      by (for_entry n id was back) h on = h
      by (for_accept id) h on = entry_fits r.owner r.entry h

  restart_fits : (n : ℕ) (own : Own) (r : Restart) → RestartFits plan c n own r → RestartFits plan d n own r
  restart_fits n own r h = record {
    served = served r.call (owner.Task n) h.served;
    form = subst (λ (x : Call). IsAgain x.form) (sym (calls r.call h.served.0)) h.form;
    entry = subst (λ (x : Call). EntryFits plan d (owner.Object r.object) x.entry) (sym (calls r.call h.served.0)) (entry_fits (owner.Object r.object) (call_of r.call c).entry h.entry);
    outside = h.outside;
    apart = h.apart;
  }

  pub serves_kept : (n : ℕ) (own : Own) → Serves plan c n own → Serves plan d n own
  serves_kept n own h = record {
    opened = serves_in n own.opened h.opened;
    calls = h.calls;
    objects = h.objects;
    serving = λ s e. let k = h.serving s e in (changing n s.object k.0, still n s.object own k.1);
    again = λ r e. let k = h.again r e in (requeue_fits r own.opened k.0, k.1);
    restart = λ r e. restart_fits n own r (h.restart r e);
    withdraw = λ object e. let k = h.withdraw object e in (k.0, (no_call_has n k.1.0, (past own.call k.1.1.0, subst (λ (xs : List Object). object < length xs) objects k.1.1.1)));
  }
    where
      still : (n object : ℕ) (own : Own) → (own.status ≡ Running) ⊎ ((own.status ≡ Calling) × CallsOn plan c n object) → (own.status ≡ Running) ⊎ ((own.status ≡ Calling) × CallsOn plan d n object)
      still n object own (inl h) = inl h
      still n object own (inr h) = inr (h.0, calls_on n object h.1)

pub supplied_framed : (plan : Plan) (code : Flat) (seen : List ℕ) (choices : List ℕ) (milliseconds : ℕ) (c : All Spot) → IsFramed plan code seen c → IsFramed plan code seen (supplied choices c) × IsFramed plan code seen (advanced milliseconds c)
supplied_framed plan code seen choices milliseconds c f = (
  record { tasks = f.tasks; objects = f.objects; calls = f.calls; stays = f.stays; queued = λ id e. entry_of plan c (supplied choices c) (λ id e. refl) (λ id e. refl) refl refl (call_of id c).owner (call_of id c).entry (f.queued id e); serves = λ n h. serves_kept plan c (supplied choices c) (λ id e. refl) (λ id e. refl) refl refl n (own_of n c) (f.serves n h); alone = f.alone },
  record { tasks = f.tasks; objects = f.objects; calls = f.calls; stays = f.stays; queued = λ id e. entry_of plan c (advanced milliseconds c) (λ id e. refl) (λ id e. refl) refl refl (call_of id c).owner (call_of id c).entry (f.queued id e); serves = λ n h. serves_kept plan c (advanced milliseconds c) (λ id e. refl) (λ id e. refl) refl refl n (own_of n c) (f.serves n h); alone = f.alone },
)

-- a call that is left, by its number
left_at : (served : ℕ → Bool) (n : ℕ) (cs : List Call) (i : ℕ) → (b : Bool) × (slice_index_or (calls_left served n cs) i no_call ≡ call_if b (slice_index_or cs i no_call)) × (is_call_over (slice_index_or cs i no_call).state ≡ false → b ≡ true)
left_at served n [] i = (true, refl, λ h. refl)
left_at served n (c ∷ cs) zero = (not (is_call_over c.state) || served n, refl, λ h. ap (λ o. not o || served n) h)
left_at served n (c ∷ cs) (suc i) = left_at served (suc n) cs i

left_count : (served : ℕ → Bool) (n : ℕ) (cs : List Call) → length (calls_left served n cs) ≡ length cs
left_count served n [] = refl
left_count served n (c ∷ cs) = ap suc (left_count served (suc n) cs)

not_over : (s : CallState) → is_queued s ≡ true → is_call_over s ≡ false
not_over Queued h = refl
not_over Selected h = refl
not_over Done h = true_is_not_false (sym h)
not_over Cancelled h = true_is_not_false (sym h)

-- a call that is not over is the same in both
same_call : (b : Bool) (x y : Call) → call_if b x ≡ y → is_call_over y.state ≡ false → x ≡ y
same_call true x y e h = e
same_call false x y e h = true_is_not_false (ap (λ (z : Call). is_call_over z.state) e ∙ h)

pub call_kept : {C : Type 0} (c d : All C) → forgotten c ≡ forgotten d → (id : ℕ) → is_call_over (call_of id d).state ≡ false → call_of id c ≡ call_of id d
call_kept {C} c d same id h =
    let l = left_at (is_served (owns c.tasks)) 0 c.shared.calls id in
    let r = left_at (is_served (owns d.tasks)) 0 d.shared.calls id in
    let e : slice_index_or (forgotten c).shared.calls id no_call ≡ slice_index_or (forgotten d).shared.calls id no_call = ap (λ (x : All C). slice_index_or x.shared.calls id no_call) same in
    same_call l.0 (call_of id c) (call_of id d) (sym l.1 ∙ e ∙ r.1 ∙ ap (λ b. call_if b (call_of id d)) (r.2 h)) h

pub framed_kept : (plan : Plan) (code : Flat) (seen : List ℕ) (c d : All Spot) → forgotten c ≡ forgotten d → IsFramed plan code seen c → IsFramed plan code seen d
framed_kept plan code seen c d same f = record {
  tasks = subst (AllFramed plan code seen) tasks f.tasks;
  objects = subst (AllObjectsFit plan) objects f.objects;
  calls = λ id live. let e = call_kept c d same id live in
      subst (λ (ts : List (TaskAt Spot)). CallerWaits id (call_of id d) (slice_index_or (owns ts) (call_of id d).caller nobody)) tasks
      (subst (λ (x : Call). CallerWaits id x (own_of x.caller c)) e (f.calls id (ap (λ (x : Call). is_call_over x.state) e ∙ live)));
  queued = λ id is. let e = call_kept c d same id (ap is_call_over is) in
      entry_of plan c d selected (call_kept c d same) objects counts (call_of id d).owner (call_of id d).entry
      (subst (λ (x : Call). IsEntryOf plan c x.owner x.entry) e (f.queued id (ap (λ (x : Call). x.state) e ∙ is)));
  stays = λ id is. let e = call_kept c d same id (ap is_call_over is) in
      subst (λ (ts : List (TaskAt Spot)). (slice_index_or (owns ts) (call_of id d).caller nobody).abnormal ≡ true → (call_of id d).stays ≡ true) tasks
      (subst (λ (x : Call). (own_of x.caller c).abnormal ≡ true → x.stays ≡ true) e (f.stays id (ap (λ (x : Call). x.state) e ∙ is)));
  serves = λ n. subst (λ (ts : List (TaskAt Spot)). is_over (slice_index_or (owns ts) n nobody).status ≡ false → Serves plan d n (slice_index_or (owns ts) n nobody)) tasks
      (λ h. serves_kept plan c d selected (call_kept c d same) objects counts n (own_of n c) (f.serves n h));
  alone = λ object n m. subst (λ (xs : List Object). acts_on n (slice_index_or xs object no_object) ≡ true → acts_on m (slice_index_or xs object no_object) ≡ true → (n ≡ m) ⊎ (any (λ (a : Action). not a.reading) (slice_index_or xs object no_object).actions ≡ false)) objects (f.alone object n m);
}
  where
    tasks : c.tasks ≡ d.tasks
    tasks = ap (λ (x : All Spot). x.tasks) same

    objects : c.shared.objects ≡ d.shared.objects
    objects = ap (λ (x : All Spot). x.shared.objects) same

    counts : length c.shared.calls ≡ length d.shared.calls
    counts = sym (left_count (is_served (owns c.tasks)) 0 c.shared.calls) ∙ (ap (λ (x : All Spot). length x.shared.calls) same ∙ left_count (is_served (owns d.tasks)) 0 d.shared.calls)

    selected : (id : ℕ) → (call_of id c).state ≡ Selected → call_of id d ≡ call_of id c
    selected id is = call_kept d c (sym same) id (ap is_call_over is)

pub missed_kept : {C : Type 0} (c d : All C) → forgotten c ≡ forgotten d → NoneMissed C c → NoneMissed C d
missed_kept {C} c d same w = record { settled = λ n. subst (λ (ts : List (TaskAt C)). IsSettled (slice_index_or (owns ts) n nobody)) tasks (w.settled n); unmet = unmet }
  where
    tasks : c.tasks ≡ d.tasks
    tasks = ap (λ (x : All C). x.tasks) same

    call : (id : ℕ) → is_queued (call_of id d).state ≡ true → call_of id c ≡ call_of id d
    call id h = call_kept c d same id (not_over (call_of id d).state h)

    unmet : (n id : ℕ) → IsUnmet n (own_of n d) (call_of id d)
    unmet n id h = subst (λ (x : Call). IsUnmet n (own_of n d) x) (call id h) (subst (λ (ts : List (TaskAt C)). IsUnmet n (slice_index_or (owns ts) n nobody) (call_of id c)) tasks (w.unmet n id)) h

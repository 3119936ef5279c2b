-- Actions on objects that begin and end.
use Rattle.std.proofs.Common.{◌≡◌, ◌⊎◌, ◌<◌, ℕ, zero, suc, List, [], ◌∷◌, ◌++◌, length, Option, Some, None, Bool, true, false, refl, sym, ap, ◌∙◌, subst, inl, inr, if◌then◌else◌, slice_get, slice_index_or}
use Rattle.std.proofs.lemmas.Bool.{eq-eqb, eqb-true, true≢false, false≢true}
use Rattle.std.specs.Prelude.{◌&&◌, ◌||◌, filter, nat_eq, not}
use Rattle.aud_typed.specs.Tree.{Plan}
use Rattle.aud_meaning.specs.declared.state.Action.{Action}
use Rattle.aud_meaning.specs.declared.state.Again.{Again}
use Rattle.aud_meaning.specs.declared.state.Owner.{Owner}
use Rattle.aud_meaning.specs.declared.state.Owner.TheVariants as owner
use Rattle.aud_meaning.specs.declared.state.Serving.{Serving}
use Rattle.aud_meaning.specs.declared.state.Status.{Status}
use Rattle.aud_meaning.specs.declared.state.Status.TheVariants.{Created, Running, Activating, Accepting, Delaying, Calling, Completed, Terminated}
use Rattle.aud_meaning.specs.Configuration.{Purpose, for_body, for_block, for_loop, for_procedure, for_operation, for_entry, for_accept, Opened, Own, Object, TaskAt, All}
use Rattle.aud_meaning.specs.Parts.{acts_on, any, call_of, changed, contains, in_the_way, is_over, no_object, nobody, object_of, on_own, own_of}
use Rattle.aud_meaning.proofs.Limits.Frames.{nth}
use Rattle.aud_code.specs.Places.{Spot}
use Rattle.aud_code.specs.Flat.{Flat}
use Rattle.aud_framed.specs.Waiting.{TaskFramed}
use Rattle.aud_framed.specs.Calls.{AreApart, EntryFits, IsEntryOf, RequeueFits, Serves, ServesIn, objects_in, with_served}
use Rattle.aud_framed.specs.Framed.{AllObjectsFit, IsFramed}
use Rattle.aud_framed.specs.StepsOfObjects.{ActionBegunLaw, ActionEndedLaw}
use Rattle.aud_framed.proofs.Stepping.Parts.{framed_at, task_framed}
use Rattle.aud_framed.proofs.Stepping.Refusing.{none_changed}

abbrev pub with_objects : List Object → All Spot → All Spot
with_objects objects c = record c { shared = record c.shared { objects = objects } }

abbrev pub object_at : ℕ → List Object → Object
object_at i objects = slice_index_or objects i no_object

abbrev pub changes_it : ℕ → Object → Bool
changes_it n o = any (λ (a : Action). nat_eq a.task n && not a.reading) o.actions

-- Objects of which the actions alone change, as far as a task counts on them.

abbrev pub KeepsActs : ℕ → Object → Object → Type 0
KeepsActs n o p = (acts_on n o ≡ true → acts_on n p ≡ true) × (changes_it n o ≡ true → changes_it n p ≡ true)

module _ (plan : Plan) (c : All Spot) (objects : List Object) (still : (i : ℕ) → i < length c.shared.objects → (i < length objects) × ((object_at i objects).display ≡ (object_of i c).display)) where
  abbrev pub EachKeeps : ℕ → List ℕ → Type 0
  EachKeeps n [] = Unit {0}
  EachKeeps n (i ∷ is) = KeepsActs n (object_of i c) (object_at i objects) × EachKeeps n is

  pub fits_still : (o : Owner) (entry : ℕ) → EntryFits plan c o entry → EntryFits plan (with_objects objects c) o entry
  fits_still (owner.Task m) entry h = h
  fits_still (owner.Object i) entry h = let k = still i h.0.1 in ((h.0.0, k.0), h.1 ∙ ap (λ ds. length ds) (sym k.1))

  pub entry_still : (o : Owner) (entry : ℕ) → IsEntryOf plan c o entry → IsEntryOf plan (with_objects objects c) o entry
  entry_still (owner.Task m) entry h = h
  entry_still (owner.Object i) entry h = (h.0, (still i h.1).0)

  serves_in : (n : ℕ) (os : List Opened) → EachKeeps n (objects_in os) → ServesIn plan c n os → ServesIn plan (with_objects objects c) n os
  serves_in n [] k h = tt
  serves_in n (o ∷ os) k h = by o.purpose k h (serves_in n os)
    where
      by : (p : Purpose) → EachKeeps n (objects_in (record o { purpose = p } ∷ os)) → ServesIn plan c n (record o { purpose = p } ∷ os) → (EachKeeps n (objects_in os) → ServesIn plan c n os → ServesIn plan (with_objects objects c) n os) → ServesIn plan (with_objects objects c) n (record o { purpose = p } ∷ os)
      by for_body k h on = (tt, on k h.1)
      by for_block k h on = (tt, on k h.1)
      by for_loop k h on = (tt, on k h.1)
      by (for_procedure r) k h on = (tt, on k h.1)
      by (for_operation m r) k h on = ((k.0.0 h.0.0, λ e. k.0.1 (h.0.1 e)), on k.1 h.1)
      by (for_entry m id served back) k h on = ((h.0.0, (k.0.1 h.0.1.0, h.0.1.1)), on k.1 h.1)
      by (for_accept id) k h on = (h.0, on k h.1)

  again_in : (r : Again) (os : List Opened) → RequeueFits plan c r os → RequeueFits plan (with_objects objects c) r os
  again_in r [] h = h
  again_in r (o ∷ os) h = by o.purpose h (again_in r os)
    where
      by : (p : Purpose) → RequeueFits plan c r (record o { purpose = p } ∷ os) → (RequeueFits plan c r os → RequeueFits plan (with_objects objects c) r os) → RequeueFits plan (with_objects objects c) r (record o { purpose = p } ∷ os)
      by for_body h on = h
      by for_block h on = on h
      by for_loop h on = on h
      by (for_procedure q) h on = h
      by (for_operation m q) h on = h
      by (for_entry m id served back) h on = h
      by (for_accept id) h on = fits_still r.owner r.entry h

  inner_keep : (n : ℕ) (s : Option Serving) (is : List ℕ) → EachKeeps n (with_served s is) → EachKeeps n is
  inner_keep n None is k = k
  inner_keep n (Some s) is k = k.1

  pub serves_objects : (n : ℕ) (own : Own) → EachKeeps n (with_served own.serving (objects_in own.opened)) → Serves plan c n own → Serves plan (with_objects objects c) n own
  serves_objects n own keeps s = record {
    opened = serves_in n own.opened (inner_keep n own.serving (objects_in own.opened) keeps) s.opened;
    calls = s.calls;
    objects = s.objects;
    serving = λ x e. let h = s.serving x e in let k = subst (λ o. EachKeeps n (with_served o (objects_in own.opened))) e keeps in (k.0.1 h.0, h.1);
    again = λ r e. let k = s.again r e in (again_in r own.opened k.0, k.1);
    restart = λ r e. let x = s.restart r e in record { served = x.served; form = x.form; entry = fits_still (owner.Object r.object) (call_of r.call c).entry x.entry; outside = x.outside; apart = x.apart };
    withdraw = λ o e. let h = s.withdraw o e in (h.0, (h.1.0, (h.1.1.0, (still o h.1.1.1).0)));
  }

-- One object's actions change.

changed_count : {A : Type 0} (n : ℕ) (f : A → A) (xs : List A) → length xs ≡ length (changed n f xs)
changed_count n f [] = refl
changed_count zero f (x ∷ xs) = refl
changed_count (suc n) f (x ∷ xs) = ap suc (changed_count n f xs)

-- any other is the same
changed_keeps : (P : Object → Object → Type 0) (n : ℕ) (f : Object → Object) (os : List Object) (i : ℕ) → ((o : Object) → P o o) → ((n ≡ i) → P (object_at i os) (f (object_at i os))) → P (object_at i os) (object_at i (changed n f os))
changed_keeps P n f [] i same h = same no_object
changed_keeps P zero f (o ∷ os) zero same h = h refl
changed_keeps P zero f (o ∷ os) (suc i) same h = same (object_at i os)
changed_keeps P (suc n) f (o ∷ os) zero same h = same o
changed_keeps P (suc n) f (o ∷ os) (suc i) same h = changed_keeps P n f os i same (λ e. h (ap suc e))

changed_each : (P : Object → Type 0) (n : ℕ) (f : Object → Object) (os : List Object) → ((i : ℕ) → P (object_at i os)) → (P (object_at n os) → P (f (object_at n os))) → (i : ℕ) → P (object_at i (changed n f os))
changed_each P n f [] h g i = h i
changed_each P zero f (o ∷ os) h g zero = g (h 0)
changed_each P zero f (o ∷ os) h g (suc i) = h (suc i)
changed_each P (suc n) f (o ∷ os) h g zero = h 0
changed_each P (suc n) f (o ∷ os) h g (suc i) = changed_each P n f os (λ j. h (suc j)) g i

abbrev with_actions : (List Action → List Action) → Object → Object
with_actions g o = record o { actions = g o.actions }

changed_fit : (plan : Plan) (n : ℕ) (g : List Action → List Action) (os : List Object) → AllObjectsFit plan os → AllObjectsFit plan (changed n (λ o. record o { actions = g o.actions }) os)
changed_fit plan n g [] h = tt
changed_fit plan zero g (o ∷ os) h = h
changed_fit plan (suc n) g (o ∷ os) h = (h.0, changed_fit plan n g os h.1)

-- they act on it by themselves, or together where all read
abbrev Alone : Object → Type 0
Alone o = (n m : ℕ) → acts_on n o ≡ true → acts_on m o ≡ true → (n ≡ m) ⊎ (any (λ (a : Action). not a.reading) o.actions ≡ false)

module _ (plan : Plan) (code : Flat) (seen : List ℕ) (object : ℕ) (g : List Action → List Action) (c : All Spot) where
  abbrev new : List Object
  new = changed object (λ o. record o { actions = g o.actions }) c.shared.objects

  pub still_there : (i : ℕ) → i < length c.shared.objects → (i < length (changed object (λ o. record o { actions = g o.actions }) c.shared.objects)) × ((object_at i (changed object (λ o. record o { actions = g o.actions }) c.shared.objects)).display ≡ (object_of i c).display)
  still_there i less = (
    subst (λ k. i < k) (changed_count object (λ o. record o { actions = g o.actions }) c.shared.objects) less,
    changed_keeps (λ o p. p.display ≡ o.display) object (λ o. record o { actions = g o.actions }) c.shared.objects i (λ o. refl) (λ e. refl),
  )

  -- where each task's actions stay on which it counts
  actions_framed : ((n : ℕ) → is_over (own_of n c).status ≡ false → EachKeeps plan c (changed object (λ o. record o { actions = g o.actions }) c.shared.objects) still_there n (with_served (own_of n c).serving (objects_in (own_of n c).opened))) → (Alone (object_of object c) → Alone (record (object_of object c) { actions = g (object_of object c).actions })) → IsFramed plan code seen c → IsFramed plan code seen (with_objects (changed object (λ o. record o { actions = g o.actions }) c.shared.objects) c)
  actions_framed keeps alone w = record {
    tasks = w.tasks;
    objects = changed_fit plan object g c.shared.objects w.objects;
    calls = w.calls;
    queued = λ i e. entry_still plan c (changed object (λ o. record o { actions = g o.actions }) c.shared.objects) still_there (call_of i c).owner (call_of i c).entry (w.queued i e);
    stays = w.stays;
    serves = λ n live. serves_objects plan c (changed object (λ o. record o { actions = g o.actions }) c.shared.objects) still_there n (own_of n c) (keeps n live) (w.serves n live);
    alone = λ i. changed_each (λ o. Alone o) object (λ o. record o { actions = g o.actions }) c.shared.objects w.alone alone i;
  }

  each_keeps : (n : ℕ) (is : List ℕ) → ((o : Object) → KeepsActs n o (record o { actions = g o.actions })) → EachKeeps plan c (changed object (λ o. record o { actions = g o.actions }) c.shared.objects) still_there n is
  each_keeps n [] h = tt
  each_keeps n (i ∷ is) h = (changed_keeps (λ o p. KeepsActs n o p) object (λ o. record o { actions = g o.actions }) c.shared.objects i (λ o. (λ e. e, λ e. e)) (λ e. h (object_of i c)), each_keeps n is h)

  others_keep : (n : ℕ) (is : List ℕ) → contains object is ≡ false → EachKeeps plan c (changed object (λ o. record o { actions = g o.actions }) c.shared.objects) still_there n is
  others_keep n [] e = tt
  others_keep n (i ∷ is) e = by (nat_eq object i) refl e (others_keep n is)
    where
      by : (b : Bool) → nat_eq object i ≡ b → b || contains object is ≡ false → (contains object is ≡ false → EachKeeps plan c (changed object (λ o. record o { actions = g o.actions }) c.shared.objects) still_there n is) → EachKeeps plan c (changed object (λ o. record o { actions = g o.actions }) c.shared.objects) still_there n (i ∷ is)
      by true q e on = absurd (true≢false e)
      by false q e on = (
        changed_keeps (λ o p. KeepsActs n o p) object (λ o. record o { actions = g o.actions }) c.shared.objects i (λ o. (λ e. e, λ e. e))
            (λ x. absurd (true≢false (sym (eq-eqb object i x) ∙ q))),
        on e,
      )

-- An action more.

any_more : (p : Action → Bool) (xs ys : List Action) → any p xs ≡ true → any p (xs ++ ys) ≡ true
any_more p [] ys h = absurd (false≢true h)
any_more p (x ∷ xs) ys h = by (p x) h (any_more p xs ys)
  where
    by : (b : Bool) → b || any p xs ≡ true → (any p xs ≡ true → any p (xs ++ ys) ≡ true) → b || any p (xs ++ ys) ≡ true
    by true h on = refl
    by false h on = on h

-- all are of the task
one_task : (n m : ℕ) (last : Action) (xs : List Action) → last.task ≡ n → any (λ (a : Action). not (nat_eq a.task n) && not (false && a.reading)) xs ≡ false → any (λ (a : Action). nat_eq a.task m) (xs ++ last ∷ []) ≡ true → m ≡ n
one_task n m last [] e h k = by (nat_eq last.task m) refl k
  where
    by : (b : Bool) → nat_eq last.task m ≡ b → b || false ≡ true → m ≡ n
    by true q k = sym (eqb-true last.task m q) ∙ e
    by false q k = absurd (false≢true k)
one_task n m last (x ∷ xs) e h k = by (nat_eq x.task n) (nat_eq x.task m) refl refl h k (one_task n m last xs e)
  where
    by : (b d : Bool) → nat_eq x.task n ≡ b → nat_eq x.task m ≡ d → (not b && true) || any (λ (a : Action). not (nat_eq a.task n) && not (false && a.reading)) xs ≡ false → d || any (λ (a : Action). nat_eq a.task m) (xs ++ last ∷ []) ≡ true → (any (λ (a : Action). not (nat_eq a.task n) && not (false && a.reading)) xs ≡ false → any (λ (a : Action). nat_eq a.task m) (xs ++ last ∷ []) ≡ true → m ≡ n) → m ≡ n
    by false d q r h k on = absurd (true≢false h)
    by true true q r h k on = sym (eqb-true x.task m r) ∙ eqb-true x.task n q
    by true false q r h k on = on h k

-- all read
all_read : (n : ℕ) (last : Action) (xs : List Action) → last.reading ≡ true → any (λ (a : Action). not (nat_eq a.task n) && not (true && a.reading)) xs ≡ false → any (λ (a : Action). nat_eq a.task n) xs ≡ false → any (λ (a : Action). not a.reading) (xs ++ last ∷ []) ≡ false
all_read n last [] e h k = ap (λ b. not b || false) e
all_read n last (x ∷ xs) e h k = by (nat_eq x.task n) x.reading h k (all_read n last xs e)
  where
    by : (b r : Bool) → (not b && not (true && r)) || any (λ (a : Action). not (nat_eq a.task n) && not (true && a.reading)) xs ≡ false → b || any (λ (a : Action). nat_eq a.task n) xs ≡ false → (any (λ (a : Action). not (nat_eq a.task n) && not (true && a.reading)) xs ≡ false → any (λ (a : Action). nat_eq a.task n) xs ≡ false → any (λ (a : Action). not a.reading) (xs ++ last ∷ []) ≡ false) → not r || any (λ (a : Action). not a.reading) (xs ++ last ∷ []) ≡ false
    by true r h k on = absurd (true≢false k)
    by false true h k on = on h k
    by false false h k on = absurd (true≢false h)

alone_more : (n : ℕ) (reading : Bool) (o : Object) → in_the_way n reading o ≡ false → (reading ≡ true → acts_on n o ≡ false) → Alone (record o { actions = o.actions ++ record { task = n; reading = reading } ∷ [] })
alone_more n false o h k m i a b = inl (one_task n m (record { task = n; reading = false }) o.actions refl h a ∙ sym (one_task n i (record { task = n; reading = false }) o.actions refl h b))
alone_more n true o h k m i a b = inr (all_read n (record { task = n; reading = true }) o.actions refl h (k refl))

pub action_begun : ActionBegunLaw
action_begun plan code seen n object reading c free apart w =
    actions_framed plan code seen object (λ xs. xs ++ record { task = n; reading = reading } ∷ []) c
    (λ m live.
    each_keeps plan code seen object (λ xs. xs ++ record { task = n; reading = reading } ∷ []) c m (with_served (own_of m c).serving (objects_in (own_of m c).opened))
    (λ o. (any_more (λ (a : Action). nat_eq a.task m) o.actions (record { task = n; reading = reading } ∷ []), any_more (λ (a : Action). nat_eq a.task m && not a.reading) o.actions (record { task = n; reading = reading } ∷ []))))
    (λ h. alone_more n reading (object_of object c) free apart) w

-- A task's actions less.

or_on : (d e f : Bool) → d || e ≡ true → (e ≡ true → f ≡ true) → d || f ≡ true
or_on true e f h on = refl
or_on false e f h on = on h

or_right : (d f : Bool) → f ≡ true → d || f ≡ true
or_right true f h = refl
or_right false f h = h

any_left : (p q : Action → Bool) (xs : List Action) → any p (filter q xs) ≡ true → any p xs ≡ true
any_left p q [] h = h
any_left p q (x ∷ xs) h = by (q x) h (any_left p q xs)
  where
    by : (b : Bool) → any p (if b then x ∷ filter q xs else filter q xs) ≡ true → (any p (filter q xs) ≡ true → any p xs ≡ true) → p x || any p xs ≡ true
    by true h on = or_on (p x) (any p (filter q xs)) (any p xs) h on
    by false h on = or_right (p x) (any p xs) (on h)

any_kept : (p q : Action → Bool) (xs : List Action) → ((a : Action) → p a ≡ true → q a ≡ true) → any p xs ≡ true → any p (filter q xs) ≡ true
any_kept p q [] k h = h
any_kept p q (x ∷ xs) k h = by (q x) refl h (any_kept p q xs k)
  where
    skip : (d : Bool) → p x ≡ d → q x ≡ false → d || any p xs ≡ true → any p xs ≡ true
    skip true e lost h = absurd (true≢false (sym (k x e) ∙ lost))
    skip false e lost h = h

    by : (b : Bool) → q x ≡ b → p x || any p xs ≡ true → (any p xs ≡ true → any p (filter q xs) ≡ true) → any p (if b then x ∷ filter q xs else filter q xs) ≡ true
    by true e h on = or_on (p x) (any p xs) (any p (filter q xs)) h on
    by false e h on = on (skip (p x) refl e h)

none_left : (p q : Action → Bool) (xs : List Action) → any p xs ≡ false → any p (filter q xs) ≡ false
none_left p q xs h = by (any p (filter q xs)) refl
  where
    by : (b : Bool) → any p (filter q xs) ≡ b → b ≡ false
    by true e = absurd (true≢false (sym (any_left p q xs e) ∙ h))
    by false e = refl

alone_less : (q : Action → Bool) (o : Object) → Alone o → Alone (record o { actions = filter q o.actions })
alone_less q o h n m a b = by (h n m (any_left (λ (x : Action). nat_eq x.task n) q o.actions a) (any_left (λ (x : Action). nat_eq x.task m) q o.actions b))
  where
    by : (n ≡ m) ⊎ (any (λ (x : Action). not x.reading) o.actions ≡ false) → (n ≡ m) ⊎ (any (λ (x : Action). not x.reading) (filter q o.actions) ≡ false)
    by (inl e) = inl e
    by (inr e) = inr (none_left (λ (x : Action). not x.reading) q o.actions e)

others : (n m : ℕ) → nat_eq m n ≡ false → (a : Action) → nat_eq a.task m ≡ true → not (nat_eq a.task n) ≡ true
others n m differs a h = by (nat_eq a.task n) refl
  where
    by : (b : Bool) → nat_eq a.task n ≡ b → not b ≡ true
    by true e = absurd (true≢false (sym (eq-eqb m n (sym (eqb-true a.task m h) ∙ eqb-true a.task n e)) ∙ differs))
    by false e = refl

and_left : (b d : Bool) → b && d ≡ true → b ≡ true
and_left true d h = refl
and_left false d h = h

-- what is said of a task that has changed
pub own_after : (Q : Own → Type 0) (n : ℕ) (f : Own → Own) (ts : List (TaskAt Spot)) → Q nobody → Q (f (nth n ts)) → Q (nth n (changed n (λ (t : TaskAt Spot). record t { own = f t.own }) ts))
own_after Q n f [] none h = none
own_after Q zero f (t ∷ ts) none h = h
own_after Q (suc n) f (t ∷ ts) none h = own_after Q n f ts none h

-- a task that serves no object is as it was else
unserving_framed : (plan : Plan) (code : Flat) (seen : List ℕ) (n : ℕ) (c : All Spot) → IsFramed plan code seen c → IsFramed plan code seen (on_own n (λ own. record own { serving = None }) c)
unserving_framed plan code seen n c w = by (slice_get c.tasks n) refl
  where
    still : (s : Status) (t : TaskAt Spot) → TaskFramed plan code seen s t → TaskFramed plan code seen s (record t { own = record t.own { serving = None } })
    still Created t h = record { place = h.place; display = h.display; opened = h.opened; none = h.none }
    still Running t h = h
    still Activating t h = h
    still Accepting t h = h
    still Delaying t h = h
    still Calling t h = h
    still Completed t h = h
    still Terminated t h = h

    inner : (s : Option Serving) (is : List ℕ) → AreApart (with_served s is) → AreApart is
    inner None is h = h
    inner (Some s) is h = h.1

    by : (o : Option (TaskAt Spot)) → slice_get c.tasks n ≡ o → IsFramed plan code seen (on_own n (λ own. record own { serving = None }) c)
    by None e = subst (λ ts. IsFramed plan code seen (record c { tasks = ts })) (sym (none_changed n (λ t. record t { own = record t.own { serving = None } }) c.tasks e)) w
    by (Some t) e =
        task_framed plan code seen n (λ t. record t { own = record t.own { serving = None } }) c t e (still t.own.status t (framed_at plan code seen n c.tasks t e w.tasks))
        (record {
          live = λ h. h;
          waits = λ id live mine h. h;
          serves = λ live s. record {
            opened = s.opened;
            calls = s.calls;
            objects = inner t.own.serving (objects_in t.own.opened) s.objects;
            serving = λ x q. absurd cc;
            again = λ r q. let k = s.again r q in (k.0, (k.1.0, (refl, k.1.1.1)));
            restart = λ r q. let x = s.restart r q in record { served = x.served; form = x.form; entry = x.entry; outside = x.outside; apart = (refl, x.apart.1) };
            withdraw = s.withdraw;
          };
          abnormal = λ h. h;
        }) w

module _ (plan : Plan) (code : Flat) (seen : List ℕ) (n object : ℕ) (c : All Spot) (outside : contains object (objects_in (own_of n c).opened) ≡ false) where
  abbrev d : All Spot
  d = on_own n (λ own. record own { serving = None }) c

  abbrev others_only : List Action → List Action
  others_only xs = filter (λ (a : Action). not (nat_eq a.task n)) xs

  abbrev EachStays : ℕ → List ℕ → Type 0
  EachStays m is = EachKeeps plan d (changed object (λ o. record o { actions = others_only o.actions }) c.shared.objects) (still_there plan code seen object others_only d) m is

  mine_stay : (m : ℕ) → EachStays m (with_served (own_of n d).serving (objects_in (own_of n d).opened))
  mine_stay m =
      others_keep plan code seen object others_only d m (with_served (own_of n d).serving (objects_in (own_of n d).opened))
      (own_after (λ own. contains object (with_served own.serving (objects_in own.opened)) ≡ false) n (λ own. record own { serving = None }) c.tasks refl outside)

  all_stay : (m : ℕ) → EachStays m (with_served (own_of m d).serving (objects_in (own_of m d).opened))
  all_stay m = by (nat_eq m n) refl
    where
      by : (b : Bool) → nat_eq m n ≡ b → EachStays m (with_served (own_of m d).serving (objects_in (own_of m d).opened))
      by true e = subst (λ k. EachStays m (with_served (own_of k d).serving (objects_in (own_of k d).opened))) (sym (eqb-true m n e)) (mine_stay m)
      by false e =
          each_keeps plan code seen object others_only d m (with_served (own_of m d).serving (objects_in (own_of m d).opened))
          (λ o. (
            any_kept (λ (a : Action). nat_eq a.task m) (λ (a : Action). not (nat_eq a.task n)) o.actions (others n m e),
            any_kept (λ (a : Action). nat_eq a.task m && not a.reading) (λ (a : Action). not (nat_eq a.task n)) o.actions (λ a h. others n m e a (and_left (nat_eq a.task m) (not a.reading) h)),
          ))

pub action_ended : ActionEndedLaw
action_ended plan code seen n object c outside w =
    actions_framed plan code seen object (others_only plan code seen n object c outside) (d plan code seen n object c outside) (λ m live. all_stay plan code seen n object c outside m)
    (alone_less (λ (a : Action). not (nat_eq a.task n)) (object_of object c)) (unserving_framed plan code seen n c w)

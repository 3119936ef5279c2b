-- A task that has an object for itself: who calls the object waits, and nobody else serves its calls.
use Rattle.std.proofs.Common.{◌≡◌, ◌⊎◌, ◌≤◌, ℕ, suc, List, [], ◌∷◌, Option, Some, None, Bool, true, false, refl, sym, ap, ◌∙◌, subst, inl, inr, arith}
use Rattle.std.proofs.lemmas.Bool.{and_parts, eq-eqb, eqb-true, true≢false, false≢true}
use Rattle.std.specs.Prelude.{◌&&◌, ◌||◌, nat_eq, not}
use Rattle.aud_text.specs.declared.raise.Raise.{Raise}
use Rattle.aud_typed.specs.declared.program.Exception.{Exception}
use Rattle.aud_typed.specs.declared.program.Exception.TheVariants.{Predefined}
use Rattle.aud_typed.specs.Tree.{Plan}
use Rattle.aud_meaning.specs.declared.state.Action.{Action}
use Rattle.aud_meaning.specs.declared.state.CallState.TheVariants.{Queued, Done}
use Rattle.aud_meaning.specs.declared.state.Owner.{Owner}
use Rattle.aud_meaning.specs.declared.state.Owner.TheVariants as owner
use Rattle.aud_meaning.specs.declared.state.Restart.{Restart}
use Rattle.aud_meaning.specs.declared.state.Status.TheVariants.{Calling}
use Rattle.aud_meaning.specs.Configuration.{Purpose, for_body, for_block, for_loop, for_procedure, for_operation, for_entry, for_accept, Opened, Call, All}
use Rattle.aud_meaning.specs.Effects.{pends}
use Rattle.aud_meaning.specs.Parts.{acts_on, any, call_of, calls_on_object, changed, contains, fails, is_object, is_over, is_queued, object_of, own_of, owner_number, runs}
use Rattle.aud_meaning.specs.Tasks as effect
use Rattle.aud_meaning.proofs.Open.Tasks.{call_at}
use Rattle.aud_code.specs.Places.{Spot}
use Rattle.aud_code.specs.Flat.{Flat, flat_controls}
use Rattle.aud_code.specs.Seen.{IsSeen}
use Rattle.aud_code.specs.Sound.{Counts, IsSound}
use Rattle.aud_over.specs.Over.{is_call_over}
use Rattle.aud_framed.specs.Calls.{ServesIn, Waits, WithinEntry, calls_in, changes, objects_in, with_restarted}
use Rattle.aud_framed.specs.Framed.{IsFramed}
use Rattle.aud_framed.specs.Stepping.{HasWays}
use Rattle.aud_framed.proofs.Stepping.Calls.{IsUnserved, other_call, queued_live, served_by, unserved_queued}
use Rattle.aud_framed.proofs.Stepping.Delays.{changing_acts}
use Rattle.aud_framed.proofs.Stepping.Ending.{Good, end_call_good}
use Rattle.aud_framed.proofs.Stepping.Parts.{changed_own}
use Rattle.aud_framed.proofs.Stepping.Refusing.{EachPasses, RiseFrom, calls_found, is_it_queued, orders, passes_from, rises}

-- who changes an object doesn't read only
changes_writes : (n : ℕ) (xs : List Action) → any (λ (a : Action). nat_eq a.task n && not a.reading) xs ≡ true → any (λ (a : Action). not a.reading) xs ≡ true
changes_writes n [] h = h
changes_writes n (x ∷ xs) h = by (nat_eq x.task n) (not x.reading) h (changes_writes n xs)
  where
    by : (b r : Bool) → (b && r) || any (λ (a : Action). nat_eq a.task n && not a.reading) xs ≡ true → (any (λ (a : Action). nat_eq a.task n && not a.reading) xs ≡ true → any (λ (a : Action). not a.reading) xs ≡ true) → r || any (λ (a : Action). not a.reading) xs ≡ true
    by true true h on = refl
    by true false h on = on h
    by false true h on = refl
    by false false h on = on h

found_in : (n m : ℕ) (ms : List ℕ) → contains n ms ≡ true → contains n (m ∷ ms) ≡ true
found_in n m ms h = by (nat_eq n m)
  where
    by : (b : Bool) → b || contains n ms ≡ true
    by true = refl
    by false = h

first_found : (n : ℕ) (ms : List ℕ) → contains n (n ∷ ms) ≡ true
first_found n ms = ap (λ b. b || contains n ms) (eq-eqb n n refl)

neither : (a b : Bool) → a ≡ false → b ≡ false → a || b ≡ false
neither false b h k = k
neither true b h k = h

same_number : (o p : Owner) → o ≡ p → owner_number o ≡ owner_number p
same_number o p e = ap (λ x. owner_number x) e

module _ (plan : Plan) (code : Flat) (seen : List ℕ) (c : All Spot) (w : IsFramed plan code seen c) where
  -- nobody else acts on it
  pub only_one : (n m object : ℕ) → changes plan c n object ≡ true → acts_on m (object_of object c) ≡ true → n ≡ m
  only_one n m object h k = by (w.alone object n m (changing_acts n (object_of object c).actions h) k)
    where
      by : (n ≡ m) ⊎ (any (λ (a : Action). not a.reading) (object_of object c).actions ≡ false) → n ≡ m
      by (inl e) = e
      by (inr e) = absurd (true≢false (sym (changes_writes n (object_of object c).actions h) ∙ e))

-- who does an entry's body of an object acts on it
within_changes : (plan : Plan) (c : All Spot) (n object : ℕ) (os : List Opened) → ServesIn plan c n os → WithinEntry (owner.Object object) os → (changes plan c n object ≡ true) × (contains object (objects_in os) ≡ true)
within_changes plan c n object [] s h = absurd h
within_changes plan c n object (o ∷ os) s h = by o.purpose s h (within_changes plan c n object os)
  where
    by : (p : Purpose) → ServesIn plan c n (record o { purpose = p } ∷ os) → WithinEntry (owner.Object object) (record o { purpose = p } ∷ os) → (ServesIn plan c n os → WithinEntry (owner.Object object) os → (changes plan c n object ≡ true) × (contains object (objects_in os) ≡ true)) → (changes plan c n object ≡ true) × (contains object (objects_in (record o { purpose = p } ∷ os)) ≡ true)
    by for_body s h on = on s.1 h
    by for_block s h on = on s.1 h
    by for_loop s h on = on s.1 h
    by (for_procedure r) s h on = on s.1 h
    by (for_operation m r) s h on = let k = on s.1 h in (k.0, found_in object m (objects_in os) k.1)
    by (for_entry m id served back) s (inl h) on =
        let e : object ≡ m = same_number (owner.Object object) (owner.Object m) h.0 in
        (subst (λ i. changes plan c n i ≡ true) (sym e) s.0.1.0, subst (λ i. contains object (i ∷ objects_in os) ≡ true) e (first_found object (objects_in os)))
    by (for_entry m id served back) s (inr h) on = let k = on s.1 h in (k.0, found_in object m (objects_in os) k.1)
    by (for_accept id) s h on = on s.1 h

-- a task is in no body of an object on which it doesn't act
pub not_inside : (plan : Plan) (c : All Spot) (n object : ℕ) (os : List Opened) → acts_on n (object_of object c) ≡ false → ServesIn plan c n os → contains object (objects_in os) ≡ false
not_inside plan c n object [] free s = refl
not_inside plan c n object (o ∷ os) free s = by o.purpose s (not_inside plan c n object os free)
  where
    other : (m : ℕ) → acts_on n (object_of m c) ≡ true → nat_eq object m ≡ false
    other m h = on (nat_eq object m) refl
      where
        on : (b : Bool) → nat_eq object m ≡ b → b ≡ false
        on true e = absurd (true≢false (sym h ∙ subst (λ i. acts_on n (object_of i c) ≡ false) (eqb-true object m e) free))
        on false e = refl

    by : (p : Purpose) → ServesIn plan c n (record o { purpose = p } ∷ os) → (ServesIn plan c n os → contains object (objects_in os) ≡ false) → contains object (objects_in (record o { purpose = p } ∷ os)) ≡ false
    by for_body s on = on s.1
    by for_block s on = on s.1
    by for_loop s on = on s.1
    by (for_procedure r) s on = on s.1
    by (for_operation m r) s on = neither (nat_eq object m) _ (other m s.0.0) (on s.1)
    by (for_entry m id served back) s on = neither (nat_eq object m) _ (other m (changing_acts n (object_of m c).actions s.0.1.0)) (on s.1)
    by (for_accept id) s on = on s.1

-- A task that acts on an object, and is in none of its bodies.

pub record HasObject (plan : Plan) (n object : ℕ) (c : All Spot) : Type 0 where
  pub acts : changes plan c n object ≡ true
  pub outside : contains object (objects_in (own_of n c).opened) ≡ false

module _ (plan : Plan) (code : Flat) (seen : List ℕ) (n object id : ℕ) (c : All Spot) (w : IsFramed plan code seen c) (holds : HasObject plan n object c) (its : (call_of id c).owner ≡ owner.Object object) where
  -- who called it waits
  pub caller_waits : is_call_over (call_of id c).state ≡ false → (own_of (call_of id c).caller c).status ≡ Calling
  caller_waits live = by (subst (λ o. Waits o (own_of (call_of id c).caller c)) its (w.calls id live).1)
    where
      m : ℕ
      m = (call_of id c).caller

      inside : is_over (own_of (call_of id c).caller c).status ≡ false → WithinEntry (owner.Object object) (own_of (call_of id c).caller c).opened → (own_of (call_of id c).caller c).status ≡ Calling
      inside alive h =
          let k = within_changes plan c (call_of id c).caller object (own_of (call_of id c).caller c).opened (w.serves (call_of id c).caller alive).opened h in
          let e : n ≡ (call_of id c).caller = only_one plan code seen c w n (call_of id c).caller object holds.acts (changing_acts (call_of id c).caller (object_of object c).actions k.0) in
          absurd (true≢false (sym k.1 ∙ subst (λ i. contains object (objects_in (own_of i c).opened) ≡ false) e holds.outside))

      by : Waits (owner.Object object) (own_of (call_of id c).caller c) → (own_of (call_of id c).caller c).status ≡ Calling
      by (inl h) = h
      by (inr (inl h, k)) = inside (ap is_over h) k
      by (inr (inr h, k)) = inside (ap is_over h) k

  -- nobody else serves it
  others_free : (m : ℕ) (os : List Opened) → (n ≡ m → ⊥) → ServesIn plan c m os → contains id (calls_in os) ≡ false
  others_free m [] differs s = refl
  others_free m (o ∷ os) differs s = by o.purpose s (others_free m os differs)
    where
      other : (i : ℕ) (q : Owner) → (call_of i c).owner ≡ q → ((call_of id c).owner ≡ q → ⊥) → nat_eq id i ≡ false
      other i q e wrong = on (nat_eq id i) refl
        where
          on : (b : Bool) → nat_eq id i ≡ b → b ≡ false
          on true x = absurd (wrong (ap (λ j. (call_of j c).owner) (eqb-true id i x) ∙ e))
          on false x = refl

      by : (p : Purpose) → ServesIn plan c m (record o { purpose = p } ∷ os) → (ServesIn plan c m os → contains id (calls_in os) ≡ false) → contains id (calls_in (record o { purpose = p } ∷ os)) ≡ false
      by for_body s on = on s.1
      by for_block s on = on s.1
      by for_loop s on = on s.1
      by (for_procedure r) s on = on s.1
      by (for_operation i r) s on = on s.1
      by (for_entry i k served back) s on =
          neither (nat_eq id k) _
          (other k (owner.Object i) s.0.0.1
          (λ e.
          let same : object ≡ i = same_number (owner.Object object) (owner.Object i) (sym its ∙ e) in
          differs (only_one plan code seen c w n m object holds.acts (subst (λ j. acts_on m (object_of j c) ≡ true) (sym same) (changing_acts m (object_of i c).actions s.0.1.0)))))
          (on s.1)
      by (for_accept k) s on = neither (nat_eq id k) _ (other k (owner.Task m) s.0.0.1 (λ e. let wrong : owner.Object object ≡ owner.Task m = sym its ∙ e in absurd cc)) (on s.1)

  -- so nobody does whom it is not served by
  pub nobody_serves : (is_over (own_of n c).status ≡ false → contains id (served_by (own_of n c)) ≡ false) → IsUnserved id c
  nobody_serves mine m alive = by (nat_eq n m) refl
    where
      made : (r : Option Restart) → (own_of m c).restart ≡ r → contains id (calls_in (own_of m c).opened) ≡ false → contains id (with_restarted r (calls_in (own_of m c).opened)) ≡ false
      made None e h = h
      made (Some r) e h = neither (nat_eq id r.call) _ (on (nat_eq id r.call) refl) h
        where
          on : (b : Bool) → nat_eq id r.call ≡ b → b ≡ false
          on true x = let wrong : owner.Object object ≡ owner.Task m = sym its ∙ (ap (λ j. (call_of j c).owner) (eqb-true id r.call x) ∙ ((w.serves m alive).restart r e).served.1) in absurd cc
          on false x = refl

      by : (b : Bool) → nat_eq n m ≡ b → contains id (served_by (own_of m c)) ≡ false
      by true e = let same : n ≡ m = eqb-true n m e in subst (λ i. contains id (served_by (own_of i c)) ≡ false) same (mine (subst (λ i. is_over (own_of i c).status ≡ false) (sym same) alive))
      by false e = made (own_of m c).restart refl (others_free m (own_of m c).opened (λ x. true≢false (sym (eq-eqb n m x) ∙ e)) (w.serves m alive).opened)

-- The calls that are queued on it.

abbrev QueuedOn : ℕ → All Spot → List ℕ → Type 0
QueuedOn object c [] = Unit {0}
QueuedOn object c (id ∷ ids) = ((call_of id c).state ≡ Queued) × ((call_of id c).owner ≡ owner.Object object) × QueuedOn object c ids

its_object : (n : ℕ) (o : Owner) → is_object n o ≡ true → o ≡ owner.Object n
its_object n (owner.Task m) h = absurd (false≢true h)
its_object n (owner.Object m) h = ap (λ k. owner.Object k) (sym (eqb-true n m h))

queued_on : (n : ℕ) (c : All Spot) (ids : List ℕ) → EachPasses (λ (a : Call). is_queued a.state && is_object n a.owner) (λ i. call_of i c) ids → QueuedOn n c ids
queued_on n c [] h = tt
queued_on n c (id ∷ ids) h =
    let both = and_parts (is_queued (call_of id c).state) (is_object n (call_of id c).owner) h.0 in
    (is_it_queued (call_of id c).state both.0, its_object n (call_of id c).owner both.1, queued_on n c ids h.1)

module _ (plan : Plan) (code : Flat) (table : List Counts) (tasks barriers seen : List ℕ) (sound : IsSound code) (fits : IsSeen code table tasks barriers seen) (ways : HasWays code) (n object : ℕ) where
  -- all that is kept while it has the object
  pub record Held (c : All Spot) : Type 0 where
    pub good : Good plan code table tasks barriers seen sound fits ways c
    pub holds : HasObject plan n object c

  pub failed_holds : (x : Exception) (id : ℕ) (c : All Spot) → HasObject plan n object c → HasObject plan n object (effect.end_call (orders plan code table tasks barriers seen sound fits ways) plan (flat_controls plan code).barrier (fails x) id c)
  failed_holds x id c h = record {
    acts = h.acts;
    outside =
        changed_own (λ i own. i ≡ n → contains object (objects_in own.opened) ≡ false) (call_of id c).caller (λ t. record t { own = pends x (call_of id c).at (runs t.own) }) c.tasks (λ t e k. k) n (λ e. h.outside) refl;
  }

  later : (x : Exception) (id k : ℕ) (c : All Spot) (ids : List ℕ) → suc id ≤ k → RiseFrom k ids → QueuedOn object c ids → QueuedOn object (effect.end_call (orders plan code table tasks barriers seen sound fits ways) plan (flat_controls plan code).barrier (fails x) id c) ids
  later x id k c [] less r h = tt
  later x id k c (i ∷ is) less r h =
      let a = r.0 in
      let same : call_at i (changed id (λ (b : Call). record b { state = Done }) c.shared.calls) ≡ call_of i c = other_call id i (λ b. record b { state = Done }) c.shared.calls (λ e. absurd (omega (arith, e, a, less))) in
      let more : suc id ≤ suc i = omega (arith, a, less) in
      (ap (λ (b : Call). b.state) same ∙ h.0, ap (λ (b : Call). b.owner) same ∙ h.1, later x id (suc i) c is more r.1 h.2)

  refused : (raise : Raise) (m : ℕ) (ids : List ℕ) (c : All Spot) → Held c → RiseFrom m ids → QueuedOn object c ids → Held (effect.refuse (orders plan code table tasks barriers seen sound fits ways) plan (flat_controls plan code).barrier raise ids c)
  refused raise m [] c w r h = w
  refused raise m (id ∷ ids) c w r h =
      refused raise (suc id) ids _
      (record {
        good =
            end_call_good plan code table tasks barriers seen sound fits ways (fails (Predefined raise)) id c w.good (queued_live (call_of id c).state h.0)
            (λ k alive. unserved_queued plan c k id (own_of k c) h.0 (w.good.framed.serves k alive))
            (caller_waits plan code seen n object id c w.good.framed w.holds h.1 (queued_live (call_of id c).state h.0));
        holds = failed_holds (Predefined raise) id c w.holds;
      }) r.1 (later (Predefined raise) id (suc id) c ids (omega arith) r.1 h.2)

  -- all of them are refused
  pub object_refused : (raise : Raise) (c : All Spot) → Held c → Held (effect.refuse (orders plan code table tasks barriers seen sound fits ways) plan (flat_controls plan code).barrier raise (calls_on_object object c.shared.calls) c)
  object_refused raise c w =
      let p : Call → Bool = (λ (a : Call). is_queued a.state && is_object object a.owner) in
      refused raise 0 (calls_on_object object c.shared.calls) c w (rises p 0 c.shared.calls) (queued_on object c (calls_on_object object c.shared.calls) (passes_from p 0 c.shared.calls (λ i. call_of i c) (calls_found c.shared.calls)))

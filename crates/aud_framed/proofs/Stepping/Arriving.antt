-- Calls that are made, and those that arrive on a queue.
use Rattle.std.proofs.Common.{◌≡◌, ◌⊎◌, ℕ, zero, suc, List, [], ◌∷◌, ◌++◌, ◌<◌, arith, length, length-append, Option, Some, None, Bool, true, false, refl, sym, ap, ◌∙◌, subst, inl, inr}
use Rattle.std.proofs.lemmas.Bool.{eqb-true}
use Rattle.std.specs.Prelude.{nat_eq}
use Rattle.aud_typed.specs.Tree.{Plan}
use Rattle.aud_meaning.specs.declared.state.CallState.TheVariants.{Queued, Selected, Done}
use Rattle.aud_meaning.specs.declared.state.Owner.{Owner}
use Rattle.aud_meaning.specs.declared.state.Owner.TheVariants as owner
use Rattle.aud_meaning.specs.declared.state.Restart.{Restart}
use Rattle.aud_meaning.specs.declared.state.Status.TheVariants.{Running, Calling}
use Rattle.aud_meaning.specs.Configuration.{Purpose, for_body, for_block, for_loop, for_procedure, for_operation, for_entry, for_accept, Opened, Own, Call, All}
use Rattle.aud_meaning.specs.Parts.{arrives, call_of, changed, contains, new_call, on_call, own_of}
use Rattle.aud_meaning.proofs.Open.Tasks.{call_at}
use Rattle.aud_code.specs.Places.{Spot}
use Rattle.aud_code.specs.Flat.{Flat}
use Rattle.aud_over.specs.Over.{is_call_over}
use Rattle.aud_framed.specs.Calls.{CallerWaits, CallsOn, EntryFits, IsAgain, IsPast, objects_in, IsEntryOf, Serves, ServesIn, Waits, calls_in, with_restarted}
use Rattle.aud_framed.specs.Framed.{IsFramed}
use Rattle.aud_framed.proofs.Stepping.Calls.{IsUnserved, again_in, counted, neither, others_same, served_by, serves_calls, with_calls}
use Rattle.aud_framed.proofs.Stepping.Parts.{like_framed}
use Rattle.aud_framed.proofs.Stepping.Selecting.{field_same, live_before}

-- One more call.

more_call : (i : ℕ) (calls : List Call) (x : Call) → (call_at i (calls ++ x ∷ []) ≡ call_at i calls) ⊎ ((i ≡ length calls) × (call_at i (calls ++ x ∷ []) ≡ x))
more_call zero [] x = inr (refl, refl)
more_call (suc i) [] x = inl refl
more_call zero (a ∷ more) x = inl refl
more_call (suc i) (a ∷ more) x = by (more_call i more x)
  where
    by : (call_at i (more ++ x ∷ []) ≡ call_at i more) ⊎ ((i ≡ length more) × (call_at i (more ++ x ∷ []) ≡ x)) → (call_at (suc i) (a ∷ more ++ x ∷ []) ≡ call_at (suc i) (a ∷ more)) ⊎ ((suc i ≡ suc (length more)) × (call_at (suc i) (a ∷ more ++ x ∷ []) ≡ x))
    by (inl e) = inl e
    by (inr e) = inr (ap suc e.0, e.1)

pub none_there : (calls : List Call) → (call_at (length calls) calls).state ≡ Done
none_there [] = refl
none_there (a ∷ more) = none_there more

served_still : (i : ℕ) (calls : List Call) (x : Call) → (call_at i calls).state ≡ Selected → call_at i (calls ++ x ∷ []) ≡ call_at i calls
served_still i [] x h = absurd cc
served_still zero (a ∷ more) x h = refl
served_still (suc i) (a ∷ more) x h = served_still i more x h

-- What a task serves is selected, and is its own or an object's.
module _ (plan : Plan) (c : All Spot) (n : ℕ) (P : List ℕ → Type 0) (none : P []) (more : (i : ℕ) (ns : List ℕ) → (call_of i c).state ≡ Selected → ((call_of i c).owner ≡ owner.Task n) ⊎ ((m : ℕ) × ((call_of i c).owner ≡ owner.Object m)) → P ns → P (i ∷ ns)) where
  each_opened : (os : List Opened) → ServesIn plan c n os → P (calls_in os)
  each_opened [] h = none
  each_opened (o ∷ os) h = by o.purpose h (each_opened os)
    where
      by : (p : Purpose) → ServesIn plan c n (record o { purpose = p } ∷ os) → (ServesIn plan c n os → P (calls_in os)) → P (calls_in (record o { purpose = p } ∷ os))
      by for_body h on = on h.1
      by for_block h on = on h.1
      by for_loop h on = on h.1
      by (for_procedure r) h on = on h.1
      by (for_operation m r) h on = on h.1
      by (for_entry m i served back) h on = more i (calls_in os) h.0.0.0 (inr (m, h.0.0.1)) (on h.1)
      by (for_accept i) h on = more i (calls_in os) h.0.0.0 (inl h.0.0.1) (on h.1)

  each_served : (own : Own) → Serves plan c n own → P (served_by own)
  each_served own s = by own.restart refl
    where
      by : (r : Option Restart) → own.restart ≡ r → P (with_restarted r (calls_in own.opened))
      by None e = each_opened own.opened s.opened
      by (Some r) e =
          let y = (s.restart r e).served in
          more r.call (calls_in own.opened) y.0 (inl y.1) (each_opened own.opened s.opened)

not_equal : (id i : ℕ) → (id ≡ i → ⊥) → nat_eq id i ≡ false
not_equal id i differs = by (nat_eq id i) refl
  where
    by : (b : Bool) → nat_eq id i ≡ b → b ≡ false
    by true e = absurd (differs (eqb-true id i e))
    by false e = refl

pub unserved_other : (plan : Plan) (c : All Spot) (n id : ℕ) (own : Own) → ((call_of id c).state ≡ Selected → ⊥) → Serves plan c n own → contains id (served_by own) ≡ false
unserved_other plan c n id own other s =
    each_served plan c n (λ ns. contains id ns ≡ false) refl
    (λ i ns selected its h. neither (nat_eq id i) (contains id ns) (not_equal id i (λ e. other (ap (λ j. (call_of j c).state) e ∙ selected))) h) own s

-- one task serves a call of its own
pub unserved_elsewhere : (plan : Plan) (c : All Spot) (m n id : ℕ) (own : Own) → (call_of id c).owner ≡ owner.Task n → (n ≡ m → ⊥) → Serves plan c m own → contains id (served_by own) ≡ false
unserved_elsewhere plan c m n id own its elsewhere s =
    each_served plan c m (λ ns. contains id ns ≡ false) refl
    (λ i ns selected whose h. neither (nat_eq id i) (contains id ns) (not_equal id i (λ e. elsewhere (same (ap (λ j. (call_of j c).owner) e) whose))) h) own s
  where
    number : Owner → ℕ
    number (owner.Task k) = k
    number (owner.Object k) = 0

    same : {o : Owner} → (call_of id c).owner ≡ o → (o ≡ owner.Task m) ⊎ ((k : ℕ) × (o ≡ owner.Object k)) → n ≡ m
    same {o} e (inl h) = ap number (sym its ∙ (e ∙ h))
    same {o} e (inr h) = let wrong : owner.Task n ≡ owner.Object h.0 = sym its ∙ (e ∙ h.1) in absurd cc

-- who calls no other on the object still does

more_on : (plan : Plan) (c : All Spot) (n object : ℕ) (x : Call) → (x.caller ≡ n → ⊥) → CallsOn plan c n object → CallsOn plan (with_calls (c.shared.calls ++ x ∷ []) c) n object
more_on plan c n object x other h i live mine = by (more_call i c.shared.calls x)
  where
    by : (call_at i (c.shared.calls ++ x ∷ []) ≡ call_of i c) ⊎ ((i ≡ length c.shared.calls) × (call_at i (c.shared.calls ++ x ∷ []) ≡ x)) → (call_at i (c.shared.calls ++ x ∷ [])).owner ≡ owner.Object object
    by (inl e) =
        ap (λ (a : Call). a.owner) e
        ∙ h i (subst (λ (a : Call). is_call_over a.state ≡ false) e live) (ap (λ (a : Call). a.caller) (sym e) ∙ mine)
    by (inr e) = absurd (other (ap (λ (a : Call). a.caller) (sym e.1) ∙ mine))

more_in : (plan : Plan) (c : All Spot) (n : ℕ) (x : Call) (os : List Opened) → (x.caller ≡ n → objects_in os ≡ []) → ServesIn plan c n os → ServesIn plan (with_calls (c.shared.calls ++ x ∷ []) c) n os
more_in plan c n x [] free h = tt
more_in plan c n x (o ∷ os) free h = by o.purpose free h (more_in plan c n x os)
  where
    by : (p : Purpose) → (x.caller ≡ n → objects_in (record o { purpose = p } ∷ os) ≡ []) → ServesIn plan c n (record o { purpose = p } ∷ os) → ((x.caller ≡ n → objects_in os ≡ []) → ServesIn plan c n os → ServesIn plan (with_calls (c.shared.calls ++ x ∷ []) c) n os) → ServesIn plan (with_calls (c.shared.calls ++ x ∷ []) c) n (record o { purpose = p } ∷ os)
    by for_body free h on = (tt, on free h.1)
    by for_block free h on = (tt, on free h.1)
    by for_loop free h on = (tt, on free h.1)
    by (for_procedure r) free h on = (tt, on free h.1)
    by (for_operation m r) free h on = (h.0, on (λ q. let wrong = free q in absurd cc) h.1)
    by (for_entry m i served back) free h on = (
      (
        subst (λ (a : Call). (a.state ≡ Selected) × (a.owner ≡ owner.Object m)) (sym (served_still i c.shared.calls x h.0.0.0)) h.0.0,
        (h.0.1.0, λ e. more_on plan c n m x (λ q. let wrong = free q in absurd cc) (h.0.1.1 e)),
      ),
      on (λ q. let wrong = free q in absurd cc) h.1,
    )
    by (for_accept i) free h on =
        ((subst (λ (a : Call). (a.state ≡ Selected) × (a.owner ≡ owner.Task n)) (sym (served_still i c.shared.calls x h.0.0.0)) h.0.0, h.0.1), on free h.1)

-- its caller serves no object and is in none, and has none to withdraw from
serves_more : (plan : Plan) (c : All Spot) (n : ℕ) (x : Call) (own : Own) → (x.caller ≡ n → (own.serving ≡ None) × (own.withdraw ≡ None) × (objects_in own.opened ≡ [])) → Serves plan c n own → Serves plan (with_calls (c.shared.calls ++ x ∷ []) c) n own
serves_more plan c n x own free s = record {
  opened = more_in plan c n x own.opened (λ q. (free q).2) s.opened;
  calls = s.calls;
  objects = s.objects;
  serving = λ y e. let h = s.serving y e in (h.0, may_serve y.object (λ q. let wrong : None ≡ Some y = sym (free q).0 ∙ e in absurd cc) h.1);
  again = λ r e. let k = s.again r e in (again_in plan c (c.shared.calls ++ x ∷ []) n r own.opened k.0, k.1);
  restart = λ r e.
      let y = s.restart r e in
      let is : call_at r.call (c.shared.calls ++ x ∷ []) ≡ call_of r.call c = served_still r.call c.shared.calls x y.served.0 in
      record {
        served = subst (λ (a : Call). (a.state ≡ Selected) × (a.owner ≡ owner.Task n)) (sym is) y.served;
        form = subst (λ (a : Call). IsAgain a.form) (sym is) y.form;
        entry = subst (λ (a : Call). EntryFits plan c (owner.Object r.object) a.entry) (sym is) y.entry;
        outside = y.outside;
        apart = y.apart;
      };
  withdraw = λ o e.
      let h = s.withdraw o e in
      (h.0, (λ i alive mine. no_call (more_call i c.shared.calls x) (λ q. let wrong : None ≡ Some o = sym (free q).1 ∙ e in absurd cc) (h.1.0 i) alive mine, (past own.call h.1.1.0, h.1.1.1)));
}
  where
    past : (id : ℕ) → IsPast plan c id → IsPast plan (with_calls (c.shared.calls ++ x ∷ []) c) id
    past id h = (longer, by (more_call id c.shared.calls x))
      where
        longer : id < length (c.shared.calls ++ x ∷ [])
        longer = let l = length-append c.shared.calls (x ∷ []) in let k = h.0 in omega (arith, l, k)

        by : (call_at id (c.shared.calls ++ x ∷ []) ≡ call_of id c) ⊎ ((id ≡ length c.shared.calls) × (call_at id (c.shared.calls ++ x ∷ []) ≡ x)) → is_call_over (call_at id (c.shared.calls ++ x ∷ [])).state ≡ true
        by (inl e) = ap (λ (a : Call). is_call_over a.state) e ∙ h.1
        by (inr e) = let k = h.0 in let q = e.0 in absurd (omega (arith, k, q))

    may_serve : (object : ℕ) → (x.caller ≡ n → ⊥) → (own.status ≡ Running) ⊎ ((own.status ≡ Calling) × CallsOn plan c n object) → (own.status ≡ Running) ⊎ ((own.status ≡ Calling) × CallsOn plan (with_calls (c.shared.calls ++ x ∷ []) c) n object)
    may_serve object other (inl h) = inl h
    may_serve object other (inr h) = inr (h.0, more_on plan c n object x other h.1)

    no_call : {i : ℕ} → (call_at i (c.shared.calls ++ x ∷ []) ≡ call_of i c) ⊎ ((i ≡ length c.shared.calls) × (call_at i (c.shared.calls ++ x ∷ []) ≡ x)) → (x.caller ≡ n → ⊥) → (is_call_over (call_of i c).state ≡ false → (call_of i c).caller ≡ n → ⊥) → is_call_over (call_at i (c.shared.calls ++ x ∷ [])).state ≡ false → (call_at i (c.shared.calls ++ x ∷ [])).caller ≡ n → ⊥
    no_call (inl e) other h live mine = h (subst (λ (a : Call). is_call_over a.state ≡ false) e live) (ap (λ (a : Call). a.caller) (sym e) ∙ mine)
    no_call (inr e) other h live mine = other (ap (λ (a : Call). a.caller) (sym e.1) ∙ mine)

-- A call is made, whose caller waits for it.
pub made_framed : (plan : Plan) (code : Flat) (seen : List ℕ) (x : Call) (c : All Spot) → x.state ≡ Selected → CallerWaits (length c.shared.calls) x (own_of x.caller c) → (own_of x.caller c).serving ≡ None → (own_of x.caller c).withdraw ≡ None → objects_in (own_of x.caller c).opened ≡ [] → IsFramed plan code seen c → IsFramed plan code seen (new_call x c)
made_framed plan code seen x c selected waiting serves_none none outside w = record {
  tasks = w.tasks;
  objects = w.objects;
  calls = λ i live. waits (more_call i c.shared.calls x) live;
  queued = λ i e. fits (more_call i c.shared.calls x) e;
  stays = λ i e ill. stays (more_call i c.shared.calls x) e ill;
  serves = λ n live.
      serves_more plan c n x (own_of n c)
      (λ q. (ap (λ k. (own_of k c).serving) (sym q) ∙ serves_none, ap (λ k. (own_of k c).withdraw) (sym q) ∙ none, ap (λ k. objects_in (own_of k c).opened) (sym q) ∙ outside)) (w.serves n live);
  alone = w.alone;
}
  where
    Either : ℕ → Type 0
    Either i = (call_at i (c.shared.calls ++ x ∷ []) ≡ call_of i c) ⊎ ((i ≡ length c.shared.calls) × (call_at i (c.shared.calls ++ x ∷ []) ≡ x))

    waits : {i : ℕ} → Either i → is_call_over (call_at i (c.shared.calls ++ x ∷ [])).state ≡ false → CallerWaits i (call_at i (c.shared.calls ++ x ∷ [])) (own_of (call_at i (c.shared.calls ++ x ∷ [])).caller c)
    waits {i} (inl e) live = subst (λ (a : Call). CallerWaits i a (own_of a.caller c)) (sym e) (w.calls i (subst (λ (a : Call). is_call_over a.state ≡ false) e live))
    waits {i} (inr e) live = subst (λ (a : Call). CallerWaits i a (own_of a.caller c)) (sym e.1) (subst (λ k. CallerWaits k x (own_of x.caller c)) (sym e.0) waiting)

    fits : {i : ℕ} → Either i → (call_at i (c.shared.calls ++ x ∷ [])).state ≡ Queued → IsEntryOf plan c (call_at i (c.shared.calls ++ x ∷ [])).owner (call_at i (c.shared.calls ++ x ∷ [])).entry
    fits {i} (inl e) is = subst (λ (a : Call). IsEntryOf plan c a.owner a.entry) (sym e) (w.queued i (ap (λ (a : Call). a.state) (sym e) ∙ is))
    fits {i} (inr e) is = let wrong : Selected ≡ Queued = sym selected ∙ (ap (λ (a : Call). a.state) (sym e.1) ∙ is) in absurd cc

    stays : {i : ℕ} → Either i → (call_at i (c.shared.calls ++ x ∷ [])).state ≡ Queued → (own_of (call_at i (c.shared.calls ++ x ∷ [])).caller c).abnormal ≡ true → (call_at i (c.shared.calls ++ x ∷ [])).stays ≡ true
    stays {i} (inl e) is ill =
        ap (λ (a : Call). a.stays) e
        ∙ w.stays i (ap (λ (a : Call). a.state) (sym e) ∙ is) (ap (λ (a : Call). (own_of a.caller c).abnormal) (sym e) ∙ ill)
    stays {i} (inr e) is ill = let wrong : Selected ≡ Queued = sym selected ∙ (ap (λ (a : Call). a.state) (sym e.1) ∙ is) in absurd cc

-- A call that nobody serves arrives on a queue.

one_or_same : (id i : ℕ) (f : Call → Call) (calls : List Call) → (call_at i (changed id f calls) ≡ call_at i calls) ⊎ (id ≡ i)
one_or_same id i f [] = inl refl
one_or_same zero zero f (a ∷ more) = inr refl
one_or_same zero (suc i) f (a ∷ more) = inl refl
one_or_same (suc id) zero f (a ∷ more) = inl refl
one_or_same (suc id) (suc i) f (a ∷ more) = by (one_or_same id i f more)
  where
    by : (call_at i (changed id f more) ≡ call_at i more) ⊎ (id ≡ i) → (call_at i (changed id f more) ≡ call_at i more) ⊎ (suc id ≡ suc i)
    by (inl e) = inl e
    by (inr e) = inr (ap suc e)

pub arrived_framed : (plan : Plan) (code : Flat) (seen : List ℕ) (id : ℕ) (c : All Spot) → is_call_over (call_of id c).state ≡ false → IsUnserved id c → IsEntryOf plan c (call_of id c).owner (call_of id c).entry → ((own_of (call_of id c).caller c).abnormal ≡ true → (call_of id c).stays ≡ true) → IsFramed plan code seen c → IsFramed plan code seen (arrives id c)
arrived_framed plan code seen id c alive free its keeps w =
    like_framed plan code seen (on_call id (λ (a : Call). record a { state = Queued; arrival = c.shared.arrivals }) c) (arrives id c) refl refl refl (record {
      tasks = w.tasks;
      objects = w.objects;
      calls = λ i live.
          let h : CallerWaits i (call_of i c) (own_of (call_of i c).caller c) = w.calls i (before i live) in
          subst (λ m. CallerWaits i (call_at i (changed id f c.shared.calls)) (own_of m c)) (sym (caller_same i)) (h.0, subst (λ o. Waits o (own_of (call_of i c).caller c)) (sym (owner_same i)) h.1);
      queued = λ i e.
          subst (λ o. IsEntryOf plan c o (call_at i (changed id f c.shared.calls)).entry) (sym (owner_same i))
          (subst (λ k. IsEntryOf plan c (call_of i c).owner k) (sym (field_same (λ (a : Call). a.entry) id i f c.shared.calls (λ a. refl))) (entry_fits (one_or_same id i f c.shared.calls) e));
      stays = λ i e ill.
          field_same (λ (a : Call). a.stays) id i f c.shared.calls (λ a. refl)
          ∙ stays (one_or_same id i f c.shared.calls) e (ap (λ m. (own_of m c).abnormal) (sym (caller_same i)) ∙ ill);
      serves = λ n live.
          serves_calls plan c (changed id f c.shared.calls) n (own_of n c) (counted id f c.shared.calls) (λ i goes. (before i goes, owner_same i, caller_same i)) (others_same id f c (served_by (own_of n c)) (free n live))
          (w.serves n live);
      alone = w.alone;
    })
  where
    f : Call → Call
    f a = record a { state = Queued; arrival = c.shared.arrivals }

    before : (i : ℕ) → is_call_over (call_at i (changed id f c.shared.calls)).state ≡ false → is_call_over (call_of i c).state ≡ false
    before i h = live_before id i f c.shared.calls alive h

    owner_same : (i : ℕ) → (call_at i (changed id f c.shared.calls)).owner ≡ (call_of i c).owner
    owner_same i = field_same (λ (a : Call). a.owner) id i f c.shared.calls (λ a. refl)

    caller_same : (i : ℕ) → (call_at i (changed id f c.shared.calls)).caller ≡ (call_of i c).caller
    caller_same i = field_same (λ (a : Call). a.caller) id i f c.shared.calls (λ a. refl)

    entry_fits : {i : ℕ} → (call_at i (changed id f c.shared.calls) ≡ call_of i c) ⊎ (id ≡ i) → (call_at i (changed id f c.shared.calls)).state ≡ Queued → IsEntryOf plan c (call_of i c).owner (call_of i c).entry
    entry_fits {i} (inl e) is = w.queued i (ap (λ (a : Call). a.state) (sym e) ∙ is)
    entry_fits {i} (inr e) is = subst (λ j. IsEntryOf plan c (call_of j c).owner (call_of j c).entry) e its

    stays : {i : ℕ} → (call_at i (changed id f c.shared.calls) ≡ call_of i c) ⊎ (id ≡ i) → (call_at i (changed id f c.shared.calls)).state ≡ Queued → (own_of (call_of i c).caller c).abnormal ≡ true → (call_of i c).stays ≡ true
    stays {i} (inl e) is ill = w.stays i (ap (λ (a : Call). a.state) (sym e) ∙ is) ill
    stays {i} (inr e) is ill = subst (λ j. (own_of (call_of j c).caller c).abnormal ≡ true → (call_of j c).stays ≡ true) e keeps ill

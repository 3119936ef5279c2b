-- Calls that change: what is served stays served, and who waits goes on waiting.
use Rattle.std.proofs.Common.{◌≡◌, ◌⊎◌, ◌<◌, length, ℕ, zero, suc, List, [], ◌∷◌, Option, Some, None, Bool, true, false, refl, sym, ap, ◌∙◌, subst, inl, inr}
use Rattle.std.proofs.lemmas.Bool.{eq-eqb, eqb-true, true≢false}
use Rattle.std.specs.Prelude.{◌||◌, nat_eq}
use Rattle.aud_typed.specs.Tree.{Plan}
use Rattle.aud_meaning.specs.declared.state.Again.{Again}
use Rattle.aud_meaning.specs.declared.state.CallState.{CallState}
use Rattle.aud_meaning.specs.declared.state.CallState.TheVariants.{Queued, Selected}
use Rattle.aud_meaning.specs.declared.state.Owner.{Owner}
use Rattle.aud_meaning.specs.declared.state.Owner.TheVariants as owner
use Rattle.aud_meaning.specs.declared.state.Restart.{Restart}
use Rattle.aud_meaning.specs.declared.state.Status.TheVariants.{Running, Calling}
use Rattle.aud_meaning.specs.Configuration.{Purpose, for_body, for_block, for_loop, for_procedure, for_operation, for_entry, for_accept, Opened, Own, Call, All}
use Rattle.aud_meaning.specs.Parts.{call_of, changed, contains, is_over, on_call, own_of}
use Rattle.aud_meaning.proofs.Open.Tasks.{call_at}
use Rattle.aud_code.specs.Places.{Spot}
use Rattle.aud_code.specs.Flat.{Flat}
use Rattle.aud_over.specs.Over.{is_call_over}
use Rattle.aud_framed.specs.Calls.{CallerWaits, CallsOn, EntryFits, IsAgain, IsEntryOf, IsPast, RequeueFits, Serves, ServesIn, calls_in, with_restarted}
use Rattle.aud_framed.specs.Framed.{IsFramed}

abbrev pub with_calls : List Call → All Spot → All Spot
with_calls calls c = record c { shared = record c.shared { calls = calls } }

-- the calls of these numbers are the same
abbrev pub CallsSame : All Spot → List Call → List ℕ → Type 0
CallsSame c calls [] = Unit {0}
CallsSame c calls (i ∷ is) = (call_at i calls ≡ call_of i c) × CallsSame c calls is

module _ (plan : Plan) (c : All Spot) (calls : List Call) (n : ℕ) where
  abbrev d : All Spot
  d = with_calls calls c

  -- calls that are not over were none before, and have their callers and owners still
  abbrev pub LiveSame : Type 0
  LiveSame = (i : ℕ) → is_call_over (call_at i calls).state ≡ false → (is_call_over (call_of i c).state ≡ false) × ((call_at i calls).owner ≡ (call_of i c).owner) × ((call_at i calls).caller ≡ (call_of i c).caller)

  -- or have no object's before
  abbrev pub LiveKept : Type 0
  LiveKept = (i : ℕ) → is_call_over (call_at i calls).state ≡ false → (is_call_over (call_of i c).state ≡ false) × ((object : ℕ) → (call_of i c).owner ≡ owner.Object object → (call_at i calls).owner ≡ owner.Object object) × ((call_at i calls).caller ≡ (call_of i c).caller)

  calls_on : (object : ℕ) → LiveKept → CallsOn plan c n object → CallsOn plan (with_calls calls c) n object
  calls_on object same h i live mine = let k = same i live in k.1 object (h i k.0 (sym k.2 ∙ mine))

  -- one that is over stays so
  pub past : LiveKept → length c.shared.calls ≡ length calls → (id : ℕ) → IsPast plan c id → IsPast plan (with_calls calls c) id
  past same counts id h = (subst (λ k. id < k) counts h.0, by (is_call_over (call_at id calls).state) refl)
    where
      by : (b : Bool) → is_call_over (call_at id calls).state ≡ b → b ≡ true
      by true e = refl
      by false e = absurd (true≢false (sym h.1 ∙ (same id e).0))

  pub serves_in : LiveKept → (os : List Opened) → CallsSame c calls (calls_in os) → ServesIn plan c n os → ServesIn plan (with_calls calls c) n os
  serves_in live [] s h = tt
  serves_in live (o ∷ os) s h = by o.purpose s h (serves_in live os)
    where
      by : (p : Purpose) → CallsSame c calls (calls_in (record o { purpose = p } ∷ os)) → ServesIn plan c n (record o { purpose = p } ∷ os) → (CallsSame c calls (calls_in os) → ServesIn plan c n os → ServesIn plan (with_calls calls c) n os) → ServesIn plan (with_calls calls c) n (record o { purpose = p } ∷ os)
      by for_body s h on = (tt, on s h.1)
      by for_block s h on = (tt, on s h.1)
      by for_loop s h on = (tt, on s h.1)
      by (for_procedure r) s h on = (tt, on s h.1)
      by (for_operation m r) s h on = (h.0, on s h.1)
      by (for_entry m id served back) s h on =
          ((subst (λ (a : Call). (a.state ≡ Selected) × (a.owner ≡ owner.Object m)) (sym s.0) h.0.0, (h.0.1.0, λ e. calls_on m live (h.0.1.1 e))), on s.1 h.1)
      by (for_accept id) s h on =
          ((subst (λ (a : Call). (a.state ≡ Selected) × (a.owner ≡ owner.Task n)) (sym s.0) h.0.0, h.0.1), on s.1 h.1)

  pub opened_same : (r : Option Restart) (ns : List ℕ) → CallsSame c calls (with_restarted r ns) → CallsSame c calls ns
  opened_same None ns s = s
  opened_same (Some r) ns s = s.1

  pub again_in : (r : Again) (os : List Opened) → RequeueFits plan c r os → RequeueFits plan (with_calls calls c) r os
  again_in r [] h = h
  again_in r (o ∷ os) h = by o.purpose h (again_in r os)
    where
      by : (p : Purpose) → RequeueFits plan c r (record o { purpose = p } ∷ os) → (RequeueFits plan c r os → RequeueFits plan (with_calls calls c) r os) → RequeueFits plan (with_calls calls c) r (record o { purpose = p } ∷ os)
      by for_body h on = h
      by for_block h on = on h
      by for_loop h on = on h
      by (for_procedure q) h on = h
      by (for_operation m q) h on = h
      by (for_entry m id served back) h on = h
      by (for_accept id) h on = fits r.owner h
        where
          fits : (o : Owner) → EntryFits plan c o r.entry → EntryFits plan (with_calls calls c) o r.entry
          fits (owner.Task m) h = h
          fits (owner.Object m) h = h

  may_serve : (object : ℕ) (own : Own) → LiveKept → (own.status ≡ Running) ⊎ ((own.status ≡ Calling) × CallsOn plan c n object) → (own.status ≡ Running) ⊎ ((own.status ≡ Calling) × CallsOn plan (with_calls calls c) n object)
  may_serve object own same (inl h) = inl h
  may_serve object own same (inr h) = inr (h.0, calls_on object same h.1)

  pub serves_live : (own : Own) → length c.shared.calls ≡ length calls → LiveKept → CallsSame c calls (with_restarted own.restart (calls_in own.opened)) → Serves plan c n own → Serves plan (with_calls calls c) n own
  serves_live own counts live same s = record {
    opened = serves_in live own.opened (opened_same own.restart (calls_in own.opened) same) s.opened;
    calls = s.calls;
    objects = s.objects;
    serving = λ x e. let h = s.serving x e in (h.0, may_serve x.object own live h.1);
    again = λ r e. let k = s.again r e in (again_in r own.opened k.0, k.1);
    restart = λ r e.
        let x = s.restart r e in
        let is : call_at r.call calls ≡ call_of r.call c = (subst (λ o. CallsSame c calls (with_restarted o (calls_in own.opened))) e same).0 in
        record {
          served = subst (λ (a : Call). (a.state ≡ Selected) × (a.owner ≡ owner.Task n)) (sym is) x.served;
          form = subst (λ (a : Call). IsAgain a.form) (sym is) x.form;
          entry = subst (λ (a : Call). EntryFits plan c (owner.Object r.object) a.entry) (sym is) x.entry;
          outside = x.outside;
          apart = x.apart;
        };
    withdraw = λ o e.
        let h = s.withdraw o e in
        (h.0, (λ i alive mine. let k = live i alive in h.1.0 i k.0 (sym k.2 ∙ mine), (past live counts own.call h.1.1.0, h.1.1.1)));
  }

  pub serves_calls : (own : Own) → length c.shared.calls ≡ length calls → LiveSame → CallsSame c calls (with_restarted own.restart (calls_in own.opened)) → Serves plan c n own → Serves plan (with_calls calls c) n own
  serves_calls own counts live same s = serves_live own counts (λ i alive. let k = live i alive in (k.0, λ o e. k.1 ∙ e, k.2)) same s

-- One call changes.

pub counted : (id : ℕ) (f : Call → Call) (calls : List Call) → length calls ≡ length (changed id f calls)
counted id f [] = refl
counted zero f (a ∷ more) = refl
counted (suc id) f (a ∷ more) = ap suc (counted id f more)

pub other_call : (id i : ℕ) (f : Call → Call) (calls : List Call) → (id ≡ i → ⊥) → call_at i (changed id f calls) ≡ call_at i calls
other_call id i f [] differs = refl
other_call zero zero f (a ∷ more) differs = absurd (differs refl)
other_call zero (suc i) f (a ∷ more) differs = refl
other_call (suc id) zero f (a ∷ more) differs = refl
other_call (suc id) (suc i) f (a ∷ more) differs = other_call id i f more (λ e. differs (ap suc e))

pub others_same : (id : ℕ) (f : Call → Call) (c : All Spot) (ns : List ℕ) → contains id ns ≡ false → CallsSame c (changed id f c.shared.calls) ns
others_same id f c [] e = tt
others_same id f c (i ∷ is) e = by (nat_eq id i) refl e (others_same id f c is)
  where
    by : (b : Bool) → nat_eq id i ≡ b → b || contains id is ≡ false → (contains id is ≡ false → CallsSame c (changed id f c.shared.calls) is) → (call_at i (changed id f c.shared.calls) ≡ call_of i c) × CallsSame c (changed id f c.shared.calls) is
    by true q e on = absurd (true≢false e)
    by false q e on = (other_call id i f c.shared.calls (λ x. true≢false (sym (eq-eqb id i x) ∙ q)), on e)

-- those that are not over behind it are as they were
pub live_same : (id i : ℕ) (f : Call → Call) (calls : List Call) → ((a : Call) → is_call_over (f a).state ≡ true) → is_call_over (call_at i (changed id f calls)).state ≡ false → call_at i (changed id f calls) ≡ call_at i calls
live_same id i f [] over live = refl
live_same zero zero f (a ∷ more) over live = absurd (true≢false (sym (over a) ∙ live))
live_same zero (suc i) f (a ∷ more) over live = refl
live_same (suc id) zero f (a ∷ more) over live = refl
live_same (suc id) (suc i) f (a ∷ more) over live = live_same id i f more over live

-- it is over
pub now_over : (id : ℕ) (f : Call → Call) (calls : List Call) → ((a : Call) → is_call_over (f a).state ≡ true) → is_call_over (call_at id (changed id f calls)).state ≡ true
now_over id f [] over = refl
now_over zero f (a ∷ more) over = over a
now_over (suc id) f (a ∷ more) over = now_over id f more over

pub over_stays : (id i : ℕ) (f : Call → Call) (calls : List Call) → ((a : Call) → is_call_over (f a).state ≡ true) → is_call_over (call_at i calls).state ≡ true → is_call_over (call_at i (changed id f calls)).state ≡ true
over_stays id i f [] over h = h
over_stays zero zero f (a ∷ more) over h = over a
over_stays zero (suc i) f (a ∷ more) over h = h
over_stays (suc id) zero f (a ∷ more) over h = h
over_stays (suc id) (suc i) f (a ∷ more) over h = over_stays id i f more over h

pub queued_live : (s : CallState) → s ≡ Queued → is_call_over s ≡ false
queued_live s e = ap is_call_over e

pub like_same : (id i : ℕ) (f : Call → Call) (c : All Spot) → ((a : Call) → is_call_over (f a).state ≡ true) → is_call_over (call_at i (changed id f c.shared.calls)).state ≡ false → (is_call_over (call_of i c).state ≡ false) × ((call_at i (changed id f c.shared.calls)).owner ≡ (call_of i c).owner) × ((call_at i (changed id f c.shared.calls)).caller ≡ (call_of i c).caller)
like_same id i f c over live =
    let is : call_at i (changed id f c.shared.calls) ≡ call_of i c = live_same id i f c.shared.calls over live in
    (subst (λ (a : Call). is_call_over a.state ≡ false) is live, ap (λ (a : Call). a.owner) is, ap (λ (a : Call). a.caller) is)

-- the calls that a task serves, and one that it makes again
abbrev pub served_by : Own → List ℕ
served_by own = with_restarted own.restart (calls_in own.opened)

-- nobody serves it
abbrev pub IsUnserved : ℕ → All Spot → Type 0
IsUnserved id c = (n : ℕ) → is_over (own_of n c).status ≡ false → contains id (served_by (own_of n c)) ≡ false

-- a call ends that nobody serves
pub over_framed : (plan : Plan) (code : Flat) (seen : List ℕ) (id : ℕ) (f : Call → Call) (c : All Spot) → ((a : Call) → is_call_over (f a).state ≡ true) → IsUnserved id c → IsFramed plan code seen c → IsFramed plan code seen (on_call id f c)
over_framed plan code seen id f c over free w = record {
  tasks = w.tasks;
  objects = w.objects;
  calls = λ i live.
      let is : call_at i (changed id f c.shared.calls) ≡ call_of i c = live_same id i f c.shared.calls over live in
      subst (λ (a : Call). CallerWaits i a (own_of a.caller c)) (sym is) (w.calls i (subst (λ (a : Call). is_call_over a.state ≡ false) is live));
  queued = λ i e.
      let is : call_at i (changed id f c.shared.calls) ≡ call_of i c = live_same id i f c.shared.calls over (queued_live _ e) in
      subst (λ (a : Call). IsEntryOf plan c a.owner a.entry) (sym is) (w.queued i (subst (λ (a : Call). a.state ≡ Queued) is e));
  stays = λ i queued ill.
      let is : call_at i (changed id f c.shared.calls) ≡ call_of i c = live_same id i f c.shared.calls over (queued_live _ queued) in
      ap (λ (a : Call). a.stays) is ∙ w.stays i (ap (λ (a : Call). a.state) (sym is) ∙ queued) (ap (λ (a : Call). (own_of a.caller c).abnormal) (sym is) ∙ ill);
  serves = λ n live. serves_calls plan c (changed id f c.shared.calls) n (own_of n c) (counted id f c.shared.calls) (λ i live. like_same id i f c over live) (others_same id f c (served_by (own_of n c)) (free n live)) (w.serves n live);
  alone = w.alone;
}

-- What is served is selected.

other_number : (c : All Spot) (id i : ℕ) → (call_of id c).state ≡ Queued → (call_of i c).state ≡ Selected → nat_eq id i ≡ false
other_number c id i queued selected = by (nat_eq id i) refl
  where
    by : (b : Bool) → nat_eq id i ≡ b → b ≡ false
    by true e = let clash : Queued ≡ Selected = sym queued ∙ (ap (λ j. (call_of j c).state) (eqb-true id i e) ∙ selected) in absurd cc
    by false e = refl

pub neither : (a b : Bool) → a ≡ false → b ≡ false → a || b ≡ false
neither false b h k = k
neither true b h k = h

pub unserved_queued : (plan : Plan) (c : All Spot) (n id : ℕ) (own : Own) → (call_of id c).state ≡ Queued → Serves plan c n own → contains id (served_by own) ≡ false
unserved_queued plan c n id own queued s = made own.restart refl
  where
    opened : (os : List Opened) → ServesIn plan c n os → contains id (calls_in os) ≡ false
    opened [] h = refl
    opened (o ∷ os) h = by o.purpose h (opened os)
      where
        by : (p : Purpose) → ServesIn plan c n (record o { purpose = p } ∷ os) → (ServesIn plan c n os → contains id (calls_in os) ≡ false) → contains id (calls_in (record o { purpose = p } ∷ os)) ≡ false
        by for_body h on = on h.1
        by for_block h on = on h.1
        by for_loop h on = on h.1
        by (for_procedure r) h on = on h.1
        by (for_operation m r) h on = on h.1
        by (for_entry m i served back) h on = neither (nat_eq id i) _ (other_number c id i queued h.0.0.0) (on h.1)
        by (for_accept i) h on = neither (nat_eq id i) _ (other_number c id i queued h.0.0.0) (on h.1)

    made : (r : Option Restart) → own.restart ≡ r → contains id (with_restarted r (calls_in own.opened)) ≡ false
    made None e = opened own.opened s.opened
    made (Some r) e = neither (nat_eq id r.call) _ (other_number c id r.call queued (s.restart r e).served.0) (opened own.opened s.opened)

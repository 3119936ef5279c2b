-- A call that is queued is selected.
use Rattle.std.proofs.Common.{◌≡◌, ℕ, zero, suc, List, [], ◌∷◌, false, refl, sym, ap, ◌∙◌, subst}
use Rattle.aud_typed.specs.Tree.{Plan}
use Rattle.aud_meaning.specs.declared.state.CallState.TheVariants.{Queued, Selected}
use Rattle.aud_meaning.specs.Configuration.{Call, All}
use Rattle.aud_meaning.specs.Parts.{call_of, changed, on_call, own_of}
use Rattle.aud_meaning.proofs.Open.Tasks.{call_at}
use Rattle.aud_code.specs.Places.{Spot}
use Rattle.aud_code.specs.Flat.{Flat}
use Rattle.aud_over.specs.Over.{is_call_over}
use Rattle.aud_framed.specs.Calls.{CallerWaits, IsEntryOf, Waits}
use Rattle.aud_framed.specs.Framed.{IsFramed}
use Rattle.aud_framed.proofs.Stepping.Calls.{counted, others_same, queued_live, served_by, serves_calls, unserved_queued}

-- what else is said of a call stays
pub field_same : {X : Type 0} (g : Call → X) (id i : ℕ) (f : Call → Call) (calls : List Call) → ((a : Call) → g (f a) ≡ g a) → g (call_at i (changed id f calls)) ≡ g (call_at i calls)
field_same g id i f [] e = refl
field_same g zero zero f (a ∷ more) e = e a
field_same g zero (suc i) f (a ∷ more) e = refl
field_same g (suc id) zero f (a ∷ more) e = refl
field_same g (suc id) (suc i) f (a ∷ more) e = field_same g id i f more e

pub live_before : (id i : ℕ) (f : Call → Call) (calls : List Call) → is_call_over (call_at id calls).state ≡ false → is_call_over (call_at i (changed id f calls)).state ≡ false → is_call_over (call_at i calls).state ≡ false
live_before id i f [] was h = h
live_before zero zero f (a ∷ more) was h = was
live_before zero (suc i) f (a ∷ more) was h = h
live_before (suc id) zero f (a ∷ more) was h = h
live_before (suc id) (suc i) f (a ∷ more) was h = live_before id i f more was h

queued_before : (id i : ℕ) (calls : List Call) → (call_at i (changed id (λ (a : Call). record a { state = Selected }) calls)).state ≡ Queued → (call_at i calls).state ≡ Queued
queued_before id i [] h = h
queued_before zero zero (a ∷ more) h = absurd cc
queued_before zero (suc i) (a ∷ more) h = h
queued_before (suc id) zero (a ∷ more) h = h
queued_before (suc id) (suc i) (a ∷ more) h = queued_before id i more h

pub selected_framed : (plan : Plan) (code : Flat) (seen : List ℕ) (id : ℕ) (c : All Spot) → (call_of id c).state ≡ Queued → IsFramed plan code seen c → IsFramed plan code seen (on_call id (λ (a : Call). record a { state = Selected }) c)
selected_framed plan code seen id c queued w = record {
  tasks = w.tasks;
  objects = w.objects;
  calls = λ i live.
      let h : CallerWaits i (call_of i c) (own_of (call_of i c).caller c) = w.calls i (before i live) in
      subst (λ m. CallerWaits i (call_at i new) (own_of m c)) (sym (caller_same i)) (h.0, subst (λ o. Waits o (own_of (call_of i c).caller c)) (sym (owner_same i)) h.1);
  queued = λ i e.
      subst (λ o. IsEntryOf plan c o (call_at i new).entry) (sym (owner_same i))
      (subst (λ k. IsEntryOf plan c (call_of i c).owner k) (sym (field_same (λ (a : Call). a.entry) id i f c.shared.calls (λ a. refl))) (w.queued i (queued_before id i c.shared.calls e)));
  stays = λ i e ill.
      field_same (λ (a : Call). a.stays) id i f c.shared.calls (λ a. refl) ∙ w.stays i (queued_before id i c.shared.calls e) (ap (λ m. (own_of m c).abnormal) (sym (caller_same i)) ∙ ill);
  serves = λ n live.
      serves_calls plan c new n (own_of n c) (counted id f c.shared.calls) (λ i alive. (before i alive, owner_same i, caller_same i))
      (others_same id f c (served_by (own_of n c)) (unserved_queued plan c n id (own_of n c) queued (w.serves n live))) (w.serves n live);
  alone = w.alone;
}
  where
    f : Call → Call
    f = λ a. record a { state = Selected }

    new : List Call
    new = changed id (λ (a : Call). record a { state = Selected }) c.shared.calls

    before : (i : ℕ) → is_call_over (call_at i (changed id (λ (a : Call). record a { state = Selected }) c.shared.calls)).state ≡ false → is_call_over (call_of i c).state ≡ false
    before i h = live_before id i (λ a. record a { state = Selected }) c.shared.calls (queued_live (call_of id c).state queued) h

    owner_same : (i : ℕ) → (call_at i (changed id (λ (a : Call). record a { state = Selected }) c.shared.calls)).owner ≡ (call_of i c).owner
    owner_same i = field_same (λ (a : Call). a.owner) id i (λ a. record a { state = Selected }) c.shared.calls (λ a. refl)

    caller_same : (i : ℕ) → (call_at i (changed id (λ (a : Call). record a { state = Selected }) c.shared.calls)).caller ≡ (call_of i c).caller
    caller_same i = field_same (λ (a : Call). a.caller) id i (λ a. record a { state = Selected }) c.shared.calls (λ a. refl)

-- A call that nobody serves changes: it is made again, or lost.
use Rattle.std.proofs.Common.{◌≡◌, ℕ, zero, suc, List, [], ◌∷◌, true, false, refl, sym, ap, ◌∙◌, subst}
use Rattle.std.proofs.lemmas.Bool.{true≢false}
use Rattle.aud_typed.specs.Tree.{Plan}
use Rattle.aud_meaning.specs.declared.state.CallState.TheVariants.{Queued}
use Rattle.aud_meaning.specs.declared.state.Owner.TheVariants as owner
use Rattle.aud_meaning.specs.Configuration.{Call, All}
use Rattle.aud_meaning.specs.Parts.{call_of, changed, on_call, own_of}
use Rattle.aud_meaning.proofs.Open.Tasks.{call_at}
use Rattle.aud_code.specs.Places.{Spot}
use Rattle.aud_code.specs.Flat.{Flat}
use Rattle.aud_over.specs.Over.{is_call_over}
use Rattle.aud_framed.specs.Calls.{CallerWaits, QueueFits, Waits}
use Rattle.aud_framed.specs.Framed.{IsFramed}
use Rattle.aud_framed.proofs.Stepping.Calls.{IsUnserved, counted, others_same, served_by, serves_live}

pub changed_call : (P : Call → Type 0) (id : ℕ) (f : Call → Call) (calls : List Call) (i : ℕ) → P (call_at i calls) → (id ≡ i → P (f (call_at i calls))) → P (call_at i (changed id f calls))
changed_call P id f [] i h g = h
changed_call P zero f (a ∷ more) zero h g = g refl
changed_call P zero f (a ∷ more) (suc i) h g = h
changed_call P (suc id) f (a ∷ more) zero h g = h
changed_call P (suc id) f (a ∷ more) (suc i) h g = changed_call P id f more i h (λ e. g (ap suc e))

-- that of a call that is not over is there
pub there_changed : (id : ℕ) (f : Call → Call) (calls : List Call) → is_call_over (call_at id calls).state ≡ false → call_at id (changed id f calls) ≡ f (call_at id calls)
there_changed id f [] live = absurd (true≢false live)
there_changed zero f (a ∷ more) live = refl
there_changed (suc id) f (a ∷ more) live = there_changed id f more live

module _ (plan : Plan) (code : Flat) (seen : List ℕ) (id : ℕ) (f : Call → Call) (c : All Spot) (free : IsUnserved id c) (live : is_call_over (call_of id c).state ≡ false) (caller : (a : Call) → (f a).caller ≡ a.caller) (its : (object : ℕ) → (call_of id c).owner ≡ owner.Object object → (f (call_of id c)).owner ≡ owner.Object object) (waits : is_call_over (f (call_of id c)).state ≡ false → Waits (f (call_of id c)).owner (own_of (call_of id c).caller c)) (queue : QueueFits plan c (f (call_of id c))) (stays : (f (call_of id c)).state ≡ Queued → (own_of (call_of id c).caller c).abnormal ≡ true → (f (call_of id c)).stays ≡ true) where
  abbrev new : List Call
  new = changed id f c.shared.calls

  waits_then : (w : IsFramed plan code seen c) (i : ℕ) → is_call_over (call_at i (changed id f c.shared.calls)).state ≡ false → CallerWaits i (call_at i (changed id f c.shared.calls)) (own_of (call_at i (changed id f c.shared.calls)).caller c)
  waits_then w i =
      changed_call (λ a. is_call_over a.state ≡ false → CallerWaits i a (own_of a.caller c)) id f c.shared.calls i (w.calls i)
      (λ e. subst (λ k. is_call_over (f (call_of k c)).state ≡ false → CallerWaits k (f (call_of k c)) (own_of (f (call_of k c)).caller c)) e
      (λ h.
      subst (λ m. CallerWaits id (f (call_of id c)) (own_of m c)) (sym (caller (call_of id c)))
      ((w.calls id live).0, waits h)))

  live_then : (i : ℕ) → is_call_over (call_at i (changed id f c.shared.calls)).state ≡ false → (is_call_over (call_of i c).state ≡ false) × ((object : ℕ) → (call_of i c).owner ≡ owner.Object object → (call_at i (changed id f c.shared.calls)).owner ≡ owner.Object object) × ((call_at i (changed id f c.shared.calls)).caller ≡ (call_of i c).caller)
  live_then i =
      changed_call (λ a. is_call_over a.state ≡ false → (is_call_over (call_of i c).state ≡ false) × ((object : ℕ) → (call_of i c).owner ≡ owner.Object object → a.owner ≡ owner.Object object) × (a.caller ≡ (call_of i c).caller)) id f c.shared.calls i (λ h. (h, λ o e. e, refl))
      (λ e. subst (λ k. is_call_over (f (call_of k c)).state ≡ false → (is_call_over (call_of k c).state ≡ false) × ((object : ℕ) → (call_of k c).owner ≡ owner.Object object → (f (call_of k c)).owner ≡ owner.Object object) × ((f (call_of k c)).caller ≡ (call_of k c).caller)) e (λ h. (live, its, caller (call_of id c))))

  pub call_framed : IsFramed plan code seen c → IsFramed plan code seen (on_call id f c)
  call_framed w = record {
    tasks = w.tasks;
    objects = w.objects;
    calls = waits_then w;
    queued = λ i. changed_call (λ a. QueueFits plan c a) id f c.shared.calls i (w.queued i) (λ e. subst (λ k. QueueFits plan c (f (call_of k c))) e queue);
    stays = λ i.
        changed_call (λ a. a.state ≡ Queued → (own_of a.caller c).abnormal ≡ true → a.stays ≡ true) id f c.shared.calls i (w.stays i)
        (λ e. subst (λ k. (f (call_of k c)).state ≡ Queued → (own_of (f (call_of k c)).caller c).abnormal ≡ true → (f (call_of k c)).stays ≡ true) e
        (λ q ill. stays q (ap (λ m. (own_of m c).abnormal) (sym (caller (call_of id c))) ∙ ill)));
    serves = λ n alive. serves_live plan c new n (own_of n c) (counted id f c.shared.calls) live_then (others_same id f c (served_by (own_of n c)) (free n alive)) (w.serves n alive);
    alone = w.alone;
  }

-- A memory that keeps what is open shows what the definitions come to.
use Rattle.std.proofs.Common.{◌≡◌, ℕ, zero, suc, ◌+◌, List, [], ◌∷◌, length, slice_index_or, Bool, true, false, ◌||◌, refl, sym, ap, ◌∙◌, subst, arith, inl, inr}
use Rattle.std.specs.Prelude.{◌⊎◌, not}
use Rattle.aud_text.specs.declared.limits.Limits.{Limits}
use Rattle.aud_typed.specs.Tree.{Plan}
use Rattle.aud_meaning.specs.Configuration.{Frame, Call, All}
use Rattle.aud_meaning.specs.Control.{Controls}
use Rattle.aud_meaning.specs.Parts.{owns, no_call}
use Rattle.aud_meaning.specs.declared.state.Move.{Move}
use Rattle.aud_meaning.specs.Run.{moves_at, step_with}
use Rattle.aud_over.specs.Over.{is_call_over, is_served, frame_if, frames_left, call_if, calls_left, forgotten}
use Rattle.aud_over.specs.Looks.{Looks}
use Rattle.aud_over.specs.Law.{IsOneOf}
use Rattle.aud_over.specs.Standing.{around, StandsBut, Stands, Fits, is_open, with_open}
use Rattle.aud_over.proofs.Like.{kept_left}
use Rattle.aud_over.proofs.Left.{step_left}
use Rattle.aud_over.proofs.Naming.{named_is_open}
use Rattle.aud_over.proofs.Staying.{step_stands}

frames_length : (test : ℕ → Bool) (n : ℕ) (fs : List Frame) → length fs ≡ length (frames_left test n fs)
frames_length test n [] = refl
frames_length test n (f ∷ fs) = ap suc (frames_length test (suc n) fs)

frames_at : (test : ℕ → Bool) (n : ℕ) (fs : List Frame) (i : ℕ) → test (n + i) ≡ true → slice_index_or fs i [] ≡ slice_index_or (frames_left test n fs) i []
frames_at test n [] i h = refl
frames_at test n (f ∷ fs) zero h = let z : n ≡ n + 0 = omega arith in ap (λ b. frame_if b f) (sym (ap test z ∙ h))
frames_at test n (f ∷ fs) (suc i) h = frames_at test (suc n) fs i (let z : suc n + i ≡ n + suc i = omega arith in ap test z ∙ h)

calls_length : (served : ℕ → Bool) (n : ℕ) (cs : List Call) → length cs ≡ length (calls_left served n cs)
calls_length served n [] = refl
calls_length served n (c ∷ cs) = ap suc (calls_length served (suc n) cs)

abbrev Alike : (ℕ → Bool) → ℕ → Call → Call → Type 0
Alike served n a b = (a ≡ b) ⊎ ((served n ≡ false) × (is_call_over a.state ≡ true) × (is_call_over b.state ≡ true))

one_alike : (served : ℕ → Bool) (n : ℕ) (c : Call) → Alike served n c (call_if (not (is_call_over c.state) || served n) c)
one_alike served n c = by (is_call_over c.state) (served n) refl refl
  where
    by : (o s : Bool) → is_call_over c.state ≡ o → served n ≡ s → Alike served n c (call_if (not (is_call_over c.state) || served n) c)
    by false s e g = inl (ap (λ b. call_if (not b || served n) c) (sym e))
    by true true e g = inl (ap (λ b. call_if b c) (sym (ap (λ b. not b || served n) e ∙ g)))
    by true false e g = inr (g, e, subst (λ b. is_call_over (call_if b c).state ≡ true) (sym (ap (λ b. not b || served n) e ∙ g)) refl)

calls_at : (served : ℕ → Bool) (n : ℕ) (cs : List Call) (i : ℕ) → Alike served (n + i) (slice_index_or cs i no_call) (slice_index_or (calls_left served n cs) i no_call)
calls_at served n [] i = inl refl
calls_at served n (c ∷ cs) zero = let z : n ≡ n + 0 = omega arith in subst (λ k. Alike served k c (call_if (not (is_call_over c.state) || served n) c)) z (one_alike served n c)
calls_at served n (c ∷ cs) (suc i) = let z : suc n + i ≡ n + suc i = omega arith in subst (λ k. Alike served k (slice_index_or cs i no_call) (slice_index_or (calls_left served (suc n) cs) i no_call)) z (calls_at served (suc n) cs i)

module _ {C : Type 0} (pins : List ℕ) where
  pub with_open_left : (c : All C) → Stands pins c → forgotten c ≡ forgotten (with_open pins c)
  with_open_left c s =
      let test = is_open (owns c.tasks) (around pins c.shared.objects) in
      let served = is_served (owns c.tasks) in
      kept_left c (frames_left test 0 c.shared.frames) (calls_left served 0 c.shared.calls)
      (record { many = frames_length test 0 c.shared.frames; same = λ f h. frames_at test 0 c.shared.frames f (let z : 0 + f ≡ f = omega arith in ap test z ∙ named_is_open pins c f s h) })
      (record { many = calls_length served 0 c.shared.calls; same = λ i. let z : 0 + i ≡ i = omega arith in subst (λ k. Alike served k (slice_index_or c.shared.calls i no_call) (slice_index_or (calls_left served 0 c.shared.calls) i no_call)) z (calls_at served 0 c.shared.calls i) })

  pub with_open_stands : (c : All C) → Stands pins c → Stands pins (with_open pins c)
  with_open_stands c s = subst (StandsBut (λ masters. false) (owns c.tasks) (around pins c.shared.objects)) (frames_length (is_open (owns c.tasks) (around pins c.shared.objects)) 0 c.shared.frames) s

  pub memory : (plan : Plan) (k : Controls C) (limits : Limits) (c d : All C) (m : Move) → Looks k → forgotten c ≡ forgotten d → Stands pins d → Fits pins plan k m.task d → IsOneOf m (moves_at plan k c) → (forgotten (step_with plan k limits c m) ≡ forgotten (with_open pins (step_with plan k limits d m))) × Stands pins (with_open pins (step_with plan k limits d m))
  memory plan k limits c d m through same stands fits enabled =
      let e : All C = step_with plan k limits d m in
      let s : Stands pins e = step_stands pins plan k limits d m fits stands in
      (step_left plan k through limits c d m same enabled ∙ with_open_left e s, with_open_stands e s)

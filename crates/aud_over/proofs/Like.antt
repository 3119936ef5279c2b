-- Whatever else is kept, the same is left.
use Rattle.std.proofs.Common.{◌≡◌, ℕ, suc, ◌+◌, List, [], ◌∷◌, length, slice_index_or, Bool, true, false, ◌||◌, refl, sym, ap, ◌∙◌, subst, arith, inl, inr}
use Rattle.std.specs.Prelude.{◌⊎◌, not}
use Rattle.aud_meaning.specs.Configuration.{Frame, Call, All}
use Rattle.aud_meaning.specs.Parts.{owns, no_call}
use Rattle.aud_meaning.specs.Run.{supplied, advanced, main_raised}
use Rattle.aud_over.specs.Over.{is_named, is_call_over, is_served, frame_if, frames_left, call_if, calls_left, with_kept, forgotten}
use Rattle.aud_over.specs.Law.{LikeFrames, LikeCalls}

one_frame : (b : Bool) (f g : Frame) → (b ≡ true → f ≡ g) → frame_if b f ≡ frame_if b g
one_frame true f g h = h refl
one_frame false f g h = refl

frames_like : (named : ℕ → Bool) (n : ℕ) (fs gs : List Frame) → length fs ≡ length gs → ((i : ℕ) → named (n + i) ≡ true → slice_index_or fs i [] ≡ slice_index_or gs i []) → frames_left named n fs ≡ frames_left named n gs
frames_like named n [] [] e h = refl
frames_like named n [] (g ∷ gs) e h = absurd (let no : ⊥ = omega (arith, e) in no)
frames_like named n (f ∷ fs) [] e h = absurd (let no : ⊥ = omega (arith, e) in no)
frames_like named n (f ∷ fs) (g ∷ gs) e h =
    ap (λ x. x ∷ frames_left named (suc n) fs) (one_frame (named n) f g (λ k. h 0 (let z : n + 0 ≡ n = omega arith in ap named z ∙ k)))
    ∙ ap (λ xs. frame_if (named n) g ∷ xs) (frames_like named (suc n) fs gs (let z : length fs ≡ length gs = omega (arith, e) in z) (λ i k. h (suc i) (let z : n + suc i ≡ suc n + i = omega arith in ap named z ∙ k)))

abbrev Alike : (ℕ → Bool) → ℕ → Call → Call → Type 0
Alike served n a b = (a ≡ b) ⊎ ((served n ≡ false) × (is_call_over a.state ≡ true) × (is_call_over b.state ≡ true))

gone : (o s : Bool) (c : Call) → o ≡ true → s ≡ false → call_if (not o || s) c ≡ no_call
gone o s c e g = ap (λ b. call_if (not b || s) c) e ∙ ap (λ b. call_if b c) g

one_call : (served : ℕ → Bool) (n : ℕ) (a b : Call) → Alike served n a b → call_if (not (is_call_over a.state) || served n) a ≡ call_if (not (is_call_over b.state) || served n) b
one_call served n a b (inl e) = ap (λ (c : Call). call_if (not (is_call_over c.state) || served n) c) e
one_call served n a b (inr e) = gone (is_call_over a.state) (served n) a e.1 e.0 ∙ sym (gone (is_call_over b.state) (served n) b e.2 e.0)

calls_like : (served : ℕ → Bool) (n : ℕ) (xs ys : List Call) → length xs ≡ length ys → ((i : ℕ) → Alike served (n + i) (slice_index_or xs i no_call) (slice_index_or ys i no_call)) → calls_left served n xs ≡ calls_left served n ys
calls_like served n [] [] e h = refl
calls_like served n [] (y ∷ ys) e h = absurd (let no : ⊥ = omega (arith, e) in no)
calls_like served n (x ∷ xs) [] e h = absurd (let no : ⊥ = omega (arith, e) in no)
calls_like served n (x ∷ xs) (y ∷ ys) e h =
    ap (λ z. z ∷ calls_left served (suc n) xs) (one_call served n x y (let z : n + 0 ≡ n = omega arith in subst (λ k. Alike served k x y) z (h 0)))
    ∙ ap (λ zs. call_if (not (is_call_over y.state) || served n) y ∷ zs) (calls_like served (suc n) xs ys (let z : length xs ≡ length ys = omega (arith, e) in z) (λ i. let z : n + suc i ≡ suc n + i = omega arith in subst (λ k. Alike served k (slice_index_or xs i no_call) (slice_index_or ys i no_call)) z (h (suc i))))

pub kept_left : {C : Type 0} (c : All C) (frames : List Frame) (calls : List Call) → LikeFrames (is_named (owns c.tasks) c.shared.objects) c.shared.frames frames → LikeCalls (is_served (owns c.tasks)) c.shared.calls calls → forgotten c ≡ forgotten (with_kept frames calls c)
kept_left c frames calls f g =
    let named = is_named (owns c.tasks) c.shared.objects in
    let served = is_served (owns c.tasks) in
    ap (λ fs. with_kept fs (calls_left served 0 c.shared.calls) c) (frames_like named 0 c.shared.frames frames f.many (λ i k. f.same i (let z : i ≡ 0 + i = omega arith in ap named z ∙ k)))
    ∙ ap (λ cs. with_kept (frames_left named 0 frames) cs c) (calls_like served 0 c.shared.calls calls g.many (λ i. let z : i ≡ 0 + i = omega arith in subst (λ k. Alike served k (slice_index_or c.shared.calls i no_call) (slice_index_or calls i no_call)) z (g.same i)))

pub supplied_left : {C : Type 0} (c d : All C) (choices : List ℕ) (milliseconds : ℕ) → forgotten c ≡ forgotten d → (forgotten (supplied choices c) ≡ forgotten (supplied choices d)) × (forgotten (advanced milliseconds c) ≡ forgotten (advanced milliseconds d)) × (main_raised c.tasks ≡ main_raised d.tasks)
supplied_left {C} c d choices milliseconds h = (ap (λ (x : All C). supplied choices x) h, ap (λ (x : All C). advanced milliseconds x) h, ap (λ (x : All C). main_raised x.tasks) h)

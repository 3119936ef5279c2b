-- Lists of frames that are the same where they are read.
use Rattle.std.proofs.Common.{◌≡◌, ℕ, zero, suc, List, [], ◌∷◌, ◌++◌, length, slice_index_or, refl, ap}
use Rattle.std.specs.Prelude.{slice_set}
use Rattle.aud_meaning.specs.Configuration.{Frame}

-- the same at the numbers of which this holds, and as many
abbrev pub Agree : (ℕ → Type 0) → List Frame → List Frame → Type 0
Agree named [] [] = Unit {0}
Agree named [] (g ∷ gs) = ⊥
Agree named (f ∷ fs) [] = ⊥
Agree named (f ∷ fs) (g ∷ gs) = (named 0 → f ≡ g) × Agree (λ i. named (suc i)) fs gs

pub agree_at : (named : ℕ → Type 0) (fs gs : List Frame) → Agree named fs gs → (i : ℕ) → named i → slice_index_or fs i [] ≡ slice_index_or gs i []
agree_at named [] [] h i l = refl
agree_at named [] (g ∷ gs) h i l = absurd h
agree_at named (f ∷ fs) [] h i l = absurd h
agree_at named (f ∷ fs) (g ∷ gs) h zero l = h.0 l
agree_at named (f ∷ fs) (g ∷ gs) h (suc i) l = agree_at (λ j. named (suc j)) fs gs h.1 i l

pub agree_length : (named : ℕ → Type 0) (fs gs : List Frame) → Agree named fs gs → length fs ≡ length gs
agree_length named [] [] h = refl
agree_length named [] (g ∷ gs) h = absurd h
agree_length named (f ∷ fs) [] h = absurd h
agree_length named (f ∷ fs) (g ∷ gs) h = ap suc (agree_length (λ j. named (suc j)) fs gs h.1)

pub agree_itself : (named : ℕ → Type 0) (fs : List Frame) → Agree named fs fs
agree_itself named [] = tt
agree_itself named (f ∷ fs) = (λ l. refl, agree_itself (λ j. named (suc j)) fs)

pub agree_behind : (named : ℕ → Type 0) (fs gs more : List Frame) → Agree named fs gs → Agree named (fs ++ more) (gs ++ more)
agree_behind named [] [] more h = agree_itself named more
agree_behind named [] (g ∷ gs) more h = absurd h
agree_behind named (f ∷ fs) [] more h = absurd h
agree_behind named (f ∷ fs) (g ∷ gs) more h = (h.0, agree_behind (λ j. named (suc j)) fs gs more h.1)

pub agree_set : (named : ℕ → Type 0) (fs gs : List Frame) (i : ℕ) (v w : Frame) → Agree named fs gs → (named i → v ≡ w) → Agree named (slice_set fs i v) (slice_set gs i w)
agree_set named [] [] i v w h e = tt
agree_set named [] (g ∷ gs) i v w h e = absurd h
agree_set named (f ∷ fs) [] i v w h e = absurd h
agree_set named (f ∷ fs) (g ∷ gs) zero v w h e = (e, h.1)
agree_set named (f ∷ fs) (g ∷ gs) (suc i) v w h e = (h.0, agree_set (λ j. named (suc j)) fs gs i v w h.1 e)

pub agree_fewer : (named fewer : ℕ → Type 0) (fs gs : List Frame) → ((i : ℕ) → fewer i → named i) → Agree named fs gs → Agree fewer fs gs
agree_fewer named fewer [] [] less h = tt
agree_fewer named fewer [] (g ∷ gs) less h = absurd h
agree_fewer named fewer (f ∷ fs) [] less h = absurd h
agree_fewer named fewer (f ∷ fs) (g ∷ gs) less h = (λ l. h.0 (less 0 l), agree_fewer (λ j. named (suc j)) (λ j. fewer (suc j)) fs gs (λ i. less (suc i)) h.1)

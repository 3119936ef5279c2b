-- The parts of lines, in the order in which they are written.
use Rattle.std.proofs.Common.{◌≡◌, ℕ, List, [], ◌∷◌, ◌++◌, Bool, true, false, Result, ◌&&◌, not, if◌then◌else◌, refl, ap, sym, ◌∙◌, append_assoc, codes}
use Rattle.aud_text.specs.declared.raise.Raise.{Raise}
use Rattle.aud_typed.specs.Tree.{Plan}
use Rattle.aud_meaning.specs.Configuration.{Own}
use Rattle.aud_meaning.specs.Evaluation.{Sight}
use Rattle.aud_meaning.specs.Listings.{abnormal_word, is_done, spaced}

pub head_grouped : (o n name : List ℕ) → (((o ++ n) ++ 32 ∷ []) ++ name) ++ 32 ∷ [] ≡ o ++ (n ++ 32 ∷ (name ++ 32 ∷ []))
head_grouped o n name = simp append_assoc

pub task_grouped : (o n name status at : List ℕ) → (((o ++ (n ++ 32 ∷ (name ++ 32 ∷ []))) ++ status) ++ 32 ∷ []) ++ at ≡ o ++ spaced n (spaced name (spaced status at))
task_grouped o n name status at = simp append_assoc

pub move_grouped : (o i n name at word picked : List ℕ) → (((((o ++ i) ++ 32 ∷ []) ++ (n ++ 32 ∷ (name ++ 32 ∷ []))) ++ at) ++ 32 ∷ []) ++ word ++ picked ≡ o ++ spaced i (spaced n (spaced name (spaced at (word ++ picked))))
move_grouped o i n name at word picked = simp append_assoc

pub element_grouped : (o n : List ℕ) → ((o ++ 40 ∷ []) ++ n) ++ 41 ∷ [] ≡ o ++ 40 ∷ (n ++ 41 ∷ [])
element_grouped o n = simp append_assoc

abnormal_by : (a d : Bool) → (if a then (if d then [] else codes " abnormal") else []) ≡ (if a && not d then codes " abnormal" else [])
abnormal_by true true = refl
abnormal_by true false = refl
abnormal_by false d = refl

pub abnormal_is : (plan : Plan) (barrier : ℕ → Sight → Result Bool Raise) (own : Own) (b : Bool) → b ≡ (own.abnormal && not (is_done plan barrier own.status)) → abnormal_word plan barrier own ≡ (if b then codes " abnormal" else [])
abnormal_is plan barrier own b is = abnormal_by own.abnormal (is_done plan barrier own.status) ∙ ap (λ x. if x then codes " abnormal" else []) (sym is)

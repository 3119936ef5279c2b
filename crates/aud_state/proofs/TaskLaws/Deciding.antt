-- The barrier of an entry, as it is evaluated.
use Rattle.std.proofs.Common.{◌≡◌, ℕ, zero, suc, ◌≤◌, List, [], ◌∷◌, length, map, Bool, true, false, Some, None, Result, Ok, refl, ap, sym, ◌∙◌, subst, slice_get, slice_index_or}
use Rattle.aud_text.specs.declared.raise.Raise.{Raise}
use Rattle.aud_meaning.specs.Configuration.{All, Frame}
use Rattle.aud_meaning.specs.Evaluation.{Sight}
use Rattle.aud_meaning.specs.Parts.{facts_in, facts_of, object_of, owns}
use Rattle.aud_meaning.specs.Ties.Part.{Part}
use Rattle.aud_code.specs.Flat.{Flat, FlatLine, barrier_at, decided_by, instructions_from, no_scene}
use Rattle.aud_code.specs.Eval.{eval}
use Rattle.aud_code.specs.Instruction.{PushTruth, no_operands}
use Rattle.aud_code.specs.Places.{Spot}
use Rattle.aud_expr.specs.Flow.{InSight, evaluated_in}
use Rattle.aud_calls.specs.View.{Kept}
use Rattle.aud_state.specs.declared.object.Object.{Object}
use Rattle.aud_state.specs.declared.task.Task.{Task}
use Rattle.aud_state.specs.View.{plain_task, all_of}

same_some : {A : Type 0} (x y : A) → Some x ≡ Some y → x ≡ y
same_some x y e = cc

index_there : {A : Type 0} (xs : List A) (n : ℕ) (d x : A) → slice_get xs n ≡ Some x → slice_index_or xs n d ≡ x
index_there [] n d x e = absurd (cc e)
index_there (y ∷ ys) zero d x e = same_some y x e
index_there (y ∷ ys) (suc n) d x e = index_there ys n d x e

index_past : {A : Type 0} (xs : List A) (n : ℕ) (d : A) → slice_get xs n ≡ None → slice_index_or xs n d ≡ d
index_past [] n d e = refl
index_past (y ∷ ys) zero d e = absurd (cc e)
index_past (y ∷ ys) (suc n) d e = index_past ys n d e

module _ (code : Flat) (entry : ℕ) where
  -- one of no entry of this number
  pub holds : (s : Sight) → slice_get code.barriers entry ≡ None → Ok true ≡ barrier_at code entry s
  holds s past = sym (ap (λ b. decided_by (eval false (no_scene s) b 0 no_operands)) (index_past code.barriers entry (PushTruth true ∷ []) past))

  module _ (lines : List FlatLine) (found : slice_get code.barriers entry ≡ Some (instructions_from lines)) where
    pub few : (ticks : ℕ) → ticks ≤ length (instructions_from lines) → ticks ≤ length (slice_index_or code.barriers entry [])
    few ticks h = subst (λ b. ticks ≤ length b) (sym (index_there code.barriers entry [] (instructions_from lines) found)) h

    -- with what its object sees
    pub decided : (ts : List Task) (p : Part Spot) (k : Kept) (os : List Object) (object : ℕ) (c : All Spot) → all_of ts p k os ≡ c → (met : Result Bool Raise) (lent : List Task) (display : List ℕ) (frames : List Frame) → lent ≡ ts → display ≡ (object_of object c).display → frames ≡ p.frames →
        InSight (facts_in (owns (map plain_task lent)) k.calls) 0 0 display frames (λ s. met ≡ decided_by (evaluated_in false lines 0 s)) →
        met ≡ barrier_at code entry (record { display = (object_of object c).display; frames = c.shared.frames; facts = facts_of c })
    decided ts p k os object c is met lent display frames all seen framed h =
        let there : Sight = record { display = (object_of object c).display; frames = c.shared.frames; facts = facts_of c } in
        h (no_scene there)
        (sym seen)
        (ap (λ (a : All Spot). a.shared.frames) (sym is) ∙ sym framed)
        (ap (λ (a : All Spot). facts_of a) (sym is) ∙ ap (λ us. facts_in (owns (map plain_task us)) k.calls) (sym all))
        refl
        refl
        ∙ sym (ap (λ b. decided_by (eval false (no_scene there) b 0 no_operands)) (index_there code.barriers entry (PushTruth true ∷ []) (instructions_from lines) found))

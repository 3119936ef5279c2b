-- The entries of an object that may be served are some of its entries, by their indexes, and so are the alternatives of moves that serve.
use Rattle.std.proofs.Common.{◌≡◌, ◌≤◌, ◌+◌, ℕ, zero, suc, List, [], ◌∷◌, length, map, None, Result, Ok, Err, Bool, true, false, refl, ap, ◌∙◌, subst, arith}
use Rattle.std.proofs.lemmas.Bool.{eq-eqb, eqb-true, false≢true, or_left, or_right}
use Rattle.std.proofs.lemmas.Option.{same_Some}
use Rattle.std.specs.Prelude.{◌||◌, nat_eq}
use Rattle.aud_text.specs.declared.raise.Raise.{Raise}
use Rattle.aud_typed.specs.Tree.{Plan}
use Rattle.aud_meaning.specs.declared.state.Move.{Move}
use Rattle.aud_meaning.specs.declared.state.Serving.{Serving}
use Rattle.aud_meaning.specs.Configuration.{All}
use Rattle.aud_meaning.specs.Control.{Seen}
use Rattle.aud_meaning.specs.Evaluation.{Sight}
use Rattle.aud_meaning.specs.Parts.{Waiting, contains, queue}
use Rattle.aud_meaning.specs.Run.{picks, serve_moves, serving}
use Rattle.aud_meaning.specs.Tasks as effect
use Rattle.aud_meaning.proofs.Open.Picked.{AllMoves}
use Rattle.aud_framed.specs.Enabled.{TurnTells}
use Rattle.aud_framed.specs.StepsOfObjects.{EligibleLaw}

abbrev AreFrom : ℕ → ℕ → List ℕ → Type 0
AreFrom index n places = (i : ℕ) → contains i places ≡ true → (index ≤ i) × (suc i ≤ index + n)

later : (index n : ℕ) (places : List ℕ) → AreFrom (suc index) n places → AreFrom index (suc n) places
later index n places h i e =
    let a = (h i e).0 in
    let b = (h i e).1 in
    let low : index ≤ i = omega (arith, a) in
    let high : suc i ≤ index + suc n = omega (arith, b) in
    (low, high)

abbrev places_of : Result (List ℕ) Raise → List ℕ
places_of (Ok ns) = ns
places_of (Err x) = []

first_and : (index n : ℕ) (ns : List ℕ) → AreFrom (suc index) n ns → AreFrom index (suc n) (index ∷ ns)
first_and index n ns h i e = by (nat_eq i index) refl e
  where
    by : (b : Bool) → nat_eq i index ≡ b → b || contains i ns ≡ true → (index ≤ i) × (suc i ≤ index + suc n)
    by true q e =
        let same : i ≡ index = eqb-true i index q in
        let low : index ≤ i = omega (arith, same) in
        let high : suc i ≤ index + suc n = omega (arith, same) in
        (low, high)
    by false q e = later index n ns h i e

one_more : (ws : List Waiting) (b : Result Bool Raise) (rest : Result (List ℕ) Raise) (index n : ℕ) → ((ps : List ℕ) → rest ≡ Ok ps → AreFrom (suc index) n ps) → (ps : List ℕ) → effect.eligible_if ws b index rest ≡ Ok ps → AreFrom index (suc n) ps
one_more [] b rest index n h ps e = later index n ps (h ps e)
one_more (w ∷ ws) (Err x) rest index n h ps e = absurd cc
one_more (w ∷ ws) (Ok false) rest index n h ps e = later index n ps (h ps e)
one_more (w ∷ ws) (Ok true) (Err x) index n h ps e = absurd cc
one_more (w ∷ ws) (Ok true) (Ok ns) index n h ps e = subst (λ qs. AreFrom index (suc n) qs) (ap (λ r. places_of r) e) (first_and index n ns (h ns refl))

all_from : {C : Type 0} (plan : Plan) (barrier : ℕ → Sight → Result Bool Raise) (index : ℕ) (es : List ℕ) (object : ℕ) (c : All C) (ps : List ℕ) → effect.eligible_from plan barrier index es object c ≡ Ok ps → AreFrom index (length es) ps
all_from plan barrier index [] object c ps e = λ i h. absurd (false≢true (ap (λ r. contains i (places_of r)) e ∙ h))
all_from plan barrier index (entry ∷ es) object c ps e =
    one_more (queue object entry c.shared.calls) (effect.barrier_of plan barrier object entry c) (effect.eligible_from plan barrier (suc index) es object c) index (length es) (all_from plan barrier (suc index) es object c) ps e

-- whatever control is
pub eligible_in : {C : Type 0} (plan : Plan) (barrier : ℕ → Sight → Result Bool Raise) (object : ℕ) (c : All C) (ps : List ℕ) (i : ℕ) → effect.eligible plan barrier object c ≡ Ok ps → contains i ps ≡ true → (1 ≤ i) × (i ≤ length (effect.entries_of plan barrier object c))
eligible_in plan barrier object c ps i e h =
    let k = all_from plan barrier 1 (effect.entries_of plan barrier object c) object c ps e i h in
    let b = k.1 in
    let high : i ≤ length (effect.entries_of plan barrier object c) = omega (arith, b) in
    (k.0, high)

pub eligible_are : EligibleLaw
eligible_are plan barrier object c ps i e h = eligible_in plan barrier object c ps i e h

-- The moves of a task that serves.
module _ (plan : Plan) (barrier : ℕ → Sight → Result Bool Raise) (n : ℕ) (v : Serving) (s : All Seen) where
  abbrev Tells : Move → Type 0
  Tells m = TurnTells plan m.alternative n s (serving v)

  abbrev IsIndex : ℕ → Type 0
  IsIndex i = (1 ≤ i) × (i ≤ length (effect.entries_of plan barrier v.object s))

  none_tells : TurnTells plan None n s (serving v)
  none_tells index e = absurd cc

  picked_tells : (i : ℕ) → IsIndex i → Tells (picks n i)
  picked_tells zero h = none_tells
  picked_tells (suc k) h = λ index e. subst (λ j. IsIndex j) (same_Some (suc k) index e) h

  each_tells : (is : List ℕ) → ((i : ℕ) → contains i is ≡ true → IsIndex i) → AllMoves Tells (map (picks n) is)
  each_tells [] h = tt
  each_tells (i ∷ is) h =
      (picked_tells i (h i (or_left (nat_eq i i) (contains i is) (eq-eqb i i refl))), each_tells is (λ j e. h j (or_right (nat_eq j i) (contains j is) e)))

  pub serve_tells : AllMoves Tells (serve_moves plan barrier (effect.eligible plan barrier v.object s) n)
  serve_tells = by (effect.eligible plan barrier v.object s) refl
    where
      by : (r : Result (List ℕ) Raise) → effect.eligible plan barrier v.object s ≡ r → AllMoves Tells (serve_moves plan barrier r n)
      by (Err x) e = (none_tells, tt)
      by (Ok []) e = (none_tells, tt)
      by (Ok (i ∷ is)) e = each_tells (i ∷ is) (λ j h. eligible_in plan barrier v.object s (i ∷ is) j e h)

-- Tasks hold their frames in each configuration that a program comes to.
use Rattle.std.proofs.Common.{◌≡◌, ℕ, zero, suc, ◌%◌, List, [], ◌∷◌, ◌++◌, length, Option, Some, None, refl, sym, ap, ◌∙◌, subst, inl, inr, slice_get, slice_index_or}
use Rattle.std.proofs.lemmas.Option.{same_Some}
use Rattle.aud_text.specs.declared.limits.Limits.{Limits}
use Rattle.aud_typed.specs.Tree.{Plan}
use Rattle.aud_meaning.specs.declared.state.Move.{Move}
use Rattle.aud_meaning.specs.Configuration.{TaskAt, All}
use Rattle.aud_meaning.specs.Control.{begins_body}
use Rattle.aud_meaning.specs.Run.{advanced, moves_at, opening_with, run_by, run_with, step_of, step_with, supplied, take_by, take_one}
use Rattle.aud_code.specs.Places.{Spot}
use Rattle.aud_code.specs.Flat.{Flat, flat_controls}
use Rattle.aud_code.specs.Seen.{IsSeen}
use Rattle.aud_code.specs.Sound.{Counts, IsSound}
use Rattle.aud_code.specs.Starts.{AreSpots}
use Rattle.aud_code.proofs.Starts.{moved_kept}
use Rattle.aud_over.specs.Law.{IsOneOf}
use Rattle.aud_over.specs.Over.{forgotten}
use Rattle.aud_over.proofs.Coding.{code_looks}
use Rattle.aud_over.proofs.Left.{moves_left, step_left}
use Rattle.aud_over.proofs.Like.{supplied_left}
use Rattle.aud_framed.specs.Framed.{HasLevels}
use Rattle.aud_framed.specs.Stepping.{HasWays, IsKept}
use Rattle.aud_framed.specs.Runs.{AllMeet, Comes, GoesOn, MeetsIf, Reached, begins, chooses, steps, waits}
use Rattle.aud_framed.proofs.Kept.{framed_kept}
use Rattle.aud_framed.proofs.Opening.{opening_framed}
use Rattle.aud_framed.proofs.Running.Unchosen.{unchosen}
use Rattle.aud_framed.proofs.Stepping.Turning.{framed_step}
use Rattle.aud_framed.proofs.Stepping.Parts.{like_framed}

-- Moves by their numbers.

pub one_of : (m : Move) (ms : List Move) (number : ℕ) → slice_get ms number ≡ Some m → IsOneOf m ms
one_of m [] number e = absurd cc
one_of m (x ∷ xs) zero e = inl (sym (same_Some x m e))
one_of m (x ∷ xs) (suc n) e = inr (one_of m xs n e)

pub number_of : (m : Move) (ms : List Move) → IsOneOf m ms → (number : ℕ) × (slice_get ms number ≡ Some m)
number_of m [] h = absurd h
number_of m (x ∷ xs) (inl e) = (0, ap (λ y. Some y) (sym e))
number_of m (x ∷ xs) (inr h) = let r = number_of m xs h in (suc r.0, r.1)

-- Configurations that a program comes to.

module _ (plan : Plan) (code : Flat) (table : List Counts) (tasks barriers seen : List ℕ) (name : List ℕ) (limits : Limits) (sound : IsSound code) (fits : IsSeen code table tasks barriers seen) (levels : HasLevels plan code tasks seen) (ways : HasWays code) where
  pub opens : IsKept plan code seen (opening_with plan name ((flat_controls plan code).begins 0))
  opens = record {
    framed = opening_framed plan code table tasks barriers seen name sound fits;
    spots = (moved_kept code sound plan (begins_body 0) (record { place = 0; returns = [] }) (record { place = inl tt; returns = tt }), tt);
  }

  -- a step of a task that is not there does nothing
  pub stepped : (number : ℕ) (m : Move) (c : All Spot) → slice_get (moves_at plan (flat_controls plan code) c) number ≡ Some m → MeetsIf plan code (slice_get c.tasks m.task) m.task c → IsKept plan code seen c → IsKept plan code seen (step_with plan (flat_controls plan code) limits c m)
  stepped number m c enabled meets w = by (slice_get c.tasks m.task) refl meets
    where
      by : (o : Option (TaskAt Spot)) → slice_get c.tasks m.task ≡ o → MeetsIf plan code o m.task c → IsKept plan code seen (step_with plan (flat_controls plan code) limits c m)
      by None e h = subst (λ o. IsKept plan code seen (step_of plan (flat_controls plan code) limits o m c)) (sym e) w
      by (Some t) e h = framed_step plan code table tasks barriers seen limits c number m t sound fits levels ways w enabled e h

  -- neither choices nor the clock count
  pub other : (c d : All Spot) → c.tasks ≡ d.tasks → c.shared ≡ d.shared → IsKept plan code seen c → IsKept plan code seen d
  other c d a b w = record {
    framed = like_framed plan code seen c d a (ap (λ s. s.calls) b) (ap (λ s. s.objects) b) w.framed;
    spots = subst (AreSpots code.lines) a w.spots;
  }

  module _ (meet : AllMeet plan code name limits) where
    pub reached_kept : (c : All Spot) → Reached plan code name limits c → IsKept plan code seen c
    reached_kept c begins = opens
    reached_kept c (chooses choices d r) = other d (record d { choices = choices }) refl refl (reached_kept d r)
    reached_kept c (waits milliseconds d r) = other d (advanced milliseconds d) refl refl (reached_kept d r)
    reached_kept c (steps number m d enabled r) = stepped number m d enabled (meet d number m r enabled) (reached_kept d r)

    pub comes_kept : (d : All Spot) → Comes plan code name limits d → IsKept plan code seen d
    comes_kept d h = record {
      framed = framed_kept plan code seen h.0 d h.2 (reached_kept h.0 h.1).framed;
      spots = subst (AreSpots code.lines) (ap (λ (x : All Spot). x.tasks) h.2) (reached_kept h.0 h.1).spots;
    }

-- The same is left of them.

module _ (plan : Plan) (code : Flat) (name : List ℕ) (limits : Limits) where
  abbrev Is : All Spot → Type 0
  Is c = Comes plan code name limits c

  abbrev moves_of : All Spot → List Move
  moves_of c = moves_at plan (flat_controls plan code) c

  abbrev after : All Spot → Move → All Spot
  after c m = step_with plan (flat_controls plan code) limits c m

  kept : (c d : All Spot) → forgotten d ≡ forgotten c → Is c → Is d
  kept c d e h = (h.0, h.1, h.2 ∙ sym e)

  supplied_comes : (choices : List ℕ) (c : All Spot) → Is c → Is (supplied choices c)
  supplied_comes choices c h = (supplied choices h.0, chooses (h.0.choices ++ choices) h.0 h.1, (supplied_left h.0 c choices 0 h.2).0)

  waits_comes : (milliseconds : ℕ) (c : All Spot) → Is c → Is (advanced milliseconds c)
  waits_comes milliseconds c h = (advanced milliseconds h.0, waits milliseconds h.0 h.1, (supplied_left h.0 c [] milliseconds h.2).1)

  -- the next choices are used up
  chooses_comes : (choices : List ℕ) (c : All Spot) → Is c → Is (record c { choices = choices })
  chooses_comes choices c h = (record h.0 { choices = choices }, chooses choices h.0 h.1, ap (λ (x : All Spot). record x { choices = choices }) h.2)

  one_comes : (m : Move) (c : All Spot) → IsOneOf m (moves_of c) → Is c → Is (after c m)
  one_comes m c enabled h =
      let there : IsOneOf m (moves_of h.0) = subst (IsOneOf m) (sym (moves_left plan (flat_controls plan code) (code_looks plan code) h.0 c h.2)) enabled in
      let at = number_of m (moves_of h.0) there in
      (after h.0 m, steps at.0 m h.0 at.1 h.1, step_left plan (flat_controls plan code) (code_looks plan code) limits h.0 c m h.2 there)

  -- one of the moves that are enabled
  abbrev AreEnabled : List Move → All Spot → Type 0
  AreEnabled ms c = (m : Move) → IsOneOf m ms → IsOneOf m (moves_of c)

  picked : (ms : List Move) (i : ℕ) (first : Move) (c : All Spot) → IsOneOf first (moves_of c) → AreEnabled ms c → IsOneOf (slice_index_or ms i first) (moves_of c)
  picked [] i first c f all = f
  picked (m ∷ ms) zero first c f all = all m (inl refl)
  picked (m ∷ ms) (suc i) first c f all = picked ms i first c f (λ x j. all x (inr j))

  taken_by : (first : Move) (ms : List Move) (choices : List ℕ) (c : All Spot) → IsOneOf first (moves_of c) → AreEnabled ms c → Is c → Is (take_by plan (flat_controls plan code) limits first ms choices c)
  taken_by first ms [] c f all h = one_comes first c f h
  taken_by first ms (x ∷ choices) c f all h =
      let m = slice_index_or ms (x % length ms) first in
      one_comes m (record c { choices = choices }) (subst (IsOneOf m) (unchosen plan (flat_controls plan code) choices c) (picked ms (x % length ms) first c f all)) (chooses_comes choices c h)

  taken : (m : Move) (ms : List Move) (c : All Spot) → AreEnabled (m ∷ ms) c → Is c → Is (take_one plan (flat_controls plan code) limits m ms c)
  taken m [] c all h = one_comes m c (all m (inl refl)) h
  taken m (n ∷ ms) c all h = taken_by m (m ∷ n ∷ ms) c.choices c (all m (inl refl)) all h

  ran_by : (go : All Spot → All Spot) (ms : List Move) (c : All Spot) → AreEnabled ms c → ((d : All Spot) → Is d → Is (go d)) → Is c → Is (run_by plan (flat_controls plan code) limits go ms c)
  ran_by go [] c all on h = h
  ran_by go (m ∷ ms) c all on h = on (take_one plan (flat_controls plan code) limits m ms c) (taken m ms c all h)

  runs : (n : ℕ) (c : All Spot) → Is c → Is (run_with plan (flat_controls plan code) limits n c)
  runs zero c h = h
  runs (suc n) c h = ran_by (run_with plan (flat_controls plan code) limits n) (moves_of c) c (λ m i. i) (runs n) h

  pub comes : GoesOn plan code name limits
  comes = record {
    begins = (opening_with plan name ((flat_controls plan code).begins 0), begins, refl);
    kept = kept;
    supplies = supplied_comes;
    waits = waits_comes;
    steps = λ number m c e h. one_comes m c (one_of m (moves_of c) number e) h;
    runs = runs;
  }

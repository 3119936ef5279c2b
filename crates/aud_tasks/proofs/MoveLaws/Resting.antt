-- A task that rests has no move.
use Rattle.std.proofs.Common.{◌≡◌, ◌<◌, ◌≤◌, ◌+◌, ◌-◌, ◌++◌, length, ℕ, zero, suc, arith, List, [], ◌∷◌, None, Bool, true, false, if◌then◌else◌, refl, ap, sym, ◌∙◌}
use Rattle.std.proofs.lemmas.Bool.{false≢true}
use Rattle.std.specs.Prelude.{◌||◌, ◌&&◌, filter, map, nat_le, not}
use Rattle.aud_typed.specs.Tree.{Plan}
use Rattle.aud_meaning.specs.declared.state.Form.{Form}
use Rattle.aud_meaning.specs.declared.state.Form.TheVariants.{Plain, Conditional, TimedTo}
use Rattle.aud_meaning.specs.declared.state.OpenDelay.{OpenDelay}
use Rattle.aud_meaning.specs.declared.state.Status.{Status}
use Rattle.aud_meaning.specs.declared.state.Status.TheVariants.{Accepting, Activating, Calling, Completed, Created, Delaying, Running, Terminated}
use Rattle.aud_meaning.specs.Configuration.{All, Call}
use Rattle.aud_meaning.specs.Control.{Seen}
use Rattle.aud_meaning.specs.Parts.{any, call_of, is_queued, own_of}
use Rattle.aud_meaning.specs.Run.{Turn, resting, cancelling, expiring, call_time, call_time_by, own_move, owner_idle, picks, seen, turn_moves}
use Rattle.aud_code.specs.Places.{Spot}
use Rattle.aud_code.specs.Flat.{Flat, barrier_at, flat_controls}
use Rattle.aud_calls.specs.Cancelling.{time_by}
use Rattle.aud_state.specs.Resting.{has_come, is_later, Rests, RestsBy}
use Rattle.aud_tasks.specs.Moving.{moves_of}
use Rattle.aud_tasks.specs.Turning.{turn_in}
use Rattle.aud_tasks.proofs.MoveLaws.Moving.{from, moves_next}
use Rattle.aud_tasks.proofs.StepLaws.Turning.{turn_as, usual_as, usual_normal}

-- no delay's time has come
one_of : (n : ℕ) (come : Bool) (d : OpenDelay) (ds more : List OpenDelay) (clock : ℕ) → ((any (has_come clock) ds ≡ false) → map (λ (e : OpenDelay). picks n e.alternative) more ≡ []) → (come || any (has_come clock) ds) ≡ false → map (λ (e : OpenDelay). picks n e.alternative) (if come then d ∷ more else more) ≡ []
one_of n true d ds more clock others h = absurd (false≢true (sym h))
one_of n false d ds more clock others h = others h

none_of : (clock : ℕ) (n : ℕ) (ds : List OpenDelay) → any (has_come clock) ds ≡ false → map (λ (d : OpenDelay). picks n d.alternative) (filter (λ (d : OpenDelay). nat_le d.time clock) ds) ≡ []
none_of clock n [] none = refl
none_of clock n (d ∷ ds) none = one_of n (nat_le d.time clock) d ds (filter (λ (e : OpenDelay). nat_le e.time clock) ds) clock (none_of clock n ds) none

module _ (plan : Plan) (code : Flat) (n : ℕ) (c : All Spot) where
  abbrev d : All Seen
  d = seen plan (flat_controls plan code) c

  -- nor that of a call
  late_by : (f : Form) → is_later c.clock (time_by f) ≡ true → filter (λ (t : ℕ). nat_le t c.clock) (call_time_by f) ≡ []
  late_by Plain late = refl
  late_by (Conditional time) late = refl
  late_by (TimedTo time) late = by (nat_le time c.clock) late
    where
      by : (b : Bool) → not b ≡ true → (if b then time ∷ [] else []) ≡ []
      by true h = absurd (false≢true h)
      by false h = refl

  late : (call : Call) → is_later c.clock (time_by call.form) ≡ true → filter (λ (t : ℕ). nat_le t c.clock) (call_time plan (barrier_at code) call d) ≡ []
  late call is_late = by (is_queued call.state && not call.stays && owner_idle plan (barrier_at code) call.owner d)
    where
      by : (b : Bool) → filter (λ (t : ℕ). nat_le t c.clock) (if b then call_time_by call.form else []) ≡ []
      by true = late_by call.form is_late
      by false = refl

  moves_by : (u : Turn) → turn_in plan code n c ≡ u → turn_moves plan (barrier_at code) u n d ≡ [] → moves_of plan code n c ≡ []
  moves_by u is none = ap (λ v. turn_moves plan (barrier_at code) v n d) is ∙ none

  rests_by : (s : Status) → (own_of n c).status ≡ s → RestsBy s c.clock c.shared.calls (own_of n c) → moves_of plan code n c ≡ []
  rests_by Created is h = moves_by resting (turn_as plan code n c Created is) refl
  rests_by Running is h = absurd h
  rests_by Activating is h =
      moves_by resting (turn_as plan code n c Activating is ∙ usual_normal plan code n c h.0 ∙ usual_as plan code n c None Activating h.1 is) refl
  rests_by Accepting is h =
      moves_by (expiring (own_of n c).waits.delays) (turn_as plan code n c Accepting is ∙ usual_normal plan code n c h.0.0 ∙ usual_as plan code n c None Accepting h.0.1 is) (none_of c.clock n (own_of n c).waits.delays h.1)
  rests_by Delaying is h =
      moves_by (expiring (own_of n c).waits.delays) (turn_as plan code n c Delaying is ∙ usual_normal plan code n c h.0.0 ∙ usual_as plan code n c None Delaying h.0.1 is) (none_of c.clock n (own_of n c).waits.delays h.1)
  rests_by Calling is h =
      moves_by (cancelling (own_of n c).call) (turn_as plan code n c Calling is ∙ usual_normal plan code n c h.0.0 ∙ usual_as plan code n c None Calling h.0.1 is)
      (ap (map (λ (t : ℕ). own_move n)) (late (call_of (own_of n c).call c) h.1))
  rests_by Completed is h = absurd h
  rests_by Terminated is h = moves_by resting (turn_as plan code n c Terminated is) refl

  pub rests_none : Rests n c → moves_of plan code n c ≡ []
  rests_none h = rests_by (own_of n c).status refl h

  -- so those behind it are all
  rests_behind : Rests n c → n < length c.tasks → from plan code c n ≡ from plan code c (n + 1)
  rests_behind h within = moves_next plan code c n within ∙ ap (λ ms. ms ++ from plan code c (n + 1)) (rests_none h)

-- all that rest from one number up to another are passed
module _ (plan : Plan) (code : Flat) (c : All Spot) where
  passed : (k i : ℕ) → ((n : ℕ) → i ≤ n → n < i + k → Rests n c) → i + k ≤ length c.tasks → from plan code c i ≡ from plan code c (i + k)
  passed zero i rest within =
      let same : i ≡ i + 0 = omega arith in
      ap (from plan code c) same
  passed (suc k) i rest within =
      let same : (i + 1) + k ≡ i + suc k = omega arith in
      rests_behind plan code i c (rest i (omega arith) (omega arith)) (omega (arith, within))
      ∙ passed k (i + 1) (λ n low high. rest n (omega (arith, low)) (omega (arith, high))) (omega (arith, within))
      ∙ ap (from plan code c) same

  pub rests_between : (i j : ℕ) → i ≤ j → (i < j → j ≤ length c.tasks) → ((n : ℕ) → i ≤ n → n < j → Rests n c) → from plan code c i ≡ from plan code c j
  rests_between i j on within rest = by (j - i) (omega (arith, on))
    where
      by : (k : ℕ) → i + k ≡ j → from plan code c i ≡ from plan code c j
      by zero same =
          let is : i ≡ j = omega (arith, same) in
          ap (from plan code c) is
      by (suc k) same =
          passed (suc k) i (λ n low high. rest n low (omega (arith, high, same))) (omega (arith, same, within (omega (arith, same))))
          ∙ ap (from plan code c) same

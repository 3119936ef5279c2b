-- The soonest of the times that tasks wait for.
use Rattle.std.proofs.Common.{◌≡◌, ◌<◌, ◌+◌, ℕ, List, [], ◌∷◌, ◌++◌, length, drop, map, get_or, Option, Some, None, refl, ap}
use Rattle.std.proofs.lemmas.List.{at_drop_more}
use Rattle.std.specs.Prelude.{min}
use Rattle.aud_meaning.specs.declared.state.OpenDelay.{OpenDelay}
use Rattle.aud_meaning.specs.declared.state.State.{State}
use Rattle.aud_meaning.specs.declared.state.State.TheVariants as state
use Rattle.aud_meaning.specs.Configuration.{All}
use Rattle.aud_meaning.specs.Run.{least, seen, turn_times, waiting_by}
use Rattle.aud_typed.specs.Tree.{Plan}
use Rattle.aud_code.specs.Places.{Spot}
use Rattle.aud_code.specs.Flat.{Flat, barrier_at, flat_controls}
use Rattle.aud_tasks.specs.declared.turn.Turn.{Turn}
use Rattle.aud_tasks.specs.declared.turn.Turn.TheVariants.{Resting, Closing, Completing, Withdrawing, Serving, Restarting, Expiring, Cancelling, Acting}
use Rattle.aud_tasks.specs.Turning.{turned}
use Rattle.aud_tasks.specs.Moving.{sooner, soonest}
use Rattle.aud_tasks.proofs.MoveLaws.Delays.{no_delay}

pub soonest_joined : (found : Option ℕ) (xs ys : List ℕ) → soonest found (xs ++ ys) ≡ soonest (soonest found xs) ys
soonest_joined found [] ys = refl
soonest_joined found (x ∷ xs) ys = soonest_joined (Some (sooner found x)) xs ys

-- whether anything waits
abbrev pub waits_for : Option ℕ → State
waits_for None = state.Stuck
waits_for (Some time) = state.Waiting time

module _ (plan : Plan) (code : Flat) where
  soonest_least : (n : ℕ) (ns : List ℕ) → soonest (Some n) ns ≡ Some (least plan (barrier_at code) n ns)
  soonest_least n [] = refl
  soonest_least n (m ∷ ms) = soonest_least (min n m) ms

  pub waiting_law : (times : List ℕ) → waits_for (soonest None times) ≡ waiting_by plan (barrier_at code) times
  waiting_law [] = refl
  waiting_law (n ∷ ns) = ap waits_for (soonest_least n ns)

pub delay_more : (found : Option ℕ) (ds : List OpenDelay) (n : ℕ) → n < length ds → soonest found (map (λ (x : OpenDelay). x.time) (drop n ds)) ≡ soonest (Some (sooner found (get_or ds n no_delay).time)) (map (λ (x : OpenDelay). x.time) (drop (n + 1) ds))
delay_more found ds n within = at_drop_more (λ xs. soonest found (map (λ (x : OpenDelay). x.time) xs)) ds n no_delay within

-- a turn of any other kind waits for no time
module _ (plan : Plan) (code : Flat) (n : ℕ) (c : All Spot) where
  pub times_none : (x : Turn) → ¬ (x ≡ Expiring) → ¬ (x ≡ Cancelling) → turn_times plan (barrier_at code) (turned plan code n c x) (seen plan (flat_controls plan code) c) ≡ []
  times_none Resting e f = refl
  times_none Closing e f = refl
  times_none Completing e f = refl
  times_none (Withdrawing object) e f = refl
  times_none (Serving s) e f = refl
  times_none (Restarting r) e f = refl
  times_none Expiring e f = absurd (e refl)
  times_none Cancelling e f = absurd (f refl)
  times_none Acting e f = refl

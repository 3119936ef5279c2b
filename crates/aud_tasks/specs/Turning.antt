-- What a task does at its next step, as memory tells it.
use Rattle.std.specs.Prelude.{ℕ, slice_get}
use Rattle.aud_typed.specs.Tree.{Plan}
use Rattle.aud_meaning.specs.Configuration.{TaskAt, All}
use Rattle.aud_meaning.specs.Control.{Coming, Seen}
use Rattle.aud_meaning.specs.Parts.{own_of}
use Rattle.aud_meaning.specs.Run as run
use Rattle.aud_meaning.specs.Run.{seen, turn_at}
use Rattle.aud_code.specs.Places.{Spot}
use Rattle.aud_code.specs.Flat.{Flat, barrier_at, flat_controls}
use Rattle.aud_abort.specs.Deferring as deferring
use Rattle.aud_tasks.specs.declared.turn.Turn.{Turn}
use Rattle.aud_tasks.specs.declared.turn.Turn.TheVariants.{Resting, Closing, Completing, Withdrawing, Serving, Restarting, Expiring, Cancelling, Acting}

abbrev pub turn_in : Plan → Flat → ℕ → All Spot → run.Turn
turn_in plan code n c =
    let k = flat_controls plan code in
    turn_at plan k.barrier (slice_get (seen plan k c).tasks n) n (seen plan k c)

-- what comes next of its own statements
abbrev pub coming_in : Plan → Flat → ℕ → All Spot → Coming
coming_in plan code n c = deferring.coming_in plan code n c

-- what is seen of it
abbrev pub seen_in : Plan → Flat → ℕ → All Spot → TaskAt Seen
seen_in plan code n c = deferring.seen_in plan code n c

-- what it does where it has not to complete at once
abbrev pub usual_in : Plan → Flat → ℕ → All Spot → run.Turn
usual_in plan code n c = run.usual plan (barrier_at code) (own_of n c).serving (own_of n c).status n (seen_in plan code n c) (seen plan (flat_controls plan code) c)

-- of the task of a number
abbrev pub turned : Plan → Flat → ℕ → All Spot → Turn → run.Turn
turned plan code n c Resting = run.resting
turned plan code n c Closing = run.closing
turned plan code n c Completing = run.completing
turned plan code n c (Withdrawing object) = run.withdrawing object
turned plan code n c (Serving s) = run.serving s
turned plan code n c (Restarting r) = run.restarting r
turned plan code n c Expiring = run.expiring (own_of n c).waits.delays
turned plan code n c Cancelling = run.cancelling (own_of n c).call
turned plan code n c Acting = run.acting (coming_in plan code n c)

-- What is shown of a task, as memory tells it.
use Rattle.std.specs.Prelude.{ℕ, List, Bool, codes}
use Rattle.aud_typed.specs.Tree.{Plan}
use Rattle.aud_meaning.specs.declared.state.NextStep.{NextStep}
use Rattle.aud_meaning.specs.Configuration.{All}
use Rattle.aud_meaning.specs.Listings.{serves_now, status_by, step_shown}
use Rattle.aud_meaning.specs.Parts.{own_of}
use Rattle.aud_meaning.specs.Run as run
use Rattle.aud_meaning.specs.Run.{seen, turn}
use Rattle.aud_code.specs.Places.{Spot}
use Rattle.aud_code.specs.Flat.{Flat, barrier_at, flat_controls}
use Rattle.aud_tasks.specs.declared.status.Shown.{Shown}
use Rattle.aud_tasks.specs.declared.status.Shown.TheVariants.{Created, Ready, Activation, Accept, Delay, Queued, Rendezvous, Master, Object, Completed, Terminated}
use Rattle.aud_tasks.specs.Turning.{seen_in}

abbrev pub words_of : Shown → List ℕ
words_of Created = codes "created"
words_of Ready = codes "ready"
words_of Activation = codes "activation"
words_of Accept = codes "accept"
words_of Delay = codes "delay"
words_of Queued = codes "queued"
words_of Rendezvous = codes "rendezvous"
words_of Master = codes "master"
words_of Object = codes "object"
words_of Completed = codes "completed"
words_of Terminated = codes "terminated"

-- its turn, and the step of that
abbrev pub turn_seen : Plan → Flat → ℕ → All Spot → run.Turn
turn_seen plan code n c = turn plan (barrier_at code) n (seen_in plan code n c) (seen plan (flat_controls plan code) c)

abbrev pub step_in : Plan → Flat → ℕ → All Spot → NextStep
step_in plan code n c = step_shown plan (barrier_at code) (turn_seen plan code n c) (seen_in plan code n c)

-- its status, where it services an object or not
abbrev pub status_if : Bool → Plan → Flat → ℕ → All Spot → List ℕ
status_if serves plan code n c = status_by plan (barrier_at code) serves (own_of n c).status n (seen_in plan code n c) (seen plan (flat_controls plan code) c)

abbrev pub status_in : Plan → Flat → ℕ → All Spot → List ℕ
status_in plan code n c = status_if (serves_now plan (barrier_at code) (own_of n c).serving (own_of n c).opened) plan code n c

-- What keeps a task from going on, as memory tells it.
use Rattle.std.specs.Prelude.{ℕ}
use Rattle.aud_typed.specs.Tree.{Plan}
use Rattle.aud_meaning.specs.Configuration.{All}
use Rattle.aud_meaning.specs.Listings.Waits as waits
use Rattle.aud_meaning.specs.Parts.{own_of}
use Rattle.aud_code.specs.Places.{Spot}
use Rattle.aud_code.specs.Flat.{Flat}
use Rattle.aud_tasks.specs.declared.holds.Hold.{Hold}
use Rattle.aud_tasks.specs.declared.holds.Hold.TheVariants.{Nothing, Call, Accept, Delay, Object, Master, Activation}
use Rattle.aud_tasks.specs.Shown.{turn_seen}

abbrev pub plain_hold : Hold → waits.Hold
plain_hold Nothing = waits.nothing
plain_hold (Call id) = waits.a_call id
plain_hold Accept = waits.an_accept
plain_hold Delay = waits.a_delay
plain_hold (Object object) = waits.an_object object
plain_hold (Master master) = waits.a_master master
plain_hold Activation = waits.an_activation

-- of the task of a number
abbrev pub hold_in : Plan → Flat → ℕ → All Spot → waits.Hold
hold_in plan code n c = waits.hold_by (turn_seen plan code n c) n (own_of n c) c

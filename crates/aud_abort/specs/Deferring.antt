-- Whether an abnormal task has to go on, as memory tells it.
use Rattle.std.specs.Prelude.{ℕ, Bool, slice_get}
use Rattle.aud_typed.specs.Tree.{Plan}
use Rattle.aud_meaning.specs.Configuration.{TaskAt, All}
use Rattle.aud_meaning.specs.Control.{Coming, Seen}
use Rattle.aud_meaning.specs.Parts.{own_of, sight_of}
use Rattle.aud_meaning.specs.Run as run
use Rattle.aud_meaning.specs.Run.{seen}
use Rattle.aud_code.specs.Places.{Spot}
use Rattle.aud_code.specs.Flat.{Flat, barrier_at, flat_controls}
use Rattle.aud_state.specs.Reads.{coming_by, place_by}

-- what comes next of its own statements
abbrev pub coming_in : Plan → Flat → ℕ → All Spot → Coming
coming_in plan code n c = coming_by code plan (sight_of n c) (slice_get c.tasks n)

-- what is seen of it
abbrev pub seen_in : Plan → Flat → ℕ → All Spot → TaskAt Seen
seen_in plan code n c = record { control = record { coming = coming_in plan code n c; place = place_by code (slice_get c.tasks n) }; own = own_of n c }

-- whether its call is selected, or it is at the end of a master; whether what makes it complete at once has to wait (RM 9.8(6 to 11))
abbrev pub bound_in : Plan → Flat → ℕ → All Spot → Bool
bound_in plan code n c = run.is_bound plan (barrier_at code) (own_of n c).status n (seen_in plan code n c) (seen plan (flat_controls plan code) c)

abbrev pub deferred_in : Plan → Flat → ℕ → All Spot → Bool
deferred_in plan code n c = run.Deferred plan (barrier_at code) n (seen_in plan code n c) (seen plan (flat_controls plan code) c)

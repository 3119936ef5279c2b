-- What comes next of a task, as memory tells it.
use Rattle.std.specs.Prelude.{ℕ}
use Rattle.aud_text.specs.declared.place.Pos.{Pos}
use Rattle.aud_typed.specs.Tree.{Plan}
use Rattle.aud_meaning.specs.Configuration.{All}
use Rattle.aud_meaning.specs.Listings.{usual_at}
use Rattle.aud_meaning.specs.Parts.{own_of}
use Rattle.aud_code.specs.Places.{Spot}
use Rattle.aud_code.specs.Flat.{Flat, barrier_at}
use Rattle.aud_tasks.specs.Turning.{seen_in}

abbrev pub usual_place_in : Plan → Flat → ℕ → All Spot → Pos
usual_place_in plan code n c = usual_at plan (barrier_at code) (own_of n c).serving (own_of n c).status (seen_in plan code n c)

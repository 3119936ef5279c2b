-- The main procedure before its first step.
use Rattle.std.specs.Prelude.{ℕ, List, [], ◌∷◌, None}
use Rattle.aud_typed.specs.Tree.{UnitPlan}
use Rattle.aud_meaning.specs.declared.state.Status.TheVariants.{Running}
use Rattle.aud_meaning.specs.Configuration.{for_body, TaskAt}
use Rattle.aud_meaning.specs.Parts.{nobody}
use Rattle.aud_meaning.specs.Ties.Part.{Part, within_own}
use Rattle.aud_code.specs.Control.{going}
use Rattle.aud_code.specs.Flat.{Flat}
use Rattle.aud_code.specs.Places.{Spot}
use Rattle.aud_sequential.specs.Parked.{no_part, Parked}
use Rattle.aud_sequential.specs.Shown.{unit_in}

-- the part that it has by itself, with its frame, the first of all
abbrev pub opened_main : Flat → List UnitPlan → Part Spot
opened_main code units = record no_part {
  control = (going code).begins 0;
  stack = record {
    display = 0 ∷ [];
    opened = record { frame = 0; region = (unit_in units 0).region; elaborated = 0; handling = None; saved = []; at = (unit_in units 0).at; purpose = for_body } ∷ [];
  };
  frames = [] ∷ [];
}

-- it runs, and no task has created it
abbrev pub main_of : List ℕ → Parked → TaskAt Spot
main_of name t = record { control = t.control; own = within_own (record nobody { name = name; status = Running }) t.pending t.stack }

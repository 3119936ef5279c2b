-- The moves of one task, as they are told.
use Rattle.std.specs.Prelude.{ℕ, List, [], ◌∷◌, map}
use Rattle.aud_meaning.specs.declared.state.Move.{Move}
use Rattle.aud_meaning.specs.Run.{own_move, picks}
use Rattle.aud_tasks.specs.declared.enabled.Enabled.{Enabled}
use Rattle.aud_tasks.specs.declared.enabled.Enabled.TheVariants as told
use Rattle.aud_tasks.specs.Moving.{picked}

-- one for each of these alternatives, or its next step alone where there are none
abbrev pub each_or_one : ℕ → List ℕ → List Move
each_or_one task [] = own_move task ∷ []
each_or_one task (a ∷ more) = map (picks task) (a ∷ more)

abbrev pub enabled_moves : ℕ → ℕ → Enabled → List Move
enabled_moves task clock told.None = []
enabled_moves task clock told.One = own_move task ∷ []
enabled_moves task clock (told.Alternatives ns) = each_or_one task ns.items
enabled_moves task clock (told.Delays ds) = picked task clock ds.now

-- Which frames the open frames of a task name.
use Rattle.std.specs.Prelude.{◌≡◌, ℕ, List, ◌∷◌, ◌||◌}
use Rattle.std.specs.Option.{option_to_list}
use Rattle.aud_meaning.specs.Configuration.{Opened}
use Rattle.aud_meaning.specs.Parts.{contains}
use Rattle.aud_meaning.specs.Ties.Named.{opened_name}
use Rattle.aud_store.specs.declared.stack.Open.{Open}
use Rattle.aud_store.specs.Ties.Display.{number_of}

-- what was there is there still, and so is each frame that is seen, or that open ones name, and no other
abbrev pub NamesAll : List ℕ → List ℕ → List ℕ → List Opened → Type 0
NamesAll old new display opened = (f : ℕ) → contains f new ≡ (contains f old || (contains f display || opened_name f opened))

-- its own number, and the one that it stands in place of
abbrev pub names_of : Open → List ℕ
names_of o = o.frame ∷ option_to_list (number_of o.replaced)

-- Which frames the open frames of a task name.
use Rattle.std.specs.Prelude.{ℕ, List, [], ◌∷◌, Bool, false, ◌||◌, nat_eq}
use Rattle.aud_meaning.specs.Configuration.{Opened}
use Rattle.aud_meaning.specs.Parts.{contains}

-- it is the frame of one that is open, or one that was seen before that was opened
abbrev pub opened_name : ℕ → List Opened → Bool
opened_name f [] = false
opened_name f (o ∷ os) = nat_eq f o.frame || (contains f o.saved || opened_name f os)

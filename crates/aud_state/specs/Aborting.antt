-- Bodies of tasks that are aborted.
use Rattle.std.specs.Prelude.{ℕ, List, [], ◌∷◌, Option, Some, None}
use Rattle.aud_meaning.specs.Configuration.{Opened}
use Rattle.aud_meaning.specs.Effects.{outermost}

-- the frame of a body among those that are open, if one is
abbrev pub body_frame : List Opened → Option ℕ
body_frame [] = None
body_frame (o ∷ os) = Some (outermost (o ∷ os))

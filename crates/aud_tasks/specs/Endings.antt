-- Kinds of endings.
use Rattle.std.specs.Prelude.{Bool, true, false, not, nat_le}
use Rattle.aud_text.specs.declared.limits.TheConstants.{ELEMENTS}
use Rattle.aud_code.specs.declared.line.Among.{Among}
use Rattle.aud_code.specs.declared.line.Among.TheVariants.{DeclareObject}
use Rattle.aud_code.specs.declared.line.Ending.{Ending}
use Rattle.aud_code.specs.declared.line.Ending.TheVariants.{Declare, DeclareArray}
use Rattle.aud_code.specs.declared.line.Last.{Last}
use Rattle.aud_code.specs.declared.line.Last.TheVariants.{Does, Concerns}

-- an array of too many elements
abbrev pub is_too_long : Last → Bool
is_too_long (Does e next) = by e
  where
    by : Ending → Bool
    by (DeclareArray t n) = not (nat_le n ELEMENTS)
    by other = false
is_too_long last = false

-- a declaration of a variable with a value, or of an object
abbrev pub is_declaration : Last → Bool
is_declaration (Does e next) = by e
  where
    by : Ending → Bool
    by (Declare up_to again) = true
    by other = false
is_declaration (Concerns a next) = among a
  where
    among : Among → Bool
    among (DeclareObject n) = true
    among other = false
is_declaration last = false

-- what is evaluated before it may raise
abbrev pub is_statement : Last → Bool
is_statement (Does e next) = true
is_statement (Concerns a next) = true
is_statement last = false

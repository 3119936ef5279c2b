-- What is proved of the definitions.
use Rattle.std.specs.Prelude.{◌≡◌}
use Rattle.aud_syntax.specs.Plain as m
use Rattle.aud_syntax.specs.Why.Bare.{bare}
use Rattle.aud_syntax.specs.Why.Printed.{printed}

-- two programs that differ in places alone have one canonical text
abbrev pub WithoutPlaces : Type 0
WithoutPlaces = (u v : m.Unit) → bare u ≡ bare v → printed u ≡ printed v

-- The alternative that takes a call.
use Rattle.std.specs.Prelude.{ℕ, List, [], ◌∷◌, Option, None, Some}
use Rattle.aud_meaning.specs.declared.state.OpenAccept.{OpenAccept}
use Rattle.aud_meaning.specs.Parts.{alternative_of}

-- of these the one of the number, or else the first
abbrev pub chosen : Option ℕ → List OpenAccept → Option OpenAccept
chosen alternative [] = None
chosen alternative (a ∷ more) = Some (alternative_of alternative a (a ∷ more))

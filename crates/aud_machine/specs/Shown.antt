-- A machine as its callers see it.
use Rattle.std.specs.Prelude.{Bool}
use Rattle.aud_text.specs.declared.limits.Limits.{Limits}
use Rattle.aud_typed.specs.declared.program.Program.{Program}
use Rattle.aud_typed.specs.Ties.View.{plain_program}
use Rattle.aud_typed.specs.Tree as tree
use Rattle.aud_meaning.specs.Configuration.{All}
use Rattle.aud_code.specs.Places.{Spot}
use Rattle.aud_code.specs.Flat.{Flat}

-- its program and that program's code, its limits, how far it is, and whether it is spent, where memory is refused
pub record Shown : Type 0 where
  pub program : Program
  pub code : Flat
  pub limits : Limits
  pub all : All Spot
  pub spent : Bool

abbrev pub program_in : Shown → tree.Program
program_in m = plain_program m.program

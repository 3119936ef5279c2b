-- What loading a source text answers, seen as plain data.
use Rattle.std.specs.Prelude.{◌≡◌, Result, Ok, Err}
use Rattle.aud_typed.specs.declared.program.Program.{Program}
use Rattle.aud_typed.specs.Tree as tree
use Rattle.aud_typed.specs.Ties.View.{plain_program}
use Rattle.aud_bench.specs.declared.request.Answer.{Answer}
use Rattle.aud_bench.specs.declared.loading.LoadFault.{LoadFault}
use Rattle.aud_bench.specs.declared.loading.LoadFault.TheVariants.{Memory, Refused}

-- the very program or the very refusal; nothing is said where memory is refused
abbrev pub Gives : Result tree.Program Answer → Result Program LoadFault → Type 0
Gives wanted (Ok program) = wanted ≡ Ok (plain_program program)
Gives wanted (Err Memory) = Unit {0}
Gives wanted (Err (Refused refusal)) = wanted ≡ Err refusal

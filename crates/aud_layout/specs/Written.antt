-- The code of a program, line by line from its first to its last, with the places of instructions: the layout, where behind a
-- statement's own step are the step's instructions and its ending.
use Rattle.std.specs.Prelude.{◌≡◌, ℕ, suc, ◌+◌, List, length, map}
use Rattle.aud_typed.specs.Tree.{Statement, Body, BooleanExpression, Program}
use Rattle.aud_code.specs.Flat.{FlatLine, Flat}
use Rattle.aud_layout.specs.Instructions.{condition_code, instructions_of}
use Rattle.aud_layout.specs.Layout.{Line, units_code_by, starts_from_by, spare_from_by}
use Rattle.aud_layout.specs.Assembly.{assembled_from, flat_program}

abbrev pub flat_step : Statement → ℕ → ℕ
flat_step s n = suc (n + length (instructions_of s))

-- lines of the layout as they stand in code: no place moves
abbrev pub written : List Line → List FlatLine
written = assembled_from (λ n. n)

abbrev pub written_bodies : List Body → List BooleanExpression → Flat
written_bodies bodies barriers = record {
  lines = written (units_code_by flat_step bodies 0);
  starts = starts_from_by flat_step bodies 0;
  spare = spare_from_by flat_step bodies 0;
  barriers = map condition_code barriers;
}

abbrev pub written_program : Program → Flat
written_program program = written_bodies program.bodies program.barriers

abbrev pub WrittenLaw : Type 0
WrittenLaw = (program : Program) → flat_program program ≡ written_program program

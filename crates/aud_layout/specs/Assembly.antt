-- Assembly: each line of the layout becomes its instructions and its ending, and places move.
use Rattle.std.specs.Prelude.{ℕ, zero, suc, ◌+◌, List, [], ◌∷◌, ◌++◌, length, map, Option, Some, None}
use Rattle.aud_typed.specs.Tree.{Program, BooleanExpression}
use Rattle.aud_code.specs.Places.{Way, Guard}
use Rattle.aud_code.specs.Instruction.{Instruction}
use Rattle.aud_code.specs.Flat.{Last, Does, Continues, Guards, Ends, Leaves, EndLine, FlatLine, instructs, end, Flat}
use Rattle.aud_layout.specs.Layout.{What, does, continues, guards, ends, leaves, Line, Code, code_of}
use Rattle.aud_layout.specs.Instructions.{condition_code, instructions_of, ending_of}

abbrev pub instructions_by : What → List Instruction
instructions_by (does a) = instructions_of a
instructions_by (continues f) = []
instructions_by (guards gs) = []
instructions_by (ends c next) = []
instructions_by (leaves n next) = []

-- how many lines
abbrev pub line_size : Line → ℕ
line_size l = suc (length (instructions_by l.what))

-- where the step of a number begins
abbrev pub offset : List Line → ℕ → ℕ
offset [] n = n
offset (l ∷ ls) zero = 0
offset (l ∷ ls) (suc n) = line_size l + offset ls n

-- where places move
module _ (f : ℕ → ℕ) where
  abbrev pub guard_moved : Guard → Guard
  guard_moved g = record g { to = f g.to }

  abbrev pub last_by : What → Last
  last_by (does a) = Does (ending_of a)
  last_by (continues x) = Continues x
  last_by (guards gs) = Guards (map guard_moved gs)
  last_by (ends c next) = Ends c (f next)
  last_by (leaves n next) = Leaves n (f next)

  abbrev pub way_moved : Option Way → Option Way
  way_moved None = None
  way_moved (Some w) = Some (record w { to = f w.to })

  abbrev pub within_moved : Option ℕ → Option ℕ
  within_moved None = None
  within_moved (Some n) = Some (f n)

  abbrev pub end_line : Line → EndLine
  end_line l = record { last = last_by l.what; at = l.at; out = f l.out; within = within_moved l.within; ways = map f l.ways; bodies = map f l.bodies; exit = way_moved l.exit }

  abbrev pub step_lines : Line → List FlatLine
  step_lines l = map instructs (instructions_by l.what) ++ end (end_line l) ∷ []

  abbrev pub assembled_from : List Line → List FlatLine
  assembled_from [] = []
  assembled_from (l ∷ ls) = step_lines l ++ assembled_from ls

abbrev pub assembled : List Line → List FlatLine
assembled lines = assembled_from (offset lines) lines

abbrev pub flat_of : Code → List BooleanExpression → Flat
flat_of code barriers = record {
  lines = assembled code.lines;
  starts = map (offset code.lines) code.starts;
  spare = offset code.lines code.spare;
  barriers = map condition_code barriers;
}

abbrev pub flat_program : Program → Flat
flat_program program = flat_of (code_of program) program.barriers

-- What a program is judged to be: typed where it has no faults, and else refused with the first of them.
use Rattle.std.specs.Prelude.{List, [], ◌∷◌, Result, Ok, Err}
use Rattle.aud_syntax.specs.Plain.{Unit}
use Rattle.aud_typed.specs.Tree as tree
use Rattle.aud_fault.specs.declared.fault.Fault.{Fault}
use Rattle.aud_fault.specs.Least.{least}
use Rattle.aud_check_bodies.specs.Programs.{faults, typed}

abbrev pub judged : List Fault → tree.Program → Result tree.Program Fault
judged [] program = Ok program
judged (f ∷ fs) program = Err (least f fs)

-- a program without faults is typed, and of the faults of another the first is reported
abbrev pub checked : Unit → Result tree.Program Fault
checked u = judged (faults u) (typed u)

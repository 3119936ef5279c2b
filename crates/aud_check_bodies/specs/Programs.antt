-- Programs: their faults, and what is left of them (RM 6.3, 10.1.1).
use Rattle.std.specs.Prelude.{ℕ, false, List, []}
use Rattle.aud_syntax.specs.Plain.{Unit, unit}
use Rattle.aud_typed.specs.Tree as tree
use Rattle.aud_fault.specs.declared.fault.Fault.{Fault}
use Rattle.aud_names.specs.Names.{main_place}
use Rattle.aud_names.specs.Rules.{program_named}
use Rattle.aud_check_bodies.specs.Tables.{Tables, no_tables, Outcome, after, unit_kept, with_unit}
use Rattle.aud_check_bodies.specs.Statements.{checked_unit}

-- the main procedure's unit is the first, and it has no formals
abbrev pub main_tables : Tables
main_tables = unit_kept [] no_tables

-- context clauses have no effect (RM 10.1.2, 8.4)
abbrev pub main_checked : Unit → Outcome tree.UnitBody
main_checked (unit context at name ds b) = after (program_named name.name name.at) (checked_unit false at name.name ds b (main_place name.name) main_tables)

abbrev pub unit_name : Unit → List ℕ
unit_name (unit context at name ds b) = name.name

-- every fault of a program
abbrev pub faults : Unit → List Fault
faults u = (main_checked u).faults

abbrev pub program_with : List ℕ → Tables → tree.Program
program_with name t = tree.program_of_units (record { name = name; units = t.units; tasks = t.tasks; objects = t.objects; entries = t.entries; regions = t.regions; exceptions = t.exceptions })

abbrev pub main_program : List ℕ → Outcome tree.UnitBody → tree.Program
main_program name o = program_with name (with_unit 0 o.made o.tables)

-- the typed program, which means something only where there are no faults
abbrev pub typed : Unit → tree.Program
typed u = main_program (unit_name u) (main_checked u)

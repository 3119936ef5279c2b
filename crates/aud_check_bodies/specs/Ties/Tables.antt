-- The plain data of a program's tables in memory.
use Rattle.std.specs.Prelude.{List, map, Vec}
use Rattle.std.specs.Global.{Global}
use Rattle.aud_typed.specs.Ties.View.{plain_region, plain_unit, plain_task_type, plain_object, plain_entry}
use Rattle.aud_names.specs.declared.names.NamedParameter.{NamedParameter}
use Rattle.aud_check_bodies.specs.declared.tables.Tables as memory
use Rattle.aud_check_bodies.specs.Tables.{Tables}

-- the formals of each unit, or entry
abbrev pub plain_profiles : Vec (Vec NamedParameter Global) Global → List (List NamedParameter)
plain_profiles profiles = map (λ p. p.items) profiles.items

abbrev pub plain_tables : memory.Tables → Tables
plain_tables t = record {
  regions = map plain_region t.regions.items;
  exceptions = t.exceptions.items;
  profiles = plain_profiles t.profiles;
  units = map plain_unit t.units.items;
  tasks = map plain_task_type t.tasks.items;
  objects = map plain_object t.objects.items;
  entries = map plain_entry t.entries.items;
  entry_profiles = plain_profiles t.entry_profiles;
}

-- The plain data of entries in memory, as far as they are declared.
use Rattle.std.specs.Prelude.{List, Vec}
use Rattle.std.specs.Global.{Global}
use Rattle.aud_names.specs.declared.names.NamedParameter.{NamedParameter}
use Rattle.aud_names.specs.Ties.Regions.{plain_region}
use Rattle.aud_check_bodies.specs.declared.entry.Entries as memory
use Rattle.aud_check_bodies.specs.declared.tables.Tables as memory_tables
use Rattle.aud_check_bodies.specs.Entries.{Entries}
use Rattle.aud_check_bodies.specs.Ties.Tables.{plain_tables}

-- and the tables
abbrev pub plain_entries : memory.Entries → memory_tables.Tables → Entries
plain_entries e t = record { own = plain_region e.own; names = e.names.items; tables = plain_tables t }

abbrev pub plain_formals : Vec NamedParameter Global → List NamedParameter
plain_formals profile = profile.items

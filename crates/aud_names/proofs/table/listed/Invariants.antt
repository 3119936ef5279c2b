use Rattle.std.proofs.Common.{◌≡◌, length}
use Rattle.std.specs.Map.{lookup}
use Rattle.std.specs.Str.{bytes_eq}
use Rattle.aud_names.specs.Ties.Table.{plain_table}
use Rattle.aud_names.proofs.table.listed.Given as goal

abbrev pub invariant-loop-table : goal.invariant-loop-table
invariant-loop-table g l = lookup (bytes_eq l.name) (plain_table l.table) ≡ lookup (bytes_eq l.name) (plain_table l.initial.table)

abbrev pub decreases-loop-table : goal.decreases-loop-table
decreases-loop-table g l = length l.table

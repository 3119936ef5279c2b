use Rattle.std.proofs.Common.{◌≡◌, drop, map}
use Rattle.aud_syntax.specs.Ties.View.{plain_entry}
use Rattle.aud_fault.specs.Least.{noted}
use Rattle.aud_names.specs.Ties.Regions.{plain_regions}
use Rattle.aud_check_bodies.specs.Entries.{declared_entries, entries_faults}
use Rattle.aud_check_bodies.specs.Ties.Entries.{plain_entries}
use Rattle.aud_check_bodies.proofs.entry.declare_entries.Given as goal

abbrev pub invariant-loop-next : goal.invariant-loop-next
invariant-loop-next l = record {
  declared : declared_entries l.task_type (map plain_entry (drop l.next-index l.list)) (plain_regions l.outer) (plain_entries l.entries l.tables) ≡ declared_entries l.task_type (map plain_entry l.list) (plain_regions l.outer) (plain_entries l.fn.entries l.fn.tables);
  noted : noted l.faults (entries_faults l.task_type (map plain_entry (drop l.next-index l.list)) (plain_regions l.outer) (plain_entries l.entries l.tables)) ≡ noted l.fn.faults (entries_faults l.task_type (map plain_entry l.list) (plain_regions l.outer) (plain_entries l.fn.entries l.fn.tables));
}

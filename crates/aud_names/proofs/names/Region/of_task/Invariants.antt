use Rattle.std.proofs.Common.{◌≡◌, drop}
use Rattle.aud_names.specs.Names.{with_entries, task_region}
use Rattle.aud_names.specs.Ties.Regions.{plain_region}
use Rattle.aud_names.proofs.names.Region.of_task.Given as goal

abbrev pub invariant-loop-entry : goal.invariant-loop-entry
invariant-loop-entry l = with_entries l.task_type (drop l.entry-index l.entries) (plain_region l.region) ≡ task_region l.level l.task_type l.entries

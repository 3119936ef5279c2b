use Rattle.std.proofs.Common.{length}
use Rattle.aud_names.proofs.further_out.+is_from_task.Given as goal

abbrev pub decreases-is_from_task : goal.decreases-is_from_task
decreases-is_from_task l = length l.regions.now

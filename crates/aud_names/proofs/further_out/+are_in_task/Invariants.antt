use Rattle.std.proofs.Common.{length}
use Rattle.aud_names.proofs.further_out.+are_in_task.Given as goal

abbrev pub decreases-are_in_task : goal.decreases-are_in_task
decreases-are_in_task l = length l.regions.now

use Rattle.std.proofs.Common.{length}
use Rattle.aud_names.proofs.resolution.+last_of.Given as goal

abbrev pub decreases-last_of : goal.decreases-last_of
decreases-last_of l = length l.others.now

use Rattle.std.proofs.Common.{length}
use Rattle.aud_names.proofs.further_out.+is_from_accept.Given as goal

abbrev pub decreases-is_from_accept : goal.decreases-is_from_accept
decreases-is_from_accept l = length l.regions.now

use Rattle.std.proofs.Common.{length}
use Rattle.aud_names.proofs.further_out.+are_in_accept.Given as goal

abbrev pub decreases-are_in_accept : goal.decreases-are_in_accept
decreases-are_in_accept l = length l.regions.now

use Rattle.std.proofs.Common.{length}
use Rattle.aud_names.proofs.names.+is_in_own_body.Given as goal

abbrev pub decreases-is_in_own_body : goal.decreases-is_in_own_body
decreases-is_in_own_body l = length l.regions.now

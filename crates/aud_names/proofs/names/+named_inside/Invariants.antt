use Rattle.std.proofs.Common.{length}
use Rattle.aud_names.proofs.names.+named_inside.Given as goal

abbrev pub decreases-named_inside : goal.decreases-named_inside
decreases-named_inside l = length l.regions.now

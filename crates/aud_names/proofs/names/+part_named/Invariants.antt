use Rattle.std.proofs.Common.{length}
use Rattle.aud_names.proofs.names.+part_named.Given as goal

abbrev pub decreases-part_named : goal.decreases-part_named
decreases-part_named l = length l.regions.now

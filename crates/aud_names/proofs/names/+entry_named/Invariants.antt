use Rattle.std.proofs.Common.{length}
use Rattle.aud_names.proofs.names.+entry_named.Given as goal

abbrev pub decreases-entry_named : goal.decreases-entry_named
decreases-entry_named l = length l.regions.now

use Rattle.std.proofs.Common.{length}
use Rattle.aud_names.proofs.names.+declared.Given as goal

abbrev pub decreases-declared : goal.decreases-declared
decreases-declared l = length l.regions.now

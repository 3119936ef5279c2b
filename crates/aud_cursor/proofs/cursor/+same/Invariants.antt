use Rattle.std.proofs.Common.{length}
use Rattle.aud_cursor.proofs.cursor.+same.Given as goal

abbrev pub decreases-same : goal.decreases-same
decreases-same l = length l.text.now

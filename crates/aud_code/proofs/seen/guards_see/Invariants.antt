use Rattle.std.proofs.Common.{drop, map}
use Rattle.aud_code.specs.Seen.{GuardsSee}
use Rattle.aud_code.specs.View.{plain_guard}
use Rattle.aud_code.proofs.seen.guards_see.Given as goal

abbrev pub invariant-loop-guard : goal.invariant-loop-guard
invariant-loop-guard l = GuardsSee l.seen l.frames (drop l.guard-index (map plain_guard l.guards)) → GuardsSee l.seen l.frames (map plain_guard l.guards)

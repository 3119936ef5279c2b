use Rattle.std.proofs.Common.{drop, map}
use Rattle.aud_code.specs.Frames.{GuardsAt}
use Rattle.aud_code.specs.View.{plain_guard, plain_line}
use Rattle.aud_code.proofs.frames.guards_within.Given as goal

abbrev pub invariant-loop-guard : goal.invariant-loop-guard
invariant-loop-guard l = GuardsAt (map plain_line l.lines) l.within (drop l.guard-index (map plain_guard l.guards)) → GuardsAt (map plain_line l.lines) l.within (map plain_guard l.guards)

use Rattle.std.proofs.Common.{◌≡◌, length, reverse}
use Rattle.aud_lines.specs.Lines.{without_spaces}
use Rattle.aud_lines.proofs.lines.before_spaces.Given as goal

abbrev pub invariant-loop-rest : goal.invariant-loop-rest
invariant-loop-rest l = without_spaces (reverse l.rest) ≡ without_spaces (reverse l.line)

abbrev pub decreases-loop-rest : goal.decreases-loop-rest
decreases-loop-rest l = length l.rest

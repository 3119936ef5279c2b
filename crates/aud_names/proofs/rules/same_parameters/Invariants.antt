use Rattle.std.proofs.Common.{◌≡◌, length}
use Rattle.aud_names.specs.Rules.{same_parameters}
use Rattle.aud_names.proofs.rules.same_parameters.Given as goal

abbrev pub invariant-loop-first : goal.invariant-loop-first
invariant-loop-first l = same_parameters l.left l.right ≡ same_parameters l.target l.given

abbrev pub decreases-loop-first : goal.decreases-loop-first
decreases-loop-first l = length l.left

use Rattle.std.proofs.Common.{◌≡◌, length}
use Rattle.aud_names.specs.Rules.{conform}
use Rattle.aud_names.proofs.rules.conform.Given as goal

abbrev pub invariant-loop-first : goal.invariant-loop-first
invariant-loop-first l = conform l.left l.right ≡ conform l.declared l.given

abbrev pub decreases-loop-first : goal.decreases-loop-first
decreases-loop-first l = length l.left

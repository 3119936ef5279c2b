use Rattle.std.proofs.Common.{drop}
use Rattle.aud_syntax.specs.Ties.View.{plain_expressions}
use Rattle.aud_check_bodies.specs.Ties.Passed.{plain_all_passed}
use Rattle.aud_check_bodies.proofs.Passing.{PassedAhead}
use Rattle.aud_check_bodies.proofs.argument.all_passed.Given as goal

abbrev pub invariant-loop-formal : goal.invariant-loop-formal
invariant-loop-formal l = PassedAhead l.faults (plain_all_passed l.all) (drop l.formal-index l.profile) (plain_expressions l.rest) l.scope l.fn.faults l.fn.profile (plain_expressions l.args)

use Rattle.std.proofs.Common.{◌≡◌}
use Rattle.aud_debug.proofs.Watched.{open_from}
use Rattle.aud_debug.proofs.objects.is_open.Given as goal

abbrev pub invariant-loop-task : goal.invariant-loop-task
invariant-loop-task l = open_from l.frame l.task l.state ≡ open_from l.frame 0 l.state

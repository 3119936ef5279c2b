use Rattle.std.proofs.Common.{◌≡◌, ◌++◌, drop}
use Rattle.aud_tasks.specs.Moving.{picked}
use Rattle.aud_tasks.proofs.enabled.list_ended.Given as goal

abbrev pub invariant-loop-delay : goal.invariant-loop-delay
invariant-loop-delay l = l.moves.items ++ picked l.task l.clock (drop l.delay-index l.delays) ≡ l.fn.moves.items ++ picked l.task l.clock l.delays

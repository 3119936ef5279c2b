use Rattle.std.proofs.Common.{◌≡◌, drop, slice_get}
use Rattle.aud_tasks.specs.Moving.{picked}
use Rattle.aud_tasks.proofs.enabled.nth_ended.Given as goal

abbrev pub invariant-loop-delay : goal.invariant-loop-delay
invariant-loop-delay l = slice_get (picked l.task l.clock l.delays) l.index ≡ slice_get (picked l.task l.clock (drop l.delay-index l.delays)) l.left

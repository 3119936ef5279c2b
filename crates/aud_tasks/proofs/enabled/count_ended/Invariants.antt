use Rattle.std.proofs.Common.{◌≡◌, ◌≤◌, ◌+◌, length, drop}
use Rattle.aud_tasks.specs.Moving.{picked}
use Rattle.aud_tasks.proofs.enabled.count_ended.Given as goal

abbrev pub invariant-loop-delay : goal.invariant-loop-delay
invariant-loop-delay l = record {
  few : l.count ≤ l.delay-index;
  counted : l.count + length (picked l.task l.clock (drop l.delay-index l.delays)) ≡ length (picked l.task l.clock l.delays);
}

use Rattle.std.proofs.Common.{take}
use Rattle.aud_calls.specs.Queues.{AreOthers}
use Rattle.aud_calls.proofs.queues.Queues.find.Given as goal

abbrev pub invariant-loop-at : goal.invariant-loop-at
invariant-loop-at l = AreOthers l.owner l.entry (take l.at l.self.queues.items)

use Rattle.std.proofs.Common.{◌≡◌, take}
use Rattle.aud_hall.proofs.seat.copied.Given as goal

abbrev pub invariant-loop-answer : goal.invariant-loop-answer
invariant-loop-answer l = l.copy.items ≡ take l.answer-index l.answer-items

use Rattle.std.proofs.Common.{drop}
use Rattle.aud_code.proofs.Framing.{SeeOpen}
use Rattle.aud_code.proofs.seen.barriers_see.Given as goal

abbrev pub invariant-loop-barrier : goal.invariant-loop-barrier
invariant-loop-barrier l = SeeOpen (drop l.barrier-index l.barriers) → SeeOpen l.barriers

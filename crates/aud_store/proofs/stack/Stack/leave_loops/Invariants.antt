use Rattle.std.proofs.Common.{◌≡◌, length}
use Rattle.aud_meaning.specs.Ties.Stack.{out_of_loops}
use Rattle.aud_store.proofs.stack.Stack.leave_loops.Given as goal

abbrev pub invariant-loop-self : goal.invariant-loop-self
invariant-loop-self l = out_of_loops l.self ≡ out_of_loops l.fn.self

abbrev pub decreases-loop-self : goal.decreases-loop-self
decreases-loop-self l = length l.self.opened

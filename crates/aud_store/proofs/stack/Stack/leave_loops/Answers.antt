use Rattle.std.proofs.Common.{sym, ◌∙◌}
use Rattle.aud_store.proofs.Leaving.{out_inner, out_done, fewer}
use Rattle.aud_store.proofs.stack.Stack.leave_loops.Goals as goal

pub loop-self-smaller : goal.loop-self-smaller
loop-self-smaller c = rw c.leave.ensures (fewer c.loop-self.self (sym c.is_in_loop.ensures ∙ c.loop-self-test.true))

pub loop-self-preserved : goal.loop-self-preserved
loop-self-preserved c = rw c.leave.ensures (out_inner c.loop-self.self (sym c.is_in_loop.ensures ∙ c.loop-self-test.true) ∙ c.loop-self.invariant)

pub returns : goal.returns
returns c = sym (out_done c.loop-self.self (sym c.is_in_loop.ensures ∙ c.loop-self-test.false)) ∙ c.loop-self.invariant

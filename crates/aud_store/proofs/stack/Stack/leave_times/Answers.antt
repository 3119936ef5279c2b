use Rattle.std.proofs.Common.{◌≡◌, ap, sym, ◌∙◌, arith}
use Rattle.aud_meaning.specs.Ties.Stack.{closed, closed_times}
use Rattle.aud_store.proofs.Leaving.{closed_more}
use Rattle.aud_store.proofs.stack.Stack.leave_times.Goals as goal

pub loop-preserved : goal.loop-preserved
loop-preserved c = c.leave.ensures ∙ ap closed c.loop.invariant ∙ sym (closed_more c.loop.counter c.args.self.now)

pub returns : goal.returns
returns c =
    let all : c.loop.counter ≡ c.args.n = omega (arith, c.loop-test.false, c.loop.auto.counter-end) in
    c.loop.invariant ∙ ap (λ k. closed_times k c.args.self.now) all

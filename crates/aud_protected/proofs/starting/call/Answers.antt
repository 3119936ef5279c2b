use Rattle.std.proofs.Common.{ap, ◌∙◌, arith}
use Rattle.aud_protected.specs.Counting.{most_asked}
use Rattle.aud_protected.proofs.starting.call.Goals as goal

pub returns-clause-few : goal.returns-clause-few
returns-clause-few g c =
    let same = ap (λ k. most_asked k (g.B.Barriers.plan c.barrier.new.self)) c.in_ok-met.ensures.costs ∙ ap (most_asked (g.B.Barriers.cost c.args.barriers.now)) c.in_ok-met.ensures.of_one in
    omega (arith, same, c.in_ok-met.ensures.few, c.in_ok-meet.ensures.few)

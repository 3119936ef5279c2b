use Rattle.std.proofs.Common.{ap, ◌∙◌, arith}
use Rattle.aud_meaning.specs.Parts.{object_of}
use Rattle.aud_protected.specs.Counting.{costs}
use Rattle.aud_protected.proofs.Costing.{asked_few}
use Rattle.aud_protected.proofs.barriers.eligible.Goals as goal

pub returns-clause-few : goal.returns-clause-few
returns-clause-few g c =
    let cost = g.B.Barriers.cost c.args.barriers.now in
    let same = ap (costs cost) (c.deref.ensures.value ∙ c.in_ok-entries.ensures) in
    let most = asked_few cost (g.B.Barriers.plan c.args.barriers.now).objects (object_of c.args.object c.args.state.now).declaration in
    omega (arith, same, most, c.in_ok-found.ensures.few)

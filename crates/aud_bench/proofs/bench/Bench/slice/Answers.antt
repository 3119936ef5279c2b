use Rattle.std.proofs.Common.{◌≡◌, ◌<◌, ◌≤◌, ap, ◌∙◌, arith}
use Rattle.aud_bench.specs.Alone.{cost}
use Rattle.aud_bench.specs.Seen.{unanswered}
use Rattle.aud_bench.proofs.Made.{some_left}
use Rattle.aud_bench.proofs.bench.Bench.slice.Goals as goal
use Rattle.aud_bench.proofs.bench.Bench.slice.Goals.{then-requests-test+else-left-gt0, else-requests-test}

pub returns-clause-done : goal.returns-clause-done
returns-clause-done c =
    λ alive.
    let inv = c.requests.invariant in
    let now = c.requests.self in
    let old = c.args.self.now in
    let same : cost now.limits now.journal ≡ cost old.limits old.journal = ap (λ limits. cost limits now.journal) inv.2 ∙ ap (cost old.limits) inv.1 in
    elim c.requests-test.branch [
      | then-requests-test+else-left-gt0 w ↦ omega (arith, inv.0, inv.4, same, w.left-in-requests.ensures.whole (omega (arith, w.if-left-gt0.false)))
      | else-requests-test w ↦ omega (arith, inv.0, inv.4, same, w.requests-test.false, c.left-2.ensures.within)
    ]

pub returns-in-None-clause-cut : goal.returns-in-None-clause-cut
returns-in-None-clause-cut c =
    λ alive closed.
    let inv = c.requests.invariant in
    let now = c.requests.self in
    let old = c.args.self.now in
    let same : cost now.limits now.journal ≡ cost old.limits old.journal = ap (λ limits. cost limits now.journal) inv.2 ∙ ap (cost old.limits) inv.1 in
    let left = c.left-in-requests.ensures in
    let some : 1 ≤ unanswered now = omega (arith, left.left, c.if-left-gt0.true) in
    let less : now.units < cost now.limits now.journal = some_left now.limits now.journal now.units left.within some in
    omega (arith, inv.4, same, less, c.requests-test.true)

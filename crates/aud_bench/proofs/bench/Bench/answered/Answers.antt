use Rattle.std.proofs.Common.{arith}
use Rattle.aud_bench.proofs.Benches.{count_within, all_made}
use Rattle.aud_bench.proofs.bench.Bench.answered.Goals as goal

pub overflow_add-result : goal.overflow_add-result
overflow_add-result c =
    let s = c.self.inside in
    omega (arith, count_within _ _ _ _ _ _ _ _ c.self.invariant.0, c.self.invariant.1, s.answers.small, c.len.ensures, s.answers.ok.0)

pub returns : goal.returns
returns c =
    let s = c.self.inside in
    omega (arith, all_made _ _ _ _ _ _ _ _ c.self.invariant.0 c.args.self.now c.self.view_is, c.len.ensures, s.answers.ok.0)

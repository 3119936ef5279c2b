use Rattle.std.proofs.Common.{◌∙◌}
use Rattle.aud_bench.proofs.Benches.{held}
use Rattle.aud_bench.proofs.bench.Bench.answers.Goals as goal

pub returns : goal.returns
returns c = c.deref.ensures.value ∙ held _ _ _ _ _ _ _ _ c.self.invariant.0 c.args.self.now c.self.view_is

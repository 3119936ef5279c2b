use Rattle.std.proofs.Common.{◌+◌, length, ap, arith}
use Rattle.std.proofs.lemmas.List.{drop_all}
use Rattle.aud_typed.specs.Ties.View.{alternatives_in}
use Rattle.aud_layout.specs.Instructions.{guards_code}
use Rattle.aud_gen.proofs.Entering.{next_guard_length}
use Rattle.aud_gen.proofs.lengths.guards_length.Goals as goal

pub loop-alternative-preserved : goal.loop-alternative-preserved
loop-alternative-preserved c =
    let i = c.loop-alternative.alternative-index in
    let one = next_guard_length c.args.alternatives.now i c.alternative-item.result (omega arith) c.alternative-item.is in
    (omega arith, omega (arith, c.loop-alternative.invariant.0, c.loop-alternative.invariant.1, c.guard_length.ensures (i + 1)))

pub returns : goal.returns
returns c =
    let i = c.loop-alternative.alternative-index in
    let none = ap (λ xs. length (guards_code (i + 1) (alternatives_in xs))) (drop_all i c.args.alternatives.now (omega (arith, c.loop-alternative-test.false))) in
    omega (arith, c.loop-alternative.invariant.0, c.loop-alternative.invariant.1)

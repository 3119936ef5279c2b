use Rattle.std.proofs.Common.{length, ap, arith}
use Rattle.std.proofs.lemmas.List.{drop_all}
use Rattle.aud_typed.specs.Ties.View.{plain_arguments}
use Rattle.aud_layout.specs.Instructions.{arguments_code}
use Rattle.aud_gen.proofs.Arguments.{next_argument_length}
use Rattle.aud_gen.proofs.lengths.arguments_length.Goals as goal

pub loop-argument-preserved : goal.loop-argument-preserved
loop-argument-preserved c =
    let i = c.loop-argument.argument-index in
    let one = next_argument_length c.args.arguments.now i c.argument-item.result (omega arith) c.argument-item.is in
    (omega arith, omega (arith, c.loop-argument.invariant.0, c.loop-argument.invariant.1, c.argument_length.ensures i))

pub returns : goal.returns
returns c =
    let i = c.loop-argument.argument-index in
    let none = ap (λ xs. length (arguments_code i (plain_arguments xs))) (drop_all i c.args.arguments.now (omega (arith, c.loop-argument-test.false))) in
    omega (arith, c.loop-argument.invariant.0, c.loop-argument.invariant.1)

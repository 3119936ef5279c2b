use Rattle.std.proofs.Common.{◌+◌, ap, arith}
use Rattle.std.proofs.lemmas.List.{drop_all}
use Rattle.aud_typed.specs.Ties.View.{plain_argument, plain_arguments}
use Rattle.aud_layout.specs.Instructions.{argument_code, arguments_code}
use Rattle.aud_gen.proofs.Arguments.{arguments_from, next_argument}
use Rattle.aud_gen.proofs.Writing.{all_remain, none_remain, one_fewer}
use Rattle.aud_gen.proofs.writer.Writer.write_arguments.Goals as goal

pub loop-number-init : goal.loop-number-init
loop-number-init c = all_remain _

pub loop-number-preserved : goal.loop-number-preserved
loop-number-preserved c =
    let xs = c.args.arguments.now in
    let n = c.loop-number.number in
    let x = c.index-arguments-number.result in
    one_fewer (arguments_from xs 0) (arguments_from xs n) (argument_code n (plain_argument x)) (arguments_from xs (n + 1)) (next_argument xs n x (omega arith) c.index-arguments-number.is) c.loop-number.invariant c.write_argument.ensures

pub returns : goal.returns
returns c =
    let n = c.loop-number.number in
    none_remain (arguments_from c.args.arguments.now 0) (arguments_from c.args.arguments.now n) (ap (λ xs. arguments_code n (plain_arguments xs)) (drop_all n c.args.arguments.now (omega arith))) c.loop-number.invariant

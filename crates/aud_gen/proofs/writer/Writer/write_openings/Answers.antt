use Rattle.std.proofs.Common.{◌+◌, ap, arith}
use Rattle.std.proofs.lemmas.List.{drop_all}
use Rattle.aud_typed.specs.Ties.View.{alternatives_in}
use Rattle.aud_layout.specs.Instructions.{guards_code}
use Rattle.aud_gen.specs.Writes.{alone}
use Rattle.aud_gen.proofs.Entering.{guards_from, next_guard}
use Rattle.aud_gen.proofs.Writing.{all_remain, none_remain, one_fewer}
use Rattle.aud_gen.proofs.writer.Writer.write_openings.Goals as goal

pub loop-number-init : goal.loop-number-init
loop-number-init c = all_remain _

pub loop-number-preserved : goal.loop-number-preserved
loop-number-preserved c =
    let xs = c.args.alternatives.now in
    let i = c.loop-number.number in
    let x = c.index-alternatives-number.result in
    one_fewer (guards_from xs 0) (guards_from xs i) (guards_code (i + 1) (alone x)) (guards_from xs (i + 1)) (next_guard xs i x (omega arith) c.index-alternatives-number.is) c.loop-number.invariant c.write_opening.ensures

pub returns : goal.returns
returns c =
    let xs = c.args.alternatives.now in
    let i = c.loop-number.number in
    none_remain (guards_from xs 0) (guards_from xs i) (ap (λ ys. guards_code (i + 1) (alternatives_in ys)) (drop_all i xs (omega arith))) c.loop-number.invariant

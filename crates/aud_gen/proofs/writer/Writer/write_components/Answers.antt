use Rattle.std.proofs.Common.{◌+◌, drop, ap, arith}
use Rattle.std.proofs.lemmas.List.{drop_all}
use Rattle.aud_typed.specs.Ties.View.{plain_value, plain_values}
use Rattle.aud_layout.specs.Instructions.{components_code}
use Rattle.aud_gen.specs.Writes.{component_code}
use Rattle.aud_gen.proofs.Calls.{next_component}
use Rattle.aud_gen.proofs.Writing.{all_remain, none_remain, one_fewer}
use Rattle.aud_gen.proofs.writer.Writer.write_components.Goals as goal

pub loop-component-init : goal.loop-component-init
loop-component-init c = all_remain _

pub loop-component-preserved : goal.loop-component-preserved
loop-component-preserved c =
    let xs = c.args.components.now in
    let i = c.loop-component.component-index in
    let x = c.component-item.result in
    one_fewer (components_code (plain_values xs)) (components_code (plain_values (drop i xs))) (component_code (plain_value x)) (components_code (plain_values (drop (i + 1) xs))) (next_component xs i x (omega arith) c.component-item.is) c.loop-component.invariant c.write_component.ensures

pub returns : goal.returns
returns c =
    let xs = c.args.components.now in
    let i = c.loop-component.component-index in
    none_remain (components_code (plain_values xs)) (components_code (plain_values (drop i xs))) (ap (λ ys. components_code (plain_values ys)) (drop_all i xs (omega (arith, c.loop-component-test.false)))) c.loop-component.invariant

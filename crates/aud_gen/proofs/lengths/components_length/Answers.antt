use Rattle.std.proofs.Common.{length, ap, arith}
use Rattle.std.proofs.lemmas.List.{drop_all}
use Rattle.aud_typed.specs.Ties.View.{plain_values}
use Rattle.aud_layout.specs.Instructions.{components_code}
use Rattle.aud_gen.proofs.Calls.{next_component_length}
use Rattle.aud_gen.proofs.lengths.components_length.Goals as goal

pub loop-component-preserved : goal.loop-component-preserved
loop-component-preserved c =
    let i = c.loop-component.component-index in
    let one = next_component_length c.args.components.now i c.component-item.result (omega arith) c.component-item.is in
    (omega arith, omega (arith, c.loop-component.invariant.0, c.loop-component.invariant.1, c.value_length.ensures))

pub returns : goal.returns
returns c =
    let i = c.loop-component.component-index in
    let none = ap (λ xs. length (components_code (plain_values xs))) (drop_all i c.args.components.now (omega (arith, c.loop-component-test.false))) in
    omega (arith, c.loop-component.invariant.0, c.loop-component.invariant.1)

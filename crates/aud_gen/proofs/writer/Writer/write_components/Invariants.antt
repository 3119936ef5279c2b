use Rattle.std.proofs.Common.{drop}
use Rattle.aud_typed.specs.Ties.View.{plain_values}
use Rattle.aud_layout.specs.Instructions.{components_code}
use Rattle.aud_gen.proofs.Writing.{Remains}
use Rattle.aud_gen.proofs.writer.Writer.write_components.Given as goal

abbrev pub invariant-loop-component : goal.invariant-loop-component
invariant-loop-component l = Remains l.fn.self l.self (components_code (plain_values l.components)) (components_code (plain_values (drop l.component-index l.components)))

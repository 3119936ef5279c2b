use Rattle.std.proofs.Common.{◌≡◌, ◌+◌, length, drop}
use Rattle.aud_typed.specs.Ties.View.{plain_values}
use Rattle.aud_layout.specs.Instructions.{components_code}
use Rattle.aud_gen.specs.Writes.{counted}
use Rattle.aud_gen.proofs.lengths.components_length.Given as goal

abbrev pub invariant-loop-component : goal.invariant-loop-component
invariant-loop-component l = (l.total ≡ counted l.total) × (counted (l.total + length (components_code (plain_values (drop l.component-index l.components)))) ≡ counted (length (components_code (plain_values l.components))))

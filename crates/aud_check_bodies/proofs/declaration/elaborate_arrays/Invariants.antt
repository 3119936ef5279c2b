use Rattle.std.proofs.Common.{◌≡◌, ◌++◌, drop}
use Rattle.std.specs.Prelude.{map}
use Rattle.aud_typed.specs.Tree.{declare_array}
use Rattle.aud_typed.specs.Ties.View.{plain_statements}
use Rattle.aud_names.specs.Ties.Regions.{names_in}
use Rattle.aud_check_bodies.proofs.declaration.elaborate_arrays.Given as goal

abbrev pub invariant-loop : goal.invariant-loop
invariant-loop l = plain_statements l.elaborations.items ++ map (λ i. declare_array l.fn.names.first.at l.fn.subtype l.fn.length) (drop l.index l.items) ≡ plain_statements l.fn.elaborations.items ++ map (λ i. declare_array l.fn.names.first.at l.fn.subtype l.fn.length) (names_in l.fn.names)

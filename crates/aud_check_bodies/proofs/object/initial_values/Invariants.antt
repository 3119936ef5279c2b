use Rattle.std.proofs.Common.{◌≡◌, ◌++◌, drop}
use Rattle.std.specs.Prelude.{map}
use Rattle.aud_typed.specs.Ties.View.{plain_values}
use Rattle.aud_names.specs.Ties.Regions.{names_in}
use Rattle.aud_check_bodies.specs.Declarations.{initial_value}
use Rattle.aud_check_bodies.specs.Ties.DeclarativePart.{plain_initial}
use Rattle.aud_check_bodies.proofs.object.initial_values.Given as goal

abbrev pub invariant-loop : goal.invariant-loop
invariant-loop l =
    plain_values l.values.items ++ map (λ i. initial_value (plain_initial l.fn.initial) l.fn.subtype l.fn.scope) (drop l.index l.items)
    ≡ map (λ i. initial_value (plain_initial l.fn.initial) l.fn.subtype l.fn.scope) (names_in l.fn.names)

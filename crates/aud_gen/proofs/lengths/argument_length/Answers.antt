use Rattle.std.proofs.Common.{length, ap, arith}
use Rattle.aud_typed.specs.Ties.View.{plain_argument, plain_reference}
use Rattle.aud_layout.specs.Instructions.{argument_code, reference_code}
use Rattle.aud_gen.proofs.Arguments.{copy_length}
use Rattle.aud_gen.proofs.lengths.argument_length.Goals as goal

pub returns-in-ByCopy : goal.returns-in-ByCopy
returns-in-ByCopy c =
    let found = reference_code (plain_reference c.in-ByCopy.r) in
    λ number. omega (arith, c.first_value_length.ensures c.in-ByCopy.field-1, copy_length c.in-ByCopy.is_in c.in-ByCopy.field-1 number found, ap (λ a. length (argument_code number (plain_argument a))) c.in-ByCopy.is)

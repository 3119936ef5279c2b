use Rattle.std.proofs.Common.{length, ap, ◌∙◌, arith, length-append}
use Rattle.aud_typed.specs.Ties.View.{plain_arguments, plain_into}
use Rattle.aud_layout.specs.Instructions.{arguments_code, into_code}
use Rattle.aud_gen.specs.Writes.{counted}
use Rattle.aud_gen.proofs.lengths.calling_length.Goals as goal

pub returns : goal.returns
returns c =
    let s = c.args.calling.now in
    let arguments = c.arguments_length.ensures ∙ ap (λ xs. counted (length (arguments_code 0 (plain_arguments xs)))) c.deref.ensures.value in
    let both = length-append (into_code (plain_into s.into)) (arguments_code 0 (plain_arguments s.arguments.items)) in
    omega (arith, c.into_length.ensures, arguments, both)

use Rattle.std.proofs.Common.{arith, length-append}
use Rattle.aud_typed.specs.Ties.View.{plain_arguments, plain_form}
use Rattle.aud_layout.specs.Instructions.{arguments_code, form_code}
use Rattle.aud_gen.proofs.lengths.called_length.Goals as goal

pub returns : goal.returns
returns c =
    let both = length-append (arguments_code 0 (plain_arguments c.args.arguments.now)) (form_code (plain_form c.args.form.now)) in
    omega (arith, c.arguments_length.ensures, c.form_length.ensures, both)

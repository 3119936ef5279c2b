use Rattle.std.proofs.Common.{length, ap, ◌∙◌, arith, length-append}
use Rattle.aud_typed.specs.declared.program.EntryCallStatement.{out-EntryCallStatement}
use Rattle.aud_typed.specs.Ties.View.{plain_arguments, plain_callee, plain_form}
use Rattle.aud_layout.specs.Instructions.{called_code}
use Rattle.aud_gen.specs.Writes.{callee_code, counted}
use Rattle.aud_gen.proofs.Calls.{call_split}
use Rattle.aud_gen.proofs.lengths.call_length.Goals as goal

pub returns : goal.returns
returns c =
    let s = out-EntryCallStatement c.args.call.now in
    let callee = plain_callee s.callee in
    let given = plain_arguments s.arguments.items in
    let form = plain_form s.form in
    let called = c.called_length.ensures ∙ ap (λ xs. counted (length (called_code (plain_arguments xs) form))) c.deref.ensures.value in
    let all = ap length (call_split callee given form) ∙ length-append (callee_code callee) (called_code given form) in
    omega (arith, c.callee_length.ensures, called, all)

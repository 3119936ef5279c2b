use Rattle.std.proofs.Common.{◌++◌, suc, ap, ◌∙◌, codes}
use Rattle.std.specs.Fmt.{decimal}
use Rattle.aud_meaning.specs.Parts.{own_of}
use Rattle.aud_debug.proofs.Grouped.{head_grouped}
use Rattle.aud_debug.proofs.names.push_task.Goals as goal

pub returns : goal.returns
returns c =
    let out = c.args.out.now.items in
    let n = c.args.task in
    let name = (own_of n c.args.state.now).name in
    let number = c.in_ok-push_decimal.ensures ∙ ap (λ k. out ++ decimal k) c.in_ok-number_of.ensures in
    let space = c.in_ok-extend_from_slice.ensures.items ∙ ap (λ x. x ++ codes " ") number in
    let named = c.in_ok-push_name.ensures ∙ ap (λ x. x ++ name) space in
    c.in_ok-extend_from_slice-2.ensures.items ∙ (ap (λ x. x ++ codes " ") named ∙ head_grouped out (decimal (suc n)) name)

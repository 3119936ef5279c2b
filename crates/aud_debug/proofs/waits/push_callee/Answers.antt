use Rattle.std.proofs.Common.{◌++◌, suc, ap, ◌∙◌, codes}
use Rattle.std.specs.Fmt.{decimal}
use Rattle.aud_meaning.specs.Parts.{own_of}
use Rattle.aud_debug.proofs.Waiting.{two_words}
use Rattle.aud_debug.proofs.waits.push_callee.Goals as goal

pub returns : goal.returns
returns c =
    let out = c.args.out.now.items in
    let n = c.args.task in
    let name = (own_of n c.args.state.now).name in
    let number = c.in_ok-push_decimal.ensures ∙ ap (λ k. out ++ decimal k) c.in_ok-number_of.ensures in
    two_words _ _ _ (decimal (suc n)) (codes " " ++ name) number (two_words _ _ _ (codes " ") name c.in_ok-extend_from_slice.ensures.items c.in_ok-push_name.ensures)

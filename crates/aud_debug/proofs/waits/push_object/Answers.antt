use Rattle.std.proofs.Common.{◌++◌, suc, ap, ◌∙◌, codes}
use Rattle.std.specs.Fmt.{decimal}
use Rattle.aud_typed.specs.Ties.View.{plain_program}
use Rattle.aud_meaning.specs.Parts.{object_of, object_plan}
use Rattle.aud_debug.proofs.Waiting.{two_words}
use Rattle.aud_debug.proofs.waits.push_object.Goals as goal

pub returns : goal.returns
returns c =
    let plan = (plain_program c.args.compiled.program.now).plan in
    let s = c.args.state.now in
    let n = c.args.object in
    let name = (object_plan plan (object_of n s).declaration).name in
    let number = c.in_ok-push_decimal.ensures ∙ ap (λ k. c.extend_from_slice.new.self.items ++ decimal k) c.in_ok-number_of.ensures in
    let named = c.in_ok-extend_from_slice-3.ensures.items ∙ ap (λ w. c.extend_from_slice-2.new.self.items ++ w) (c.object_name.ensures ∙ ap (λ d. (object_plan plan d).name) c.declaration.ensures) in
    two_words _ _ _ (codes "object ") (decimal (suc n) ++ (codes " " ++ name)) c.in_ok-extend_from_slice.ensures.items
    (two_words _ _ _ (decimal (suc n)) (codes " " ++ name) number (two_words _ _ _ (codes " ") name c.in_ok-extend_from_slice-2.ensures.items named))

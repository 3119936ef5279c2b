use Rattle.std.proofs.Common.{◌++◌, suc, ap, ◌∙◌, codes}
use Rattle.std.specs.Fmt.{decimal}
use Rattle.aud_typed.specs.Ties.View.{plain_program}
use Rattle.aud_meaning.specs.Listings.Objects.{action_words}
use Rattle.aud_meaning.specs.Parts.{object_of, object_plan}
use Rattle.aud_debug.specs.Ties.Watched.{declared_in}
use Rattle.aud_debug.proofs.Watched.{head_told}
use Rattle.aud_debug.proofs.objects.push_head.Goals as goal

pub returns : goal.returns
returns c =
    let plan = (plain_program c.args.compiled.program.now).plan in
    let s = c.args.state.now in
    let n = c.args.object in
    let out = c.args.out.now.items in
    let name = (declared_in plan n s).name in
    let words = action_words (object_of n s).actions in
    let number = c.in_ok-push_decimal.ensures ∙ ap (λ k. out ++ decimal k) c.in_ok-number_of.ensures in
    let space = c.in_ok-extend_from_slice.ensures.items ∙ ap (λ x. x ++ codes " ") number in
    let named = c.in_ok-extend_from_slice-2.ensures.items ∙ (ap (λ w. c.extend_from_slice.new.self.items ++ w) (c.object_name.ensures ∙ ap (λ d. (object_plan plan d).name) c.declaration.ensures) ∙ ap (λ x. x ++ name) space) in
    c.in_ok-push_actions.ensures
    ∙ (ap (λ a. c.extend_from_slice-2.new.self.items ++ action_words a) c.actions.ensures
    ∙ (ap (λ x. x ++ words) named ∙ head_told out (decimal (suc n)) name words))

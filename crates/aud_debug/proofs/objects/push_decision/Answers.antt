use Rattle.std.proofs.Common.{◌++◌, suc, ap, ◌∙◌, codes}
use Rattle.std.specs.Fmt.{decimal}
use Rattle.aud_typed.specs.Ties.View.{plain_program}
use Rattle.aud_meaning.specs.Listings.Objects.{barrier_word}
use Rattle.aud_meaning.specs.Parts.{entry_plan, object_plan}
use Rattle.aud_meaning.specs.Tasks.{barrier_of}
use Rattle.aud_code.specs.Flat.{barrier_at}
use Rattle.aud_debug.specs.Ties.Watched.{declared_in}
use Rattle.aud_debug.proofs.Watched.{decision_told}
use Rattle.aud_debug.proofs.objects.push_decision.Goals as goal

pub returns : goal.returns
returns c =
    let plan = (plain_program c.args.compiled.program.now).plan in
    let code = c.args.compiled.code.now in
    let s = c.args.state.now in
    let n = c.args.object in
    let out = c.args.out.now.items in
    let name = (declared_in plan n s).name in
    let called = (entry_plan plan c.args.entry).name in
    let word = barrier_word (barrier_of plan (barrier_at code) n c.args.entry s) in
    let number = c.in_ok-push_decimal.ensures ∙ ap (λ k. out ++ decimal k) c.in_ok-number_of.ensures in
    let space = c.in_ok-extend_from_slice.ensures.items ∙ ap (λ x. x ++ codes " ") number in
    let named = c.in_ok-extend_from_slice-2.ensures.items ∙ (ap (λ w. c.extend_from_slice.new.self.items ++ w) (c.object_name.ensures ∙ ap (λ d. (object_plan plan d).name) c.declaration.ensures) ∙ ap (λ x. x ++ name) space) in
    let point = c.in_ok-extend_from_slice-3.ensures.items ∙ ap (λ x. x ++ codes ".") named in
    let entry = c.in_ok-extend_from_slice-4.ensures.items ∙ (ap (λ w. c.extend_from_slice-3.new.self.items ++ w) c.entry_name.ensures ∙ ap (λ x. x ++ called) point) in
    let behind = c.in_ok-extend_from_slice-5.ensures.items ∙ ap (λ x. x ++ codes " ") entry in
    c.in_ok-extend_from_slice-6.ensures.items
    ∙ (ap (λ w. c.extend_from_slice-5.new.self.items ++ w) (c.barrier_word.ensures ∙ ap barrier_word (c.in_ok-decision.ensures.met plan))
    ∙ (ap (λ x. x ++ word) behind ∙ decision_told out (decimal (suc n)) name called word))

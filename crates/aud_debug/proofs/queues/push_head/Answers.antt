use Rattle.std.proofs.Common.{◌++◌, suc, ap, ◌∙◌, codes}
use Rattle.std.specs.Fmt.{decimal}
use Rattle.aud_typed.specs.Ties.View.{plain_program}
use Rattle.aud_meaning.specs.Parts.{entry_plan, owner_number}
use Rattle.aud_debug.specs.Ties.Rows.{owner_name, owner_word}
use Rattle.aud_debug.proofs.Queued.{grouped}
use Rattle.aud_debug.proofs.queues.push_head.Goals as goal

pub returns : goal.returns
returns c =
    let plan = (plain_program c.args.compiled.program.now).plan in
    let out = c.args.out.now.items in
    let o = c.args.owner in
    let kind = owner_word o in
    let name = owner_name plan o c.args.state.now in
    let called = (entry_plan plan c.args.entry).name in
    let word = c.in_ok-extend_from_slice.ensures.items ∙ ap (λ w. out ++ w) c.word_of.ensures in
    let first = c.in_ok-extend_from_slice-2.ensures.items ∙ ap (λ x. x ++ codes " ") word in
    let counted = c.in_ok-number_of.ensures ∙ ap suc c.number_in.ensures in
    let number = c.in_ok-push_decimal.ensures ∙ (ap (λ x. x ++ decimal c.in_ok-number_of.field-0) first ∙ ap (λ k. ((out ++ kind) ++ codes " ") ++ decimal k) counted) in
    let space = c.in_ok-extend_from_slice-3.ensures.items ∙ ap (λ x. x ++ codes " ") number in
    let named = c.in_ok-push_owner.ensures ∙ ap (λ x. x ++ name) space in
    let point = c.in_ok-extend_from_slice-4.ensures.items ∙ ap (λ x. x ++ codes ".") named in
    let entry = c.in_ok-extend_from_slice-5.ensures.items ∙ (ap (λ w. c.extend_from_slice-4.new.self.items ++ w) c.entry_name.ensures ∙ ap (λ x. x ++ called) point) in
    c.in_ok-extend_from_slice-6.ensures.items ∙ (ap (λ x. x ++ codes ":") entry ∙ grouped out kind (codes " ") (decimal (suc (owner_number o))) (codes " ") name (codes ".") called (codes ":"))

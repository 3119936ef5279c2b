use Rattle.std.proofs.Common.{◌++◌, suc, ap, ◌∙◌, codes}
use Rattle.std.proofs.lemmas.Result.{on_ok_weaker}
use Rattle.std.specs.Fmt.{decimal}
use Rattle.aud_typed.specs.Ties.View.{plain_program}
use Rattle.aud_meaning.specs.declared.state.NextStep.{NextStep}
use Rattle.aud_meaning.specs.Listings.{alternative_word, word}
use Rattle.aud_meaning.specs.Parts.{own_of}
use Rattle.aud_code.specs.Flat.{barrier_at}
use Rattle.aud_debug.specs.Ties.Rows.{task_head}
use Rattle.aud_machine.specs.Tasking.{step_in}
use Rattle.aud_debug.proofs.Grouped.{move_grouped}
use Rattle.aud_debug.proofs.moves.push_line.Goals as goal

pub returns : goal.returns
returns c =
    let plan = (plain_program c.args.compiled.program.now).plan in
    let code = c.args.compiled.code.now in
    let s = c.args.state.now in
    let n = c.args.step.task in
    let i = decimal c.args.index in
    let next = c.shown_step-next.result in
    let out = c.args.out.now.items in
    let picked = alternative_word plan (barrier_at code) c.args.step.alternative in
    let first = c.in_ok-extend_from_slice.ensures.items ∙ ap (λ x. x ++ codes " ") c.in_ok-push_decimal.ensures in
    let head = c.in_ok-push_task.ensures ∙ ap (λ x. x ++ task_head n s) first in
    let line = c.in_ok-push_decimal-2.ensures ∙ ap (λ x. x ++ decimal next.at.line) head in
    let space = c.in_ok-extend_from_slice-2.ensures.items ∙ ap (λ x. x ++ codes " ") line in
    let kind = c.in_ok-extend_from_slice-3.ensures.items ∙ (ap (λ w. c.extend_from_slice-2.new.self.items ++ w) c.step_word.ensures ∙ ap (λ x. x ++ word next.kind) space) in
    on_ok_weaker c.push_alternative.result
    (λ e. e
    ∙ (ap (λ x. x ++ picked) kind
    ∙ (ap (λ (x : NextStep). (((((out ++ i) ++ codes " ") ++ task_head n s) ++ decimal x.at.line) ++ codes " ") ++ word x.kind ++ picked) c.shown_step-next.ensures
    ∙ move_grouped out i (decimal (suc n)) (own_of n s).name (decimal (step_in plan code n s).at.line) (word (step_in plan code n s).kind) picked)))
    (c.push_alternative.ensures plan (barrier_at code))

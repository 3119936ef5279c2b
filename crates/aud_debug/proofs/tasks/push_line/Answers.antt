use Rattle.std.proofs.Common.{◌++◌, suc, ap, ◌∙◌, codes}
use Rattle.std.proofs.lemmas.Result.{on_ok_weaker}
use Rattle.std.specs.Fmt.{decimal}
use Rattle.aud_typed.specs.Ties.View.{plain_program}
use Rattle.aud_meaning.specs.declared.state.NextStep.{NextStep}
use Rattle.aud_meaning.specs.Parts.{own_of}
use Rattle.aud_debug.specs.Ties.Rows.{status_words, task_head}
use Rattle.aud_machine.specs.Tasking.{step_in}
use Rattle.aud_debug.proofs.Grouped.{task_grouped}
use Rattle.aud_debug.proofs.tasks.push_line.Goals as goal

pub returns : goal.returns
returns c =
    let plan = (plain_program c.args.compiled.program.now).plan in
    let code = c.args.compiled.code.now in
    let n = c.args.task in
    let s = c.args.state.now in
    let out = c.args.out.now.items in
    let status = status_words plan code n s in
    let head = c.in_ok-push_task.ensures in
    let told = c.in_ok-push_status.ensures ∙ ap (λ x. x ++ status) head in
    let space = c.in_ok-extend_from_slice.ensures.items ∙ ap (λ x. x ++ codes " ") told in
    on_ok_weaker c.push_decimal.result
    (λ e. e
    ∙ (ap (λ x. x ++ decimal c.shown_step-step.result.at.line) space
    ∙ (ap (λ (x : NextStep). (((out ++ task_head n s) ++ status) ++ codes " ") ++ decimal x.at.line) c.shown_step-step.ensures
    ∙ task_grouped out (decimal (suc n)) (own_of n s).name status (decimal (step_in plan code n s).at.line))))
    c.push_decimal.ensures

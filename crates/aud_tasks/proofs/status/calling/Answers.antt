use Rattle.std.proofs.Common.{⊎_elim, ap, sym, ◌∙◌}
use Rattle.aud_typed.specs.Ties.View.{plain_program}
use Rattle.aud_meaning.specs.declared.state.CallState.TheVariants.{Queued, Selected, Done, Cancelled}
use Rattle.aud_meaning.specs.Parts.{call_of}
use Rattle.aud_tasks.proofs.ViewLaws.Shown.{call_by}
use Rattle.aud_tasks.proofs.status.calling.Goals as goal

pub returns-in-Queued : goal.returns-in-Queued
returns-in-Queued c =
    let plan = (plain_program c.args.compiled.program.now).plan in
    let s = c.args.state.now in
    call_by plan c.args.compiled.code.now c.args.task s Queued (sym c.in-Queued.is ∙ c.call_state.ensures ∙ ap (λ id. (call_of id s).state) c.call.ensures)

pub returns-in-Selected : goal.returns-in-Selected
returns-in-Selected c =
    let plan = (plain_program c.args.compiled.program.now).plan in
    let s = c.args.state.now in
    call_by plan c.args.compiled.code.now c.args.task s Selected (sym c.in-Selected.is ∙ c.call_state.ensures ∙ ap (λ id. (call_of id s).state) c.call.ensures)

pub returns-in-Done : goal.returns-in-Done
returns-in-Done c =
    let plan = (plain_program c.args.compiled.program.now).plan in
    let s = c.args.state.now in
    let at = c.call_state.ensures ∙ ap (λ id. (call_of id s).state) c.call.ensures in
    c.ready_or.ensures
    ∙ ⊎_elim (λ i. call_by plan c.args.compiled.code.now c.args.task s Done (sym i ∙ at)) (λ i. call_by plan c.args.compiled.code.now c.args.task s Cancelled (sym i ∙ at)) c.in-Done.is

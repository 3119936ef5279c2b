use Rattle.std.proofs.Common.{ap, sym, subst, ◌∙◌}
use Rattle.aud_typed.specs.Ties.View.{plain_program}
use Rattle.aud_meaning.specs.Listings.Waits.{call_reasons}
use Rattle.aud_meaning.specs.Parts.{call_of}
use Rattle.aud_debug.specs.Ties.Pages.{AddsLines}
use Rattle.aud_debug.specs.Ties.Watched.{told_of}
use Rattle.aud_debug.proofs.Watched.{added_as, none_added}
use Rattle.aud_debug.proofs.waits.push_call.Goals as goal

pub returns-in-Queued : goal.returns-in-Queued
returns-in-Queued c =
    let plan = (plain_program c.args.compiled.program.now).plan in
    let s = c.args.state.now in
    let n = c.args.task in
    let id = c.args.id in
    subst (λ x. AddsLines c.push_queued.result c.args.page.now c.push_queued.new.page (told_of n (call_reasons plan x id (call_of id s) s) s)) (sym c.in-Queued.is ∙ c.call_state.ensures) c.push_queued.ensures

pub returns-in-Selected : goal.returns-in-Selected
returns-in-Selected c =
    let plan = (plain_program c.args.compiled.program.now).plan in
    let s = c.args.state.now in
    let n = c.args.task in
    let id = c.args.id in
    subst (λ x. AddsLines c.push_selected.result c.args.page.now c.push_selected.new.page (told_of n (call_reasons plan x id (call_of id s) s) s)) (sym c.in-Selected.is ∙ c.call_state.ensures) c.push_selected.ensures

pub returns-in-Done : goal.returns-in-Done
returns-in-Done c =
    let plan = (plain_program c.args.compiled.program.now).plan in
    let s = c.args.state.now in
    let n = c.args.task in
    let id = c.args.id in
    added_as c.args.page.now c.args.page.now _ _ (ap (λ x. told_of n (call_reasons plan x id (call_of id s) s) s) (sym c.in-Done.is ∙ c.call_state.ensures)) (none_added c.args.page.now)

pub returns-in-Cancelled : goal.returns-in-Cancelled
returns-in-Cancelled c =
    let plan = (plain_program c.args.compiled.program.now).plan in
    let s = c.args.state.now in
    let n = c.args.task in
    let id = c.args.id in
    added_as c.args.page.now c.args.page.now _ _ (ap (λ x. told_of n (call_reasons plan x id (call_of id s) s) s) (sym c.in-Cancelled.is ∙ c.call_state.ensures)) (none_added c.args.page.now)

use Rattle.std.proofs.Common.{ap, sym, subst, ◌∙◌}
use Rattle.aud_typed.specs.Ties.View.{plain_program}
use Rattle.aud_meaning.specs.Listings.Waits.{hold_reasons}
use Rattle.aud_meaning.specs.Parts.{own_of}
use Rattle.aud_machine.specs.Tasking.{plain_hold}
use Rattle.aud_debug.specs.Ties.Pages.{AddsLines}
use Rattle.aud_debug.specs.Ties.Watched.{told_of}
use Rattle.aud_debug.proofs.Watched.{added_as, none_added}
use Rattle.aud_debug.proofs.waits.push_hold.Goals as goal

pub returns-in-Nothing : goal.returns-in-Nothing
returns-in-Nothing c =
    let plan = (plain_program c.args.compiled.program.now).plan in
    let s = c.args.state.now in
    let n = c.args.task in
    let own = own_of n s in
    let held = sym (ap plain_hold c.in-Nothing.is) ∙ c.hold_of.ensures in
    added_as c.args.page.now c.args.page.now _ _ (ap (λ h. told_of n (hold_reasons plan h n own s) s) held) (none_added c.args.page.now)

pub returns-in-Call : goal.returns-in-Call
returns-in-Call c =
    let plan = (plain_program c.args.compiled.program.now).plan in
    let s = c.args.state.now in
    let n = c.args.task in
    let own = own_of n s in
    let held = sym (ap plain_hold c.in-Call.is) ∙ c.hold_of.ensures in
    subst (λ h. AddsLines c.push_call.result c.args.page.now c.push_call.new.page (told_of n (hold_reasons plan h n own s) s)) held c.push_call.ensures

pub returns-in-Accept : goal.returns-in-Accept
returns-in-Accept c =
    let plan = (plain_program c.args.compiled.program.now).plan in
    let s = c.args.state.now in
    let n = c.args.task in
    let own = own_of n s in
    let held = sym (ap plain_hold c.in-Accept.is) ∙ c.hold_of.ensures in
    subst (λ h. AddsLines c.push_accept.result c.args.page.now c.push_accept.new.page (told_of n (hold_reasons plan h n own s) s)) held c.push_accept.ensures

pub returns-in-Delay : goal.returns-in-Delay
returns-in-Delay c =
    let plan = (plain_program c.args.compiled.program.now).plan in
    let s = c.args.state.now in
    let n = c.args.task in
    let own = own_of n s in
    let held = sym (ap plain_hold c.in-Delay.is) ∙ c.hold_of.ensures in
    subst (λ h. AddsLines c.push_delay.result c.args.page.now c.push_delay.new.page (told_of n (hold_reasons plan h n own s) s)) held c.push_delay.ensures

pub returns-in-Object : goal.returns-in-Object
returns-in-Object c =
    let plan = (plain_program c.args.compiled.program.now).plan in
    let s = c.args.state.now in
    let n = c.args.task in
    let own = own_of n s in
    let held = sym (ap plain_hold c.in-Object.is) ∙ c.hold_of.ensures in
    subst (λ h. AddsLines c.push_kept.result c.args.page.now c.push_kept.new.page (told_of n (hold_reasons plan h n own s) s)) held c.push_kept.ensures

pub returns-in-Master : goal.returns-in-Master
returns-in-Master c =
    let plan = (plain_program c.args.compiled.program.now).plan in
    let s = c.args.state.now in
    let n = c.args.task in
    let own = own_of n s in
    let held = sym (ap plain_hold c.in-Master.is) ∙ c.hold_of.ensures in
    subst (λ h. AddsLines c.push_master.result c.args.page.now c.push_master.new.page (told_of n (hold_reasons plan h n own s) s)) held c.push_master.ensures

pub returns-in-Activation : goal.returns-in-Activation
returns-in-Activation c =
    let plan = (plain_program c.args.compiled.program.now).plan in
    let s = c.args.state.now in
    let n = c.args.task in
    let own = own_of n s in
    let held = sym (ap plain_hold c.in-Activation.is) ∙ c.hold_of.ensures in
    subst (λ h. AddsLines c.push_activation.result c.args.page.now c.push_activation.new.page (told_of n (hold_reasons plan h n own s) s)) held c.push_activation.ensures

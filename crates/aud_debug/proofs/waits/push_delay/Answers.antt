use Rattle.std.proofs.Common.{[], ap, sym, subst, ◌∙◌}
use Rattle.aud_meaning.specs.Listings.Waits.{times}
use Rattle.aud_meaning.specs.Parts.{own_of}
use Rattle.aud_debug.specs.Ties.Pages.{AddsLines}
use Rattle.aud_debug.specs.Ties.Watched.{first_of, told_of}
use Rattle.aud_debug.proofs.Waiting.{reasons_none, reasons_some}
use Rattle.aud_debug.proofs.Watched.{added_as, none_added}
use Rattle.aud_debug.proofs.waits.push_delay.Goals as goal

pub returns-in-Some : goal.returns-in-Some
returns-in-Some c =
    let s = c.args.state.now in
    let n = c.args.task in
    let ts = times (own_of n s).waits.delays in
    let found = sym (ap (λ ds. first_of (times ds)) c.delays.ensures) ∙ sym c.soonest.ensures ∙ c.in-Some.is in
    subst (λ l. AddsLines c.push_time.result c.args.page.now c.push_time.new.page (told_of n l s)) (reasons_some ts c.in-Some.time found) c.push_time.ensures

pub returns-in-None : goal.returns-in-None
returns-in-None c =
    let s = c.args.state.now in
    let n = c.args.task in
    let ts = times (own_of n s).waits.delays in
    let found = sym (ap (λ ds. first_of (times ds)) c.delays.ensures) ∙ sym c.soonest.ensures ∙ c.in-None.is in
    added_as c.args.page.now c.args.page.now _ _ (ap (λ l. told_of n l s) (reasons_none ts found)) (none_added c.args.page.now)

use Rattle.std.proofs.Common.{◌≡◌, None, Some, ap, sym, subst, ◌∙◌}
use Rattle.aud_typed.specs.Ties.View.{plain_program}
use Rattle.aud_meaning.specs.Listings.Waits.{raised_reasons}
use Rattle.aud_debug.specs.Ties.Pages.{AddsLines}
use Rattle.aud_debug.specs.Ties.Watched.{told_of}
use Rattle.aud_debug.proofs.Watched.{added_as, none_added}
use Rattle.aud_debug.proofs.waits.push_raised.Goals as goal

pub returns-in-Some : goal.returns-in-Some
returns-in-Some c =
    let plan = (plain_program c.args.compiled.program.now).plan in
    let s = c.args.state.now in
    let n = c.args.task in
    subst (λ p. AddsLines c.push_exception.result c.args.page.now c.push_exception.new.page (told_of n (raised_reasons plan p) s)) (sym c.in-Some.is ∙ c.pending.ensures) c.push_exception.ensures

pub returns-in-None : goal.returns-in-None
returns-in-None c =
    let plan = (plain_program c.args.compiled.program.now).plan in
    let s = c.args.state.now in
    let n = c.args.task in
    added_as c.args.page.now c.args.page.now _ _ (ap (λ p. told_of n (raised_reasons plan p) s) (sym c.in-None.is ∙ c.pending.ensures)) (none_added c.args.page.now)

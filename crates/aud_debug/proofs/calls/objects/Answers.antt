use Rattle.std.proofs.Common.{◌≡◌, IfOk, sym, subst}
use Rattle.aud_meaning.specs.Listings.{view}
use Rattle.aud_machine.specs.Shown.{program_in}
use Rattle.aud_machine.specs.Shows.{IfShows}
use Rattle.aud_debug.specs.Listed.{as_lines}
use Rattle.aud_debug.proofs.Ended.{lines_told}
use Rattle.aud_debug.proofs.calls.objects.Goals as goal

pub returns-clause-shown : goal.returns-clause-shown
returns-clause-shown c =
    let m = c.args.machine.now in
    subst (λ r. IfOk r (λ lines. IfShows m (λ shown. lines ≡ as_lines (view (program_in m) shown).objects))) (sym c.ok_or.ensures.value)
    (lines_told m (λ shown. as_lines (view (program_in m) shown).objects) c.in_ok-list.field-0 _ c.in_ok-list.ensures.shown)

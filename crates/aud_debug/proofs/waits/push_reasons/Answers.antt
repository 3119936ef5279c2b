use Rattle.std.proofs.Common.{◌≡◌, ◌++◌, [], Bool, true, false, ap, sym, ◌∙◌}
use Rattle.std.specs.Prelude.{if◌then◌else◌}
use Rattle.aud_typed.specs.Ties.View.{plain_program}
use Rattle.aud_meaning.specs.Listings.Waits.{hold_reasons, raised_reasons}
use Rattle.aud_meaning.specs.Parts.{is_terminated, own_of}
use Rattle.aud_machine.specs.Tasking.{hold_in}
use Rattle.aud_debug.specs.Ties.Watched.{told_of}
use Rattle.aud_debug.proofs.Pages.{both_added}
use Rattle.aud_debug.proofs.Waiting.{lines_append}
use Rattle.aud_debug.proofs.Watched.{added_as, none_added}
use Rattle.aud_debug.proofs.waits.push_reasons.Goals as goal

pub returns-then-is_terminated : goal.returns-then-is_terminated
returns-then-is_terminated c =
    let plan = (plain_program c.args.compiled.program.now).plan in
    let code = c.args.compiled.code.now in
    let s = c.args.state.now in
    let n = c.args.task in
    let own = own_of n s in
    let over : true ≡ is_terminated own.status = sym c.if-is_terminated.true ∙ c.is_terminated.ensures ∙ ap is_terminated c.status.ensures in
    let all = raised_reasons plan own.pending ++ hold_reasons plan (hold_in plan code n s) n own s in
    added_as c.args.page.now c.args.page.now _ _ (ap (λ b. told_of n (if b then [] else all) s) over) (none_added c.args.page.now)

pub returns : goal.returns
returns c =
    let plan = (plain_program c.args.compiled.program.now).plan in
    let code = c.args.compiled.code.now in
    let s = c.args.state.now in
    let n = c.args.task in
    let own = own_of n s in
    let on : false ≡ is_terminated own.status = sym c.if-is_terminated.false ∙ c.is_terminated.ensures ∙ ap is_terminated c.status.ensures in
    let first = raised_reasons plan own.pending in
    let second = hold_reasons plan (hold_in plan code n s) n own s in
    added_as c.args.page.now c.push_hold.new.page _ _
    (sym (lines_append n own.name first second) ∙ ap (λ b. told_of n (if b then [] else first ++ second) s) on)
    (both_added c.args.page.now c.push_raised.new.page c.push_hold.new.page (told_of n first s) (told_of n second s) c.in_ok-push_raised.ensures c.in_ok-push_hold.ensures)

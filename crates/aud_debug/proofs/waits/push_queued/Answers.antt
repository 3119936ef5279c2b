use Rattle.std.proofs.Common.{◌++◌, ◌∷◌, [], codes}
use Rattle.aud_typed.specs.Ties.View.{plain_program}
use Rattle.aud_meaning.specs.Listings.Waits.{delay_reasons, entry_words, expiry}
use Rattle.aud_meaning.specs.Parts.{call_of}
use Rattle.aud_debug.specs.Ties.Watched.{told_of}
use Rattle.aud_debug.proofs.Pages.{both_added}
use Rattle.aud_debug.proofs.waits.push_queued.Goals as goal

pub returns : goal.returns
returns c =
    let plan = (plain_program c.args.compiled.program.now).plan in
    let s = c.args.state.now in
    let n = c.args.task in
    let a = call_of c.args.id s in
    let line = codes "call " ++ entry_words plan a.owner a.entry s in
    both_added c.args.page.now c.push_queue.new.page c.push_expiry.new.page (told_of n (line ∷ []) s) (told_of n (delay_reasons (expiry a)) s) c.in_ok-push_queue.ensures c.in_ok-push_expiry.ensures

use Rattle.std.proofs.Common.{◌++◌, ap, codes, ◌∙◌}
use Rattle.aud_typed.specs.Ties.View.{plain_program}
use Rattle.aud_meaning.specs.Listings.Waits.{entry_words}
use Rattle.aud_meaning.specs.Parts.{call_of}
use Rattle.aud_debug.proofs.Waiting.{reason_ended, two_words}
use Rattle.aud_debug.proofs.waits.push_queue.Goals as goal

pub returns : goal.returns
returns c =
    let plan = (plain_program c.args.compiled.program.now).plan in
    let s = c.args.state.now in
    let before = c.extend_from_slice.new.self.items in
    let a = call_of c.args.id s in
    let called = c.in_ok-push_entry.ensures ∙ ap (λ o. before ++ entry_words plan o c.call_entry.result s) c.call_owner.ensures ∙ ap (λ e. before ++ entry_words plan a.owner e s) c.call_entry.ensures in
    let words = two_words _ _ _ (codes "call ") (entry_words plan a.owner a.entry s) c.in_ok-extend_from_slice.ensures.items called in
    reason_ended c.args.task s (codes "call " ++ entry_words plan a.owner a.entry s) _ _ _ _ _ _ c.in_ok-push_task.ensures words c.in_ok-end_line.ensures.bytes c.in_ok-end_line.ensures.count

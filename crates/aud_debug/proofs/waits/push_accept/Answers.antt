use Rattle.std.proofs.Common.{◌++◌, ap, ◌∙◌, codes}
use Rattle.aud_typed.specs.Ties.View.{plain_program}
use Rattle.aud_meaning.specs.Listings.Waits.{accept_words, delay_behind, terminate_words, times}
use Rattle.aud_meaning.specs.Parts.{own_of}
use Rattle.aud_debug.specs.Ties.Watched.{accept_line}
use Rattle.aud_debug.proofs.Waiting.{reason_ended, two_words}
use Rattle.aud_debug.proofs.waits.push_accept.Goals as goal

pub returns : goal.returns
returns c =
    let plan = (plain_program c.args.compiled.program.now).plan in
    let s = c.args.state.now in
    let n = c.args.task in
    let waits = (own_of n s).waits in
    let entries = accept_words plan waits.accepts in
    let last = terminate_words waits.terminate in
    let until = delay_behind (times waits.delays) in
    let one = c.in_ok-push_accepts.ensures ∙ ap (λ ones. c.extend_from_slice.new.self.items ++ accept_words plan ones) c.accepts.ensures in
    let two = c.in_ok-push_terminate.ensures ∙ ap (λ b. c.push_accepts.new.out.items ++ terminate_words b) c.has_terminate.ensures in
    let three = c.in_ok-push_soonest.ensures ∙ ap (λ ds. c.push_terminate.new.out.items ++ delay_behind (times ds)) c.delays.ensures in
    let words = two_words _ _ _ (codes "accept") (entries ++ (last ++ until)) c.in_ok-extend_from_slice.ensures.items (two_words _ _ _ entries (last ++ until) one (two_words _ _ _ last until two three)) in
    reason_ended n s (accept_line plan waits) _ _ _ _ _ _ c.in_ok-push_task.ensures words c.in_ok-end_line.ensures.bytes c.in_ok-end_line.ensures.count

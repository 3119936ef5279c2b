use Rattle.std.proofs.Common.{◌++◌, codes}
use Rattle.aud_meaning.specs.Listings.Values.{numbered}
use Rattle.aud_meaning.specs.Listings.Waits.{is_awaited}
use Rattle.aud_meaning.specs.Parts.{numbers, owns}
use Rattle.aud_debug.proofs.Waiting.{reason_ended, two_words}
use Rattle.aud_debug.proofs.waits.push_activation.Goals as goal

pub returns : goal.returns
returns c =
    let s = c.args.state.now in
    let n = c.args.task in
    let all = numbered (numbers (is_awaited n) 0 (owns s.tasks)) in
    let words = two_words _ _ _ (codes "activation") all c.in_ok-extend_from_slice.ensures.items c.in_ok-push_awaited.ensures in
    reason_ended n s (codes "activation" ++ all) _ _ _ _ _ _ c.in_ok-push_task.ensures words c.in_ok-end_line.ensures.bytes c.in_ok-end_line.ensures.count

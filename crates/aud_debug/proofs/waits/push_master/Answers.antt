use Rattle.std.proofs.Common.{◌++◌, ap, ◌∙◌, codes}
use Rattle.aud_meaning.specs.Listings.Values.{numbered}
use Rattle.aud_meaning.specs.Parts.{depends, numbers, owns}
use Rattle.aud_debug.proofs.Waiting.{numbers_owns, reason_ended, two_words}
use Rattle.aud_debug.proofs.waits.push_master.Goals as goal

pub returns : goal.returns
returns c =
    let s = c.args.state.now in
    let n = c.args.task in
    let all = numbers (depends c.args.master) 0 (owns s.tasks) in
    let are = c.deref.ensures.value ∙ c.in_ok-dependents.ensures ∙ numbers_owns (depends c.args.master) 0 s.tasks in
    let told = c.in_ok-push_numbers.ensures ∙ ap (λ ns. c.extend_from_slice.new.self.items ++ numbered ns) are in
    let words = two_words _ _ _ (codes "master") (numbered all) c.in_ok-extend_from_slice.ensures.items told in
    reason_ended n s (codes "master" ++ numbered all) _ _ _ _ _ _ c.in_ok-push_task.ensures words c.in_ok-end_line.ensures.bytes c.in_ok-end_line.ensures.count

use Rattle.std.proofs.Common.{◌++◌, ap, ◌∙◌, codes}
use Rattle.aud_typed.specs.Ties.View.{plain_program}
use Rattle.aud_meaning.specs.Listings.Values.{exception_name}
use Rattle.aud_debug.specs.Ties.Watched.{raised_line}
use Rattle.aud_debug.proofs.Waiting.{reason_ended, two_words}
use Rattle.aud_debug.proofs.waits.push_exception.Goals as goal

pub returns : goal.returns
returns c =
    let plan = (plain_program c.args.compiled.program.now).plan in
    let s = c.args.state.now in
    let n = c.args.task in
    let name = exception_name plan c.args.exception in
    let words = two_words _ _ _ (codes "raised ") name c.in_ok-extend_from_slice.ensures.items (c.in_ok-extend_from_slice-2.ensures.items ∙ ap (λ w. c.extend_from_slice.new.self.items ++ w) c.exception_name.ensures) in
    reason_ended n s (raised_line plan c.args.exception) _ _ _ _ _ _ c.in_ok-push_task.ensures words c.in_ok-end_line.ensures.bytes c.in_ok-end_line.ensures.count

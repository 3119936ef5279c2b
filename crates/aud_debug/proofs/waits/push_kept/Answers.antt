use Rattle.aud_typed.specs.Ties.View.{plain_program}
use Rattle.aud_meaning.specs.Listings.Waits.{object_words}
use Rattle.aud_debug.proofs.Waiting.{reason_ended}
use Rattle.aud_debug.proofs.waits.push_kept.Goals as goal

pub returns : goal.returns
returns c =
    let plan = (plain_program c.args.compiled.program.now).plan in
    reason_ended c.args.task c.args.state.now (object_words plan c.args.object c.args.state.now) _ _ _ _ _ _ c.in_ok-push_task.ensures c.in_ok-push_object.ensures c.in_ok-end_line.ensures.bytes c.in_ok-end_line.ensures.count

use Rattle.aud_typed.specs.Ties.View.{plain_program}
use Rattle.aud_meaning.specs.Listings.{object_queues, task_queues}
use Rattle.aud_debug.proofs.Pages.{both_added}
use Rattle.aud_debug.proofs.queues.push_queues.Goals as goal

pub returns : goal.returns
returns c =
    let plan = (plain_program c.args.compiled.program.now).plan in
    let s = c.args.state.now in
    both_added c.args.page.now c.push_tasks.new.page c.push_objects.new.page (task_queues plan 0 s.tasks s) (object_queues plan 0 s.shared.objects s) c.in_ok-push_tasks.ensures c.in_ok-push_objects.ensures

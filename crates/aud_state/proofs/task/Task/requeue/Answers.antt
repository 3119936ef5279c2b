use Rattle.std.proofs.Common.{Some, ap, ◌∙◌}
use Rattle.aud_meaning.specs.Configuration.{Own}
use Rattle.aud_meaning.specs.Ties.Stack.{closed_times}
use Rattle.aud_meaning.proofs.Part.{closes_times}
use Rattle.aud_code.specs.Places.{goes}
use Rattle.aud_sequential.specs.Parked.{Parked}
use Rattle.aud_state.specs.View.{plain_own, plain_task}
use Rattle.aud_state.proofs.task.Task.requeue.Goals as goal

pub returns : goal.returns
returns c =
    let t = c.args.self.now in
    let to = c.args.way.to in
    let loops = c.args.way.loops in
    let again = Some c.args.again in
    ap (λ (p : Parked). plain_task (record t { parked = p; again = again })) c.close_times.ensures
    ∙ ap (λ (p : Parked). plain_task (record t { parked = record p { stack = closed_times loops p.stack }; again = again })) c.go.ensures
    ∙ ap (λ (o : Own). record (plain_task t) { control = goes to (plain_task t).control; own = o }) (closes_times (record (plain_own t) { again = again }) t.parked.pending loops t.parked.stack)

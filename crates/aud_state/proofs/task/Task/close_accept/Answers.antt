use Rattle.std.proofs.Common.{None, ap, ◌∙◌}
use Rattle.aud_meaning.specs.Configuration.{Own}
use Rattle.aud_meaning.proofs.Part.{closes}
use Rattle.aud_sequential.specs.Parked.{Parked}
use Rattle.aud_state.specs.View.{plain_own, plain_task}
use Rattle.aud_state.proofs.task.Task.close_accept.Goals as goal

pub returns : goal.returns
returns c =
    let t = c.args.self.now in
    ap (λ (p : Parked). plain_task (record t { parked = p; again = None })) c.close.ensures
    ∙ ap (λ (o : Own). record (plain_task t) { own = record o { again = None } }) (closes (plain_own t) t.parked.pending t.parked.stack)

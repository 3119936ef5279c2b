use Rattle.std.proofs.Common.{ap, ◌∙◌}
use Rattle.aud_meaning.specs.Configuration.{Own}
use Rattle.aud_meaning.proofs.Part.{handles}
use Rattle.aud_code.specs.Control.{going}
use Rattle.aud_sequential.specs.Parked.{Parked}
use Rattle.aud_state.specs.View.{plain_own, plain_task}
use Rattle.aud_state.proofs.task.Task.handle.Goals as goal

pub returns : goal.returns
returns c =
    let t = c.args.self.now in
    ap (λ (p : Parked). plain_task (record t { parked = p })) c.handle.ensures
    ∙ ap (λ (o : Own). record (plain_task t) { control = (going c.args.code.now).handling c.args.pending.exception t.parked.control; own = o }) (handles (plain_own t) t.parked.pending c.args.pending t.parked.stack)

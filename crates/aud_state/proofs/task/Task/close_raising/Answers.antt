use Rattle.std.proofs.Common.{ap, ◌∙◌}
use Rattle.aud_meaning.specs.Configuration.{Own}
use Rattle.aud_meaning.specs.Effects.{pends}
use Rattle.aud_meaning.proofs.Part.{closes}
use Rattle.aud_sequential.specs.Parked.{Parked}
use Rattle.aud_state.specs.View.{plain_own, plain_task}
use Rattle.aud_state.proofs.task.Task.close_raising.Goals as goal

pub returns : goal.returns
returns c =
    let t = c.args.self.now in
    ap (λ (p : Parked). plain_task (record t { parked = p })) c.set_pending.ensures
    ∙ ap (λ (p : Parked). record (plain_task (record t { parked = p })) { own = pends c.args.exception c.args.at (plain_task (record t { parked = p })).own }) c.close.ensures
    ∙ ap (λ (o : Own). record (plain_task t) { own = pends c.args.exception c.args.at o }) (closes (plain_own t) t.parked.pending t.parked.stack)

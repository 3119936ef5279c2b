use Rattle.std.proofs.Common.{ap, ◌∙◌}
use Rattle.aud_meaning.specs.Configuration.{Own}
use Rattle.aud_meaning.proofs.Part.{leaves_loops}
use Rattle.aud_sequential.specs.Parked.{Parked}
use Rattle.aud_state.specs.View.{plain_own, plain_task}
use Rattle.aud_state.proofs.task.Task.out_of_loops.Goals as goal

pub returns : goal.returns
returns c =
    let t = c.args.self.now in
    ap (λ (p : Parked). plain_task (record t { parked = p })) c.close_loops.ensures
    ∙ ap (λ (o : Own). record (plain_task t) { own = o }) (leaves_loops (plain_own t) t.parked.pending t.parked.stack)

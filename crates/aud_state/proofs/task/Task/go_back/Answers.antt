use Rattle.std.proofs.Common.{None, ap, ◌∙◌}
use Rattle.aud_meaning.specs.Configuration.{Own}
use Rattle.aud_meaning.proofs.Part.{closes}
use Rattle.aud_sequential.specs.Parked.{Parked}
use Rattle.aud_state.specs.Condition.{Condition}
use Rattle.aud_state.specs.View.{plain_own, plain_task}
use Rattle.aud_state.proofs.task.Task.go_back.Goals as goal

pub returns : goal.returns
returns c =
    let t = c.args.self.now in
    let back = c.args.resumed in
    let come : Condition = record t.condition { status = back.status } in
    ap (λ (p : Condition). plain_task (record t { parked = c.set_pending.new.self; condition = p; again = None })) c.come_to.ensures
    ∙ ap (λ (p : Parked). plain_task (record t { parked = p; condition = come; again = None })) c.set_pending.ensures
    ∙ ap (λ (p : Parked). plain_task (record t { parked = record p { pending = back.pending }; condition = come; again = None })) c.close.ensures
    ∙ ap (λ (o : Own). record (plain_task t) { own = record o { status = back.status; pending = back.pending; again = None } }) (closes (plain_own t) t.parked.pending t.parked.stack)

use Rattle.std.proofs.Common.{sym, subst, arith}
use Rattle.aud_meaning.specs.Configuration.{All, Own}
use Rattle.aud_meaning.specs.Parts.{own_of}
use Rattle.aud_code.specs.Places.{Spot}
use Rattle.aud_state.specs.Resting.{RestsBy}
use Rattle.aud_state.proofs.TaskLaws.Changed.{own_at}
use Rattle.aud_state.proofs.state.State.rests.Goals as goal

pub returns-then-task-len : goal.returns-then-task-len
returns-then-task-len c = λ rests.
    let i = c.self.inside in
    let own = own_at i.tasks.items i.progress i.calls i.objects.items c.args.task c.index.result.now c.args.self.now (omega arith) c.index.ensures c.self.view_is in
    subst (λ (s : All Spot). RestsBy (own_of c.args.task c.args.self.now).status c.args.self.now.clock s.shared.calls (own_of c.args.task c.args.self.now)) c.self.view_is
    (subst (λ k. RestsBy (own_of c.args.task c.args.self.now).status k i.calls.calls (own_of c.args.task c.args.self.now)) c.clock.ensures.value (subst (λ (o : Own). RestsBy o.status c.clock.result i.calls.calls o) (sym own) (c.rests.ensures rests)))

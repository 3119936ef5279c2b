use Rattle.std.proofs.Common.{arith}
use Rattle.aud_state.proofs.TaskLaws.Evaluating.{nowhere, place_of}
use Rattle.aud_state.proofs.state.State.place.Goals as goal

pub returns-then-task-len : goal.returns-then-task-len
returns-then-task-len c =
    let i = c.self.inside in
    place_of i.tasks.items i.progress i.calls i.objects.items c.args.task c.index-found.result.now c.args.self.now (omega arith) c.index-found.ensures c.self.view_is c.standing.result.place (c.standing.ensures i.progress).place

pub returns : goal.returns
returns c =
    let i = c.self.inside in
    nowhere i.tasks.items i.progress i.calls i.objects.items c.args.task c.args.self.now (omega arith) c.self.view_is

use Rattle.std.proofs.Common.{arith}
use Rattle.aud_meaning.specs.Effects.{declares}
use Rattle.aud_sequential.specs.Parked.{numbers_from}
use Rattle.aud_state.proofs.TaskLaws.Beside.{alone_changed, alone_past}
use Rattle.aud_state.proofs.state.State.declare_tasks.Goals as goal

pub returns-in_ok-declare_tasks : goal.returns-in_ok-declare_tasks
returns-in_ok-declare_tasks c =
    let i = c.self.inside in
    alone_changed (declares (numbers_from c.args.first c.args.count)) i.tasks.items i.progress c.declare_tasks.new.progress i.calls i.objects.items c.args.n c.index_mut.result.now c.declare_tasks.new.self c.args.self.now
    (omega arith) c.index_mut.ensures.value c.in_ok-declare_tasks.ensures.does c.in_ok-declare_tasks.ensures.kept c.self.view_is

pub returns-else-n-len : goal.returns-else-n-len
returns-else-n-len c =
    let i = c.self.inside in
    alone_past (declares (numbers_from c.args.first c.args.count)) i.tasks.items i.progress i.calls i.objects.items c.args.n c.args.self.now (omega arith) c.self.view_is

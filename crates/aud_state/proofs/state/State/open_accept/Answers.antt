use Rattle.std.proofs.Common.{arith, length}
use Rattle.aud_meaning.specs.Configuration.{for_accept}
use Rattle.aud_meaning.specs.Effects.{opens}
use Rattle.aud_state.proofs.TaskLaws.Beside.{alone_changed, alone_past}
use Rattle.aud_state.proofs.state.State.open_accept.Goals as goal

pub returns-in_ok-open_accept : goal.returns-in_ok-open_accept
returns-in_ok-open_accept c =
    let i = c.self.inside in
    alone_changed (λ t. opens (for_accept c.args.call) c.args.region c.args.at t.own.display c.args.values.now (length c.args.values.now) t) i.tasks.items i.progress c.open_accept.new.progress i.calls i.objects.items c.args.n c.index_mut.result.now c.open_accept.new.self c.args.self.now
    (omega arith) c.index_mut.ensures.value c.in_ok-open_accept.ensures.does c.in_ok-open_accept.ensures.kept c.self.view_is

pub returns-else-n-len : goal.returns-else-n-len
returns-else-n-len c =
    let i = c.self.inside in
    alone_past (λ t. opens (for_accept c.args.call) c.args.region c.args.at t.own.display c.args.values.now (length c.args.values.now) t) i.tasks.items i.progress i.calls i.objects.items c.args.n c.args.self.now (omega arith) c.self.view_is

use Rattle.std.proofs.Common.{arith, length}
use Rattle.aud_meaning.specs.Effects.{opens}
use Rattle.aud_sequential.specs.Shown.{plans_of, unit_in}
use Rattle.aud_store.specs.Ties.Stored.{plain_purpose}
use Rattle.aud_state.proofs.TaskLaws.Beside.{alone_changed, alone_past}
use Rattle.aud_state.proofs.state.State.open_for.Goals as goal

pub returns-in_ok-open_for : goal.returns-in_ok-open_for
returns-in_ok-open_for c =
    let i = c.self.inside in
    alone_changed (λ t. opens (plain_purpose c.args.purpose c.args.backs.now) (unit_in (plans_of c.args.units.now) c.args.unit).region c.args.at c.args.display.now c.args.values.now (length c.args.values.now) t) i.tasks.items i.progress c.open_for.new.progress i.calls i.objects.items c.args.n c.index_mut.result.now c.open_for.new.self c.args.self.now
    (omega arith) c.index_mut.ensures.value c.in_ok-open_for.ensures.does c.in_ok-open_for.ensures.kept c.self.view_is

pub returns-else-n-len : goal.returns-else-n-len
returns-else-n-len c =
    let i = c.self.inside in
    alone_past (λ t. opens (plain_purpose c.args.purpose c.args.backs.now) (unit_in (plans_of c.args.units.now) c.args.unit).region c.args.at c.args.display.now c.args.values.now (length c.args.values.now) t) i.tasks.items i.progress i.calls i.objects.items c.args.n c.args.self.now (omega arith) c.self.view_is

use Rattle.std.proofs.Common.{ap, sym, subst, arith}
use Rattle.aud_meaning.specs.Configuration.{Own}
use Rattle.aud_meaning.specs.Effects.{out_of_loops}
use Rattle.aud_meaning.specs.Ties.Stack as stack
use Rattle.aud_meaning.proofs.Part.{leaves_loops}
use Rattle.aud_store.specs.Ties.Stored.{IsInnermost}
use Rattle.aud_state.specs.View.{plain_own}
use Rattle.aud_state.proofs.TaskLaws.Changed.{own_at, own_none}
use Rattle.aud_state.proofs.state.State.construct.Goals as goal

pub returns-then-n-len : goal.returns-then-n-len
returns-then-n-len c =
    let i = c.self.inside in
    let t = c.index-found.result.now in
    subst (λ (o : Own). IsInnermost c.construct.result (out_of_loops o).opened) (sym (own_at i.tasks.items i.progress i.calls i.objects.items c.args.n t c.args.self.now (omega arith) c.index-found.ensures c.self.view_is))
    (subst (λ (o : Own). IsInnermost c.construct.result o.opened) (leaves_loops (plain_own t) t.parked.pending t.parked.stack)
    (subst (λ (s : stack.Stack). IsInnermost c.construct.result (stack.out_of_loops s).opened) c.stack.ensures c.construct.ensures))

pub returns : goal.returns
returns c =
    let i = c.self.inside in
    ap (λ (o : Own). (out_of_loops o).opened) (own_none i.tasks.items i.progress i.calls i.objects.items c.args.n c.args.self.now (omega arith) c.self.view_is)

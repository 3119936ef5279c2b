use Rattle.std.proofs.Common.{ap, sym, ◌∙◌, arith}
use Rattle.aud_meaning.specs.Configuration.{Own}
use Rattle.aud_meaning.specs.Ties.Stack.{Stack}
use Rattle.aud_store.specs.Ties.Stored.{innermost_backs}
use Rattle.aud_state.proofs.TaskLaws.Changed.{own_at, own_none}
use Rattle.aud_state.proofs.state.State.backs.Goals as goal

pub returns-then-n-len : goal.returns-then-n-len
returns-then-n-len c =
    let i = c.self.inside in
    c.in_ok-backs.ensures.ok
    ∙ c.backs.ensures
    ∙ ap (λ (s : Stack). innermost_backs s.opened) c.stack.ensures
    ∙ ap (λ (o : Own). innermost_backs o.opened) (sym (own_at i.tasks.items i.progress i.calls i.objects.items c.args.n c.index-found.result.now c.args.self.now (omega arith) c.index-found.ensures c.self.view_is))

pub returns : goal.returns
returns c =
    let i = c.self.inside in
    c.new.ensures.items
    ∙ ap (λ (o : Own). innermost_backs o.opened) (sym (own_none i.tasks.items i.progress i.calls i.objects.items c.args.n c.args.self.now (omega arith) c.self.view_is))

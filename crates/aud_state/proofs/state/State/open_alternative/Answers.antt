use Rattle.std.proofs.Common.{ap, sym, ◌∙◌, arith}
use Rattle.aud_meaning.specs.Configuration.{Own}
use Rattle.aud_meaning.specs.Parts.{open_alternatives}
use Rattle.aud_state.specs.Chosen.{chosen}
use Rattle.aud_state.proofs.TaskLaws.Changed.{own_at, own_none}
use Rattle.aud_state.proofs.state.State.open_alternative.Goals as goal

pub returns-then-task-len : goal.returns-then-task-len
returns-then-task-len c =
    let i = c.self.inside in
    c.open_alternative.ensures
    ∙ ap (λ (o : Own). chosen c.args.alternative (open_alternatives o c.args.entry)) (sym (own_at i.tasks.items i.progress i.calls i.objects.items c.args.task c.index-found.result.now c.args.self.now (omega arith) c.index-found.ensures c.self.view_is))

pub returns : goal.returns
returns c =
    let i = c.self.inside in
    ap (λ (o : Own). chosen c.args.alternative (open_alternatives o c.args.entry)) (sym (own_none i.tasks.items i.progress i.calls i.objects.items c.args.task c.args.self.now (omega arith) c.self.view_is))

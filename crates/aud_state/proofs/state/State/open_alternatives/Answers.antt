use Rattle.std.proofs.Common.{map, ap, sym, ◌∙◌, arith}
use Rattle.std.proofs.lemmas.Result.{IfOk-weaker}
use Rattle.aud_meaning.specs.declared.state.OpenAccept.{OpenAccept}
use Rattle.aud_meaning.specs.Configuration.{Own}
use Rattle.aud_meaning.specs.Parts.{open_alternatives}
use Rattle.aud_state.proofs.TaskLaws.Changed.{own_at, own_none}
use Rattle.aud_state.proofs.state.State.open_alternatives.Goals as goal

pub returns-then-task-len : goal.returns-then-task-len
returns-then-task-len c =
    let i = c.self.inside in
    IfOk-weaker c.open_alternatives.result _ _ (λ numbers h.
    h ∙ ap (λ (o : Own). map (λ (a : OpenAccept). a.alternative) (open_alternatives o c.args.entry)) (sym (own_at i.tasks.items i.progress i.calls i.objects.items c.args.task c.index-found.result.now c.args.self.now (omega arith) c.index-found.ensures c.self.view_is)))
    c.open_alternatives.ensures

pub returns : goal.returns
returns c =
    let i = c.self.inside in
    c.new.ensures.items
    ∙ ap (λ (o : Own). map (λ (a : OpenAccept). a.alternative) (open_alternatives o c.args.entry)) (sym (own_none i.tasks.items i.progress i.calls i.objects.items c.args.task c.args.self.now (omega arith) c.self.view_is))

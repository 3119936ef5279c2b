use Rattle.std.proofs.Common.{ap, ◌∙◌}
use Rattle.std.proofs.lemmas.Result.{IfOk-weaker}
use Rattle.aud_meaning.specs.Ties.Stack.{Stack}
use Rattle.aud_store.specs.Ties.Stored.{Stored}
use Rattle.aud_state.proofs.TaskLaws.Evaluating.{within_all, begins, marks}
use Rattle.aud_state.proofs.state.State.evaluate_to_mark.Goals as goal

pub evaluate_to_mark-requires : goal.evaluate_to_mark-requires
evaluate_to_mark-requires c =
    let i = c.self.inside in
    begins i.tasks.items i.progress i.calls i.objects.items c.args.n c.index-found.result.now c.args.self.now (within_all i.tasks.items i.progress i.calls i.objects.items c.args.n c.args.self.now c.self.view_is c.requires.within) c.index-found.ensures c.self.view_is c.standing-place.result.place (c.standing-place.ensures i.progress).place c.args.code.now.lines c.requires.begins

pub returns : goal.returns
returns c =
    let i = c.self.inside in
    IfOk-weaker c.evaluate_to_mark.result _ _ (λ is_marked h.
    marks i.tasks.items i.progress i.calls i.objects.items c.args.n c.index-found.result.now c.args.self.now (within_all i.tasks.items i.progress i.calls i.objects.items c.args.n c.args.self.now c.self.view_is c.requires.within) c.index-found.ensures c.self.view_is c.standing-place.result.place (c.standing-place.ensures i.progress).place c.args.code.now c.evaluate_to_mark.new.operands is_marked c.deref.result.now c.display-display.result.now c.frames-frames.result.now
    c.deref.ensures.value
    (c.display-display.ensures ∙ ap (λ (s : Stack). s.display) c.stack.ensures)
    (c.frames-frames.ensures ∙ ap (λ (s : Stored). s.frames) c.store.ensures) h)
    c.evaluate_to_mark.ensures

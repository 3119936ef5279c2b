use Rattle.std.proofs.Common.{ap, sym, ◌∙◌}
use Rattle.std.proofs.lemmas.Result.{IfOk-weaker}
use Rattle.aud_meaning.specs.Ties.Stack.{Stack}
use Rattle.aud_store.specs.Ties.Stored.{Stored}
use Rattle.aud_state.proofs.TaskLaws.Evaluating.{within_all, begins, ends, executes, reaches, fits}
use Rattle.aud_state.proofs.state.State.evaluate.Goals as goal

pub evaluate-requires : goal.evaluate-requires
evaluate-requires c = record {
  begins =
      let i = c.self.inside in
      begins i.tasks.items i.progress i.calls i.objects.items c.args.n c.index-found.result.now c.args.self.now (within_all i.tasks.items i.progress i.calls i.objects.items c.args.n c.args.self.now c.self.view_is c.requires.within) c.index-found.ensures c.self.view_is c.standing-place.result.place (c.standing-place.ensures i.progress).place c.args.code.now.lines c.requires.begins;
  time = c.clock.ensures.within;
}

pub returns-clause-ends : goal.returns-clause-ends
returns-clause-ends c =
    let i = c.self.inside in
    IfOk-weaker c.evaluate.result _ _ (λ e h.
    ends i.tasks.items i.progress i.calls i.objects.items c.args.n c.index-found.result.now c.args.self.now (within_all i.tasks.items i.progress i.calls i.objects.items c.args.n c.args.self.now c.self.view_is c.requires.within) c.index-found.ensures c.self.view_is c.standing-place.result.place (c.standing-place.ensures i.progress).place c.args.code.now c.clock.result c.objects.result c.evaluate.new.operands e.outcome c.deref.result.now c.display-display.result.now c.frames-frames.result.now
    c.deref.ensures.value
    (c.display-display.ensures ∙ ap (λ (s : Stack). s.display) c.stack.ensures)
    (c.frames-frames.ensures ∙ ap (λ (s : Stored). s.frames) c.store.ensures) (sym c.clock.ensures.value) (sym c.objects.ensures) h)
    c.evaluate.ensures.ends

pub returns-clause-reaches : goal.returns-clause-reaches
returns-clause-reaches c =
    let i = c.self.inside in
    IfOk-weaker c.evaluate.result _ _ (λ e h.
    reaches i.tasks.items i.progress i.calls i.objects.items c.args.n c.index-found.result.now c.args.self.now (within_all i.tasks.items i.progress i.calls i.objects.items c.args.n c.args.self.now c.self.view_is c.requires.within) c.index-found.ensures c.self.view_is c.standing-place.result.place (c.standing-place.ensures i.progress).place c.args.code.now e.outcome h)
    c.evaluate.ensures.reaches

pub returns-clause-fits : goal.returns-clause-fits
returns-clause-fits c =
    let i = c.self.inside in
    IfOk-weaker c.evaluate.result _ _ (λ e h.
    fits i.tasks.items i.progress i.calls i.objects.items c.args.n c.index-found.result.now c.args.self.now (within_all i.tasks.items i.progress i.calls i.objects.items c.args.n c.args.self.now c.self.view_is c.requires.within) c.index-found.ensures c.self.view_is c.standing-place.result.place (c.standing-place.ensures i.progress).place c.args.code.now c.evaluate.new.operands e.outcome h)
    c.evaluate.ensures.fits

pub returns-clause-ticks : goal.returns-clause-ticks
returns-clause-ticks c =
    let i = c.self.inside in
    IfOk-weaker c.evaluate.result _ _ (λ e h.
    executes i.tasks.items i.progress i.calls i.objects.items c.args.n c.index-found.result.now c.args.self.now (within_all i.tasks.items i.progress i.calls i.objects.items c.args.n c.args.self.now c.self.view_is c.requires.within) c.index-found.ensures c.self.view_is c.standing-place.result.place (c.standing-place.ensures i.progress).place c.args.code.now c.clock.result c.objects.result e.ticks c.deref.result.now c.display-display.result.now c.frames-frames.result.now
    c.deref.ensures.value
    (c.display-display.ensures ∙ ap (λ (s : Stack). s.display) c.stack.ensures)
    (c.frames-frames.ensures ∙ ap (λ (s : Stored). s.frames) c.store.ensures) (sym c.clock.ensures.value) (sym c.objects.ensures) h)
    c.evaluate.ensures.ticks

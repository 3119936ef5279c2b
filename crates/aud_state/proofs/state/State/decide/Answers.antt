use Rattle.std.proofs.Common.{map, ap, ◌∙◌}
use Rattle.std.proofs.lemmas.Result.{IfOk-weaker}
use Rattle.aud_code.specs.View.{plain_line}
use Rattle.aud_store.specs.Ties.Stored.{Stored}
use Rattle.aud_state.proofs.TaskLaws.Deciding.{decided, few, holds}
use Rattle.aud_state.proofs.state.State.decide.Goals as goal

pub decide-requires : goal.decide-requires
decide-requires c = c.in-Some.ensures.is_one

pub returns-in-None-clause-met : goal.returns-in-None-clause-met
returns-in-None-clause-met c = λ plan. c.holding.ensures.met ∙ holds c.args.code.now c.args.entry _ c.in-None.ensures.none

pub returns-clause-met : goal.returns-clause-met
returns-clause-met c =
    let i = c.self.inside in
    IfOk-weaker c.decide.result _ _ (λ decision h plan.
    decided c.args.code.now c.args.entry (map plain_line c.in-Some.lines.now) c.in-Some.ensures.some i.tasks.items i.progress i.calls i.objects.items c.args.object c.args.self.now c.self.view_is decision.met c.deref.result.now c.object_display-display.result.now c.frames-frames.result.now
    c.deref.ensures.value c.object_display-display.ensures (c.frames-frames.ensures ∙ ap (λ (s : Stored). s.frames) c.store.ensures) h)
    c.decide.ensures.met

pub returns-clause-few : goal.returns-clause-few
returns-clause-few c =
    IfOk-weaker c.decide.result _ _ (λ decision h. few c.args.code.now c.args.entry (map plain_line c.in-Some.lines.now) c.in-Some.ensures.some decision.ticks h) c.decide.ensures.few

use Rattle.std.proofs.Common.{sym, ◌∙◌}
use Rattle.aud_tasks.proofs.StepLaws.Turning.{at_once_as, usual_deferred, usual_normal}
use Rattle.aud_tasks.proofs.turn.under_way.Goals as goal
use Rattle.aud_tasks.proofs.turn.under_way.Goals.{else-is_abnormal-via-then-is_abnormal+else-not-is_deferred, else-is_abnormal-via-else-is_abnormal}

pub returns-then-not-is_deferred : goal.returns-then-not-is_deferred
returns-then-not-is_deferred c = λ plan.
    at_once_as plan c.args.code.now c.args.n c.args.state.now (sym c.is_abnormal.ensures ∙ c.if-is_abnormal.true) (sym (c.is_deferred.ensures plan) ∙ c.if-not-is_deferred.true)
    ∙ c.at_once.ensures plan c.args.code.now

pub returns-else-is_abnormal : goal.returns-else-is_abnormal
returns-else-is_abnormal c = λ plan.
    elim c.else-is_abnormal.branch [
      | else-is_abnormal-via-then-is_abnormal+else-not-is_deferred w ↦
          usual_deferred plan c.args.code.now c.args.n c.args.state.now (sym c.is_abnormal.ensures ∙ w.if-is_abnormal.true) (sym (w.is_deferred.ensures plan) ∙ w.if-not-is_deferred.false)
          ∙ c.usual.ensures plan c.args.code.now
      | else-is_abnormal-via-else-is_abnormal w ↦
          usual_normal plan c.args.code.now c.args.n c.args.state.now (sym c.is_abnormal.ensures ∙ w.if-is_abnormal.false)
          ∙ c.usual.ensures plan c.args.code.now
    ]

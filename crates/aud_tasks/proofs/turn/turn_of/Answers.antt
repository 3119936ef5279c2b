use Rattle.std.proofs.Common.{⊎_elim, sym, ◌∙◌}
use Rattle.aud_meaning.specs.declared.state.Status.TheVariants.{Accepting, Activating, Calling, Completed, Created, Delaying, Running, Terminated}
use Rattle.aud_tasks.proofs.StepLaws.Turning.{turn_as, turn_plain}
use Rattle.aud_tasks.proofs.turn.turn_of.Goals as goal

pub returns-in-Created : goal.returns-in-Created
returns-in-Created c = λ plan.
    ⊎_elim (λ i. turn_as plan c.args.code.now c.args.n c.args.state.now Created (sym c.status.ensures ∙ i)) (λ i. turn_as plan c.args.code.now c.args.n c.args.state.now Terminated (sym c.status.ensures ∙ i)) c.in-Created.is

pub returns-in-Completed : goal.returns-in-Completed
returns-in-Completed c = λ plan. turn_as plan c.args.code.now c.args.n c.args.state.now Completed (sym c.status.ensures ∙ c.in-Completed.is)

pub returns-in-Running : goal.returns-in-Running
returns-in-Running c = λ plan.
    ⊎_elim (λ i. turn_as plan c.args.code.now c.args.n c.args.state.now Running (sym c.status.ensures ∙ i) ∙ c.under_way.ensures plan) (λ j. ⊎_elim (λ i. turn_as plan c.args.code.now c.args.n c.args.state.now Activating (sym c.status.ensures ∙ i) ∙ c.under_way.ensures plan) (λ j. ⊎_elim (λ i. turn_as plan c.args.code.now c.args.n c.args.state.now Accepting (sym c.status.ensures ∙ i) ∙ c.under_way.ensures plan) (λ j. ⊎_elim (λ i. turn_as plan c.args.code.now c.args.n c.args.state.now Delaying (sym c.status.ensures ∙ i) ∙ c.under_way.ensures plan) (λ i. turn_as plan c.args.code.now c.args.n c.args.state.now Calling (sym c.status.ensures ∙ i) ∙ c.under_way.ensures plan) j) j) j) c.in-Running.is

pub returns-then-is_plain : goal.returns-then-is_plain
returns-then-is_plain c = λ plan. turn_plain plan c.args.code.now c.args.n c.args.state.now (c.is_plain.ensures c.if-is_plain.true)

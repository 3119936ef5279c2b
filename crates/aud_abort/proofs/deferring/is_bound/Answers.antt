use Rattle.std.proofs.Common.{⊎_elim, sym, ◌∙◌}
use Rattle.aud_meaning.specs.declared.state.Status.TheVariants.{Accepting, Activating, Calling, Completed, Created, Delaying, Running, Terminated}
use Rattle.aud_abort.proofs.Bound.{bound_as}
use Rattle.aud_abort.proofs.deferring.is_bound.Goals as goal

pub returns-in-Running : goal.returns-in-Running
returns-in-Running c = λ plan.
    c.is_leaving.ensures plan
    ∙ sym (bound_as plan c.args.code.now c.args.n c.args.state.now Running (sym c.status.ensures ∙ c.in-Running.is))

pub returns-in-Calling : goal.returns-in-Calling
returns-in-Calling c = λ plan.
    c.is_bound_call.ensures
    ∙ sym (bound_as plan c.args.code.now c.args.n c.args.state.now Calling (sym c.status.ensures ∙ c.in-Calling.is))

pub returns-in-Created : goal.returns-in-Created
returns-in-Created c = λ plan.
    ⊎_elim (λ i. sym (bound_as plan c.args.code.now c.args.n c.args.state.now Created (sym c.status.ensures ∙ i))) (λ j. ⊎_elim (λ i. sym (bound_as plan c.args.code.now c.args.n c.args.state.now Activating (sym c.status.ensures ∙ i))) (λ j. ⊎_elim (λ i. sym (bound_as plan c.args.code.now c.args.n c.args.state.now Accepting (sym c.status.ensures ∙ i))) (λ j. ⊎_elim (λ i. sym (bound_as plan c.args.code.now c.args.n c.args.state.now Delaying (sym c.status.ensures ∙ i))) (λ j. ⊎_elim (λ i. sym (bound_as plan c.args.code.now c.args.n c.args.state.now Completed (sym c.status.ensures ∙ i))) (λ i. sym (bound_as plan c.args.code.now c.args.n c.args.state.now Terminated (sym c.status.ensures ∙ i))) j) j) j) j) c.in-Created.is

use Rattle.std.proofs.Common.{⊎_elim, true, sym, ◌∙◌}
use Rattle.aud_meaning.specs.declared.state.Status.TheVariants.{Accepting, Activating, Calling, Completed, Created, Delaying, Running, Terminated}
use Rattle.aud_tasks.proofs.ViewLaws.Shown.{status_as}
use Rattle.aud_tasks.proofs.status.servicing.Goals as goal

pub returns-in-Created : goal.returns-in-Created
returns-in-Created c = λ plan code. sym (status_as plan code c.args.task c.args.state.now true Created (sym c.status.ensures ∙ c.in-Created.is))

pub returns-in-Completed : goal.returns-in-Completed
returns-in-Completed c = λ plan code. sym (status_as plan code c.args.task c.args.state.now true Completed (sym c.status.ensures ∙ c.in-Completed.is))

pub returns-in-Terminated : goal.returns-in-Terminated
returns-in-Terminated c = λ plan code. sym (status_as plan code c.args.task c.args.state.now true Terminated (sym c.status.ensures ∙ c.in-Terminated.is))

pub returns-in-Running : goal.returns-in-Running
returns-in-Running c = λ plan code.
    ⊎_elim (λ i. sym (status_as plan code c.args.task c.args.state.now true Running (sym c.status.ensures ∙ i))) (λ j. ⊎_elim (λ i. sym (status_as plan code c.args.task c.args.state.now true Activating (sym c.status.ensures ∙ i))) (λ j. ⊎_elim (λ i. sym (status_as plan code c.args.task c.args.state.now true Accepting (sym c.status.ensures ∙ i))) (λ j. ⊎_elim (λ i. sym (status_as plan code c.args.task c.args.state.now true Delaying (sym c.status.ensures ∙ i))) (λ i. sym (status_as plan code c.args.task c.args.state.now true Calling (sym c.status.ensures ∙ i))) j) j) j) c.in-Running.is

use Rattle.std.proofs.Common.{None, Some, ⊎_elim, refl, sym, ◌∙◌}
use Rattle.aud_meaning.specs.declared.state.Status.TheVariants.{Accepting, Activating, Calling, Completed, Created, Delaying, Running, Terminated}
use Rattle.aud_meaning.specs.Parts.{own_of}
use Rattle.aud_tasks.proofs.StepLaws.Turning.{usual_as}
use Rattle.aud_tasks.proofs.turn.usual.Goals as goal

pub returns-in-Some : goal.returns-in-Some
returns-in-Some c = λ plan code.
    usual_as plan code c.args.n c.args.state.now (Some c.in-Some.servicing) (own_of c.args.n c.args.state.now).status (sym c.serving.ensures ∙ c.in-Some.is) refl

pub returns-in-Running : goal.returns-in-Running
returns-in-Running c = λ plan code.
    usual_as plan code c.args.n c.args.state.now None Running (sym c.serving.ensures ∙ c.in-None.is) (sym c.status.ensures ∙ c.in-Running.is)
    ∙ c.running.ensures plan code

pub returns-in-Accepting : goal.returns-in-Accepting
returns-in-Accepting c = λ plan code.
    ⊎_elim (λ i. usual_as plan code c.args.n c.args.state.now None Accepting (sym c.serving.ensures ∙ c.in-None.is) (sym c.status.ensures ∙ i)) (λ i. usual_as plan code c.args.n c.args.state.now None Delaying (sym c.serving.ensures ∙ c.in-None.is) (sym c.status.ensures ∙ i)) c.in-Accepting.is

pub returns-in-Calling : goal.returns-in-Calling
returns-in-Calling c = λ plan code.
    usual_as plan code c.args.n c.args.state.now None Calling (sym c.serving.ensures ∙ c.in-None.is) (sym c.status.ensures ∙ c.in-Calling.is)

pub returns-in-Created : goal.returns-in-Created
returns-in-Created c = λ plan code.
    ⊎_elim (λ i. usual_as plan code c.args.n c.args.state.now None Created (sym c.serving.ensures ∙ c.in-None.is) (sym c.status.ensures ∙ i)) (λ j. ⊎_elim (λ i. usual_as plan code c.args.n c.args.state.now None Activating (sym c.serving.ensures ∙ c.in-None.is) (sym c.status.ensures ∙ i)) (λ j. ⊎_elim (λ i. usual_as plan code c.args.n c.args.state.now None Completed (sym c.serving.ensures ∙ c.in-None.is) (sym c.status.ensures ∙ i)) (λ i. usual_as plan code c.args.n c.args.state.now None Terminated (sym c.serving.ensures ∙ c.in-None.is) (sym c.status.ensures ∙ i)) j) j) c.in-Created.is

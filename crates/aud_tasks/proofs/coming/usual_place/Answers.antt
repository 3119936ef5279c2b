use Rattle.std.proofs.Common.{None, Some, ⊎_elim, refl, sym, ◌∙◌}
use Rattle.aud_meaning.specs.declared.state.Status.TheVariants.{Accepting, Activating, Calling, Completed, Created, Delaying, Running, Terminated}
use Rattle.aud_meaning.specs.Parts.{own_of}
use Rattle.aud_tasks.proofs.ViewLaws.Listed.{place_as}
use Rattle.aud_tasks.proofs.coming.usual_place.Goals as goal

pub returns-in-Some : goal.returns-in-Some
returns-in-Some c = λ plan units.
    let code = c.args.compiled.code.now in
    let s = c.args.state.now in
    let n = c.args.task in
    sym (place_as plan code n s (Some c.in-Some.servicing) (own_of n s).status (sym c.serving.ensures ∙ c.in-Some.is) refl)

pub returns-in-Created : goal.returns-in-Created
returns-in-Created c = λ plan units.
    let code = c.args.compiled.code.now in
    let s = c.args.state.now in
    let n = c.args.task in
    c.begin_of_body.ensures plan units
    ∙ sym (place_as plan code n s None Created (sym c.serving.ensures ∙ c.in-None.is) (sym c.status.ensures ∙ c.in-Created.is))

pub returns-in-Running : goal.returns-in-Running
returns-in-Running c = λ plan units.
    let code = c.args.compiled.code.now in
    let s = c.args.state.now in
    let n = c.args.task in
    c.shown_place.ensures
    ∙ sym (place_as plan code n s None Running (sym c.serving.ensures ∙ c.in-None.is) (sym c.status.ensures ∙ c.in-Running.is))

pub returns-in-Activating : goal.returns-in-Activating
returns-in-Activating c = λ plan units.
    let code = c.args.compiled.code.now in
    let s = c.args.state.now in
    let n = c.args.task in
    c.blocked_at.ensures
    ∙ sym (⊎_elim (λ i. place_as plan code n s None Activating (sym c.serving.ensures ∙ c.in-None.is) (sym c.status.ensures ∙ i)) (λ j. ⊎_elim (λ i. place_as plan code n s None Accepting (sym c.serving.ensures ∙ c.in-None.is) (sym c.status.ensures ∙ i)) (λ j. ⊎_elim (λ i. place_as plan code n s None Delaying (sym c.serving.ensures ∙ c.in-None.is) (sym c.status.ensures ∙ i)) (λ i. place_as plan code n s None Calling (sym c.serving.ensures ∙ c.in-None.is) (sym c.status.ensures ∙ i)) j) j) c.in-Activating.is)

pub returns-in-Completed : goal.returns-in-Completed
returns-in-Completed c = λ plan units.
    let code = c.args.compiled.code.now in
    let s = c.args.state.now in
    let n = c.args.task in
    c.end_of_body.ensures plan units
    ∙ sym (⊎_elim (λ i. place_as plan code n s None Completed (sym c.serving.ensures ∙ c.in-None.is) (sym c.status.ensures ∙ i)) (λ i. place_as plan code n s None Terminated (sym c.serving.ensures ∙ c.in-None.is) (sym c.status.ensures ∙ i)) c.in-Completed.is)

use Rattle.std.proofs.Common.{Some, None, sym, ◌∙◌, subst}
use Rattle.aud_typed.specs.Ties.View.{plain_program}
use Rattle.aud_tasks.specs.Counting.{most_of_barriers, Counts}
use Rattle.aud_tasks.proofs.Results.{if_ok, if_on_ok}
use Rattle.aud_tasks.proofs.Ticking.{barriers_alone, no_more}
use Rattle.aud_tasks.proofs.StepLaws.Stepping.{acts_so, executes_so, task_there}
use Rattle.aud_tasks.proofs.act.act.Goals as goal

pub returns-in-Some-clause-does : goal.returns-in-Some-clause-does
returns-in-Some-clause-does c = if_on_ok c.propagate.result _ _ c.propagate.ensures.does (λ h. acts_so (plain_program c.args.compiled.program.now).plan c.args.compiled.code.now c.args.compiled.limits c.args.alternative c.args.n (Some c.in-Some.pending) c.args.state.now _ (sym c.in-Some.is ∙ c.pending.ensures) h)

pub returns-in-None-clause-does : goal.returns-in-None-clause-does
returns-in-None-clause-does c = if_ok c.execute.result _ _ c.execute.ensures.does (λ ticks h. acts_so (plain_program c.args.compiled.program.now).plan c.args.compiled.code.now c.args.compiled.limits c.args.alternative c.args.n None c.args.state.now _ (sym c.in-None.is ∙ c.pending.ensures) h)

pub returns-in-Some-clause-few : goal.returns-in-Some-clause-few
returns-in-Some-clause-few c = if_ok c.propagate.result _ _ c.propagate.ensures.few (λ ticks h. no_more (plain_program c.args.compiled.program.now).plan c.args.compiled.code.now ticks h)

pub returns-in-Some-clause-counts : goal.returns-in-Some-clause-counts
returns-in-Some-clause-counts c = if_ok c.propagate.result _ _ c.propagate.ensures.few (λ ticks few.
    let code = c.args.compiled.code.now in
    let t = task_there c.args.state.now.tasks c.args.n c.requires.within in
    barriers_alone _ _ ticks (executes_so code c.args.n c.args.state.now (Some c.in-Some.pending) t.0 t.1 (sym c.in-Some.is ∙ c.pending.ensures)) few)

pub returns-in-None-clause-counts : goal.returns-in-None-clause-counts
returns-in-None-clause-counts c = if_ok c.execute.result _ _ c.execute.ensures.counts (λ ticks h.
    let code = c.args.compiled.code.now in
    let t = task_there c.args.state.now.tasks c.args.n c.requires.within in
    subst (λ k. Counts k (most_of_barriers (plain_program c.args.compiled.program.now).plan code) ticks) (sym (executes_so code c.args.n c.args.state.now None t.0 t.1 (sym c.in-None.is ∙ c.pending.ensures))) (h t.0 t.1))

use Rattle.std.proofs.Common.{false, sym, ◌∙◌}
use Rattle.aud_typed.specs.Ties.View.{plain_program}
use Rattle.aud_meaning.specs.declared.state.Status.TheVariants.{Accepting, Activating, Completed, Created, Delaying, Terminated}
use Rattle.aud_tasks.proofs.ViewLaws.Shown.{calling_as, running_as, status_as}
use Rattle.aud_tasks.proofs.status.otherwise.Goals as goal

pub returns-in-Created : goal.returns-in-Created
returns-in-Created c =
    let plan = (plain_program c.args.compiled.program.now).plan in
    sym (status_as plan c.args.compiled.code.now c.args.task c.args.state.now false Created (sym c.status.ensures ∙ c.in-Created.is))

pub returns-in-Activating : goal.returns-in-Activating
returns-in-Activating c =
    let plan = (plain_program c.args.compiled.program.now).plan in
    sym (status_as plan c.args.compiled.code.now c.args.task c.args.state.now false Activating (sym c.status.ensures ∙ c.in-Activating.is))

pub returns-in-Accepting : goal.returns-in-Accepting
returns-in-Accepting c =
    let plan = (plain_program c.args.compiled.program.now).plan in
    sym (status_as plan c.args.compiled.code.now c.args.task c.args.state.now false Accepting (sym c.status.ensures ∙ c.in-Accepting.is))

pub returns-in-Delaying : goal.returns-in-Delaying
returns-in-Delaying c =
    let plan = (plain_program c.args.compiled.program.now).plan in
    sym (status_as plan c.args.compiled.code.now c.args.task c.args.state.now false Delaying (sym c.status.ensures ∙ c.in-Delaying.is))

pub returns-in-Completed : goal.returns-in-Completed
returns-in-Completed c =
    let plan = (plain_program c.args.compiled.program.now).plan in
    sym (status_as plan c.args.compiled.code.now c.args.task c.args.state.now false Completed (sym c.status.ensures ∙ c.in-Completed.is))

pub returns-in-Terminated : goal.returns-in-Terminated
returns-in-Terminated c =
    let plan = (plain_program c.args.compiled.program.now).plan in
    sym (status_as plan c.args.compiled.code.now c.args.task c.args.state.now false Terminated (sym c.status.ensures ∙ c.in-Terminated.is))

pub returns-in-Running : goal.returns-in-Running
returns-in-Running c =
    let plan = (plain_program c.args.compiled.program.now).plan in
    c.running.ensures ∙ sym (running_as plan c.args.compiled.code.now c.args.task c.args.state.now (sym c.status.ensures ∙ c.in-Running.is))

pub returns-in-Calling : goal.returns-in-Calling
returns-in-Calling c =
    let plan = (plain_program c.args.compiled.program.now).plan in
    c.calling.ensures ∙ sym (calling_as plan c.args.compiled.code.now c.args.task c.args.state.now (sym c.status.ensures ∙ c.in-Calling.is))

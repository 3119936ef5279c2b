use Rattle.std.proofs.Common.{true, false, sym, ◌∙◌}
use Rattle.aud_typed.specs.Ties.View.{plain_program}
use Rattle.aud_tasks.proofs.ViewLaws.Shown.{running_by}
use Rattle.aud_tasks.proofs.status.running.Goals as goal

pub returns-then-leaves : goal.returns-then-leaves
returns-then-leaves c =
    let plan = (plain_program c.args.compiled.program.now).plan in
    c.ready_or.ensures
    ∙ running_by plan c.args.compiled.code.now c.args.task c.args.state.now true (sym c.if-leaves.true ∙ c.leaves.ensures plan)

pub returns-else-leaves : goal.returns-else-leaves
returns-else-leaves c =
    let plan = (plain_program c.args.compiled.program.now).plan in
    c.ready_or-else-leaves.ensures
    ∙ running_by plan c.args.compiled.code.now c.args.task c.args.state.now false (sym c.if-leaves.false ∙ c.leaves.ensures plan)

use Rattle.std.proofs.Common.{true, false, sym, ◌∙◌}
use Rattle.aud_typed.specs.Ties.View.{plain_program}
use Rattle.aud_code.specs.Flat.{barrier_at}
use Rattle.aud_tasks.proofs.ViewLaws.Shown.{serves_as}
use Rattle.aud_tasks.proofs.status.status_of.Goals as goal

pub returns-then-is_servicing : goal.returns-then-is_servicing
returns-then-is_servicing c =
    let plan = (plain_program c.args.compiled.program.now).plan in
    let code = c.args.compiled.code.now in
    c.servicing.ensures plan code
    ∙ serves_as plan code c.args.task c.args.state.now true (sym c.if-is_servicing.true ∙ c.is_servicing.ensures plan (barrier_at code))

pub returns-else-is_servicing : goal.returns-else-is_servicing
returns-else-is_servicing c =
    let plan = (plain_program c.args.compiled.program.now).plan in
    let code = c.args.compiled.code.now in
    c.otherwise.ensures
    ∙ serves_as plan code c.args.task c.args.state.now false (sym c.if-is_servicing.false ∙ c.is_servicing.ensures plan (barrier_at code))

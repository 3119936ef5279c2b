use Rattle.std.proofs.Common.{Some, ap, ◌∙◌}
use Rattle.aud_typed.specs.Ties.View.{plain_program}
use Rattle.aud_meaning.specs.Tasks as effect
use Rattle.aud_code.specs.Control.{going}
use Rattle.aud_code.specs.Flat.{barrier_at}
use Rattle.aud_tasks.proofs.leave.leave_by.Goals as goal

pub returns-clause-does : goal.returns-clause-does
returns-clause-does c =
    let plan = (plain_program c.args.compiled.program.now).plan in
    let code = c.args.compiled.code.now in
    c.in_ok-ticks.ensures.does
    ∙ ap (λ s. effect.at_end (going code) plan (barrier_at code) c.args.alternative (Some c.args.pending) c.args.n s) c.leave_by.ensures

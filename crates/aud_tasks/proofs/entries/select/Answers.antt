use Rattle.std.proofs.Common.{ap, ◌∙◌}
use Rattle.aud_typed.specs.Ties.View.{plain_program}
use Rattle.aud_meaning.specs.Tasks as effect
use Rattle.aud_code.specs.Control.{going}
use Rattle.aud_code.specs.Flat.{barrier_at}
use Rattle.aud_tasks.proofs.Results.{on_ok}
use Rattle.aud_tasks.proofs.entries.select.Goals as goal

pub returns : goal.returns
returns c = on_ok c.select.result _ _ c.select.ensures (λ h.
    let barrier = barrier_at c.args.compiled.code.now in
    let plan = (plain_program c.args.compiled.program.now).plan in
    h plan barrier ∙ ap (λ w. effect.selects (going c.args.compiled.code.now) plan barrier c.args.alternative c.args.has_else w c.args.at c.args.n c.args.state.now) c.in_ok-waits.ensures)

use Rattle.std.proofs.Common.{ap, ◌∙◌}
use Rattle.aud_typed.specs.Ties.View.{plain_program}
use Rattle.aud_meaning.specs.Step.{object_declared}
use Rattle.aud_code.specs.Control.{going}
use Rattle.aud_code.specs.Flat.{barrier_at}
use Rattle.aud_state.specs.Fast.{scene}
use Rattle.aud_tasks.proofs.StepLaws.Entering.{declares_so}
use Rattle.aud_tasks.proofs.Results.{on_ok}
use Rattle.aud_tasks.proofs.objects.declare.Goals as goal

pub returns : goal.returns
returns c = on_ok c.declare.result _ _ c.declare.ensures (λ h alternative.
    let plan = (plain_program c.args.compiled.program.now).plan in
    let code = c.args.compiled.code.now in
    let barrier = barrier_at code in
    h plan barrier
    ∙ ap (λ cells. object_declared (going code) plan barrier c.args.at c.args.declaration cells c.args.n c.args.state.now) c.cells.ensures
    ∙ declares_so (going code) plan barrier c.args.compiled.limits alternative c.args.n c.args.declaration c.args.at (scene c.args.n c.args.state.now) c.args.operands.now c.args.state.now c.requires)

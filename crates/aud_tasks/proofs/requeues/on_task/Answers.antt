use Rattle.std.proofs.Common.{List, ℕ, get_or, ap, ◌∙◌}
use Rattle.aud_typed.specs.Ties.View.{plain_program}
use Rattle.aud_meaning.specs.declared.state.Again.{Again}
use Rattle.aud_meaning.specs.Control.{Asked, requeues}
use Rattle.aud_meaning.specs.Step.{done}
use Rattle.aud_code.specs.Control.{going}
use Rattle.aud_code.specs.Flat.{barrier_at}
use Rattle.aud_state.specs.Fast.{scene}
use Rattle.aud_tasks.proofs.StepLaws.Entering.{requeues_so}
use Rattle.aud_tasks.proofs.requeues.on_task.Goals as goal

pub returns : goal.returns
returns c = λ alternative.
    let plan = (plain_program c.args.compiled.program.now).plan in
    let code = c.args.compiled.code.now in
    let limits = c.args.compiled.limits in
    let n = c.args.n in
    let old = c.args.state.now in
    let again = c.args.again in
    let loops = c.args.way.loops in
    let names : List ℕ = c.names.result.now in
    c.requeue.ensures plan (barrier_at code)
    ∙ ap (λ (r : Again). done (going code) plan (barrier_at code) limits alternative (requeues loops r) n old) c.again_on.ensures
    ∙ ap (λ (a : Asked). done (going code) plan (barrier_at code) limits alternative a n old)
    (requeues_so c.args.at loops again.entry again.with_formals again.with_abort (scene n old) c.args.operands.now (get_or names 0 0) c.requires.named (ap (λ (ns : List ℕ). get_or ns 0 0) c.names.ensures))

use Rattle.std.proofs.Common.{ℕ, ap, ◌∙◌}
use Rattle.aud_typed.specs.Ties.View.{plain_program}
use Rattle.aud_meaning.specs.declared.state.Again.{Again}
use Rattle.aud_meaning.specs.declared.state.Owner.TheVariants as owner
use Rattle.aud_meaning.specs.Control.{requeues}
use Rattle.aud_meaning.specs.Step.{done}
use Rattle.aud_code.specs.Control.{going}
use Rattle.aud_code.specs.Eval.{again_on}
use Rattle.aud_code.specs.Flat.{barrier_at}
use Rattle.aud_tasks.proofs.requeues.on_object.Goals as goal

pub returns : goal.returns
returns c = λ alternative.
    let plan = (plain_program c.args.compiled.program.now).plan in
    let code = c.args.compiled.code.now in
    let limits = c.args.compiled.limits in
    let n = c.args.n in
    let old = c.args.state.now in
    let again = c.args.again in
    let loops = c.args.way.loops in
    c.requeue.ensures plan (barrier_at code)
    ∙ ap (λ (r : Again). done (going code) plan (barrier_at code) limits alternative (requeues loops r) n old) c.again_on.ensures
    ∙ ap (λ (k : ℕ). done (going code) plan (barrier_at code) limits alternative (requeues loops (again_on (owner.Object k) again.entry again.with_formals again.with_abort c.args.at)) n old) c.number_of-number.ensures

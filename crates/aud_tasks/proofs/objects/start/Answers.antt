use Rattle.std.proofs.Common.{ℕ, ℤ, List, Option, ap, ◌∙◌}
use Rattle.aud_typed.specs.Tree.{Plan}
use Rattle.aud_typed.specs.Ties.View.{plain_program}
use Rattle.aud_meaning.specs.Configuration.{All, Back, Target}
use Rattle.aud_meaning.specs.Tasks as effect
use Rattle.aud_code.specs.Control.{going}
use Rattle.aud_code.specs.Eval.{newest}
use Rattle.aud_code.specs.Flat.{Flat, barrier_at}
use Rattle.aud_code.specs.Places.{Spot}
use Rattle.aud_tasks.proofs.Results.{on_ok}
use Rattle.aud_tasks.proofs.objects.start.Goals as goal

pub returns : goal.returns
returns c = on_ok c.start.result _ _ c.start.ensures (λ h alternative.
    let plan = (plain_program c.args.compiled.program.now).plan in
    let code = c.args.compiled.code.now in
    let o = c.args.operands.now in
    let starts : Plan → Flat → ℕ → List ℤ → List Back → Option Target → All Spot = λ p k object values backs into. effect.calls_operation (going code) p (barrier_at k) c.args.at object c.args.unit (record { values = values; backs = backs }) into c.args.n c.args.state.now in
    h
    ∙ ap (λ p. starts (plain_program p).plan c.new-barriers.result.code.now c.number_of-number.result c.values.result.now c.backs.result.now c.newest_target.result) c.new-barriers.ensures.program
    ∙ ap (λ k. starts plan k c.number_of-number.result c.values.result.now c.backs.result.now c.newest_target.result) c.new-barriers.ensures.code
    ∙ ap (λ values. starts plan code c.number_of-number.result values c.backs.result.now c.newest_target.result) c.values.ensures
    ∙ ap (λ backs. starts plan code c.number_of-number.result o.values backs c.newest_target.result) c.backs.ensures
    ∙ ap (λ into. starts plan code c.number_of-number.result o.values o.backs into) c.newest_target.ensures
    ∙ ap (λ object. starts plan code object o.values o.backs (newest o.targets)) c.number_of-number.ensures)

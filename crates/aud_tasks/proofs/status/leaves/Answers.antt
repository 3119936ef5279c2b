use Rattle.std.proofs.Common.{refl, sym, ◌∙◌}
use Rattle.aud_meaning.specs.Parts.{own_of, sight_of}
use Rattle.aud_tasks.specs.declared.turn.Turn.TheVariants.{Acting}
use Rattle.aud_tasks.specs.Turning.{coming_in}
use Rattle.aud_tasks.proofs.ViewLaws.Shown.{leaves_as, leaves_not}
use Rattle.aud_abort.proofs.Bound.{leaves_is}
use Rattle.aud_tasks.proofs.status.leaves.Goals as goal

pub returns-in-Acting : goal.returns-in-Acting
returns-in-Acting c = λ plan.
    let code = c.args.code.now in
    let s = c.args.state.now in
    let n = c.args.task in
    c.is_some.ensures
    ∙ leaves_is (own_of n s) c.master_left.result (coming_in plan code n s) (c.master_left.ensures plan (sight_of n s))
    ∙ sym (leaves_as plan code n s c.turn_of.result Acting (c.turn_of.ensures plan) c.in-Acting.is)

pub returns-in_default : goal.returns-in_default
returns-in_default c = λ plan.
    let code = c.args.code.now in
    let s = c.args.state.now in
    let n = c.args.task in
    sym (leaves_as plan code n s c.turn_of.result c.turn_of.result (c.turn_of.ensures plan) refl
    ∙ leaves_not plan code n s c.turn_of.result c.in_default.not-Acting)

use Rattle.std.proofs.Common.{refl}
use Rattle.aud_typed.specs.Ties.View.{plain_program}
use Rattle.aud_tasks.specs.Turning.{turned}
use Rattle.aud_tasks.proofs.ViewLaws.Shown.{step_is, step_made, turn_is}
use Rattle.aud_tasks.proofs.coming.shown_step.Goals as goal

pub returns : goal.returns
returns c =
    let plan = (plain_program c.args.compiled.program.now).plan in
    let code = c.args.compiled.code.now in
    let s = c.args.state.now in
    let n = c.args.task in
    let x = c.turn_of-turn.result in
    step_is plan code n s (turned plan code n s x) _ (turn_is plan code n s x (c.turn_of-turn.ensures plan)) (step_made plan code n s x _ _ (c.kind_of-kind.ensures plan) (c.place_of-at.ensures plan refl))

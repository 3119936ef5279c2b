use Rattle.std.proofs.Common.{Option, ap, sym, ◌∙◌}
use Rattle.std.specs.Prelude.{◌||◌, is_some}
use Rattle.aud_meaning.specs.declared.state.Restart.{Restart}
use Rattle.aud_meaning.specs.Parts.{own_of, sight_of}
use Rattle.aud_meaning.specs.Run.{is_leave}
use Rattle.aud_abort.specs.Deferring.{coming_in}
use Rattle.aud_abort.proofs.Bound.{leaves_is}
use Rattle.aud_abort.proofs.deferring.is_leaving.Goals as goal

pub returns-in-Some : goal.returns-in-Some
returns-in-Some c = λ plan.
    let s = c.args.state.now in
    let leaves = is_leave (coming_in plan c.args.code.now c.args.n s) (own_of c.args.n s) in
    ap (λ (r : Option Restart). is_some r || leaves) (sym c.in-Some.is ∙ c.restart.ensures)

pub returns-in-None : goal.returns-in-None
returns-in-None c = λ plan.
    let code = c.args.code.now in
    let n = c.args.n in
    let s = c.args.state.now in
    let leaves = is_leave (coming_in plan code n s) (own_of n s) in
    c.is_some.ensures
    ∙ leaves_is (own_of n s) c.master_left.result (coming_in plan code n s) (c.master_left.ensures plan (sight_of n s))
    ∙ ap (λ (r : Option Restart). is_some r || leaves) (sym c.in-None.is ∙ c.restart.ensures)

use Rattle.std.proofs.Common.{ap, sym, ◌∙◌}
use Rattle.aud_typed.specs.Ties.View.{plain_program}
use Rattle.aud_meaning.specs.Listings.Waits.{acting_hold}
use Rattle.aud_meaning.specs.Parts.{own_of, sight_of}
use Rattle.aud_tasks.specs.Turning.{coming_in}
use Rattle.aud_tasks.proofs.ViewLaws.Held.{leaves_held}
use Rattle.aud_tasks.proofs.holds.acting.Goals as goal

pub returns-in-Some : goal.returns-in-Some
returns-in-Some c =
    let s = c.args.state.now in
    let n = c.args.task in
    c.at_object.ensures ∙ ap (λ x. acting_hold x n (own_of n s) s) (sym c.in-Some.ensures.some)

pub returns-in-None : goal.returns-in-None
returns-in-None c =
    let plan = (plain_program c.args.compiled.program.now).plan in
    let code = c.args.compiled.code.now in
    let s = c.args.state.now in
    let n = c.args.task in
    c.leaving.ensures
    ∙ leaves_held n (own_of n s) s c.master_left.result (coming_in plan code n s) (c.master_left.ensures plan (sight_of n s)) c.in-None.ensures.none

use Rattle.std.proofs.Common.{ap, sym, ◌∙◌}
use Rattle.aud_typed.specs.Ties.View.{plain_program}
use Rattle.aud_meaning.specs.Parts.{sight_of}
use Rattle.aud_meaning.specs.Run.{acting_moves, seen}
use Rattle.aud_code.specs.Flat.{barrier_at, flat_controls}
use Rattle.aud_tasks.specs.Moving.{has_some}
use Rattle.aud_tasks.specs.Turning.{coming_in}
use Rattle.aud_tasks.proofs.MoveLaws.Moving.{leaves_first, starts_first}
use Rattle.aud_tasks.proofs.moves.can_act.Goals as goal

pub returns-in-Some : goal.returns-in-Some
returns-in-Some c =
    let plan = (plain_program c.args.compiled.program.now).plan in
    let code = c.args.compiled.code.now in
    let s = c.args.state.now in
    let n = c.args.task in
    c.may_begin.ensures
    ∙ starts_first plan code s n c.in-Some.start.object c.in-Some.start.reading
    ∙ ap (λ x. has_some (acting_moves plan (barrier_at code) x n (seen plan (flat_controls plan code) s))) (sym c.in-Some.ensures.some)

pub returns-in-None : goal.returns-in-None
returns-in-None c =
    let plan = (plain_program c.args.compiled.program.now).plan in
    let code = c.args.compiled.code.now in
    let s = c.args.state.now in
    let n = c.args.task in
    c.can_leave.ensures plan (sight_of n s)
    ∙ leaves_first plan code s n (coming_in plan code n s) c.in-None.ensures.none

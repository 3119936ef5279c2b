use Rattle.std.proofs.Common.{sym, ◌∙◌}
use Rattle.aud_typed.specs.Ties.View.{plain_program}
use Rattle.aud_tasks.specs.Moving.{moves_of}
use Rattle.aud_tasks.specs.Shown.{words_of}
use Rattle.aud_tasks.proofs.ViewLaws.Shown.{ready_as, ready_by}
use Rattle.aud_tasks.proofs.status.ready_or.Goals as goal

pub returns-then-has_move : goal.returns-then-has_move
returns-then-has_move c =
    let plan = (plain_program c.args.compiled.program.now).plan in
    let code = c.args.compiled.code.now in
    let s = c.args.state.now in
    let n = c.args.task in
    ready_by plan code n s (words_of c.args.other) (moves_of plan code n s) (sym (c.has_move.ensures) ∙ c.if-has_move.true)

pub returns-else-has_move : goal.returns-else-has_move
returns-else-has_move c =
    let plan = (plain_program c.args.compiled.program.now).plan in
    let code = c.args.compiled.code.now in
    let s = c.args.state.now in
    let n = c.args.task in
    ready_as plan code n s (words_of c.args.other) (moves_of plan code n s) (sym (c.has_move.ensures) ∙ c.if-has_move.false)

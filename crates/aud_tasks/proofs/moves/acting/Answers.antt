use Rattle.aud_typed.specs.Ties.View.{plain_program}
use Rattle.aud_tasks.specs.Turning.{coming_in}
use Rattle.aud_tasks.proofs.MoveLaws.Moving.{simple_moves}
use Rattle.aud_tasks.proofs.Results.{if_ok}
use Rattle.aud_tasks.proofs.moves.acting.Goals as goal

pub unchosen-requires-clause-single : goal.unchosen-requires-clause-single
unchosen-requires-clause-single c = c.in-None.ensures.none (plain_program c.args.compiled.program.now).plan

pub choose-requires-clause-comes : goal.choose-requires-clause-comes
choose-requires-clause-comes c = c.in-Some.ensures.some

pub returns-then-is_simple : goal.returns-then-is_simple
returns-then-is_simple c =
    let plan = (plain_program c.args.compiled.program.now).plan in
    let code = c.args.compiled.code.now in
    let s = c.args.state.now in
    let n = c.args.task in
    simple_moves plan code s (coming_in plan code n s) n (c.is_simple.ensures c.if-is_simple.true plan)

pub returns-in-Some : goal.returns-in-Some
returns-in-Some c = if_ok c.choose.result _ _ c.choose.ensures (λ enabled h. h (plain_program c.args.compiled.program.now).plan)

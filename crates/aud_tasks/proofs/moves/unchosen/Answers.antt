use Rattle.std.proofs.Common.{ap, ◌∙◌}
use Rattle.aud_typed.specs.Ties.View.{plain_program}
use Rattle.aud_tasks.specs.Moving.{alone_if}
use Rattle.aud_tasks.specs.Turning.{coming_in}
use Rattle.aud_tasks.proofs.MoveLaws.Choosing.{all_again}
use Rattle.aud_tasks.proofs.MoveLaws.Moving.{single_moves}
use Rattle.aud_tasks.proofs.moves.unchosen.Goals as goal

pub returns-in_ok-numbers-in-Some : goal.returns-in_ok-numbers-in-Some
returns-in_ok-numbers-in-Some c =
    let plan = (plain_program c.args.compiled.program.now).plan in
    all_again plan c.args.compiled.code.now c.args.task c.args.state.now c.in-Some.target.task c.in-Some.target.entry c.in_ok-numbers-in-Some.numbers.items (c.in-Some.ensures.0 plan) c.in-Some.ensures.1 c.in_ok-numbers-in-Some.ensures

pub returns-in-None : goal.returns-in-None
returns-in-None c =
    let plan = (plain_program c.args.compiled.program.now).plan in
    let code = c.args.compiled.code.now in
    let s = c.args.state.now in
    let n = c.args.task in
    c.one_if.ensures n s.clock
    ∙ ap (λ b. alone_if b n) c.can_act.ensures
    ∙ single_moves plan code s (coming_in plan code n s) n c.requires.single (c.in-None.ensures plan)

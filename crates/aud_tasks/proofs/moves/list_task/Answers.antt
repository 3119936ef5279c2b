use Rattle.std.proofs.Common.{◌++◌, ap, sym, ◌∙◌}
use Rattle.aud_typed.specs.Ties.View.{plain_program}
use Rattle.aud_tasks.specs.Enabled.{enabled_moves}
use Rattle.aud_tasks.proofs.moves.list_task.Goals as goal

pub returns-then-acts_simply-clause-listed : goal.returns-then-acts_simply-clause-listed
returns-then-acts_simply-clause-listed c =
    c.in_ok-list.ensures
    ∙ ap (λ ms. c.args.moves.now.items ++ ms) (sym (c.acts_simply.ensures.alone c.if-acts_simply.true (plain_program c.args.compiled.program.now).plan))

pub returns-then-acts_simply-clause-simple : goal.returns-then-acts_simply-clause-simple
returns-then-acts_simply-clause-simple c = λ yes some.
    (c.acts_simply.ensures.plain c.if-acts_simply.true, c.acts_simply.ensures.simple c.if-acts_simply.true (plain_program c.args.compiled.program.now).plan)

pub returns-clause-listed : goal.returns-clause-listed
returns-clause-listed c =
    let n = c.args.task in
    let e = c.in_ok-enabled.enabled in
    c.in_ok-list-2.ensures
    ∙ ap (λ ms. c.args.moves.now.items ++ ms) (ap (λ k. enabled_moves n k e) c.clock-clock.ensures.value ∙ c.in_ok-enabled.ensures)

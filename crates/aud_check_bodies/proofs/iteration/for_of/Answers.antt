use Rattle.std.proofs.Common.{ap, ◌∙◌}
use Rattle.aud_typed.specs.declared.program.Statement.TheVariants.{For}
use Rattle.aud_typed.specs.Tree as tree
use Rattle.aud_typed.specs.Ties.View.{plain_integer, plain_statement, statements_in, for_in}
use Rattle.aud_typed.proofs.Opened.{for_open}
use Rattle.aud_check_bodies.specs.Ties.Loops.{plain_for}
use Rattle.aud_typing.proofs.Notes.{boxes}
use Rattle.aud_check_bodies.proofs.iteration.for_of.Goals as goal

pub returns : goal.returns
returns c =
    let head : tree.For = plain_for c.args.head in
    let first = c.args.bounds.0.value in
    let last = c.args.bounds.1.value in
    boxes plain_statement c.boxed-2.result (For c.in_ok-statement.statement) _ c.boxed-2.ensures (for_open c.in_ok-statement.statement ∙ ap for_in c.in_ok-statement.ensures
    ∙ ap (λ z. tree.for_loop head (plain_integer z) (plain_integer c.into_inner-last.result) (statements_in c.into_inner-statements.result)) c.into_inner-first.ensures
    ∙ ap (λ z. tree.for_loop head (plain_integer first) (plain_integer z) (statements_in c.into_inner-statements.result)) c.into_inner-last.ensures
    ∙ ap (λ z. tree.for_loop head (plain_integer first) (plain_integer last) (statements_in z)) c.into_inner-statements.ensures)

use Rattle.std.proofs.Common.{ap, ◌∙◌}
use Rattle.aud_typed.specs.declared.program.Statement.TheVariants.{While}
use Rattle.aud_typed.specs.Tree as tree
use Rattle.aud_typed.specs.Ties.View.{plain_boolean, plain_statement, statements_in}
use Rattle.aud_typed.proofs.Opened.{while_open}
use Rattle.aud_typing.proofs.Notes.{boxes}
use Rattle.aud_check_bodies.proofs.iteration.while_of.Goals as goal

pub returns : goal.returns
returns c = boxes plain_statement c.boxed.result (While c.args.at c.into_inner-condition.result c.args.body) _ c.boxed.ensures (while_open c.args.at c.into_inner-condition.result c.args.body ∙ ap (λ z. tree.while_loop c.args.at (plain_boolean z) (statements_in c.args.body.value)) c.into_inner-condition.ensures)

use Rattle.std.proofs.Common.{ap, ◌∙◌}
use Rattle.std.proofs.lemmas.Result.{IfOk-weaker}
use Rattle.aud_syntax.specs.declared.tree.Statements.{Statements}
use Rattle.aud_syntax.specs.Plain as m
use Rattle.aud_syntax.specs.Ties.View.{plain_statement, plain_statements, plain_iteration, plain_loop_statement}
use Rattle.aud_syntax.proofs.Opened.{loop_open}
use Rattle.aud_parse.specs.Ties.Parts.{begins_at, iteration_of}
use Rattle.aud_parse.proofs.build.made_loop.Goals as goal

pub returns : goal.returns
returns c =
    IfOk-weaker c.boxed-2.result _ _ (λ b h.
    ap plain_statement h
    ∙ loop_open c.in_ok-statement.statement
    ∙ ap plain_loop_statement c.in_ok-statement.ensures
    ∙ ap (λ z. m.loop c.args.label z (plain_iteration c.iteration_of-iteration.result) (plain_statements c.into_inner-statements.result) c.args.end.0 c.args.end.1) c.begins_at-at.ensures
    ∙ ap (λ z. m.loop c.args.label (begins_at c.args.scheme c.args.begin) z (plain_statements c.into_inner-statements.result) c.args.end.0 c.args.end.1) c.iteration_of-iteration.ensures
    ∙ ap (λ (z : Statements). m.loop c.args.label (begins_at c.args.scheme c.args.begin) (iteration_of c.args.scheme) (plain_statements z) c.args.end.0 c.args.end.1) c.into_inner-statements.ensures) c.boxed-2.ensures

use Rattle.std.proofs.Common.{ap, ◌∙◌}
use Rattle.std.proofs.lemmas.Result.{IfOk-weaker}
use Rattle.aud_syntax.specs.declared.tree.Name.{Name}
use Rattle.aud_syntax.specs.declared.tree.Otherwise.{Otherwise}
use Rattle.aud_syntax.specs.Plain as m
use Rattle.aud_syntax.specs.Ties.View.{plain_name, plain_statement, plain_others, plain_selected_call, plain_other}
use Rattle.aud_syntax.proofs.Opened.{selected_call_open}
use Rattle.aud_parse.specs.Ties.Parts.{else_statements}
use Rattle.aud_parse.proofs.build_select.made_select_call.Goals as goal

pub returns : goal.returns
returns c =
    IfOk-weaker c.boxed-2.result _ _ (λ b h.
    ap plain_statement h
    ∙ selected_call_open c.in_ok-statement.statement
    ∙ ap plain_selected_call c.in_ok-statement.ensures
    ∙ ap (λ (z : Name). m.select_call c.args.at (plain_name z) (plain_others c.in_ok-behind.behind.items) (plain_other c.into_inner-otherwise.result)) c.into_inner-call.ensures
    ∙ ap (λ l. m.select_call c.args.at (plain_name c.args.call.value) (plain_others l) (plain_other c.into_inner-otherwise.result)) c.in_ok-behind.ensures
    ∙ ap (λ (z : Otherwise). m.select_call c.args.at (plain_name c.args.call.value) (plain_others (else_statements c.args.behind)) (plain_other z)) c.into_inner-otherwise.ensures) c.boxed-2.ensures

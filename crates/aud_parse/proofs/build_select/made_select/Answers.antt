use Rattle.std.proofs.Common.{ap, ◌∙◌}
use Rattle.std.proofs.lemmas.Result.{IfOk-weaker}
use Rattle.aud_syntax.specs.declared.tree.Guarded.{Guarded}
use Rattle.aud_syntax.specs.Plain as m
use Rattle.aud_syntax.specs.Ties.View.{plain_statement, plain_maybe, plain_alternative, plain_others, guarded_list, plain_select}
use Rattle.aud_parse.proofs.Selects.{select_roll}
use Rattle.aud_parse.proofs.build_select.made_select.Goals as goal

pub returns : goal.returns
returns c =
    IfOk-weaker c.boxed-2.result _ _ (λ b h.
    ap plain_statement h
    ∙ ap plain_select c.in_ok-statement.ensures
    ∙ select_roll c.args.at c.into_inner-first.result c.args.others c.in_ok-otherwise.otherwise
    ∙ ap (λ (z : Guarded). m.select_accept c.args.at (plain_maybe z.guard) (plain_alternative z.alternative) (guarded_list c.args.others.items) (plain_others c.in_ok-otherwise.otherwise.items)) c.into_inner-first.ensures
    ∙ ap (λ l. m.select_accept c.args.at (plain_maybe c.args.first.value.guard) (plain_alternative c.args.first.value.alternative) (guarded_list c.args.others.items) (plain_others l)) c.in_ok-otherwise.ensures) c.boxed-2.ensures

use Rattle.std.proofs.Common.{ap, ◌∙◌}
use Rattle.std.proofs.lemmas.Result.{IfOk-weaker}
use Rattle.aud_syntax.specs.declared.tree.AcceptStatement.{AcceptStatement}
use Rattle.aud_syntax.specs.Plain as m
use Rattle.aud_syntax.specs.Ties.View.{plain_others, plain_accept, plain_alternative}
use Rattle.aud_syntax.proofs.Opened.{accept_alternative_open}
use Rattle.aud_parse.proofs.build_select.accept_alternative_of.Goals as goal

pub returns : goal.returns
returns c =
    IfOk-weaker c.boxed.result _ _ (λ b h.
    ap plain_alternative h
    ∙ accept_alternative_open c.into_inner-accept.result c.in_ok-behind.behind
    ∙ ap (λ (z : AcceptStatement). m.accept_alternative (plain_accept z) (plain_others c.in_ok-behind.behind.items)) c.into_inner-accept.ensures
    ∙ ap (λ l. m.accept_alternative (plain_accept c.args.accept.value) (plain_others l)) c.in_ok-behind.ensures) c.boxed.ensures

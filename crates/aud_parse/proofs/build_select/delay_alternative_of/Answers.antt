use Rattle.std.proofs.Common.{ap, ◌∙◌}
use Rattle.std.proofs.lemmas.Result.{IfOk-weaker}
use Rattle.aud_syntax.specs.declared.tree.Delay.{Delay}
use Rattle.aud_syntax.specs.Plain as m
use Rattle.aud_syntax.specs.Ties.View.{plain_others, plain_delay, plain_alternative}
use Rattle.aud_syntax.proofs.Opened.{delay_alternative_open}
use Rattle.aud_parse.proofs.build_select.delay_alternative_of.Goals as goal

pub returns : goal.returns
returns c =
    IfOk-weaker c.boxed.result _ _ (λ b h.
    ap plain_alternative h
    ∙ delay_alternative_open c.into_inner-delay.result c.in_ok-behind.behind
    ∙ ap (λ (z : Delay). m.delay_alternative (plain_delay z) (plain_others c.in_ok-behind.behind.items)) c.into_inner-delay.ensures
    ∙ ap (λ l. m.delay_alternative (plain_delay c.args.delay.value) (plain_others l)) c.in_ok-behind.ensures) c.boxed.ensures

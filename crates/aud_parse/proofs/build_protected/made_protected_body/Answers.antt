use Rattle.std.proofs.Common.{ap, ◌∙◌}
use Rattle.std.proofs.lemmas.Result.{IfOk-weaker}
use Rattle.aud_syntax.specs.Ties.View.{plain_declaration, plain_protected_body}
use Rattle.aud_syntax.proofs.Opened.{protected_body_roll}
use Rattle.aud_parse.proofs.build_protected.made_protected_body.Goals as goal

pub returns : goal.returns
returns c = IfOk-weaker c.boxed-2.result _ _ (λ b h. ap plain_declaration h ∙ ap plain_protected_body c.in_ok-object.ensures ∙ protected_body_roll c.args.at c.args.name c.args.bodies c.args.end_name) c.boxed-2.ensures

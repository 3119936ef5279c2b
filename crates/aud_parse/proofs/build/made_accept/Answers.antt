use Rattle.std.proofs.Common.{ap, ◌∙◌}
use Rattle.std.proofs.lemmas.Result.{IfOk-weaker}
use Rattle.aud_syntax.specs.Ties.View.{plain_accept}
use Rattle.aud_syntax.proofs.Opened.{accept_roll}
use Rattle.aud_parse.proofs.build.made_accept.Goals as goal

pub returns : goal.returns
returns c = IfOk-weaker c.boxed.result _ _ (λ b h. ap plain_accept h ∙ accept_roll c.args.at c.args.head.0 c.args.head.1 c.args.doing) c.boxed.ensures

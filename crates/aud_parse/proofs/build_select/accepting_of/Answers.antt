use Rattle.std.proofs.Common.{ap}
use Rattle.std.proofs.lemmas.Result.{IfOk-weaker}
use Rattle.aud_syntax.specs.Ties.View.{plain_statement}
use Rattle.aud_parse.proofs.build_select.accepting_of.Goals as goal

pub returns : goal.returns
returns c = IfOk-weaker c.boxed.result _ _ (λ b h. ap plain_statement h) c.boxed.ensures

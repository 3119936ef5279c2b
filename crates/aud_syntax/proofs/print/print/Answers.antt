use Rattle.std.proofs.Common.{◌++◌, ◌∙◌, ap}
use Rattle.std.proofs.lemmas.Result.{IfOk-weaker}
use Rattle.aud_syntax.specs.Ties.View.{plain_unit}
use Rattle.aud_syntax.specs.Why.Printed.{printed}
use Rattle.aud_syntax.proofs.print.print.Goals as goal

pub returns : goal.returns
returns c = IfOk-weaker c.finish.result _ _ (λ text h. h.1 ∙ c.push_unit.ensures.appends.items h.0 ∙ ap (λ z. z ++ printed (plain_unit c.args.unit.now)) c.new-out.ensures.text) c.finish.ensures

use Rattle.aud_parse_expr.proofs.Rolls.{sum_items}
use Rattle.aud_parse_expr.proofs.assemble.sum.Goals as goal

pub returns : goal.returns
returns c = λ ds. sum_items c.in_ok-boxed.field-0 c.args.sign c.args.first c.into_inner-first.result c.args.rest ds c.in_ok-boxed.ensures c.into_inner-first.ensures

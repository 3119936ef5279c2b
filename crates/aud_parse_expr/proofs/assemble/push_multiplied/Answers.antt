use Rattle.std.proofs.Common.{ap}
use Rattle.aud_syntax.specs.Plain as m
use Rattle.aud_syntax.specs.Ties.View.{plain_factor}
use Rattle.aud_grammar.specs.Actions.{a_multiplied}
use Rattle.aud_parse_expr.proofs.assemble.push_multiplied.Goals as goal

pub returns : goal.returns
returns c = (_, c.in_ok-push_tree.ensures, ap (λ z. a_multiplied (m.multiplied c.args.operator (plain_factor z))) c.into_inner-factor.ensures)

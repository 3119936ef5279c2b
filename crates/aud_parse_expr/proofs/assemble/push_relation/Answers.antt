use Rattle.std.proofs.Common.{ap}
use Rattle.aud_parse_expr.specs.Ties.Items.{relation_item}
use Rattle.aud_parse_expr.proofs.assemble.push_relation.Goals as goal

pub returns : goal.returns
returns c = (_, c.in_ok-push_tree.ensures, ap relation_item c.into_inner.ensures)

use Rattle.std.proofs.Common.{ap, ◌∙◌}
use Rattle.aud_syntax.specs.Plain as m
use Rattle.aud_syntax.specs.Ties.View.{plain_term}
use Rattle.aud_grammar.specs.Actions.{an_added}
use Rattle.aud_parse_expr.proofs.Rolls.{added_roll}
use Rattle.aud_parse_expr.proofs.assemble.push_added.Goals as goal

pub returns : goal.returns
returns c = (_, c.in_ok-push_tree.ensures, ap an_added (added_roll c.args.operator c.into_inner-term.result) ∙ ap (λ z. an_added (m.added c.args.operator (plain_term z))) c.into_inner-term.ensures)

use Rattle.std.proofs.Common.{List, ◌+◌, ◌*◌, ◌≤◌, length}
use Rattle.aud_lex.specs.Element.{Element}
use Rattle.aud_lex.specs.declared.token.Kind.TheVariants as kind
use Rattle.aud_grammar.specs.Grammar as g
use Rattle.aud_grammar.specs.Grammar.{T}
use Rattle.aud_cursor.specs.Ties.Reads.{Passes}
use Rattle.aud_connective.specs.Ties.Connects.{further}
use Rattle.aud_parse_expr.specs.Ties.Items.{expression_item, part_item, multiplied_item, added_item, relation_item}
use Rattle.aud_cursor.proofs.Passing.{Turns, Heads}
use Rattle.aud_parse_expr.proofs.expression.+expression.Given as goal

abbrev pub decreases-parens : goal.decreases-parens
decreases-parens l = 32 * l.room + 0

abbrev pub decreases-args : goal.decreases-args
decreases-args l = 32 * l.room + 1

abbrev pub decreases-attribute : goal.decreases-attribute
decreases-attribute l = 32 * l.room + 2

abbrev pub decreases-opt_args : goal.decreases-opt_args
decreases-opt_args l = 32 * l.room + 3

abbrev pub decreases-part : goal.decreases-part
decreases-part l = 32 * l.room + 4

abbrev pub decreases-selected : goal.decreases-selected
decreases-selected l = 32 * l.room + 5

abbrev pub decreases-name : goal.decreases-name
decreases-name l = 32 * l.room + 6

abbrev pub decreases-named : goal.decreases-named
decreases-named l = 32 * l.room + 7

abbrev pub decreases-primary : goal.decreases-primary
decreases-primary l = 32 * l.room + 8

abbrev pub decreases-factor : goal.decreases-factor
decreases-factor l = 32 * l.room + 9

abbrev pub decreases-multiplieds : goal.decreases-multiplieds
decreases-multiplieds l = 32 * l.room + 10

abbrev pub decreases-term : goal.decreases-term
decreases-term l = 32 * l.room + 11

abbrev pub decreases-addeds : goal.decreases-addeds
decreases-addeds l = 32 * l.room + 12

abbrev pub decreases-simple : goal.decreases-simple
decreases-simple l = 32 * l.room + 13

abbrev pub decreases-relation : goal.decreases-relation
decreases-relation l = 32 * l.room + 15

abbrev pub decreases-relations : goal.decreases-relations
decreases-relations l = 32 * l.room + 16

abbrev pub decreases-expression : goal.decreases-expression
decreases-expression l = 32 * l.room + 18

abbrev pub decreases-in_args : goal.decreases-in_args
decreases-in_args l = 32 * l.room + 19

abbrev pub invariant-multiplieds-turns : goal.invariant-multiplieds-turns
invariant-multiplieds-turns l = record { turns : Turns multiplied_item g.Multiplied l.room l.start.tokens.now l.all.items l.rest.tokens.now; shorter : length l.rest.tokens.now ≤ length l.start.tokens.now }

abbrev pub decreases-multiplieds-turns : goal.decreases-multiplieds-turns
decreases-multiplieds-turns l = length l.rest.tokens.now

abbrev pub invariant-addeds-turns : goal.invariant-addeds-turns
invariant-addeds-turns l = record { turns : Turns added_item g.Added l.room l.start.tokens.now l.all.items l.rest.tokens.now; shorter : length l.rest.tokens.now ≤ length l.start.tokens.now }

abbrev pub decreases-addeds-turns : goal.decreases-addeds-turns
decreases-addeds-turns l = length l.rest.tokens.now

abbrev pub invariant-relations-turns : goal.invariant-relations-turns
invariant-relations-turns l = record { turns : Turns relation_item (further l.operator) l.room l.start.tokens.now l.all.items l.rest.tokens.now; shorter : length l.rest.tokens.now ≤ length l.start.tokens.now }

abbrev pub decreases-relations-turns : goal.decreases-relations-turns
decreases-relations-turns l = length l.rest.tokens.now

abbrev pub invariant-in_args-turns : goal.invariant-in_args-turns
invariant-in_args-turns l = record {
  -- what stands behind the parenthesis that opens
  inside : List Element;
  opened : Passes (T kind.LeftParenthesis) l.room l.start.tokens.now (λ ds. ds) l.room inside;
  turns : Heads expression_item g.Expression g.MoreArgs l.room inside l.all.items l.rest.tokens.now;
  shorter : length l.rest.tokens.now ≤ length l.start.tokens.now;
}

abbrev pub decreases-in_args-turns : goal.decreases-in_args-turns
decreases-in_args-turns l = length l.rest.tokens.now

abbrev pub invariant-selected-turns : goal.invariant-selected-turns
invariant-selected-turns l = record { turns : Turns part_item g.Selected l.room l.start.tokens.now l.all.items l.rest.tokens.now; shorter : length l.rest.tokens.now ≤ length l.start.tokens.now }

abbrev pub decreases-selected-turns : goal.decreases-selected-turns
decreases-selected-turns l = length l.rest.tokens.now

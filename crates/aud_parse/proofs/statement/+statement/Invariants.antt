use Rattle.std.proofs.Common.{◌≡◌, ◌+◌, ◌*◌, ◌≤◌, List, ◌∷◌, length}
use Rattle.aud_lex.specs.Element.{Element}
use Rattle.aud_grammar.specs.Grammar as g
use Rattle.aud_grammar.specs.Grammar.{Opt, Down}
use Rattle.aud_parse.specs.Ties.Items.{arm_item, handler_item, statement_item, declaration_item, operation_body_item}
use Rattle.aud_cursor.proofs.Passing.{Turns, Heads}
use Rattle.aud_parse.proofs.Alternating.{Chain}
use Rattle.aud_parse.proofs.Listed.{Heading_on}
use Rattle.aud_parse.proofs.statement.+statement.Given as goal

abbrev pub decreases-statements : goal.decreases-statements
decreases-statements l = 32 * l.room + 0

abbrev pub decreases-opt_declarations : goal.decreases-opt_declarations
decreases-opt_declarations l = 32 * l.room + 1

abbrev pub decreases-opt_declare : goal.decreases-opt_declare
decreases-opt_declare l = 32 * l.room + 2

abbrev pub decreases-guarded : goal.decreases-guarded
decreases-guarded l = 32 * l.room + 1

abbrev pub decreases-opt_else : goal.decreases-opt_else
decreases-opt_else l = 32 * l.room + 1

abbrev pub decreases-loop_statement : goal.decreases-loop_statement
decreases-loop_statement l = 32 * l.room + 1

abbrev pub decreases-handler : goal.decreases-handler
decreases-handler l = 32 * l.room + 1

abbrev pub decreases-opt_handlers : goal.decreases-opt_handlers
decreases-opt_handlers l = 32 * l.room + 3

abbrev pub decreases-elsifs : goal.decreases-elsifs
decreases-elsifs l = 32 * l.room + 3

abbrev pub decreases-if_statement : goal.decreases-if_statement
decreases-if_statement l = 32 * l.room + 4

abbrev pub decreases-in_body : goal.decreases-in_body
decreases-in_body l = 32 * l.room + 4

abbrev pub decreases-body : goal.decreases-body
decreases-body l = 32 * l.room + 5

abbrev pub decreases-block : goal.decreases-block
decreases-block l = 32 * l.room + 6

abbrev pub decreases-procedure : goal.decreases-procedure
decreases-procedure l = 32 * l.room + 6

abbrev pub decreases-task : goal.decreases-task
decreases-task l = 32 * l.room + 7

abbrev pub decreases-operation_body : goal.decreases-operation_body
decreases-operation_body l = 32 * l.room + 6

abbrev pub decreases-operation_bodies : goal.decreases-operation_bodies
decreases-operation_bodies l = 32 * l.room + 7

abbrev pub decreases-protected : goal.decreases-protected
decreases-protected l = 32 * l.room + 9

abbrev pub decreases-declaration : goal.decreases-declaration
decreases-declaration l = 32 * l.room + 10

abbrev pub decreases-name_statement : goal.decreases-name_statement
decreases-name_statement l = 32 * l.room + 8

abbrev pub decreases-statement : goal.decreases-statement
decreases-statement l = 32 * l.room + 14

abbrev pub decreases-more_statements : goal.decreases-more_statements
decreases-more_statements l = 32 * l.room + 15

abbrev pub invariant-elsifs-turns : goal.invariant-elsifs-turns
invariant-elsifs-turns l = record { turns : Turns arm_item g.Elsif l.room l.start.tokens.now l.all.items l.rest.tokens.now; shorter : length l.rest.tokens.now ≤ length l.start.tokens.now }

abbrev pub decreases-elsifs-turns : goal.decreases-elsifs-turns
decreases-elsifs-turns l = length l.rest.tokens.now

abbrev pub invariant-more_statements-turns : goal.invariant-more_statements-turns
invariant-more_statements-turns l = record { turns : Turns statement_item g.Statement l.room l.start.tokens.now l.all.items l.rest.tokens.now; shorter : length l.rest.tokens.now ≤ length l.start.tokens.now }

abbrev pub decreases-more_statements-turns : goal.decreases-more_statements-turns
decreases-more_statements-turns l = length l.rest.tokens.now

abbrev pub invariant-operation_bodies-turns : goal.invariant-operation_bodies-turns
invariant-operation_bodies-turns l = record { turns : Turns operation_body_item g.OperationBody l.room l.start.tokens.now l.all.items l.rest.tokens.now; shorter : length l.rest.tokens.now ≤ length l.start.tokens.now }

abbrev pub decreases-operation_bodies-turns : goal.decreases-operation_bodies-turns
decreases-operation_bodies-turns l = length l.rest.tokens.now

abbrev pub invariant-more_alternatives-turns : goal.invariant-more_alternatives-turns
invariant-more_alternatives-turns l = record { turns : Chain l.fn.seen l.room l.start.tokens.now l.all.items l.so_far l.rest.tokens.now; shorter : length l.rest.tokens.now ≤ length l.start.tokens.now }

abbrev pub decreases-more_alternatives-turns : goal.decreases-more_alternatives-turns
decreases-more_alternatives-turns l = length l.rest.tokens.now

abbrev pub decreases-opt_statements : goal.decreases-opt_statements
decreases-opt_statements l = 32 * l.room + 1

abbrev pub decreases-else_part : goal.decreases-else_part
decreases-else_part l = 32 * l.room + 1

abbrev pub decreases-after_accepts : goal.decreases-after_accepts
decreases-after_accepts l = 32 * l.room + 2

abbrev pub decreases-after_last : goal.decreases-after_last
decreases-after_last l = 32 * l.room + 3

abbrev pub decreases-opt_do : goal.decreases-opt_do
decreases-opt_do l = 32 * l.room + 6

abbrev pub decreases-accept_statement : goal.decreases-accept_statement
decreases-accept_statement l = 32 * l.room + 7

abbrev pub decreases-accepting : goal.decreases-accepting
decreases-accepting l = 32 * l.room + 8

abbrev pub decreases-accept_alternative : goal.decreases-accept_alternative
decreases-accept_alternative l = 32 * l.room + 8

abbrev pub decreases-delay_alternative : goal.decreases-delay_alternative
decreases-delay_alternative l = 32 * l.room + 2

abbrev pub decreases-alternative : goal.decreases-alternative
decreases-alternative l = 32 * l.room + 9

abbrev pub decreases-more_alternatives : goal.decreases-more_alternatives
decreases-more_alternatives l = 32 * l.room + 10

abbrev pub decreases-select_accept : goal.decreases-select_accept
decreases-select_accept l = 32 * l.room + 11

abbrev pub decreases-or_delay : goal.decreases-or_delay
decreases-or_delay l = 32 * l.room + 2

abbrev pub decreases-otherwise : goal.decreases-otherwise
decreases-otherwise l = 32 * l.room + 3

abbrev pub decreases-select_call : goal.decreases-select_call
decreases-select_call l = 32 * l.room + 4

abbrev pub decreases-select_rest : goal.decreases-select_rest
decreases-select_rest l = 32 * l.room + 12

abbrev pub decreases-select : goal.decreases-select
decreases-select l = 32 * l.room + 13

abbrev pub invariant-opt_handlers-turns : goal.invariant-opt_handlers-turns
invariant-opt_handlers-turns l = record {
  inside : List Element;
  opened : Heading_on (Opt g.Handlers) g.Handler l.room l.start.tokens.now (λ k. k) l.room inside;
  turns : Heads handler_item g.Handler g.Handler l.room inside l.all.items l.rest.tokens.now;
  shorter : length l.rest.tokens.now ≤ length l.start.tokens.now;
}

abbrev pub decreases-opt_handlers-turns : goal.decreases-opt_handlers-turns
decreases-opt_handlers-turns l = length l.rest.tokens.now

abbrev pub invariant-opt_declarations-turns : goal.invariant-opt_declarations-turns
invariant-opt_declarations-turns l = record {
  deeper : l.room ≡ l.inside + 1;
  opened : Heading_on (Opt g.Declarations) g.Declaration l.room l.start.tokens.now (λ k. Down ∷ k) l.inside l.start.tokens.now;
  turns : Heads declaration_item g.Declaration g.Declaration l.inside l.start.tokens.now l.all.items l.rest.tokens.now;
  shorter : length l.rest.tokens.now ≤ length l.start.tokens.now;
}

abbrev pub decreases-opt_declarations-turns : goal.decreases-opt_declarations-turns
decreases-opt_declarations-turns l = length l.rest.tokens.now

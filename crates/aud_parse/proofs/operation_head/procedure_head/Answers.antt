use Rattle.std.proofs.Common.{List, [], ◌∷◌, arith}
use Rattle.aud_lex.specs.declared.token.Kind.TheVariants as kind
use Rattle.aud_grammar.specs.Grammar as g
use Rattle.aud_grammar.specs.Grammar.{Symbol, N, T, Opt}
use Rattle.aud_grammar.specs.Actions.{token}
use Rattle.aud_grammar.specs.Ties.Outcome.{o_rule}
use Rattle.aud_cursor.proofs.Passing.{to}
use Rattle.aud_parse.proofs.Heading.{exit_head, exit_head_all}
use Rattle.aud_parse.proofs.Objects.{procedure_head_items}
use Rattle.aud_parse.proofs.operation_head.procedure_head.Goals as goal

abbrev specification_symbols : List Symbol
specification_symbols = N g.Identifier ∷ Opt g.Formals ∷ T kind.Is ∷ []

pub returns-in_err-begin : goal.returns-in_err-begin
returns-in_err-begin c = exit_head _ _ c.from_residual.ensures.1 (c.in_err-begin.ensures.reads c.args.room) (λ k ds v o. o_rule o)

pub returns-in_err-parts : goal.returns-in_err-parts
returns-in_err-parts c = exit_head_all specification_symbols _ _ _ c.from_residual-in_err-parts.ensures.1 c.in_err-parts.ensures.reads (λ k ds v o. o_rule (c.in_ok-begin.ensures.reads _ _ _ _ o))

pub returns : goal.returns
returns c = record {
  reads = λ k ds v o.
      to (o_rule (c.in_ok-begin.ensures.reads _ _ _ _ (c.in_ok-parts.ensures.reads _ _ _ o)))
      (procedure_head_items c.in_ok-head.head (token c.in_ok-begin.begin.now) c.at.result c.in_ok-parts.parts ds c.in_ok-head.ensures c.at.ensures);
  shorter = omega (arith, c.in_ok-begin.ensures.shorter, c.in_ok-parts.ensures.shorter);
}

use Rattle.std.proofs.Common.{List, [], ◌∷◌, sym, ap, ◌∙◌, arith}
use Rattle.std.specs.Prelude.{Vec}
use Rattle.std.specs.Global.{Global}
use Rattle.aud_syntax.specs.declared.tree.Ident.{Ident}
use Rattle.aud_syntax.specs.declared.tree.Formal.{Formal}
use Rattle.aud_grammar.specs.Grammar as g
use Rattle.aud_grammar.specs.Grammar.{Symbol, N, Opt}
use Rattle.aud_grammar.specs.Actions.{an_ident, made}
use Rattle.aud_grammar.specs.Ties.Outcome.{o_rule}
use Rattle.aud_cursor.specs.Ties.Items.{vec_item}
use Rattle.aud_parse.specs.Ties.Items.{formal_item}
use Rattle.aud_cursor.proofs.Passing.{to, exit}
use Rattle.aud_parse_expr.proofs.Joined.{exit_all}
use Rattle.aud_parse.proofs.Objects.{procedure_operation_items}
use Rattle.aud_parse.proofs.operation.procedure_operation.Goals as goal

abbrev head_symbols : List Symbol
head_symbols = N g.Identifier ∷ Opt g.Formals ∷ []

pub returns-in_err-rest : goal.returns-in_err-rest
returns-in_err-rest c = exit _ _ _ c.from_residual.ensures.1 (c.in_err-rest.ensures.reads c.args.room) (λ k ds v o. o_rule o)

pub returns-in_err-parts : goal.returns-in_err-parts
returns-in_err-parts c = exit_all head_symbols _ _ _ _ c.from_residual-in_err-parts.ensures.1 c.in_err-parts.ensures.reads (λ k ds v o. o_rule (c.in_ok-rest.ensures.reads _ _ _ _ o))

pub returns-in_err-name : goal.returns-in_err-name
returns-in_err-name c = exit _ _ _ c.from_residual-in_err-name.ensures.1 (c.in_err-name.ensures.reads c.args.room) (λ k ds v o. o_rule (c.in_ok-rest.ensures.reads _ _ _ _ (c.in_ok-parts.ensures.reads _ _ _ o)))

pub returns : goal.returns
returns c = record {
  reads = λ k ds v o.
      to (o_rule (c.in_ok-rest.ensures.reads _ _ _ _ (c.in_ok-parts.ensures.reads _ _ _ (c.in_ok-name.ensures.reads.1 _ _ _ _ o))))
      (ap (λ (z : Ident × Vec Formal Global). made g.ProcedureOperation (an_ident z.0 ∷ vec_item formal_item z.1 ∷ ds)) (sym c.in_ok-name.ensures.reads.0) ∙ procedure_operation_items c.in_ok-name.name c.in_ok-name.formals ds);
  shorter = omega (arith, c.in_ok-rest.ensures.shorter, c.in_ok-parts.ensures.shorter, c.in_ok-name.ensures.shorter);
}

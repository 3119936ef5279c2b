use Rattle.std.proofs.Common.{List, [], ◌∷◌, sym, ap, ◌∙◌, arith}
use Rattle.std.specs.Prelude.{Vec}
use Rattle.std.specs.Global.{Global}
use Rattle.aud_syntax.specs.declared.tree.Ident.{Ident}
use Rattle.aud_syntax.specs.declared.tree.Formal.{Formal}
use Rattle.aud_grammar.specs.Grammar as g
use Rattle.aud_grammar.specs.Grammar.{Symbol, N, Opt}
use Rattle.aud_grammar.specs.Actions.{an_ident, token, made}
use Rattle.aud_grammar.specs.Ties.Outcome.{o_rule}
use Rattle.aud_cursor.specs.Ties.Items.{vec_item}
use Rattle.aud_parse.specs.Ties.Items.{formal_item}
use Rattle.aud_cursor.proofs.Passing.{to}
use Rattle.aud_parse_expr.proofs.Joined.{at_room, joined, not_joined}
use Rattle.aud_parse.proofs.Heading.{exit_head, exit_head_all}
use Rattle.aud_parse.proofs.Objects.{function_head_items}
use Rattle.aud_parse.proofs.operation_head.function_head.Goals as goal

abbrev head_symbols : List Symbol
head_symbols = N g.Identifier ∷ Opt g.Formals ∷ []

pub returns-in_err-begin : goal.returns-in_err-begin
returns-in_err-begin c = exit_head _ _ c.from_residual.ensures.1 (c.in_err-begin.ensures.reads c.args.room) (λ k ds v o. o_rule o)

pub returns-in_err-parts : goal.returns-in_err-parts
returns-in_err-parts c = exit_head_all head_symbols _ _ _ c.from_residual-in_err-parts.ensures.1 c.in_err-parts.ensures.reads (λ k ds v o. o_rule (c.in_ok-begin.ensures.reads _ _ _ _ o))

pub returns-in_err-parts-2 : goal.returns-in_err-parts-2
returns-in_err-parts-2 c = exit_head _ _ c.from_residual-in_err-parts-2.ensures.1 (c.in_err-parts-2.ensures.reads c.args.room) (λ k ds v o. o_rule (c.in_ok-begin.ensures.reads _ _ _ _ (c.in_ok-parts.ensures.reads _ _ _ o)))

pub returns-in_err-parts-3 : goal.returns-in_err-parts-3
returns-in_err-parts-3 c =
    exit_head _ _ c.from_residual-in_err-parts-3.ensures.1 (not_joined _ _ c.in_err-parts-3.ensures (at_room c.args.room c.ident.ensures))
    (λ k ds v o. o_rule (c.in_ok-begin.ensures.reads _ _ _ _ (c.in_ok-parts.ensures.reads _ _ _ (c.in_ok-parts-2.ensures.reads.1 _ _ _ _ o))))

pub returns-in_err-parts-4 : goal.returns-in_err-parts-4
returns-in_err-parts-4 c =
    let j = joined _ c.in_ok-parts-3.ensures (at_room c.args.room c.ident.ensures) in
    exit_head _ _ c.from_residual-in_err-parts-4.ensures.1 (c.in_err-parts-4.ensures.reads c.args.room)
    (λ k ds v o. o_rule (c.in_ok-begin.ensures.reads _ _ _ _ (c.in_ok-parts.ensures.reads _ _ _ (c.in_ok-parts-2.ensures.reads.1 _ _ _ _ (j.reads _ _ _ o)))))

pub returns : goal.returns
returns c =
    let j = joined _ c.in_ok-parts-3.ensures (at_room c.args.room c.ident.ensures) in
    record {
      reads = λ k ds v o.
          to (o_rule (c.in_ok-begin.ensures.reads _ _ _ _ (c.in_ok-parts.ensures.reads _ _ _ (c.in_ok-parts-2.ensures.reads.1 _ _ _ _ (j.reads _ _ _ (c.in_ok-parts-4.ensures.reads.1 _ _ _ _ o))))))
          (ap (λ (z : Ident × Vec Formal Global). made g.FunctionBody (token c.in_ok-begin.begin.now ∷ an_ident z.0 ∷ vec_item formal_item z.1 ∷ an_ident c.in_ok-parts-3.parts.1 ∷ ds)) (sym (j.first ∙ c.in_ok-parts-2.ensures.reads.0))
          ∙ ap (λ (z : (Ident × Vec Formal Global) × Ident). made g.FunctionBody (token c.in_ok-begin.begin.now ∷ an_ident z.0.0 ∷ vec_item formal_item z.0.1 ∷ an_ident z.1 ∷ ds)) (sym c.in_ok-parts-4.ensures.reads.0)
          ∙ function_head_items c.in_ok-head.head (token c.in_ok-begin.begin.now) c.at.result c.in_ok-parts-4.parts c.in_ok-parts-4.subtype ds c.in_ok-head.ensures c.at.ensures);
      shorter = omega (arith, c.in_ok-begin.ensures.shorter, c.in_ok-parts.ensures.shorter, c.in_ok-parts-2.ensures.shorter, j.shorter, c.in_ok-parts-4.ensures.shorter);
    }

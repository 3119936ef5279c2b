use Rattle.std.proofs.Common.{arith}
use Rattle.aud_grammar.specs.Grammar as g
use Rattle.aud_grammar.specs.Ties.Outcome.{o_rule}
use Rattle.aud_cursor.proofs.Passing.{exit}
use Rattle.aud_cursor.proofs.Valued.{initial}
use Rattle.aud_parse_expr.proofs.Joined.{ends}
use Rattle.aud_parse.proofs.Objects.{components_items}
use Rattle.aud_parse.proofs.protected.components.Goals as goal

pub returns-in_err-names : goal.returns-in_err-names
returns-in_err-names c = exit _ _ _ c.from_residual.ensures.1 (c.in_err-names.ensures.reads c.args.room) (λ k ds v o. o_rule o)

pub returns-in_err-rest : goal.returns-in_err-rest
returns-in_err-rest c = exit _ _ _ c.from_residual-in_err-rest.ensures.1 (c.in_err-rest.ensures.reads c.args.room) (λ k ds v o. o_rule (c.in_ok-names.ensures.reads _ _ _ _ o))

pub returns-in_err-subtype : goal.returns-in_err-subtype
returns-in_err-subtype c = exit _ _ _ c.from_residual-in_err-subtype.ensures.1 (c.in_err-subtype.ensures.reads c.args.room) (λ k ds v o. o_rule (c.in_ok-names.ensures.reads _ _ _ _ (c.in_ok-rest.ensures.reads _ _ _ _ o)))

pub returns-in_err-value : goal.returns-in_err-value
returns-in_err-value c = exit _ _ _ c.from_residual-in_err-value.ensures.1 (c.in_err-value.ensures g.Initial initial).reads (λ k ds v o. o_rule (c.in_ok-names.ensures.reads _ _ _ _ (c.in_ok-rest.ensures.reads _ _ _ _ (c.in_ok-subtype.ensures.reads _ _ _ _ o))))

pub returns : goal.returns
returns c =
    ends c.args.start c.in_ok-value.rest _ _ c.ended.ensures (omega (arith, c.in_ok-names.ensures.shorter, c.in_ok-rest.ensures.shorter, c.in_ok-subtype.ensures.shorter, (c.in_ok-value.ensures g.Initial initial).shorter))
    (λ k ds v o. o_rule (c.in_ok-names.ensures.reads _ _ _ _ (c.in_ok-rest.ensures.reads _ _ _ _ (c.in_ok-subtype.ensures.reads _ _ _ _ ((c.in_ok-value.ensures g.Initial initial).reads _ _ _ o)))))
    (components_items c.in_ok-names.names c.in_ok-subtype.subtype c.in_ok-value.value)

use Rattle.std.proofs.Common.{refl, rules}
use Rattle.aud_grammar.specs.Grammar as g
use Rattle.aud_grammar.specs.Ties.Outcome.{o_rule}
use Rattle.aud_cursor.proofs.Passing.{exit}
use Rattle.aud_cursor.proofs.Valued.{initial}
use Rattle.aud_parse_expr.proofs.Joined.{ends, joined, not_joined}
use Rattle.aud_parse.proofs.declaration.constant.Goals as goal

pub returns-in_err-rest : goal.returns-in_err-rest
returns-in_err-rest c = exit _ _ _ c.from_residual.ensures.1 (c.in_err-rest.ensures.reads c.args.room) (λ k ds v o. o_rule o)

pub returns-in_err-subtype : goal.returns-in_err-subtype
returns-in_err-subtype c = exit _ _ _ c.from_residual-in_err-subtype.ensures.1 (c.in_err-subtype.ensures.reads c.args.room) (λ k ds v o. o_rule (c.in_ok-rest.ensures.reads _ _ _ _ o))

pub returns-in_err-subtype-2 : goal.returns-in_err-subtype-2
returns-in_err-subtype-2 c = exit _ _ _ c.from_residual-in_err-subtype-2.ensures.1 (not_joined _ _ c.in_err-subtype-2.ensures (c.value.ensures g.Initial initial)) (λ k ds v o. o_rule (c.in_ok-rest.ensures.reads _ _ _ _ (c.in_ok-subtype.ensures.reads _ _ _ _ o)))

pub returns : goal.returns
returns c =
    let j = joined _ c.in_ok-subtype-2.ensures (c.value.ensures g.Initial initial) in
    ends c.args.start c.in_ok-subtype-2.rest _ _ c.ended.ensures (search rules)
    (λ k ds v o. o_rule (c.in_ok-rest.ensures.reads _ _ _ _ (c.in_ok-subtype.ensures.reads _ _ _ _ (j.reads _ _ _ o))))
    (λ ds. rw (c.into_inner.ensures, j.first) refl)

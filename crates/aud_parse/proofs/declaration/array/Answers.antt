use Rattle.std.proofs.Common.{refl, rules}
use Rattle.aud_grammar.specs.Ties.Outcome.{o_rule}
use Rattle.aud_cursor.proofs.Passing.{exit}
use Rattle.aud_parse_expr.proofs.Joined.{ends}
use Rattle.aud_parse.proofs.declaration.array.Goals as goal

pub returns-in_err-rest : goal.returns-in_err-rest
returns-in_err-rest c = exit _ _ _ c.from_residual.ensures.1 (c.in_err-rest.ensures.reads c.args.room) (λ k ds v o. o_rule o)

pub returns-in_err-index : goal.returns-in_err-index
returns-in_err-index c = exit _ _ _ c.from_residual-in_err-index.ensures.1 c.in_err-index.ensures.reads (λ k ds v o. o_rule (c.in_ok-rest.ensures.reads _ _ _ _ o))

pub returns-in_err-rest-2 : goal.returns-in_err-rest-2
returns-in_err-rest-2 c = exit _ _ _ c.from_residual-in_err-rest-2.ensures.1 (c.in_err-rest-2.ensures.reads c.args.room) (λ k ds v o. o_rule (c.in_ok-rest.ensures.reads _ _ _ _ (c.in_ok-index.ensures.reads _ _ _ o)))

pub returns-in_err-subtype : goal.returns-in_err-subtype
returns-in_err-subtype c = exit _ _ _ c.from_residual-in_err-subtype.ensures.1 (c.in_err-subtype.ensures.reads c.args.room) (λ k ds v o. o_rule (c.in_ok-rest.ensures.reads _ _ _ _ (c.in_ok-index.ensures.reads _ _ _ (c.in_ok-rest-2.ensures.reads _ _ _ _ o))))

pub returns : goal.returns
returns c = ends c.args.start c.in_ok-subtype.rest _ _ c.ended.ensures (search rules) (λ k ds v o. o_rule (c.in_ok-rest.ensures.reads _ _ _ _ (c.in_ok-index.ensures.reads _ _ _ (c.in_ok-rest-2.ensures.reads _ _ _ _ (c.in_ok-subtype.ensures.reads _ _ _ _ o))))) (λ ds. refl)

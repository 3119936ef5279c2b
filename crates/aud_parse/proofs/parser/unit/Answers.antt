use Rattle.std.proofs.Common.{arith}
use Rattle.aud_grammar.specs.Ties.Outcome.{o_rule}
use Rattle.aud_grammar.specs.Actions.{token}
use Rattle.aud_cursor.proofs.Passing.{to, exit}
use Rattle.aud_parse.proofs.Rolls.{unit_items}
use Rattle.aud_parse.proofs.parser.unit.Goals as goal

pub returns-in_err-context : goal.returns-in_err-context
returns-in_err-context c = exit _ _ _ c.from_residual.ensures.1 (c.in_err-context.ensures.reads c.args.room) (λ k ds v o. o_rule o)

pub returns-in_err-first : goal.returns-in_err-first
returns-in_err-first c = exit _ _ _ c.from_residual-in_err-first.ensures.1 (c.in_err-first.ensures.reads c.args.room) (λ k ds v o. o_rule (c.in_ok-context.ensures.reads _ _ _ _ o))

pub returns-in_err-name : goal.returns-in_err-name
returns-in_err-name c = exit _ _ _ c.from_residual-in_err-name.ensures.1 (c.in_err-name.ensures.reads c.args.room) (λ k ds v o. o_rule (c.in_ok-context.ensures.reads _ _ _ _ (c.in_ok-first.ensures.reads _ _ _ _ o)))

pub returns-in_err-rest : goal.returns-in_err-rest
returns-in_err-rest c = exit _ _ _ c.from_residual-in_err-rest.ensures.1 (c.in_err-rest.ensures.reads c.args.room) (λ k ds v o. o_rule (c.in_ok-context.ensures.reads _ _ _ _ (c.in_ok-first.ensures.reads _ _ _ _ (c.in_ok-name.ensures.reads _ _ _ _ o))))

pub returns-in_err-declarations : goal.returns-in_err-declarations
returns-in_err-declarations c = exit _ _ _ c.from_residual-in_err-declarations.ensures.1 c.in_err-declarations.ensures.reads (λ k ds v o. o_rule (c.in_ok-context.ensures.reads _ _ _ _ (c.in_ok-first.ensures.reads _ _ _ _ (c.in_ok-name.ensures.reads _ _ _ _ (c.in_ok-rest.ensures.reads _ _ _ _ o)))))

pub returns-in_err-body : goal.returns-in_err-body
returns-in_err-body c = exit _ _ _ c.from_residual-in_err-body.ensures.1 c.in_err-body.ensures.reads (λ k ds v o. o_rule (c.in_ok-context.ensures.reads _ _ _ _ (c.in_ok-first.ensures.reads _ _ _ _ (c.in_ok-name.ensures.reads _ _ _ _ (c.in_ok-rest.ensures.reads _ _ _ _ (c.in_ok-declarations.ensures.reads _ _ _ o))))))

pub returns : goal.returns
returns c = record { reads = λ k ds v o. rw (c.at.ensures, c.into_inner.ensures) (to (o_rule (c.in_ok-context.ensures.reads _ _ _ _ (c.in_ok-first.ensures.reads _ _ _ _ (c.in_ok-name.ensures.reads _ _ _ _ (c.in_ok-rest.ensures.reads _ _ _ _ (c.in_ok-declarations.ensures.reads _ _ _ (c.in_ok-body.ensures.reads _ _ _ o))))))) (unit_items c.in_ok-context.context (token c.in_ok-first.first.now) _ c.in_ok-declarations.declarations c.in_ok-body.body.value ds)); shorter = omega (arith, c.in_ok-context.ensures.shorter, c.in_ok-first.ensures.shorter, c.in_ok-name.ensures.shorter, c.in_ok-rest.ensures.shorter, c.in_ok-declarations.ensures.shorter, c.in_ok-body.ensures.shorter) }

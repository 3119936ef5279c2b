use Rattle.std.proofs.Common.{[], ◌∷◌, arith}
use Rattle.aud_lex.specs.declared.token.Kind.TheVariants as kind
use Rattle.aud_grammar.specs.Grammar as g
use Rattle.aud_grammar.specs.Grammar.{N, T}
use Rattle.aud_grammar.specs.Actions.{token}
use Rattle.aud_grammar.specs.Ties.Outcome.{o_rule}
use Rattle.aud_cursor.proofs.Passing.{to, exit}
use Rattle.aud_cursor.proofs.Valued.{reversed}
use Rattle.aud_parse_expr.proofs.Joined.{exit_all}
use Rattle.aud_parse.proofs.Rolls.{for_items}
use Rattle.aud_parse.proofs.scheme.for_scheme.Goals as goal

pub returns-in_err-t : goal.returns-in_err-t
returns-in_err-t c = exit _ _ _ c.from_residual.ensures.1 (c.in_err-t.ensures.reads c.args.room) (λ k ds v o. o_rule o)

pub returns-in_err-name : goal.returns-in_err-name
returns-in_err-name c = exit _ _ _ c.from_residual-in_err-name.ensures.1 (c.in_err-name.ensures.reads c.args.room) (λ k ds v o. o_rule (c.in_ok-t.ensures.reads _ _ _ _ o))

pub returns-in_err-rest : goal.returns-in_err-rest
returns-in_err-rest c = exit _ _ _ c.from_residual-in_err-rest.ensures.1 (c.in_err-rest.ensures.reads c.args.room) (λ k ds v o. o_rule (c.in_ok-t.ensures.reads _ _ _ _ (c.in_ok-name.ensures.reads _ _ _ _ o)))

pub returns-in_err-low : goal.returns-in_err-low
returns-in_err-low c = exit_all (N g.Simple ∷ T kind.DoubleDot ∷ N g.Simple ∷ []) _ _ _ _ c.from_residual-in_err-low.ensures.1 c.in_err-low.ensures.reads (λ k ds v o. o_rule (c.in_ok-t.ensures.reads _ _ _ _ (c.in_ok-name.ensures.reads _ _ _ _ (c.in_ok-rest.ensures.reads _ _ _ _ ((c.mark-reverse.ensures g.Reverse reversed).reads _ _ _ _ o)))))

pub returns : goal.returns
returns c = record {
  reads = λ k ds v o. rw c.at.ensures (to (o_rule (c.in_ok-t.ensures.reads _ _ _ _ (c.in_ok-name.ensures.reads _ _ _ _ (c.in_ok-rest.ensures.reads _ _ _ _ ((c.mark-reverse.ensures g.Reverse reversed).reads _ _ _ _ (c.in_ok-low.ensures.reads _ _ _ o)))))) (for_items c.in_ok-boxed.boxed (token c.in_ok-t.t.now) c.in_ok-name.name _ c.in_ok-low.low c.in_ok-low.high _ _ ds c.in_ok-boxed.ensures c.into_inner.ensures c.into_inner-2.ensures));
  shorter = omega (arith, c.in_ok-t.ensures.shorter, c.in_ok-name.ensures.shorter, c.in_ok-rest.ensures.shorter, (c.mark-reverse.ensures g.Reverse reversed).shorter, c.in_ok-low.ensures.shorter);
}

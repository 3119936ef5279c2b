use Rattle.std.proofs.Common.{List, [], ◌∷◌, refl, arith}
use Rattle.aud_lex.specs.declared.token.Kind.TheVariants as kind
use Rattle.aud_grammar.specs.Grammar as g
use Rattle.aud_grammar.specs.Grammar.{Symbol, T, N}
use Rattle.aud_grammar.specs.Ties.Outcome.{o_rule}
use Rattle.aud_cursor.proofs.Passing.{to, exit}
use Rattle.aud_parse_expr.proofs.Joined.{ends, exit_all}
use Rattle.aud_parse.proofs.delay.delay.Goals as goal

abbrev time_symbols : List Symbol
time_symbols = N g.DelayTime ∷ []

pub returns-in_err-begin : goal.returns-in_err-begin
returns-in_err-begin c = exit _ _ _ c.from_residual.ensures.1 (c.in_err-begin.ensures.reads c.args.room) (λ k ds v o. o_rule o)

pub returns-in_err-delay : goal.returns-in_err-delay
returns-in_err-delay c = exit_all time_symbols _ _ _ _ c.from_residual-in_err-delay.ensures.1 c.in_err-delay.ensures.reads (λ k ds v o. o_rule (c.in_ok-begin.ensures.reads _ _ _ _ o))

pub returns : goal.returns
returns c =
    ends c.args.start c.in_ok-delay.rest _ _ c.ended.ensures (omega (arith, c.in_ok-begin.ensures.shorter, c.in_ok-delay.ensures.shorter))
    (λ k ds v o. let w = c.in_ok-delay.ensures.reads (T kind.Semicolon ∷ k) ds v o in to (o_rule (c.in_ok-begin.ensures.reads _ _ _ _ w.1)) w.2) (λ ds. refl)

use Rattle.std.proofs.Common.{List, [], ◌∷◌, refl, arith}
use Rattle.aud_lex.specs.declared.token.Kind.TheVariants as kind
use Rattle.aud_grammar.specs.Grammar as g
use Rattle.aud_grammar.specs.Grammar.{Symbol, N, T, Opt}
use Rattle.aud_parse.proofs.Completing.{exit_more, ends_among}
use Rattle.aud_parse.proofs.formals.specification.Goals as goal

abbrev head_symbols : List Symbol
head_symbols = N g.Identifier ∷ Opt g.Formals ∷ []

pub returns-in_err-parts : goal.returns-in_err-parts
returns-in_err-parts c = exit_more head_symbols (λ k. T kind.Is ∷ k) _ _ _ c.from_residual.ensures.1 c.in_err-parts.ensures.reads (λ k ds v o. o)

pub returns : goal.returns
returns c = ends_among c.args.start c.in_ok-parts.rest _ _ c.ended.ensures (omega (arith, c.in_ok-parts.ensures.shorter)) (λ k ds v o. c.in_ok-parts.ensures.reads _ _ _ o) (λ ds. refl)

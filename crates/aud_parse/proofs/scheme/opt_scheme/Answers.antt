use Rattle.std.proofs.Common.{[], ◌∷◌, sym, ◌∙◌, rules, arith}
use Rattle.aud_lex.specs.declared.token.Kind.TheVariants as kind
use Rattle.aud_grammar.specs.Ties.Outcome.{o_rule, o_this, o_other, o_last, o_yes, o_no}
use Rattle.aud_cursor.proofs.Passing.{exit, in_this, in_others, in_none}
use Rattle.aud_parse.proofs.scheme.opt_scheme.Goals as goal

pub returns-in_err-scheme : goal.returns-in_err-scheme
returns-in_err-scheme c = exit _ _ _ c.from_residual.ensures.1 c.in_err-scheme.ensures.reads (λ k ds v o. o_yes (in_this kind.While (kind.For ∷ []) c.args.start.tokens.now (sym c.is.ensures ∙ c.if-is.true)) (o_rule (o_this (sym c.is.ensures ∙ c.if-is.true) o)))

pub returns-then-is : goal.returns-then-is
returns-then-is c = record { reads = λ k ds v o. o_yes (in_this kind.While (kind.For ∷ []) c.args.start.tokens.now (sym c.is.ensures ∙ c.if-is.true)) (o_rule (o_this (sym c.is.ensures ∙ c.if-is.true) (c.in_ok-scheme.ensures.reads _ _ _ o))); shorter = omega (arith, c.in_ok-scheme.ensures.shorter) }

pub returns-in_err-scheme-2 : goal.returns-in_err-scheme-2
returns-in_err-scheme-2 c = exit _ _ _ c.from_residual-in_err-scheme-2.ensures.1 c.in_err-scheme-2.ensures.reads (λ k ds v o. o_yes (in_others kind.While (kind.For ∷ []) c.args.start.tokens.now (sym c.is-2.ensures ∙ c.if-is-2.true)) (o_rule (o_other (sym c.is.ensures ∙ c.if-is.false) (o_last o))))

pub returns-then-is-2 : goal.returns-then-is-2
returns-then-is-2 c = record { reads = λ k ds v o. o_yes (in_others kind.While (kind.For ∷ []) c.args.start.tokens.now (sym c.is-2.ensures ∙ c.if-is-2.true)) (o_rule (o_other (sym c.is.ensures ∙ c.if-is.false) (o_last (c.in_ok-scheme-2.ensures.reads _ _ _ o)))); shorter = omega (arith, c.in_ok-scheme-2.ensures.shorter) }

pub returns : goal.returns
returns c = record { reads = λ k ds v o. o_no (in_none kind.While (kind.For ∷ []) c.args.start.tokens.now (sym c.is.ensures ∙ c.if-is.false) (sym c.is-2.ensures ∙ c.if-is-2.false)) o; shorter = search rules }

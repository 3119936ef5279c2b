use Rattle.std.proofs.Common.{[], ◌∷◌, rules}
use Rattle.aud_lex.specs.declared.token.Kind.TheVariants as kind
use Rattle.aud_grammar.specs.Ties.Outcome.{o_rule, o_this, o_other, o_last}
use Rattle.aud_cursor.proofs.Passing.{word_passes, in_this, in_others}
use Rattle.aud_connective.proofs.connective.logical.Goals as goal

pub returns-in-Some-accept : goal.returns-in-Some-accept
returns-in-Some-accept c = record { reads = (in_this kind.And (kind.Or ∷ kind.Xor ∷ []) c.args.start.tokens.now c.in-Some.ensures.reads.0, λ r k ds v o. o_rule (o_this c.in-Some.ensures.reads.0 (o_rule (word_passes c.in-Some.ensures.reads _ _ _ (o_rule (o_this c.in-Some-accept.ensures.reads.0 (o_rule (word_passes c.in-Some-accept.ensures.reads _ _ _ o)))))))); shorter = search rules }

pub returns-in-Some : goal.returns-in-Some
returns-in-Some c = record { reads = (in_this kind.And (kind.Or ∷ kind.Xor ∷ []) c.args.start.tokens.now c.in-Some.ensures.reads.0, λ r k ds v o. o_rule (o_this c.in-Some.ensures.reads.0 (o_rule (word_passes c.in-Some.ensures.reads _ _ _ (o_rule (o_other c.in_default-accept.ensures.reads (o_last (o_rule o)))))))); shorter = search rules }

pub returns-in-Some-accept-3 : goal.returns-in-Some-accept-3
returns-in-Some-accept-3 c = record { reads = (in_others kind.And (kind.Or ∷ kind.Xor ∷ []) c.args.start.tokens.now (in_this kind.Or (kind.Xor ∷ []) c.args.start.tokens.now c.in-Some-accept-2.ensures.reads.0), λ r k ds v o. o_rule (o_other c.in_default.ensures.reads (o_this c.in-Some-accept-2.ensures.reads.0 (o_rule (word_passes c.in-Some-accept-2.ensures.reads _ _ _ (o_rule (o_this c.in-Some-accept-3.ensures.reads.0 (o_rule (word_passes c.in-Some-accept-3.ensures.reads _ _ _ o))))))))); shorter = search rules }

pub returns-in-Some-accept-2 : goal.returns-in-Some-accept-2
returns-in-Some-accept-2 c = record { reads = (in_others kind.And (kind.Or ∷ kind.Xor ∷ []) c.args.start.tokens.now (in_this kind.Or (kind.Xor ∷ []) c.args.start.tokens.now c.in-Some-accept-2.ensures.reads.0), λ r k ds v o. o_rule (o_other c.in_default.ensures.reads (o_this c.in-Some-accept-2.ensures.reads.0 (o_rule (word_passes c.in-Some-accept-2.ensures.reads _ _ _ (o_rule (o_other c.in_default-accept-3.ensures.reads (o_last (o_rule o))))))))); shorter = search rules }

pub returns-in-Some-accept-4 : goal.returns-in-Some-accept-4
returns-in-Some-accept-4 c = record { reads = (in_others kind.And (kind.Or ∷ kind.Xor ∷ []) c.args.start.tokens.now (in_others kind.Or (kind.Xor ∷ []) c.args.start.tokens.now c.in-Some-accept-4.ensures.reads.0), λ r k ds v o. o_rule (o_other c.in_default.ensures.reads (o_other c.in_default-accept-2.ensures.reads (o_last (o_rule (o_rule (word_passes c.in-Some-accept-4.ensures.reads _ _ _ o))))))); shorter = search rules }

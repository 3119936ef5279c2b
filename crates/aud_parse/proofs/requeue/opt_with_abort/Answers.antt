use Rattle.std.proofs.Common.{arith}
use Rattle.aud_grammar.specs.Ties.Outcome.{o_rule, o_yes, o_no}
use Rattle.aud_cursor.proofs.Passing.{exit_flat, word_passes}
use Rattle.aud_parse.proofs.requeue.opt_with_abort.Goals as goal

pub returns-in_default : goal.returns-in_default
returns-in_default c = record { reads = λ room k ds v o. o_no c.in_default.ensures.reads o; shorter = omega arith }

pub returns-in_err-rest : goal.returns-in_err-rest
returns-in_err-rest c = exit_flat _ _ _ c.from_residual.ensures.1 (λ room. c.in_err-rest.ensures.reads room) (λ room k ds v o. o_yes c.in-Some.ensures.reads.0 (o_rule (word_passes c.in-Some.ensures.reads _ _ _ o)))

pub returns : goal.returns
returns c = record {
  reads = λ room k ds v o. o_yes c.in-Some.ensures.reads.0 (o_rule (word_passes c.in-Some.ensures.reads _ _ _ (c.in_ok-rest.ensures.reads _ _ _ _ o)));
  shorter = omega (arith, c.in-Some.ensures.shorter, c.in_ok-rest.ensures.shorter);
}

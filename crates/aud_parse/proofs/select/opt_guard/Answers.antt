use Rattle.std.proofs.Common.{arith}
use Rattle.aud_grammar.specs.Ties.Outcome.{o_rule, o_yes, o_no}
use Rattle.aud_cursor.proofs.Passing.{exit, word_passes}
use Rattle.aud_parse.proofs.select.opt_guard.Goals as goal

pub returns-in_err-condition : goal.returns-in_err-condition
returns-in_err-condition c = exit _ _ _ c.from_residual.ensures.1 c.in_err-condition.ensures.reads (λ k ds v o. o_yes c.in-Some.ensures.reads.0 (o_rule (word_passes c.in-Some.ensures.reads _ _ _ o)))

pub returns-in_err-condition-2 : goal.returns-in_err-condition-2
returns-in_err-condition-2 c = exit _ _ _ c.from_residual-in_err-condition-2.ensures.1 (c.in_err-condition-2.ensures.reads c.args.room) (λ k ds v o. o_yes c.in-Some.ensures.reads.0 (o_rule (word_passes c.in-Some.ensures.reads _ _ _ (c.in_ok-condition.ensures.reads _ _ _ o))))

pub returns-in-Some : goal.returns-in-Some
returns-in-Some c = record {
  reads = λ k ds v o. rw c.in_ok-condition-2.ensures.reads.0 (o_yes c.in-Some.ensures.reads.0 (o_rule (word_passes c.in-Some.ensures.reads _ _ _ (c.in_ok-condition.ensures.reads _ _ _ (c.in_ok-condition-2.ensures.reads.1 _ _ _ _ o)))));
  shorter = omega (arith, c.in-Some.ensures.shorter, c.in_ok-condition.ensures.shorter, c.in_ok-condition-2.ensures.shorter);
}

pub returns : goal.returns
returns c = record { reads = λ k ds v o. o_no c.in_default.ensures.reads o; shorter = omega arith }

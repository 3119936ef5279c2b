use Rattle.std.proofs.Common.{arith}
use Rattle.aud_grammar.specs.Ties.Outcome.{o_rule, o_yes, o_no}
use Rattle.aud_cursor.proofs.Passing.{to, exit, word_passes}
use Rattle.aud_parse.proofs.Objects.{private_part_items}
use Rattle.aud_parse.proofs.protected.opt_private.Goals as goal

pub returns-in_err-items : goal.returns-in_err-items
returns-in_err-items c = exit _ _ _ c.from_residual.ensures.1 c.in_err-items.ensures.reads (λ k ds v o. o_yes c.in-Some.ensures.reads.0 (o_rule (word_passes c.in-Some.ensures.reads _ _ _ o)))

pub returns-in-Some : goal.returns-in-Some
returns-in-Some c = record {
  reads = λ k ds v o. to (o_yes c.in-Some.ensures.reads.0 (o_rule (word_passes c.in-Some.ensures.reads _ _ _ (c.in_ok-items.ensures.reads _ _ _ o)))) (private_part_items c.in_ok-items.items ds);
  shorter = omega (arith, c.in-Some.ensures.shorter, c.in_ok-items.ensures.shorter);
}

pub returns : goal.returns
returns c = record { reads = λ k ds v o. o_no c.in_default.ensures.reads o; shorter = omega arith }

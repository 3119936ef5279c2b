use Rattle.std.proofs.Common.{arith}
use Rattle.aud_grammar.specs.Ties.Outcome.{o_rule}
use Rattle.aud_parse.proofs.Completing.{exit_in}
use Rattle.aud_parse_expr.proofs.Joined.{joined, not_joined}
use Rattle.aud_parse.proofs.Rolls.{begun_items}
use Rattle.aud_parse.proofs.statement.named.Goals as goal

pub returns-in_err-args : goal.returns-in_err-args
returns-in_err-args c = exit_in _ _ _ c.from_residual.ensures.1 c.in_err-args.ensures.reads (λ k ds v o. o_rule o)

pub returns-in_err-others : goal.returns-in_err-others
returns-in_err-others c = exit_in _ _ _ c.from_residual-in_err-others.ensures.1 c.in_err-others.ensures.reads (λ k ds v o. o_rule (c.in_ok-args.ensures.reads _ _ _ o))

pub returns-in_err-name : goal.returns-in_err-name
returns-in_err-name c = exit_in _ _ _ c.from_residual-in_err-name.ensures.1 (not_joined _ _ c.in_err-name.ensures c.statement_rest.ensures) (λ k ds v o. o_rule (c.in_ok-args.ensures.reads _ _ _ (c.in_ok-others.ensures.reads _ _ _ o)))

pub returns : goal.returns
returns c =
    let j = joined _ c.in_ok-name.ensures c.statement_rest.ensures in
    record {
      reads = λ k ds v o. (
        _,
        o_rule (c.in_ok-args.ensures.reads _ _ _ (c.in_ok-others.ensures.reads _ _ _ (j.reads _ _ _ o))),
        begun_items c.in_ok-statement.statement c.in_ok-name.name c.args.ident c.in_ok-args.args c.in_ok-others.others c.in_ok-name.value ds c.in_ok-statement.ensures j.first,
      );
      shorter = omega (arith, c.in_ok-args.ensures.shorter, c.in_ok-others.ensures.shorter);
    }

use Rattle.aud_parse_expr.proofs.Rolls.{chain_items}
use Rattle.aud_parse_expr.proofs.assemble.connected.Goals as goal

pub returns : goal.returns
returns c = λ ds.
    chain_items c.in_ok-boxed.field-0 c.in_ok-chain.chain c.args.connective c.args.first c.args.second c.into_inner.result c.into_inner-2.result c.args.others ds c.in_ok-boxed.ensures c.in_ok-chain.ensures c.into_inner.ensures c.into_inner-2.ensures

use Rattle.aud_typing.proofs.Chains.{chain_begins, chain_goes_on}
use Rattle.aud_typing.proofs.typed.with_operation.Goals as goal

pub returns-in_ok-rest-in-Chain : goal.returns-in_ok-rest-in-Chain
returns-in_ok-rest-in-Chain c = rw c.in-Chain.is (chain_goes_on c.in-Chain.first c.in-Chain.rest c.in_ok-rest-in-Chain.rest c.args.next c.in_ok-rest-in-Chain.ensures)

pub returns-in_ok-first-in_default : goal.returns-in_ok-first-in_default
returns-in_ok-first-in_default c = chain_begins c.in_ok-first-in_default.first c.in_ok-first-in_default.rest c.args.left c.args.next c.in_ok-first-in_default.ensures.next c.in_ok-first-in_default.ensures.first

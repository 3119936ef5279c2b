use Rattle.std.proofs.Common.{◌≡◌, rules}
use Rattle.aud_typed.specs.declared.program.BooleanExpression.TheVariants.{Chain}
use Rattle.aud_typing.proofs.Chains.{connection_begins, connection_goes_on}
use Rattle.aud_typing.proofs.typed.with_operand.Goals as goal

pub returns-then-eq : goal.returns-then-eq
returns-then-eq c =
    let same : c.in-Chain.own ≡ c.args.connective = search rules in
    rw c.in-Chain.is (connection_goes_on c.in-Chain.own c.args.connective same c.in-Chain.first c.in-Chain.rest c.in_ok-rest-in-Chain.rest c.args.next c.in_ok-rest-in-Chain.ensures)

pub returns-in_ok-first-in-Chain : goal.returns-in_ok-first-in-Chain
returns-in_ok-first-in-Chain c = rw c.in-Chain.is (connection_begins c.args.connective c.in_ok-first-in-Chain.first c.in_ok-first-in-Chain.rest (Chain c.in-Chain.own c.in-Chain.first c.in-Chain.rest) c.args.next c.in_ok-first-in-Chain.ensures.next c.in_ok-first-in-Chain.ensures.first)

pub returns-in_ok-first-in_default : goal.returns-in_ok-first-in_default
returns-in_ok-first-in_default c = connection_begins c.args.connective c.in_ok-first-in_default.first c.in_ok-first-in_default.rest c.args.left c.args.next c.in_ok-first-in_default.ensures.next c.in_ok-first-in_default.ensures.first

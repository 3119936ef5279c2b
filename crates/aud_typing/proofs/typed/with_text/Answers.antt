use Rattle.aud_typing.proofs.Chains.{join_begins, join_goes_on}
use Rattle.aud_typing.proofs.typed.with_text.Goals as goal

pub returns-in_ok-longer-in-Join : goal.returns-in_ok-longer-in-Join
returns-in_ok-longer-in-Join c = rw c.in-Join.is (join_goes_on c.in-Join.first c.in-Join.rest c.in_ok-longer-in-Join.field-0 c.args.next c.in_ok-longer-in-Join.ensures)

pub returns-in_ok-first-in_default : goal.returns-in_ok-first-in_default
returns-in_ok-first-in_default c = join_begins c.in_ok-first-in_default.first c.in_ok-first-in_default.rest c.args.left c.args.next c.in_ok-first-in_default.ensures.next c.in_ok-first-in_default.ensures.first

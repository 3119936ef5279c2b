use Rattle.std.proofs.Common.{map}
use Rattle.aud_code.specs.View.{plain_guard}
use Rattle.aud_exc.proofs.Handling.{guarded_begins}
use Rattle.aud_exc.proofs.propagation.find_handler.Goals as goal

pub returns-in-Guards-clause-begins : goal.returns-in-Guards-clause-begins
returns-in-Guards-clause-begins c =
    let leads = rw c.in-Guards.is at c.in_ok-guards.ensures.leads.last in
    rw (c.guarding.ensures, c.deref.ensures.value) (guarded_begins c.args.code.now.lines c.args.exception (map plain_guard c.in-Guards.guards.items) leads)

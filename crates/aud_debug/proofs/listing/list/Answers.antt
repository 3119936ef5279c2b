use Rattle.std.proofs.Common.{Some, ap}
use Rattle.aud_debug.proofs.listing.list.Goals as goal

pub returns-in_ok-queues-in-Queues-clause-shown : goal.returns-in_ok-queues-in-Queues-clause-shown
returns-in_ok-queues-in-Queues-clause-shown c = λ shown h. rw c.in-Queues.is (ap Some (c.in_ok-queues-in-Queues.ensures shown h))

pub returns-in_ok-objects-in-Objects-clause-shown : goal.returns-in_ok-objects-in-Objects-clause-shown
returns-in_ok-objects-in-Objects-clause-shown c = λ shown h. rw c.in-Objects.is (ap Some (c.in_ok-objects-in-Objects.ensures shown h))

pub returns-in_ok-waits-in-Waits-clause-shown : goal.returns-in_ok-waits-in-Waits-clause-shown
returns-in_ok-waits-in-Waits-clause-shown c = λ shown h. rw c.in-Waits.is (ap Some (c.in_ok-waits-in-Waits.ensures shown h))

use Rattle.std.proofs.Common.{ap}
use Rattle.aud_hall.specs.Ties.Places.{unboxed}
use Rattle.aud_hall.proofs.Keeping.{sent_kept, gone_true}
use Rattle.aud_hall.proofs.place.Place.send_out.Goals as goal

pub new-requires : goal.new-requires
new-requires c =
    gone_true c.self.inside.limits c.self.inside.seat c.in-Some.seat c.in-Some.is c.self.invariant c.send_out.new.self (unboxed c.send_out.result) c.send_out.ensures c.in-Some-send_out.bench.value (ap unboxed c.in-Some-send_out.is)

pub invariant_of-self-2 : goal.invariant_of-self-2
invariant_of-self-2 c =
    sent_kept c.self.inside.limits c.self.inside.seat c.in-Some.seat c.in-Some.is c.self.invariant c.send_out.new.self (unboxed c.send_out.result) c.send_out.ensures

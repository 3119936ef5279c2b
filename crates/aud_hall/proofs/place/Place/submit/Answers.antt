use Rattle.aud_hall.specs.Ties.Said.{is_memory, said}
use Rattle.aud_hall.proofs.Keeping.{submitted_kept}
use Rattle.aud_hall.proofs.place.Place.submit.Goals as goal

pub invariant_of-self-2 : goal.invariant_of-self-2
invariant_of-self-2 c =
    submitted_kept c.self.inside.limits c.self.inside.seat c.in-Some.seat c.in-Some.is c.self.invariant c.submit.new.self c.args.request (is_memory c.submit.result) (said c.submit.result) c.submit.ensures.submits

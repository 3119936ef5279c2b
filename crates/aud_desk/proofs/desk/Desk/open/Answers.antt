use Rattle.std.proofs.Common.{rules, ◌≡◌}
use Rattle.aud_hall.specs.Halls.{limits_of}
use Rattle.aud_desk.proofs.Opening.{opens_so}
use Rattle.aud_desk.proofs.desk.Desk.open.Goals as goal

pub returns : goal.returns
returns g c =
    let seats = g.D.Seating.limits in
    let are : limits_of c.deref_mut.result.now.hall ≡ seats = search rules in
    opens_so seats c.args.seat c.deref_mut.result.now.hall c.open_in-opened.new.hall c.open_in-opened.result are c.open_in-opened.ensures.opens

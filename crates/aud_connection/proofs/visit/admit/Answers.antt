use Rattle.std.proofs.Common.{rules, Option, ap, sym, subst}
use Rattle.std.proofs.lemmas.Result.{IfOk-weaker}
use Rattle.aud_bench.specs.declared.request.Request.{Request}
use Rattle.aud_hall.specs.Ties.Places.{seat_limits}
use Rattle.aud_pass.specs.declared.fault.DeskFault.TheVariants.{NotClaimed}
use Rattle.aud_pass.specs.Passed.{Passed}
use Rattle.aud_connection.specs.Told.{Faulted, IsRefused}
use Rattle.aud_connection.specs.Ties.Visits.{Admits}
use Rattle.aud_connection.proofs.Fronts.{opens_not}
use Rattle.aud_connection.proofs.Texts.{other_refused}
use Rattle.aud_connection.proofs.visit.admit.Goals as goal

pub returns-in_default : goal.returns-in_default
returns-in_default g c =
    let seats = g.D.Seating.limits in
    IfOk-weaker c.fault_text.result _ _
    (λ text is. subst (λ (o : Option Passed). Admits seats c.args.request.now text.items o) (sym c.requires) (Faulted NotClaimed, other_refused seats c.args.request.now c.in_default.not-Seat, is))
    c.fault_text.ensures

pub returns-in-Err : goal.returns-in-Err
returns-in-Err g c =
    let seats = g.D.Seating.limits in
    let f = c.in-Err.refused in
    let refused = subst (λ (r : Request). IsRefused seats r (Faulted f)) (sym c.in-Seat.is) (ap (λ x. Faulted x) (opens_not (seat_limits seats c.in-Seat.number) f c.in-Err.ensures (search rules))) in
    IfOk-weaker c.fault_text-in-Err.result _ _
    (λ text is. subst (λ (o : Option Passed). Admits seats c.args.request.now text.items o) (sym c.requires) (Faulted f, refused, is))
    c.fault_text-in-Err.ensures

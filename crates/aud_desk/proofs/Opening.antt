-- A session that begins at a seat of a hall begins at a desk that has this hall.
use Rattle.std.proofs.Common.{◌≡◌, inl, inr, ℕ, List, Option, Some, None, Result, Ok, Err, Bool, true, false, sym, ap, ◌∙◌, subst}
use Rattle.aud_text.specs.declared.limits.Limits.{Limits}
use Rattle.aud_hall.specs.declared.fault.HallFault.{HallFault}
use Rattle.aud_hall.specs.declared.fault.HallFault.TheVariants as hall
use Rattle.aud_hall.specs.Replies.{Refused, Then}
use Rattle.aud_hall.specs.Seats.{Seat}
use Rattle.aud_hall.specs.Halls.{Place, place_at, limits_of, claiming, at_place}
use Rattle.aud_hall.specs.Ties.Places.{limits_at, seat_limits}
use Rattle.aud_hall.proofs.Limits.{limits_there}
use Rattle.aud_pass.specs.declared.fault.DeskFault.{DeskFault}
use Rattle.aud_pass.specs.Faults.{of_hall}
use Rattle.aud_pass.specs.Passed.{Passed}
use Rattle.aud_pass.specs.Replies.{OpensNot}
use Rattle.aud_pass.specs.Sections as section
use Rattle.aud_desk.specs.Opened.{Opens}

module _ (k : ℕ) (refused : Bool) (before : List Place) (fault : HallFault) where
  at_seat : (place : Place) (s : Option Seat) → (claiming refused place s).reply ≡ Refused fault → OpensNot (Some place.limits) (of_hall fault)
  at_seat place (Some s) is =
      let same : hall.SeatInUse ≡ fault = cc in
      inr (ap of_hall (sym same))
  at_seat place None is = by refused is
    where
      by : (r : Bool) → (claiming r place None).reply ≡ Refused fault → OpensNot (Some place.limits) (of_hall fault)
      by true is =
          let same : hall.Memory ≡ fault = cc in
          inl (ap of_hall (sym same))
      by false is = absurd (cc)

  not_claimed : (o : Option Place) → (at_place k (claiming refused) before o).reply ≡ Refused fault → OpensNot (limits_at o) (of_hall fault)
  not_claimed None is =
      let same : hall.NoSuchSeat ≡ fault = cc in
      ap of_hall (sym same)
  not_claimed (Some place) is = at_seat place place.seat is

pub opens_so : (seats : List Limits) (k : ℕ) (before after : List Place) (r : Result Passed DeskFault) → limits_of before ≡ seats → section.Opens k before r after → Opens seats k r
opens_so seats k before after (Ok p) are (new, limits, claimed) = (new, ap (λ ls. seat_limits ls k) (sym are) ∙ sym (limits_there before k) ∙ limits)
opens_so seats k before after (Err f) are (refused, fault, is, claimed, same) =
    let there : limits_at (place_at before k) ≡ seat_limits seats k = limits_there before k ∙ ap (λ ls. seat_limits ls k) are in
    subst (λ g. OpensNot (seat_limits seats k) g) (sym is)
    (subst (λ seat. OpensNot seat (of_hall fault)) there (not_claimed k refused before fault (place_at before k) (ap (λ (t : Then (List Place)). t.reply) claimed)))

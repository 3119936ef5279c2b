-- What is known of a request that fits behind what was sent, and of one that does not.
use Rattle.std.specs.Prelude.{not, ◌||◌}
use Rattle.std.proofs.Common.{◌≡◌, List, length, Option, Some, None, Bool, true, false, refl, sym, ap, ◌∙◌, subst}
use Rattle.aud_text.specs.declared.limits.Limits.{Limits}
use Rattle.aud_bench.specs.declared.request.Request.{Request}
use Rattle.aud_bench.specs.Alone.{fits}
use Rattle.aud_bench.specs.Seen.{has_quit}
use Rattle.aud_bench.specs.Size.{bytes_of}
use Rattle.aud_hall.specs.Seats.{Seat, has_closed, submitting, submitted}
use Rattle.aud_hall.specs.Halls.{Place, place_at, at_seat, at_place}
use Rattle.aud_hall.proofs.Truths.{not_false}
use Rattle.aud_pass.specs.declared.fault.DeskFault.{DeskFault}
use Rattle.aud_pass.specs.declared.fault.DeskFault.TheVariants as fault
use Rattle.aud_pass.specs.Passed.{Passed}
use Rattle.aud_pass.specs.Replies.{IsLost, FitsBy}
use Rattle.aud_pass.specs.Sections.{not_seated, not_there, in_turn, submit_fault}
use Rattle.aud_pass.proofs.Places.{compared, IsLostIn, compared_lost, Knows, knows}

not_true : (b : Bool) → not b ≡ true → b ≡ false
not_true false e = refl
not_true true e = absurd (cc)

lost_fits : (o : Option DeskFault) (p : Passed) (r : Request) (f : DeskFault) → o ≡ Some f → IsLostIn o → FitsBy (Some f) p r
lost_fits o p r f e h = by f (subst IsLostIn e h)
  where
    by : (f : DeskFault) → IsLost f → FitsBy (Some f) p r
    by fault.NoSuchSeat h = tt
    by fault.NotClaimed h = tt
    by (fault.NotThisDesk place) h = tt
    by fault.SeatInUse h = absurd h
    by fault.Memory h = absurd h
    by fault.Full h = absurd h

-- what is stored is what was sent
module _ (p : Passed) (r : Request) (limits : Limits) (s : Seat) where
  fits_there : Knows p limits s.requests → has_quit s.requests ≡ false → fits (length s.requests) (bytes_of s.requests) r ≡ true → FitsBy None p r
  fits_there known going room = record {
    open_there = ap has_quit known.sent_is ∙ going;
    room = ap (λ (rs : List Request). fits (length rs) (bytes_of rs) r) known.sent_is ∙ room;
  }

  overflows_there : Knows p limits s.requests → has_quit s.requests ≡ false → fits (length s.requests) (bytes_of s.requests) r ≡ false → FitsBy (Some fault.Full) p r
  overflows_there known going none = record {
    open_there = ap has_quit known.sent_is ∙ going;
    none = ap (λ (rs : List Request). fits (length rs) (bytes_of rs) r) known.sent_is ∙ none;
  }

  by_tests : (quit full closed : Bool) (wrong : Option DeskFault) → has_quit s.requests ≡ quit → not (fits (length s.requests) (bytes_of s.requests) r) ≡ full → compared p limits s.requests ≡ wrong
      → FitsBy (in_turn (submitting quit full closed r s).reply wrong) p r
  by_tests true full closed wrong e f g = tt
  by_tests false true closed None e f g = overflows_there (knows p limits s.requests g) e (not_true (fits (length s.requests) (bytes_of s.requests) r) f)
  by_tests false true closed (Some other) e f g = lost_fits (compared p limits s.requests) p r other g (compared_lost p limits s.requests)
  by_tests false false true None e f g = tt
  by_tests false false true (Some other) e f g = lost_fits (compared p limits s.requests) p r other g (compared_lost p limits s.requests)
  by_tests false false false None e f g = fits_there (knows p limits s.requests g) e (not_false (fits (length s.requests) (bytes_of s.requests) r) f)
  by_tests false false false (Some other) e f g = lost_fits (compared p limits s.requests) p r other g (compared_lost p limits s.requests)

module _ (p : Passed) (r : Request) (places : List Place) where
  fits_seat : (place : Place) (o : Option Seat) → FitsBy (in_turn (at_seat (submitted r false) place o).reply (not_seated p place.limits o)) p r
  fits_seat place None = tt
  fits_seat place (Some s) =
      by_tests p r place.limits s (has_quit s.requests) (not (fits (length s.requests) (bytes_of s.requests) r)) (false || has_closed s.home) (compared p place.limits s.requests) refl refl refl

  fits_place : (o : Option Place) → FitsBy (in_turn (at_place p.seat (at_seat (submitted r false)) places o).reply (not_there p o)) p r
  fits_place None = tt
  fits_place (Some place) = fits_seat place place.seat

  pub fits_as : (o : Option DeskFault) → o ≡ submit_fault r p places → FitsBy o p r
  fits_as o e = subst (λ x. FitsBy x p r) (sym e) (fits_place (place_at places p.seat))

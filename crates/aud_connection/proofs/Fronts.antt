-- What is told begins with answers of a private server, up to the first refusal of the desk.
use Rattle.std.proofs.Common.{◌≡◌, ◌⊎◌, inl, inr, List, [], ◌∷◌, ◌++◌, length, Option, Some, None, true, refl, sym, ap, ap₂, ◌∙◌, subst, arith, append-nil, length-append}
use Rattle.aud_text.specs.declared.limits.Limits.{Limits}
use Rattle.aud_bench.specs.declared.request.Request.{Request}
use Rattle.aud_bench.specs.declared.request.Answer.{Answer}
use Rattle.aud_bench.specs.Alone.{alone}
use Rattle.aud_bench.proofs.Sessions.{alone_front}
use Rattle.aud_pass.proofs.Overs.{front_more}
use Rattle.aud_pass.specs.declared.fault.DeskFault.{DeskFault}
use Rattle.aud_pass.specs.declared.fault.DeskFault.TheVariants as fault
use Rattle.aud_pass.specs.Passed.{IsPrefix, Passed}
use Rattle.aud_pass.specs.Replies.{IsLost, not_opened, OpensNot, FitsBy}
use Rattle.aud_connection.specs.Told.{Told, all_answered, are_answers}
use Rattle.aud_connection.specs.Served.{Begins}
use Rattle.aud_connection.specs.Ties.Visits.{Ends}

-- ---- prefixes

-- a prefix of a list and one thing more is all of that, or a prefix of the list
split_last : (front rest told : List Told) (t : Told) → told ++ t ∷ [] ≡ front ++ rest → (front ≡ told ++ t ∷ []) ⊎ ((others : List Told) × (told ≡ front ++ others))
split_last [] rest told t e = inr (told, refl)
split_last (x ∷ []) rest [] t e =
    let same : t ≡ x = cc in
    inl (ap (λ y. y ∷ []) (sym same))
split_last (x ∷ y ∷ front) rest [] t e = absurd (omega (arith, ap length e, length-append front rest))
split_last (x ∷ front) rest (y ∷ told) t e =
    let head : y ≡ x = cc in
    let tail : told ++ t ∷ [] ≡ front ++ rest = cc in
    by head (split_last front rest told t tail)
  where
    by : y ≡ x → ((front ≡ told ++ t ∷ []) ⊎ ((others : List Told) × (told ≡ front ++ others))) → ((x ∷ front) ≡ (y ∷ told) ++ t ∷ []) ⊎ ((others : List Told) × ((y ∷ told) ≡ (x ∷ front) ++ others))
    by head (inl is) = inl (ap₂ (λ z zs. z ∷ zs) (sym head) is)
    by head (inr (others, is)) = inr (others, ap₂ (λ z zs. z ∷ zs) head is)

module _ (limits : Limits) where
  pub begins_none : (after : List Request) → Begins limits after []
  begins_none after [] rest e h = ([], refl, (alone limits after, refl))
  begins_none after (x ∷ front) rest e h = absurd (cc)

  pub begins_more : (after more : List Request) (told : List Told) → Begins limits after told → Begins limits (after ++ more) told
  begins_more after more told begins front rest e h =
      let (answers, is, f) = begins front rest e h in
      (answers, is, front_more answers (alone limits after) (alone limits (after ++ more)) f (alone_front limits after more))

  pub begins_on : (after : List Request) (r : Request) (told : List Told) (t : Told) → Begins limits after told
      → (are_answers (told ++ t ∷ []) ≡ true → told ++ t ∷ [] ≡ all_answered (alone limits (after ++ r ∷ []))) → Begins limits (after ++ r ∷ []) (told ++ t ∷ [])
  begins_on after r told t begins whole front rest e h = by (split_last front rest told t e)
    where
      by : ((front ≡ told ++ t ∷ []) ⊎ ((others : List Told) × (told ≡ front ++ others))) → (answers : List Answer) × (front ≡ all_answered answers) × IsPrefix answers (alone limits (after ++ r ∷ []))
      by (inl is) =
          let all = alone limits (after ++ r ∷ []) in
          (all, is ∙ whole (subst (λ xs. are_answers xs ≡ true) is h), ([], sym (append-nil all)))
      by (inr (others, is)) = begins_more after (r ∷ []) told begins front others is h

-- ---- refusals

-- what keeps a request back, but that it does not fit or memory is out
pub fits_lost : (f : DeskFault) (p : Passed) (r : Request) → FitsBy (Some f) p r → (f ≡ fault.Memory → ⊥) → (f ≡ fault.Full → ⊥) → IsLost f
fits_lost fault.NoSuchSeat p r h m o = tt
fits_lost fault.NotClaimed p r h m o = tt
fits_lost (fault.NotThisDesk place) p r h m o = tt
fits_lost fault.SeatInUse p r h m o = absurd h
fits_lost fault.Full p r h m o = absurd (o refl)
fits_lost fault.Memory p r h m o = absurd (m refl)

pub ends_lost : (f : DeskFault) → Ends f → (f ≡ fault.Memory → ⊥) → IsLost f
ends_lost fault.NoSuchSeat h m = tt
ends_lost fault.NotClaimed h m = tt
ends_lost (fault.NotThisDesk place) h m = tt
ends_lost fault.SeatInUse h m = absurd h
ends_lost fault.Full h m = absurd h
ends_lost fault.Memory h m = absurd (m refl)

-- why a seat is not opened, where memory is not out
pub opens_not : (seat : Option Limits) (f : DeskFault) → OpensNot seat f → (f ≡ fault.Memory → ⊥) → f ≡ not_opened seat
opens_not None f is m = is
opens_not (Some limits) f (inl out) m = absurd (m out)
opens_not (Some limits) f (inr is) m = is

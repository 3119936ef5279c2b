-- A pass and the place of its seat.
use Rattle.std.specs.Prelude.{nat_lt, ◌&&◌, ◌==◌, not, if◌then◌else◌}
use Rattle.std.proofs.Common.{◌≡◌, ℕ, ◌+◌, ◌≤◌, List, [], ◌∷◌, ◌++◌, length, drop, Option, Some, None, Bool, true, false, refl, sym, ap, ◌∙◌, subst, arith, append-nil, length-append}
use Rattle.aud_text.specs.declared.limits.Limits.{Limits}
use Rattle.aud_bench.specs.declared.request.Request.{Request}
use Rattle.aud_bench.specs.declared.request.Answer.{Answer}
use Rattle.aud_bench.specs.Same.{same_limits}
use Rattle.aud_bench.proofs.Sameness.{same_limits_is}
use Rattle.aud_hall.specs.Numbered.{IsPrefix}
use Rattle.aud_hall.specs.Replies.{Answers, Then}
use Rattle.aud_hall.specs.Seats.{Seat, has_closed, collected}
use Rattle.aud_hall.specs.CheckIns.{first_difference}
use Rattle.aud_hall.specs.Halls.{Place, at_seat, with_place, at_place}
use Rattle.aud_hall.specs.Told.{AreAnswers, IsToldIn, IsToldAt}
use Rattle.aud_hall.specs.Ties.Places.{asked_in, asked_at, outbox_in, outbox_at, limits_at}
use Rattle.aud_hall.proofs.CheckIns.{first_none}
use Rattle.aud_hall.proofs.Judging.{other_limits, own_limits}
use Rattle.aud_hall.proofs.Truths.{false_lt}
use Rattle.aud_pass.specs.declared.fault.DeskFault.{DeskFault}
use Rattle.aud_pass.specs.declared.fault.DeskFault.TheVariants.{NotThisDesk}
use Rattle.aud_pass.specs.Passed.{Passed}
use Rattle.aud_pass.specs.Replies.{IsLost}
use Rattle.aud_pass.specs.Sections.{parted_behind, parted, or_parted, not_seated, not_there}

-- ## How a pass is compared

abbrev pub compared : Passed → Limits → List Request → Option DeskFault
compared p limits stored = if same_limits limits p.limits then or_parted (parted p.sent stored) else Some (NotThisDesk 0)

-- the faults that this gives
abbrev pub IsLostIn : Option DeskFault → Type 0
IsLostIn None = Unit {0}
IsLostIn (Some f) = IsLost f

parted_lost : (o : Option ℕ) → IsLostIn (or_parted o)
parted_lost None = tt
parted_lost (Some place) = tt

pub compared_lost : (p : Passed) (limits : Limits) (stored : List Request) → IsLostIn (compared p limits stored)
compared_lost p limits stored = by (same_limits limits p.limits)
  where
    by : (c : Bool) → IsLostIn (if c then or_parted (parted p.sent stored) else Some (NotThisDesk 0))
    by true = parted_lost (parted p.sent stored)
    by false = tt

seated_lost : (p : Passed) (limits : Limits) (o : Option Seat) → IsLostIn (not_seated p limits o)
seated_lost p limits None = tt
seated_lost p limits (Some s) = compared_lost p limits s.requests

there_lost : (p : Passed) (o : Option Place) → IsLostIn (not_there p o)
there_lost p None = tt
there_lost p (Some place) = seated_lost p place.limits place.seat

pub lost_of : (p : Passed) (o : Option Place) (f : DeskFault) → not_there p o ≡ Some f → IsLost f
lost_of p o f e = subst IsLostIn e (there_lost p o)

seated_in : (p : Passed) (limits : Limits) (o : Option Seat) (stored : List Request) → asked_in o ≡ Some stored → not_seated p limits o ≡ compared p limits stored
seated_in p limits None stored is = absurd (cc)
seated_in p limits (Some s) stored is =
    let same : s.requests ≡ stored = cc in
    ap (compared p limits) same

seated : (p : Passed) (o : Option Place) (limits : Limits) (stored : List Request) → limits_at o ≡ Some limits → asked_at o ≡ Some stored → not_there p o ≡ compared p limits stored
seated p None limits stored is asked = absurd (cc)
seated p (Some place) limits stored is asked =
    let same : place.limits ≡ limits = cc in
    seated_in p place.limits place.seat stored asked ∙ ap (λ l. compared p l stored) same

-- the limits and the requests of the seat are read, and the limits compared
module _ (p : Passed) (o : Option Place) (limits : Limits) (stored : List Request) (is : limits_at o ≡ Some limits) (asked : asked_at o ≡ Some stored) (ne : Bool)
    (ne_is : ne ≡ not ((limits.tasks == p.limits.tasks) && (limits.source == p.limits.source))) where
  pub others : ne ≡ true → Some (NotThisDesk 0) ≡ not_there p o
  others e =
      let differ : same_limits limits p.limits ≡ false = other_limits limits p.limits (sym ne_is ∙ e) in
      sym (seated p o limits stored is asked ∙ ap (λ c. if c then or_parted (parted p.sent stored) else Some (NotThisDesk 0)) differ)

  pub own : ne ≡ false → or_parted (parted p.sent stored) ≡ not_there p o
  own e =
      let same : same_limits limits p.limits ≡ true = own_limits limits p.limits (sym ne_is ∙ e) in
      sym (seated p o limits stored is asked ∙ ap (λ c. if c then or_parted (parted p.sent stored) else Some (NotThisDesk 0)) same)

-- ## What a pass that is one of its seat's knows

front_whole : (sent stored : List Request) → IsPrefix sent stored → length stored ≤ length sent → sent ≡ stored
front_whole sent stored (rest, is) h = by rest is
  where
    by : (rest : List Request) → stored ≡ sent ++ rest → sent ≡ stored
    by [] e = sym (e ∙ append-nil sent)
    by (r ∷ rest) e = absurd (omega (arith, ap length e, length-append sent (r ∷ rest), h))

parted_none : (sent stored : List Request) → or_parted (parted sent stored) ≡ None → sent ≡ stored
parted_none sent stored h = by (first_difference sent stored) (nat_lt (length sent) (length stored)) refl refl h
  where
    by : (d : Option ℕ) (c : Bool) → first_difference sent stored ≡ d → nat_lt (length sent) (length stored) ≡ c → or_parted (parted_behind d (length sent) (length stored)) ≡ None → sent ≡ stored
    by (Some place) c e f h = absurd (cc)
    by None true e f h =
        let never : or_parted (if true then Some (length sent) else None) ≡ None = ap (λ b. or_parted (if b then Some (length sent) else None)) (sym f) ∙ h in
        absurd (cc)
    by None false e f h = front_whole sent stored (first_none sent stored e) (false_lt (length sent) (length stored) f)

pub record Knows (p : Passed) (limits : Limits) (stored : List Request) : Type 0 where
  pub limits_are : p.limits ≡ limits
  pub sent_is : p.sent ≡ stored

knows_by : (p : Passed) (limits : Limits) (stored : List Request) (c : Bool) → same_limits limits p.limits ≡ c → (if c then or_parted (parted p.sent stored) else Some (NotThisDesk 0)) ≡ None → Knows p limits stored
knows_by p limits stored false e h = absurd (cc)
knows_by p limits stored true e h = record { limits_are = sym (same_limits_is limits p.limits e); sent_is = parted_none p.sent stored h }

pub knows : (p : Passed) (limits : Limits) (stored : List Request) → compared p limits stored ≡ None → Knows p limits stored
knows p limits stored h = knows_by p limits stored (same_limits limits p.limits) refl h

told_in : (p : Passed) (limits : Limits) (o : Option Seat) → not_seated p limits o ≡ None → IsToldIn limits o → (closed : Bool) × AreAnswers p.limits p.sent closed (outbox_in o)
told_in p limits None there t = absurd (cc)
told_in p limits (Some s) there t =
    let known = knows p limits s.requests there in (
      has_closed s.home,
      subst (λ l. AreAnswers l p.sent (has_closed s.home) s.outbox) (sym known.limits_are) (subst (λ rs. AreAnswers limits rs (has_closed s.home) s.outbox) (sym known.sent_is) t.outbox),
    )

-- the answers there are those to what was sent
pub answers_there : (p : Passed) (o : Option Place) → not_there p o ≡ None → IsToldAt o → (closed : Bool) × AreAnswers p.limits p.sent closed (outbox_at o)
answers_there p None there t = absurd (cc)
answers_there p (Some place) there t = told_in p place.limits place.seat there t

-- what the hall collects are the answers that are not got yet
collected_in : (places : List Place) (k from : ℕ) (place : Place) (o : Option Seat) (p : Passed) (now : List Place) (new : List Answer) → not_seated p place.limits o ≡ None
    → with_place k places (at_seat (λ s. record { now = s; reply = collected from false s }) place o) ≡ record { now = now; reply = Answers new } → new ≡ drop from (outbox_in o)
collected_in places k from place None p now new there h = absurd (cc)
collected_in places k from place (Some s) p now new there h =
    let reply : Answers (drop from s.outbox) ≡ Answers new = ap (λ (t : Then (List Place)). t.reply) h in
    cc

pub collected_there : (places : List Place) (k from : ℕ) (o : Option Place) (p : Passed) (now : List Place) (new : List Answer) → not_there p o ≡ None
    → at_place k (at_seat (λ s. record { now = s; reply = collected from false s })) places o ≡ record { now = now; reply = Answers new } → new ≡ drop from (outbox_at o)
collected_there places k from None p now new there h = absurd (cc)
collected_there places k from (Some place) p now new there h = collected_in places k from place place.seat p now new there h

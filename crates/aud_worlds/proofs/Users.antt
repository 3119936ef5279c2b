-- Every seat that is claimed is a session's: of the sessions that began there, the last one lasts.
use Rattle.std.specs.Prelude.{◌==◌, if◌then◌else◌}
use Rattle.std.proofs.Common.{◌≡◌, ℕ, zero, suc, ◌+◌, List, [], ◌∷◌, Option, Some, None, Bool, true, false, refl, sym, ap, ◌∙◌, subst, arith}
use Rattle.aud_text.specs.declared.limits.Limits.{Limits}
use Rattle.aud_hall.specs.declared.fault.HallFault.{HallFault}
use Rattle.aud_hall.specs.declared.fault.HallFault.TheVariants.{NoSuchSeat, SeatInUse, Memory}
use Rattle.aud_hall.specs.Numbered.{at}
use Rattle.aud_hall.specs.Replies.{Accepted, Refused, Then}
use Rattle.aud_hall.specs.Seats.{Seat, claimed, submitted, sent, collected}
use Rattle.aud_hall.specs.CheckIns.{judged, checked}
use Rattle.aud_hall.specs.Halls.{Place, nobodys, place_at, put_place, with_seat, at_place, at_seat, claiming, freeing, sends_out, sending_place, sending_seat, checking_place, checking_seat}
use Rattle.aud_hall.specs.Parcels.{Parcel}
use Rattle.aud_worlds.specs.World.{World, Event, Claim, Submit, SendOut, Slice, CheckIn, Collect, Free, happens, after_all, beginning, parcel_at, in_hall, slicing, checking}
use Rattle.aud_worlds.specs.Mine.{Track, Phase, Waiting, Lasting, Over, held_in, held_of, with_limits, phase_begun, phase_ended, track_after, track_from, outset}
use Rattle.aud_worlds.specs.Headline.{EverySeatLaw, now_is}
use Rattle.aud_bench.proofs.Truths.{eq_true}
use Rattle.aud_worlds.proofs.Numbered.{place_put, place_put_other}
use Rattle.aud_worlds.proofs.Sessions.{IsSeated, IsHeld, eq_false}

-- so many sessions have begun: those behind them still wait, and one of them lasts where the seat is claimed
pub record Counted (begun : ℕ) (phases : ℕ → Phase) (o : Option Place) : Type 0 where
  pub later : (n : ℕ) → phases (begun + n) ≡ Waiting n
  pub last : IsHeld o → (m : ℕ) × (phases m ≡ Lasting)

abbrev pub IsCounted : (ℕ → Phase) → Option Place → Type 0
IsCounted phases o = (begun : ℕ) × Counted begun phases o

-- nothing begins, and nothing is claimed
unchanged : (phases phases' : ℕ → Phase) (before after : Option Place) → ((n : ℕ) → phases' n ≡ phases n) → (IsHeld after → IsHeld before) → IsCounted phases before → IsCounted phases' after
unchanged phases phases' before after same back c = (
  c.0,
  record { later = λ n. same (c.0 + n) ∙ c.1.later n; last = λ h. let l = c.1.last (back h) in (l.0, same l.0 ∙ l.1) },
)

begun_refused : (p : Phase) (fault : HallFault) → phase_begun p (Refused fault) ≡ p
begun_refused (Waiting zero) fault = refl
begun_refused (Waiting (suc n)) fault = refl
begun_refused Lasting fault = refl
begun_refused Over fault = refl

module _ (k : ℕ) (w : World) where
  -- another place in the place of one that is claimed if it is
  put_back : (j : ℕ) (x y : Place) → place_at w.hall j ≡ Some x → (IsSeated y.seat → IsSeated x.seat) → IsHeld (place_at (put_place w.hall j y) k) → IsHeld (place_at w.hall k)
  put_back j x y f back = by (j == k) refl
    where
      by : (b : Bool) → (j == k) ≡ b → IsHeld (place_at (put_place w.hall j y) k) → IsHeld (place_at w.hall k)
      by false e h = subst IsHeld (place_put_other w.hall j k y (eq_false j k e)) h
      by true e h =
          let same : j ≡ k = eq_true j k e in
          let there : place_at w.hall k ≡ Some x = sym (ap (place_at w.hall) same) ∙ f in
          let put : place_at (put_place w.hall j y) k ≡ Some y = ap (λ i. place_at (put_place w.hall i y) k) same ∙ place_put w.hall k x y there in
          subst IsHeld (sym there) (back (subst IsHeld put h))

  -- ## What claims no seat

  seat_back : (j : ℕ) (call : Seat → Then Seat) → IsHeld (place_at (in_hall w (at_place j (at_seat call) w.hall (place_at w.hall j))).now.hall k) → IsHeld (place_at w.hall k)
  seat_back j call = by (place_at w.hall j) refl
    where
      seated : (place : Place) (o : Option Seat) → place.seat ≡ o → IsSeated (at_seat call place o).now.seat → IsSeated place.seat
      seated place None e h = h
      seated place (Some s) e h = subst IsSeated (sym e) tt

      by : (o : Option Place) → place_at w.hall j ≡ o → IsHeld (place_at (in_hall w (at_place j (at_seat call) w.hall o)).now.hall k) → IsHeld (place_at w.hall k)
      by None f h = h
      by (Some place) f h = put_back j place (at_seat call place place.seat).now f (seated place place.seat refl) h

  send_back : (j : ℕ) (refused : Option ℕ) → IsHeld (place_at (sends_out j refused w.hall).hall k) → IsHeld (place_at w.hall k)
  send_back j refused = by (place_at w.hall j) refl
    where
      seated : (place : Place) (o : Option Seat) → place.seat ≡ o → place_at w.hall j ≡ Some place → IsHeld (place_at (sending_seat j refused w.hall place o).hall k) → IsHeld (place_at w.hall k)
      seated place None e f h = h
      seated place (Some s) e f h = put_back j place (record place { seat = Some (sent refused s).seat }) f (λ _. subst IsSeated (sym e) tt) h

      by : (o : Option Place) → place_at w.hall j ≡ o → IsHeld (place_at (sending_place j refused w.hall o).hall k) → IsHeld (place_at w.hall k)
      by None f h = h
      by (Some place) f h = seated place place.seat refl f h

  slice_back : (n units : ℕ) (refused : Option ℕ) (o : Option Parcel) → IsHeld (place_at (slicing n units refused w o).now.hall k) → IsHeld (place_at w.hall k)
  slice_back n units refused None h = h
  slice_back n units refused (Some p) h = h

  check_back : (n j : ℕ) (o : Option Parcel) → IsHeld (place_at (checking n j w o).now.hall k) → IsHeld (place_at w.hall k)
  check_back n j None h = h
  check_back n j (Some p) h = by (place_at w.hall j) refl h
    where
      seated : (place : Place) (o : Option Seat) → place.seat ≡ o → place_at w.hall j ≡ Some place → IsHeld (place_at (checking_seat j w.hall p.bench place o).now k) → IsHeld (place_at w.hall k)
      seated place None e f h = h
      seated place (Some s) e f h = put_back j place (with_seat place (checked (judged place.limits p.bench s) p.bench s)).now f (λ _. subst IsSeated (sym e) tt) h

      by : (o : Option Place) → place_at w.hall j ≡ o → IsHeld (place_at (checking_place j w.hall p.bench o).now k) → IsHeld (place_at w.hall k)
      by None f h = h
      by (Some place) f h = seated place place.seat refl f h

  -- ## Claim

  claim_other : (j : ℕ) (refused : Bool) (o : Option Place) → (j ≡ k → ⊥) → IsHeld (place_at (in_hall w (at_place j (claiming refused) w.hall o)).now.hall k) → IsHeld (place_at w.hall k)
  claim_other j refused None never h = h
  claim_other j refused (Some place) never h = subst IsHeld (place_put_other w.hall j k _ never) h

  module _ (phases : ℕ → Phase) (c : IsCounted phases (place_at w.hall k)) where
    -- one session more
    one_more : (after : Option Place) → IsCounted (λ n. phase_begun (phases n) Accepted) after
    one_more after = (
      suc c.0,
      record {
        later = λ n.
            let e : suc c.0 + n ≡ c.0 + suc n = omega arith in
            ap (λ p. phase_begun p Accepted) (ap phases e ∙ c.1.later (suc n));
        last = λ _.
            let e : c.0 ≡ c.0 + 0 = omega arith in
            (c.0, ap (λ p. phase_begun p Accepted) (ap phases e ∙ c.1.later 0));
      },
    )

    claim_here : (refused : Bool) (o : Option Place) → place_at w.hall k ≡ o
        → IsCounted (λ n. phase_begun (phases n) (in_hall w (at_place k (claiming refused) w.hall o)).reply) (place_at (in_hall w (at_place k (claiming refused) w.hall o)).now.hall k)
    claim_here refused None f = unchanged phases (λ n. phase_begun (phases n) (Refused NoSuchSeat)) (place_at w.hall k) (place_at w.hall k) (λ n. begun_refused (phases n) NoSuchSeat) (λ h. h) c
    claim_here refused (Some place) f = seated refused place.seat
      where
        same : (fault : HallFault) → IsCounted (λ n. phase_begun (phases n) (Refused fault)) (place_at (put_place w.hall k place) k)
        same fault = unchanged phases (λ n. phase_begun (phases n) (Refused fault)) (place_at w.hall k) (place_at (put_place w.hall k place) k) (λ n. begun_refused (phases n) fault) (put_back k place place f (λ h. h)) c

        seated : (refused : Bool) (o : Option Seat) → IsCounted (λ n. phase_begun (phases n) (claiming refused place o).reply) (place_at (put_place w.hall k (claiming refused place o).now) k)
        seated refused (Some s) = same SeatInUse
        seated true None = same Memory
        seated false None = one_more (place_at (put_place w.hall k (record place { seat = Some (claimed place.limits) })) k)

    claim_step : (refused : Bool) (j : ℕ) (b : Bool) → (j == k) ≡ b
        → IsCounted (λ n. if b then phase_begun (phases n) (in_hall w (at_place j (claiming refused) w.hall (place_at w.hall j))).reply else phases n) (place_at (in_hall w (at_place j (claiming refused) w.hall (place_at w.hall j))).now.hall k)
    claim_step refused j false e =
        unchanged phases phases (place_at w.hall k) (place_at (in_hall w (at_place j (claiming refused) w.hall (place_at w.hall j))).now.hall k) (λ n. refl) (claim_other j refused (place_at w.hall j) (eq_false j k e)) c
    claim_step refused j true e =
        subst (λ i. IsCounted (λ n. phase_begun (phases n) (in_hall w (at_place i (claiming refused) w.hall (place_at w.hall i))).reply) (place_at (in_hall w (at_place i (claiming refused) w.hall (place_at w.hall i))).now.hall k)) (sym (eq_true j k e))
        (claim_here refused (place_at w.hall k) refl)

    -- ## Free

    free_other : (j : ℕ) (o : Option Place) → (j ≡ k → ⊥) → IsHeld (place_at (in_hall w (at_place j freeing w.hall o)).now.hall k) → IsHeld (place_at w.hall k)
    free_other j None never h = h
    free_other j (Some place) never h = subst IsHeld (place_put_other w.hall j k _ never) h

    gone : (o : Option Place) → place_at w.hall k ≡ o → IsHeld (place_at (in_hall w (at_place k freeing w.hall o)).now.hall k) → ⊥
    gone None f h = subst IsHeld f h
    gone (Some place) f h = seated place.seat refl (subst IsHeld (place_put w.hall k place (freeing place place.seat).now f) h)
      where
        seated : (o : Option Seat) → place.seat ≡ o → IsSeated (freeing place o).now.seat → ⊥
        seated None e h = subst IsSeated e h
        seated (Some s) e h = h

    free_step : (j : ℕ) (b : Bool) → (j == k) ≡ b
        → IsCounted (λ n. if b then phase_ended (phases n) else phases n) (place_at (in_hall w (at_place j freeing w.hall (place_at w.hall j))).now.hall k)
    free_step j false e =
        unchanged phases phases (place_at w.hall k) (place_at (in_hall w (at_place j freeing w.hall (place_at w.hall j))).now.hall k) (λ n. refl) (free_other j (place_at w.hall j) (eq_false j k e)) c
    free_step j true e =
        subst (λ i. IsCounted (λ n. phase_ended (phases n)) (place_at (in_hall w (at_place i freeing w.hall (place_at w.hall i))).now.hall k)) (sym (eq_true j k e))
        (c.0, record { later = λ n. ap phase_ended (c.1.later n); last = λ h. absurd (gone (place_at w.hall k) refl h) })

-- ## Every event

same_phases : (k : ℕ) (w after : World) (phases : ℕ → Phase) → IsCounted phases (place_at w.hall k) → (IsHeld (place_at after.hall k) → IsHeld (place_at w.hall k)) → IsCounted phases (place_at after.hall k)
same_phases k w after phases c back = unchanged phases phases (place_at w.hall k) (place_at after.hall k) (λ n. refl) back c

counted_on : (k : ℕ) (ts : ℕ → Track) (w : World) (e : Event) → IsCounted (λ n. (ts n).phase) (place_at w.hall k) → IsCounted (λ n. (track_after k (ts n) w e).phase) (place_at (happens e w).now.hall k)
counted_on k ts w (Claim j refused) c = claim_step k w (λ n. (ts n).phase) c refused j (j == k) refl
counted_on k ts w (Submit j r refused) c = same_phases k w (happens (Submit j r refused) w).now (λ n. (ts n).phase) c (seat_back k w j (submitted r refused))
counted_on k ts w (SendOut j refused) c = same_phases k w (happens (SendOut j refused) w).now (λ n. (ts n).phase) c (send_back k w j refused)
counted_on k ts w (Slice n units refused) c = same_phases k w (happens (Slice n units refused) w).now (λ n. (ts n).phase) c (slice_back k w n units refused (parcel_at w.out n))
counted_on k ts w (CheckIn n j) c = same_phases k w (happens (CheckIn n j) w).now (λ n. (ts n).phase) c (check_back k w n j (parcel_at w.out n))
counted_on k ts w (Collect j from refused) c = same_phases k w (happens (Collect j from refused) w).now (λ n. (ts n).phase) c (seat_back k w j (λ s. record { now = s; reply = collected from refused s }))
counted_on k ts w (Free j) c = free_step k w (λ n. (ts n).phase) c j (j == k) refl

all_counted : (k : ℕ) (ts : ℕ → Track) (w : World) (es : List Event) → IsCounted (λ n. (ts n).phase) (place_at w.hall k) → IsCounted (λ n. (track_from k (ts n) w es).phase) (place_at (after_all w es).hall k)
all_counted k ts w [] c = c
all_counted k ts w (e ∷ es) c = all_counted k (λ n. track_after k (ts n) w e) (happens e w).now es (counted_on k ts w e c)

nobody_at : (limits : List Limits) (n : ℕ) → IsHeld (at (nobodys limits) n) → ⊥
nobody_at [] n h = h
nobody_at (l ∷ limits) zero h = h
nobody_at (l ∷ limits) (suc n) h = nobody_at limits n h

nobody : (limits : List Limits) (k : ℕ) → IsHeld (place_at (nobodys limits) k) → ⊥
nobody limits zero h = h
nobody limits (suc k) h = nobody_at limits k h

none_begun : (k : ℕ) (limits : List Limits) → IsCounted (λ n. (outset n).phase) (place_at (beginning limits).hall k)
none_begun k limits = (0, record { later = λ n. let e : 0 + n ≡ n = omega arith in ap Waiting e; last = λ h. absurd (nobody limits k h) })

pub every_seat_law : EverySeatLaw
every_seat_law limits events k place s e f =
    let c = all_counted k outset (beginning limits) events (none_begun k limits) in
    let last = c.1.last (subst IsHeld (sym e) (subst IsSeated (sym f) tt)) in
    (last.0, ap (λ p. held_in p (place_at (now_is limits events).hall k)) last.1 ∙ ap held_of e ∙ ap (with_limits place.limits) f)

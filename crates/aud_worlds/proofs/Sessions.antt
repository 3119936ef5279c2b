-- What an event does to a session's part is what the session's own event does there.
use Rattle.std.specs.Prelude.{◌==◌, if◌then◌else◌}
use Rattle.std.proofs.Common.{◌≡◌, ℕ, zero, suc, List, [], ◌∷◌, ◌++◌, length, Option, Some, None, Bool, true, false, refl, sym, ap, ◌∙◌, subst, arith, append-nil, length-append}
use Rattle.aud_bench.specs.Seen.{Seen as Bench}
use Rattle.aud_hall.specs.Numbered.{put}
use Rattle.aud_hall.specs.Slices.{sliced}
use Rattle.aud_hall.specs.Replies.{Reply, Accepted, Sent, Taken, Nothing, Then}
use Rattle.aud_hall.specs.Seats.{Seat, claimed, submitted, sent, collected}
use Rattle.aud_hall.specs.CheckIns.{judged, checked}
use Rattle.aud_hall.specs.Halls.{Place, HallSending, place_at, put_place, with_seat, with_place, at_place, at_seat, claiming, freeing, sends_out, sending_place, sending_seat, checks_in, checking_place, checking_seat}
use Rattle.aud_hall.specs.Parcels.{Parcel, bench_of}
use Rattle.aud_worlds.specs.World.{World, Event, Claim, Submit, SendOut, Slice, CheckIn, Collect, Free, happens, after_all, parcel_at, parcels, in_hall, sending_away, slicing, worked, coming_in, checking, out_after}
use Rattle.aud_worlds.specs.Session.{Part, Own, Submitted, SentOut, Returned, Collected, Freed, Course, acts, at_held, own_slicing, own_sending, own_checking, own_parcels, without, session_from}
use Rattle.aud_worlds.specs.Mine.{Track, Phase, Waiting, Lasting, Over, held_of, held_in, marked, part_of, own_number, own_of, lasting, slice_of, stray_of, return_of, is_here, is_lasting, marks_of, phase_begun, phase_ended, track_after, track_from, mine_from, replies_from, with_limits, begins, begins_place, begins_seat, with_own, with_reply}
use Rattle.aud_bench.proofs.Truths.{eq_true}
use Rattle.aud_worlds.proofs.Numbered.{place_put, place_put_other, length_put}
use Rattle.aud_worlds.proofs.Marks.{put_own, marked_put, marked_at, marked_sent, marked_out_after}

abbrev pub track : Phase → List Bool → Track
track phase marks = record { phase = phase; marks = marks }

-- what an event does to a part: nothing, or what the session's own event does
abbrev pub Agrees : Option Own → Part → Part → Reply → Type 0
Agrees None p after reply = after ≡ p
Agrees (Some o) p after reply = acts o p ≡ record { now = after; reply = reply }

abbrev pub IsSeated : Option Seat → Type 0
IsSeated None = ⊥
IsSeated (Some s) = Unit {0}

abbrev pub IsHeld : Option Place → Type 0
IsHeld None = ⊥
IsHeld (Some place) = IsSeated place.seat

-- while a session lasts, its seat is claimed
abbrev pub IsThere : Phase → Option Place → Type 0
IsThere (Waiting n) o = Unit {0}
IsThere Lasting o = IsHeld o
IsThere Over o = Unit {0}

pub record IsTracked (k : ℕ) (t : Track) (w : World) : Type 0 where
  pub long : length t.marks ≡ length w.out
  pub there : IsThere t.phase (place_at w.hall k)

pub record Follows (k : ℕ) (t : Track) (w : World) (o : Option Own) (after : Track) (x : Then World) : Type 0 where
  pub agrees : Agrees o (part_of k t w) (part_of k after x.now) x.reply
  pub tracked : IsTracked k after x.now

pub eq_false : (a b : ℕ) → (a == b) ≡ false → a ≡ b → ⊥
eq_false a b h e = grind (arith, h, e)

module _ (k : ℕ) (ms : List Bool) (w : World) (long : length ms ≡ length w.out) where
  -- nothing that is the session's changes
  still : (phase : Phase) → IsThere phase (place_at w.hall k) → (x : Then World) → place_at x.now.hall k ≡ place_at w.hall k → x.now.out ≡ w.out → Follows k (track phase ms) w None (track phase ms) x
  still phase there x hall out = record {
    agrees = ap (λ o. record { held = held_in phase o; parcels = marked ms x.now.out }) hall ∙ ap (λ os. record { held = held_in phase (place_at w.hall k); parcels = marked ms os }) out;
    tracked = record { long = long ∙ ap length (sym out); there = subst (IsThere phase) (sym hall) there };
  }

  -- ## Calls at a place

  place_other : (j : ℕ) (call : Place → Option Seat → Then Place) (o : Option Place) → (j ≡ k → ⊥) → place_at (in_hall w (at_place j call w.hall o)).now.hall k ≡ place_at w.hall k
  place_other j call None h = refl
  place_other j call (Some place) h = place_put_other w.hall j k _ h

  -- elsewhere
  elsewhere : (phase : Phase) → IsThere phase (place_at w.hall k) → (j : ℕ) (call : Place → Option Seat → Then Place) → (j ≡ k → ⊥) → Follows k (track phase ms) w None (track phase ms) (in_hall w (at_place j call w.hall (place_at w.hall j)))
  elsewhere phase there j call h = still phase there (in_hall w (at_place j call w.hall (place_at w.hall j))) (place_other j call (place_at w.hall j) h) refl

  -- where the session is not under way, whatever happens at places
  idle : (before after : Phase) → ((o : Option Place) → held_in before o ≡ None) → ((o : Option Place) → held_in after o ≡ None) → ((o : Option Place) → IsThere after o) → (x : Then World) → x.now.out ≡ w.out → Follows k (track before ms) w None (track after ms) x
  idle before after none none_after free x out = record {
    agrees = ap (λ h. record { held = h; parcels = marked ms x.now.out }) (none_after (place_at x.now.hall k)) ∙ ap (λ os. record { held = None; parcels = marked ms os }) out ∙ ap (λ h. record { held = h; parcels = marked ms w.out }) (sym (none (place_at w.hall k)));
    tracked = record { long = long ∙ ap length (sym out); there = free (place_at x.now.hall k) };
  }

  module _ (call : Seat → Then Seat) (own : Own) (is : (p : Part) → acts own p ≡ at_held call p p.held) where
    seat_lasting : (o : Option Place) → place_at w.hall k ≡ o → IsHeld o → Follows k (track Lasting ms) w (Some own) (track Lasting ms) (in_hall w (at_place k (at_seat call) w.hall o))
    seat_lasting None e h = absurd h
    seat_lasting (Some place) e h = record {
      agrees = is (part_of k (track Lasting ms) w) ∙ ap (λ o. at_held call (part_of k (track Lasting ms) w) (held_of o)) e ∙ by place.seat h;
      tracked = record { long = long; there = subst IsHeld (sym (place_put w.hall k place _ e)) (there place.seat h) };
    }
      where
        by : (o : Option Seat) → IsSeated o → at_held call (part_of k (track Lasting ms) w) (with_limits place.limits o) ≡ record { now = part_of k (track Lasting ms) (in_hall w (with_place k w.hall (at_seat call place o))).now; reply = (at_seat call place o).reply }
        by None h = absurd h
        by (Some s) h = ap (λ o. record { now = record { held = held_of o; parcels = marked ms w.out }; reply = (call s).reply }) (sym (place_put w.hall k place (record { limits = place.limits; seat = Some (call s).now }) e))

        there : (o : Option Seat) → IsSeated o → IsHeld (Some (at_seat call place o).now)
        there None h = absurd h
        there (Some s) h = tt

    seat_here : (phase : Phase) → IsThere phase (place_at w.hall k) → Follows k (track phase ms) w (lasting phase own) (track phase ms) (in_hall w (at_place k (at_seat call) w.hall (place_at w.hall k)))
    seat_here (Waiting n) there = idle (Waiting n) (Waiting n) (λ o. refl) (λ o. refl) (λ o. tt) _ refl
    seat_here Lasting there = seat_lasting (place_at w.hall k) refl there
    seat_here Over there = idle Over Over (λ o. refl) (λ o. refl) (λ o. tt) _ refl

    seat_step : (phase : Phase) → IsThere phase (place_at w.hall k) → (j : ℕ) (b : Bool) → (j == k) ≡ b → Follows k (track phase ms) w (if b then lasting phase own else None) (track phase ms) (in_hall w (at_place j (at_seat call) w.hall (place_at w.hall j)))
    seat_step phase there j false e = elsewhere phase there j (at_seat call) (eq_false j k e)
    seat_step phase there j true e = subst (λ i. Follows k (track phase ms) w (lasting phase own) (track phase ms) (in_hall w (at_place i (at_seat call) w.hall (place_at w.hall i)))) (sym (eq_true j k e)) (seat_here phase there)

  -- ## Claim

  not_begun : (n : ℕ) (reply : Reply) (o : Option Place) → held_in (phase_begun (Waiting (suc n)) reply) o ≡ None
  not_begun n Accepted o = refl
  not_begun n _ o = refl

  not_there : (n : ℕ) (reply : Reply) (o : Option Place) → IsThere (phase_begun (Waiting (suc n)) reply) o
  not_there n Accepted o = tt
  not_there n _ o = tt

  begun : (refused : Bool) (o : Option Place) → place_at w.hall k ≡ o
      → Follows k (track (Waiting zero) ms) w (begins_place o refused) (track (phase_begun (Waiting zero) (in_hall w (at_place k (claiming refused) w.hall o)).reply) ms) (in_hall w (at_place k (claiming refused) w.hall o))
  begun refused None e = idle (Waiting zero) (Waiting zero) (λ o. refl) (λ o. refl) (λ o. tt) _ refl
  begun refused (Some place) e = by place.seat refused
    where
      by : (o : Option Seat) (refused : Bool) → Follows k (track (Waiting zero) ms) w (begins_seat place.limits o refused) (track (phase_begun (Waiting zero) (claiming refused place o).reply) ms) (in_hall w (with_place k w.hall (claiming refused place o)))
      by (Some s) refused = idle (Waiting zero) (Waiting zero) (λ o. refl) (λ o. refl) (λ o. tt) _ refl
      by None true = idle (Waiting zero) (Waiting zero) (λ o. refl) (λ o. refl) (λ o. tt) _ refl
      by None false = record {
        agrees = ap (λ o. record { now = record { held = held_of o; parcels = marked ms w.out }; reply = Accepted }) (sym (place_put w.hall k place (record { limits = place.limits; seat = Some (claimed place.limits) }) e));
        tracked = record { long = long; there = subst IsHeld (sym (place_put w.hall k place (record { limits = place.limits; seat = Some (claimed place.limits) }) e)) tt };
      }

  -- a claim of a seat that is claimed
  claim_lasting : (refused : Bool) (o : Option Place) → place_at w.hall k ≡ o → IsHeld o → Follows k (track Lasting ms) w None (track Lasting ms) (in_hall w (at_place k (claiming refused) w.hall o))
  claim_lasting refused None e h = absurd h
  claim_lasting refused (Some place) e h = by place.seat refl h
    where
      by : (o : Option Seat) → place.seat ≡ o → IsSeated o → Follows k (track Lasting ms) w None (track Lasting ms) (in_hall w (with_place k w.hall (claiming refused place o)))
      by None f h = absurd h
      by (Some s) f h = still Lasting (subst IsHeld (sym e) (subst IsSeated (sym f) h)) _ (place_put w.hall k place place e ∙ sym e) refl

  claim_here : (phase : Phase) → IsThere phase (place_at w.hall k) → (refused : Bool)
      → Follows k (track phase ms) w (begins phase (place_at w.hall k) refused) (track (phase_begun phase (in_hall w (at_place k (claiming refused) w.hall (place_at w.hall k))).reply) ms) (in_hall w (at_place k (claiming refused) w.hall (place_at w.hall k)))
  claim_here (Waiting zero) there refused = begun refused (place_at w.hall k) refl
  claim_here (Waiting (suc n)) there refused =
      let reply = (in_hall w (at_place k (claiming refused) w.hall (place_at w.hall k))).reply in
      idle (Waiting (suc n)) (phase_begun (Waiting (suc n)) reply) (λ o. refl) (not_begun n reply) (not_there n reply) _ refl
  claim_here Lasting there refused = claim_lasting refused (place_at w.hall k) refl there
  claim_here Over there refused = idle Over Over (λ o. refl) (λ o. refl) (λ o. tt) _ refl

  claim_step : (phase : Phase) → IsThere phase (place_at w.hall k) → (refused : Bool) (j : ℕ) (b : Bool) → (j == k) ≡ b
      → Follows k (track phase ms) w (if b then begins phase (place_at w.hall k) refused else None) (track (if b then phase_begun phase (in_hall w (at_place j (claiming refused) w.hall (place_at w.hall j))).reply else phase) ms) (in_hall w (at_place j (claiming refused) w.hall (place_at w.hall j)))
  claim_step phase there refused j false e = elsewhere phase there j (claiming refused) (eq_false j k e)
  claim_step phase there refused j true e =
      subst (λ i. Follows k (track phase ms) w (begins phase (place_at w.hall k) refused) (track (phase_begun phase (in_hall w (at_place i (claiming refused) w.hall (place_at w.hall i))).reply) ms) (in_hall w (at_place i (claiming refused) w.hall (place_at w.hall i)))) (sym (eq_true j k e)) (claim_here phase there refused)

  -- ## Free

  free_lasting : (o : Option Place) → place_at w.hall k ≡ o → IsHeld o → Follows k (track Lasting ms) w (Some Freed) (track Over ms) (in_hall w (at_place k freeing w.hall o))
  free_lasting None e h = absurd h
  free_lasting (Some place) e h = by place.seat h
    where
      by : (o : Option Seat) → IsSeated o → Follows k (track Lasting ms) w (Some Freed) (track Over ms) (in_hall w (with_place k w.hall (freeing place o)))
      by None h = absurd h
      by (Some s) h = record { agrees = refl; tracked = record { long = long; there = tt } }

  free_here : (phase : Phase) → IsThere phase (place_at w.hall k) → Follows k (track phase ms) w (lasting phase Freed) (track (phase_ended phase) ms) (in_hall w (at_place k freeing w.hall (place_at w.hall k)))
  free_here (Waiting n) there = idle (Waiting n) (Waiting n) (λ o. refl) (λ o. refl) (λ o. tt) _ refl
  free_here Lasting there = free_lasting (place_at w.hall k) refl there
  free_here Over there = idle Over Over (λ o. refl) (λ o. refl) (λ o. tt) _ refl

  free_step : (phase : Phase) → IsThere phase (place_at w.hall k) → (j : ℕ) (b : Bool) → (j == k) ≡ b
      → Follows k (track phase ms) w (if b then lasting phase Freed else None) (track (if b then phase_ended phase else phase) ms) (in_hall w (at_place j freeing w.hall (place_at w.hall j)))
  free_step phase there j false e = elsewhere phase there j freeing (eq_false j k e)
  free_step phase there j true e =
      subst (λ i. Follows k (track phase ms) w (lasting phase Freed) (track (phase_ended phase) ms) (in_hall w (at_place i freeing w.hall (place_at w.hall i)))) (sym (eq_true j k e)) (free_here phase there)

  -- ## SendOut

  long_sent : (m : Bool) (j : ℕ) (gone : Option Bench) → length (ms ++ marks_of m (Sent gone)) ≡ length (w.out ++ parcels j gone)
  long_sent m j None = omega (arith, long, length-append ms [], length-append w.out (parcels j None))
  long_sent m j (Some b) = omega (arith, long, length-append ms (m ∷ []), length-append w.out (parcels j (Some b)))

  -- a parcel that is not sent out for the session
  not_ours : (j : ℕ) (gone : Option Bench) → marked (ms ++ marks_of false (Sent gone)) (w.out ++ parcels j gone) ≡ marked ms w.out
  not_ours j gone = marked_sent ms w.out false j gone long ∙ append-nil (marked ms w.out)

  -- another seat sends out, or this one while the session is not under way
  send_other : (phase : Phase) (j : ℕ) (x : HallSending) → held_in phase (place_at x.hall k) ≡ held_in phase (place_at w.hall k) → IsThere phase (place_at x.hall k)
      → Follows k (track phase ms) w None (track phase (ms ++ marks_of false (Sent x.gone))) (sending_away j w x)
  send_other phase j x held there = record {
    agrees = ap (λ h. record { held = h; parcels = marked (ms ++ marks_of false (Sent x.gone)) (w.out ++ parcels j x.gone) }) held ∙ ap (λ ps. record { held = held_in phase (place_at w.hall k); parcels = ps }) (not_ours j x.gone);
    tracked = record { long = long_sent false j x.gone; there = there };
  }

  sending_other : (j : ℕ) (refused : Option ℕ) (o : Option Place) → (j ≡ k → ⊥) → place_at (sending_place j refused w.hall o).hall k ≡ place_at w.hall k
  sending_other j refused None h = refl
  sending_other j refused (Some place) h = by place.seat
    where
      by : (o : Option Seat) → place_at (sending_seat j refused w.hall place o).hall k ≡ place_at w.hall k
      by None = refl
      by (Some s) = place_put_other w.hall j k _ h

  send_lasting : (refused : Option ℕ) (o : Option Place) → place_at w.hall k ≡ o → IsHeld o
      → Follows k (track Lasting ms) w (Some (SentOut refused)) (track Lasting (ms ++ marks_of true (Sent (sending_place k refused w.hall o).gone))) (sending_away k w (sending_place k refused w.hall o))
  send_lasting refused None e h = absurd h
  send_lasting refused (Some place) e h = by place.seat refl h
    where
      by : (o : Option Seat) → place.seat ≡ o → IsSeated o → Follows k (track Lasting ms) w (Some (SentOut refused)) (track Lasting (ms ++ marks_of true (Sent (sending_seat k refused w.hall place o).gone))) (sending_away k w (sending_seat k refused w.hall place o))
      by None f h = absurd h
      by (Some s) f h =
          let x : Place = record { limits = place.limits; seat = Some (sent refused s).seat } in
          let gone = (sent refused s).gone in
          record {
            agrees =
                ap (λ o. own_sending refused (part_of k (track Lasting ms) w) (held_of o)) e
                ∙ ap (λ o. own_sending refused (part_of k (track Lasting ms) w) (with_limits place.limits o)) f
                ∙ ap (λ o. record { now = record { held = held_of o; parcels = marked ms w.out ++ own_parcels gone }; reply = Sent gone }) (sym (place_put w.hall k place x e))
                ∙ ap (λ ps. record { now = record { held = held_of (place_at (put_place w.hall k x) k); parcels = ps }; reply = Sent gone }) (sym (marked_sent ms w.out true k gone long));
            tracked = record { long = long_sent true k gone; there = subst IsHeld (sym (place_put w.hall k place x e)) tt };
          }

  send_here : (phase : Phase) → IsThere phase (place_at w.hall k) → (refused : Option ℕ)
      → Follows k (track phase ms) w (lasting phase (SentOut refused)) (track phase (ms ++ marks_of (is_lasting phase) (Sent (sends_out k refused w.hall).gone))) (sending_away k w (sends_out k refused w.hall))
  send_here (Waiting n) there refused = send_other (Waiting n) k (sends_out k refused w.hall) refl tt
  send_here Lasting there refused = send_lasting refused (place_at w.hall k) refl there
  send_here Over there refused = send_other Over k (sends_out k refused w.hall) refl tt

  send_step : (phase : Phase) → IsThere phase (place_at w.hall k) → (refused : Option ℕ) (j : ℕ) (b : Bool) → (j == k) ≡ b
      → Follows k (track phase ms) w (if b then lasting phase (SentOut refused) else None) (track phase (ms ++ marks_of (if b then is_lasting phase else false) (Sent (sends_out j refused w.hall).gone))) (sending_away j w (sends_out j refused w.hall))
  send_step phase there refused j false e =
      let other = sending_other j refused (place_at w.hall j) (eq_false j k e) in
      send_other phase j (sends_out j refused w.hall) (ap (held_in phase) other) (subst (IsThere phase) (sym other) there)
  send_step phase there refused j true e =
      subst (λ i. Follows k (track phase ms) w (lasting phase (SentOut refused)) (track phase (ms ++ marks_of (is_lasting phase) (Sent (sends_out i refused w.hall).gone))) (sending_away i w (sends_out i refused w.hall))) (sym (eq_true j k e)) (send_here phase there refused)

  -- ## Slice

  -- a parcel is put in the place of another: the session's own is too
  put_parcel : (phase : Phase) → IsThere phase (place_at w.hall k) → (n : ℕ) (y : Option Parcel) (reply : Reply) → IsTracked k (track phase ms) (record { hall = w.hall; out = put w.out n y })
  put_parcel phase there n y reply = record { long = long ∙ sym (length_put w.out n y); there = there }

  slice_step : (phase : Phase) → IsThere phase (place_at w.hall k) → (n units : ℕ) (refused : Option ℕ) (i : Option ℕ) → own_number ms n ≡ i
      → Follows k (track phase ms) w (slice_of units refused i) (track phase ms) (slicing n units refused w (parcel_at w.out n))
  slice_step phase there n units refused i e = by i e (parcel_at w.out n) refl
    where
      here : World
      here = w

      by : (i : Option ℕ) → own_number ms n ≡ i → (o : Option Parcel) → parcel_at w.out n ≡ o → Follows k (track phase ms) w (slice_of units refused i) (track phase ms) (slicing n units refused w o)
      by None e None f = still phase there _ refl refl
      by None e (Some p) f = record {
        agrees =
            ap (λ ps. record { held = held_in phase (place_at w.hall k); parcels = ps })
            (marked_put ms w.out n (Some (record { seat = p.seat; bench = sliced units refused p.bench })) ∙ ap (λ o. put_own (marked ms w.out) o (Some (sliced units refused p.bench))) e);
        tracked = put_parcel phase there n (Some (record { seat = p.seat; bench = sliced units refused p.bench })) Nothing;
      }
      by (Some i) e None f = record {
        agrees = ap (own_slicing i units refused (part_of k (track phase ms) w)) (marked_at ms w.out n i e ∙ ap bench_of f);
        tracked = record { long = long; there = there };
      }
      by (Some i) e (Some p) f = record {
        agrees =
            ap (own_slicing i units refused (part_of k (track phase ms) w)) (marked_at ms w.out n i e ∙ ap bench_of f)
            ∙ ap (λ ps. record { now = record { held = held_in phase (place_at w.hall k); parcels = ps }; reply = worked units refused p.bench })
            (sym (marked_put ms w.out n (Some (record { seat = p.seat; bench = sliced units refused p.bench })) ∙ ap (λ o. put_own (marked ms w.out) o (Some (sliced units refused p.bench))) e));
        tracked = put_parcel phase there n (Some (record { seat = p.seat; bench = sliced units refused p.bench })) Nothing;
      }

  -- ## CheckIn

  long_out : (n : ℕ) (reply : Reply) → length ms ≡ length (out_after w.out n reply)
  long_out n (Taken next) = long ∙ sym (length_put w.out n None)
  long_out n _ = long

  -- not at the session's seat: its own parcel may go there
  strays_step : (phase : Phase) (n : ℕ) (number : Option ℕ) → own_number ms n ≡ number → (t : Then (List Place)) → held_in phase (place_at t.now k) ≡ held_in phase (place_at w.hall k) → IsThere phase (place_at t.now k)
      → Follows k (track phase ms) w (stray_of t.reply number) (track phase ms) (coming_in n w t)
  strays_step phase n None e t held there = record {
    agrees = ap (λ h. record { held = h; parcels = marked ms (out_after w.out n t.reply) }) held
        ∙ ap (λ ps. record { held = held_in phase (place_at w.hall k); parcels = ps }) (marked_out_after ms w.out n t.reply ∙ ap (λ i. without (marked ms w.out) i t.reply) e);
    tracked = record { long = long_out n t.reply; there = there };
  }
  strays_step phase n (Some i) e t held there = record {
    agrees = ap (λ ps. record { now = record { held = held_in phase (place_at w.hall k); parcels = ps }; reply = t.reply }) (sym (marked_out_after ms w.out n t.reply ∙ ap (λ i. without (marked ms w.out) i t.reply) e))
        ∙ ap (λ h. record { now = record { held = h; parcels = marked ms (out_after w.out n t.reply) }; reply = t.reply }) (sym held);
    tracked = record { long = long_out n t.reply; there = there };
  }

  checking_other : (j : ℕ) (b : Bench) (o : Option Place) → (j ≡ k → ⊥) → place_at (checking_place j w.hall b o).now k ≡ place_at w.hall k
  checking_other j b None h = refl
  checking_other j b (Some place) h = by place.seat
    where
      by : (o : Option Seat) → place_at (checking_seat j w.hall b place o).now k ≡ place_at w.hall k
      by None = refl
      by (Some s) = place_put_other w.hall j k _ h

  check_lasting : (n : ℕ) (p : Parcel) (o : Option Place) → place_at w.hall k ≡ o → IsHeld o
      → Follows k (track Lasting ms) w (Some (Returned p.bench (own_number ms n))) (track Lasting ms) (coming_in n w (checking_place k w.hall p.bench o))
  check_lasting n p None e h = absurd h
  check_lasting n p (Some place) e h = by place.seat refl h
    where
      by : (o : Option Seat) → place.seat ≡ o → IsSeated o → Follows k (track Lasting ms) w (Some (Returned p.bench (own_number ms n))) (track Lasting ms) (coming_in n w (checking_seat k w.hall p.bench place o))
      by None f h = absurd h
      by (Some s) f h =
          let t = checked (judged place.limits p.bench s) p.bench s in
          let x : Place = (with_seat place t).now in
          record {
            agrees =
                ap (λ o. own_checking p.bench (own_number ms n) (part_of k (track Lasting ms) w) (held_of o)) e
                ∙ ap (λ o. own_checking p.bench (own_number ms n) (part_of k (track Lasting ms) w) (with_limits place.limits o)) f
                ∙ ap (λ o. record { now = record { held = held_of o; parcels = without (marked ms w.out) (own_number ms n) t.reply }; reply = t.reply }) (sym (place_put w.hall k place x e))
                ∙ ap (λ ps. record { now = record { held = held_of (place_at (put_place w.hall k x) k); parcels = ps }; reply = t.reply }) (sym (marked_out_after ms w.out n t.reply));
            tracked = record { long = long_out n t.reply; there = subst IsHeld (sym (place_put w.hall k place x e)) tt };
          }

  check_here : (phase : Phase) → IsThere phase (place_at w.hall k) → (n : ℕ) (p : Parcel)
      → Follows k (track phase ms) w (return_of (is_lasting phase) (checks_in k p.bench w.hall).reply (own_number ms n) (Some p)) (track phase ms) (coming_in n w (checks_in k p.bench w.hall))
  check_here (Waiting m) there n p = strays_step (Waiting m) n (own_number ms n) refl (checks_in k p.bench w.hall) refl tt
  check_here Lasting there n p = check_lasting n p (place_at w.hall k) refl there
  check_here Over there n p = strays_step Over n (own_number ms n) refl (checks_in k p.bench w.hall) refl tt

  check_parcel : (phase : Phase) → IsThere phase (place_at w.hall k) → (n j : ℕ) (p : Parcel) (b : Bool) → (j == k) ≡ b
      → Follows k (track phase ms) w (return_of (if b then is_lasting phase else false) (checks_in j p.bench w.hall).reply (own_number ms n) (Some p)) (track phase ms) (coming_in n w (checks_in j p.bench w.hall))
  check_parcel phase there n j p false e =
      let other = checking_other j p.bench (place_at w.hall j) (eq_false j k e) in
      strays_step phase n (own_number ms n) refl (checks_in j p.bench w.hall) (ap (held_in phase) other) (subst (IsThere phase) (sym other) there)
  check_parcel phase there n j p true e =
      subst (λ i. Follows k (track phase ms) w (return_of (is_lasting phase) (checks_in i p.bench w.hall).reply (own_number ms n) (Some p)) (track phase ms) (coming_in n w (checks_in i p.bench w.hall))) (sym (eq_true j k e)) (check_here phase there n p)

  no_parcel : (here : Bool) (reply : Reply) (number : Option ℕ) → return_of here reply number None ≡ None
  no_parcel true reply number = refl
  no_parcel false reply number = refl

  check_step : (phase : Phase) → IsThere phase (place_at w.hall k) → (n j : ℕ) (o : Option Parcel)
      → Follows k (track phase ms) w (return_of (is_here k j phase) (checking n j w o).reply (own_number ms n) o) (track phase ms) (checking n j w o)
  check_step phase there n j None = subst (λ own. Follows k (track phase ms) w own (track phase ms) (checking n j w None)) (sym (no_parcel (is_here k j phase) Nothing (own_number ms n))) (still phase there _ refl refl)
  check_step phase there n j (Some p) = check_parcel phase there n j p (j == k) refl

-- every event
pub follows : (k : ℕ) (t : Track) (w : World) (e : Event) → IsTracked k t w → Follows k t w (own_of k t w e) (track_after k t w e) (happens e w)
follows k t w (Claim j refused) h = claim_step k t.marks w h.long t.phase h.there refused j (j == k) refl
follows k t w (Submit j r refused) h = seat_step k t.marks w h.long (submitted r refused) (Submitted r refused) (λ p. refl) t.phase h.there j (j == k) refl
follows k t w (SendOut j refused) h = send_step k t.marks w h.long t.phase h.there refused j (j == k) refl
follows k t w (Slice n units refused) h = slice_step k t.marks w h.long t.phase h.there n units refused (own_number t.marks n) refl
follows k t w (CheckIn n j) h = check_step k t.marks w h.long t.phase h.there n j (parcel_at w.out n)
follows k t w (Collect j from refused) h = seat_step k t.marks w h.long (λ s. record { now = s; reply = collected from refused s }) (Collected from refused) (λ p. refl) t.phase h.there j (j == k) refl
follows k t w (Free j) h = free_step k t.marks w h.long t.phase h.there j (j == k) refl

-- what a session's part comes to
abbrev pub course_of : ℕ → Track → World → List Event → Course
course_of k t w es = record { part = part_of k (track_from k t w es) (after_all w es); replies = replies_from k t w es }

one_event : (o : Option Own) (p after : Part) (reply : Reply) (os : List Own) (rest : Course) (replies : List Reply) → Agrees o p after reply → session_from after os ≡ record { part = rest.part; replies = replies }
    → session_from p (with_own o os) ≡ record { part = rest.part; replies = with_reply o reply replies }
one_event None p after reply os rest replies agrees h = ap (λ q. session_from q os) (sym agrees) ∙ h
one_event (Some o) p after reply os rest replies agrees h =
    ap (λ (x : Then Part). record { part = (session_from x.now os).part; replies = x.reply ∷ (session_from x.now os).replies }) agrees
    ∙ ap (λ (c : Course). record { part = c.part; replies = reply ∷ c.replies }) h

pub course : (k : ℕ) (t : Track) (w : World) (es : List Event) → IsTracked k t w → session_from (part_of k t w) (mine_from k t w es) ≡ course_of k t w es
course k t w [] h = refl
course k t w (e ∷ es) h =
    let step = follows k t w e h in
    one_event (own_of k t w e) (part_of k t w) (part_of k (track_after k t w e) (happens e w).now) (happens e w).reply (mine_from k (track_after k t w e) (happens e w).now es)
    (course_of k (track_after k t w e) (happens e w).now es) (replies_from k (track_after k t w e) (happens e w).now es) step.agrees (course k (track_after k t w e) (happens e w).now es step.tracked)

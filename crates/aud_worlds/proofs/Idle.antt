-- When no work is in hand, as the counts of answers tell it, and the reply to a parcel that is taken in.
use Rattle.std.specs.Prelude.{nat_lt, nat_le, ◌||◌, if◌then◌else◌}
use Rattle.std.proofs.Common.{◌≡◌, ℕ, ◌<◌, ◌≤◌, List, length, Option, Some, None, Bool, true, false, refl, sym, ap, ◌∙◌, subst, arith}
use Rattle.aud_text.specs.declared.limits.Limits.{Limits}
use Rattle.aud_bench.specs.Alone.{cost, made}
use Rattle.aud_bench.specs.Seen.{Seen as Bench, answers_of}
use Rattle.aud_hall.specs.declared.why.Why.{Why}
use Rattle.aud_hall.specs.declared.next.Next.TheVariants.{More, Idle}
use Rattle.aud_hall.specs.Slices.{answered}
use Rattle.aud_hall.specs.Replies.{Reply, Taken, Then}
use Rattle.aud_hall.specs.Seats.{Seat, has_closed, taken_in}
use Rattle.aud_hall.specs.CheckIns.{next, judged, checked}
use Rattle.aud_hall.specs.Halls.{Place, place_at, put_place, with_seat, with_place, checking_place, checking_seat}
use Rattle.aud_hall.specs.Parcels.{Parcel}
use Rattle.aud_hall.specs.Ties.Right.{IsHome, IsMade, IsRight}
use Rattle.aud_worlds.specs.World.{World, CheckIn, parcel_at, coming_in, checking}
use Rattle.aud_worlds.specs.Headline.{IsIdle, now_is}
use Rattle.aud_worlds.specs.Ties.Worlds.{IsRightPlace, IsRightWorld}
use Rattle.aud_worlds.specs.Why.Laws.{CountsTell, IdleLaw, TellsIdleLaw}
use Rattle.aud_bench.proofs.Made.{made_short, made_all, cost_more}
use Rattle.aud_bench.proofs.Truths.{true_le, false_le}
use Rattle.aud_hall.proofs.Truths.{true_lt, false_lt}
use Rattle.aud_hall.proofs.Lists.{begins_front}
use Rattle.aud_hall.proofs.Seats.{made_of_front, open_outbox}
use Rattle.aud_hall.proofs.Rooms.{room}
use Rattle.aud_worlds.proofs.Numbered.{each_place, place_put}
use Rattle.aud_worlds.proofs.Worlds.{happens_right}
use Rattle.aud_worlds.proofs.Isolation.{world_law, at_each_seat}

no_less : (a b : ℕ) → a ≤ b → (a < b → ⊥) → a ≡ b
no_less a b h never = by (nat_lt a b) refl
  where
    by : (c : Bool) → nat_lt a b ≡ c → a ≡ b
    by true e = absurd (never (true_lt a b e))
    by false e = omega (arith, h, false_lt a b e)

module _ (limits : Limits) (s : Seat) (right : IsRight limits s) (b : Bench) (m : IsHome limits s b) where
  -- what is made of the journal is made of the stored requests
  made_here : made limits b.journal b.units ≡ made limits s.requests b.units
  made_here = made_of_front limits b.journal s.requests b.units (begins_front b.journal s.requests m.front) m.within

  within_here : b.units ≤ cost limits s.requests
  within_here =
      let f = begins_front b.journal s.requests m.front in
      omega (arith, m.within, cost_more limits b.journal f.0, ap (cost limits) f.1)

  open_count : b.spent ≡ false → length s.outbox ≡ length (made limits b.journal b.units)
  open_count e = ap length (open_outbox limits s b m e)

  all_open : b.units ≡ cost limits s.requests → (c : Bool) → b.spent ≡ c → (b.spent ≡ false) × (length s.outbox ≡ length s.requests)
  all_open e true f = absurd (omega (arith, m.short f, ap length made_here, ap (λ n. length (made limits s.requests n)) e, made_all limits s.requests))
  all_open e false f = (f, open_count f ∙ ap length made_here ∙ ap (λ n. length (made limits s.requests n)) e ∙ made_all limits s.requests)

  all_done : b.spent ≡ false → length s.outbox ≡ length s.requests → b.units ≡ cost limits s.requests
  all_done e same =
      no_less b.units (cost limits s.requests) within_here
      (λ less. omega (arith, made_short limits s.requests b.units less, ap length made_here, open_count e, same))

counts_tell : (limits : Limits) (s : Seat) → IsRight limits s → CountsTell limits s
counts_tell limits s right = record {
  done = λ idle.
      let all = all_open limits s right idle.0 (subst (IsMade limits s) idle.1 right.bench) idle.2 idle.0.spent refl in
      record { home = (idle.0, idle.1); open_there = ap has_closed idle.1 ∙ all.0; answers = all.1 };
  idle = λ done.
      let b = done.home.0 in
      let e = done.home.1 in
      (b, e, all_done limits s right b (subst (IsMade limits s) e right.bench) (sym (ap has_closed e) ∙ done.open_there) done.answers);
}

pub idle_law : IdleLaw
idle_law limits events = at_each_seat CountsTell counts_tell (now_is limits events) (world_law limits events)

-- ## The reply

abbrev TellsIdle : Reply → Limits → Seat → Type 0
TellsIdle reply limits s = (reply ≡ Taken Idle → has_closed s.home ≡ false → IsIdle limits s.requests s) × (reply ≡ Taken More → length s.outbox < length s.requests)

module _ (limits : Limits) (b : Bench) (t : Seat) (right : IsRight limits (taken_in b t)) where
  abbrev home : Bench
  home = record b { taken = length (answers_of b) }

  made_is : length (made limits b.journal b.units) ≡ answered b
  made_is = let m : IsHome limits (taken_in b t) home = right.bench in ap (λ l. length (made l b.journal b.units)) (sym m.limits_are)

  next_tells : (c d : Bool) → b.spent ≡ c → nat_le (length t.requests) (answered b) ≡ d → TellsIdle (Taken (if c || d then Idle else More)) limits (taken_in b t)
  next_tells true d e f = (λ _ alive. absurd (let never : true ≡ false = sym e ∙ alive in cc), λ h. absurd (cc))
  next_tells false true e f = (
    λ _ alive.
        let m : IsHome limits (taken_in b t) home = right.bench in
        let count = open_count limits (taken_in b t) right home m e in
        (home, refl, all_done limits (taken_in b t) right home m e (omega (arith, true_le _ _ f, room limits (taken_in b t) right, count, made_is))),
    λ h. absurd (cc),
  )
  next_tells false false e f = (
    λ h. absurd (cc),
    λ _.
        let m : IsHome limits (taken_in b t) home = right.bench in
        let count = open_count limits (taken_in b t) right home m e in
        omega (arith, false_le _ _ f, count, made_is),
  )

module _ (n k : ℕ) (w : World) (place : Place) (s : Seat) (is : place.seat ≡ Some s) where
  judges : (b : Bench) (x : Place) (t : Seat) → place_at w.hall k ≡ Some x → (why : Option Why) → (after : Then (List Place)) → after ≡ with_place k w.hall (with_seat x (checked why b t)) → IsRightWorld (coming_in n w after).now → place_at after.now k ≡ Some place
      → TellsIdle after.reply place.limits s
  judges b x t g (Some why) after a right e = subst (λ (v : Then (List Place)). TellsIdle v.reply place.limits s) (sym a) (λ h. absurd (cc), λ h. absurd (cc))
  judges b x t g None after a right e =
      let y : Place = record x { seat = Some (taken_in b t) } in
      let here : place_at (put_place w.hall k y) k ≡ Some y = place_put w.hall k x y g in
      let there : place_at (put_place w.hall k y) k ≡ Some place = sym (ap (λ (v : Then (List Place)). place_at v.now k) a) ∙ e in
      let same : y ≡ place = let both : Some y ≡ Some place = sym here ∙ there in cc in
      let seat : taken_in b t ≡ s = let both : Some (taken_in b t) ≡ Some s = ap (λ (v : Place). v.seat) same ∙ is in cc in
      let halls : IsRightWorld (coming_in n w (with_place k w.hall (with_seat x (checked None b t)))).now = subst (λ (v : Then (List Place)). IsRightWorld (coming_in n w v).now) a right in
      let tells = next_tells x.limits b t (each_place IsRightPlace (put_place w.hall k y) k y halls.hall here) b.spent (nat_le (length t.requests) (answered b)) refl refl in
      subst (λ (v : Then (List Place)). TellsIdle v.reply place.limits s) (sym a)
      (subst (λ v. TellsIdle (Taken (next b t)) place.limits v) seat (subst (λ (v : Place). TellsIdle (Taken (next b t)) v.limits (taken_in b t)) same tells))

  seated : (b : Bench) (x : Place) (o : Option Seat) → place_at w.hall k ≡ Some x → IsRightWorld (coming_in n w (checking_seat k w.hall b x o)).now → place_at (checking_seat k w.hall b x o).now k ≡ Some place
      → TellsIdle (checking_seat k w.hall b x o).reply place.limits s
  seated b x None g right e = (λ h. absurd (cc), λ h. absurd (cc))
  seated b x (Some t) g right e = judges b x t g (judged x.limits b t) (checking_seat k w.hall b x (Some t)) refl right e

  placed : (b : Bench) (o : Option Place) → place_at w.hall k ≡ o → IsRightWorld (coming_in n w (checking_place k w.hall b o)).now → place_at (checking_place k w.hall b o).now k ≡ Some place
      → TellsIdle (checking_place k w.hall b o).reply place.limits s
  placed b None g right e = (λ h. absurd (cc), λ h. absurd (cc))
  placed b (Some x) g right e = seated b x x.seat g right e

  parcel : (o : Option Parcel) → IsRightWorld (checking n k w o).now → place_at (checking n k w o).now.hall k ≡ Some place → TellsIdle (checking n k w o).reply place.limits s
  parcel None right e = (λ h. absurd (cc), λ h. absurd (cc))
  parcel (Some p) right e = placed p.bench (place_at w.hall k) refl right e

pub tells_idle_law : TellsIdleLaw
tells_idle_law limits events n k place s e is =
    let w = now_is limits events in
    parcel n k w place s is (parcel_at w.out n) (happens_right (CheckIn n k) w (world_law limits events)) e

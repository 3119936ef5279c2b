-- What is true of a parcel stays so, and a seat that takes one in is right as before.
use Rattle.std.specs.Prelude.{nat_lt, ◌-◌, ◌||◌, if◌then◌else◌}
use Rattle.std.proofs.Common.{◌≡◌, ℕ, ◌+◌, ◌<◌, ◌≤◌, List, [], ◌∷◌, length, drop, Option, Some, None, Bool, true, false, refl, sym, ap, ◌∙◌, subst, arith, length-append}
use Rattle.aud_text.specs.declared.limits.Limits.{Limits}
use Rattle.aud_bench.specs.declared.request.Request.{Request}
use Rattle.aud_bench.specs.Alone.{alone, cost, made}
use Rattle.aud_bench.specs.Same.{same_request, same_limits}
use Rattle.aud_bench.specs.Ties.Kept.{is_kept}
use Rattle.aud_bench.specs.Seen.{Seen as Bench, made_by}
use Rattle.aud_hall.specs.declared.why.Why.{Why}
use Rattle.aud_hall.specs.declared.why.Why.TheVariants.{OtherLimits, Behind}
use Rattle.aud_hall.specs.Slices.{answered}
use Rattle.aud_hall.specs.Seats.{Seat, taken_in}
use Rattle.aud_hall.specs.Numbered.{one_on, IsPrefix}
use Rattle.aud_hall.specs.CheckIns.{first_difference, not_awaited, or_differs, judged, checked}
use Rattle.aud_hall.specs.Ties.Right.{IsTrue, IsAway, IsMade, IsRight}
use Rattle.aud_bench.proofs.Made.{made_grows, made_short}
use Rattle.aud_bench.proofs.Sameness.{same_is, same_limits_is}
use Rattle.aud_hall.proofs.Truths.{false_lt}
use Rattle.aud_hall.proofs.Slices.{same_bench}
use Rattle.aud_hall.proofs.Lists.{two_fronts, front_begins}
use Rattle.aud_hall.proofs.Seats.{front_of_alone, away_front, taken_home}

-- ## Slice

-- what the clauses of a slice say of a bench, whatever its units were
pub record IsWork (b after : Bench) (d : ℕ) : Type 0 where
  pub limits : after.limits ≡ b.limits
  pub journal : after.journal ≡ b.journal
  pub taken : after.taken ≡ b.taken
  pub units_are : after.units ≡ b.units + d
  pub spent : b.spent ≡ true → after ≡ b
  pub exact : after.spent ≡ false → d ≤ cost b.limits b.journal - b.units
  pub cut : b.spent ≡ false → after.spent ≡ true → d < cost b.limits b.journal - b.units

pub worked_true : (b after : Bench) (d : ℕ) → IsWork b after d → IsTrue b → IsTrue after
worked_true b after d w t = by b.spent after.spent refl refl
  where
    same : after ≡ record { limits = b.limits; journal = b.journal; units = b.units + d; taken = b.taken; spent = after.spent }
    same = same_bench after (record { limits = b.limits; journal = b.journal; units = b.units + d; taken = b.taken; spent = after.spent }) w.limits w.journal w.units_are w.taken refl

    grown : d ≤ cost b.limits b.journal - b.units → (after.spent ≡ true → d < cost b.limits b.journal - b.units) → IsTrue after
    grown fits less =
        let more = made_grows b.limits b.journal b.units (b.units + d) (omega arith) in
        let longer : length (made b.limits b.journal b.units) ≤ length (made b.limits b.journal (b.units + d)) = omega (arith, ap length more.1, length-append (made b.limits b.journal b.units) more.0) in
        subst IsTrue (sym same) (record {
          within = omega (arith, fits, t.within);
          taken = omega (arith, longer, t.taken);
          short = λ h. made_short b.limits b.journal (b.units + d) (omega (arith, less h, t.within));
        })

    by : (c c' : Bool) → b.spent ≡ c → after.spent ≡ c' → IsTrue after
    by true c' e f = subst IsTrue (sym (w.spent e)) t
    by false false e f = grown (w.exact f) (w.cut e)
    by false true e f = grown (omega (arith, w.cut e f)) (w.cut e)

-- ## CheckIn

-- a seat waits for this bench
pub record Awaits (limits : Limits) (b : Bench) (s : Seat) : Type 0 where
  pub limits_are : b.limits ≡ limits
  pub front : IsPrefix b.journal s.requests
  pub out : s.home ≡ None
  pub ahead : length s.outbox ≤ answered b
  pub joins : b.taken ≤ length s.outbox

pub first_none : (journal requests : List Request) → first_difference journal requests ≡ None → IsPrefix journal requests
first_none [] requests h = (requests, refl)
first_none (x ∷ journal) [] h = absurd (cc)
first_none (x ∷ journal) (r ∷ requests) h = by (same_request x r) (first_difference journal requests) refl refl h (first_none journal requests)
  where
    by : (c : Bool) (d : Option ℕ) → same_request x r ≡ c → first_difference journal requests ≡ d → (if c then one_on d else Some 0) ≡ None → (first_difference journal requests ≡ None → IsPrefix journal requests) → IsPrefix (x ∷ journal) (r ∷ requests)
    by true None e f h rest =
        let front = rest f in
        (front.0, ap (λ y. y ∷ requests) (sym (same_is x r e)) ∙ ap (λ ys. x ∷ ys) front.1)
    by true (Some n) e f h rest = absurd (cc)
    by false d e f h rest = absurd (cc)

pub judged_none : (limits : Limits) (b : Bench) (s : Seat) → judged limits b s ≡ None → Awaits limits b s
judged_none limits b s h = by (same_limits b.limits limits) (first_difference b.journal s.requests) s.home refl refl refl h
  where
    last : (c d : Bool) → nat_lt (answered b) (length s.outbox) ≡ c → nat_lt (length s.outbox) b.taken ≡ d → (if c || d then Some (Behind (length s.outbox)) else None) ≡ None → (length s.outbox ≤ answered b) × (b.taken ≤ length s.outbox)
    last true d e f h = absurd (cc)
    last false true e f h = absurd (cc)
    last false false e f h = (false_lt _ _ e, false_lt _ _ f)

    by : (c : Bool) (d : Option ℕ) (o : Option Bench) → same_limits b.limits limits ≡ c → first_difference b.journal s.requests ≡ d → s.home ≡ o
        → (if c then or_differs d (not_awaited b s.outbox o) else Some OtherLimits) ≡ None → Awaits limits b s
    by false d o e f g h = absurd (cc)
    by true (Some n) o e f g h = absurd (cc)
    by true None (Some home) e f g h = absurd (cc)
    by true None None e f g h =
        let both = last (nat_lt (answered b) (length s.outbox)) (nat_lt (length s.outbox) b.taken) refl refl h in
        record { limits_are = same_limits_is _ _ e; front = first_none b.journal s.requests f; out = g; ahead = both.0; joins = both.1 }

module _ (limits : Limits) (b : Bench) (s : Seat) (kept : is_kept s.requests ≡ true) (away : IsAway limits s) (t : IsTrue b) (w : Awaits limits b s) where
  made_here : made b.limits b.journal b.units ≡ made limits b.journal b.units
  made_here = ap (λ l. made l b.journal b.units) w.limits_are

  within_here : b.units ≤ cost limits b.journal
  within_here = subst (λ l. b.units ≤ cost l b.journal) w.limits_are t.within

  -- outbox and what it made are two prefixes of one list
  longer : IsPrefix s.outbox (made_by b)
  longer = (
    drop (length s.outbox) (made_by b),
    two_fronts s.outbox (made_by b) (alone limits s.requests)
        (away_front limits s kept away)
        (subst (λ xs. IsPrefix xs (alone limits s.requests)) (sym made_here) (front_of_alone limits b.journal s.requests b.units w.front within_here kept))
        w.ahead,
  )

  taken_right : IsRight limits (taken_in b s)
  taken_right = record {
    kept = kept;
    bench =
        taken_home limits b s w.limits_are (front_begins b.journal s.requests w.front) within_here longer
        (λ h. omega (arith, t.short h, ap length made_here, ap length w.front.1, length-append b.journal w.front.0));
  }

pub checked_right : (limits : Limits) (b : Bench) (s : Seat) → IsRight limits s → IsTrue b → IsRight limits (checked (judged limits b s) b s).now
checked_right limits b s right t = by (judged limits b s) refl
  where
    by : (why : Option Why) → judged limits b s ≡ why → IsRight limits (checked why b s).now
    by (Some why) e = right
    by None e =
        let w = judged_none limits b s e in
        taken_right limits b s right.kept (subst (IsMade limits s) w.out right.bench) t w

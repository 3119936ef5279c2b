-- There is room in the outbox for the answers that a bench brings.
use Rattle.std.specs.Prelude.{nat_le, ◌||◌, if◌then◌else◌}
use Rattle.std.proofs.Common.{◌≡◌, ℕ, ◌+◌, ◌-◌, ◌<◌, ◌≤◌, List, ◌++◌, length, drop, Option, Some, None, Bool, true, false, refl, ap, ◌∙◌, subst, sym, arith, length-append, length-drop, take-append-drop}
use Rattle.std.proofs.Math.Logic.{∥∥₁_elim}
use Rattle.std.specs.Coded.{Coded-set, coded_bool}
use native.Mathlib.Bridge.{le_prop}
use Rattle.aud_text.specs.declared.limits.Limits.{Limits}
use Rattle.aud_bench.specs.declared.request.Answer.{Answer}
use Rattle.aud_bench.specs.Alone.{made}
use Rattle.aud_bench.specs.Ties.Kept.{is_kept}
use Rattle.aud_bench.specs.Seen.{Seen as Bench, told, answers_of}
use Rattle.aud_bench.proofs.Fronts.{whole_law}
use Rattle.aud_bench.proofs.Made.{made_within, made_all}
use Rattle.aud_bench.proofs.Sameness.{same_limits_self}
use Rattle.aud_hall.specs.declared.why.Why.TheVariants.{OtherLimits}
use Rattle.aud_hall.specs.Seats.{Seat, Sending, taken_in}
use Rattle.aud_hall.specs.CheckIns.{first_difference, not_awaited, or_differs}
use Rattle.aud_hall.specs.Ties.Right.{IsTrue, IsHome, IsMade, IsRight}
use Rattle.aud_hall.specs.Ties.Places.{IsRightThere}
use Rattle.aud_hall.proofs.Lists.{begins_front}
use Rattle.aud_hall.proofs.Seats.{away_front, sent_right}
use Rattle.aud_hall.proofs.CheckIns.{Awaits, judged_none}
use Rattle.aud_hall.proofs.Giving.{given_cut, sent_cut}
use Rattle.aud_hall.proofs.Counting.{spent_count, open_count}

-- no outbox is longer than the stored requests
pub room : (limits : Limits) (s : Seat) → IsRight limits s → length s.outbox ≤ length s.requests
room limits s right = by s.home right.bench
  where
    closed_or : (made_so : List Answer) (b : Bench) (c : Bool) → b.spent ≡ c → (b.spent ≡ true → length made_so < length s.requests) → length made_so ≤ length s.requests → length (made_so ++ told c) ≤ length s.requests
    closed_or made_so b true e short within = omega (arith, short e, length-append made_so (told true))
    closed_or made_so b false e short within = omega (arith, within, length-append made_so (told false))

    by : (o : Option Bench) → IsMade limits s o → length s.outbox ≤ length s.requests
    by None m =
        let f = away_front limits s right.kept m in
        omega (arith, ap length f.1, length-append s.outbox f.0, ap length (whole_law limits s.requests right.kept), made_all limits s.requests)
    by (Some b) m =
        let f = begins_front b.journal s.requests m.front in
        let front_length : length b.journal ≤ length s.requests = omega (arith, ap length f.1, length-append b.journal f.0) in
        let within : length (made limits b.journal b.units) ≤ length s.requests = omega (arith, made_within limits b.journal b.units, front_length) in
        omega (arith, ap length m.outbox, closed_or (made limits b.journal b.units) b b.spent refl m.short within)

-- the bench at home was left no answer of those that the seat has
pub held_home : (s : Seat) (b : Bench) → s.home ≡ Some b → IsRightThere s → b.taken ≤ length s.outbox
held_home s b home there =
    ∥∥₁_elim there.1 le_prop
    (λ r.
    let h : IsHome there.0 s b = subst (IsMade there.0 s) home r.bench in
    omega (arith, h.taken))

-- what is taken of a bench goes behind what is there
count_in : (s : Seat) (b : Bench) → length (taken_in b s).outbox ≡ length s.outbox + (length (answers_of b) - length s.outbox)
count_in s b = omega (arith, length-append s.outbox (drop (length s.outbox) (answers_of b)), length-drop (length s.outbox) (answers_of b))

-- the answer of a bench that closes at home
pub room_home : (s : Seat) (b : Bench) (n : ℕ) → s.home ≡ Some b → (b.spent || nat_le (length s.requests) (length s.outbox)) ≡ false → n < length s.requests - length b.journal → IsRightThere s
    → length s.outbox + (length (answers_of (given_cut s.requests b n)) - length s.outbox) ≤ length s.requests
room_home s b n home goes less there =
    ∥∥₁_elim there.1 le_prop
    (λ r.
    let cut = given_cut s.requests b n in
    let after : IsRight there.0 (taken_in cut s) = subst (λ (t : Sending). IsRight there.0 t.seat) (sent_cut s b home goes n less) (sent_right there.0 (Some n) s r).0 in
    omega (arith, count_in s cut, room there.0 (taken_in cut s) after))

-- a bench that is not handed back for its requests or answers is one that the seat waits for, as far as limits go
pub awaited : (b : Bench) (s : Seat) → or_differs (first_difference b.journal s.requests) (not_awaited b s.outbox s.home) ≡ None → Awaits b.limits b s
awaited b s none =
    judged_none b.limits b s
    (ap (λ c. if c then or_differs (first_difference b.journal s.requests) (not_awaited b s.outbox s.home) else Some OtherLimits) (same_limits_self b.limits) ∙ none)

few_answers : (b : Bench) (t : IsTrue b) → length (answers_of b) ≤ length b.journal
few_answers b t = by b.spent refl
  where
    by : (c : Bool) → b.spent ≡ c → length (answers_of b) ≤ length b.journal
    by true e = omega (arith, spent_count b e, t.short e)
    by false e = omega (arith, open_count b e, made_within b.limits b.journal b.units)

-- the answers of a bench that is taken in
pub room_in : (b : Bench) (s : Seat) → IsTrue b → Awaits b.limits b s → length s.outbox + (length (answers_of b) - length s.outbox) ≤ length s.requests
room_in b s t w =
    let long : length b.journal ≤ length s.requests = omega (arith, ap length w.front.1, length-append b.journal w.front.0) in
    let known : length s.outbox ≤ length b.journal = omega (arith, w.ahead, made_within b.limits b.journal b.units) in
    omega (arith, few_answers b t, long, known)

-- what a bench at home is to be given is kept
pub kept_home : (s : Seat) (b : Bench) → s.home ≡ Some b → IsRightThere s → is_kept (b.journal ++ drop (length b.journal) s.requests) ≡ true
kept_home s b home there =
    ∥∥₁_elim there.1 (Coded-set coded_bool (is_kept (b.journal ++ drop (length b.journal) s.requests)) true)
    (λ r.
    let h : IsHome there.0 s b = subst (IsMade there.0 s) home r.bench in
    ap is_kept (ap (λ rs. rs ++ drop (length b.journal) s.requests) (sym h.front) ∙ take-append-drop (length b.journal) s.requests) ∙ r.kept)

-- A seat takes in what it sent out, whatever was done on it and asked since.
use Rattle.std.specs.Prelude.{nat_lt, nat_le, not, ◌||◌, if◌then◌else◌}
use Rattle.std.proofs.Common.{◌≡◌, ℕ, ◌+◌, ◌<◌, ◌≤◌, List, [], ◌∷◌, ◌++◌, length, Option, Some, None, Bool, true, false, refl, ap, ◌∙◌, subst, arith, length-append}
use Rattle.aud_text.specs.declared.limits.Limits.{Limits}
use Rattle.aud_bench.specs.declared.request.Request.{Request}
use Rattle.aud_bench.specs.Alone.{fits, made}
use Rattle.aud_bench.specs.Size.{bytes_of}
use Rattle.aud_bench.specs.Same.{same_request, same_limits}
use Rattle.aud_bench.specs.Seen.{Seen as Bench, has_quit}
use Rattle.aud_hall.specs.declared.why.Why.TheVariants.{OtherLimits, Behind}
use Rattle.aud_hall.specs.Slices.{answered, given, done, sliced}
use Rattle.aud_hall.specs.Seats.{Seat, Sending, has_closed, submitting, submitted, sends, sending_by, sending, sent}
use Rattle.aud_hall.specs.Numbered.{one_on, IsPrefix}
use Rattle.aud_hall.specs.CheckIns.{first_difference, not_awaited, or_differs, judged}
use Rattle.aud_hall.specs.Ties.Right.{IsHome, IsMade, IsRight}
use Rattle.aud_worlds.specs.Headline.{now_is}
use Rattle.aud_worlds.specs.Why.Laws.{after_slices, after_submits, TakesBack, AwaitedLaw}
use Rattle.aud_bench.proofs.Made.{made_grows}
use Rattle.aud_bench.proofs.Sameness.{same_self, same_limits_self}
use Rattle.aud_bench.proofs.Truths.{or_left, or_right, false_le}
use Rattle.aud_hall.proofs.Lists.{begins_front}
use Rattle.aud_hall.proofs.Seats.{front_on, given_front, made_is}
use Rattle.aud_hall.proofs.CheckIns.{Awaits}
use Rattle.aud_worlds.proofs.Isolation.{world_law, at_each_seat}

abbrev pub Awaited : Limits → Sending → Option Bench → Type 0
Awaited limits t None = Unit {0}
Awaited limits t (Some b) = Awaits limits b t.seat

module _ (limits : Limits) (refused : Option ℕ) (s : Seat) (right : IsRight limits s) where
  leaves_awaited : (b : Bench) (m : IsHome limits s b) → b.spent ≡ false → length s.outbox < length s.requests → (c : Bool) → Awaited limits (sends c s (given s.requests refused b)) (sends c s (given s.requests refused b)).gone
  leaves_awaited b m alive some true = tt
  leaves_awaited b m alive some false =
      let full = given s.requests refused b in
      let length_is : length s.outbox ≡ length (made limits full.journal full.units) = ap length (made_is limits refused s right b m alive some) in
      let same : length (made full.limits full.journal full.units) ≡ length (made limits full.journal full.units) = ap (λ l. length (made l full.journal full.units)) m.limits_are in
      record { limits_are = m.limits_are; front = given_front s.requests refused b (begins_front b.journal s.requests m.front); out = refl; ahead = omega (arith, length_is, same); joins = omega (arith, m.taken) }

  awaited_or : (stays : Bool) (b : Bench) → IsHome limits s b → (b.spent || nat_le (length s.requests) (length s.outbox)) ≡ stays → Awaited limits (sending_by stays refused s b) (sending_by stays refused s b).gone
  awaited_or true b m e = tt
  awaited_or false b m e = leaves_awaited b m (or_left b.spent (nat_le (length s.requests) (length s.outbox)) e) (false_le _ _ (or_right b.spent (nat_le (length s.requests) (length s.outbox)) e)) (given s.requests refused b).spent

  pub sent_awaited : Awaited limits (sent refused s) (sent refused s).gone
  sent_awaited = by s.home right.bench
    where
      by : (o : Option Bench) → IsMade limits s o → Awaited limits (sending refused s o) (sending refused s o).gone
      by None m = tt
      by (Some b) m = awaited_or (b.spent || nat_le (length s.requests) (length s.outbox)) b m refl

-- slices and later requests change nothing of that
pub sliced_awaited : (limits : Limits) (units : ℕ) (refused : Option ℕ) (b : Bench) (s : Seat) → Awaits limits b s → Awaits limits (sliced units refused b) s
sliced_awaited limits units refused b s a =
    let grown = made_grows b.limits b.journal b.units (b.units + done units refused b) (omega arith) in
    let longer : length (made b.limits b.journal b.units) ≤ length (made b.limits b.journal (b.units + done units refused b)) = omega (arith, ap length grown.1, length-append (made b.limits b.journal b.units) grown.0) in
    record { limits_are = a.limits_are; front = a.front; out = a.out; ahead = omega (arith, a.ahead, longer); joins = a.joins }

pub submitted_awaited : (limits : Limits) (r : Request) (over full refused : Bool) (b : Bench) (s : Seat) → Awaits limits b s → Awaits limits b (submitting over full refused r s).now
submitted_awaited limits r true _ refused b s a = a
submitted_awaited limits r false true refused b s a = a
submitted_awaited limits r false false true b s a = a
submitted_awaited limits r false false false b s a = record { limits_are = a.limits_are; front = front_on b.journal s.requests r a.front; out = a.out; ahead = a.ahead; joins = a.joins }

first_front : (journal requests : List Request) → IsPrefix journal requests → first_difference journal requests ≡ None
first_front [] requests f = refl
first_front (x ∷ journal) [] f = let never : [] ≡ x ∷ (journal ++ f.0) = f.1 in absurd (cc)
first_front (x ∷ journal) (r ∷ requests) f =
    let all : r ∷ requests ≡ x ∷ (journal ++ f.0) = f.1 in
    let head : r ≡ x = cc in
    let tail : requests ≡ journal ++ f.0 = cc in
    ap (λ c. if c then one_on (first_difference journal requests) else Some 0) (ap (same_request x) head ∙ same_self x) ∙ ap one_on (first_front journal requests (f.0, tail))

not_lt : (a b : ℕ) → b ≤ a → nat_lt a b ≡ false
not_lt a b h = grind (arith, h)

-- and what a seat waits for is taken in
pub judged_awaited : (limits : Limits) (b : Bench) (s : Seat) → Awaits limits b s → judged limits b s ≡ None
judged_awaited limits b s a =
    let same : same_limits b.limits limits ≡ true = ap (λ l. same_limits l limits) a.limits_are ∙ same_limits_self limits in
    ap (λ c. if c then or_differs (first_difference b.journal s.requests) (not_awaited b s.outbox s.home) else Some OtherLimits) same
    ∙ ap (λ d. or_differs d (not_awaited b s.outbox s.home)) (first_front b.journal s.requests a.front)
    ∙ ap (not_awaited b s.outbox) a.out
    ∙ ap (λ c. if c || nat_lt (length s.outbox) b.taken then Some (Behind (length s.outbox)) else None) (not_lt (answered b) (length s.outbox) a.ahead)
    ∙ ap (λ c. if c then Some (Behind (length s.outbox)) else None) (not_lt (length s.outbox) b.taken a.joins)

-- ## All of it

slices_awaited : (limits : Limits) (xs : List (ℕ × Option ℕ)) (b : Bench) (s : Seat) → Awaits limits b s → Awaits limits (after_slices xs b) s
slices_awaited limits [] b s a = a
slices_awaited limits (x ∷ xs) b s a = slices_awaited limits xs (sliced x.0 x.1 b) s (sliced_awaited limits x.0 x.1 b s a)

submits_awaited : (limits : Limits) (xs : List (Request × Bool)) (b : Bench) (s : Seat) → Awaits limits b s → Awaits limits b (after_submits xs s)
submits_awaited limits [] b s a = a
submits_awaited limits (x ∷ xs) b s a =
    submits_awaited limits xs b (submitted x.0 x.1 s).now
    (submitted_awaited limits x.0 (has_quit s.requests) (not (fits (length s.requests) (bytes_of s.requests) x.0)) (x.1 || has_closed s.home) b s a)

takes_back : (limits : Limits) (s : Seat) → IsRight limits s → TakesBack limits s
takes_back limits s right refused b gone xs rs =
    let a : Awaits limits b (sent refused s).seat = subst (Awaited limits (sent refused s)) gone (sent_awaited limits refused s right) in
    judged_awaited limits (after_slices xs b) (after_submits rs (sent refused s).seat)
    (submits_awaited limits rs (after_slices xs b) (sent refused s).seat (slices_awaited limits xs b (sent refused s).seat a))

pub awaited_law : AwaitedLaw
awaited_law limits events = at_each_seat TakesBack takes_back (now_is limits events) (world_law limits events)

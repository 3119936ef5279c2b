-- Each call at a seat keeps what its outbox is.
use Rattle.std.specs.Prelude.{nat_le, not, ◌||◌}
use Rattle.std.proofs.Common.{◌≡◌, ℕ, ◌<◌, ◌≤◌, List, [], ◌∷◌, ◌++◌, length, take, drop, Option, Some, None, Bool, true, false, refl, sym, ap, ◌∙◌, subst, arith, append-nil, append_assoc, length-append, take-append-drop}
use Rattle.aud_text.specs.declared.limits.Limits.{Limits}
use Rattle.aud_bench.specs.declared.request.Request.{Request}
use Rattle.aud_bench.specs.declared.request.Answer.{Answer}
use Rattle.aud_bench.specs.Alone.{fits, alone, cost, made}
use Rattle.aud_bench.specs.Size.{bytes_of}
use Rattle.aud_bench.specs.Ties.Kept.{is_kept}
use Rattle.aud_bench.specs.Seen.{Seen as Bench, has_quit, told, made_by, answers_of}
use Rattle.aud_hall.specs.Slices.{given, until}
use Rattle.aud_hall.specs.Seats.{Seat, claimed, stored, has_closed, submitting, submitted, taken_in, sends, sending_by, sending, sent}
use Rattle.aud_hall.specs.Numbered.{IsPrefix}
use Rattle.aud_hall.specs.Ties.Right.{Begins, IsTrue, IsAway, IsHome, IsMade, IsRight}
use Rattle.aud_bench.proofs.Fronts.{front_law, none_kept, kept_more}
use Rattle.aud_bench.proofs.Made.{made_more, cost_more, none_done}
use Rattle.aud_bench.proofs.Truths.{or_left, or_right, false_le}
use Rattle.aud_hall.proofs.Truths.{not_false}
use Rattle.aud_hall.proofs.Lists.{drop_front, front_rest, begins_front, front_begins}

-- ## Fronts of the answers

-- what is made of a prefix of kept requests is made of all of them, and a prefix of the answers to them
pub made_of_front : (limits : Limits) (journal requests : List Request) (units : ℕ) → IsPrefix journal requests → units ≤ cost limits journal → made limits journal units ≡ made limits requests units
made_of_front limits journal requests units f h = sym (made_more limits journal f.0 units h) ∙ ap (λ rs. made limits rs units) (sym f.1)

pub front_of_alone : (limits : Limits) (journal requests : List Request) (units : ℕ) → IsPrefix journal requests → units ≤ cost limits journal → is_kept requests ≡ true → IsPrefix (made limits journal units) (alone limits requests)
front_of_alone limits journal requests units f h kept =
    let law = front_law limits requests units kept in
    (law.0, law.1 ∙ ap (λ xs. xs ++ law.0) (sym (made_of_front limits journal requests units f h)))

pub front_more : (xs ys zs : List Answer) → IsPrefix xs ys → IsPrefix ys zs → IsPrefix xs zs
front_more xs ys zs f g = (f.0 ++ g.0, g.1 ∙ ap (λ us. us ++ g.0) f.1 ∙ append_assoc xs f.0 g.0)

-- while the bench is out the outbox is a prefix of the answers
pub away_front : (limits : Limits) (s : Seat) → is_kept s.requests ≡ true → IsAway limits s → IsPrefix s.outbox (alone limits s.requests)
away_front limits s kept m = subst (λ xs. IsPrefix xs (alone limits s.requests)) (sym m.outbox) (front_of_alone limits m.journal s.requests m.units (begins_front m.journal s.requests m.front) m.within kept)

-- ## Claim

pub claimed_right : (limits : Limits) → IsRight limits (claimed limits)
claimed_right limits = record {
  kept = none_kept;
  bench = record {
    limits_are = refl;
    front = refl;
    within = omega arith;
    outbox = sym (ap (λ xs. xs ++ []) (none_done limits));
    taken = refl;
    short = λ h. absurd (cc);
  };
}

-- ## Submit

pub front_on : (journal requests : List Request) (r : Request) → IsPrefix journal requests → IsPrefix journal (requests ++ r ∷ [])
front_on journal requests r f = (f.0 ++ r ∷ [], ap (λ rs. rs ++ r ∷ []) f.1 ∙ append_assoc journal f.0 (r ∷ []))

made_on : (limits : Limits) (s : Seat) (r : Request) (home : Option Bench) → IsMade limits s home → IsMade limits (stored s r) home
made_on limits s r None m = record {
  journal = m.journal;
  units = m.units;
  front = front_begins m.journal (s.requests ++ r ∷ []) (front_on m.journal s.requests r (begins_front m.journal s.requests m.front));
  within = m.within;
  outbox = m.outbox;
}
made_on limits s r (Some b) m = record {
  limits_are = m.limits_are;
  front = front_begins b.journal (s.requests ++ r ∷ []) (front_on b.journal s.requests r (begins_front b.journal s.requests m.front));
  within = m.within;
  outbox = m.outbox;
  taken = m.taken;
  short = λ h. omega (arith, m.short h, length-append s.requests (r ∷ []));
}

stored_right : (limits : Limits) (s : Seat) (r : Request) → IsRight limits s → has_quit s.requests ≡ false → fits (length s.requests) (bytes_of s.requests) r ≡ true → IsRight limits (stored s r)
stored_right limits s r right going fitting =
    let more = kept_more s.requests r right.kept going fitting in
    record { kept = more; bench = made_on limits s r s.home right.bench }

pub submitted_right : (limits : Limits) (r : Request) (refused : Bool) (s : Seat) → IsRight limits s → IsRight limits (submitted r refused s).now
submitted_right limits r refused s right = by (has_quit s.requests) (not (fits (length s.requests) (bytes_of s.requests) r)) (refused || has_closed s.home) refl refl
  where
    by : (q f c : Bool) → has_quit s.requests ≡ q → not (fits (length s.requests) (bytes_of s.requests) r) ≡ f → IsRight limits (submitting q f c r s).now
    by true f c e g = right
    by false true c e g = right
    by false false true e g = right
    by false false false e g = stored_right limits s r right e (not_false (fits (length s.requests) (bytes_of s.requests) r) g)

-- ## A bench comes home

-- what it made goes on from the outbox
pub taken_home : (limits : Limits) (b : Bench) (s : Seat) → b.limits ≡ limits → Begins b.journal s.requests → b.units ≤ cost limits b.journal → IsPrefix s.outbox (made_by b)
    → (b.spent ≡ true → length (made limits b.journal b.units) < length s.requests) → IsHome limits (taken_in b s) (record b { taken = length (answers_of b) })
taken_home limits b s limits_are front within so_far short =
    let all : s.outbox ++ drop (length s.outbox) (answers_of b) ≡ answers_of b =
    front_rest s.outbox (answers_of b) (front_more s.outbox (made_by b) (answers_of b) so_far (told b.spent, refl)) in
    record {
      limits_are = limits_are;
      front = front;
      within = within;
      outbox = all ∙ ap (λ l. made l b.journal b.units ++ told b.spent) limits_are;
      taken = sym (ap length all);
      short = short;
    }

-- ## SendOut

-- what is given is a prefix of the stored requests again
pub given_front : (requests : List Request) (refused : Option ℕ) (b : Bench) → IsPrefix b.journal requests → IsPrefix (given requests refused b).journal requests
given_front requests refused b f =
    let missing = drop (length b.journal) requests in
    let missing_is : missing ≡ f.0 = ap (drop (length b.journal)) f.1 ∙ drop_front b.journal f.0 in
    let n = until refused (length missing) in (
      drop n missing,
      f.1 ∙ ap (λ xs. b.journal ++ xs) (sym missing_is) ∙ ap (λ xs. b.journal ++ xs) (sym (take-append-drop n missing)) ∙ sym (append_assoc b.journal (take n missing) (drop n missing)),
    )

-- a journal that goes on costs no less, and what is made of it is the same
goes_on : (limits : Limits) (journal more : List Request) (units : ℕ) → units ≤ cost limits journal → (units ≤ cost limits (journal ++ more)) × (made limits (journal ++ more) units ≡ made limits journal units)
goes_on limits journal more units h = (omega (arith, cost_more limits journal more, h), made_more limits journal more units h)

abbrev pub IsGone : Option Bench → Type 0
IsGone None = Unit {0}
IsGone (Some b) = IsTrue b

-- what a bench at home that has not closed has made is the outbox
pub open_outbox : (limits : Limits) (s : Seat) (b : Bench) → IsHome limits s b → b.spent ≡ false → s.outbox ≡ made limits b.journal b.units
open_outbox limits s b m e = m.outbox ∙ ap (λ c. made limits b.journal b.units ++ told c) e ∙ append-nil (made limits b.journal b.units)

module _ (limits : Limits) (refused : Option ℕ) (s : Seat) (right : IsRight limits s) where
  module _ (b : Bench) (m : IsHome limits s b) (alive : b.spent ≡ false) (some : length s.outbox < length s.requests) where
    abbrev pub full : Bench
    full = given s.requests refused b

    pub made_is : s.outbox ≡ made limits full.journal full.units
    made_is = open_outbox limits s b m alive ∙ sym (goes_on limits b.journal (take (until refused (length (drop (length b.journal) s.requests))) (drop (length b.journal) s.requests)) b.units m.within).1

    within_is : full.units ≤ cost limits full.journal
    within_is = (goes_on limits b.journal (take (until refused (length (drop (length b.journal) s.requests))) (drop (length b.journal) s.requests)) b.units m.within).0

    -- it closes, and has made nothing since
    closes : IsRight limits (sends true s full).seat
    closes = record {
      kept = right.kept;
      bench =
          taken_home limits full s m.limits_are (front_begins full.journal s.requests (given_front s.requests refused b (begins_front b.journal s.requests m.front))) within_is
          ([], ap (λ l. made l full.journal full.units) m.limits_are ∙ sym made_is ∙ sym (append-nil s.outbox)) (λ _. omega (arith, ap length made_is, some));
    }

    goes : full.spent ≡ false → IsRight limits (sends false s full).seat × IsTrue full
    goes e =
        let length_is : length s.outbox ≡ length (made limits full.journal full.units) = ap length made_is in
        let same : length (made full.limits full.journal full.units) ≡ length (made limits full.journal full.units) = ap (λ l. length (made l full.journal full.units)) m.limits_are in (
          record {
            kept = right.kept;
            bench = record {
              journal = full.journal;
              units = full.units;
              front = front_begins full.journal s.requests (given_front s.requests refused b (begins_front b.journal s.requests m.front));
              within = within_is;
              outbox = made_is;
            };
          },
          record {
            within = subst (λ l. full.units ≤ cost l full.journal) (sym m.limits_are) within_is;
            taken = omega (arith, m.taken, length_is, same);
            short = λ h. absurd (cc);
          },
        )

    leaves : (c : Bool) → full.spent ≡ c → IsRight limits (sends c s full).seat × IsGone (sends c s full).gone
    leaves true e = (closes, tt)
    leaves false e = goes e

  stays_or : (stays : Bool) (b : Bench) → IsHome limits s b → (b.spent || nat_le (length s.requests) (length s.outbox)) ≡ stays → IsRight limits (sending_by stays refused s b).seat × IsGone (sending_by stays refused s b).gone
  stays_or true b m e = (right, tt)
  stays_or false b m e = leaves b m (or_left b.spent (nat_le (length s.requests) (length s.outbox)) e) (false_le _ _ (or_right b.spent (nat_le (length s.requests) (length s.outbox)) e)) (given s.requests refused b).spent refl

  by_home : (o : Option Bench) → IsMade limits s o → IsRight limits (sending refused s o).seat × IsGone (sending refused s o).gone
  by_home None m = (right, tt)
  by_home (Some b) m = stays_or (b.spent || nat_le (length s.requests) (length s.outbox)) b m refl

  pub sent_right : IsRight limits (sent refused s).seat × IsGone (sent refused s).gone
  sent_right = by_home s.home right.bench

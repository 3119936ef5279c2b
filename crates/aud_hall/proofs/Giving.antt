-- A bench is given requests, and goes out or stays.
use Rattle.std.specs.Prelude.{nat_le, ◌||◌, ◌&&◌, MatchOption, min}
use Rattle.std.proofs.Common.{◌≡◌, ℕ, ◌+◌, ◌-◌, ◌<◌, ◌≤◌, List, [], ◌∷◌, ◌++◌, length, take, drop, get_or, Option, Some, None, Bool, true, false, refl, sym, ap, ◌∙◌, subst, arith, append-nil, append_assoc, length-drop, take-append-drop, add-zero, zero-add}
use Rattle.std.proofs.lemmas.List.{take_more, drop_more, take_all, get_or-drop}
use Rattle.aud_bench.specs.declared.request.Request.{Request}
use Rattle.aud_bench.specs.Alone.{is_quit, fits}
use Rattle.aud_bench.specs.Size.{size, bytes_of}
use Rattle.aud_bench.specs.Ties.Kept.{ends_there, kept_behind, is_kept}
use Rattle.aud_bench.specs.Seen.{Seen as Bench, has_quit, is_closed, fits_behind, with_request}
use Rattle.aud_bench.proofs.Truths.{and_left, and_right}
use Rattle.aud_hall.proofs.Truths.{lt_true}
use Rattle.aud_hall.specs.Slices.{given}
use Rattle.aud_hall.specs.Seats.{Seat, taken_in, sends_given, sending, sending_by, sent}

-- ## Kept requests can be given

going_on : (journal : List Request) (r : Request) (rest : List Request) (quits : Bool) → ends_there quits (journal ++ r ∷ rest) ≡ true → quits ≡ false
going_on journal r rest false h = refl
going_on [] r rest true h = absurd (cc)
going_on (x ∷ journal) r rest true h = absurd (cc)

-- a kept request fits behind those before it, and none of these ends the session
behind_fits : (n m : ℕ) (journal : List Request) (r : Request) (rest : List Request) → kept_behind n m (journal ++ r ∷ rest) ≡ true
    → (has_quit journal ≡ false) × (fits (n + length journal) (m + bytes_of journal) r ≡ true)
behind_fits n m [] r rest h =
    let others = ends_there (is_quit r) rest && kept_behind (n + 1) (m + size r) rest in
    (refl, ap (λ k. fits k (m + 0) r) (add-zero n) ∙ ap (λ k. fits n k r) (add-zero m) ∙ and_left (fits n m r) others h)
behind_fits n m (x ∷ journal) r rest h =
    let more = journal ++ r ∷ rest in
    let others = ends_there (is_quit x) more && kept_behind (n + 1) (m + size x) more in
    let both : others ≡ true = and_right (fits n m x) others h in
    let goes = going_on journal r rest (is_quit x) (and_left (ends_there (is_quit x) more) (kept_behind (n + 1) (m + size x) more) both) in
    let next = behind_fits (n + 1) (m + size x) journal r rest (and_right (ends_there (is_quit x) more) (kept_behind (n + 1) (m + size x) more) both) in
    let count : n + length (x ∷ journal) ≡ n + 1 + length journal = omega arith in
    let bytes : m + bytes_of (x ∷ journal) ≡ m + size x + bytes_of journal = omega arith in (
      ap (λ b. b || has_quit journal) goes ∙ next.0,
      ap (λ k. fits k (m + bytes_of (x ∷ journal)) r) count ∙ ap (λ k. fits (n + 1 + length journal) k r) bytes ∙ next.1,
    )

module _ (requests : List Request) (b : Bench) where
  abbrev missing : List Request
  missing = drop (length b.journal) requests

  abbrev pub with_journal : List Request → Bench
  with_journal journal = record b { journal = journal }

  -- with so many of the requests that it has not got yet
  abbrev pub given_some : ℕ → Bench
  given_some n = record b { journal = b.journal ++ take n (drop (length b.journal) requests) }

  pub none_given : (n : ℕ) → n ≡ 0 → b ≡ given_some n
  none_given n none = ap with_journal (sym (append-nil b.journal)) ∙ ap given_some (sym none)

  pub one_given : (i : ℕ) (r : Request) → length b.journal ≤ i → i < length requests → r ≡ get_or requests i r → with_request (given_some (i - length b.journal)) r ≡ given_some (i + 1 - length b.journal)
  one_given i r past below is =
      let n = i - length b.journal in
      let here : n < length missing = omega (arith, length-drop (length b.journal) requests, past, below) in
      let same : get_or missing n r ≡ r = get_or-drop (length b.journal) requests n r ∙ ap (λ k. get_or requests k r) (omega (arith, past)) ∙ sym is in
      let longer : take (n + 1) missing ≡ take n missing ++ r ∷ [] = take_more missing n r here ∙ ap (λ x. take n missing ++ x ∷ []) same in
      let next : n + 1 ≡ i + 1 - length b.journal = omega (arith, past) in
      ap with_journal (append_assoc b.journal (take n missing) (r ∷ []) ∙ ap (λ xs. b.journal ++ xs) (sym longer)) ∙ ap given_some next

  -- the next one fits, and the bench is open
  pub next_fits : is_kept (b.journal ++ drop (length b.journal) requests) ≡ true → b.spent ≡ false → (i : ℕ) (r : Request) → length b.journal ≤ i → i < length requests → r ≡ get_or requests i r
      → (is_closed (given_some (i - length b.journal)) ≡ false) × (fits_behind (given_some (i - length b.journal)) r ≡ true)
  next_fits kept alive i r past below is =
      let n = i - length b.journal in
      let here : n < length missing = omega (arith, length-drop (length b.journal) requests, past, below) in
      let same : get_or missing n r ≡ r = get_or-drop (length b.journal) requests n r ∙ ap (λ k. get_or requests k r) (omega (arith, past)) ∙ sym is in
      let rest : drop n missing ≡ r ∷ drop (n + 1) missing = drop_more missing n r here ∙ ap (λ x. x ∷ drop (n + 1) missing) same in
      let split : b.journal ++ missing ≡ (b.journal ++ take n missing) ++ r ∷ drop (n + 1) missing =
      ap (λ xs. b.journal ++ xs) (sym (take-append-drop n missing) ∙ ap (λ xs. take n missing ++ xs) rest) ∙ sym (append_assoc b.journal (take n missing) (r ∷ drop (n + 1) missing)) in
      let all = behind_fits 0 0 (b.journal ++ take n missing) r (drop (n + 1) missing) (sym (ap is_kept split) ∙ kept) in
      let journal = b.journal ++ take n missing in (
        ap (λ c. c || has_quit journal) alive ∙ all.0,
        ap (λ k. fits k (bytes_of journal) r) (sym (zero-add (length journal))) ∙ ap (λ k. fits (0 + length journal) k r) (sym (zero-add (bytes_of journal))) ∙ all.1,
      )

  pub all_given : (n : ℕ) → length requests - length b.journal ≤ n → b.spent ≡ false → given_some n ≡ given requests None b
  all_given n all alive =
      let long : length missing ≤ n = omega (arith, length-drop (length b.journal) requests, all) in
      let whole : take n missing ≡ take (length missing) missing = take_all n missing long ∙ sym (take_all (length missing) missing (omega arith)) in
      let with_spent : Bool → Bench = λ c. record b { journal = b.journal ++ take n missing; spent = c } in
      let with_all : List Request → Bench = λ xs. record b { journal = b.journal ++ xs; spent = false } in
      ap with_spent alive ∙ ap with_all whole

  -- memory is refused before the last of them
  abbrev pub given_cut : ℕ → Bench
  given_cut n = record b { journal = b.journal ++ take n (drop (length b.journal) requests); spent = true }

  pub cut_is : (n : ℕ) → n < length requests - length b.journal → given requests (Some n) b ≡ given_cut n
  cut_is n less =
      let short : n < length missing = omega (arith, length-drop (length b.journal) requests, less) in
      let with_spent : Bool → Bench = λ c. record b { journal = b.journal ++ take (min n (length missing)) missing; spent = c } in
      let fewer : min n (length missing) ≡ n = omega (arith, short) in
      ap with_spent (lt_true n (length missing) short) ∙ ap given_cut fewer

module _ (s : Seat) where
  pub sent_none : s.home ≡ None → sent None s ≡ record { seat = s; gone = None }
  sent_none out = ap (sending None s) out

  pub sent_stays : (stays : Bool) → stays ≡ true → MatchOption s.home (stays ≡ true) (λ (b : Bench). stays ≡ (b.spent || nat_le (length s.requests) (length s.outbox)))
      → sent None s ≡ record { seat = s; gone = None }
  sent_stays stays it m = by s.home m
    where
      by : (o : Option Bench) → MatchOption o (stays ≡ true) (λ (b : Bench). stays ≡ (b.spent || nat_le (length s.requests) (length s.outbox))) → sending None s o ≡ record { seat = s; gone = None }
      by None m = refl
      by (Some b) m = ap (λ c. sending_by c None s b) (sym m ∙ it)

  module _ (b : Bench) (home : s.home ≡ Some b) (goes : (b.spent || nat_le (length s.requests) (length s.outbox)) ≡ false) where
    sent_given : (refused : Option ℕ) → sent refused s ≡ sends_given s (given s.requests refused b)
    sent_given refused = ap (sending refused s) home ∙ ap (λ c. sending_by c refused s b) goes

    pub sent_whole : sent None s ≡ record { seat = record s { home = None }; gone = Some (given s.requests None b) }
    sent_whole = sent_given None

    pub sent_cut : (n : ℕ) → n < length s.requests - length b.journal → sent (Some n) s ≡ record { seat = taken_in (given_cut s.requests b n) s; gone = None }
    sent_cut n less = sent_given (Some n) ∙ ap (sends_given s) (cut_is s.requests b n less)

-- a bench that does not stay is open, and some request is unanswered
pub goes_out : (s now : Seat) → s ≡ now → (b : Bench) → s.home ≡ Some b → (stays : Bool) → stays ≡ false → MatchOption now.home (stays ≡ true) (λ (x : Bench). stays ≡ (x.spent || nat_le (length now.requests) (length now.outbox)))
    → (b.spent || nat_le (length s.requests) (length s.outbox)) ≡ false
goes_out s now is b home stays not m =
    let there : MatchOption s.home (stays ≡ true) (λ (x : Bench). stays ≡ (x.spent || nat_le (length s.requests) (length s.outbox))) =
    subst (λ (t : Seat). MatchOption t.home (stays ≡ true) (λ (x : Bench). stays ≡ (x.spent || nat_le (length t.requests) (length t.outbox)))) (sym is) m in
    let here : stays ≡ (b.spent || nat_le (length s.requests) (length s.outbox)) =
    subst (λ (o : Option Bench). MatchOption o (stays ≡ true) (λ (x : Bench). stays ≡ (x.spent || nat_le (length s.requests) (length s.outbox)))) home there in
    sym here ∙ not

-- The clock has room for each ADVANCE of a session.
use Rattle.std.specs.Prelude.{◌*◌, min, ◌==◌, nat_lt, ◌&&◌, ◌||◌, if◌then◌else◌}
use Rattle.std.proofs.Common.{◌≡◌, ℕ, zero, suc, ◌+◌, ◌<◌, ◌≤◌, List, [], ◌∷◌, ◌++◌, length, take, slice_get, Option, Some, None, Result, Ok, Err, Bool, true, false, refl, sym, ap, ◌∙◌, arith}
use Rattle.aud_text.specs.declared.refusal.Refusal.TheVariants as refusal
use Rattle.aud_text.specs.declared.limits.Limits.{Limits}
use Rattle.aud_text.specs.declared.limits.TheConstants.{CHOICES, REQUESTS, WAIT}
use Rattle.aud_typed.specs.Tree as tree
use Rattle.aud_meaning.specs.declared.state.Move.{Move}
use Rattle.aud_meaning.specs.Statements.{controls}
use Rattle.aud_meaning.specs.Run.{moves_in, run, supplied}
use Rattle.aud_meaning.specs.Listings.{view}
use Rattle.aud_meaning.proofs.Counts.{step_timeless, clock_kept}
use Rattle.aud_debug.specs.declared.lines.Lines.{Lines}
use Rattle.aud_debug.specs.Listed.{listed}
use Rattle.aud_bench.specs.declared.request.Request.{Request}
use Rattle.aud_bench.specs.declared.request.Request.TheVariants as request
use Rattle.aud_bench.specs.declared.request.Answer.{Answer}
use Rattle.aud_bench.specs.declared.request.Answer.TheVariants as answer
use Rattle.aud_bench.specs.Loading.{program_of}
use Rattle.aud_bench.specs.Size.{size}
use Rattle.aud_bench.specs.Alone.{Loaded, answers_only, ran_reply, steps_left, stepped_reply, chosen_reply, listed_reply, load_reply, replied, is_quit, has_room, fits}
use Rattle.aud_bench.specs.Ties.Kept.{ends_there, kept_behind, is_kept}
use Rattle.aud_bench.specs.Ties.Standing.{loaded_after}
use Rattle.aud_bench.specs.Ties.Times.{clock_of, HasTime, HasRoom, is_brief, are_brief}
use Rattle.aud_bench.proofs.Truths.{and_left, and_right, and_both, true_le, true_lt}

module _ (limits : Limits) where
  load_time : (x : Result tree.Program Answer) (loaded : Option Loaded) → clock_of (load_reply x loaded).loaded ≤ clock_of loaded
  load_time (Ok program) loaded = omega arith
  load_time (Err refusal) loaded = omega arith

  stepped_time : (o : Option Move) (l : Loaded) → clock_of (stepped_reply limits o l).loaded ≤ l.now.clock
  stepped_time None l = omega arith
  stepped_time (Some move) l = omega (arith, step_timeless l.program.plan (controls l.program) limits move l.now)

  listed_time : (o : Option Lines) (l : Loaded) → clock_of (listed_reply o l).loaded ≤ l.now.clock
  listed_time None l = omega arith
  listed_time (Some lines) l = omega arith

  -- only an ADVANCE lets time pass
  pub reply_time : (r : Request) (loaded : Option Loaded) → is_brief r ≡ true → clock_of (replied limits loaded r).loaded ≤ clock_of loaded + WAIT
  reply_time (request.Load source) loaded brief = omega (arith, load_time (program_of limits source) loaded)
  reply_time request.Reset None brief = omega arith
  reply_time request.Reset (Some l) brief = omega arith
  reply_time (request.Run n) None brief = omega arith
  reply_time (request.Run n) (Some l) brief = by (steps_left l.now == 0)
    where
      by : (b : Bool) → clock_of (if b then answers_only (answer.Refused refusal.StepBudget) (Some l) else ran_reply l (run limits l.program (min n (steps_left l.now)) l.now)).loaded ≤ l.now.clock + WAIT
      by true = omega arith
      by false = omega (arith, clock_kept l.program.plan (controls l.program) limits (min n (steps_left l.now)) l.now)
  reply_time (request.Step n) None brief = omega arith
  reply_time (request.Step n) (Some l) brief = by (steps_left l.now == 0) (stepped_time (slice_get (moves_in l.program l.now) n) l)
    where
      by : (b : Bool) → clock_of (stepped_reply limits (slice_get (moves_in l.program l.now) n) l).loaded ≤ l.now.clock
          → clock_of (if b then answers_only (answer.Refused refusal.StepBudget) (Some l) else stepped_reply limits (slice_get (moves_in l.program l.now) n) l).loaded ≤ l.now.clock + WAIT
      by true h = omega arith
      by false h = omega (arith, h)
  reply_time (request.Choose choices) None brief = omega arith
  reply_time (request.Choose choices) (Some l) brief = by (nat_lt CHOICES (length l.now.choices + length choices))
    where
      by : (b : Bool) → clock_of (if b then answers_only (answer.Refused refusal.ChoicesFull) (Some l) else chosen_reply l (supplied choices l.now)).loaded ≤ l.now.clock + WAIT
      by true = omega arith
      by false = omega arith
  reply_time (request.Advance milliseconds) None brief = omega arith
  reply_time (request.Advance milliseconds) (Some l) brief = omega (arith, true_le milliseconds WAIT brief)
  reply_time request.Clock None brief = omega arith
  reply_time request.Clock (Some l) brief = omega arith
  reply_time (request.List listing) None brief = omega arith
  reply_time (request.List listing) (Some l) brief = omega (arith, listed_time (listed listing (view l.program l.now)) l)
  reply_time request.Output None brief = omega arith
  reply_time request.Output (Some l) brief = omega arith
  reply_time (request.Seat number) loaded brief = omega arith
  reply_time request.Quit loaded brief = omega arith
  reply_time (request.Bad why) loaded brief = omega arith

  -- behind so many requests
  time_after : (n : ℕ) (loaded : Option Loaded) (journal : List Request) → are_brief journal ≡ true → clock_of (loaded_after limits loaded (take n journal)) ≤ clock_of loaded + n * WAIT
  time_after zero loaded journal brief = omega arith
  time_after (suc n) loaded [] brief = omega arith
  time_after (suc n) loaded (r ∷ rs) brief =
      let here = reply_time r loaded (and_left (is_brief r) (are_brief rs) brief) in
      let rest = time_after n (replied limits loaded r).loaded rs (and_right (is_brief r) (are_brief rs) brief) in
      omega (arith, here, rest)

fits_few : (requests bytes : ℕ) (r : Request) → fits requests bytes r ≡ true → is_quit r ≡ false → requests < REQUESTS
fits_few requests bytes r fitting other =
    let room : has_room requests bytes (size r) ≡ true = sym (ap (λ b. b || has_room requests bytes (size r)) other) ∙ fitting in
    true_lt requests REQUESTS (and_left (nat_lt requests REQUESTS) _ room)

few_behind : (requests bytes : ℕ) (journal : List Request) → kept_behind requests bytes journal ≡ true → requests ≤ REQUESTS → requests + length journal ≤ REQUESTS + 1
few_behind requests bytes [] h few = omega (arith, few)
few_behind requests bytes (r ∷ rs) h few =
    let others = ends_there (is_quit r) rs && kept_behind (requests + 1) (bytes + size r) rs in
    let fitting : fits requests bytes r ≡ true = and_left (fits requests bytes r) others h in
    let both : others ≡ true = and_right (fits requests bytes r) others h in
    by (is_quit r) rs refl (and_left (ends_there (is_quit r) rs) (kept_behind (requests + 1) (bytes + size r) rs) both) fitting
    (few_behind (requests + 1) (bytes + size r) rs (and_right (ends_there (is_quit r) rs) (kept_behind (requests + 1) (bytes + size r) rs) both))
  where
    by : (b : Bool) (xs : List Request) → is_quit r ≡ b → ends_there (is_quit r) xs ≡ true → fits requests bytes r ≡ true → (requests + 1 ≤ REQUESTS → (requests + 1) + length xs ≤ REQUESTS + 1) → requests + length (r ∷ xs) ≤ REQUESTS + 1
    by true [] e ends fitting rest = omega (arith, few)
    by true (x ∷ xs) e ends fitting rest =
        let never : false ≡ true = sym (ap (λ b. ends_there b (x ∷ xs)) e) ∙ ends in
        absurd (cc)
    by false xs e ends fitting rest =
        let less = fits_few requests bytes r fitting e in
        omega (arith, less, rest (omega (arith, less)))

-- where there is time for an ADVANCE there is room for any request
pub room_of : (r : Request) (loaded : Option Loaded) → HasTime loaded → HasRoom r loaded
room_of (request.Load source) loaded time = tt
room_of request.Reset loaded time = tt
room_of (request.Run n) loaded time = tt
room_of (request.Step n) loaded time = tt
room_of (request.Choose choices) loaded time = tt
room_of (request.Advance milliseconds) loaded time = time
room_of request.Clock loaded time = tt
room_of (request.List listing) loaded time = tt
room_of request.Output loaded time = tt
room_of (request.Seat number) loaded time = tt
room_of request.Quit loaded time = tt
room_of (request.Bad why) loaded time = tt

-- kept requests leave the clock room before each of them
pub has_time : (limits : Limits) (journal : List Request) (i : ℕ) → is_kept journal ≡ true → are_brief journal ≡ true → i < length journal → HasTime (loaded_after limits None (take i journal))
has_time limits journal i kept brief below =
    let few = few_behind 0 0 journal kept (omega arith) in
    let now = time_after limits i None journal brief in
    omega (arith, few, now, below)

-- one request more
pub brief_more : (journal : List Request) (r : Request) → are_brief journal ≡ true → is_brief r ≡ true → are_brief (journal ++ r ∷ []) ≡ true
brief_more [] r h here = and_both (is_brief r) true here refl
brief_more (x ∷ journal) r h here =
    and_both (is_brief x) (are_brief (journal ++ r ∷ [])) (and_left (is_brief x) (are_brief journal) h) (brief_more journal r (and_right (is_brief x) (are_brief journal) h) here)

-- What a private server never answers, and how many answers it gives.
use Rattle.std.specs.Prelude.{◌==◌, nat_lt, if◌then◌else◌}
use Rattle.std.proofs.Common.{◌≡◌, ◌+◌, ◌≤◌, List, [], ◌∷◌, length, slice_get, ◌||◌, Option, Some, None, Result, Ok, Err, Bool, true, false, refl, ap, ◌∙◌, arith}
use Rattle.std.specs.List.{list_any}
use Rattle.aud_text.specs.declared.refusal.Refusal.TheVariants as refusal
use Rattle.aud_text.specs.declared.limits.Limits.{Limits}
use Rattle.aud_text.specs.declared.limits.TheConstants.{CHOICES}
use Rattle.aud_typed.specs.Tree as tree
use Rattle.aud_meaning.specs.declared.state.Move.{Move}
use Rattle.aud_meaning.specs.Run.{moves_in}
use Rattle.aud_meaning.specs.Listings.{view}
use Rattle.aud_debug.specs.declared.lines.Lines.{Lines}
use Rattle.aud_debug.specs.Listed.{listed}
use Rattle.aud_bench.specs.declared.request.BadRequest.TheVariants as bad
use Rattle.aud_bench.specs.declared.request.Request.{Request}
use Rattle.aud_bench.specs.declared.request.Request.TheVariants as request
use Rattle.aud_bench.specs.declared.request.Answer.{Answer}
use Rattle.aud_bench.specs.declared.request.Answer.TheVariants as answer
use Rattle.aud_bench.specs.Alone.{Loaded, Server, Reply, answers_only, stepped_reply, listed_reply, steps_left, load_reply, replied, is_quit, fits, fresh, kept, answers_after, answers_from, alone}
use Rattle.aud_bench.specs.Seen.{tells_memory}
use Rattle.aud_bench.specs.Ties.Kept.{NeverLaw, CountLaw}
use Rattle.aud_bench.proofs.Loads.{IsOther, program_other}

neither : (a b : Bool) → a ≡ false → b ≡ false → (a || b) ≡ false
neither a b h k = ap (λ c. c || b) h ∙ k

load_other : (loaded : Option Loaded) (x : Result tree.Program Answer) → IsOther x → tells_memory (load_reply x loaded).answer ≡ false
load_other loaded (Ok program) h = refl
load_other loaded (Err a) h = h

budget_other : (b : Bool) (l : Loaded) (reply : Reply) → tells_memory reply.answer ≡ false → tells_memory (if b then answers_only (answer.Refused refusal.StepBudget) (Some l) else reply).answer ≡ false
budget_other true l reply h = refl
budget_other false l reply h = h

choices_other : (b : Bool) (l : Loaded) (reply : Reply) → tells_memory reply.answer ≡ false → tells_memory (if b then answers_only (answer.Refused refusal.ChoicesFull) (Some l) else reply).answer ≡ false
choices_other true l reply h = refl
choices_other false l reply h = h

step_other : (limits : Limits) (o : Option Move) (l : Loaded) → tells_memory (stepped_reply limits o l).answer ≡ false
step_other limits None l = refl
step_other limits (Some move) l = refl

listing_other : (o : Option Lines) (l : Loaded) → tells_memory (listed_reply o l).answer ≡ false
listing_other None l = refl
listing_other (Some lines) l = refl

-- no request is answered so
reply_other : (limits : Limits) (loaded : Option Loaded) (r : Request) → tells_memory (replied limits loaded r).answer ≡ false
reply_other limits loaded (request.Load source) = load_other loaded _ (program_other limits source)
reply_other limits None request.Reset = refl
reply_other limits (Some l) request.Reset = refl
reply_other limits None (request.Run n) = refl
reply_other limits (Some l) (request.Run n) = budget_other (steps_left l.now == 0) l _ refl
reply_other limits None (request.Step n) = refl
reply_other limits (Some l) (request.Step n) = budget_other (steps_left l.now == 0) l _ (step_other limits (slice_get (moves_in l.program l.now) n) l)
reply_other limits None (request.Choose choices) = refl
reply_other limits (Some l) (request.Choose choices) = choices_other (nat_lt CHOICES (length l.now.choices + length choices)) l _ refl
reply_other limits None (request.Advance milliseconds) = refl
reply_other limits (Some l) (request.Advance milliseconds) = refl
reply_other limits None request.Clock = refl
reply_other limits (Some l) request.Clock = refl
reply_other limits None (request.List listing) = refl
reply_other limits (Some l) (request.List listing) = listing_other (listed listing (view l.program l.now)) l
reply_other limits None request.Output = refl
reply_other limits (Some l) request.Output = refl
reply_other limits loaded (request.Seat number) = refl
reply_other limits loaded request.Quit = refl
reply_other limits loaded (request.Bad bad.UnknownCommand) = refl
reply_other limits loaded (request.Bad bad.BadArgument) = refl
reply_other limits loaded (request.Bad bad.LineTooLong) = refl
reply_other limits loaded (request.Bad bad.NotAscii) = refl

module _ (limits : Limits) where
  -- the answers from a server on, by whether the first request fits and whether it ends the session
  abbrev pub answers_by : (fitting quits : Bool) → Server → Request → List Request → List Answer
  answers_by fitting quits s r rs =
      if fitting then answers_after quits (replied limits s.loaded r) (λ loaded. answers_from limits (kept s r loaded) rs) else answer.Refused refusal.JournalFull ∷ answers_from limits s rs

  never : (s : Server) (rs : List Request) → list_any tells_memory (answers_from limits s rs) ≡ false
  never s [] = refl
  never s (r ∷ rs) = by (fits s.requests s.bytes r) (is_quit r) (never s rs) (never (kept s r (replied limits s.loaded r).loaded) rs)
    where
      by : (fitting quits : Bool) → list_any tells_memory (answers_from limits s rs) ≡ false → list_any tells_memory (answers_from limits (kept s r (replied limits s.loaded r).loaded) rs) ≡ false
          → list_any tells_memory (answers_by fitting quits s r rs) ≡ false
      by false quits others onward = others
      by true true others onward = neither (tells_memory (replied limits s.loaded r).answer) false (reply_other limits s.loaded r) refl
      by true false others onward = neither (tells_memory (replied limits s.loaded r).answer) _ (reply_other limits s.loaded r) onward

  few : (s : Server) (rs : List Request) → length (answers_from limits s rs) ≤ length rs
  few s [] = omega arith
  few s (r ∷ rs) = by (fits s.requests s.bytes r) (is_quit r) (few s rs) (few (kept s r (replied limits s.loaded r).loaded) rs)
    where
      by : (fitting quits : Bool) → length (answers_from limits s rs) ≤ length rs → length (answers_from limits (kept s r (replied limits s.loaded r).loaded) rs) ≤ length rs
          → length (answers_by fitting quits s r rs) ≤ length (r ∷ rs)
      by false quits others onward = omega (arith, others)
      by true true others onward = omega arith
      by true false others onward = omega (arith, onward)

pub alone_never : NeverLaw
unfolding alone
alone_never limits requests = never limits fresh requests

pub alone_count : CountLaw
unfolding alone
alone_count limits requests = few limits fresh requests

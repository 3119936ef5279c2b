-- The answer to one request of a session, and those to the ones after it.
use Rattle.std.specs.Prelude.{if◌then◌else◌}
use Rattle.std.proofs.Common.{◌≡◌, ℕ, List, [], ◌∷◌, ◌++◌, ◌||◌, Bool, true, false, refl, sym, ap, ◌∙◌}
use Rattle.aud_text.specs.declared.refusal.Refusal.TheVariants as refusal
use Rattle.aud_text.specs.declared.limits.Limits.{Limits}
use Rattle.aud_bench.specs.declared.request.Request.{Request}
use Rattle.aud_bench.specs.declared.request.Answer.{Answer}
use Rattle.aud_bench.specs.declared.request.Answer.TheVariants as answer
use Rattle.aud_bench.specs.Size.{size}
use Rattle.aud_bench.specs.Alone.{Server, is_quit, has_room, fits, fresh, kept, replied, answers_after, answers_from, alone}
use Rattle.aud_bench.proofs.Truths.{or_left}

module _ (limits : Limits) (s : Server) (r : Request) (rs : List Request) where
  pub not_kept : fits s.requests s.bytes r ≡ false → answers_from limits s (r ∷ rs) ≡ answer.Refused refusal.JournalFull ∷ answers_from limits s rs
  not_kept e = ap (λ b. if b then answers_after (is_quit r) (replied limits s.loaded r) (λ loaded. answers_from limits (kept s r loaded) rs) else answer.Refused refusal.JournalFull ∷ answers_from limits s rs) e

  where_kept : fits s.requests s.bytes r ≡ true → answers_from limits s (r ∷ rs) ≡ answers_after (is_quit r) (replied limits s.loaded r) (λ loaded. answers_from limits (kept s r loaded) rs)
  where_kept e = ap (λ b. if b then answers_after (is_quit r) (replied limits s.loaded r) (λ loaded. answers_from limits (kept s r loaded) rs) else answer.Refused refusal.JournalFull ∷ answers_from limits s rs) e

  pub last_one : fits s.requests s.bytes r ≡ true → is_quit r ≡ true → answers_from limits s (r ∷ rs) ≡ (replied limits s.loaded r).answer ∷ []
  last_one e quit = where_kept e ∙ ap (λ b. answers_after b (replied limits s.loaded r) (λ loaded. answers_from limits (kept s r loaded) rs)) quit

  pub goes_on : fits s.requests s.bytes r ≡ true → is_quit r ≡ false → answers_from limits s (r ∷ rs) ≡ (replied limits s.loaded r).answer ∷ answers_from limits (kept s r (replied limits s.loaded r).loaded) rs
  goes_on e stays = where_kept e ∙ ap (λ b. answers_after b (replied limits s.loaded r) (λ loaded. answers_from limits (kept s r loaded) rs)) stays

-- requests that follow leave the answers to those before them
answers_front : (limits : Limits) (s : Server) (some more : List Request) → (rest : List Answer) × (answers_from limits s (some ++ more) ≡ answers_from limits s some ++ rest)
answers_front limits s [] more = (answers_from limits s more, refl)
answers_front limits s (r ∷ some) more =
    by (fits s.requests s.bytes r) (is_quit r) (answers_front limits s some more) (answers_front limits (kept s r (replied limits s.loaded r).loaded) some more)
  where
    by : (b q : Bool) → ((rest : List Answer) × (answers_from limits s (some ++ more) ≡ answers_from limits s some ++ rest))
        → ((rest : List Answer) × (answers_from limits (kept s r (replied limits s.loaded r).loaded) (some ++ more) ≡ answers_from limits (kept s r (replied limits s.loaded r).loaded) some ++ rest))
        → (rest : List Answer) × ((if b then answers_after q (replied limits s.loaded r) (λ loaded. answers_from limits (kept s r loaded) (some ++ more)) else answer.Refused refusal.JournalFull ∷ answers_from limits s (some ++ more))
        ≡ (if b then answers_after q (replied limits s.loaded r) (λ loaded. answers_from limits (kept s r loaded) some) else answer.Refused refusal.JournalFull ∷ answers_from limits s some) ++ rest)
    by false q others onward = (others.0, ap (λ answers. answer.Refused refusal.JournalFull ∷ answers) others.1)
    by true true others onward = ([], refl)
    by true false others onward = (onward.0, ap (λ answers. (replied limits s.loaded r).answer ∷ answers) onward.1)

pub alone_front : (limits : Limits) (some more : List Request) → (rest : List Answer) × (alone limits (some ++ more) ≡ alone limits some ++ rest)
unfolding alone
alone_front limits some more = answers_front limits fresh some more

-- ---- whether a QUIT was answered

pub quit_stays : (over quits : Bool) → over ≡ true → over ≡ (over || quits)
quit_stays true quits e = refl
quit_stays false quits e = absurd (cc)

pub quit_comes : (over quits : Bool) → quits ≡ true → true ≡ (over || quits)
quit_comes true quits e = refl
quit_comes false quits e = sym e

pub quit_none : (over quits : Bool) → quits ≡ false → over ≡ (over || quits)
quit_none true quits e = refl
quit_none false quits e = sym e

-- a request that does not fit is no QUIT
pub unfit_goes_on : (requests bytes : ℕ) (r : Request) → fits requests bytes r ≡ false → is_quit r ≡ false
unfit_goes_on requests bytes r = or_left (is_quit r) (has_room requests bytes (size r))

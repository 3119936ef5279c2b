-- How far the work on a list of requests is.
use Rattle.std.specs.Prelude.{◌≡◌, ℕ, ◌+◌, ◌≤◌, List, [], ◌∷◌, ◌++◌, length, take, drop, Option, None, Bool, false}
use Rattle.aud_text.specs.declared.limits.Limits.{Limits}
use Rattle.aud_machine.specs.Shown.{Shown}
use Rattle.aud_bench.specs.declared.request.Request.{Request}
use Rattle.aud_bench.specs.declared.request.Answer.{Answer}
use Rattle.aud_bench.specs.Alone.{Loaded, replied, cost}
use Rattle.aud_bench.specs.Seen.{told}
use Rattle.aud_bench.specs.Ties.Serving.{IsLoaded, UnderWay}

-- what is loaded after requests
abbrev pub loaded_after : Limits → Option Loaded → List Request → Option Loaded
loaded_after limits loaded [] = loaded
loaded_after limits loaded (r ∷ rs) = loaded_after limits (replied limits loaded r).loaded rs

-- the answers to requests
abbrev pub answers_to : Limits → Option Loaded → List Request → List Answer
answers_to limits loaded [] = []
answers_to limits loaded (r ∷ rs) = (replied limits loaded r).answer ∷ answers_to limits (replied limits loaded r).loaded rs

-- the units that the finished requests cost, and those that are done of the next one
abbrev pub units_done : Limits → List Request → (finished progress : ℕ) → ℕ
units_done limits journal finished progress = cost limits (take finished journal) + progress

-- some units of the first of these requests are done, and it is not answered yet
abbrev pub AtFirst : Limits → Option Loaded → List Request → ℕ → Option Shown → Type 0
AtFirst limits loaded [] progress machine = (progress ≡ 0) × IsLoaded limits machine loaded
AtFirst limits loaded (r ∷ rs) progress machine = UnderWay limits r loaded progress machine

-- the answers to the finished requests, and behind them, where memory is refused, that it is
abbrev pub answers_at : Limits → List Request → (finished : ℕ) → Bool → List Answer
answers_at limits journal finished spent = answers_to limits None (take finished journal) ++ told spent

-- the first requests are finished, and the next one is under way; some of the answers were taken out, and these are the others
pub record IsAt (limits : Limits) (journal : List Request) (finished progress taken : ℕ) (answers : List Answer) (spent : Bool) (machine : Option Shown) : Type 0 where
  pub known : finished ≤ length journal
  pub taken_within : taken ≤ length (answers_at limits journal finished spent)
  pub answers_are : answers ≡ drop taken (answers_at limits journal finished spent)
  -- a machine, which is the one at hand as long as memory is not refused
  pub shown : Option Shown
  pub at_hand : spent ≡ false → shown ≡ machine
  pub next : AtFirst limits (loaded_after limits None (take finished journal)) (drop finished journal) progress shown

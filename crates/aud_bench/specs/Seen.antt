-- A bench as its callers see it.
use Rattle.std.specs.Prelude.{ℕ, ◌-◌, List, [], ◌∷◌, ◌++◌, length, drop, Bool, true, false, ◌||◌}
use Rattle.aud_text.specs.declared.refusal.Refusal.TheVariants.{OutOfMemory}
use Rattle.aud_text.specs.declared.limits.Limits.{Limits}
use Rattle.aud_bench.specs.declared.request.Request.{Request}
use Rattle.aud_bench.specs.declared.request.Answer.{Answer}
use Rattle.aud_bench.specs.declared.request.Answer.TheVariants.{Refused}
use Rattle.aud_bench.specs.Alone.{is_quit, fits, made}
use Rattle.aud_bench.specs.Size.{bytes_of}

-- its limits, the requests given and kept, the units of work done on them, how many of its answers were taken out, and whether it is
-- spent, where memory is refused
pub record Seen : Type 0 where
  pub limits : Limits
  pub journal : List Request
  pub units : ℕ
  pub taken : ℕ
  pub spent : Bool

-- a QUIT is among the requests
abbrev pub has_quit : List Request → Bool
has_quit [] = false
has_quit (r ∷ rs) = is_quit r || has_quit rs

-- the session is over
abbrev pub is_closed : Seen → Bool
is_closed bench = bench.spent || has_quit bench.journal

-- a request fits behind those of the journal
abbrev pub fits_behind : Seen → Request → Bool
fits_behind bench r = fits (length bench.journal) (bytes_of bench.journal) r

-- the bench with one request more
abbrev pub with_request : Seen → Request → Seen
with_request bench r = record bench { journal = bench.journal ++ r ∷ [] }

-- the answers that the units come to
abbrev pub made_by : Seen → List Answer
made_by bench = made bench.limits bench.journal bench.units

-- what is answered behind them where memory is refused
abbrev pub told : Bool → List Answer
told false = []
told true = Refused OutOfMemory ∷ []

-- whether an answer tells that
abbrev pub tells_memory : Answer → Bool
tells_memory (Refused OutOfMemory) = true
tells_memory _ = false

-- all answers that the bench ever made
abbrev pub answers_of : Seen → List Answer
answers_of bench = made_by bench ++ told bench.spent

-- those of them that it still holds
abbrev pub untaken : Seen → List Answer
untaken bench = drop bench.taken (answers_of bench)

-- how many requests are not answered yet
abbrev pub unanswered : Seen → ℕ
unanswered bench = length bench.journal - length (made_by bench)

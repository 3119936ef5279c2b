-- A pass as its callers see it.
use Rattle.std.specs.Prelude.{◌≡◌, ℕ, List, [], ◌∷◌, ◌++◌, Bool, true, false}
use Rattle.aud_text.specs.declared.limits.Limits.{Limits}
use Rattle.aud_text.specs.declared.refusal.Refusal.TheVariants.{OutOfMemory}
use Rattle.aud_bench.specs.declared.request.Request.{Request}
use Rattle.aud_bench.specs.declared.request.Answer.{Answer}
use Rattle.aud_bench.specs.declared.request.Answer.TheVariants.{Refused}
use Rattle.aud_bench.specs.Alone.{alone}
use Rattle.aud_bench.specs.Seen.{told}
pub use Rattle.aud_hall.specs.Numbered.{IsPrefix}

-- the seat, its limits, what was sent, and what was got
pub record Passed : Type 0 where
  pub seat : ℕ
  pub limits : Limits
  pub sent : List Request
  pub got : List Answer

abbrev pub tells_memory : Answer → Bool
tells_memory (Refused OutOfMemory) = true
tells_memory _ = false

-- the last answer tells that memory is out
abbrev pub is_over : List Answer → Bool
is_over [] = false
is_over (a ∷ []) = tells_memory a
is_over (a ∷ b ∷ answers) = is_over (b ∷ answers)

-- a prefix of the answers of a private server to what was sent; or one, and then that memory is out
abbrev pub IsGot : Limits → List Request → List Answer → Type 0
IsGot limits sent got = (front : List Answer) × (got ≡ front ++ told (is_over got)) × IsPrefix front (alone limits sent)

-- a new pass of this seat, which has these limits
abbrev pub opened : ℕ → Limits → Passed
opened seat limits = record { seat = seat; limits = limits; sent = []; got = [] }

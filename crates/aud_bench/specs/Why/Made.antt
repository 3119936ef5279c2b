-- How what is made of requests, and what they cost, grow with the requests and with the units.
use Rattle.std.specs.Prelude.{◌≡◌, ℕ, ◌+◌, ◌<◌, ◌≤◌, List, ◌++◌, length}
use Rattle.aud_text.specs.declared.limits.Limits.{Limits}
use Rattle.aud_bench.specs.declared.request.Request.{Request}
use Rattle.aud_bench.specs.declared.request.Answer.{Answer}
use Rattle.aud_bench.specs.Alone.{cost, made}

-- requests that are given later change nothing of what is made
abbrev pub MoreLaw : Type 0
MoreLaw = (limits : Limits) (journal more : List Request) (units : ℕ) → units ≤ cost limits journal → made limits (journal ++ more) units ≡ made limits journal units

-- what more units make begins with what fewer make
abbrev pub GrowsLaw : Type 0
GrowsLaw = (limits : Limits) (journal : List Request) (units more : ℕ) → units ≤ more → (rest : List Answer) × (made limits journal more ≡ made limits journal units ++ rest)

-- there are at most as many answers as requests: fewer while units are left, and as many where none is
pub record Short (limits : Limits) (journal : List Request) (units : ℕ) : Type 0 where
  pub within : length (made limits journal units) ≤ length journal
  pub fewer : units < cost limits journal → length (made limits journal units) < length journal
  pub whole : units ≡ cost limits journal → length (made limits journal units) ≡ length journal

abbrev pub ShortLaw : Type 0
ShortLaw = (limits : Limits) (journal : List Request) (units : ℕ) → Short limits journal units

-- each request that is given later costs a unit at least
abbrev pub CostLaw : Type 0
CostLaw = (limits : Limits) (journal more : List Request) → cost limits journal + length more ≤ cost limits (journal ++ more)

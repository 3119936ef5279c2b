-- The requests that a bench keeps, and what that makes of its answers.
use Rattle.std.specs.Prelude.{◌≡◌, ℕ, ◌+◌, ◌≤◌, length, List, [], ◌∷◌, ◌++◌, Bool, true, false, ◌&&◌}
use Rattle.std.specs.List.{list_any}
use Rattle.aud_text.specs.declared.limits.Limits.{Limits}
use Rattle.aud_bench.specs.declared.request.Request.{Request}
use Rattle.aud_bench.specs.declared.request.Answer.{Answer}
use Rattle.aud_bench.specs.Alone.{is_quit, fits, cost, made, alone}
use Rattle.aud_bench.specs.Seen.{tells_memory}
use Rattle.aud_bench.specs.Size.{size}

-- no request follows one that ends the session
abbrev pub ends_there : Bool → List Request → Bool
ends_there true [] = true
ends_there true (r ∷ rs) = false
ends_there false rs = true

-- behind others, of which there are this many requests and bytes, each fits, and none follows a QUIT
abbrev pub kept_behind : (requests bytes : ℕ) → List Request → Bool
kept_behind requests bytes [] = true
kept_behind requests bytes (r ∷ rs) = fits requests bytes r && (ends_there (is_quit r) rs && kept_behind (requests + 1) (bytes + size r) rs)

abbrev pub is_kept : List Request → Bool
is_kept journal = kept_behind 0 0 journal

-- what is made of kept requests is a front of the answers to them
abbrev pub FrontLaw : Type 0
FrontLaw = (limits : Limits) (journal : List Request) (units : ℕ) → is_kept journal ≡ true → (rest : List Answer) × (alone limits journal ≡ made limits journal units ++ rest)

-- and all of it, where all units are done that they cost
abbrev pub WholeLaw : Type 0
WholeLaw = (limits : Limits) (journal : List Request) → is_kept journal ≡ true → alone limits journal ≡ made limits journal (cost limits journal)

-- a private server never answers that memory is out
abbrev pub NeverLaw : Type 0
NeverLaw = (limits : Limits) (requests : List Request) → list_any tells_memory (alone limits requests) ≡ false

-- and gives no more answers than there are requests
abbrev pub CountLaw : Type 0
CountLaw = (limits : Limits) (requests : List Request) → length (alone limits requests) ≤ length requests

-- How far the clock of what is loaded may be.
use Rattle.std.specs.Prelude.{ℕ, ◌+◌, ◌≤◌, List, [], ◌∷◌, Option, Some, None, Bool, true, ◌&&◌, nat_le}
use Rattle.aud_text.specs.declared.limits.TheConstants.{CLOCK, WAIT}
use Rattle.aud_bench.specs.declared.request.Request.{Request}
use Rattle.aud_bench.specs.declared.request.Request.TheVariants as request
use Rattle.aud_bench.specs.Alone.{Loaded}

-- the time on the clock
abbrev pub clock_of : Option Loaded → ℕ
clock_of None = 0
clock_of (Some loaded) = loaded.now.clock

-- there is time for one ADVANCE more
abbrev pub HasTime : Option Loaded → Type 0
HasTime loaded = clock_of loaded + WAIT ≤ CLOCK

-- the clock has room for what the request asks of it
abbrev pub HasRoom : Request → Option Loaded → Type 0
HasRoom (request.Load source) loaded = Unit {0}
HasRoom request.Reset loaded = Unit {0}
HasRoom (request.Run n) loaded = Unit {0}
HasRoom (request.Step n) loaded = Unit {0}
HasRoom (request.Choose choices) loaded = Unit {0}
HasRoom (request.Advance milliseconds) loaded = HasTime loaded
HasRoom request.Clock loaded = Unit {0}
HasRoom (request.List listing) loaded = Unit {0}
HasRoom request.Output loaded = Unit {0}
HasRoom (request.Seat number) loaded = Unit {0}
HasRoom request.Quit loaded = Unit {0}
HasRoom (request.Bad why) loaded = Unit {0}

-- an ADVANCE asks for no more time than one may
abbrev pub is_brief : Request → Bool
is_brief (request.Load source) = true
is_brief request.Reset = true
is_brief (request.Run n) = true
is_brief (request.Step n) = true
is_brief (request.Choose choices) = true
is_brief (request.Advance milliseconds) = nat_le milliseconds WAIT
is_brief request.Clock = true
is_brief (request.List listing) = true
is_brief request.Output = true
is_brief (request.Seat number) = true
is_brief request.Quit = true
is_brief (request.Bad why) = true

abbrev pub are_brief : List Request → Bool
are_brief [] = true
are_brief (r ∷ rs) = is_brief r && are_brief rs

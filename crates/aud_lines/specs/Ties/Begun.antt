-- What a stream has begun behind its last whole request, without the bytes that change nothing.
use Rattle.std.specs.Prelude.{◌≡◌, ℕ, zero, suc, ◌+◌, ◌≤◌, List, [], ◌++◌, length, Option}
use Rattle.aud_text.specs.declared.limits.TheConstants.{LINE, REQUEST_BYTES}
use Rattle.aud_bench.specs.declared.request.BadRequest.{BadRequest}
use Rattle.aud_bench.specs.declared.request.Request.{Request}
use Rattle.aud_lines.specs.Lines.{lines_of}
use Rattle.aud_lines.specs.Requests.{Reading, Ready, Gathering, requests_from}

-- a LOAD that is under way, if one is, and a line that has not ended
pub record Begun : Type 0 where
  pub reading : Reading
  pub line : List ℕ

abbrev pub nothing : Begun
nothing = record { reading = Ready; line = [] }

-- a LOAD is under way where lines of it are missing
abbrev pub reading_of : ℕ → List ℕ → Option BadRequest → Reading
reading_of zero source fault = Ready
reading_of (suc left) source fault = Gathering (suc left) source fault

-- the requests of a stream that goes on behind it
unfoldable pub requests_behind : Begun → List ℕ → List Request
requests_behind begun more = requests_from (lines_of (begun.line ++ more)) begun.reading

-- a source has as many bytes as no journal has room for, and no more
abbrev pub IsShortLoad : Reading → Type 0
IsShortLoad Ready = Unit {0}
IsShortLoad (Gathering missing source fault) = length source ≤ REQUEST_BYTES + 1

-- and a line as many as show that it is too long
abbrev pub IsShort : Begun → Type 0
IsShort begun = IsShortLoad begun.reading × (length begun.line ≤ LINE + 1)

-- and it has not ended
abbrev pub IsBegun : Begun → Type 0
IsBegun begun = IsShort begun × (lines_of begun.line ≡ [])

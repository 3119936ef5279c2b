-- The requests of a stream of bytes.
use Rattle.std.specs.Prelude.{ℕ, zero, suc, ◌+◌, List, [], ◌∷◌, ◌++◌, length, take, Option, Some, None, Bool, true, false, nat_le, nat_lt, ◌&&◌, if◌then◌else◌, codes}
use Rattle.std.specs.Str.{bytes_eq}
use Rattle.aud_text.specs.declared.limits.TheConstants.{CHOICE, LINE, LINES, MOVE, REQUEST_BYTES, RUN, SEAT, TASK, WAIT}
use Rattle.aud_bench.specs.Listings as listing
use Rattle.aud_bench.specs.declared.request.BadRequest.{BadRequest}
use Rattle.aud_bench.specs.declared.request.BadRequest.TheVariants as bad
use Rattle.aud_bench.specs.declared.request.Request.{Request}
use Rattle.aud_bench.specs.declared.request.Request.TheVariants as request
use Rattle.aud_lines.specs.Lines.{lines_of, trimmed, words_of, number_of}

abbrev pub has_high_byte : List ℕ → Bool
has_high_byte [] = false
has_high_byte (byte ∷ bytes) = if nat_lt 127 byte then true else has_high_byte bytes

-- what is wrong with a line, as it came
abbrev pub line_fault : List ℕ → Option BadRequest
line_fault line = if nat_lt LINE (length line) then Some bad.LineTooLong else if has_high_byte line then Some bad.NotAscii else None

-- what a request's first line asks
pub data Command : Type 0 where
  -- a request of one line
  Whole : Request → Command
  -- a LOAD of n lines
  Loads : ℕ → Command

abbrev pub wrong_argument : Command
wrong_argument = Whole (request.Bad bad.BadArgument)

abbrev pub ranged : ℕ → ℕ → Option ℕ → (ℕ → Command) → Command
ranged low high None use_of = wrong_argument
ranged low high (Some n) use_of = if nat_le low n && nat_le n high then use_of n else wrong_argument

-- one number in a range
abbrev pub one_number : ℕ → ℕ → List (List ℕ) → (ℕ → Command) → Command
one_number low high [] use_of = wrong_argument
one_number low high (word ∷ []) use_of = ranged low high (number_of word) use_of
one_number low high (word ∷ other ∷ others) use_of = wrong_argument

-- numbers in a range, each word one, behind others
abbrev pub numbers_behind : ℕ → ℕ → List ℕ → List (List ℕ) → (List ℕ → Command) → Command
numbers_behind low high numbers [] use_of = use_of numbers
numbers_behind low high numbers (word ∷ words) use_of = ranged low high (number_of word) (λ n. numbers_behind low high (numbers ++ n ∷ []) words use_of)

-- numbers in a range, of which there is one at least
abbrev pub some_numbers : ℕ → ℕ → List (List ℕ) → (List ℕ → Command) → Command
some_numbers low high [] use_of = wrong_argument
some_numbers low high (word ∷ words) use_of = numbers_behind low high [] (word ∷ words) use_of

abbrev pub no_argument : List (List ℕ) → Request → Command
no_argument [] r = Whole r
no_argument (word ∷ words) r = wrong_argument

abbrev pub command_of : List (List ℕ) → Command
command_of [] = Whole (request.Bad bad.UnknownCommand)
command_of (word ∷ arguments) =
    if bytes_eq word (codes "LOAD") then one_number 0 LINES arguments (λ n. Loads n)
    else if bytes_eq word (codes "RESET") then no_argument arguments request.Reset
    else if bytes_eq word (codes "RUN") then one_number 1 RUN arguments (λ n. Whole (request.Run n))
    else if bytes_eq word (codes "STEP") then one_number 0 MOVE arguments (λ n. Whole (request.Step n))
    else if bytes_eq word (codes "CHOOSE") then some_numbers 0 CHOICE arguments (λ choices. Whole (request.Choose choices))
    else if bytes_eq word (codes "ADVANCE") then one_number 0 WAIT arguments (λ n. Whole (request.Advance n))
    else if bytes_eq word (codes "CLOCK") then no_argument arguments request.Clock
    else if bytes_eq word (codes "MOVES") then no_argument arguments (request.List listing.Moves)
    else if bytes_eq word (codes "TASKS") then no_argument arguments (request.List listing.Tasks)
    else if bytes_eq word (codes "QUEUES") then no_argument arguments (request.List listing.Queues)
    else if bytes_eq word (codes "OBJECTS") then no_argument arguments (request.List listing.Objects)
    else if bytes_eq word (codes "WAITS") then no_argument arguments (request.List listing.Waits)
    else if bytes_eq word (codes "VARS") then one_number 0 TASK arguments (λ n. Whole (request.List (listing.Variables n)))
    else if bytes_eq word (codes "OUTPUT") then no_argument arguments request.Output
    else if bytes_eq word (codes "SEAT") then one_number 0 SEAT arguments (λ n. Whole (request.Seat n))
    else if bytes_eq word (codes "QUIT") then no_argument arguments request.Quit
    else Whole (request.Bad bad.UnknownCommand)

abbrev pub command_by : Option BadRequest → List ℕ → Command
command_by (Some why) line = Whole (request.Bad why)
command_by None line = command_of (words_of (trimmed line))

abbrev pub command : List ℕ → Command
command line = command_by (line_fault line) line

-- the lines of a LOAD that are still to come, its source so far, and the fault of its first bad line
pub data Reading : Type 0 where
  Ready : Reading
  Gathering : ℕ → List ℕ → Option BadRequest → Reading

-- the first fault stays
abbrev pub first_fault : Option BadRequest → Option BadRequest → Option BadRequest
first_fault (Some why) other = Some why
first_fault None other = other

-- a source that no journal has room for is refused whatever it is, so of a longer one the first bytes stand for all
abbrev pub load_of : List ℕ → Option BadRequest → Request
load_of source (Some why) = request.Bad why
load_of source None = request.Load (take (REQUEST_BYTES + 1) source)

-- with the lines of a LOAD so far: the request where none is left to come
abbrev pub gathered : ℕ → List ℕ → Option BadRequest → (Reading → List Request) → List Request
gathered zero source fault others = load_of source fault ∷ others Ready
gathered (suc left) source fault others = others (Gathering (suc left) source fault)

abbrev pub requests_from : List (List ℕ) → Reading → List Request
requests_from [] reading = []
requests_from (line ∷ lines) Ready = (elim (command line) as (λ _. List Request) [
  | Whole r ↦ r ∷ requests_from lines Ready
  | Loads k ↦ gathered k [] None (requests_from lines)
])
requests_from (line ∷ lines) (Gathering zero source fault) = []
requests_from (line ∷ lines) (Gathering (suc left) source fault) =
    gathered left (source ++ (trimmed line ++ 10 ∷ [])) (first_fault fault (line_fault line)) (requests_from lines)

-- the requests of all bytes of a stream, in order; a LOAD whose lines do not all come is none
unfoldable pub requests : List ℕ → List Request
requests bytes = requests_from (lines_of bytes) Ready

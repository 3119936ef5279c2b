-- What a request's first line asks, as it is kept in memory.
use Rattle.std.specs.Prelude.{ℕ, List, [], Option, Some, None}
use Rattle.aud_bench.specs.declared.request.Request.{Request}
use Rattle.aud_lines.specs.declared.commands.Command.{Command as Kept}
use Rattle.aud_lines.specs.declared.commands.Command.TheVariants as kept
use Rattle.aud_lines.specs.Lines.{lines_of}
use Rattle.aud_lines.specs.Requests.{Command, Whole, Loads, wrong_argument, gathered, requests_from}

abbrev pub asked : Kept → Command
asked (kept.Whole r) = Whole r
asked (kept.Loads n) = Loads n

-- with what the arguments say, if they are as they have to be
abbrev pub given : {A : Type 0} → Option A → (A → Command) → Command
given None use_of = wrong_argument
given (Some n) use_of = use_of n

-- the requests behind the first line of a LOAD of n lines, with which the bytes begin
abbrev pub load_requests : ℕ → List ℕ → List Request
load_requests n bytes = gathered n [] None (requests_from (lines_of bytes))

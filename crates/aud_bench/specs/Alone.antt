-- A private server, of one user alone: what it answers to a list of requests, and how many units each costs.
use Rattle.std.specs.Prelude.{ℕ, ◌+◌, ◌-◌, min, max, List, [], ◌∷◌, length, Option, Some, None, Result, Ok, Err, Bool, true, false, ◌==◌, nat_lt, nat_le, ◌&&◌, ◌||◌, if◌then◌else◌, slice_get, slice_index_or}
use Rattle.aud_text.specs.declared.refusal.Refusal.{Refusal}
use Rattle.aud_text.specs.declared.refusal.Refusal.TheVariants as refusal
use Rattle.aud_text.specs.declared.limits.Limits.{Limits}
use Rattle.aud_text.specs.declared.limits.TheConstants.{STEPS, CHOICES, REQUESTS, REQUEST_BYTES}
use Rattle.aud_typed.specs.declared.program.Exception.{Exception}
use Rattle.aud_typed.specs.declared.program.Exception.TheVariants as exception
use Rattle.aud_typed.specs.Tree as tree
use Rattle.aud_meaning.specs.declared.state.State.{State}
use Rattle.aud_meaning.specs.declared.state.State.TheVariants as state
use Rattle.aud_meaning.specs.Configuration.{Configuration}
use Rattle.aud_meaning.specs.declared.state.Move.{Move}
use Rattle.aud_meaning.specs.Run.{opening, step, run, moves_in, state_in, main_raised, supplied, advanced}
use Rattle.aud_meaning.specs.Listings.{view}
use Rattle.aud_debug.specs.declared.lines.Lines.{Lines}
use Rattle.aud_debug.specs.declared.listing.Listing.{Listing}
use Rattle.aud_debug.specs.Listed.{listed}
use Rattle.aud_bench.specs.declared.request.Raised.{Raised}
use Rattle.aud_bench.specs.declared.request.Raised.TheVariants.{Predefined, Declared}
use Rattle.aud_bench.specs.declared.request.Report.{Report}
use Rattle.aud_bench.specs.declared.request.Request.{Request}
use Rattle.aud_bench.specs.declared.request.Request.TheVariants as request
use Rattle.aud_bench.specs.declared.request.BadRequest.{BadRequest}
use Rattle.aud_bench.specs.declared.request.BadRequest.TheVariants as bad
use Rattle.aud_bench.specs.declared.request.Answer.{Answer}
use Rattle.aud_bench.specs.declared.request.Answer.TheVariants as answer
use Rattle.aud_bench.specs.Size.{size}
use Rattle.aud_bench.specs.Loading.{program_of}

-- the program that is loaded, and how far it is
pub record Loaded : Type 0 where
  pub program : tree.Program
  pub now : Configuration

-- the requests kept so far and their bytes, and what is loaded
pub record Server : Type 0 where
  pub requests : ℕ
  pub bytes : ℕ
  pub loaded : Option Loaded

-- an answer, what is loaded then, and the units that the request cost
pub record Reply : Type 0 where
  pub answer : Answer
  pub loaded : Option Loaded
  pub cost : ℕ

abbrev pub answers_only : Answer → Option Loaded → Reply
answers_only a loaded = record { answer = a; loaded = loaded; cost = 1 }

-- a refused LOAD leaves what was loaded before
abbrev pub load_reply : Result tree.Program Answer → Option Loaded → Reply
load_reply (Ok program) loaded = answers_only (answer.Loaded program.name) (Some (record { program = program; now = opening program }))
load_reply (Err refusal) loaded = answers_only refusal loaded

-- a reply by what is loaded; a refusal where nothing is
abbrev pub if_loaded : (Loaded → Reply) → Option Loaded → Reply
if_loaded reply None = answers_only (answer.Refused refusal.NoProgram) None
if_loaded reply (Some loaded) = reply loaded

-- an exception, and the name of one that the program declares
abbrev pub named : List (List ℕ) → Exception → Raised
named names (exception.Predefined raise) = Predefined raise
named names (exception.Declared n) = Declared (slice_index_or names n [])

abbrev pub named_if : List (List ℕ) → Option Exception → Option Raised
named_if names None = None
named_if names (Some x) = Some (named names x)

-- the exception that ended the program
abbrev pub ended_by : State → Option Raised → Option Raised
ended_by state.Ended raised = raised
ended_by state.OutputFull raised = None
ended_by state.More raised = None
ended_by (state.Waiting time) raised = None
ended_by state.Stuck raised = None

abbrev pub report : tree.Program → Configuration → Configuration → Report
report program before after = record {
  steps = after.steps - before.steps;
  state = state_in program after;
  raised = ended_by (state_in program after) (named_if program.plan.exceptions (main_raised after.tasks));
}

abbrev pub ran_reply : Loaded → Configuration → Reply
ran_reply loaded after = record {
  answer = answer.Ran (report loaded.program loaded.now after);
  loaded = Some (record { program = loaded.program; now = after });
  cost = max 1 (after.steps - loaded.now.steps);
}

-- what is left of the steps that a LOAD gives
abbrev pub steps_left : Configuration → ℕ
steps_left c = STEPS - c.steps

-- nothing is done where no step is left
abbrev pub within_budget : (Loaded → Reply) → Loaded → Reply
within_budget reply loaded = if steps_left loaded.now == 0 then answers_only (answer.Refused refusal.StepBudget) (Some loaded) else reply loaded

abbrev pub run_reply : Limits → ℕ → Option Loaded → Reply
run_reply limits n = if_loaded (within_budget (λ loaded. ran_reply loaded (run limits loaded.program (min n (steps_left loaded.now)) loaded.now)))

-- the move is taken, where there is such a one
abbrev pub stepped_reply : Limits → Option Move → Loaded → Reply
stepped_reply limits None loaded = answers_only (answer.Refused refusal.NoSuchMove) (Some loaded)
stepped_reply limits (Some move) loaded = ran_reply loaded (step limits loaded.program loaded.now move)

-- no choice is used
abbrev pub step_reply : Limits → ℕ → Option Loaded → Reply
step_reply limits n = if_loaded (within_budget (λ loaded. stepped_reply limits (slice_get (moves_in loaded.program loaded.now) n) loaded))

-- the program begins anew
abbrev pub reset_reply : Option Loaded → Reply
reset_reply = if_loaded (λ loaded. answers_only answer.Done (Some (record loaded { now = opening loaded.program })))

abbrev pub chosen_reply : Loaded → Configuration → Reply
chosen_reply loaded after = answers_only (answer.Choices (length after.choices)) (Some (record loaded { now = after }))

-- choices are supplied all together, where there is room for them behind those that wait
abbrev pub choose_reply : List ℕ → Option Loaded → Reply
choose_reply choices = if_loaded (λ loaded.
    if nat_lt CHOICES (length loaded.now.choices + length choices) then answers_only (answer.Refused refusal.ChoicesFull) (Some loaded)
    else chosen_reply loaded (supplied choices loaded.now))

abbrev pub timed_reply : Loaded → Configuration → Reply
timed_reply loaded after = answers_only (answer.Clock after.clock) (Some (record loaded { now = after }))

abbrev pub advance_reply : ℕ → Option Loaded → Reply
advance_reply milliseconds = if_loaded (λ loaded. timed_reply loaded (advanced milliseconds loaded.now))

abbrev pub clock_reply : Option Loaded → Reply
clock_reply = if_loaded (λ loaded. answers_only (answer.Clock loaded.now.clock) (Some loaded))

abbrev pub listed_reply : Option Lines → Loaded → Reply
listed_reply None loaded = answers_only (answer.Refused refusal.NoSuchTask) (Some loaded)
listed_reply (Some lines) loaded = answers_only (answer.Listed lines) (Some loaded)

abbrev pub list_reply : Listing → Option Loaded → Reply
list_reply listing = if_loaded (λ loaded. listed_reply (listed listing (view loaded.program loaded.now)) loaded)

abbrev pub output_reply : Option Loaded → Reply
output_reply = if_loaded (λ loaded. answers_only (answer.Output loaded.now.shared.output) (Some loaded))

-- what a malformed request is answered
abbrev pub refusal_of : BadRequest → Refusal
refusal_of bad.UnknownCommand = refusal.UnknownCommand
refusal_of bad.BadArgument = refusal.BadArgument
refusal_of bad.LineTooLong = refusal.LineTooLong
refusal_of bad.NotAscii = refusal.NotAscii

abbrev pub replied : Limits → Option Loaded → Request → Reply
replied limits loaded (request.Load source) = load_reply (program_of limits source) loaded
replied limits loaded request.Reset = reset_reply loaded
replied limits loaded (request.Run n) = run_reply limits n loaded
replied limits loaded (request.Step n) = step_reply limits n loaded
replied limits loaded (request.Choose choices) = choose_reply choices loaded
replied limits loaded (request.Advance milliseconds) = advance_reply milliseconds loaded
replied limits loaded request.Clock = clock_reply loaded
replied limits loaded (request.List listing) = list_reply listing loaded
replied limits loaded request.Output = output_reply loaded
replied limits loaded (request.Seat number) = answers_only (answer.Refused refusal.UnknownCommand) loaded
replied limits loaded request.Quit = answers_only answer.Done loaded
replied limits loaded (request.Bad why) = answers_only (answer.Refused (refusal_of why)) loaded

abbrev pub is_quit : Request → Bool
is_quit request.Quit = true
is_quit (request.Load source) = false
is_quit request.Reset = false
is_quit (request.Run n) = false
is_quit (request.Step n) = false
is_quit (request.Choose choices) = false
is_quit (request.Advance milliseconds) = false
is_quit request.Clock = false
is_quit (request.List listing) = false
is_quit request.Output = false
is_quit (request.Seat number) = false
is_quit (request.Bad why) = false

abbrev pub has_room : (requests bytes more : ℕ) → Bool
has_room requests bytes more = nat_lt requests REQUESTS && nat_le (bytes + more) REQUEST_BYTES

-- whether a request fits behind others, by how many they are and by their bytes
abbrev pub fits : (requests bytes : ℕ) → Request → Bool
fits requests bytes r = is_quit r || has_room requests bytes (size r)

abbrev pub fresh : Server
fresh = record { requests = 0; bytes = 0; loaded = None }

abbrev pub kept : Server → Request → Option Loaded → Server
kept s r loaded = record { requests = s.requests + 1; bytes = s.bytes + size r; loaded = loaded }

-- an answer, and those to the requests after it; none follow a QUIT
abbrev pub answers_after : Bool → Reply → (Option Loaded → List Answer) → List Answer
answers_after true reply others = reply.answer ∷ []
answers_after false reply others = reply.answer ∷ others reply.loaded

-- the answers, one a request, up to and with that to the first QUIT; a request that does not fit is answered so and not kept
abbrev pub answers_from : Limits → Server → List Request → List Answer
answers_from limits s [] = []
answers_from limits s (r ∷ rs) =
    if fits s.requests s.bytes r then answers_after (is_quit r) (replied limits s.loaded r) (λ loaded. answers_from limits (kept s r loaded) rs)
    else answer.Refused refusal.JournalFull ∷ answers_from limits s rs

unfoldable pub alone : Limits → List Request → List Answer
alone limits requests = answers_from limits fresh requests

abbrev pub cost_after : Reply → (Option Loaded → ℕ) → ℕ
cost_after reply others = reply.cost + others reply.loaded

-- the units that kept requests cost, from what is loaded before them
abbrev pub cost_from : Limits → Option Loaded → List Request → ℕ
cost_from limits loaded [] = 0
cost_from limits loaded (r ∷ rs) = cost_after (replied limits loaded r) (λ next. cost_from limits next rs)

unfoldable pub cost : Limits → List Request → ℕ
cost limits requests = cost_from limits None requests

abbrev pub made_after : Reply → ℕ → (Option Loaded → ℕ → List Answer) → List Answer
made_after reply units others = if nat_le reply.cost units then reply.answer ∷ others reply.loaded (units - reply.cost) else []

-- the longest front of the answers to kept requests that cost at most n units together
abbrev pub made_from : Limits → Option Loaded → List Request → ℕ → List Answer
made_from limits loaded [] n = []
made_from limits loaded (r ∷ rs) n = made_after (replied limits loaded r) n (λ next left. made_from limits next rs left)

unfoldable pub made : Limits → List Request → ℕ → List Answer
made limits journal units = made_from limits None journal units

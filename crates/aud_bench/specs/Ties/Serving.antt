-- Work on one request, in one piece or in several.
use Rattle.std.specs.Prelude.{◌≡◌, ℕ, ◌+◌, ◌<◌, min, ◌⊎◌, Option, Some, None}
use Rattle.aud_text.specs.declared.limits.Limits.{Limits}
use Rattle.aud_typed.specs.Ties.View.{plain_program}
use Rattle.aud_meaning.specs.Run.{run}
use Rattle.aud_machine.specs.Shown.{Shown}
use Rattle.aud_machine.specs.Shows.{Shows}
use Rattle.aud_bench.specs.declared.request.Request.{Request}
use Rattle.aud_bench.specs.declared.request.Request.TheVariants as request
use Rattle.aud_bench.specs.declared.request.Answer.{Answer}
use Rattle.aud_bench.specs.declared.service.Served.{Served}
use Rattle.aud_bench.specs.Alone.{Loaded, Reply, steps_left, replied}
use Rattle.aud_bench.specs.Ties.Times.{HasTime, HasRoom}

-- a machine of the loaded program and with these limits, which shows how far the program is
pub record Holds (limits : Limits) (machine : Shown) (loaded : Loaded) : Type 0 where
  pub limits_are : machine.limits ≡ limits
  pub program_is : plain_program machine.program ≡ loaded.program
  pub shows : Shows machine loaded.now

-- the machine, if there is one, holds the program that is loaded
abbrev pub IsLoaded : Limits → Option Shown → Option Loaded → Type 0
IsLoaded limits None None = Unit {0}
IsLoaded limits None (Some loaded) = ⊥
IsLoaded limits (Some machine) None = ⊥
IsLoaded limits (Some machine) (Some loaded) = Holds limits machine loaded

-- an answer, and the machine after it, are those of the reply
pub record Replies (limits : Limits) (answer : Answer) (machine : Option Shown) (reply : Reply) : Type 0 where
  pub answer_is : answer ≡ reply.answer
  pub loaded : IsLoaded limits machine reply.loaded

-- they are those of the reply by what was loaded before
abbrev pub RepliesAs : (Option Loaded → Reply) → Limits → Option Shown → Answer → Option Shown → Type 0
RepliesAs reply limits before answer after = (loaded : Option Loaded) → IsLoaded limits before loaded → Replies limits answer after (reply loaded)

-- the same, where there is time for an ADVANCE
abbrev pub RepliesInTime : (Option Loaded → Reply) → Limits → Option Shown → Answer → Option Shown → Type 0
RepliesInTime reply limits before answer after = (loaded : Option Loaded) → HasTime loaded → IsLoaded limits before loaded → Replies limits answer after (reply loaded)

-- the answer to a request, if the clock has room for it
abbrev pub RepliesTo : Limits → Request → Option Shown → Answer → Option Shown → Type 0
RepliesTo limits r before answer after = (loaded : Option Loaded) → HasRoom r loaded → IsLoaded limits before loaded → Replies limits answer after (replied limits loaded r)

-- the program n steps on
abbrev pub behind_steps : Limits → ℕ → Option Loaded → Option Loaded
behind_steps limits n None = None
behind_steps limits n (Some loaded) = Some (record loaded { now = run limits loaded.program n loaded.now })

-- what is loaded while the request is under way: a RUN has done a step for each unit
abbrev pub behind : Limits → Request → ℕ → Option Loaded → Option Loaded
behind limits (request.Load source) done loaded = loaded
behind limits request.Reset done loaded = loaded
behind limits (request.Run n) done loaded = behind_steps limits done loaded
behind limits (request.Step n) done loaded = loaded
behind limits (request.Choose choices) done loaded = loaded
behind limits (request.Advance milliseconds) done loaded = loaded
behind limits request.Clock done loaded = loaded
behind limits (request.List listing) done loaded = loaded
behind limits request.Output done loaded = loaded
behind limits (request.Seat number) done loaded = loaded
behind limits request.Quit done loaded = loaded
behind limits (request.Bad why) done loaded = loaded

-- nothing is done yet, or some steps of the run, none of them the last that it may do
pub record HasRun (limits : Limits) (n done : ℕ) (loaded : Loaded) : Type 0 where
  pub steps : (run limits loaded.program done loaded.now).steps ≡ loaded.now.steps + done
  pub room : (done ≡ 0) ⊎ (done < min n (steps_left loaded.now))

abbrev pub EachStepped : Limits → Request → ℕ → Option Loaded → Type 0
EachStepped limits (request.Run n) done (Some loaded) = HasRun limits n done loaded
EachStepped limits (request.Run n) done None = Unit {0}
EachStepped limits (request.Load source) done loaded = Unit {0}
EachStepped limits request.Reset done loaded = Unit {0}
EachStepped limits (request.Step n) done loaded = Unit {0}
EachStepped limits (request.Choose choices) done loaded = Unit {0}
EachStepped limits (request.Advance milliseconds) done loaded = Unit {0}
EachStepped limits request.Clock done loaded = Unit {0}
EachStepped limits (request.List listing) done loaded = Unit {0}
EachStepped limits request.Output done loaded = Unit {0}
EachStepped limits (request.Seat number) done loaded = Unit {0}
EachStepped limits request.Quit done loaded = Unit {0}
EachStepped limits (request.Bad why) done loaded = Unit {0}

-- some units of the request are done, and it is not answered yet; this was loaded before it
pub record UnderWay (limits : Limits) (r : Request) (loaded : Option Loaded) (done : ℕ) (machine : Option Shown) : Type 0 where
  pub unanswered : done < (replied limits loaded r).cost
  pub is_behind : IsLoaded limits machine (behind limits r done loaded)
  pub stepped : EachStepped limits r done loaded

-- more work on a request of which some units were done: it is answered, and all that it costs is done; or it goes on, and the units
-- are used up
abbrev pub ServesBy : Option Answer → Limits → Request → Option Loaded → (done units cost after : ℕ) → Option Shown → Type 0
ServesBy (Some answer) limits r loaded done units cost after machine =
    Replies limits answer machine (replied limits loaded r) × (done + cost ≡ (replied limits loaded r).cost) × (after ≡ 0)
ServesBy None limits r loaded done units cost after machine =
    UnderWay limits r loaded after machine × (cost ≡ units) × (after ≡ done + units)

abbrev pub Serves : Limits → Request → Option Loaded → (done units : ℕ) → Served → Option Shown → Type 0
Serves limits r loaded done units served machine = ServesBy served.answer limits r loaded done units served.cost served.progress machine

-- it is work on the request, whatever was loaded before that, if the clock has room for it
abbrev pub GoesOn : Limits → Request → (done units : ℕ) → Option Shown → Served → Option Shown → Type 0
GoesOn limits r done units before served after = (loaded : Option Loaded) → HasRoom r loaded → UnderWay limits r loaded done before → Serves limits r loaded done units served after

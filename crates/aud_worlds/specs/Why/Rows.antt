-- Worked rows: what a hall replies to a list of events.
use Rattle.std.specs.Prelude.{◌≡◌, ℕ, List, [], ◌∷◌, Some, None, false, codes}
use Rattle.aud_text.specs.declared.limits.Limits.{Limits}
use Rattle.aud_text.specs.declared.limits.TheConstants.{STANDARD, LARGE}
use Rattle.aud_text.specs.declared.refusal.Refusal.TheVariants as refusal
use Rattle.aud_meaning.specs.declared.state.State.{State}
use Rattle.aud_meaning.specs.declared.state.State.TheVariants as state
use Rattle.aud_bench.specs.declared.request.Request.{Request}
use Rattle.aud_bench.specs.declared.request.Request.TheVariants.{Load, Run, Output}
use Rattle.aud_bench.specs.declared.request.Answer.{Answer}
use Rattle.aud_bench.specs.declared.request.Answer.TheVariants as answer
use Rattle.aud_bench.specs.Seen.{Seen as Bench}
use Rattle.aud_hall.specs.declared.fault.HallFault.TheVariants.{Memory}
use Rattle.aud_hall.specs.declared.why.Why.TheVariants.{NoSeat, OtherLimits, Differs, NotOut, Behind}
use Rattle.aud_hall.specs.declared.next.Next.TheVariants.{More, Idle}
use Rattle.aud_hall.specs.Replies.{Reply, Accepted, Refused, Sent, Worked, Taken, Stranger, Answers}
use Rattle.aud_worlds.specs.World.{Event, Claim, Submit, SendOut, Slice, CheckIn, Collect, Free, beginning, replies_to}
use Rattle.aud_worlds.specs.Session.{Began, Submitted, SentOut, Sliced, Returned, Strayed, Collected, Freed, session}
use Rattle.aud_worlds.specs.Mine.{outset, mine, replies_from}

abbrev pub two : List Limits
two = STANDARD ∷ STANDARD ∷ []

abbrev pub four : List Limits
four = STANDARD ∷ STANDARD ∷ STANDARD ∷ STANDARD ∷ []

abbrev pub gives : List Limits → List Event → List Reply → Type 0
gives limits events replies = replies_to (beginning limits) events ≡ replies

-- where no program is loaded, each OUTPUT and each RUN costs a unit, and is refused
abbrev pub no_program : Answer
no_program = answer.Refused refusal.NoProgram

-- one OUTPUT given, so many units done, so many answers taken out
abbrev pub one_output : (units taken : ℕ) → Bench
one_output units taken = record { limits = STANDARD; journal = Output ∷ []; units = units; taken = taken; spent = false }

abbrev pub two_outputs : (units taken : ℕ) → Bench
two_outputs units taken = record { limits = STANDARD; journal = Output ∷ Output ∷ []; units = units; taken = taken; spent = false }

-- ## Seats in turn

-- a parcel that is checked in at another seat comes back, and its own seat takes it in
abbrev pub AtAnotherSeat : Type 0
AtAnotherSeat = gives four
    (Claim 3 false ∷ Claim 4 false ∷ Submit 3 Output false ∷ SendOut 3 None ∷ CheckIn 0 4 ∷ Slice 0 5 None ∷ CheckIn 0 3 ∷ Collect 3 0 false ∷ [])
    (Accepted ∷ Accepted ∷ Accepted ∷ Sent (Some (one_output 0 0)) ∷ Stranger (Differs 0) ∷ Worked 1 0 ∷ Taken Idle ∷ Answers (no_program ∷ []) ∷ [])

-- two seats in turn; what is asked while a bench is out goes out with it the next time
abbrev pub TwoSeats : Type 0
TwoSeats = gives two
    (Claim 1 false ∷ Claim 2 false ∷ Submit 1 Output false ∷ Submit 2 (Run 5) false ∷ Submit 2 Output false
    ∷ SendOut 2 None ∷ Submit 2 Output false ∷ SendOut 2 None ∷ Slice 0 1 None ∷ CheckIn 0 2
    ∷ SendOut 1 None ∷ Slice 1 9 None ∷ CheckIn 1 1 ∷ Collect 1 0 false
    ∷ SendOut 2 None ∷ Slice 2 9 None ∷ CheckIn 2 2 ∷ Collect 2 1 false ∷ SendOut 2 None ∷ [])
    (Accepted ∷ Accepted ∷ Accepted ∷ Accepted ∷ Accepted
    ∷ Sent (Some (record { limits = STANDARD; journal = Run 5 ∷ Output ∷ []; units = 0; taken = 0; spent = false })) ∷ Accepted ∷ Sent None ∷ Worked 1 1 ∷ Taken More
    ∷ Sent (Some (one_output 0 0)) ∷ Worked 1 0 ∷ Taken Idle ∷ Answers (no_program ∷ [])
    ∷ Sent (Some (record { limits = STANDARD; journal = Run 5 ∷ Output ∷ Output ∷ []; units = 1; taken = 1; spent = false })) ∷ Worked 2 0 ∷ Taken Idle
    ∷ Answers (no_program ∷ no_program ∷ []) ∷ Sent None ∷ [])

-- two seats with a program each, which are run in turn
abbrev pub ends : Request
ends = Load (codes "procedure M is begin null; end M;\n")

abbrev pub loops : Request
loops = Load (codes "procedure M is begin loop null; end loop; end M;\n")

abbrev pub program : List Request → (units taken : ℕ) → Bench
program journal units taken = record { limits = STANDARD; journal = journal; units = units; taken = taken; spent = false }

abbrev pub ran : (steps : ℕ) → State → Answer
ran steps state = answer.Ran (record { steps = steps; state = state; raised = None })

abbrev pub TwoPrograms : Type 0
TwoPrograms = gives two
    (Claim 1 false ∷ Claim 2 false ∷ Submit 1 ends false ∷ Submit 2 loops false ∷ Submit 1 (Run 10) false ∷ Submit 2 (Run 5) false
    ∷ SendOut 2 None ∷ Slice 0 3 None ∷ CheckIn 0 2
    ∷ SendOut 1 None ∷ Slice 1 9 None ∷ CheckIn 1 1 ∷ Collect 1 0 false
    ∷ SendOut 2 None ∷ Slice 2 9 None ∷ CheckIn 2 2 ∷ Collect 2 1 false ∷ SendOut 2 None ∷ [])
    (Accepted ∷ Accepted ∷ Accepted ∷ Accepted ∷ Accepted ∷ Accepted
    ∷ Sent (Some (program (loops ∷ Run 5 ∷ []) 0 0)) ∷ Worked 3 1 ∷ Taken More
    ∷ Sent (Some (program (ends ∷ Run 10 ∷ []) 0 0)) ∷ Worked 4 0 ∷ Taken Idle ∷ Answers (answer.Loaded (codes "M") ∷ ran 3 state.Ended ∷ [])
    ∷ Sent (Some (program (loops ∷ Run 5 ∷ []) 3 1)) ∷ Worked 3 0 ∷ Taken Idle ∷ Answers (ran 5 state.More ∷ []) ∷ Sent None ∷ [])

-- ## Parcels that come to where nobody waits for them

-- a parcel of the session before is taken in by the next one at its seat, where it is a prefix of what that one asked
abbrev pub OfTheSessionBefore : Type 0
OfTheSessionBefore = gives four
    (Claim 3 false ∷ Submit 3 Output false ∷ SendOut 3 None ∷ Free 3
    ∷ Claim 3 false ∷ Submit 3 Output false ∷ SendOut 3 None
    ∷ CheckIn 0 3 ∷ Slice 1 1 None ∷ CheckIn 1 3 ∷ [])
    (Accepted ∷ Accepted ∷ Sent (Some (one_output 0 0)) ∷ Accepted
    ∷ Accepted ∷ Accepted ∷ Sent (Some (one_output 0 0))
    ∷ Taken More ∷ Worked 1 0 ∷ Stranger NotOut ∷ [])

-- one that has fewer answers than the seat is not
abbrev pub FewerAnswers : Type 0
FewerAnswers = gives four
    (Claim 3 false ∷ Submit 3 Output false ∷ SendOut 3 None ∷ Free 3
    ∷ Claim 3 false ∷ Submit 3 Output false ∷ SendOut 3 None
    ∷ Slice 1 1 None ∷ CheckIn 1 3 ∷ Submit 3 Output false ∷ SendOut 3 None
    ∷ CheckIn 0 3 ∷ Slice 2 5 None ∷ CheckIn 2 3 ∷ Collect 3 1 false ∷ [])
    (Accepted ∷ Accepted ∷ Sent (Some (one_output 0 0)) ∷ Accepted
    ∷ Accepted ∷ Accepted ∷ Sent (Some (one_output 0 0))
    ∷ Worked 1 0 ∷ Taken Idle ∷ Accepted ∷ Sent (Some (two_outputs 1 1))
    ∷ Stranger (Behind 1) ∷ Worked 1 0 ∷ Taken Idle ∷ Answers (no_program ∷ []) ∷ [])

-- nor is any at a seat that was freed, or at none
abbrev pub AtNobodys : Type 0
AtNobodys = gives four
    (Claim 3 false ∷ Submit 3 Output false ∷ SendOut 3 None ∷ Free 3 ∷ CheckIn 0 3 ∷ CheckIn 0 5 ∷ [])
    (Accepted ∷ Accepted ∷ Sent (Some (one_output 0 0)) ∷ Accepted ∷ Stranger (Differs 0) ∷ Stranger NoSeat ∷ [])

-- nor is one whose first answers were taken out elsewhere
abbrev pub TakenOutElsewhere : Type 0
TakenOutElsewhere = gives four
    (Claim 3 false ∷ Submit 3 Output false ∷ SendOut 3 None ∷ Slice 0 1 None ∷ CheckIn 0 3
    ∷ Submit 3 Output false ∷ SendOut 3 None ∷ Free 3
    ∷ Claim 3 false ∷ Submit 3 Output false ∷ Submit 3 Output false ∷ SendOut 3 None ∷ CheckIn 1 3 ∷ [])
    (Accepted ∷ Accepted ∷ Sent (Some (one_output 0 0)) ∷ Worked 1 0 ∷ Taken Idle
    ∷ Accepted ∷ Sent (Some (two_outputs 1 1)) ∷ Accepted
    ∷ Accepted ∷ Accepted ∷ Accepted ∷ Sent (Some (two_outputs 0 0)) ∷ Stranger (Behind 0) ∷ [])

-- nor is one with other limits
abbrev pub WithOtherLimits : Type 0
WithOtherLimits = gives (STANDARD ∷ LARGE ∷ [])
    (Claim 1 false ∷ Claim 2 false ∷ Submit 1 Output false ∷ SendOut 1 None ∷ CheckIn 0 2 ∷ [])
    (Accepted ∷ Accepted ∷ Accepted ∷ Sent (Some (one_output 0 0)) ∷ Stranger OtherLimits ∷ [])

-- ## Where memory is refused

-- after one unit of a slice the bench closes; the answers before stay, and nothing more is taken
abbrev pub OutOfMemoryWithin : Type 0
OutOfMemoryWithin = gives (STANDARD ∷ [])
    (Claim 1 false ∷ Submit 1 Output false ∷ Submit 1 Output false ∷ SendOut 1 None ∷ Slice 0 9 (Some 1) ∷ Slice 0 9 None ∷ CheckIn 0 1
    ∷ Collect 1 0 false ∷ Submit 1 Output false ∷ SendOut 1 None ∷ [])
    (Accepted ∷ Accepted ∷ Accepted ∷ Sent (Some (two_outputs 0 0)) ∷ Worked 1 1 ∷ Worked 0 1 ∷ Taken Idle
    ∷ Answers (no_program ∷ answer.Refused refusal.OutOfMemory ∷ []) ∷ Refused Memory ∷ Sent None ∷ [])

-- while requests are given the bench closes at home
abbrev pub OutOfMemoryGiving : Type 0
OutOfMemoryGiving = gives (STANDARD ∷ [])
    (Claim 1 false ∷ Submit 1 Output false ∷ Submit 1 (Run 10) false ∷ SendOut 1 (Some 1) ∷ Collect 1 0 false ∷ SendOut 1 None
    ∷ Free 1 ∷ Claim 1 false ∷ Collect 1 0 false ∷ [])
    (Accepted ∷ Accepted ∷ Accepted ∷ Sent None ∷ Answers (answer.Refused refusal.OutOfMemory ∷ []) ∷ Sent None
    ∷ Accepted ∷ Accepted ∷ Answers [] ∷ [])

-- whatever limits the seat beside it has, a session has the same events, and the same replies to them
abbrev pub beside : List Event
beside = Claim 2 false ∷ Claim 1 false ∷ Submit 2 Output false ∷ Submit 1 Output false ∷ SendOut 2 None ∷ SendOut 1 None
    ∷ Slice 0 1 None ∷ Slice 1 1 None ∷ CheckIn 1 1 ∷ CheckIn 0 2 ∷ Collect 2 0 false ∷ Collect 1 0 false ∷ []

abbrev pub TellsBeside : Limits → Type 0
TellsBeside limits =
    (mine 1 0 (STANDARD ∷ limits ∷ []) beside
    ≡ Began STANDARD ∷ Submitted Output false ∷ SentOut None ∷ Sliced 0 1 None ∷ Returned (one_output 1 0) (Some 0) ∷ Collected 0 false ∷ [])
    × (replies_from 1 (outset 0) (beginning (STANDARD ∷ limits ∷ [])) beside
    ≡ Accepted ∷ Accepted ∷ Sent (Some (one_output 0 0)) ∷ Worked 1 0 ∷ Taken Idle ∷ Answers (no_program ∷ []) ∷ [])

abbrev pub BesideOthers : Type 0
BesideOthers = TellsBeside STANDARD × TellsBeside LARGE

-- ## The two sessions of one seat

abbrev pub two_sessions : List Event
two_sessions = Claim 3 false ∷ Submit 3 Output false ∷ SendOut 3 None ∷ Free 3
    ∷ Claim 3 false ∷ Submit 3 Output false ∷ SendOut 3 None
    ∷ CheckIn 0 3 ∷ Slice 1 1 None ∷ CheckIn 1 3 ∷ SendOut 3 None ∷ Slice 2 9 None ∷ CheckIn 2 3 ∷ []

-- what each has for its own events
abbrev pub FirstSession : Type 0
FirstSession = mine 3 0 four two_sessions ≡ Began STANDARD ∷ Submitted Output false ∷ SentOut None ∷ Freed ∷ Strayed 0 (Taken More) ∷ []

abbrev pub SecondSession : Type 0
SecondSession = mine 3 1 four two_sessions
    ≡ Began STANDARD ∷ Submitted Output false ∷ SentOut None
    ∷ Returned (one_output 0 0) None ∷ Sliced 0 1 None ∷ Returned (one_output 1 0) (Some 0)
    ∷ SentOut None ∷ Sliced 1 9 None ∷ Returned (one_output 1 0) (Some 1) ∷ []

-- the second one comes to the answer of its one request, with a parcel of its own that nobody took in
abbrev pub SecondPart : Type 0
SecondPart = (session (mine 3 1 four two_sessions)).part ≡ record {
  held = Some (record { limits = STANDARD; seat = record { requests = Output ∷ []; outbox = no_program ∷ []; home = Some (one_output 1 1) } });
  parcels = Some (one_output 1 0) ∷ None ∷ [];
}

pub record Rows : Type 0 where
  pub at_another_seat : AtAnotherSeat
  pub two_seats : TwoSeats
  pub two_programs : TwoPrograms
  pub of_the_session_before : OfTheSessionBefore
  pub fewer_answers : FewerAnswers
  pub at_nobodys : AtNobodys
  pub taken_out_elsewhere : TakenOutElsewhere
  pub with_other_limits : WithOtherLimits
  pub beside_others : BesideOthers
  pub out_of_memory_within : OutOfMemoryWithin
  pub out_of_memory_giving : OutOfMemoryGiving
  pub first_session : FirstSession
  pub second_session : SecondSession
  pub second_part : SecondPart

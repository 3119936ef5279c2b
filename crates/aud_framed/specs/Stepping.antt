-- Steps of sound code that fits its table of frames: behind each of them tasks see the frames that are written where they stand.
use Rattle.std.specs.Prelude.{◌≡◌, ◌⊎◌, ℕ, List, [], ◌∷◌, Option, Some, None, Bool, true, false, slice_get}
use Rattle.aud_text.specs.declared.limits.Limits.{Limits}
use Rattle.aud_typed.specs.Tree.{Plan}
use Rattle.aud_text.specs.declared.place.Pos.{Pos}
use Rattle.aud_text.specs.declared.raise.Raise.{Raise}
use Rattle.aud_meaning.specs.declared.state.Construct.{Construct}
use Rattle.aud_meaning.specs.declared.state.Construct.TheVariants as construct
use Rattle.aud_meaning.specs.declared.state.Owner.{Owner}
use Rattle.aud_meaning.specs.declared.state.Owner.TheVariants as owner
use Rattle.aud_meaning.specs.declared.state.CallState.TheVariants.{Queued, Selected}
use Rattle.aud_meaning.specs.declared.state.OpenAccept.{OpenAccept}
use Rattle.aud_meaning.specs.declared.state.Pending.{Pending}
use Rattle.aud_meaning.specs.declared.state.Status.TheVariants.{Running, Accepting, Delaying, Calling, Completed}
use Rattle.aud_meaning.specs.Configuration.{for_body, for_block, for_procedure, Returning, Opened, Call, TaskAt, All}
use Rattle.aud_meaning.specs.Effects.{out_of_loops}
use Rattle.aud_meaning.specs.Parts.{Closable, Outcome, Waiting, body_master, call_of, contains, is_over, on_call, own_of, queue}
use Rattle.aud_meaning.specs.Tasks.{accepts_call, activation_ended, close_master, closes, delay_expires, delays_for, end_call, raises_in_part}
use Rattle.aud_meaning.specs.Control as asked
use Rattle.aud_meaning.specs.Control.{Asked, Called, raises_here, declares, declares_array, declares_tasks, declares_object, ends_activation, activates, goes_on, assigns, puts, enters_loop, next_of_loop, goes_out, raises, raises_again, enters_block, calls_procedure, calls_operation, calls_own_entry, calls_entry, delays, accepts, selects, aborts, requeues, ends, handles, is_left_by}
use Rattle.aud_meaning.specs.Orders.{carried_out}
use Rattle.aud_meaning.specs.Run.{scene_of}
use Rattle.aud_meaning.specs.Step.{done}
use Rattle.aud_meaning.specs.Why.Alone.{IsAlone}
use Rattle.aud_code.specs.Places.{Spot, Guard, is_there}
use Rattle.aud_code.specs.Instruction.{Ending, CallKind, DeclareTasks, DeclareObject, Activated, Activate, Loop, Block, Proc, Operation, CallTask, CallObject, Delay, Accept, Select, Abort}
use Rattle.aud_code.specs.Flat.{Last, Does, Continues, Guards, Ends, Leaves, EndLine, end, Flat, asked_at, end_at, flat_controls, handler_at}
use Rattle.aud_code.specs.Seen.{IsSeen}
use Rattle.aud_code.specs.View.{EndsPlainly}
use Rattle.aud_code.specs.Sound.{Counts, IsSound}
use Rattle.aud_code.specs.Starts.{AreSpots}
use Rattle.aud_typed.specs.declared.program.Variable.{Variable}
use Rattle.aud_over.specs.Over.{is_call_over}
use Rattle.aud_framed.specs.Waiting.{AllOfTasks, is_of_object}
use Rattle.aud_framed.specs.Calls.{calls_in, objects_in, with_restarted}
use Rattle.aud_framed.specs.Framed.{HasLevels, IsFramed, MeetsBy}

-- What is in memory has, by its form, the ways that its steps take: into a loop or block, and behind a loop; and what guards statements
-- leads nowhere by itself.

abbrev pub AtLeastTwo : List ℕ → Type 0
AtLeastTwo [] = ⊥
AtLeastTwo (n ∷ []) = ⊥
AtLeastTwo (n ∷ m ∷ ns) = Unit {0}

abbrev pub LeadsWhere : Last → List ℕ → Type 0
LeadsWhere (Does (Loop f)) ns = AtLeastTwo ns
LeadsWhere (Does (Block region)) ns = AtLeastTwo ns
LeadsWhere (Does e) ns = Unit {0}
LeadsWhere (Continues f) ns = AtLeastTwo ns
LeadsWhere (Guards gs) ns = ns ≡ []
LeadsWhere (Ends c next) ns = Unit {0}
LeadsWhere (Leaves n next) ns = Unit {0}

abbrev pub HasWays : Flat → Type 0
HasWays code = (n : ℕ) (l : EndLine) → slice_get code.lines n ≡ Some (end l) → LeadsWhere l.last l.ways

-- Which endings ask what, with the loops that an exit, return or requeue leaves.

-- it opens no frame
abbrev pub OpensNone : Ending → Type 0
OpensNone (Loop f) = ⊥
OpensNone (Block region) = ⊥
OpensNone e = Unit {0}

abbrev pub DoesSome : Last → Type 0
DoesSome last = (e : Ending) × (last ≡ Does e)

abbrev pub DoesPlain : Last → Type 0
DoesPlain last = (e : Ending) × ((last ≡ Does e) × OpensNone e)

abbrev pub CallsBy : Last → Owner → Called → Type 0
CallsBy last (owner.Task n) call = (form : CallKind) × (last ≡ Does (CallTask call.entry form))
CallsBy last (owner.Object n) call = (v : Variable) × ((form : CallKind) × (last ≡ Does (CallObject v call.entry form)))

abbrev pub AskedBy : Last → ℕ → Asked → Type 0
AskedBy last out (raises_here raise at) = DoesSome last
AskedBy last out (asked.raises_in_part raise at) = DoesSome last
AskedBy last out (declares up_to z) = DoesPlain last
AskedBy last out (declares_array at t n) = DoesPlain last
AskedBy last out (declares_tasks at ts) = last ≡ Does (DeclareTasks ts)
AskedBy last out (declares_object at n cells) = last ≡ Does (DeclareObject n)
AskedBy last out ends_activation = last ≡ Does Activated
AskedBy last out (activates at) = last ≡ Does Activate
AskedBy last out (goes_on part) = DoesPlain last ⊎ ((gs : List Guard) × (last ≡ Guards gs))
AskedBy last out (assigns target z) = DoesPlain last
AskedBy last out (puts text) = DoesPlain last
AskedBy last out (enters_loop f a b) = last ≡ Does (Loop f)
AskedBy last out (next_of_loop f) = last ≡ Continues f
AskedBy last out (goes_out loops value) = DoesSome last × (loops ≡ out)
AskedBy last out (raises x at) = DoesSome last
AskedBy last out (raises_again at) = DoesSome last
AskedBy last out (enters_block at region) = last ≡ Does (Block region)
AskedBy last out (calls_procedure at unit p into) = last ≡ Does (Proc unit)
AskedBy last out (calls_operation at object unit p into) = (v : Variable) × (last ≡ Does (Operation v unit))
AskedBy last out (calls_own_entry at) = DoesSome last
AskedBy last out (calls_entry o call) = CallsBy last o call
AskedBy last out (delays ms at) = last ≡ Does Delay
AskedBy last out (accepts a) = (last ≡ Does (Accept a.entry a.region)) × (a.alternative ≡ 0)
AskedBy last out (selects has_else waits at) = last ≡ Does (Select has_else)
AskedBy last out (aborts ns at) = last ≡ Does Abort
AskedBy last out (requeues loops r) = DoesSome last × (loops ≡ out)
AskedBy last out (ends loops) = ((c : Construct) × ((next : ℕ) × ((last ≡ Ends c next) × (loops ≡ 0)))) ⊎ ((next : ℕ) × (last ≡ Leaves loops next))
AskedBy last out (handles p) = ⊥
AskedBy last out (is_left_by p) = ⊥

-- What a task under way asks that concerns it alone keeps all that is said of frames, with no exception pending.
abbrev pub LoneFramedLaw : Type 0
LoneFramedLaw =
    (plan : Plan) (code : Flat) (table : List Counts) (tasks barriers seen : List ℕ) (limits : Limits) (alternative : Option ℕ) (n : ℕ) (c : All Spot) (t : TaskAt Spot) →
    IsSound code → IsSeen code table tasks barriers seen → HasLevels plan code tasks seen → HasWays code → AreSpots code.lines c.tasks →
    slice_get c.tasks n ≡ Some t → t.own.status ≡ Running → t.own.pending ≡ None → t.own.serving ≡ None → t.own.restart ≡ None →
    IsAlone (asked_at code None (scene_of plan (flat_controls plan code) n c) t.control) →
    MeetsBy plan code (Some t) n c →
    IsFramed plan code seen c →
    IsFramed plan code seen (done (carried_out (flat_controls plan code)) plan (flat_controls plan code).barrier limits alternative (asked_at code None (scene_of plan (flat_controls plan code) n c) t.control) n c)

-- A pending exception is handled.
abbrev pub HandledStepLaw : Type 0
HandledStepLaw =
    (plan : Plan) (code : Flat) (table : List Counts) (tasks barriers seen : List ℕ) (limits : Limits) (alternative : Option ℕ) (n : ℕ) (c : All Spot) (t : TaskAt Spot) (p : Pending) →
    IsSound code → IsSeen code table tasks barriers seen → AreSpots code.lines c.tasks →
    slice_get c.tasks n ≡ Some t → t.own.status ≡ Running → t.own.pending ≡ Some p →
    is_there (handler_at code p.exception t.control) ≡ true →
    MeetsBy plan code (Some t) n c →
    IsFramed plan code seen c →
    IsFramed plan code seen (done (carried_out (flat_controls plan code)) plan (flat_controls plan code).barrier limits alternative (handles p) n c)

-- With tasks that stand where steps begin.
pub record IsKept (plan : Plan) (code : Flat) (seen : List ℕ) (c : All Spot) : Type 0 where
  pub framed : IsFramed plan code seen c
  pub spots : AreSpots code.lines c.tasks

-- A master is left, of which what depends on it may be terminated.
abbrev pub MasterKeptLaw : Type 0
MasterKeptLaw =
    (plan : Plan) (code : Flat) (table : List Counts) (tasks barriers seen : List ℕ) (master : ℕ) (c : All Spot) →
    IsSound code → IsSeen code table tasks barriers seen → HasWays code → IsKept plan code seen c →
    Closable master c ≡ true →
    IsKept plan code seen (close_master (carried_out (flat_controls plan code)) plan (flat_controls plan code).barrier master c)

-- A task that is completed is terminated.
abbrev pub ClosedKeptLaw : Type 0
ClosedKeptLaw =
    (plan : Plan) (code : Flat) (table : List Counts) (tasks barriers seen : List ℕ) (n : ℕ) (c : All Spot) →
    IsSound code → IsSeen code table tasks barriers seen → HasWays code → IsKept plan code seen c →
    (own_of n c).status ≡ Completed → Closable (body_master (own_of n c)) c ≡ true →
    IsKept plan code seen (closes (carried_out (flat_controls plan code)) plan (flat_controls plan code).barrier n c)

-- An exception is raised in a declarative part: what it has created becomes terminated.
abbrev pub PartKeptLaw : Type 0
PartKeptLaw =
    (plan : Plan) (code : Flat) (table : List Counts) (tasks barriers seen : List ℕ) (raise : Raise) (at : Pos) (n : ℕ) (c : All Spot) (t : TaskAt Spot) →
    IsSound code → IsSeen code table tasks barriers seen → HasWays code → IsKept plan code seen c →
    slice_get c.tasks n ≡ Some t → t.own.status ≡ Running → t.own.pending ≡ None → t.own.again ≡ None → DoesSome (end_at code t.control.place).last →
    IsKept plan code seen (raises_in_part (carried_out (flat_controls plan code)) plan (flat_controls plan code).barrier raise at n c)

-- A block is left at its end.
abbrev pub BlockKeptLaw : Type 0
BlockKeptLaw =
    (plan : Plan) (code : Flat) (table : List Counts) (tasks barriers seen : List ℕ) (limits : Limits) (alternative : Option ℕ) (n : ℕ) (c : All Spot) (t : TaskAt Spot) (o : Opened) (os : List Opened) (next : ℕ) →
    IsSound code → IsSeen code table tasks barriers seen → HasWays code → IsKept plan code seen c →
    slice_get c.tasks n ≡ Some t → t.own.status ≡ Running → t.own.pending ≡ None → t.own.opened ≡ o ∷ os → o.purpose ≡ for_block →
    (end_at code t.control.place).last ≡ Ends construct.Block next → Closable o.frame c ≡ true →
    IsKept plan code seen (done (carried_out (flat_controls plan code)) plan (flat_controls plan code).barrier limits alternative (ends 0) n c)

-- A call ends that nobody serves and whose caller waits for it.
abbrev pub CallKeptLaw : Type 0
CallKeptLaw =
    (plan : Plan) (code : Flat) (table : List Counts) (tasks barriers seen : List ℕ) (outcome : Outcome) (id : ℕ) (c : All Spot) →
    IsSound code → IsSeen code table tasks barriers seen → HasWays code → IsKept plan code seen c →
    is_call_over (call_of id c).state ≡ false →
    ((n : ℕ) → is_over (own_of n c).status ≡ false → contains id (with_restarted (own_of n c).restart (calls_in (own_of n c).opened)) ≡ false) →
    (own_of (call_of id c).caller c).status ≡ Calling →
    IsKept plan code seen (end_call (carried_out (flat_controls plan code)) plan (flat_controls plan code).barrier outcome id c)

-- A delay begins.
abbrev pub DelayKeptLaw : Type 0
DelayKeptLaw =
    (plan : Plan) (code : Flat) (table : List Counts) (tasks barriers seen : List ℕ) (ms : ℕ) (at : Pos) (n : ℕ) (c : All Spot) (t : TaskAt Spot) →
    IsSound code → IsSeen code table tasks barriers seen → HasWays code → IsKept plan code seen c →
    slice_get c.tasks n ≡ Some t → t.own.status ≡ Running → t.own.pending ≡ None → t.own.again ≡ None → (end_at code t.control.place).last ≡ Does Delay →
    IsKept plan code seen (delays_for (carried_out (flat_controls plan code)) plan (flat_controls plan code).barrier ms at n c)

-- Its time has come, or that of a delay alternative.
abbrev pub ExpiresKeptLaw : Type 0
ExpiresKeptLaw =
    (plan : Plan) (code : Flat) (table : List Counts) (tasks barriers seen : List ℕ) (alternative n : ℕ) (c : All Spot) (t : TaskAt Spot) →
    IsSound code → IsSeen code table tasks barriers seen → HasWays code → IsKept plan code seen c →
    slice_get c.tasks n ≡ Some t → (t.own.status ≡ Delaying) ⊎ (t.own.status ≡ Accepting) →
    IsKept plan code seen (delay_expires (carried_out (flat_controls plan code)) plan (flat_controls plan code).barrier alternative n c)

-- A procedure's body is left at its end.
abbrev pub ProcedureKeptLaw : Type 0
ProcedureKeptLaw =
    (plan : Plan) (code : Flat) (table : List Counts) (tasks barriers seen : List ℕ) (limits : Limits) (alternative : Option ℕ) (n : ℕ) (c : All Spot) (t : TaskAt Spot) (o : Opened) (os : List Opened) (r : Returning) (next : ℕ) →
    IsSound code → IsSeen code table tasks barriers seen → HasWays code → IsKept plan code seen c →
    slice_get c.tasks n ≡ Some t → t.own.status ≡ Running → t.own.pending ≡ None → t.own.again ≡ None → t.own.opened ≡ o ∷ os → o.purpose ≡ for_procedure r →
    (end_at code t.control.place).last ≡ Ends construct.Unit next → Closable o.frame c ≡ true →
    IsKept plan code seen (done (carried_out (flat_controls plan code)) plan (flat_controls plan code).barrier limits alternative (ends 0) n c)

-- An exception leaves a block or a procedure's body.
abbrev pub LeftKeptLaw : Type 0
LeftKeptLaw =
    (plan : Plan) (code : Flat) (table : List Counts) (tasks barriers seen : List ℕ) (limits : Limits) (alternative : Option ℕ) (n : ℕ) (c : All Spot) (t : TaskAt Spot) (o : Opened) (os : List Opened) (p : Pending) →
    IsSound code → IsSeen code table tasks barriers seen → HasWays code → IsKept plan code seen c →
    slice_get c.tasks n ≡ Some t → t.own.status ≡ Running → t.own.pending ≡ Some p → t.own.again ≡ None → (out_of_loops t.own).opened ≡ o ∷ os →
    (o.purpose ≡ for_block) ⊎ ((r : Returning) × (o.purpose ≡ for_procedure r)) → Closable o.frame c ≡ true →
    IsKept plan code seen (done (carried_out (flat_controls plan code)) plan (flat_controls plan code).barrier limits alternative (is_left_by p) n c)

-- A task's body is left at its end, or by an exception: it completes.
abbrev pub BodyKeptLaw : Type 0
BodyKeptLaw =
    (plan : Plan) (code : Flat) (table : List Counts) (tasks barriers seen : List ℕ) (limits : Limits) (alternative : Option ℕ) (n : ℕ) (c : All Spot) (t : TaskAt Spot) (o : Opened) (p : Pending) →
    IsSound code → IsSeen code table tasks barriers seen → HasWays code → IsKept plan code seen c →
    slice_get c.tasks n ≡ Some t → t.own.status ≡ Running → (out_of_loops t.own).opened ≡ o ∷ [] → o.purpose ≡ for_body →
    IsKept plan code seen (done (carried_out (flat_controls plan code)) plan (flat_controls plan code).barrier limits alternative (ends 0) n c) × IsKept plan code seen (done (carried_out (flat_controls plan code)) plan (flat_controls plan code).barrier limits alternative (is_left_by p) n c)

-- An activation ends, normally or not.
abbrev pub ActivationKeptLaw : Type 0
ActivationKeptLaw =
    (plan : Plan) (code : Flat) (table : List Counts) (tasks barriers seen : List ℕ) (failed : Bool) (n : ℕ) (c : All Spot) →
    IsSound code → IsSeen code table tasks barriers seen → HasWays code → IsKept plan code seen c →
    IsKept plan code seen (activation_ended (carried_out (flat_controls plan code)) plan (flat_controls plan code).barrier failed n c)

-- A task waits at an accept for whose entry no call is queued.
abbrev pub AcceptKeptLaw : Type 0
AcceptKeptLaw =
    (plan : Plan) (code : Flat) (table : List Counts) (tasks barriers seen : List ℕ) (a : OpenAccept) (n : ℕ) (c : All Spot) (t : TaskAt Spot) →
    IsSound code → IsSeen code table tasks barriers seen → HasWays code → IsKept plan code seen c →
    slice_get c.tasks n ≡ Some t → t.own.status ≡ Running → t.own.pending ≡ None → t.own.again ≡ None → t.own.serving ≡ None → objects_in t.own.opened ≡ [] → AllOfTasks plan (a ∷ []) →
    (end_at code t.control.place).last ≡ Does (Accept a.entry a.region) → a.alternative ≡ 0 → queue n a.entry c.shared.calls ≡ [] →
    IsKept plan code seen (accepts_call (carried_out (flat_controls plan code)) plan (flat_controls plan code).barrier a n c)

-- A call that is queued is selected.
abbrev pub SelectedKeptLaw : Type 0
SelectedKeptLaw =
    (plan : Plan) (code : Flat) (seen : List ℕ) (id : ℕ) (c : All Spot) →
    (call_of id c).state ≡ Queued → IsFramed plan code seen c → IsFramed plan code seen (on_call id (λ (a : Call). record a { state = Selected }) c)

-- A task accepts the oldest call on an entry at an accept that does nothing.
abbrev pub MeetsKeptLaw : Type 0
MeetsKeptLaw =
    (plan : Plan) (code : Flat) (table : List Counts) (tasks barriers seen : List ℕ) (a : OpenAccept) (n : ℕ) (c : All Spot) (t : TaskAt Spot) (x : Waiting) (xs : List Waiting) →
    IsSound code → IsSeen code table tasks barriers seen → HasWays code → IsKept plan code seen c →
    slice_get c.tasks n ≡ Some t → t.own.status ≡ Running → t.own.pending ≡ None → t.own.again ≡ None → is_of_object plan a.entry ≡ false →
    (end_at code t.control.place).last ≡ Does (Accept a.entry a.region) → a.region ≡ None → queue n a.entry c.shared.calls ≡ x ∷ xs →
    IsKept plan code seen (accepts_call (carried_out (flat_controls plan code)) plan (flat_controls plan code).barrier a n c)

-- Code whose steps end as those of code in memory do has the ways that they take.
abbrev pub LeadsLaw : Type 0
LeadsLaw = (code : Flat) → EndsPlainly code → HasWays code

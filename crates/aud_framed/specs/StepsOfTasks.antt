-- Steps by which tasks are created, activated, accept calls and call each other: they keep the frames that tasks hold.
use Rattle.std.specs.Prelude.{◌≡◌, ℕ, List, [], ◌∷◌, Option, Some, None, Bool, true, false, slice_get}
use Rattle.aud_text.specs.declared.limits.Limits.{Limits}
use Rattle.aud_text.specs.declared.place.Pos.{Pos}
use Rattle.aud_typed.specs.Tree.{Plan, Tasks}
use Rattle.aud_meaning.specs.declared.state.Again.{Again}
use Rattle.aud_meaning.specs.declared.state.Construct.TheVariants as construct
use Rattle.aud_meaning.specs.declared.state.OpenAccept.{OpenAccept}
use Rattle.aud_meaning.specs.declared.state.Owner.TheVariants as owner
use Rattle.aud_meaning.specs.declared.state.Pending.{Pending}
use Rattle.aud_meaning.specs.declared.state.Status.TheVariants.{Running}
use Rattle.aud_meaning.specs.Configuration.{for_accept, Opened, TaskAt, Waits, All}
use Rattle.aud_meaning.specs.Control.{Called, aborts, accepts, activates, calls_entry, declares_tasks, ends, ends_activation, is_left_by, selects}
use Rattle.aud_meaning.specs.Effects.{out_of_loops}
use Rattle.aud_meaning.specs.Orders.{carried_out}
use Rattle.aud_meaning.specs.Parts.{Closable, in_action}
use Rattle.aud_meaning.specs.Run.{scene_of}
use Rattle.aud_meaning.specs.Step.{done}
use Rattle.aud_code.specs.Places.{Spot}
use Rattle.aud_code.specs.Instruction.{Abort, Accept, Activate, Activated, DeclareTasks}
use Rattle.aud_code.specs.Flat.{Does, Ends, Leaves, Flat, asked_at, end_at, flat_controls}
use Rattle.aud_code.specs.Seen.{IsSeen}
use Rattle.aud_code.specs.Sound.{Counts, IsSound}
use Rattle.aud_framed.specs.Held.{objects_in}
use Rattle.aud_framed.specs.Waiting.{AllOfTasks, is_of_object}
use Rattle.aud_framed.specs.Framed.{HasLevels}
use Rattle.aud_framed.specs.Stepping.{CallsBy, HasWays, IsKept}

-- What a declarative part has created is activated.
abbrev pub ActivatesKeptLaw : Type 0
ActivatesKeptLaw =
    (plan : Plan) (code : Flat) (table : List Counts) (tasks barriers seen : List ℕ) (limits : Limits) (alternative : Option ℕ) (at : Pos) (n : ℕ) (c : All Spot) (t : TaskAt Spot) →
    IsSound code → IsSeen code table tasks barriers seen → HasLevels plan code tasks seen → HasWays code → IsKept plan code seen c →
    slice_get c.tasks n ≡ Some t → t.own.status ≡ Running → t.own.pending ≡ None → t.own.again ≡ None → t.own.serving ≡ None →
    (end_at code t.control.place).last ≡ Does Activate →
    IsKept plan code seen (done (carried_out (flat_controls plan code)) plan (flat_controls plan code).barrier limits alternative (activates at) n c)

-- A task's own activation ends.
abbrev pub ActivatedKeptLaw : Type 0
ActivatedKeptLaw =
    (plan : Plan) (code : Flat) (table : List Counts) (tasks barriers seen : List ℕ) (limits : Limits) (alternative : Option ℕ) (n : ℕ) (c : All Spot) (t : TaskAt Spot) →
    IsSound code → IsSeen code table tasks barriers seen → HasWays code → IsKept plan code seen c →
    slice_get c.tasks n ≡ Some t → t.own.status ≡ Running → t.own.pending ≡ None → t.own.again ≡ None →
    (end_at code t.control.place).last ≡ Does Activated →
    IsKept plan code seen (done (carried_out (flat_controls plan code)) plan (flat_controls plan code).barrier limits alternative ends_activation n c)

-- Tasks are declared.
abbrev pub DeclaresTasksKeptLaw : Type 0
DeclaresTasksKeptLaw =
    (plan : Plan) (code : Flat) (table : List Counts) (tasks barriers seen : List ℕ) (limits : Limits) (alternative : Option ℕ) (at : Pos) (ts : Tasks) (n : ℕ) (c : All Spot) (t : TaskAt Spot) →
    IsSound code → IsSeen code table tasks barriers seen → HasLevels plan code tasks seen → HasWays code → IsKept plan code seen c →
    slice_get c.tasks n ≡ Some t → t.own.status ≡ Running → t.own.pending ≡ None → t.own.again ≡ None →
    (end_at code t.control.place).last ≡ Does (DeclareTasks ts) →
    IsKept plan code seen (done (carried_out (flat_controls plan code)) plan (flat_controls plan code).barrier limits alternative (declares_tasks at ts) n c)

-- A task is at an accept: it takes the oldest call on the entry, or waits for one.
abbrev pub AcceptsKeptLaw : Type 0
AcceptsKeptLaw =
    (plan : Plan) (code : Flat) (table : List Counts) (tasks barriers seen : List ℕ) (limits : Limits) (alternative : Option ℕ) (a : OpenAccept) (n : ℕ) (c : All Spot) (t : TaskAt Spot) →
    IsSound code → IsSeen code table tasks barriers seen → HasWays code → IsKept plan code seen c →
    slice_get c.tasks n ≡ Some t → t.own.status ≡ Running → t.own.pending ≡ None → t.own.again ≡ None → t.own.serving ≡ None →
    objects_in t.own.opened ≡ [] → AllOfTasks plan (a ∷ []) →
    (end_at code t.control.place).last ≡ Does (Accept a.entry a.region) → a.alternative ≡ 0 →
    IsKept plan code seen (done (carried_out (flat_controls plan code)) plan (flat_controls plan code).barrier limits alternative (accepts a) n c)

-- A task calls an entry of a task. One that is abnormal calls only within an action, where it is refused.
abbrev pub CallsTaskKeptLaw : Type 0
CallsTaskKeptLaw =
    (plan : Plan) (code : Flat) (table : List Counts) (tasks barriers seen : List ℕ) (limits : Limits) (alternative : Option ℕ) (m : ℕ) (call : Called) (n : ℕ) (c : All Spot) (t : TaskAt Spot) →
    IsSound code → IsSeen code table tasks barriers seen → HasWays code → IsKept plan code seen c →
    slice_get c.tasks n ≡ Some t → t.own.status ≡ Running → t.own.pending ≡ None → t.own.again ≡ None → t.own.restart ≡ None →
    (in_action n c ≡ false → t.own.abnormal ≡ false) → is_of_object plan call.entry ≡ false →
    CallsBy (end_at code t.control.place).last (owner.Task m) call →
    IsKept plan code seen (done (carried_out (flat_controls plan code)) plan (flat_controls plan code).barrier limits alternative (calls_entry (owner.Task m) call) n c)

-- What an accept does is left at its end, and the call is over.
abbrev pub AcceptEndedKeptLaw : Type 0
AcceptEndedKeptLaw =
    (plan : Plan) (code : Flat) (table : List Counts) (tasks barriers seen : List ℕ) (limits : Limits) (alternative : Option ℕ) (n : ℕ) (c : All Spot) (t : TaskAt Spot) (o : Opened) (os : List Opened) (id next : ℕ) →
    IsSound code → IsSeen code table tasks barriers seen → HasWays code → IsKept plan code seen c →
    slice_get c.tasks n ≡ Some t → t.own.status ≡ Running → t.own.pending ≡ None → t.own.again ≡ None →
    t.own.opened ≡ o ∷ os → o.purpose ≡ for_accept id → (end_at code t.control.place).last ≡ Ends construct.Accept next →
    IsKept plan code seen (done (carried_out (flat_controls plan code)) plan (flat_controls plan code).barrier limits alternative (ends 0) n c)

-- Or its call is made again: on an entry of a task, or on an object as the acceptor's next step.
abbrev pub AcceptEndsAgainLaw : Type 0
AcceptEndsAgainLaw =
    (plan : Plan) (code : Flat) (table : List Counts) (tasks barriers seen : List ℕ) (limits : Limits) (alternative : Option ℕ) (n : ℕ) (c : All Spot) (t : TaskAt Spot) (o : Opened) (os : List Opened) (id next : ℕ) (r : Again) →
    IsSound code → IsSeen code table tasks barriers seen → HasWays code → IsKept plan code seen c →
    slice_get c.tasks n ≡ Some t → t.own.status ≡ Running → t.own.pending ≡ None → t.own.again ≡ Some r →
    t.own.opened ≡ o ∷ os → o.purpose ≡ for_accept id → (end_at code t.control.place).last ≡ Ends construct.Accept next →
    IsKept plan code seen (done (carried_out (flat_controls plan code)) plan (flat_controls plan code).barrier limits alternative (ends 0) n c)

-- An exception leaves it.
abbrev pub AcceptLeftKeptLaw : Type 0
AcceptLeftKeptLaw =
    (plan : Plan) (code : Flat) (table : List Counts) (tasks barriers seen : List ℕ) (limits : Limits) (alternative : Option ℕ) (n : ℕ) (c : All Spot) (t : TaskAt Spot) (o : Opened) (os : List Opened) (id : ℕ) (p : Pending) →
    IsSound code → IsSeen code table tasks barriers seen → HasWays code → IsKept plan code seen c →
    slice_get c.tasks n ≡ Some t → t.own.status ≡ Running → t.own.pending ≡ Some p →
    (out_of_loops t.own).opened ≡ o ∷ os → o.purpose ≡ for_accept id →
    IsKept plan code seen (done (carried_out (flat_controls plan code)) plan (flat_controls plan code).barrier limits alternative (is_left_by p) n c)

-- A block is left together with loops around it.
abbrev pub LeavesKeptLaw : Type 0
LeavesKeptLaw =
    (plan : Plan) (code : Flat) (table : List Counts) (tasks barriers seen : List ℕ) (limits : Limits) (alternative : Option ℕ) (n : ℕ) (c : All Spot) (t : TaskAt Spot) (o : Opened) (os : List Opened) (loops next : ℕ) →
    IsSound code → IsSeen code table tasks barriers seen → HasWays code → IsKept plan code seen c →
    slice_get c.tasks n ≡ Some t → t.own.status ≡ Running → t.own.pending ≡ None → t.own.opened ≡ o ∷ os →
    (end_at code t.control.place).last ≡ Leaves loops next → Closable o.frame c ≡ true →
    IsKept plan code seen (done (carried_out (flat_controls plan code)) plan (flat_controls plan code).barrier limits alternative (ends loops) n c)

-- A selective accept: a call is taken, the else part is, or the task waits.
abbrev pub SelectsKeptLaw : Type 0
SelectsKeptLaw =
    (plan : Plan) (code : Flat) (table : List Counts) (tasks barriers seen : List ℕ) (limits : Limits) (alternative : Option ℕ) (has_else : Bool) (waits : Waits) (at : Pos) (n : ℕ) (c : All Spot) (t : TaskAt Spot) →
    IsSound code → IsSeen code table tasks barriers seen → HasWays code → IsKept plan code seen c →
    slice_get c.tasks n ≡ Some t → t.own.status ≡ Running → t.own.pending ≡ None → t.own.again ≡ None → t.own.serving ≡ None →
    objects_in t.own.opened ≡ [] → AllOfTasks plan waits.accepts →
    asked_at code None (scene_of plan (flat_controls plan code) n c) t.control ≡ selects has_else waits at →
    IsKept plan code seen (done (carried_out (flat_controls plan code)) plan (flat_controls plan code).barrier limits alternative (selects has_else waits at) n c)

-- Tasks are aborted, with those that depend on them.
abbrev pub AbortsKeptLaw : Type 0
AbortsKeptLaw =
    (plan : Plan) (code : Flat) (table : List Counts) (tasks barriers seen : List ℕ) (limits : Limits) (alternative : Option ℕ) (ns : List ℕ) (at : Pos) (n : ℕ) (c : All Spot) (t : TaskAt Spot) →
    IsSound code → IsSeen code table tasks barriers seen → HasWays code → IsKept plan code seen c →
    slice_get c.tasks n ≡ Some t → t.own.status ≡ Running → t.own.pending ≡ None → t.own.again ≡ None →
    (end_at code t.control.place).last ≡ Does Abort →
    IsKept plan code seen (done (carried_out (flat_controls plan code)) plan (flat_controls plan code).barrier limits alternative (aborts ns at) n c)

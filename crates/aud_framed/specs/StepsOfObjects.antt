-- Steps on protected objects of sound code that fits its table of frames.
use Rattle.std.specs.Prelude.{◌≡◌, ◌⊎◌, ◌<◌, ◌≤◌, ℕ, suc, ℤ, List, ◌∷◌, length, Option, Some, None, Result, Ok, Bool, true, false, ◌&&◌, ◌||◌, slice_get}
use Rattle.aud_text.specs.declared.limits.Limits.{Limits}
use Rattle.aud_text.specs.declared.place.Pos.{Pos}
use Rattle.aud_text.specs.declared.raise.Raise.{Raise}
use Rattle.aud_typed.specs.Tree.{Plan}
use Rattle.aud_typed.specs.declared.program.Variable.{Variable}
use Rattle.aud_meaning.specs.declared.state.CallState.TheVariants.{Queued}
use Rattle.aud_meaning.specs.declared.state.Construct.TheVariants as construct
use Rattle.aud_meaning.specs.declared.state.Owner.TheVariants as owner
use Rattle.aud_meaning.specs.declared.state.Pending.{Pending}
use Rattle.aud_meaning.specs.declared.state.Resumed.{Resumed}
use Rattle.aud_meaning.specs.declared.state.Restart.{Restart}
use Rattle.aud_meaning.specs.declared.state.Serving.{Serving}
use Rattle.aud_meaning.specs.declared.state.Status.TheVariants.{Running, Calling}
use Rattle.aud_meaning.specs.Configuration.{for_entry, for_operation, Opened, Returning, Target, TaskAt, All}
use Rattle.aud_meaning.specs.Control.{Called, calls_entry, ends, is_left_by}
use Rattle.aud_meaning.specs.Effects.{out_of_loops}
use Rattle.aud_meaning.specs.Step.{done, object_declared}
use Rattle.aud_meaning.specs.Evaluation.{Passed, Sight}
use Rattle.aud_meaning.specs.Orders.{carried_out}
use Rattle.aud_meaning.specs.Parts.{acts_on, begin_action, contains, end_action, call_of, entry_plan, in_action, in_the_way, is_idle, is_over, is_queued, is_selected, object_of, object_plan, own_of, unit_of}
use Rattle.aud_code.specs.Places.{Spot}
use Rattle.aud_code.specs.Flat.{Does, Ends, Flat, end_at, flat_controls}
use Rattle.aud_code.specs.Instruction.{DeclareObject, Operation}
use Rattle.aud_code.specs.Seen.{IsSeen}
use Rattle.aud_code.specs.Sound.{Counts, IsSound}
use Rattle.aud_meaning.specs.Tasks.{barrier_met, call_expires, calls_operation, completes, eligible, entries_of, enters_entry, is_conditional, serves, serviced, starts_again, withdraws}
use Rattle.aud_framed.specs.Calls.{CallsOn, EntryFits, IsServed, calls_in, changes, objects_in, with_restarted}
use Rattle.aud_framed.specs.Framed.{EntriesFit, HasLevels, IsFramed}
use Rattle.aud_framed.specs.Stepping.{CallsBy, HasWays, IsKept}

-- A task begins an action on an object, with no other's in the way.
abbrev pub ActionBegunLaw : Type 0
ActionBegunLaw =
    (plan : Plan) (code : Flat) (seen : List ℕ) (n object : ℕ) (reading : Bool) (c : All Spot) →
    in_the_way n reading (object_of object c) ≡ false → (reading ≡ true → acts_on n (object_of object c) ≡ false) →
    IsFramed plan code seen c → IsFramed plan code seen (begin_action n object reading c)

-- It ends it, and is in none of the object's bodies.
abbrev pub ActionEndedLaw : Type 0
ActionEndedLaw =
    (plan : Plan) (code : Flat) (seen : List ℕ) (n object : ℕ) (c : All Spot) →
    contains object (objects_in (own_of n c).opened) ≡ false →
    IsFramed plan code seen c → IsFramed plan code seen (end_action n object c)

-- A task that has an object for itself services it: it stands before a call that it serves, or its action ends.
abbrev pub ServicedLaw : Type 0
ServicedLaw =
    (plan : Plan) (code : Flat) (table : List Counts) (tasks barriers seen : List ℕ) (object : ℕ) (at : Pos) (n : ℕ) (c : All Spot) (t : TaskAt Spot) →
    IsSound code → IsSeen code table tasks barriers seen → HasWays code → IsKept plan code seen c →
    slice_get c.tasks n ≡ Some t → changes plan c n object ≡ true → contains object (objects_in t.own.opened) ≡ false → t.own.restart ≡ None → t.own.again ≡ None →
    (t.own.status ≡ Running) ⊎ ((t.own.status ≡ Calling) × CallsOn plan c n object) →
    IsKept plan code seen (serviced (carried_out (flat_controls plan code)) plan (flat_controls plan code).barrier object at n c)

-- A procedure or function of an object is called.
abbrev pub OperationBegunLaw : Type 0
OperationBegunLaw =
    (plan : Plan) (code : Flat) (table : List Counts) (tasks barriers seen : List ℕ) (at : Pos) (object unit : ℕ) (p : Passed) (into : Option Target) (v : Variable) (n : ℕ) (c : All Spot) (t : TaskAt Spot) →
    IsSound code → IsSeen code table tasks barriers seen → HasLevels plan code tasks seen → HasWays code → IsKept plan code seen c →
    slice_get c.tasks n ≡ Some t → t.own.status ≡ Running → t.own.pending ≡ None → t.own.again ≡ None → t.own.serving ≡ None → t.own.restart ≡ None →
    (end_at code t.control.place).last ≡ Does (Operation v unit) → object < length c.shared.objects → (unit_of plan unit).level ≡ length (object_of object c).display →
    in_the_way n (unit_of plan unit).is_function (object_of object c) ≡ false →
    IsKept plan code seen (calls_operation (carried_out (flat_controls plan code)) plan (flat_controls plan code).barrier at object unit p into n c)

-- The body of an entry is entered for a call that is selected, which nobody serves.
abbrev pub EntryEnteredLaw : Type 0
EntryEnteredLaw =
    (plan : Plan) (code : Flat) (table : List Counts) (tasks barriers seen : List ℕ) (served : Bool) (at : Pos) (object id n : ℕ) (c : All Spot) (t : TaskAt Spot) →
    IsSound code → IsSeen code table tasks barriers seen → HasLevels plan code tasks seen → HasWays code → IsKept plan code seen c →
    slice_get c.tasks n ≡ Some t → (t.own.status ≡ Running) ⊎ ((t.own.status ≡ Calling) × CallsOn plan c n object) → t.own.restart ≡ None → t.own.again ≡ None →
    changes plan c n object ≡ true → contains object (objects_in t.own.opened) ≡ false → contains id (calls_in t.own.opened) ≡ false → IsServed plan c id (owner.Object object) →
    (unit_of plan (entry_plan plan (call_of id c).entry).unit).level ≡ length (object_of object c).display →
    IsKept plan code seen (enters_entry (carried_out (flat_controls plan code)) plan (flat_controls plan code).barrier served at object id n c)

-- The body of an operation is left at its end, or by an exception.
abbrev pub OperationEndedLaw : Type 0
OperationEndedLaw =
    (plan : Plan) (code : Flat) (table : List Counts) (tasks barriers seen : List ℕ) (limits : Limits) (alternative : Option ℕ) (n : ℕ) (c : All Spot) (t : TaskAt Spot) (o : Opened) (os : List Opened) (object : ℕ) (r : Returning) (next : ℕ) →
    IsSound code → IsSeen code table tasks barriers seen → HasWays code → IsKept plan code seen c →
    slice_get c.tasks n ≡ Some t → t.own.status ≡ Running → t.own.pending ≡ None → t.own.again ≡ None → t.own.serving ≡ None → t.own.restart ≡ None →
    t.own.opened ≡ o ∷ os → o.purpose ≡ for_operation object r → (end_at code t.control.place).last ≡ Ends construct.Unit next →
    IsKept plan code seen (done (carried_out (flat_controls plan code)) plan (flat_controls plan code).barrier limits alternative (ends 0) n c)

abbrev pub OperationLeftLaw : Type 0
OperationLeftLaw =
    (plan : Plan) (code : Flat) (table : List Counts) (tasks barriers seen : List ℕ) (limits : Limits) (alternative : Option ℕ) (n : ℕ) (c : All Spot) (t : TaskAt Spot) (o : Opened) (os : List Opened) (object : ℕ) (r : Returning) (p : Pending) →
    IsSound code → IsSeen code table tasks barriers seen → HasWays code → IsKept plan code seen c →
    slice_get c.tasks n ≡ Some t → t.own.status ≡ Running → t.own.pending ≡ Some p → t.own.again ≡ None → t.own.serving ≡ None → t.own.restart ≡ None →
    (out_of_loops t.own).opened ≡ o ∷ os → o.purpose ≡ for_operation object r →
    IsKept plan code seen (done (carried_out (flat_controls plan code)) plan (flat_controls plan code).barrier limits alternative (is_left_by p) n c)

-- So is that of an entry, whose call ends or is made again on the object.
abbrev pub EntryEndedLaw : Type 0
EntryEndedLaw =
    (plan : Plan) (code : Flat) (table : List Counts) (tasks barriers seen : List ℕ) (limits : Limits) (alternative : Option ℕ) (n : ℕ) (c : All Spot) (t : TaskAt Spot) (o : Opened) (os : List Opened) (object id : ℕ) (served : Bool) (back : Resumed) (next : ℕ) →
    IsSound code → IsSeen code table tasks barriers seen → HasWays code → IsKept plan code seen c →
    slice_get c.tasks n ≡ Some t → t.own.status ≡ Running → t.own.pending ≡ None → t.own.serving ≡ None → t.own.restart ≡ None →
    t.own.opened ≡ o ∷ os → o.purpose ≡ for_entry object id served back → (end_at code t.control.place).last ≡ Ends construct.Unit next →
    IsKept plan code seen (done (carried_out (flat_controls plan code)) plan (flat_controls plan code).barrier limits alternative (ends 0) n c)

abbrev pub EntryLeftLaw : Type 0
EntryLeftLaw =
    (plan : Plan) (code : Flat) (table : List Counts) (tasks barriers seen : List ℕ) (limits : Limits) (alternative : Option ℕ) (n : ℕ) (c : All Spot) (t : TaskAt Spot) (o : Opened) (os : List Opened) (object id : ℕ) (served : Bool) (back : Resumed) (p : Pending) →
    IsSound code → IsSeen code table tasks barriers seen → HasWays code → IsKept plan code seen c →
    slice_get c.tasks n ≡ Some t → t.own.status ≡ Running → t.own.pending ≡ Some p → t.own.serving ≡ None → t.own.restart ≡ None →
    (out_of_loops t.own).opened ≡ o ∷ os → o.purpose ≡ for_entry object id served back →
    IsKept plan code seen (done (carried_out (flat_controls plan code)) plan (flat_controls plan code).barrier limits alternative (is_left_by p) n c)

-- A task that services an object serves the oldest call on an entry, by its index, or none is left.
abbrev pub ServesLaw : Type 0
ServesLaw =
    (plan : Plan) (code : Flat) (table : List Counts) (tasks barriers seen : List ℕ) (alternative : Option ℕ) (s : Serving) (n : ℕ) (c : All Spot) (t : TaskAt Spot) →
    IsSound code → IsSeen code table tasks barriers seen → HasLevels plan code tasks seen → HasWays code → IsKept plan code seen c →
    slice_get c.tasks n ≡ Some t → is_over t.own.status ≡ false → t.own.serving ≡ Some s →
    ((index : ℕ) → alternative ≡ Some index → (1 ≤ index) × (index ≤ length (entries_of plan (flat_controls plan code).barrier s.object c))) →
    IsKept plan code seen (serves (carried_out (flat_controls plan code)) plan (flat_controls plan code).barrier alternative s n c)

-- A call on an entry meets the entry's barrier, its task having the object for itself.
abbrev pub BarrierMetLaw : Type 0
BarrierMetLaw =
    (plan : Plan) (code : Flat) (table : List Counts) (tasks barriers seen : List ℕ) (b : Result Bool Raise) (at : Pos) (object id n : ℕ) (c : All Spot) (t : TaskAt Spot) →
    IsSound code → IsSeen code table tasks barriers seen → HasLevels plan code tasks seen → HasWays code → IsKept plan code seen c →
    slice_get c.tasks n ≡ Some t → t.own.restart ≡ None → t.own.again ≡ None → (t.own.status ≡ Running) ⊎ ((t.own.status ≡ Calling) × CallsOn plan c n object) →
    changes plan c n object ≡ true → contains object (objects_in (own_of n c).opened) ≡ false → contains id (calls_in t.own.opened) ≡ false → IsServed plan c id (owner.Object object) →
    EntryFits plan c (owner.Object object) (call_of id c).entry → ((own_of (call_of id c).caller c).abnormal ≡ true → (call_of id c).stays ≡ true) →
    (is_conditional (carried_out (flat_controls plan code)) plan (flat_controls plan code).barrier (call_of id c).form ≡ true → ((call_of id c).caller ≡ n) × (t.own.status ≡ Calling)) →
    IsKept plan code seen (barrier_met (carried_out (flat_controls plan code)) plan (flat_controls plan code).barrier b at object id n c)

-- A task calls an entry of an object, with no other's action in the way. One that is abnormal calls only within an action, where it is refused.
abbrev pub CallsObjectKeptLaw : Type 0
CallsObjectKeptLaw =
    (plan : Plan) (code : Flat) (table : List Counts) (tasks barriers seen : List ℕ) (limits : Limits) (alternative : Option ℕ) (object : ℕ) (call : Called) (n : ℕ) (c : All Spot) (t : TaskAt Spot) →
    IsSound code → IsSeen code table tasks barriers seen → HasLevels plan code tasks seen → HasWays code → IsKept plan code seen c →
    slice_get c.tasks n ≡ Some t → t.own.status ≡ Running → t.own.pending ≡ None → t.own.again ≡ None → t.own.restart ≡ None →
    (in_action n c ≡ false → t.own.abnormal ≡ false) → EntryFits plan c (owner.Object object) call.entry → in_the_way n false (object_of object c) ≡ false →
    CallsBy (end_at code t.control.place).last (owner.Object object) call →
    IsKept plan code seen (done (carried_out (flat_controls plan code)) plan (flat_controls plan code).barrier limits alternative (calls_entry (owner.Object object) call) n c)

-- The time of a timed call has come: the call is cancelled, and its object serviced.
abbrev pub CallExpiresLaw : Type 0
CallExpiresLaw =
    (plan : Plan) (code : Flat) (table : List Counts) (tasks barriers seen : List ℕ) (n : ℕ) (c : All Spot) (t : TaskAt Spot) →
    IsSound code → IsSeen code table tasks barriers seen → HasWays code → IsKept plan code seen c →
    slice_get c.tasks n ≡ Some t → t.own.status ≡ Calling → (call_of t.own.call c).state ≡ Queued →
    ((object : ℕ) → (call_of t.own.call c).owner ≡ owner.Object object → is_idle (object_of object c) ≡ true) →
    IsKept plan code seen (call_expires (carried_out (flat_controls plan code)) plan (flat_controls plan code).barrier n c)

-- An aborted task withdraws from the object on which its call was queued.
abbrev pub WithdrawsLaw : Type 0
WithdrawsLaw =
    (plan : Plan) (code : Flat) (table : List Counts) (tasks barriers seen : List ℕ) (object n : ℕ) (c : All Spot) (t : TaskAt Spot) →
    IsSound code → IsSeen code table tasks barriers seen → HasWays code → IsKept plan code seen c →
    slice_get c.tasks n ≡ Some t → is_over t.own.status ≡ false → t.own.withdraw ≡ Some object → in_action n c ≡ false → is_idle (object_of object c) ≡ true →
    IsKept plan code seen (withdraws (carried_out (flat_controls plan code)) plan (flat_controls plan code).barrier object n c)

-- An aborted task that is in no action, and whose call is neither selected nor stays, completes.
abbrev pub AbortedCompletesLaw : Type 0
AbortedCompletesLaw =
    (plan : Plan) (code : Flat) (table : List Counts) (tasks barriers seen : List ℕ) (n : ℕ) (c : All Spot) (t : TaskAt Spot) →
    IsSound code → IsSeen code table tasks barriers seen → HasWays code → IsKept plan code seen c →
    slice_get c.tasks n ≡ Some t → is_over t.own.status ≡ false → t.own.abnormal ≡ true → in_action n c ≡ false →
    (t.own.status ≡ Calling → is_selected (call_of t.own.call c).state || (is_queued (call_of t.own.call c).state && (call_of t.own.call c).stays) ≡ false) →
    IsKept plan code seen (completes (carried_out (flat_controls plan code)) plan (flat_controls plan code).barrier None n c)

-- A protected object is declared, whose entries' bodies see what it sees.
abbrev pub ObjectDeclaredLaw : Type 0
ObjectDeclaredLaw =
    (plan : Plan) (code : Flat) (table : List Counts) (tasks barriers seen : List ℕ) (at : Pos) (declaration : ℕ) (cells : List ℤ) (n : ℕ) (c : All Spot) (t : TaskAt Spot) →
    IsSound code → IsSeen code table tasks barriers seen → HasWays code → IsKept plan code seen c →
    slice_get c.tasks n ≡ Some t → t.own.status ≡ Running → t.own.pending ≡ None → t.own.again ≡ None →
    (end_at code t.control.place).last ≡ Does (DeclareObject declaration) → EntriesFit plan (suc (length t.own.display)) (object_plan plan declaration).entries →
    IsKept plan code seen (object_declared (carried_out (flat_controls plan code)) plan (flat_controls plan code).barrier at declaration cells n c)

-- The entries that may be served are the object's, by their indexes.
abbrev pub EligibleLaw : Type 0
EligibleLaw = (plan : Plan) (barrier : ℕ → Sight → Result Bool Raise) (object : ℕ) (c : All Spot) (places : List ℕ) (i : ℕ) → eligible plan barrier object c ≡ Ok places → contains i places ≡ true → (1 ≤ i) × (i ≤ length (entries_of plan barrier object c))

-- Nobody serves a call on a task's entry that the task doesn't serve.
abbrev pub TaskUnservedLaw : Type 0
TaskUnservedLaw =
    (plan : Plan) (code : Flat) (seen : List ℕ) (n id : ℕ) (c : All Spot) →
    IsFramed plan code seen c → (call_of id c).owner ≡ owner.Task n → contains id (with_restarted (own_of n c).restart (calls_in (own_of n c).opened)) ≡ false →
    (m : ℕ) → is_over (own_of m c).status ≡ false → contains id (with_restarted (own_of m c).restart (calls_in (own_of m c).opened)) ≡ false

-- A call that its accept makes again on an object is made, as the acceptor's next step.
abbrev pub StartsAgainLaw : Type 0
StartsAgainLaw =
    (plan : Plan) (code : Flat) (table : List Counts) (tasks barriers seen : List ℕ) (r : Restart) (n : ℕ) (c : All Spot) (t : TaskAt Spot) →
    IsSound code → IsSeen code table tasks barriers seen → HasLevels plan code tasks seen → HasWays code → IsKept plan code seen c →
    slice_get c.tasks n ≡ Some t → t.own.status ≡ Running → t.own.restart ≡ Some r → in_the_way n false (object_of r.object c) ≡ false →
    IsKept plan code seen (starts_again (carried_out (flat_controls plan code)) plan (flat_controls plan code).barrier r n c)

-- Tasks, calls and objects by their numbers: queues, masters, actions and open alternatives (RM 9).
use Rattle.std.specs.Prelude.{ℕ, zero, suc, ◌+ℤ◌, ℤ, pos, negsuc, List, [], ◌∷◌, ◌++◌, length, map, filter, Option, Some, None, Bool, true, false, not, ◌&&◌, ◌||◌, nat_eq, nat_lt, if◌then◌else◌, slice_index_or, slice_get}
use Rattle.std.specs.Fmt.{decimal}
use Rattle.aud_text.specs.declared.place.Pos.{Pos}
use Rattle.aud_text.specs.declared.raise.Raise.{Raise}
use Rattle.aud_typed.specs.declared.program.Exception.{Exception}
use Rattle.aud_typed.specs.declared.program.Exception.TheVariants.{Predefined}
use Rattle.aud_typed.specs.Tree.{Plan, UnitPlan, TaskPlan, ObjectPlan, EntryPlan, Tasks}
use Rattle.aud_meaning.specs.declared.state.Status.{Status}
use Rattle.aud_meaning.specs.declared.state.Status.TheVariants.{Created, Running, Accepting, Calling, Completed, Terminated}
use Rattle.aud_meaning.specs.declared.state.CallState.{CallState}
use Rattle.aud_meaning.specs.declared.state.CallState.TheVariants.{Queued, Selected, Done, Cancelled}
use Rattle.aud_meaning.specs.declared.state.Owner.{Owner}
use Rattle.aud_meaning.specs.declared.state.Owner.TheVariants as owner
use Rattle.aud_meaning.specs.declared.state.Pending.{Pending}
use Rattle.aud_meaning.specs.declared.state.OpenAccept.{OpenAccept}
use Rattle.aud_meaning.specs.declared.state.Action.{Action}
use Rattle.aud_meaning.specs.declared.state.Form.TheVariants.{Plain}
use Rattle.aud_meaning.specs.Configuration.{Frame, Purpose, for_body, for_block, for_procedure, Opened, Waits, Own, Call, Object, Shared, TaskAt, All, Acting}
use Rattle.aud_meaning.specs.Evaluation.{Facts, Sight}
use Rattle.aud_meaning.specs.Effects.{pends, outermost}

-- Parts of the configuration, by their numbers.

abbrev pub changed : {A : Type 0} → ℕ → (A → A) → List A → List A
changed n f [] = []
changed zero f (x ∷ xs) = f x ∷ xs
changed (suc n) f (x ∷ xs) = x ∷ changed n f xs

-- the numbers of those that pass
abbrev pub numbers : {A : Type 0} → (A → Bool) → ℕ → List A → List ℕ
numbers passes n [] = []
numbers passes n (x ∷ xs) = if passes x then n ∷ numbers passes (suc n) xs else numbers passes (suc n) xs

abbrev pub contains : ℕ → List ℕ → Bool
contains n [] = false
contains n (m ∷ ms) = nat_eq n m || contains n ms

abbrev pub any : {A : Type 0} → (A → Bool) → List A → Bool
any passes [] = false
any passes (x ∷ xs) = passes x || any passes xs

-- where no task has the number
abbrev pub nobody : Own
nobody = record {
  name = [];
  task_type = None;
  unit = 0;
  pending = None;
  status = Terminated;
  display = [];
  opened = [];
  raised = None;
  masters = [];
  part = 0;
  activator = None;
  failed = false;
  at = record { line = 0; col = 0 };
  waits = record { accepts = []; delays = []; terminate = false };
  call = 0;
  serving = None;
  again = None;
  restart = None;
  abnormal = false;
  withdraw = None;
}

abbrev pub no_call : Call
no_call = record { caller = 0; owner = owner.Object 0; entry = 0; arrival = 0; values = []; unseen = []; backs = []; form = Plain; stays = false; at = record { line = 0; col = 0 }; state = Done }

abbrev pub no_object : Object
no_object = record { declaration = 0; display = []; actions = [] }

-- all tasks, but for what they have left to do
abbrev pub owns : {C : Type 0} → List (TaskAt C) → List Own
owns [] = []
owns (t ∷ ts) = t.own ∷ owns ts

abbrev pub own_of : {C : Type 0} → ℕ → All C → Own
own_of n c = slice_index_or (owns c.tasks) n nobody

abbrev pub call_of : {C : Type 0} → ℕ → All C → Call
call_of n c = slice_index_or c.shared.calls n no_call

abbrev pub object_of : {C : Type 0} → ℕ → All C → Object
object_of n c = slice_index_or c.shared.objects n no_object

abbrev pub on_task : {C : Type 0} → ℕ → (TaskAt C → TaskAt C) → All C → All C
on_task n f c = record c { tasks = changed n f c.tasks }

abbrev pub on_own : {C : Type 0} → ℕ → (Own → Own) → All C → All C
on_own n f c = on_task n (λ t. record t { own = f t.own }) c

abbrev pub on_control : {C : Type 0} → ℕ → (C → C) → All C → All C
on_control n f c = on_task n (λ t. record t { control = f t.control }) c

abbrev pub on_shared : {C : Type 0} → (Shared → Shared) → All C → All C
on_shared f c = record c { shared = f c.shared }

abbrev pub on_call : {C : Type 0} → ℕ → (Call → Call) → All C → All C
on_call n f c = on_shared (λ s. record s { calls = changed n f s.calls }) c

abbrev pub on_object : {C : Type 0} → ℕ → (Object → Object) → All C → All C
on_object n f c = on_shared (λ s. record s { objects = changed n f s.objects }) c

abbrev pub with_frames : {C : Type 0} → List Frame → All C → All C
with_frames frames c = on_shared (λ s. record s { frames = frames }) c

-- a task by itself beside what all share
abbrev pub acting : {C : Type 0} → TaskAt C → Shared → Acting C
acting t shared = record { control = t.control; own = t.own; shared = shared }

abbrev pub put_back : {C : Type 0} → ℕ → Acting C → All C → All C
put_back n t c = record c { tasks = changed n (λ old. record { control = t.control; own = t.own }) c.tasks; shared = t.shared }

abbrev pub alone_by : {C : Type 0} → (Acting C → Acting C) → Option (TaskAt C) → ℕ → All C → All C
alone_by f None n c = c
alone_by f (Some t) n c = put_back n (f (acting t c.shared)) c

abbrev pub alone : {C : Type 0} → (Acting C → Acting C) → ℕ → All C → All C
alone f n c = alone_by f (slice_get c.tasks n) n c

abbrev pub raised_at : {C : Type 0} → Raise → Pos → ℕ → All C → All C
raised_at raise at n c = on_own n (pends (Predefined raise) at) c

-- Queues (RM 9.5.3, D.4): a filter of all calls, by the number of arrival.

pub record Waiting : Type 0 where
  pub call : ℕ
  pub arrival : ℕ
  pub caller : ℕ

abbrev pub insert : Waiting → List Waiting → List Waiting
insert w [] = w ∷ []
insert w (x ∷ xs) = if nat_lt w.arrival x.arrival then w ∷ x ∷ xs else x ∷ insert w xs

abbrev pub is_queued : CallState → Bool
is_queued Queued = true
is_queued _ = false

abbrev pub is_selected : CallState → Bool
is_selected Selected = true
is_selected _ = false

abbrev pub owner_number : Owner → ℕ
owner_number (owner.Task n) = n
owner_number (owner.Object n) = n

abbrev pub is_task : ℕ → Owner → Bool
is_task n (owner.Task m) = nat_eq n m
is_task n (owner.Object m) = false

abbrev pub is_object : ℕ → Owner → Bool
is_object n (owner.Task m) = false
is_object n (owner.Object m) = nat_eq n m

-- the entry tells whether its owner is a task or an object
abbrev pub queue_from : ℕ → ℕ → ℕ → List Call → List Waiting
queue_from id owner entry [] = []
queue_from id owner entry (c ∷ cs) =
    if is_queued c.state && nat_eq c.entry entry && nat_eq (owner_number c.owner) owner
    then insert (record { call = id; arrival = c.arrival; caller = c.caller }) (queue_from (suc id) owner entry cs)
    else queue_from (suc id) owner entry cs

abbrev pub queue : ℕ → ℕ → List Call → List Waiting
queue owner entry calls = queue_from 0 owner entry calls

-- What tasks ask of each other (RM 9.9).

abbrev pub is_over : Status → Bool
is_over Completed = true
is_over Terminated = true
is_over _ = false

abbrev pub is_terminated : Status → Bool
is_terminated Terminated = true
is_terminated _ = false

abbrev pub is_created : Status → Bool
is_created Created = true
is_created _ = false

abbrev pub is_accepting : Status → Bool
is_accepting Accepting = true
is_accepting _ = false

abbrev pub is_callable : Own → Bool
is_callable own = not (is_over own.status) && not own.abnormal

abbrev pub facts_in : List Own → List Call → Facts
facts_in os calls = record {
  count = λ owner entry. length (queue owner entry calls);
  callable = λ n. is_callable (slice_index_or os n nobody);
  terminated = λ n. is_terminated (slice_index_or os n nobody).status;
}

abbrev pub facts_of : {C : Type 0} → All C → Facts
facts_of c = facts_in (owns c.tasks) c.shared.calls

-- what the task of a number sees
abbrev pub sight_in : ℕ → List Own → Shared → Sight
sight_in n os shared = record { display = (slice_index_or os n nobody).display; frames = shared.frames; facts = facts_in os shared.calls }

abbrev pub sight_of : {C : Type 0} → ℕ → All C → Sight
sight_of n c = sight_in n (owns c.tasks) c.shared

-- Masters (RM 9.3).

abbrev pub is_master : Opened → Bool
is_master o = by o.purpose
  where
    by : Purpose → Bool
    by for_body = true
    by for_block = true
    by (for_procedure r) = true
    by _ = false

-- those that a task depends on that this one creates
abbrev pub masters_under_way : Own → List ℕ
masters_under_way own = map (λ (o : Opened). o.frame) (filter is_master own.opened) ++ own.masters

-- it depends on the master and isn't terminated
abbrev pub depends : ℕ → Own → Bool
depends master own = not (is_terminated own.status) && contains master own.masters

-- blocked at a selective accept with an open terminate alternative (RM 9.7.1(16))
abbrev pub may_terminate : Own → Bool
may_terminate own = is_accepting own.status && own.waits.terminate && not own.abnormal

abbrev pub Closable : {C : Type 0} → ℕ → All C → Bool
Closable master c = not (any (λ (t : TaskAt _). depends master t.own && not (may_terminate t.own)) c.tasks)

-- the frames of the innermost master and of a body
abbrev pub body_master : Own → ℕ
body_master own = outermost own.opened

-- Protected actions (RM 9.5.1).

abbrev pub acts_on : ℕ → Object → Bool
acts_on task o = any (λ (a : Action). nat_eq a.task task) o.actions

-- the task has an action under way
abbrev pub in_action : {C : Type 0} → ℕ → All C → Bool
in_action task c = any (acts_on task) c.shared.objects

abbrev pub is_idle : Object → Bool
is_idle o = by o.actions
  where
    by : List Action → Bool
    by [] = true
    by (a ∷ more) = false

-- another task's action is in the way; functions may run together (RM 9.5.1(5, 6))
abbrev pub in_the_way : ℕ → Bool → Object → Bool
in_the_way task reading o = any (λ (a : Action). not (nat_eq a.task task) && not (reading && a.reading)) o.actions

abbrev pub begin_action : {C : Type 0} → ℕ → ℕ → Bool → All C → All C
begin_action task object reading c = on_object object (λ o. record o { actions = o.actions ++ record { task = task; reading = reading } ∷ [] }) c

abbrev pub end_action : {C : Type 0} → ℕ → ℕ → All C → All C
end_action task object c =
    on_own task (λ own. record own { serving = None })
    (on_object object (λ o. record o { actions = filter (λ (a : Action). not (nat_eq a.task task)) o.actions }) c)

-- Accepts (RM 9.5.2, 9.7.1).

-- the open alternatives of a task for an entry; none where it isn't open
abbrev pub open_alternatives : Own → ℕ → List OpenAccept
open_alternatives own entry =
    if is_accepting own.status && not own.abnormal
    then filter (λ (a : OpenAccept). nat_eq a.entry entry) own.waits.accepts
    else []

-- that of the number, or else the first
abbrev pub alternative_of : Option ℕ → OpenAccept → List OpenAccept → OpenAccept
alternative_of None first more = first
alternative_of (Some n) first [] = first
alternative_of (Some n) first (a ∷ more) = if nat_eq a.alternative n then a else alternative_of (Some n) first more

abbrev pub no_waits : Waits
no_waits = record { accepts = []; delays = []; terminate = false }

-- it goes on
abbrev pub runs : Own → Own
runs own = record own { status = Running; waits = no_waits }

abbrev pub blocks : Status → Pos → Waits → Own → Own
blocks status at waits own = record own { status = status; at = at; waits = waits }

-- the entry calls that are queued on a task's entries, or a task's own, or on an object's
abbrev pub calls_on_task : ℕ → List Call → List ℕ
calls_on_task n calls = numbers (λ (c : Call). is_queued c.state && is_task n c.owner) 0 calls

abbrev pub calls_on_object : ℕ → List Call → List ℕ
calls_on_object n calls = numbers (λ (c : Call). is_queued c.state && is_object n c.owner) 0 calls

-- how a call ends: with the formals' values, or by an exception
pub data Outcome : Type 0 where
  succeeds : List ℤ → Outcome
  fails : Exception → Outcome

-- a new call, with the number that it will have
abbrev pub new_call : {C : Type 0} → Call → All C → All C
new_call call c = on_shared (λ s. record s { calls = s.calls ++ call ∷ [] }) c

abbrev pub call_number : {C : Type 0} → All C → ℕ
call_number c = length c.shared.calls

-- it arrives on the entry that it names now
abbrev pub arrives : {C : Type 0} → ℕ → All C → All C
arrives id c =
    on_shared (λ s. record s { arrivals = suc s.arrivals })
    (on_call id (λ a. record a { state = Queued; arrival = c.shared.arrivals }) c)

abbrev pub cancels : {C : Type 0} → ℕ → All C → All C
cancels id c = on_call id (λ a. record a { state = Cancelled }) c

-- the caller waits for it
abbrev pub stands_at_call : {C : Type 0} → ℕ → ℕ → Pos → All C → All C
stands_at_call task id at c = on_own task (λ own. record (blocks Calling at no_waits own) { call = id }) c

abbrev pub number_name : ℤ → List ℕ
number_name (pos n) = decimal n
number_name (negsuc n) = 45 ∷ decimal (suc n)

abbrev pub task_name : Tasks → ℕ → List ℕ
task_name ts n = if ts.is_array then ts.name ++ 40 ∷ (number_name (ts.low +ℤ pos n) ++ 41 ∷ []) else ts.name

abbrev pub no_unit : UnitPlan
no_unit = record { level = 0; region = 0; is_function = false; at = record { line = 0; col = 0 }; end = record { line = 0; col = 0 } }

abbrev pub unit_of : Plan → ℕ → UnitPlan
unit_of plan n = slice_index_or plan.units n no_unit

abbrev pub task_plan : Plan → ℕ → TaskPlan
task_plan plan n = slice_index_or plan.tasks n (record { unit = 0; entries = [] })

abbrev pub object_plan : Plan → ℕ → ObjectPlan
object_plan plan n = slice_index_or plan.objects n (record { name = []; level = 0; components = []; entries = [] })

abbrev pub entry_plan : Plan → ℕ → EntryPlan
entry_plan plan n = slice_index_or plan.entries n (record { name = []; formals = 0; unit = 0 })

abbrev pub exception_of : Option Pending → Option Exception
exception_of None = None
exception_of (Some p) = Some p.exception

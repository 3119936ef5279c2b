-- What a user can see of why tasks wait, and for whom (RM 9.2, 9.3, 9.5.1 to 9.5.4, 9.6, 9.7.1).
use Rattle.std.specs.Prelude.{ℕ, suc, min, List, [], ◌∷◌, ◌++◌, map, Option, Some, None, Result, Bool, true, false, not, ◌&&◌, nat_eq, if◌then◌else◌, codes}
use Rattle.std.specs.Fmt.{decimal}
use Rattle.aud_text.specs.declared.raise.Raise.{Raise}
use Rattle.aud_typed.specs.Tree.{Plan}
use Rattle.aud_meaning.specs.declared.state.Status.{Status}
use Rattle.aud_meaning.specs.declared.state.Status.TheVariants.{Activating, Accepting, Delaying}
use Rattle.aud_meaning.specs.declared.state.CallState.{CallState}
use Rattle.aud_meaning.specs.declared.state.CallState.TheVariants.{Queued, Selected, Done, Cancelled}
use Rattle.aud_meaning.specs.declared.state.Owner.{Owner}
use Rattle.aud_meaning.specs.declared.state.Owner.TheVariants as owner
use Rattle.aud_meaning.specs.declared.state.Pending.{Pending}
use Rattle.aud_meaning.specs.declared.state.OpenAccept.{OpenAccept}
use Rattle.aud_meaning.specs.declared.state.OpenDelay.{OpenDelay}
use Rattle.aud_meaning.specs.declared.state.Restart.{Restart}
use Rattle.aud_meaning.specs.Configuration.{Own, Call, TaskAt, All}
use Rattle.aud_meaning.specs.Control.{Coming, simply, ending, selecting, calling, starting, Seen}
use Rattle.aud_meaning.specs.Evaluation.{Sight}
use Rattle.aud_meaning.specs.Parts.{numbers, owns, own_of, call_of, object_of, object_plan, entry_plan, is_terminated, depends, Closable, body_master, is_idle, in_the_way}
use Rattle.aud_meaning.specs.Run.{Turn, resting, closing, completing, withdrawing, serving, restarting, expiring, cancelling, acting, turn, call_time_by, construct_left, master_left_by}
use Rattle.aud_meaning.specs.Listings.Values.{spaced, numbered, exception_name}

-- what keeps a task from going on: its entry call and an object, by their numbers, and a master, by its frame
pub data Hold : Type 0 where
  nothing : Hold
  a_call : ℕ → Hold
  an_accept : Hold
  a_delay : Hold
  an_object : ℕ → Hold
  a_master : ℕ → Hold
  an_activation : Hold

abbrev pub object_if : Bool → ℕ → Hold
object_if true object = an_object object
object_if false object = nothing

abbrev pub master_if : Bool → ℕ → Hold
master_if true master = a_master master
master_if false master = nothing

abbrev pub resting_hold : Status → Hold
resting_hold Activating = an_activation
resting_hold _ = nothing

abbrev pub blocked_hold : Status → Hold
blocked_hold Accepting = an_accept
blocked_hold Delaying = a_delay
blocked_hold _ = nothing

abbrev pub times : List OpenDelay → List ℕ
times ds = map (λ (d : OpenDelay). d.time) ds

abbrev pub soonest : ℕ → List ℕ → ℕ
soonest time [] = time
soonest time (other ∷ more) = soonest (min time other) more

abbrev pub is_this : ℕ → Option ℕ → Bool
is_this n None = false
is_this n (Some m) = nat_eq m n

-- its activation has not ended, and the task of this number waits for that
abbrev pub is_awaited : ℕ → Own → Bool
is_awaited n own = not (is_terminated own.status) && is_this n own.activator

-- the object on which the acceptor of a call makes it again as its next step
abbrev pub again_by : ℕ → Option Restart → Owner → Owner
again_by id None o = o
again_by id (Some r) o = if nat_eq r.call id then owner.Object r.object else o

abbrev pub again_on : ℕ → List Own → Owner → Owner
again_on id [] o = o
again_on id (own ∷ os) o = again_on id os (again_by id own.restart o)

abbrev pub leaving_hold : {C : Type 0} → Option ℕ → All C → Hold
leaving_hold None c = nothing
leaving_hold (Some master) c = master_if (not (Closable master c)) master

abbrev pub acting_hold : {C : Type 0} → Coming → ℕ → Own → All C → Hold
acting_hold (simply w) n own c = nothing
acting_hold ending n own c = leaving_hold (master_left_by (construct_left own)) c
acting_hold (selecting ones) n own c = nothing
acting_hold (calling task entry) n own c = nothing
acting_hold (starting object reading) n own c = object_if (in_the_way n reading (object_of object c)) object

-- of the task of a number, by what it does next
abbrev pub hold_by : {C : Type 0} → Turn → ℕ → Own → All C → Hold
hold_by resting n own c = resting_hold own.status
hold_by closing n own c = leaving_hold (Some (body_master own)) c
hold_by completing n own c = nothing
hold_by (withdrawing object) n own c = object_if (not (is_idle (object_of object c))) object
hold_by (serving s) n own c = nothing
hold_by (restarting r) n own c = object_if (in_the_way n false (object_of r.object c)) r.object
hold_by (expiring delays) n own c = blocked_hold own.status
hold_by (cancelling id) n own c = a_call id
hold_by (acting next) n own c = acting_hold next n own c

-- Words of a line.

abbrev pub object_words : {C : Type 0} → Plan → ℕ → All C → List ℕ
object_words plan n c = spaced (codes "object") (spaced (decimal (suc n)) (object_plan plan (object_of n c).declaration).name)

abbrev pub owner_words : {C : Type 0} → Plan → Owner → All C → List ℕ
owner_words plan (owner.Task n) c = spaced (decimal (suc n)) (own_of n c).name
owner_words plan (owner.Object n) c = object_words plan n c

-- an entry with the task or object whose it is
abbrev pub entry_words : {C : Type 0} → Plan → Owner → ℕ → All C → List ℕ
entry_words plan o entry c = owner_words plan o c ++ 46 ∷ (entry_plan plan entry).name

abbrev pub accept_words : Plan → List OpenAccept → List ℕ
accept_words plan [] = []
accept_words plan (a ∷ more) = 32 ∷ ((entry_plan plan a.entry).name ++ accept_words plan more)

abbrev pub terminate_words : Bool → List ℕ
terminate_words true = codes " terminate"
terminate_words false = []

-- until the soonest of some times
abbrev pub delay_words : ℕ → List ℕ → List ℕ
delay_words time more = spaced (codes "delay") (decimal (soonest time more))

abbrev pub delay_behind : List ℕ → List ℕ
delay_behind [] = []
delay_behind (time ∷ more) = 32 ∷ delay_words time more

-- Reasons, each without the task.

abbrev pub raised_reasons : Plan → Option Pending → List (List ℕ)
raised_reasons plan None = []
raised_reasons plan (Some p) = spaced (codes "raised") (exception_name plan p.exception) ∷ []

abbrev pub delay_reasons : List ℕ → List (List ℕ)
delay_reasons [] = []
delay_reasons (time ∷ more) = delay_words time more ∷ []

-- when a call that is queued expires, unless it stays
abbrev pub expiry : Call → List ℕ
expiry call = if call.stays then [] else call_time_by call.form

abbrev pub call_reasons : {C : Type 0} → Plan → CallState → ℕ → Call → All C → List (List ℕ)
call_reasons plan Queued id call c = spaced (codes "call") (entry_words plan call.owner call.entry c) ∷ delay_reasons (expiry call)
call_reasons plan Selected id call c = spaced (codes "selected") (entry_words plan (again_on id (owns c.tasks) call.owner) call.entry c) ∷ []
call_reasons plan Done id call c = []
call_reasons plan Cancelled id call c = []

abbrev pub hold_reasons : {C : Type 0} → Plan → Hold → ℕ → Own → All C → List (List ℕ)
hold_reasons plan nothing n own c = []
hold_reasons plan (a_call id) n own c = let call = call_of id c in call_reasons plan call.state id call c
hold_reasons plan an_accept n own c =
    (codes "accept" ++ (accept_words plan own.waits.accepts ++ (terminate_words own.waits.terminate ++ delay_behind (times own.waits.delays)))) ∷ []
hold_reasons plan a_delay n own c = delay_reasons (times own.waits.delays)
hold_reasons plan (an_object object) n own c = object_words plan object c ∷ []
hold_reasons plan (a_master master) n own c = (codes "master" ++ numbered (numbers (depends master) 0 (owns c.tasks))) ∷ []
hold_reasons plan an_activation n own c = (codes "activation" ++ numbered (numbers (is_awaited n) 0 (owns c.tasks))) ∷ []

abbrev pub reason_lines : ℕ → List ℕ → List (List ℕ) → List (List ℕ)
reason_lines n name [] = []
reason_lines n name (words ∷ more) = spaced (decimal (suc n)) (spaced name words) ∷ reason_lines n name more

module _ (plan : Plan) (barrier : ℕ → Sight → Result Bool Raise) where
  abbrev pub reasons : ℕ → TaskAt Seen → All Seen → List (List ℕ)
  reasons n t c =
      raised_reasons plan t.own.pending ++ hold_reasons plan (hold_by (turn plan barrier n t c) n t.own c) n t.own c

  abbrev pub wait_lines : ℕ → List (TaskAt Seen) → All Seen → List (List ℕ)
  wait_lines n [] c = []
  wait_lines n (t ∷ ts) c = reason_lines n t.own.name (if is_terminated t.own.status then [] else reasons n t c) ++ wait_lines (suc n) ts c

  abbrev pub waits_view : All Seen → List (List ℕ)
  waits_view c = wait_lines 0 c.tasks c

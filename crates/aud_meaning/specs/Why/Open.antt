-- Between steps no call is queued on an open task entry, whichever enabled moves are taken.
use Rattle.std.specs.Prelude.{◌≡◌, ℕ, List, [], filter, Some, Bool, true, false, ◌&&◌, nat_eq, is_some, slice_get}
use Rattle.aud_text.specs.declared.limits.Limits.{Limits}
use Rattle.aud_typed.specs.Tree.{Plan, Program}
use Rattle.aud_meaning.specs.declared.state.OpenAccept.{OpenAccept}
use Rattle.aud_meaning.specs.declared.state.Owner.{Owner}
use Rattle.aud_meaning.specs.declared.state.Move.{Move}
use Rattle.aud_meaning.specs.Configuration.{Item, Own, Call, All}
use Rattle.aud_meaning.specs.Control.{Controls}
use Rattle.aud_meaning.specs.Parts.{call_of, is_accepting, is_object, is_queued, is_task, numbers, open_alternatives, own_of, queue}
use Rattle.aud_meaning.specs.Run.{step_with, run_with, moves_at, supplied, advanced, opening_with}
use Rattle.aud_meaning.specs.Statements.{controls}

-- those for an entry
abbrev pub accepts_for : ℕ → List OpenAccept → List OpenAccept
accepts_for entry ones = filter (λ (a : OpenAccept). nat_eq a.entry entry) ones

-- the task is blocked at an accept for the entry, or at a selective accept with an open alternative for it (RM 9.5.3(5)); it may
-- be abnormal
abbrev pub IsOpen : Own → ℕ → Type 0
IsOpen own entry = (is_accepting own.status ≡ true) × (¬ (accepts_for entry own.waits.accepts ≡ []))

-- the calls that are queued on the entry of an owner
abbrev pub queued_on : (Owner → Bool) → ℕ → List Call → List ℕ
queued_on is_its entry calls = numbers (λ (c : Call). is_queued c.state && nat_eq c.entry entry && is_its c.owner) 0 calls

-- it waits for no call; of an abnormal task nothing is said, since it can't be called
abbrev pub IsStill : Own → Type 0
IsStill own = own.abnormal ≡ false → own.waits.accepts ≡ []

-- so is a task that isn't blocked at an accept, and one that services an object
abbrev pub IsSettled : Own → Type 0
IsSettled own = (is_accepting own.status ≡ false → IsStill own) × (is_some own.serving ≡ true → IsStill own)

-- where the call is queued on an entry of the task of this number, that task doesn't wait for it, whatever its status is
abbrev pub IsUnmet : ℕ → Own → Call → Type 0
IsUnmet n own call = is_queued call.state ≡ true → is_task n call.owner ≡ true → accepts_for call.entry own.waits.accepts ≡ []

pub record NoneMissed (C : Type 0) (c : All C) : Type 0 where
  pub settled : (n : ℕ) → IsSettled (own_of n c)
  pub unmet : (n id : ℕ) → IsUnmet n (own_of n c) (call_of id c)

-- What enabled moves keep, and what it says.
pub record KeepsOpen (C : Type 0) (plan : Plan) (k : Controls C) (limits : Limits) : Type 0 where
  pub opening : (name : List ℕ) (left : C) → NoneMissed C (opening_with plan name left)
  -- by the number of the move
  pub step : (c : All C) (number : ℕ) (m : Move) → slice_get (moves_at plan k c) number ≡ Some m → NoneMissed C c → NoneMissed C (step_with plan k limits c m)
  pub run : (n : ℕ) (c : All C) → NoneMissed C c → NoneMissed C (run_with plan k limits n c)
  pub supply : (choices : List ℕ) (c : All C) → NoneMissed C c → NoneMissed C (supplied choices c)
  pub wait : (milliseconds : ℕ) (c : All C) → NoneMissed C c → NoneMissed C (advanced milliseconds c)
  -- no call is queued on an open entry of a task
  pub none : (c : All C) → NoneMissed C c → (n entry : ℕ) → IsOpen (own_of n c) entry → queued_on (is_task n) entry c.shared.calls ≡ []
  -- its queue is empty, where it has none of an object's calls: of those the entry of a checked program has none, since it is a task's
  pub empty : (c : All C) → NoneMissed C c → (n entry : ℕ) → IsOpen (own_of n c) entry → queued_on (is_object n) entry c.shared.calls ≡ [] → queue n entry c.shared.calls ≡ []
  -- an entry that a caller finds open is
  pub found : (own : Own) (entry : ℕ) → ¬ (open_alternatives own entry ≡ []) → IsOpen own entry

abbrev pub OpenLaw : Type 0
OpenLaw = (limits : Limits) (program : Program) → KeepsOpen (List Item) program.plan (controls program) limits

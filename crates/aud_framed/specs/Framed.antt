-- Tasks under way hold the frames that are open where they stand.
use Rattle.std.specs.Prelude.{◌≡◌, ◌⊎◌, ◌<◌, ℕ, suc, List, [], ◌∷◌, length, Option, None, Some, true, false, not, is_some, slice_get, slice_index_or}
use Rattle.aud_typed.specs.Tree.{Plan}
use Rattle.aud_meaning.specs.declared.state.Action.{Action}
use Rattle.aud_meaning.specs.declared.state.CallState.TheVariants.{Queued}
use Rattle.aud_meaning.specs.Configuration.{Own, Object, TaskAt, All}
use Rattle.aud_meaning.specs.Control.{Asked, calls_operation, calls_entry, declares_object, accepts, selects, requeues, ends}
use Rattle.aud_meaning.specs.Parts.{acts_on, any, call_of, entry_plan, is_over, object_of, object_plan, own_of, task_plan, unit_of}
use Rattle.aud_meaning.specs.Run.{scene_of, supplied, advanced, opening_with}
use Rattle.aud_meaning.specs.Why.Open.{NoneMissed}
use Rattle.aud_code.specs.Places.{Spot}
use Rattle.aud_code.specs.Flat.{Flat, asked_at, flat_controls, start_at}
use Rattle.aud_code.specs.Seen.{IsSeen}
use Rattle.aud_code.specs.Sound.{Counts, IsSound}
use Rattle.aud_over.specs.Over.{is_call_over, forgotten}
use Rattle.aud_framed.specs.Waiting.{AllOfTasks, AllFramed}
use Rattle.aud_framed.specs.Calls.{CallerWaits, objects_in, EntryFits, RequeueFits, Serves, QueueFits}

module _ (plan : Plan) where
  -- the bodies of an object's entries see as many frames as the object does
  abbrev pub EntriesFit : ℕ → List ℕ → Type 0
  EntriesFit n [] = Unit {0}
  EntriesFit n (e ∷ es) = ((unit_of plan (entry_plan plan e).unit).level ≡ n) × EntriesFit n es

  abbrev pub AllObjectsFit : List Object → Type 0
  AllObjectsFit [] = Unit {0}
  AllObjectsFit (o ∷ os) = EntriesFit (length o.display) (object_plan plan o.declaration).entries × AllObjectsFit os

pub record IsFramed (plan : Plan) (code : Flat) (seen : List ℕ) (c : All Spot) : Type 0 where
  pub tasks : AllFramed plan code seen c.tasks
  pub objects : AllObjectsFit plan c.shared.objects
  -- the caller of a call that is not over waits for it
  pub calls : (id : ℕ) → is_call_over (call_of id c).state ≡ false → CallerWaits id (call_of id c) (own_of (call_of id c).caller c)
  pub queued : (id : ℕ) → QueueFits plan c (call_of id c)
  -- one of an abnormal task stays
  pub stays : (id : ℕ) → (call_of id c).state ≡ Queued → (own_of (call_of id c).caller c).abnormal ≡ true → (call_of id c).stays ≡ true
  pub serves : (n : ℕ) → is_over (own_of n c).status ≡ false → Serves plan c n (own_of n c)
  -- tasks act on an object by themselves, or together where all read
  pub alone : (object n m : ℕ) → acts_on n (object_of object c) ≡ true → acts_on m (object_of object c) ≡ true → (n ≡ m) ⊎ (any (λ (a : Action). not a.reading) (object_of object c).actions ≡ false)

-- the table is that of the levels of bodies; the body of a task type is that of its plan
pub record HasLevels (plan : Plan) (code : Flat) (tasks seen : List ℕ) : Type 0 where
  pub bodies : (n : ℕ) → slice_get seen (start_at code n) ≡ Some (suc (unit_of plan n).level)
  pub types : (n : ℕ) → slice_index_or tasks n 0 ≡ (task_plan plan n).unit

-- What code alone doesn't say: the object whose number a cell holds is one of which the body or the entry is that is called, and an
-- entry is of a task or of objects; tasks accept in no object's body, and requeue in what they accept or in entry bodies, which they
-- then leave at once.
abbrev pub AskedMeets : Plan → Own → All Spot → Asked → Type 0
AskedMeets plan own c (calls_operation at object unit p into) = (object < length c.shared.objects) × ((unit_of plan unit).level ≡ length (object_of object c).display)
AskedMeets plan own c (calls_entry o call) = EntryFits plan c o call.entry
AskedMeets plan own c (declares_object at declaration cells) = EntriesFit plan (suc (length own.display)) (object_plan plan declaration).entries
AskedMeets plan own c (accepts a) = (objects_in own.opened ≡ []) × AllOfTasks plan (a ∷ [])
AskedMeets plan own c (selects has_else waits at) = (objects_in own.opened ≡ []) × AllOfTasks plan waits.accepts
AskedMeets plan own c (requeues loops r) = RequeueFits plan c r own.opened
AskedMeets plan own c _ = Unit {0}

abbrev pub IsLeaving : Asked → Type 0
IsLeaving (ends loops) = Unit {0}
IsLeaving _ = ⊥

abbrev pub MeetsBy : Plan → Flat → Option (TaskAt Spot) → ℕ → All Spot → Type 0
MeetsBy plan code None n c = Unit {0}
MeetsBy plan code (Some t) n c =
    let asked = asked_at code t.own.pending (scene_of plan (flat_controls plan code) n c) t.control in
    AskedMeets plan t.own c asked × (is_some t.own.again ≡ true → IsLeaving asked)

-- so it is at the beginning
abbrev pub FramedOpensLaw : Type 0
FramedOpensLaw =
    (plan : Plan) (code : Flat) (table : List Counts) (tasks barriers seen : List ℕ) (name : List ℕ) → IsSound code → IsSeen code table tasks barriers seen → IsFramed plan code seen (opening_with plan name ((flat_controls plan code).begins 0))

-- whatever the user supplies
abbrev pub FramedSuppliedLaw : Type 0
FramedSuppliedLaw =
    (plan : Plan) (code : Flat) (seen : List ℕ) (choices : List ℕ) (milliseconds : ℕ) (c : All Spot) → IsFramed plan code seen c → IsFramed plan code seen (supplied choices c) × IsFramed plan code seen (advanced milliseconds c)

-- Nothing of this depends on what is over.
abbrev pub KeptFramedLaw : Type 0
KeptFramedLaw = (plan : Plan) (code : Flat) (seen : List ℕ) (c d : All Spot) → forgotten c ≡ forgotten d → IsFramed plan code seen c → IsFramed plan code seen d

abbrev pub KeptMissedLaw : (C : Type 0) → Type 0
KeptMissedLaw C = (c d : All C) → forgotten c ≡ forgotten d → NoneMissed C c → NoneMissed C d

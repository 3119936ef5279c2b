-- The calls that tasks wait for and serve, and the objects that they act on.
use Rattle.std.specs.Prelude.{◌≡◌, ◌⊎◌, ◌<◌, ℕ, List, [], ◌∷◌, length, Option, None, Some, Bool, true, false, not, ◌&&◌, nat_eq}
use Rattle.aud_typed.specs.Tree.{Plan}
use Rattle.aud_meaning.specs.declared.state.Action.{Action}
use Rattle.aud_meaning.specs.declared.state.Again.{Again}
use Rattle.aud_meaning.specs.declared.state.CallState.TheVariants.{Queued, Selected}
use Rattle.aud_meaning.specs.declared.state.Form.{Form}
use Rattle.aud_meaning.specs.declared.state.Form.TheVariants.{Plain, Conditional, TimedTo}
use Rattle.aud_meaning.specs.declared.state.Owner.{Owner}
use Rattle.aud_meaning.specs.declared.state.Owner.TheVariants as owner
use Rattle.aud_meaning.specs.declared.state.Restart.{Restart}
use Rattle.aud_meaning.specs.declared.state.Serving.{Serving}
use Rattle.aud_meaning.specs.declared.state.Status.TheVariants.{Running, Activating, Calling}
use Rattle.aud_meaning.specs.Configuration.{Purpose, for_body, for_block, for_loop, for_procedure, for_operation, for_entry, for_accept, Opened, Own, Call, All}
use Rattle.aud_meaning.specs.Parts.{acts_on, any, call_of, contains, entry_plan, object_of, unit_of}
use Rattle.aud_over.specs.Over.{is_call_over}
pub use Rattle.aud_framed.specs.Held.{objects_in}
use Rattle.aud_framed.specs.Waiting.{is_of_object}

-- Callers.

-- it does an entry's body of the object, from which it goes back to its own call
abbrev pub WithinEntry : Owner → List Opened → Type 0
WithinEntry o [] = ⊥
WithinEntry o (x ∷ xs) = by x.purpose (WithinEntry o xs)
  where
    by : Purpose → Type 0 → Type 0
    by for_body rest = rest
    by for_block rest = rest
    by for_loop rest = rest
    by (for_procedure r) rest = rest
    by (for_operation n r) rest = rest
    by (for_entry n id served back) rest = ((o ≡ owner.Object n) × (back.status ≡ Calling)) ⊎ rest
    by (for_accept id) rest = rest

-- it waits for a call of this owner, or serves the owner meanwhile
abbrev pub Waits : Owner → Own → Type 0
Waits o own = (own.status ≡ Calling) ⊎ (((own.status ≡ Running) ⊎ (own.status ≡ Activating)) × WithinEntry o own.opened)

-- the caller stands at the call, whatever entry it is made on now
abbrev pub CallerWaits : ℕ → Call → Own → Type 0
CallerWaits id call own = (own.call ≡ id) × Waits call.owner own

-- Servers.

-- the calls that a task serves, innermost first
abbrev pub calls_in : List Opened → List ℕ
calls_in [] = []
calls_in (x ∷ xs) = by x.purpose (calls_in xs)
  where
    by : Purpose → List ℕ → List ℕ
    by for_body rest = rest
    by for_block rest = rest
    by for_loop rest = rest
    by (for_procedure r) rest = rest
    by (for_operation n r) rest = rest
    by (for_entry n id served back) rest = id ∷ rest
    by (for_accept id) rest = id ∷ rest

abbrev pub with_served : Option Serving → List ℕ → List ℕ
with_served None ns = ns
with_served (Some s) ns = s.object ∷ ns

abbrev pub with_restarted : Option Restart → List ℕ → List ℕ
with_restarted None ns = ns
with_restarted (Some r) ns = r.call ∷ ns

-- no number twice
abbrev pub AreApart : List ℕ → Type 0
AreApart [] = Unit {0}
AreApart (n ∷ ns) = (contains n ns ≡ false) × AreApart ns

-- a conditional call counts as a timed one where it is made again
abbrev pub IsAgain : Form → Type 0
IsAgain Plain = Unit {0}
IsAgain (Conditional time) = ⊥
IsAgain (TimedTo time) = Unit {0}

module _ {C : Type 0} (plan : Plan) (c : All C) where
  -- the task has an action on the object that is no function's
  abbrev pub changes : ℕ → ℕ → Bool
  changes n object = any (λ (a : Action). nat_eq a.task n && not a.reading) (object_of object c).actions

  -- the entry is one of its owner, which is there
  abbrev pub IsEntryOf : Owner → ℕ → Type 0
  IsEntryOf (owner.Task m) entry = is_of_object plan entry ≡ false
  IsEntryOf (owner.Object object) entry = (is_of_object plan entry ≡ true) × (object < length c.shared.objects)

  -- and its body sees the frames that are around the object
  abbrev pub EntryFits : Owner → ℕ → Type 0
  EntryFits (owner.Task m) entry = IsEntryOf (owner.Task m) entry
  EntryFits (owner.Object object) entry =
      IsEntryOf (owner.Object object) entry × ((unit_of plan (entry_plan plan entry).unit).level ≡ length (object_of object c).display)

  abbrev pub IsServed : ℕ → Owner → Type 0
  IsServed id o = ((call_of id c).state ≡ Selected) × ((call_of id c).owner ≡ o)

  -- each call of the task that is not over is on the object; it has none; that of this number is over
  abbrev pub CallsOn : ℕ → ℕ → Type 0
  CallsOn n object = (id : ℕ) → is_call_over (call_of id c).state ≡ false → (call_of id c).caller ≡ n → (call_of id c).owner ≡ owner.Object object

  abbrev pub HasNoCall : ℕ → Type 0
  HasNoCall n = (id : ℕ) → is_call_over (call_of id c).state ≡ false → ¬ ((call_of id c).caller ≡ n)

  abbrev pub IsPast : ℕ → Type 0
  IsPast id = (id < length c.shared.calls) × (is_call_over (call_of id c).state ≡ true)

  -- a call that is served is of the task, or of the object on which it acts, as is its own call that waits meanwhile; an accept stands in
  -- no object's body
  abbrev pub ServesBy : ℕ → Purpose → List Opened → Type 0
  ServesBy n for_body os = Unit {0}
  ServesBy n for_block os = Unit {0}
  ServesBy n for_loop os = Unit {0}
  ServesBy n (for_procedure r) os = Unit {0}
  ServesBy n (for_operation object r) os = (acts_on n (object_of object c) ≡ true) × (r.is_function ≡ false → changes n object ≡ true)
  ServesBy n (for_entry object id served back) os = IsServed id (owner.Object object) × ((changes n object ≡ true) × (back.status ≡ Calling → CallsOn n object))
  ServesBy n (for_accept id) os = IsServed id (owner.Task n) × (objects_in os ≡ [])

  abbrev pub ServesIn : ℕ → List Opened → Type 0
  ServesIn n [] = Unit {0}
  ServesIn n (o ∷ os) = ServesBy n o.purpose os × ServesIn n os

  -- where the innermost accept or entry body makes its call again: an entry body on its object
  abbrev pub RequeueFits : Again → List Opened → Type 0
  RequeueFits r [] = ⊥
  RequeueFits r (x ∷ xs) = by x.purpose (RequeueFits r xs)
    where
      by : Purpose → Type 0 → Type 0
      by for_body rest = ⊥
      by for_block rest = rest
      by for_loop rest = rest
      by (for_procedure p) rest = ⊥
      by (for_operation n p) rest = ⊥
      by (for_entry n id served back) rest = is_of_object plan r.entry ≡ true
      by (for_accept id) rest = EntryFits r.owner r.entry

  -- it runs until it has left that, serves no object, and makes no call before
  abbrev pub AgainFits : Again → Own → Type 0
  AgainFits r own = RequeueFits r own.opened × ((own.status ≡ Running) × ((own.serving ≡ None) × (own.restart ≡ None)))

  -- the call that the acceptor makes again on an object as its next step: of the acceptor still, and no conditional one any more
  pub record RestartFits (n : ℕ) (own : Own) (r : Restart) : Type 0 where
    pub served : IsServed r.call (owner.Task n)
    pub form : IsAgain (call_of r.call c).form
    pub entry : EntryFits (owner.Object r.object) (call_of r.call c).entry
    pub outside : objects_in own.opened ≡ []
    pub apart : (own.serving ≡ None) × ¬ (own.status ≡ Calling)

  -- of a task that is not over
  pub record Serves (n : ℕ) (own : Own) : Type 0 where
    pub opened : ServesIn n own.opened
    pub calls : AreApart (with_restarted own.restart (calls_in own.opened))
    pub objects : AreApart (with_served own.serving (objects_in own.opened))
    pub serving : (s : Serving) → own.serving ≡ Some s → (changes n s.object ≡ true) × ((own.status ≡ Running) ⊎ ((own.status ≡ Calling) × CallsOn n s.object))
    pub again : (r : Again) → own.again ≡ Some r → AgainFits r own
    pub restart : (r : Restart) → own.restart ≡ Some r → RestartFits n own r
    pub withdraw : (object : ℕ) → own.withdraw ≡ Some object → ((o : Owner) × Waits o own) × (HasNoCall n × (IsPast own.call × (object < length c.shared.objects)))

  -- a queued call is on an entry of its owner
  abbrev pub QueueFits : Call → Type 0
  QueueFits call = call.state ≡ Queued → IsEntryOf call.owner call.entry

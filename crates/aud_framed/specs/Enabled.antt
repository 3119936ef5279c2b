-- What an enabled move tells of the task that it is of: nothing is in its way, and the entry that it serves is there.
use Rattle.std.specs.Prelude.{◌≡◌, ◌≤◌, ℕ, length, Option, Some, None, Bool, true, false, not, ◌&&◌, slice_get}
use Rattle.aud_typed.specs.Tree.{Plan}
use Rattle.aud_meaning.specs.declared.state.Move.{Move}
use Rattle.aud_meaning.specs.declared.state.Owner.{Owner}
use Rattle.aud_meaning.specs.declared.state.Owner.TheVariants as owner
use Rattle.aud_meaning.specs.Configuration.{All}
use Rattle.aud_meaning.specs.Control.{Coming, simply, ending, selecting, calling, starting}
use Rattle.aud_meaning.specs.Parts.{Closable, body_master, call_of, in_the_way, is_idle, is_queued, object_of, object_plan, own_of}
use Rattle.aud_meaning.specs.Run.{Turn, resting, closing, completing, withdrawing, serving, restarting, expiring, cancelling, acting, again_left, construct_left, master_left_by, moves_at, seen, turn_at}
use Rattle.aud_code.specs.Places.{Spot}
use Rattle.aud_code.specs.Flat.{Flat, flat_controls}

module _ {C : Type 0} (n : ℕ) (c : All C) where
  abbrev pub IsIdleOwner : Owner → Bool
  IsIdleOwner (owner.Task m) = true
  IsIdleOwner (owner.Object o) = is_idle (object_of o c)

  -- a master that is left waits for nothing; no other action is in the way
  abbrev pub ComingTells : Coming → Type 0
  ComingTells (simply w) = Unit {0}
  ComingTells ending = again_left (own_of n c).pending (own_of n c).again (construct_left (own_of n c)) ≡ None → (master : ℕ) → master_left_by (construct_left (own_of n c)) ≡ Some master → Closable master c ≡ true
  ComingTells (selecting ones) = Unit {0}
  ComingTells (calling task entry) = Unit {0}
  ComingTells (starting object reading) = in_the_way n reading (object_of object c) ≡ false

module _ {C : Type 0} (plan : Plan) (alternative : Option ℕ) (n : ℕ) (c : All C) where
  abbrev pub TurnTells : Turn → Type 0
  TurnTells resting = Unit {0}
  TurnTells closing = Closable (body_master (own_of n c)) c ≡ true
  TurnTells completing = Unit {0}
  TurnTells (withdrawing object) = is_idle (object_of object c) ≡ true
  -- the entry that is served is one of the object's, by its index
  TurnTells (serving s) = (index : ℕ) → alternative ≡ Some index → (1 ≤ index) × (index ≤ length (object_plan plan (object_of s.object c).declaration).entries)
  TurnTells (restarting r) = in_the_way n false (object_of r.object c) ≡ false
  TurnTells (expiring delays) = Unit {0}
  -- the call is still queued
  TurnTells (cancelling id) = is_queued (call_of id c).state && not (call_of id c).stays && IsIdleOwner n c (call_of id c).owner ≡ true
  TurnTells (acting next) = ComingTells n c next

abbrev pub EnabledLaw : Type 0
EnabledLaw =
    (plan : Plan) (code : Flat) (c : All Spot) (number : ℕ) (m : Move) →
    slice_get (moves_at plan (flat_controls plan code) c) number ≡ Some m →
    TurnTells plan m.alternative m.task c (turn_at plan (flat_controls plan code).barrier (slice_get (seen plan (flat_controls plan code) c).tasks m.task) m.task (seen plan (flat_controls plan code) c))

-- Tasks that are bound to go on, by what is read of them.
use Rattle.std.proofs.Common.{◌≡◌, ℕ, Option, Some, None, refl, ap, ◌∙◌}
use Rattle.std.specs.Prelude.{is_some}
use Rattle.aud_typed.specs.Tree.{Plan}
use Rattle.aud_meaning.specs.declared.state.Status.{Status}
use Rattle.aud_meaning.specs.Configuration.{Own, TaskAt, All}
use Rattle.aud_meaning.specs.Control.{Coming, Seen, simply, ending, selecting, calling, starting}
use Rattle.aud_meaning.specs.Parts.{own_of}
use Rattle.aud_meaning.specs.Run.{construct_left, is_bound, is_leave, master_left_by, seen}
use Rattle.aud_code.specs.Places.{Spot}
use Rattle.aud_code.specs.Flat.{Flat, barrier_at, flat_controls}
use Rattle.aud_state.specs.Reads.{LeavesBy}
use Rattle.aud_abort.specs.Deferring.{bound_in, seen_in}

leave_is : (o : Own) → is_some (master_left_by (construct_left o)) ≡ is_leave ending o
leave_is o = by (master_left_by (construct_left o)) refl
  where
    by : (m : Option ℕ) → master_left_by (construct_left o) ≡ m → is_some (master_left_by (construct_left o)) ≡ is_leave ending o
    by None is = rw is refl
    by (Some master) is = rw is refl

pub leaves_is : (o : Own) (m : Option ℕ) (x : Coming) → LeavesBy o m x → is_some m ≡ is_leave x o
leaves_is o m (simply w) h = ap is_some h
leaves_is o m ending h = ap is_some h ∙ leave_is o
leaves_is o m (selecting ones) h = ap is_some h
leaves_is o m (calling task entry) h = ap is_some h
leaves_is o m (starting object reading) h = ap is_some h

module _ (plan : Plan) (code : Flat) (n : ℕ) (c : All Spot) where
  abbrev o : Own
  o = own_of n c

  abbrev t : TaskAt Seen
  t = seen_in plan code n c

  abbrev d : All Seen
  d = seen plan (flat_controls plan code) c

  pub bound_as : (s : Status) → o.status ≡ s → bound_in plan code n c ≡ is_bound plan (barrier_at code) s n t d
  bound_as s is = ap (λ x. is_bound plan (barrier_at code) x n t d) is

-- Choices decide on no move.
use Rattle.std.proofs.Common.{◌≡◌, ℕ, suc, List, [], ◌∷◌, ◌++◌, map, filter, Option, Some, None, Bool, true, false, Result, refl, ap, ◌∙◌, if◌then◌else◌}
use Rattle.std.specs.Prelude.{◌&&◌, not, nat_le}
use Rattle.aud_text.specs.declared.raise.Raise.{Raise}
use Rattle.aud_typed.specs.Tree.{Plan}
use Rattle.aud_meaning.specs.declared.state.Owner.{Owner}
use Rattle.aud_meaning.specs.declared.state.Owner.TheVariants as owner
use Rattle.aud_meaning.specs.declared.state.Serving.{Serving}
use Rattle.aud_meaning.specs.declared.state.Status.{Status}
use Rattle.aud_meaning.specs.declared.state.Status.TheVariants.{Created, Running, Activating, Accepting, Delaying, Calling, Completed, Terminated}
use Rattle.aud_meaning.specs.Configuration.{TaskAt, All}
use Rattle.aud_meaning.specs.Control.{Coming, simply, ending, selecting, calling, starting, Seen, Controls}
use Rattle.aud_meaning.specs.Evaluation.{Sight}
use Rattle.aud_meaning.specs.Parts.{call_of, in_action, is_queued, queue}
use Rattle.aud_meaning.specs.Run.{Turn, resting, closing, completing, withdrawing, serving, restarting, expiring, cancelling, acting, Deferred, acting_moves, at_once, call_moves, call_time_by, end_moves, ending_moves, has_ended, is_bound, moves, moves_at, moves_by, moves_from, own_move, owner_idle, seen, serve_moves, turn, turn_by, turn_moves, under_way, usual}
use Rattle.aud_meaning.specs.Tasks.{barrier_of, eligible_from, eligible_if, entries_of}

module _ (plan : Plan) (barrier : ℕ → Sight → Result Bool Raise) (choices : List ℕ) (c : All Seen) where
  abbrev d : All Seen
  d = record c { choices = choices }

  -- Turns.

  usual_same : (s : Option Serving) (status : Status) (n : ℕ) (t : TaskAt Seen) → usual plan barrier s status n t c ≡ usual plan barrier s status n t d
  usual_same (Some s) status n t = refl
  usual_same None Created n t = refl
  usual_same None Running n t = refl
  usual_same None Activating n t = refl
  usual_same None Accepting n t = refl
  usual_same None Delaying n t = refl
  usual_same None Calling n t = refl
  usual_same None Completed n t = refl
  usual_same None Terminated n t = refl

  bound_same : (status : Status) (n : ℕ) (t : TaskAt Seen) → is_bound plan barrier status n t c ≡ is_bound plan barrier status n t d
  bound_same Created n t = refl
  bound_same Running n t = refl
  bound_same Activating n t = refl
  bound_same Accepting n t = refl
  bound_same Delaying n t = refl
  bound_same Calling n t = refl
  bound_same Completed n t = refl
  bound_same Terminated n t = refl

  abbrev way : ℕ → TaskAt Seen → All Seen → Bool → Turn
  way n t e true = usual plan barrier t.own.serving t.own.status n t e
  way n t e false = at_once plan barrier t.own.withdraw

  way_same : (b : Bool) (n : ℕ) (t : TaskAt Seen) → way n t c b ≡ way n t d b
  way_same true n t = usual_same t.own.serving t.own.status n t
  way_same false n t = refl

  under_same : (b : Bool) (n : ℕ) (t : TaskAt Seen) → under_way plan barrier b n t c ≡ under_way plan barrier b n t d
  under_same false n t = usual_same t.own.serving t.own.status n t
  under_same true n t =
      ap (λ b. way n t c (if in_action n c then true else b)) (bound_same t.own.status n t)
      ∙ way_same (Deferred plan barrier n t d) n t

  turn_same : (status : Status) (n : ℕ) (t : TaskAt Seen) → turn_by plan barrier status n t c ≡ turn_by plan barrier status n t d
  turn_same Created n t = refl
  turn_same Running n t = under_same t.own.abnormal n t
  turn_same Activating n t = under_same t.own.abnormal n t
  turn_same Accepting n t = under_same t.own.abnormal n t
  turn_same Delaying n t = under_same t.own.abnormal n t
  turn_same Calling n t = under_same t.own.abnormal n t
  turn_same Completed n t = refl
  turn_same Terminated n t = refl

  -- Moves.

  eligible_same : (index : ℕ) (entries : List ℕ) (object : ℕ) → eligible_from plan barrier index entries object c ≡ eligible_from plan barrier index entries object d
  eligible_same index [] object = refl
  eligible_same index (e ∷ es) object = ap (λ r. eligible_if (queue object e c.shared.calls) (barrier_of plan barrier object e c) index r) (eligible_same (suc index) es object)

  idle_same : (o : Owner) → owner_idle plan barrier o c ≡ owner_idle plan barrier o d
  idle_same (owner.Task m) = refl
  idle_same (owner.Object o) = refl

  end_same : (o : Option ℕ) (n : ℕ) → end_moves plan barrier o n c ≡ end_moves plan barrier o n d
  end_same None n = refl
  end_same (Some master) n = refl

  call_same : (o : Option ℕ) (entry n : ℕ) → call_moves plan barrier o entry n c ≡ call_moves plan barrier o entry n d
  call_same None entry n = refl
  call_same (Some task) entry n = refl

  ending_same : (o : Option (ℕ × ℕ)) (n : ℕ) → ending_moves plan barrier o n c ≡ ending_moves plan barrier o n d
  ending_same None n = end_same _ n
  ending_same (Some x) n = refl

  acting_same : (next : Coming) (n : ℕ) → acting_moves plan barrier next n c ≡ acting_moves plan barrier next n d
  acting_same (simply w) n = refl
  acting_same ending n = ending_same _ n
  acting_same (selecting ones) n = refl
  acting_same (calling task entry) n = call_same task entry n
  acting_same (starting object reading) n = refl

  taken_same : (u : Turn) (n : ℕ) → turn_moves plan barrier u n c ≡ turn_moves plan barrier u n d
  taken_same resting n = refl
  taken_same closing n = refl
  taken_same completing n = refl
  taken_same (withdrawing object) n = refl
  taken_same (serving s) n = ap (λ r. serve_moves plan barrier r n) (eligible_same 1 (entries_of plan barrier s.object c) s.object)
  taken_same (restarting r) n = refl
  taken_same (expiring delays) n = refl
  taken_same (cancelling id) n =
      ap (λ i. map (λ time. own_move n) (filter (λ time. nat_le time c.clock) (if is_queued (call_of id c).state && not (call_of id c).stays && i then call_time_by (call_of id c).form else [])))
      (idle_same (call_of id c).owner)
  taken_same (acting next) n = acting_same next n

  from_same : (n : ℕ) (ts : List (TaskAt Seen)) → moves_from plan barrier n ts c ≡ moves_from plan barrier n ts d
  from_same n [] = refl
  from_same n (t ∷ ts) =
      ap (λ u. turn_moves plan barrier u n c ++ moves_from plan barrier (suc n) ts c) (turn_same t.own.status n t)
      ∙ ap (λ ms. ms ++ moves_from plan barrier (suc n) ts c) (taken_same (turn plan barrier n t d) n)
      ∙ ap (λ ms. turn_moves plan barrier (turn plan barrier n t d) n d ++ ms) (from_same (suc n) ts)

  by_same : (ended cut : Bool) → moves_by plan barrier ended cut c ≡ moves_by plan barrier ended cut d
  by_same true cut = refl
  by_same false true = refl
  by_same false false = from_same 0 c.tasks

  pub same_moves : moves plan barrier c ≡ moves plan barrier (record c { choices = choices })
  same_moves = by_same (has_ended plan barrier c.tasks) c.shared.cut

pub unchosen : {C : Type 0} (plan : Plan) (k : Controls C) (choices : List ℕ) (c : All C) → moves_at plan k c ≡ moves_at plan k (record c { choices = choices })
unchosen plan k choices c = same_moves plan k.barrier choices (seen plan k c)

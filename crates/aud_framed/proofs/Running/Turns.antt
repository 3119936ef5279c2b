-- What a task's next turn tells of its status.
use Rattle.std.proofs.Common.{◌≡◌, ◌⊎◌, ℕ, zero, suc, List, [], ◌∷◌, Option, Some, None, Bool, true, false, Result, refl, sym, ap, ◌∙◌, subst, inl, inr, slice_get}
use Rattle.std.proofs.lemmas.Option.{same_Some}
use Rattle.aud_text.specs.declared.raise.Raise.{Raise}
use Rattle.aud_typed.specs.Tree.{Plan}
use Rattle.aud_meaning.specs.declared.state.Restart.{Restart}
use Rattle.aud_meaning.specs.declared.state.Serving.{Serving}
use Rattle.aud_meaning.specs.declared.state.Status.{Status}
use Rattle.aud_meaning.specs.declared.state.Status.TheVariants.{Created, Running, Activating, Accepting, Delaying, Calling, Completed, Terminated}
use Rattle.aud_meaning.specs.Configuration.{Own, Shared, TaskAt, All}
use Rattle.aud_meaning.specs.Control.{Controls, Seen}
use Rattle.aud_meaning.specs.Evaluation.{Sight}
use Rattle.aud_meaning.specs.Run.{Turn, resting, closing, completing, withdrawing, serving, restarting, expiring, cancelling, acting, Deferred, at_once, running, seen_from, turn_by, under_way, usual}

-- it has begun, and is not over
abbrev pub IsUnderWay : Status → Type 0
IsUnderWay Created = ⊥
IsUnderWay Running = Unit {0}
IsUnderWay Activating = Unit {0}
IsUnderWay Accepting = Unit {0}
IsUnderWay Delaying = Unit {0}
IsUnderWay Calling = Unit {0}
IsUnderWay Completed = ⊥
IsUnderWay Terminated = ⊥

module _ (plan : Plan) (barrier : ℕ → Sight → Result Bool Raise) (n : ℕ) (x : TaskAt Seen) (s : All Seen) where
  abbrev pub Tells : Turn → Type 0
  Tells resting = Unit {0}
  Tells closing = x.own.status ≡ Completed
  Tells completing = IsUnderWay x.own.status
  Tells (withdrawing object) = Unit {0}
  Tells (serving v) = (x.own.serving ≡ Some v) × IsUnderWay x.own.status
  Tells (restarting r) = (x.own.restart ≡ Some r) × (x.own.status ≡ Running)
  Tells (expiring ds) = (x.own.status ≡ Accepting) ⊎ (x.own.status ≡ Delaying)
  Tells (cancelling id) = x.own.status ≡ Calling
  Tells (acting y) = x.own.status ≡ Running

  running_tells : (r : Option Restart) → x.own.restart ≡ r → x.own.status ≡ Running → Tells (running plan barrier r x.control.coming)
  running_tells None e h = h
  running_tells (Some r) e h = (e, h)

  usual_tells : (v : Option Serving) (status : Status) → x.own.serving ≡ v → IsUnderWay x.own.status → x.own.status ≡ status → Tells (usual plan barrier v status n x s)
  usual_tells (Some v) status e u h = (e, u)
  usual_tells None Created e u h = tt
  usual_tells None Running e u h = running_tells x.own.restart refl h
  usual_tells None Activating e u h = tt
  usual_tells None Accepting e u h = inl h
  usual_tells None Delaying e u h = inr h
  usual_tells None Calling e u h = h
  usual_tells None Completed e u h = tt
  usual_tells None Terminated e u h = tt

  once_tells : (object : Option ℕ) → IsUnderWay x.own.status → Tells (at_once plan barrier object)
  once_tells None h = h
  once_tells (Some object) h = tt

  abbrev way : Bool → Turn
  way true = usual plan barrier x.own.serving x.own.status n x s
  way false = at_once plan barrier x.own.withdraw

  way_tells : (b : Bool) → IsUnderWay x.own.status → Tells (way b)
  way_tells true h = usual_tells x.own.serving x.own.status refl h refl
  way_tells false h = once_tells x.own.withdraw h

  under_way_tells : (b : Bool) → IsUnderWay x.own.status → Tells (under_way plan barrier b n x s)
  under_way_tells false h = usual_tells x.own.serving x.own.status refl h refl
  under_way_tells true h = way_tells (Deferred plan barrier n x s) h

  is_under_way : (status : Status) → x.own.status ≡ status → IsUnderWay status → IsUnderWay x.own.status
  is_under_way status e h = subst IsUnderWay (sym e) h

  pub turn_tells : (status : Status) → x.own.status ≡ status → Tells (turn_by plan barrier status n x s)
  turn_tells Created h = tt
  turn_tells Running h = under_way_tells x.own.abnormal (is_under_way Running h tt)
  turn_tells Activating h = under_way_tells x.own.abnormal (is_under_way Activating h tt)
  turn_tells Accepting h = under_way_tells x.own.abnormal (is_under_way Accepting h tt)
  turn_tells Delaying h = under_way_tells x.own.abnormal (is_under_way Delaying h tt)
  turn_tells Calling h = under_way_tells x.own.abnormal (is_under_way Calling h tt)
  turn_tells Completed h = h
  turn_tells Terminated h = tt

-- A task that is seen has its own part.
pub seen_own : {C : Type 0} (plan : Plan) (k : Controls C) (n i : ℕ) (ts : List (TaskAt C)) (os : List Own) (shared : Shared) (x : TaskAt Seen) (t : TaskAt C) → slice_get (seen_from plan k i ts os shared) n ≡ Some x → slice_get ts n ≡ Some t → x.own ≡ t.own
seen_own plan k n i [] os shared x t e d = absurd cc
seen_own plan k zero i (y ∷ ys) os shared x t e d = sym (ap (λ (z : TaskAt Seen). z.own) (same_Some _ x e)) ∙ ap (λ (z : TaskAt _). z.own) (same_Some y t d)
seen_own plan k (suc n) i (y ∷ ys) os shared x t e d = seen_own plan k n (suc i) ys os shared x t e d

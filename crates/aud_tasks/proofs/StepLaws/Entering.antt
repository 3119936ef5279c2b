-- Steps that concern others, by what they ask for.
use Rattle.std.proofs.Common.{◌≡◌, ◌≤◌, ℕ, zero, suc, List, [], ◌∷◌, length, get_or, Bool, true, Option, Some, None, ℤ, refl, ap, sym, ◌∙◌, subst, arith}
use Rattle.std.specs.Prelude.{IsSome, Result}
use Rattle.aud_text.specs.declared.limits.Limits.{Limits}
use Rattle.aud_text.specs.declared.place.Pos.{Pos}
use Rattle.aud_text.specs.declared.raise.Raise.{Raise}
use Rattle.aud_typed.specs.Tree.{Plan}
use Rattle.aud_meaning.specs.declared.state.Owner.TheVariants as owner
use Rattle.aud_meaning.specs.Configuration.{All, Call}
use Rattle.aud_meaning.specs.Control.{Scene, calls_entry, declares_object, requeues}
use Rattle.aud_meaning.specs.Evaluation.{Sight}
use Rattle.aud_meaning.specs.Orders.{Orders}
use Rattle.aud_meaning.specs.Step.{call_record, done, object_declared}
use Rattle.aud_meaning.specs.Tasks as effect
use Rattle.aud_code.specs.declared.line.Among.{Among}
use Rattle.aud_code.specs.Eval.{again_on, asked_end, called_with, with_cells, with_one}
use Rattle.aud_code.specs.Flat.{Flat}
use Rattle.aud_code.specs.Instruction.{CallKind, CallTask, DeclareObject, Operands, RequeueTask}
use Rattle.aud_code.specs.Places.{loops_of, Spot}
use Rattle.aud_code.specs.Sound.{Counts, Takes, EndingFine, counts_of, is_some}
use Rattle.aud_code.specs.View.{plain_among, way_beside}
use Rattle.aud_expr.specs.Operands.{own_cells}
use Rattle.aud_state.specs.Fast.{scene}
use Rattle.aud_tasks.specs.Acting.{DoesAsked}

-- what is done of an ending that is known
pub as_among : (plan : Plan) (code : Flat) (limits : Limits) (alternative : Option ℕ) (n : ℕ) (at : Pos) (o : Operands) (old new : All Spot) (a k : Among) → a ≡ k →
    DoesAsked plan code limits alternative n (asked_end (plain_among k) (loops_of (way_beside k)) at (scene n old) o) old new → DoesAsked plan code limits alternative n (asked_end (plain_among a) (loops_of (way_beside a)) at (scene n old) o) old new
as_among plan code limits alternative n at o old new a k is h = subst (λ (m : Among). DoesAsked plan code limits alternative n (asked_end (plain_among m) (loops_of (way_beside m)) at (scene n old) o) old new) (sym is) h

-- the step of a call that is made
pub makes : {C : Type 0} (go : Orders C) (plan : Plan) (barrier : ℕ → Sight → Result Bool Raise) (limits : Limits) (alternative : Option ℕ) (n entry : ℕ) (kind : CallKind) (at : Pos) (s : Scene) (o : Operands) (task : ℕ) (call : Call) (c : All C) →
    1 ≤ length o.names → task ≡ get_or o.names 0 0 → call ≡ call_record n (owner.Task task) (called_with at entry kind s o) →
    effect.calls_task go plan barrier alternative call task c ≡ done go plan barrier limits alternative (asked_end (CallTask entry kind) 0 at s o) n c
makes go plan barrier limits alternative n entry kind at s o task call c there is e = by o.names there is
  where
    by : (names : List ℕ) → 1 ≤ length names → task ≡ get_or names 0 0 → effect.calls_task go plan barrier alternative call task c ≡ done go plan barrier limits alternative (with_one names (λ t. calls_entry (owner.Task t) (called_with at entry kind s o))) n c
    by [] there is = absurd (omega (arith, there))
    by (x ∷ xs) there is =
        ap (λ k. effect.calls_task go plan barrier alternative k task c) e
        ∙ ap (λ t. effect.calls_task go plan barrier alternative (call_record n (owner.Task t) (called_with at entry kind s o)) t c) is

-- a task is named before it
pub is_named : (entry : ℕ) (kind : CallKind) (c : Counts) → EndingFine (CallTask entry kind) c → 1 ≤ c.names
is_named entry kind c fine = by c.names fine
  where
    by : (n : ℕ) → Takes n (λ m. Unit {0}) → 1 ≤ n
    by zero h = absurd h
    by (suc n) h = omega arith

-- so it is before a requeue
pub requeue_named : (entry : ℕ) (formals abort : Bool) (c : Counts) → EndingFine (RequeueTask entry formals abort) c → 1 ≤ c.names
requeue_named entry formals abort c fine = by c.names fine
  where
    by : (n : ℕ) → Takes n (λ m. Unit {0}) → 1 ≤ n
    by zero h = absurd h
    by (suc n) h = omega arith

-- the step of a requeue that names its task
pub requeues_so : (at : Pos) (loops entry : ℕ) (formals abort : Bool) (s : Scene) (o : Operands) (task : ℕ) → 1 ≤ length o.names → task ≡ get_or o.names 0 0 →
    requeues loops (again_on (owner.Task task) entry formals abort at) ≡ asked_end (RequeueTask entry formals abort) loops at s o
requeues_so at loops entry formals abort s o task there is = by o.names there is
  where
    by : (names : List ℕ) → 1 ≤ length names → task ≡ get_or names 0 0 → requeues loops (again_on (owner.Task task) entry formals abort at) ≡ with_one names (λ n. requeues loops (again_on (owner.Task n) entry formals abort at))
    by [] there is = absurd (omega (arith, there))
    by (x ∷ xs) there is = ap (λ n. requeues loops (again_on (owner.Task n) entry formals abort at)) is

-- the step of an object's declaration
pub declares_so : {C : Type 0} (go : Orders C) (plan : Plan) (barrier : ℕ → Sight → Result Bool Raise) (limits : Limits) (alternative : Option ℕ) (n declaration : ℕ) (at : Pos) (s : Scene) (o : Operands) (c : All C) →
    IsSome o.cells → object_declared go plan barrier at declaration (own_cells o.cells) n c ≡ done go plan barrier limits alternative (asked_end (DeclareObject declaration) 0 at s o) n c
declares_so go plan barrier limits alternative n declaration at s o c there = by o.cells there
  where
    by : (cells : Option (List ℤ)) → IsSome cells → object_declared go plan barrier at declaration (own_cells cells) n c ≡ done go plan barrier limits alternative (with_cells cells (λ cs. declares_object at declaration cs)) n c
    by None there = absurd cc
    by (Some cells) there = refl

-- cells of an object have begun before it
pub has_cells : (o : Operands) (declaration : ℕ) → EndingFine (DeclareObject declaration) (counts_of o) → IsSome o.cells
has_cells o declaration fine = by o.cells fine
  where
    by : (cells : Option (List ℤ)) → is_some cells ≡ true → IsSome cells
    by None h = absurd cc
    by (Some cells) h = refl

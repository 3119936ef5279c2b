-- Which lines ask that a call is made again.
use Rattle.std.proofs.Common.{◌≡◌, ◌⊎◌, ℕ, ℤ, List, [], ◌∷◌, Bool, true, false, Option, Some, None, refl, if◌then◌else◌, inl, inr}
use Rattle.aud_text.specs.declared.place.Pos.{Pos}
use Rattle.aud_text.specs.declared.raise.Raise.{Raise}
use Rattle.aud_typed.specs.declared.program.Variable.{Variable}
use Rattle.aud_meaning.specs.declared.state.Owner.TheVariants as owner
use Rattle.aud_meaning.specs.Control.{Asked, Scene, requeues}
use Rattle.aud_meaning.specs.Control as asked
use Rattle.aud_code.specs.Places.{Spot, loops_of}
use Rattle.aud_code.specs.Instruction.{Ending, Declare, DeclareObject, Assign, If, While, Loop, Exit, ReturnValue, CallTask, RequeueTask, RequeueObject, Operands, no_operands, Ended, Reached, Marked, Raised, Lost}
use Rattle.aud_code.specs.Eval.{eval, asked_end, raised_by, with_one, with_two, with_cells}
use Rattle.aud_code.specs.Flat.{Last, Does, Continues, Guards, Ends, Leaves, Flat, asked_last, asked_at, end_at, instructions_at}

abbrev pub RequeuesBy : Last → Asked → Type 0
RequeuesBy last (requeues loops r) =
    ((n entry : ℕ) × ((formals abort : Bool) × ((last ≡ Does (RequeueTask entry formals abort)) × (r.owner ≡ owner.Task n))))
    ⊎ ((v : Variable) × ((entry : ℕ) × ((formals abort : Bool) × (last ≡ Does (RequeueObject v entry formals abort)))))
RequeuesBy last a = Unit {0}

with_first : {A : Type 0} (P : Asked → Type 0) (xs : List A) (go : A → Asked) → P (asked.ends 0) → ((x : A) → P (go x)) → P (with_one xs go)
with_first P [] go h k = h
with_first P (x ∷ xs) go h k = k x

with_both : {A : Type 0} (P : Asked → Type 0) (xs : List A) (go : A → A → Asked) → P (asked.ends 0) → ((x y : A) → P (go x y)) → P (with_two xs go)
with_both P [] go h k = h
with_both P (y ∷ []) go h k = h
with_both P (y ∷ x ∷ xs) go h k = k x y

module _ (out : ℕ) (at : Pos) (s : Scene) where
  raised : (e : Ending) (raise : Raise) → RequeuesBy (Does e) (raised_by e raise at)
  raised (Declare up_to) raise = tt
  raised (DeclareObject n) raise = tt
  raised e raise = tt

  exits : (b : Bool) → RequeuesBy (Does Exit) (if b then asked.goes_out out None else asked.goes_on 0)
  exits true = tt
  exits false = tt

  cells_asked : (n : ℕ) (x : Option (List ℤ)) → RequeuesBy (Does (DeclareObject n)) (with_cells x (λ cells. asked.declares_object at n cells))
  cells_asked n None = tt
  cells_asked n (Some cells) = tt

  ended : (e : Ending) (o : Operands) → RequeuesBy (Does e) (asked_end e out at s o)
  ended (Declare up_to) o = with_first (RequeuesBy (Does (Declare up_to))) o.integers _ tt (λ z. tt)
  ended (DeclareObject n) o = cells_asked n o.cells
  ended Assign o = with_first (RequeuesBy (Does Assign)) o.targets _ tt (λ t. with_first (RequeuesBy (Does Assign)) o.integers _ tt (λ z. tt))
  ended If o = with_first (RequeuesBy (Does If)) o.booleans _ tt (λ b. tt)
  ended While o = with_first (RequeuesBy (Does While)) o.booleans _ tt (λ b. tt)
  ended (Loop f) o = with_both (RequeuesBy (Does (Loop f))) o.integers _ tt (λ x y. tt)
  ended Exit o = with_first (RequeuesBy (Does Exit)) o.booleans _ tt (λ b. exits b)
  ended ReturnValue o = with_first (RequeuesBy (Does ReturnValue)) o.integers _ tt (λ z. tt)
  ended (CallTask entry form) o = with_first (RequeuesBy (Does (CallTask entry form))) o.names _ tt (λ n. tt)
  ended (RequeueTask entry formals abort) o = with_first (RequeuesBy (Does (RequeueTask entry formals abort))) o.names _ tt (λ n. inl (n, entry, (formals, abort, (refl, refl))))
  ended (RequeueObject v entry formals abort) o = inr (v, (entry, (formals, abort, refl)))
  ended e o = tt

  requeued_by : (last : Last) (x : Ended) → RequeuesBy last (asked_last last out at s x)
  requeued_by (Does e) (Reached o) = ended e o
  requeued_by (Does e) (Marked o) = tt
  requeued_by (Does e) (Raised raise) = raised e raise
  requeued_by (Does e) Lost = tt
  requeued_by (Continues f) x = tt
  requeued_by (Guards gs) x = tt
  requeued_by (Ends c next) x = tt
  requeued_by (Leaves n next) x = tt

pub requeued : (code : Flat) (s : Scene) (t : Spot) → RequeuesBy (end_at code t.place).last (asked_at code None s t)
requeued code s t =
    let l = end_at code t.place in
    requeued_by (loops_of l.exit) l.at s l.last (eval false s (instructions_at code t.place) 0 no_operands)

-- What a step that concerns a task alone does to its part.
use Rattle.std.specs.Prelude.{◌≡◌, ◌+ℤ◌, ℕ, suc, ℤ, List, [], ◌∷◌, length, take, replicate, nat_lt, nat_le, int_le, Some, None, Bool, true, Result, if◌then◌else◌}
use Rattle.aud_text.specs.declared.limits.TheConstants.{ELEMENTS, FRAMES}
use Rattle.aud_text.specs.declared.raise.Raise.{Raise}
use Rattle.aud_text.specs.declared.raise.Raise.TheVariants.{Program, Storage}
use Rattle.aud_text.specs.declared.place.Pos.{Pos}
use Rattle.aud_typed.specs.declared.program.Exception.{Exception}
use Rattle.aud_typed.specs.declared.program.Exception.TheVariants.{Predefined}
use Rattle.aud_typed.specs.Tree.{Plan, UnitPlan}
use Rattle.aud_meaning.specs.Configuration.{Target, Purpose, Returning, for_block, for_loop, for_procedure, Own, Shared}
use Rattle.aud_meaning.specs.Control.{Asked}
use Rattle.aud_meaning.specs.Evaluation.{Sight, nearest_zero}
use Rattle.aud_meaning.specs.Step.{for_first, for_step, has_next, not_handled}
use Rattle.aud_meaning.specs.Effects.{put_out, elaborated_in, innermost, live_frames, handled}
use Rattle.aud_meaning.specs.Ties.Stack.{closed, closed_times}
use Rattle.aud_meaning.specs.Ties.Part.{Part, within}
use Rattle.aud_meaning.specs.Why.Alone.{acts}
use Rattle.aud_code.specs.declared.line.Ending.{Ending}
use Rattle.aud_code.specs.declared.line.Ending.TheVariants.{Declare, DeclareArray, Null, Assign, Put, If, While, Loop, Exit, RaiseAgain, Block, Return, ReturnValue, Call, OwnCall}
use Rattle.aud_code.specs.declared.line.Ending.TheVariants as ending
use Rattle.aud_code.specs.declared.line.Last.{Last}
use Rattle.aud_code.specs.declared.line.Last.TheVariants.{Does, Concerns, Continues, Guards, Ends, Leaves}
use Rattle.aud_code.specs.declared.line.ForLoop.{ForLoop}
use Rattle.aud_code.specs.declared.line.Way.{Way}
use Rattle.aud_code.specs.Control.{going}
use Rattle.aud_code.specs.Places.{Spot, goes}
use Rattle.aud_code.specs.Instruction.{Operands}
use Rattle.aud_code.specs.Eval.{newest}
use Rattle.aud_code.specs.Flat.{Flat, start_at}
use Rattle.aud_store.specs.Ties.Stored.{Stored, entered, entered_after, declared, innermost_cell, with_function_value}
use Rattle.aud_store.specs.Ties.Stored as store
use Rattle.aud_sequential.specs.Shown.{unit_in}

-- the task does what is asked for, whatever it has besides, in a program with these units
abbrev pub DoesAsked : List UnitPlan → Flat → Part Spot → Part Spot → Asked → Type 0
DoesAsked units code old new a =
    (plan : Plan) → plan.units ≡ units → (barrier : ℕ → Sight → Result Bool Raise) (own : Own) (shared : Shared) → within own shared new ≡ acts (going code) plan barrier a (within own shared old)

-- an ending that concerns the task alone; an array that is too long is an exception in a declarative part
abbrev pub IsOfOneTask : Ending → Type 0
IsOfOneTask (DeclareArray t n) = nat_le n ELEMENTS ≡ true
IsOfOneTask e = Unit {0}

abbrev pub IsOfOne : Last → Type 0
IsOfOne (Does e next) = IsOfOneTask e
IsOfOne (Concerns a next) = ⊥
IsOfOne (Continues f behind inside) = Unit {0}
IsOfOne (Guards gs) = Unit {0}
IsOfOne (Ends c next) = ⊥
IsOfOne (Leaves n to) = ⊥

-- with the newest operand; with the two newest ones, of which the older comes first
abbrev pub with_newest : {A : Type 0} → List A → Part Spot → (A → Part Spot) → Part Spot
with_newest [] p go = p
with_newest (x ∷ xs) p go = go x

abbrev pub with_two : List ℤ → Part Spot → (ℤ → ℤ → Part Spot) → Part Spot
with_two [] p go = p
with_two (y ∷ []) p go = p
with_two (y ∷ x ∷ xs) p go = go x y

abbrev pub moved_to : ℕ → Part Spot → Part Spot
moved_to place p = record p { control = goes place p.control }

-- an exception is pending where it stands
abbrev pub raised : Exception → Pos → Part Spot → Part Spot
raised exception at p = record p { pending = Some (record { exception = exception; at = at }) }

-- all frames, and those of the task that are open
abbrev pub stored_in : Part Spot → Stored
stored_in p = record { frames = p.frames; stack = p.stack }

abbrev pub on_stored : (Stored → Stored) → Part Spot → Part Spot
on_stored f p = let s = f (stored_in p) in record p { frames = s.frames; stack = s.stack }

-- behind a declaration: again, until so many names are elaborated
abbrev pub declared_to : ℕ → ℕ → ℕ → Part Spot → Part Spot
declared_to up_to again next p = moved_to (if nat_lt (elaborated_in p.stack.opened) up_to then again else next) p

-- another value of a variable
abbrev pub stored : Target → ℤ → Part Spot → Part Spot
stored t z p = on_stored (store.stored t.frame t.index z) p

-- what all tasks share of a part
abbrev pub shared_in : Part Spot → Shared
shared_in p = record { frames = p.frames; output = p.output; cut = p.cut; calls = []; arrivals = 0; objects = [] }

-- a text at the end of the output
abbrev pub written : List ℕ → Part Spot → Part Spot
written text p = let shared = put_out text (shared_in p) in record p { output = shared.output; cut = shared.cut }

-- to the first place where the newest truth value is true, else to the second
abbrev pub decided : ℕ → ℕ → Operands → Part Spot → Part Spot
decided there next o p = with_newest o.booleans p (λ b. moved_to (if b then there else next) p)

-- a frame is opened, and the step leads inside; where there is no room, Storage_Error
abbrev pub opened : Purpose → ℕ → Pos → List ℤ → ℕ → ℕ → Part Spot → Part Spot
opened purpose region at cells elaborated inside p =
    if nat_le (suc (live_frames p.stack.opened)) FRAMES
    then on_stored (entered purpose region at cells elaborated) (moved_to inside p)
    else raised (Predefined Storage) at p

-- a loop from one value to another one
abbrev pub looped : ForLoop → ℕ → ℕ → ℤ → ℤ → Part Spot → Part Spot
looped f inside next a b p =
    if int_le a b
    then opened for_loop f.region f.at (for_first f.backward a b ∷ for_first f.backward b a ∷ []) 1 inside p
    else moved_to next p

-- its parameter has the next value, or it is left
abbrev pub continued : ForLoop → ℕ → ℕ → Part Spot → Part Spot
continued f behind inside p =
    let value = innermost_cell 0 (stored_in p) in
    if has_next f.backward value (innermost_cell 1 (stored_in p))
    then on_stored (store.stored (innermost p.stack.opened) 0 (value +ℤ for_step f.backward)) (moved_to inside p)
    else record (moved_to behind p) { stack = closed p.stack }

-- out of so many loops
abbrev pub left_loops : Way → Part Spot → Part Spot
left_loops w p = record (moved_to w.to p) { stack = closed_times w.loops p.stack }

-- in a body that begins at a place; the call waits for its end
abbrev pub entered_at : ℕ → Part Spot → Part Spot
entered_at start p = record p { control = record { place = start; returns = p.control.place ∷ p.control.returns } }

-- what the end of a procedure or function does that is called with these operands
abbrev pub returning_with : (is_function : Bool) → Operands → Returning
returning_with is_function o = record { is_function = is_function; backs = o.backs; into = newest o.targets; value = None }

-- the frame of a procedure or function is opened, of this level and with this table, and the step leads to its beginning; where there is
-- no room, Storage_Error
abbrev pub called : (level region : ℕ) → (is_function : Bool) → (start : ℕ) → Pos → Operands → Part Spot → Part Spot
called level region is_function start at o p =
    if nat_le (suc (live_frames p.stack.opened)) FRAMES
    then on_stored (entered_after (for_procedure (returning_with is_function o)) region at o.values (length o.values) (take level p.stack.display)) (entered_at start p)
    else raised (Predefined Storage) at p

-- that of a unit's number
abbrev pub called_unit : List UnitPlan → Flat → ℕ → Pos → Operands → Part Spot → Part Spot
called_unit units code n at o p = let u = unit_in units n in called u.level u.region u.is_function (start_at code n) at o p

-- a function's value waits for the end of its call
abbrev pub with_result : ℤ → Part Spot → Part Spot
with_result z p = record p { stack = with_function_value z p.stack }

-- what a statement does, before the place where the next step begins
module _ (units : List UnitPlan) (code : Flat) where
  abbrev pub does : Ending → Pos → ℕ → Operands → Part Spot → Part Spot
  does (Declare up_to again) at next o p = with_newest o.integers p (λ z. declared_to up_to again next (on_stored (declared (z ∷ [])) p))
  does (DeclareArray t n) at next o p = moved_to next (on_stored (declared (replicate n (nearest_zero t))) p)
  does Null at next o p = moved_to next p
  does Assign at next o p = with_newest o.targets p (λ t. with_newest o.integers p (λ z. stored t z (moved_to next p)))
  does Put at next o p = written o.text (moved_to next p)
  does (If inside) at next o p = decided inside next o p
  does (While inside) at next o p = decided inside next o p
  does (Loop f inside) at next o p = with_two o.integers p (λ a b. looped f inside next a b p)
  does (Exit w) at next o p = with_newest o.booleans p (λ b. if b then left_loops w p else moved_to next p)
  does (ending.Raise x) at next o p = raised x at p
  does RaiseAgain at next o p = raised (not_handled (handled p.stack.opened None)) at p
  does (Block region inside) at next o p = opened for_block region at [] 0 inside p
  does (Return w) at next o p = left_loops w p
  does (ReturnValue w) at next o p = with_newest o.integers p (λ z. left_loops w (with_result z p))
  does (Call n) at next o p = called_unit units code n at o p
  does OwnCall at next o p = raised (Predefined Program) at p

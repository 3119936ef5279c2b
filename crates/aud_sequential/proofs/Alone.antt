-- Endings that concern a task alone: what they ask for, and where they lead.
use Rattle.std.proofs.Common.{◌≡◌, ℕ, ℤ, List, [], ◌∷◌, length, Option, None, Some, Bool, true, false, refl, ap, sym, subst}
use Rattle.std.specs.Prelude.{◌+ℤ◌, Result, int_le, nat_lt, if◌then◌else◌}
use Rattle.aud_text.specs.declared.place.Pos.{Pos}
use Rattle.aud_text.specs.declared.raise.Raise.{Raise}
use Rattle.aud_text.specs.declared.raise.Raise.TheVariants.{Storage}
use Rattle.aud_typed.specs.declared.program.Exception.TheVariants.{Predefined}
use Rattle.aud_typed.specs.Tree.{Plan, For}
use Rattle.aud_meaning.specs.Configuration.{Acting, for_loop}
use Rattle.aud_meaning.specs.Control.{Asked, Moved, Scene, here, takes_part, enters_body, gets_out, to_handler, moved, raises_here, raises_in_part, declares, declares_array, declares_tasks, declares_object, ends_activation, activates, goes_on, assigns, puts, enters_loop, next_of_loop, goes_out, raises, raises_again, enters_block, calls_procedure, calls_operation, calls_own_entry, calls_entry, delays, accepts, selects, aborts, requeues, ends, handles, is_left_by}
use Rattle.aud_meaning.specs.Evaluation.{Sight}
use Rattle.aud_meaning.specs.Effects as own
use Rattle.aud_meaning.specs.Step.{for_first, for_step, has_next, if_room, loop_cell, loop_entered, loop_continued, moves_on, variable_declared, with_function_value}
use Rattle.aud_meaning.specs.Why.Alone.{acts, IsAlone}
use Rattle.aud_code.specs.Control.{going}
use Rattle.aud_code.specs.declared.line.Ending.TheVariants.{Declare, DeclareArray, Null, Assign, Put, If, While, Loop, Exit, RaiseAgain, Block, Return, ReturnValue, OwnCall, Call}
use Rattle.aud_code.specs.declared.line.Ending.TheVariants as ending
use Rattle.aud_code.specs.declared.line.Last.{Last}
use Rattle.aud_code.specs.declared.line.Last.TheVariants.{Does, Concerns, Continues, Guards, Ends, Leaves}
use Rattle.aud_code.specs.Eval.{with_one, with_two}
use Rattle.aud_code.specs.Flat.{Flat, asked_last, flat_controls}
use Rattle.aud_code.specs.Instruction.{Operands, Reached}
use Rattle.aud_code.specs.Places.{Spot}
use Rattle.aud_code.specs.Sound.{IsSound, Takes, counts_of, LastFine}
use Rattle.aud_code.specs.Starts.{IsSpot}
use Rattle.aud_code.specs.View.{plain_last}
use Rattle.aud_code.proofs.Starts.{moved_kept}
use Rattle.aud_sequential.specs.Steps.{IsOfOne}

-- An ending that concerns the task alone asks for what it does alone.

one : {A : Type 0} (xs : List A) (P : ℕ → Type 0) (go : A → Asked) → ((x : A) (k : ℕ) → P k → IsAlone (go x)) → Takes (length xs) P → IsAlone (with_one xs go)
one [] P go h fine = absurd fine
one (x ∷ xs) P go h fine = h x (length xs) fine

two : (xs : List ℤ) (go : ℤ → ℤ → Asked) → ((x y : ℤ) → IsAlone (go x y)) → Takes (length xs) (λ n. Takes n (λ m. Unit {0})) → IsAlone (with_two xs go)
two [] go h fine = absurd fine
two (y ∷ []) go h fine = absurd fine
two (y ∷ x ∷ xs) go h fine = h x y

out_alone : (loops : ℕ) (b : Bool) → IsAlone (if b then goes_out loops None else goes_on 0)
out_alone loops true = tt
out_alone loops false = tt

pub alone_asked : (l : Last) (loops : ℕ) (at : Pos) (s : Scene) (o : Operands) → IsOfOne l → LastFine (plain_last l) (counts_of o) → IsAlone (asked_last (plain_last l) loops at s (Reached o))
alone_asked (Does (Declare up_to again) next) loops at s o of_one fine = one o.integers (λ n. Unit {0}) _ (λ z k h. tt) fine
alone_asked (Does (DeclareArray t n) next) loops at s o of_one fine = of_one
alone_asked (Does Null next) loops at s o of_one fine = tt
alone_asked (Does Assign next) loops at s o of_one fine = one o.targets (λ n. Takes (length o.integers) (λ m. Unit {0})) _ (λ t k h. one o.integers (λ n. Unit {0}) _ (λ z m i. tt) h) fine
alone_asked (Does Put next) loops at s o of_one fine = tt
alone_asked (Does (If inside) next) loops at s o of_one fine = one o.booleans (λ n. Unit {0}) _ (λ b k h. tt) fine
alone_asked (Does (While inside) next) loops at s o of_one fine = one o.booleans (λ n. Unit {0}) _ (λ b k h. tt) fine
alone_asked (Does (Loop f inside) next) loops at s o of_one fine = two o.integers _ (λ x y. tt) fine
alone_asked (Does (Exit w) next) loops at s o of_one fine = one o.booleans (λ n. Unit {0}) _ (λ b k h. out_alone loops b) fine
alone_asked (Does (ending.Raise x) next) loops at s o of_one fine = tt
alone_asked (Does RaiseAgain next) loops at s o of_one fine = tt
alone_asked (Does (Block region inside) next) loops at s o of_one fine = tt
alone_asked (Does (Return w) next) loops at s o of_one fine = tt
alone_asked (Does (Call unit) next) loops at s o of_one fine = tt
alone_asked (Does (ReturnValue w) next) loops at s o of_one fine = one o.integers (λ n. Unit {0}) _ (λ z k h. tt) fine
alone_asked (Does OwnCall next) loops at s o of_one fine = tt
alone_asked (Concerns a next) loops at s o of_one fine = absurd of_one
alone_asked (Continues f behind inside) loops at s o of_one fine = tt
alone_asked (Guards gs) loops at s o of_one fine = tt
alone_asked (Ends c next) loops at s o of_one fine = absurd of_one
alone_asked (Leaves n to) loops at s o of_one fine = absurd of_one

-- How the task goes on is an order, or none, so it stands where a step begins.
module _ (code : Flat) (plan : Plan) (barrier : ℕ → Sight → Result Bool Raise) where
  abbrev Goes : Spot → Acting Spot → Type 0
  Goes s t = (o : Moved) × (t.control ≡ moved (flat_controls plan code) s o)

  room_goes : (at : Pos) (t opened : Acting Spot) → Goes t.control opened → Goes t.control (if_room (going code) plan barrier at t opened)
  room_goes at t opened goes = by (own.has_room t.own)
    where
      by : (b : Bool) → Goes t.control (if b then opened else own.raises (Predefined Storage) at t)
      by true = goes
      by false = (here, refl)

  value_goes : (value : Option ℤ) (t : Acting Spot) → (with_function_value (going code) plan barrier value t).control ≡ t.control
  value_goes None t = refl
  value_goes (Some z) t = refl

  abbrev inside : For → ℤ → ℤ → Acting Spot → Acting Spot
  inside f a b t = moves_on (going code) plan barrier 1 (own.opens for_loop f.region f.at t.own.display (for_first f.backward a b ∷ for_first f.backward b a ∷ []) 1 t)

  entered_goes : (f : For) (a b : ℤ) (t : Acting Spot) → Goes t.control (loop_entered (going code) plan barrier f a b t)
  entered_goes f a b t = by (int_le a b)
    where
      by : (c : Bool) → Goes t.control (if c then if_room (going code) plan barrier f.at t (inside f a b t) else moves_on (going code) plan barrier 0 t)
      by true = room_goes f.at t (inside f a b t) (takes_part 1 here, refl)
      by false = (takes_part 0 here, refl)

  abbrev again : For → Acting Spot → Acting Spot
  again f t = moves_on (going code) plan barrier 1 (record t { shared = record t.shared { frames = own.assigned (own.innermost t.own.opened) 0 (loop_cell (going code) plan barrier 0 t +ℤ for_step f.backward) t.shared.frames } })

  abbrev out_of_it : Acting Spot → Acting Spot
  out_of_it t = moves_on (going code) plan barrier 0 (record t { own = own.closed t.own })

  continued_goes : (f : For) (t : Acting Spot) → Goes t.control (loop_continued (going code) plan barrier f t)
  continued_goes f t = by (has_next f.backward (loop_cell (going code) plan barrier 0 t) (loop_cell (going code) plan barrier 1 t))
    where
      by : (b : Bool) → Goes t.control (if b then again f t else out_of_it t)
      by true = (takes_part 1 here, refl)
      by false = (takes_part 0 here, refl)

  declared_goes : (up_to : ℕ) (z : ℤ) (t : Acting Spot) → Goes t.control (variable_declared (going code) plan barrier up_to z t)
  declared_goes up_to z t = (takes_part (if nat_lt (own.elaborated_in (own.declares (z ∷ []) t).own.opened) up_to then 1 else 0) here, refl)

  acts_goes : (a : Asked) (t : Acting Spot) → Goes t.control (acts (going code) plan barrier a t)
  acts_goes (raises_here raise at) t = (here, refl)
  acts_goes (declares up_to z) t = declared_goes up_to z t
  acts_goes (declares_array at s n) t = (takes_part 0 here, refl)
  acts_goes (goes_on part) t = (takes_part part here, refl)
  acts_goes (assigns target z) t = (takes_part 0 here, refl)
  acts_goes (puts text) t = (takes_part 0 here, refl)
  acts_goes (enters_loop f a b) t = entered_goes f a b t
  acts_goes (next_of_loop f) t = continued_goes f t
  acts_goes (goes_out loops value) t = (gets_out here, ap (λ c. (going code).out c) (value_goes value t))
  acts_goes (raises x at) t = (here, refl)
  acts_goes (raises_again at) t = (here, refl)
  acts_goes (enters_block at region) t = room_goes at t _ (takes_part 1 here, refl)
  acts_goes (calls_procedure at unit p into) t = room_goes at t _ (enters_body unit here, refl)
  acts_goes (calls_own_entry at) t = (here, refl)
  acts_goes (handles p) t = (to_handler p.exception here, refl)
  acts_goes (raises_in_part raise at) t = (here, refl)
  acts_goes (declares_tasks at ts) t = (here, refl)
  acts_goes (declares_object at n cells) t = (here, refl)
  acts_goes ends_activation t = (here, refl)
  acts_goes (activates at) t = (here, refl)
  acts_goes (calls_operation at object unit p into) t = (here, refl)
  acts_goes (calls_entry o call) t = (here, refl)
  acts_goes (delays ms at) t = (here, refl)
  acts_goes (accepts a) t = (here, refl)
  acts_goes (selects has_else w at) t = (here, refl)
  acts_goes (aborts ns at) t = (here, refl)
  acts_goes (requeues loops r) t = (gets_out here, refl)
  acts_goes (ends loops) t = (here, refl)
  acts_goes (is_left_by p) t = (here, refl)

  pub acts_kept : IsSound code → (a : Asked) (t : Acting Spot) → IsSpot code.lines t.control → IsSpot code.lines (acts (going code) plan barrier a t).control
  acts_kept sound a t is = let goes = acts_goes a t in subst (IsSpot code.lines) (sym goes.1) (moved_kept code sound plan goes.0 t.control is)

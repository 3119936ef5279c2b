-- Steps that concern a task alone, and what all share: no other task, no call and no object.
use Rattle.std.specs.Prelude.{◌≡◌, ℕ, [], length, take, replicate, Option, None, Bool, true, nat_le, Result}
use Rattle.aud_text.specs.declared.raise.Raise.{Raise}
use Rattle.aud_text.specs.declared.raise.Raise.TheVariants.{Program}
use Rattle.aud_text.specs.declared.limits.Limits.{Limits}
use Rattle.aud_text.specs.declared.limits.TheConstants.{ELEMENTS}
use Rattle.aud_typed.specs.declared.program.Exception.TheVariants.{Predefined}
use Rattle.aud_typed.specs.Tree.{Plan}
use Rattle.aud_meaning.specs.Configuration.{for_block, for_procedure, All, Acting}
use Rattle.aud_meaning.specs.Evaluation.{Sight, nearest_zero}
use Rattle.aud_meaning.specs.Control.{Asked, raises_here, raises_in_part, declares, declares_array, declares_tasks, declares_object, ends_activation, activates, goes_on, assigns, puts, enters_loop, next_of_loop, goes_out, raises, raises_again, enters_block, calls_procedure, calls_operation, calls_own_entry, calls_entry, delays, accepts, selects, aborts, requeues, ends, handles, is_left_by}
use Rattle.aud_meaning.specs.Effects as own
use Rattle.aud_meaning.specs.Orders.{Orders}
use Rattle.aud_meaning.specs.Parts.{alone, unit_of}
use Rattle.aud_meaning.specs.Step.{done, moves_on, variable_declared, stored_at, loop_entered, loop_continued, out_of_loops, requeued, with_function_value, if_room, not_handled}

abbrev pub IsAlone : Asked → Type 0
IsAlone (raises_here raise at) = Unit {0}
IsAlone (raises_in_part raise at) = ⊥
IsAlone (declares up_to z) = Unit {0}
IsAlone (declares_array at t n) = nat_le n ELEMENTS ≡ true
IsAlone (declares_tasks at ts) = ⊥
IsAlone (declares_object at n cells) = ⊥
IsAlone ends_activation = ⊥
IsAlone (activates at) = ⊥
IsAlone (goes_on part) = Unit {0}
IsAlone (assigns target z) = Unit {0}
IsAlone (puts text) = Unit {0}
IsAlone (enters_loop f a b) = Unit {0}
IsAlone (next_of_loop f) = Unit {0}
IsAlone (goes_out loops value) = Unit {0}
IsAlone (raises x at) = Unit {0}
IsAlone (raises_again at) = Unit {0}
IsAlone (enters_block at region) = Unit {0}
IsAlone (calls_procedure at unit p into) = Unit {0}
IsAlone (calls_operation at object unit p into) = ⊥
IsAlone (calls_own_entry at) = Unit {0}
IsAlone (calls_entry o call) = ⊥
IsAlone (delays ms at) = ⊥
IsAlone (accepts a) = ⊥
IsAlone (selects has_else w at) = ⊥
IsAlone (aborts ns at) = ⊥
IsAlone (requeues loops r) = Unit {0}
IsAlone (ends loops) = ⊥
IsAlone (handles p) = Unit {0}
IsAlone (is_left_by p) = ⊥

module _ {C : Type 0} (go : Orders C) (plan : Plan) (barrier : ℕ → Sight → Result Bool Raise) where
  abbrev pub acts : Asked → Acting C → Acting C
  acts (raises_here raise at) t = own.raises (Predefined raise) at t
  acts (declares up_to z) t = variable_declared go plan barrier up_to z t
  acts (declares_array at s n) t = moves_on go plan barrier 0 (own.declares (replicate n (nearest_zero s)) t)
  acts (goes_on part) t = moves_on go plan barrier part t
  acts (assigns target z) t = moves_on go plan barrier 0 (stored_at go plan barrier target z t)
  acts (puts text) t = moves_on go plan barrier 0 (own.puts text t)
  acts (enters_loop f a b) t = loop_entered go plan barrier f a b t
  acts (next_of_loop f) t = loop_continued go plan barrier f t
  acts (goes_out loops value) t = out_of_loops go plan barrier loops (with_function_value go plan barrier value t)
  acts (raises x at) t = own.raises x at t
  acts (raises_again at) t = own.raises (not_handled (own.handled t.own.opened None)) at t
  acts (enters_block at region) t = if_room go plan barrier at t (moves_on go plan barrier 1 (own.opens for_block region at t.own.display [] 0 t))
  acts (calls_procedure at unit p into) t =
      let u = unit_of plan unit in
      if_room go plan barrier at t (own.opens (for_procedure (record { is_function = u.is_function; backs = p.backs; into = into; value = None })) u.region at (take u.level t.own.display) p.values (length p.values) (record t { control = go.enters unit t.control }))
  acts (calls_own_entry at) t = own.raises (Predefined Program) at t
  acts (requeues loops r) t = out_of_loops go plan barrier loops (requeued go plan barrier r t)
  acts (handles p) t = record t { control = go.handling p.exception t.control; own = own.handles p t.own }
  acts a t = t

-- Such a step is done by the task alone.
abbrev pub AloneLaw : (C : Type 0) → Type 0
AloneLaw C =
    (go : Orders C) (plan : Plan) (barrier : ℕ → Sight → Result Bool Raise) (limits : Limits) (alternative : Option ℕ) (a : Asked) → IsAlone a → (n : ℕ) (c : All C) → done go plan barrier limits alternative a n c ≡ alone (acts go plan barrier a) n c

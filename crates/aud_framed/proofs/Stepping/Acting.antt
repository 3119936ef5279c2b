-- What a task's own statements do.
use Rattle.std.proofs.Common.{◌≡◌, ℕ, List, replicate, Option, Some, None, Bool, true, false, nat_le, refl, sym, ap, subst, inl, inr, if◌then◌else◌, slice_get}
use Rattle.std.specs.Prelude.{is_some}
use Rattle.aud_text.specs.declared.limits.Limits.{Limits}
use Rattle.aud_text.specs.declared.limits.TheConstants.{ELEMENTS}
use Rattle.aud_text.specs.declared.place.Pos.{Pos}
use Rattle.aud_text.specs.declared.raise.Raise.TheVariants.{Storage}
use Rattle.aud_typed.specs.declared.program.Subtype.{Subtype}
use Rattle.aud_typed.specs.Tree.{Plan}
use Rattle.aud_meaning.specs.declared.state.Owner.{Owner}
use Rattle.aud_meaning.specs.declared.state.Owner.TheVariants as owner
use Rattle.aud_meaning.specs.declared.state.Pending.{Pending}
use Rattle.aud_meaning.specs.declared.state.Status.TheVariants.{Running}
use Rattle.aud_meaning.specs.Configuration.{TaskAt, All}
use Rattle.aud_meaning.specs.Control as asked
use Rattle.aud_meaning.specs.Control.{Asked, Called, Coming, Scene, ending, starting, raises_here, declares, declares_array, declares_tasks, declares_object, ends_activation, activates, goes_on, assigns, puts, enters_loop, next_of_loop, goes_out, raises, raises_again, enters_block, calls_procedure, calls_operation, calls_own_entry, calls_entry, delays, accepts, selects, aborts, requeues, ends, handles, is_left_by}
use Rattle.aud_meaning.specs.Effects as effects
use Rattle.aud_meaning.specs.Evaluation.{nearest_zero}
use Rattle.aud_meaning.specs.Parts.{alone, in_action, sight_of}
use Rattle.aud_meaning.specs.Run.{is_leave, scene_of}
use Rattle.aud_meaning.specs.Statements.{coming_raised, handled_or_left}
use Rattle.aud_meaning.specs.Step as step
use Rattle.aud_meaning.specs.Step.{done}
use Rattle.aud_meaning.specs.Tasks as effect
use Rattle.aud_meaning.specs.Why.Alone.{IsAlone}
use Rattle.aud_code.specs.Places.{Spot, is_there, loops_of}
use Rattle.aud_code.specs.Eval.{eval}
use Rattle.aud_code.specs.Flat.{Flat, Does, Last, asked_at, coming_at, coming_last, end_at, flat_controls, handler_at, instructions_at, no_scene}
use Rattle.aud_code.specs.Instruction.{CallKind, CallTask, no_operands}
use Rattle.aud_code.specs.Seen.{IsSeen}
use Rattle.aud_code.specs.Sound.{Counts, IsSound}
use Rattle.aud_framed.specs.Calls.{EntryFits}
use Rattle.aud_framed.specs.Enabled.{ComingTells}
use Rattle.aud_framed.specs.Framed.{AskedMeets, HasLevels, IsFramed, IsLeaving, MeetsBy}
use Rattle.aud_framed.specs.Ways.{StandsAtStep}
use Rattle.aud_framed.specs.Stepping.{AskedBy, CallsBy, DoesPlain, HasWays}
use Rattle.aud_framed.proofs.Stepping.Aborting.{aborts_good}
use Rattle.aud_framed.proofs.Stepping.Activated.{ends_activation_good}
use Rattle.aud_framed.proofs.Stepping.Asked.{asks}
use Rattle.aud_framed.proofs.Stepping.Beginning.{activates_good}
use Rattle.aud_framed.proofs.Stepping.Blocks.{raised_in_part}
use Rattle.aud_framed.proofs.Stepping.Calling.{calls_task_good}
use Rattle.aud_framed.proofs.Stepping.Declaring.{declared}
use Rattle.aud_framed.proofs.Stepping.DeclaringTasks.{declares_tasks_good}
use Rattle.aud_framed.proofs.Stepping.Delays.{delay_begun}
use Rattle.aud_framed.proofs.Stepping.Ending.{Good}
use Rattle.aud_framed.proofs.Stepping.Entering.{operation_begun}
use Rattle.aud_framed.proofs.Stepping.Handling.{handled_step}
use Rattle.aud_framed.proofs.Stepping.Kinds.{ends_good, left_good}
use Rattle.aud_framed.proofs.Stepping.Lone.{at_step, lone_framed, not_again}
use Rattle.aud_framed.proofs.Stepping.Operating.{nothing_there}
use Rattle.aud_framed.proofs.Stepping.Refusing.{orders}
use Rattle.aud_framed.proofs.Stepping.Rendezvous.{accepts_good}
use Rattle.aud_framed.proofs.Stepping.Selects.{selects_good}
use Rattle.aud_framed.proofs.Stepping.Starting.{calls_object_good, object_comes}

module _ (plan : Plan) (code : Flat) (table : List Counts) (tasks barriers seen : List ℕ) (sound : IsSound code) (fits : IsSeen code table tasks barriers seen) (levels : HasLevels plan code tasks seen) (ways : HasWays code) (limits : Limits) (alternative : Option ℕ) (n : ℕ) (c : All Spot) (t : TaskAt Spot) (w : Good plan code table tasks barriers seen sound fits ways c) (is : slice_get c.tasks n ≡ Some t) (running : t.own.status ≡ Running) (unserving : t.own.serving ≡ None) (starts_none : t.own.restart ≡ None) (meets : MeetsBy plan code (Some t) n c) where
  abbrev scene : Scene
  scene = scene_of plan (flat_controls plan code) n c

  abbrev out : ℕ
  out = loops_of (end_at code t.control.place).exit

  abbrev Framed : Asked → Type 0
  Framed a = IsFramed plan code seen (done (orders plan code table tasks barriers seen sound fits ways) plan (flat_controls plan code).barrier limits alternative a n c)

  abbrev Comes : Option Pending → Coming
  Comes p = coming_at code plan p (sight_of n c) t.control

  module _ (none : t.own.pending ≡ None) (tells : ComingTells n c (Comes None)) (well : in_action n c ≡ false → is_leave (Comes None) t.own ≡ false → t.own.abnormal ≡ false) where
    lone : (a : Asked) → asked_at code None scene t.control ≡ a → IsAlone a → Framed a
    lone a e i =
        subst (λ x. Framed x) e
        (lone_framed plan code table tasks barriers seen limits alternative n c t sound fits levels ways w.spots is running none unserving starts_none (subst (λ x. IsAlone x) (sym e) i) meets w.framed)

    s : StandsAtStep code seen t.control.place (end_at code t.control.place) t.control.returns t.own.display t.own.opened
    s = at_step plan code seen n c t w.spots is running none w.framed

    array_declared : (at : Pos) (z : Subtype) (size : ℕ) → DoesPlain (end_at code t.control.place).last → asked_at code None scene t.control ≡ declares_array at z size → t.own.again ≡ None → (b : Bool) → nat_le size ELEMENTS ≡ b → Framed (declares_array at z size)
    array_declared at z size d e still true fits_in = lone (declares_array at z size) e fits_in
    array_declared at z size d e still false fits_in =
        subst (λ b. IsFramed plan code seen (if b then alone (λ a. step.moves_on (orders plan code table tasks barriers seen sound fits ways) plan (flat_controls plan code).barrier 0 (effects.declares (replicate size (nearest_zero z)) a)) n c else effect.raises_in_part (orders plan code table tasks barriers seen sound fits ways) plan (flat_controls plan code).barrier Storage at n c)) (sym fits_in)
        (raised_in_part plan code table tasks barriers seen sound fits ways Storage at n c t w is running none still (d.0, d.1.0)).framed

    -- an entry call is no leaving step
    no_leave : (last : Last) (entry : ℕ) (form : CallKind) → last ≡ Does (CallTask entry form) → is_leave (coming_last plan last (sight_of n c) (eval true (no_scene (sight_of n c)) (instructions_at code t.control.place) 0 no_operands)) t.own ≡ false
    no_leave last entry form e = subst (λ l. is_leave (coming_last plan l (sight_of n c) (eval true (no_scene (sight_of n c)) (instructions_at code t.control.place) 0 no_operands)) t.own ≡ false) (sym e) refl

    call_good : (o : Owner) (call : Called) → asked_at code None scene t.control ≡ calls_entry o call → CallsBy (end_at code t.control.place).last o call → EntryFits plan c o call.entry → t.own.again ≡ None → Framed (calls_entry o call)
    call_good (owner.Task m) call e d met still =
        (calls_task_good plan code table tasks barriers seen sound fits ways alternative m n call d.0 c t w is running none still starts_none met d.1
        (λ free. well free (no_leave (end_at code t.control.place).last call.entry d.0 d.1))).framed
    call_good (owner.Object m) call e d met still =
        let comes : Comes None ≡ starting m false = object_comes plan code n c t.control m call d.0 d.1.0 d.1.1 e in
        (calls_object_good plan code table tasks barriers seen sound fits ways levels m n call d.0 d.1.0 c t w is running none still starts_none met d.1.1 (subst (λ next. ComingTells n c next) comes tells)
        (λ free. well free (ap (λ next. is_leave next t.own) comes))).framed

    -- at an end nothing else comes
    end_tells : (loops : ℕ) → AskedBy (end_at code t.control.place).last out (ends loops) → ComingTells n c ending
    end_tells loops (inl d) = subst (λ last. ComingTells n c (coming_last plan last (sight_of n c) (eval true (no_scene (sight_of n c)) (instructions_at code t.control.place) 0 no_operands))) d.1.1.0 tells
    end_tells loops (inr d) = subst (λ last. ComingTells n c (coming_last plan last (sight_of n c) (eval true (no_scene (sight_of n c)) (instructions_at code t.control.place) 0 no_operands))) d.1 tells

    acts_by : (a : Asked) → asked_at code None scene t.control ≡ a → AskedBy (end_at code t.control.place).last out a → AskedMeets plan t.own c a → (is_some t.own.again ≡ true → IsLeaving a) → Framed a
    acts_by (raises_here raise at) e d m l = lone (raises_here raise at) e tt
    acts_by (asked.raises_in_part raise at) e d m l = (raised_in_part plan code table tasks barriers seen sound fits ways raise at n c t w is running none (not_again t.own.again ⊥ l (λ h. h)) d).framed
    acts_by (declares up_to z) e d m l = lone (declares up_to z) e tt
    acts_by (declares_array at z size) e d m l = array_declared at z size d e (not_again t.own.again ⊥ l (λ h. h)) (nat_le size ELEMENTS) refl
    acts_by (declares_tasks at ts) e d m l = (declares_tasks_good plan code table tasks barriers seen sound fits ways levels limits at ts n c t w is running none (not_again t.own.again ⊥ l (λ h. h)) d).framed
    acts_by (declares_object at k cells) e d m l = (declared plan code table tasks barriers seen sound fits ways at k cells n c t w is running none (not_again t.own.again ⊥ l (λ h. h)) d m).framed
    acts_by ends_activation e d m l = (ends_activation_good plan code table tasks barriers seen sound fits ways n c t w is running none (not_again t.own.again ⊥ l (λ h. h)) d).framed
    acts_by (activates at) e d m l = (activates_good plan code table tasks barriers seen sound fits ways levels at n c t w is running none (not_again t.own.again ⊥ l (λ h. h)) unserving d).framed
    acts_by (goes_on part) e d m l = lone (goes_on part) e tt
    acts_by (assigns target z) e d m l = lone (assigns target z) e tt
    acts_by (puts text) e d m l = lone (puts text) e tt
    acts_by (enters_loop f a b) e d m l = lone (enters_loop f a b) e tt
    acts_by (next_of_loop f) e d m l = lone (next_of_loop f) e tt
    acts_by (goes_out loops value) e d m l = lone (goes_out loops value) e tt
    acts_by (raises x at) e d m l = lone (raises x at) e tt
    acts_by (raises_again at) e d m l = lone (raises_again at) e tt
    acts_by (enters_block at region) e d m l = lone (enters_block at region) e tt
    acts_by (calls_procedure at unit p into) e d m l = lone (calls_procedure at unit p into) e tt
    acts_by (calls_operation at object unit p into) e d m l =
        (operation_begun plan code table tasks barriers seen sound fits ways levels at object unit p into d.0 n c t w is running none (not_again t.own.again ⊥ l (λ h. h)) unserving starts_none d.1 m.0 m.1
        (nothing_there plan code n c t.control at object unit p into d.0 d.1 e tells)).framed
    acts_by (calls_own_entry at) e d m l = lone (calls_own_entry at) e tt
    acts_by (calls_entry owner call) e d m l = call_good owner call e d m (not_again t.own.again ⊥ l (λ h. h))
    acts_by (delays ms at) e d m l = (delay_begun plan code table tasks barriers seen sound fits ways ms at n c t w is running none (not_again t.own.again ⊥ l (λ h. h)) d).framed
    acts_by (accepts a) e d m l = (accepts_good plan code table tasks barriers seen sound fits ways a n c t w is running none (not_again t.own.again ⊥ l (λ h. h)) unserving m.0 m.1 d.0 d.1).framed
    acts_by (selects has_else waits at) e d m l =
        (selects_good plan code table tasks barriers seen sound fits ways alternative has_else waits at n c t w is running none (not_again t.own.again ⊥ l (λ h. h)) unserving m.0 m.1 e).framed
    acts_by (aborts ns at) e d m l = (aborts_good plan code table tasks barriers seen sound fits ways ns at n c t w is running none (not_again t.own.again ⊥ l (λ h. h)) d).framed
    acts_by (requeues loops r) e d m l = lone (requeues loops r) e tt
    acts_by (ends loops) e d m l = (ends_good plan code table tasks barriers seen sound fits ways limits alternative n c t w is running unserving starts_none (end_tells loops d) loops none d).framed
    acts_by (handles p) e d m l = absurd d
    acts_by (is_left_by p) e d m l = absurd d

    acts_quietly : Framed (asked_at code None scene t.control)
    acts_quietly =
        let met = subst (λ p. AskedMeets plan t.own c (asked_at code p scene t.control) × (is_some t.own.again ≡ true → IsLeaving (asked_at code p scene t.control))) none meets in
        acts_by (asked_at code None scene t.control) refl (asks code sound scene t.control s.begins) met.0 met.1

  -- with an exception pending
  acts_raised : (p : Pending) → t.own.pending ≡ Some p → ComingTells n c (Comes (Some p)) → Framed (asked_at code (Some p) scene t.control)
  acts_raised p pending tells = by (is_there (handler_at code p.exception t.control)) refl
    where
      met : (b : Bool) → is_there (handler_at code p.exception t.control) ≡ b → is_some t.own.again ≡ true → IsLeaving (handled_or_left b p)
      met b e =
          subst (λ x. is_some t.own.again ≡ true → IsLeaving (handled_or_left x p)) e
          (subst (λ q. is_some t.own.again ≡ true → IsLeaving (asked_at code q scene t.control)) pending meets.1)

      by : (b : Bool) → is_there (handler_at code p.exception t.control) ≡ b → Framed (handled_or_left (is_there (handler_at code p.exception t.control)) p)
      by true e =
          subst (λ x. Framed (handled_or_left x p)) (sym e)
          (handled_step plan code table tasks barriers seen limits alternative n c t p sound fits w.spots is running pending e meets w.framed)
      by false e =
          subst (λ x. Framed (handled_or_left x p)) (sym e)
          (left_good plan code table tasks barriers seen sound fits ways limits alternative n c t w is running unserving starts_none (subst (λ x. ComingTells n c (coming_raised x)) e tells) p pending (not_again t.own.again ⊥ (met false e) (λ h. h))).framed

  pub acts_good : ComingTells n c (Comes t.own.pending) → (in_action n c ≡ false → is_leave (Comes t.own.pending) t.own ≡ false → t.own.abnormal ≡ false) → Framed (asked_at code t.own.pending scene t.control)
  acts_good tells well = by t.own.pending refl tells well
    where
      by : (p : Option Pending) → t.own.pending ≡ p → ComingTells n c (Comes p) → (in_action n c ≡ false → is_leave (Comes p) t.own ≡ false → t.own.abnormal ≡ false) → Framed (asked_at code p scene t.control)
      by None e tells well = acts_quietly e tells well
      by (Some p) e tells well = acts_raised p e tells

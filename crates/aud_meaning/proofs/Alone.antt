-- Steps that concern a task alone are done by it alone.
use Rattle.std.proofs.Common.{◌≡◌, ℕ, zero, suc, List, [], ◌∷◌, length, take, Option, Some, None, Bool, true, false, refl, ap, ◌∙◌, slice_get, slice_index_or, if◌then◌else◌, Result, replicate}
use Rattle.aud_text.specs.declared.place.Pos.{Pos}
use Rattle.aud_text.specs.declared.raise.Raise.{Raise}
use Rattle.aud_text.specs.declared.raise.Raise.TheVariants.{Program, Storage}
use Rattle.aud_text.specs.declared.limits.Limits.{Limits}
use Rattle.aud_typed.specs.declared.program.Exception.TheVariants.{Predefined}
use Rattle.aud_typed.specs.Tree.{Plan}
use Rattle.aud_meaning.specs.Configuration.{Purpose, for_procedure, Target, Own, TaskAt, All, Acting}
use Rattle.aud_meaning.specs.Evaluation.{Sight, Passed, nearest_zero}
use Rattle.aud_meaning.specs.Control.{Asked, raises_here, raises_in_part, declares, declares_array, declares_tasks, declares_object, ends_activation, activates, goes_on, assigns, puts, enters_loop, next_of_loop, goes_out, raises, raises_again, enters_block, calls_procedure, calls_operation, calls_own_entry, calls_entry, delays, accepts, selects, aborts, requeues, ends, handles, is_left_by}
use Rattle.aud_meaning.specs.Effects as own
use Rattle.aud_meaning.specs.Orders.{Orders}
use Rattle.aud_meaning.specs.Parts.{alone, alone_by, changed, nobody, on_own, on_task, own_of, owns, raised_at, unit_of}
use Rattle.aud_meaning.specs.Step.{done, not_handled}
use Rattle.aud_meaning.specs.Step as step
use Rattle.aud_meaning.specs.Tasks as effect
use Rattle.aud_meaning.specs.Why.Alone.{AloneLaw, IsAlone, acts}

module _ {C : Type 0} where
  -- as a change of the task beside what all share
  abbrev beside : (TaskAt C → TaskAt C) → Acting C → Acting C
  beside f t = let u = f (record { control = t.control; own = t.own }) in record { control = u.control; own = u.own; shared = t.shared }

  changed_there : (n : ℕ) (f : TaskAt C → TaskAt C) (ts : List (TaskAt C)) (t : TaskAt C) → slice_get ts n ≡ Some t → changed n f ts ≡ changed n (λ old. f t) ts
  changed_there n f [] t is = refl
  changed_there zero f (x ∷ ts) t is = let e : x ≡ t = cc in ap (λ (y : TaskAt C). f y ∷ ts) e
  changed_there (suc n) f (x ∷ ts) t is = ap (λ (us : List (TaskAt C)). x ∷ us) (changed_there n f ts t is)

  unchanged : (n : ℕ) (f : TaskAt C → TaskAt C) (ts : List (TaskAt C)) → slice_get ts n ≡ None → changed n f ts ≡ ts
  unchanged n f [] is = refl
  unchanged zero f (x ∷ ts) is = absurd cc
  unchanged (suc n) f (x ∷ ts) is = ap (λ (us : List (TaskAt C)). x ∷ us) (unchanged n f ts is)

  task_alone : (n : ℕ) (f : TaskAt C → TaskAt C) (c : All C) → on_task n f c ≡ alone (beside f) n c
  task_alone n f c = by (slice_get c.tasks n) refl
    where
      by : (t : Option (TaskAt C)) → slice_get c.tasks n ≡ t → on_task n f c ≡ alone_by (beside f) t n c
      by None is = ap (λ (ts : List (TaskAt C)). record c { tasks = ts }) (unchanged n f c.tasks is)
      by (Some t) is = ap (λ (ts : List (TaskAt C)). record c { tasks = ts }) (changed_there n f c.tasks t is)

  got_own : (n : ℕ) (ts : List (TaskAt C)) (t : TaskAt C) → slice_get ts n ≡ Some t → slice_index_or (owns ts) n nobody ≡ t.own
  got_own n [] t is = absurd cc
  got_own zero (x ∷ ts) t is = let e : x ≡ t = cc in ap (λ (y : TaskAt C). y.own) e
  got_own (suc n) (x ∷ ts) t is = got_own n ts t is

  none_own : (n : ℕ) (ts : List (TaskAt C)) → slice_get ts n ≡ None → slice_index_or (owns ts) n nobody ≡ nobody
  none_own n [] is = refl
  none_own zero (x ∷ ts) is = absurd cc
  none_own (suc n) (x ∷ ts) is = none_own n ts is

  got_changed : (n : ℕ) (f : TaskAt C → TaskAt C) (ts : List (TaskAt C)) (t : TaskAt C) → slice_get ts n ≡ Some t → slice_get (changed n f ts) n ≡ Some (f t)
  got_changed n f [] t is = absurd cc
  got_changed zero f (x ∷ ts) t is = let e : x ≡ t = cc in ap (λ (y : TaskAt C). Some (f y)) e
  got_changed (suc n) f (x ∷ ts) t is = got_changed n f ts t is

  set_again : (n : ℕ) (f : TaskAt C → TaskAt C) (v : TaskAt C) (ts : List (TaskAt C)) → changed n (λ old. v) (changed n f ts) ≡ changed n (λ old. v) ts
  set_again n f v [] = refl
  set_again zero f v (x ∷ ts) = refl
  set_again (suc n) f v (x ∷ ts) = ap (λ (us : List (TaskAt C)). x ∷ us) (set_again n f v ts)

  module _ (go : Orders C) (plan : Plan) (barrier : ℕ → Sight → Result Bool Raise) (limits : Limits) (alternative : Option ℕ) (n : ℕ) (c : All C) where
    abbrev Same : Asked → Type 0
    Same a = done go plan barrier limits alternative a n c ≡ alone (acts go plan barrier a) n c

    again : (at : Pos) → Same (raises_again at)
    again at = by (slice_get c.tasks n) refl
      where
        x : Own → Own → Own
        x o p = own.pends (not_handled (own.handled o.opened None)) at p

        by : (t : Option (TaskAt C)) → slice_get c.tasks n ≡ t → on_own n (x (own_of n c)) c ≡ alone_by (acts go plan barrier (raises_again at)) t n c
        by None is = ap (λ (ts : List (TaskAt C)). record c { tasks = ts }) (unchanged n (λ t. record t { own = x (own_of n c) t.own }) c.tasks is)
        by (Some t) is =
            ap (λ (o : Own). on_own n (x o) c) (got_own n c.tasks t is)
            ∙ ap (λ (ts : List (TaskAt C)). record c { tasks = ts }) (changed_there n (λ (u : TaskAt C). record u { own = x t.own u.own }) c.tasks t is)

    called : (at : Pos) (unit : ℕ) (p : Passed) (into : Option Target) → Same (calls_procedure at unit p into)
    called at unit p into = by (slice_get c.tasks n) refl
      where
        purpose : Purpose
        purpose = for_procedure (record { is_function = (unit_of plan unit).is_function; backs = p.backs; into = into; value = None })

        opened : Own → Acting C → Acting C
        opened o t = own.opens purpose (unit_of plan unit).region at (take (unit_of plan unit).level o.display) p.values (length p.values) t

        enters : TaskAt C → TaskAt C
        enters t = record t { control = go.enters unit t.control }

        room : (b : Bool) (t : TaskAt C) → slice_get c.tasks n ≡ Some t → (if b then alone (opened t.own) n (on_task n enters c) else raised_at Storage at n c) ≡ alone_by (λ a. if b then opened t.own (record a { control = go.enters unit a.control }) else own.raises (Predefined Storage) at a) (Some t) n c
        room true t is =
            let v = opened t.own (record { control = go.enters unit t.control; own = t.own; shared = c.shared }) in
            ap (λ x. alone_by (opened t.own) x n (on_task n enters c)) (got_changed n enters c.tasks t is)
            ∙ ap (λ (ts : List (TaskAt C)). record c { tasks = ts; shared = v.shared }) (set_again n enters (record { control = v.control; own = v.own }) c.tasks)
        room false t is = ap (λ (ts : List (TaskAt C)). record c { tasks = ts }) (changed_there n (λ (u : TaskAt C). record u { own = own.pends (Predefined Storage) at u.own }) c.tasks t is)

        by : (t : Option (TaskAt C)) → slice_get c.tasks n ≡ t → effect.calls_procedure go plan barrier at unit p into n c ≡ alone_by (acts go plan barrier (calls_procedure at unit p into)) t n c
        by None is =
            ap (λ (o : Own). if own.has_room o then alone (opened o) n (on_task n enters c) else raised_at Storage at n c) (none_own n c.tasks is)
            ∙ ap (λ (ts : List (TaskAt C)). alone (opened nobody) n (record c { tasks = ts })) (unchanged n enters c.tasks is)
            ∙ ap (λ x. alone_by (opened nobody) x n c) is
        by (Some t) is =
            ap (λ (o : Own). if own.has_room o then alone (opened o) n (on_task n enters c) else raised_at Storage at n c) (got_own n c.tasks t is)
            ∙ room (own.has_room t.own) t is

    alone_is : (a : Asked) → IsAlone a → Same a
    alone_is (raises_here raise at) h = task_alone n (λ t. record t { own = own.pends (Predefined raise) at t.own }) c
    alone_is (raises_in_part raise at) h = absurd h
    alone_is (declares up_to z) h = refl
    alone_is (declares_array at s length) h = ap (λ b. if b then alone (λ a. step.moves_on go plan barrier 0 (own.declares (replicate length (nearest_zero s)) a)) n c else effect.raises_in_part go plan barrier Storage at n c) h
    alone_is (declares_tasks at ts) h = absurd h
    alone_is (declares_object at k cells) h = absurd h
    alone_is ends_activation h = absurd h
    alone_is (activates at) h = absurd h
    alone_is (goes_on part) h = task_alone n (λ t. record t { control = go.takes part t.control }) c
    alone_is (assigns target z) h = refl
    alone_is (puts text) h = refl
    alone_is (enters_loop f a b) h = refl
    alone_is (next_of_loop f) h = refl
    alone_is (goes_out loops value) h = refl
    alone_is (raises x at) h = task_alone n (λ t. record t { own = own.pends x at t.own }) c
    alone_is (raises_again at) h = again at
    alone_is (enters_block at region) h = refl
    alone_is (calls_procedure at unit p into) h = called at unit p into
    alone_is (calls_operation at object unit p into) h = absurd h
    alone_is (calls_own_entry at) h = task_alone n (λ t. record t { own = own.pends (Predefined Program) at t.own }) c
    alone_is (calls_entry o call) h = absurd h
    alone_is (delays ms at) h = absurd h
    alone_is (accepts a) h = absurd h
    alone_is (selects has_else w at) h = absurd h
    alone_is (aborts ns at) h = absurd h
    alone_is (requeues loops r) h = refl
    alone_is (ends loops) h = absurd h
    alone_is (handles p) h = task_alone n (λ t. record t { control = go.handling p.exception t.control; own = own.handles p t.own }) c
    alone_is (is_left_by p) h = absurd h

pub alone_law : {C : Type 0} → AloneLaw C
alone_law go plan barrier limits alternative a h n c = alone_is go plan barrier limits alternative n c a h

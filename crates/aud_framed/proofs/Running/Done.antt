-- What a task's own statements keep of all tasks.
use Rattle.std.proofs.Common.{◌≡◌, ℕ, suc, ℤ, pos, List, [], ◌∷◌, ◌++◌, length, replicate, take, Option, Some, None, Bool, true, false, Result, refl, sym, ◌∙◌, if◌then◌else◌, nat_le}
use Rattle.std.specs.Prelude.{int_le, ◌+ℤ◌}
use Rattle.aud_text.specs.declared.limits.Limits.{Limits}
use Rattle.aud_text.specs.declared.limits.TheConstants.{OBJECTS, OUTPUT, ELEMENTS}
use Rattle.aud_text.specs.declared.place.Pos.{Pos}
use Rattle.aud_text.specs.declared.raise.Raise.{Raise}
use Rattle.aud_text.specs.declared.raise.Raise.TheVariants.{Storage}
use Rattle.aud_typed.specs.Tree.{For, Plan}
use Rattle.aud_meaning.specs.declared.state.Again.{Again}
use Rattle.aud_meaning.specs.declared.state.Owner.{Owner}
use Rattle.aud_meaning.specs.declared.state.Owner.TheVariants as owner
use Rattle.aud_meaning.specs.declared.state.Pending.{Pending}
use Rattle.aud_meaning.specs.Configuration.{for_block, Shared, All, Acting}
use Rattle.aud_meaning.specs.Control.{Called, Asked, raises_here, raises_in_part, declares, declares_array, declares_tasks, declares_object, ends_activation, activates, goes_on, assigns, puts, enters_loop, next_of_loop, goes_out, raises, raises_again, enters_block, calls_procedure, calls_operation, calls_own_entry, calls_entry, delays, accepts, selects, aborts, requeues, ends, handles, is_left_by}
use Rattle.aud_meaning.specs.Effects as effects
use Rattle.aud_meaning.specs.Evaluation.{Sight, nearest_zero}
use Rattle.aud_meaning.specs.Orders.{Orders}
use Rattle.aud_meaning.specs.Parts.{alone, on_own, on_shared, own_of}
use Rattle.aud_meaning.specs.Step as step
use Rattle.aud_meaning.specs.Step.{done, leaves}
use Rattle.aud_code.specs.Places.{Spot}
use Rattle.aud_framed.proofs.Running.Closed.{Busy, Closed, IsQuiet, closed_again, closed_status, goes, loops_again, loops_status, out_again, out_status}
use Rattle.aud_framed.proofs.Running.Effects.{aborts_keep, activated_keeps, activates_keeps, call_keeps, calls_keep, control_keeps, declares_keeps, delays_keep, object_keeps, operation_keeps, part_keeps, pends_keeps, procedure_keeps, quiet_keeps, raised_keeps, selects_keep}

-- What a task does alone leaves its status.

-- u is t, as far as that goes
record Alike (t u : Acting Spot) : Type 0 where
  status : u.own.status ≡ t.own.status
  again : u.own.again ≡ t.own.again
  calls : u.shared.calls ≡ t.shared.calls
  objects : u.shared.objects ≡ t.shared.objects

same : (t : Acting Spot) → Alike t t
same t = record { status = refl; again = refl; calls = refl; objects = refl }

either : (b : Bool) (t x y : Acting Spot) → Alike t x → Alike t y → Alike t (if b then x else y)
either true t x y h k = h
either false t x y h k = k

quiet_as : (f : Acting Spot → Acting Spot) → ((t : Acting Spot) → Alike t (f t)) → IsQuiet f
quiet_as f h = record { status = λ u. (h u).status; again = λ u. (h u).again; calls = λ u. (h u).calls; objects = λ u. (h u).objects }

module _ (go : Orders Spot) (plan : Plan) (barrier : ℕ → Sight → Result Bool Raise) where
  -- a text changes the output alone
  output_stays : (text : List ℕ) (x : Shared) → ((effects.put_out text x).calls ≡ x.calls) × ((effects.put_out text x).objects ≡ x.objects)
  output_stays text x = by (nat_le (length (x.output ++ text)) OUTPUT)
    where
      by : (b : Bool) → ((if b then record x { output = x.output ++ text } else record x { output = take OUTPUT (x.output ++ text); cut = true }).calls ≡ x.calls) × ((if b then record x { output = x.output ++ text } else record x { output = take OUTPUT (x.output ++ text); cut = true }).objects ≡ x.objects)
      by true = (refl, refl)
      by false = (refl, refl)

  room_alike : (at : Pos) (t x : Acting Spot) → Alike t x → Alike t (step.if_room go plan barrier at t x)
  room_alike at t x h = either (effects.has_room t.own) t x _ h (record { status = refl; again = refl; calls = refl; objects = refl })

  loop_alike : (f : For) (a b : ℤ) (t : Acting Spot) → Alike t (step.loop_entered go plan barrier f a b t)
  loop_alike f a b t = either (int_le a b) t _ _ (room_alike f.at t _ (record { status = refl; again = refl; calls = refl; objects = refl })) (record { status = refl; again = refl; calls = refl; objects = refl })

  next_alike : (f : For) (t : Acting Spot) → Alike t (step.loop_continued go plan barrier f t)
  next_alike f t =
      let value = step.loop_cell go plan barrier 0 t in
      let on : Acting Spot = step.moves_on go plan barrier 1 (record t { shared = record t.shared { frames = effects.assigned (effects.innermost t.own.opened) 0 (value +ℤ step.for_step f.backward) t.shared.frames } }) in
      let out : Acting Spot = step.moves_on go plan barrier 0 (record t { own = effects.closed t.own }) in
      either (step.has_next f.backward value (step.loop_cell go plan barrier 1 t)) t on out (record { status = refl; again = refl; calls = refl; objects = refl })
      (record { status = closed_status t.own.opened t.own; again = closed_again t.own.opened t.own; calls = refl; objects = refl })

  value_alike : (value : Option ℤ) (t : Acting Spot) → Alike t (step.with_function_value go plan barrier value t)
  value_alike None t = same t
  value_alike (Some z) t = record { status = refl; again = refl; calls = refl; objects = refl }

  out_alike : (loops : ℕ) (value : Option ℤ) (t : Acting Spot) → Alike t (step.out_of_loops go plan barrier loops (step.with_function_value go plan barrier value t))
  out_alike loops value t =
      let u : Acting Spot = step.with_function_value go plan barrier value t in
      let h = value_alike value t in
      record { status = out_status loops u.own ∙ h.status; again = out_again loops u.own ∙ h.again; calls = h.calls; objects = h.objects }

  -- an object that is declared, and where a call is made again
  abbrev pub with_object : ℕ → List ℤ → ℕ → All Spot → All Spot
  with_object declaration cells n c =
      on_shared (λ x. record x { frames = x.frames ++ cells ∷ []; objects = x.objects ++ record { declaration = declaration; display = (own_of n c).display ++ length x.frames ∷ []; actions = [] } ∷ [] }) c

  abbrev pub with_again : ℕ → Again → ℕ → All Spot → All Spot
  with_again loops r n c = alone (λ u. step.out_of_loops go plan barrier loops (step.requeued go plan barrier r u)) n c

  module _ (B : ℕ → Type 0) (P : All Spot → Type 0) (closes : Closed B P) (n : ℕ) (c : All Spot) (b : B n) (busy : Busy n c) (h : P c) where
    made_keeps : (alternative : Option ℕ) (o : Owner) (call : Called) → P (step.call_made go plan barrier alternative o call n c)
    made_keeps alternative (owner.Task task) call = calls_keep go plan barrier B P closes alternative (step.call_record n (owner.Task task) call) task c b h
    made_keeps alternative (owner.Object object) call = object_keeps go plan barrier B P closes (step.call_record n (owner.Object object) call) object c b h

    quietly : (f : Acting Spot → Acting Spot) → ((t : Acting Spot) → Alike t (f t)) → P (alone f n c)
    quietly f alike = quiet_keeps go plan barrier B P closes f n c b (quiet_as f alike) busy h

    if_so : (x : Bool) (d e : All Spot) → P d → P e → P (if x then d else e)
    if_so true d e p q = p
    if_so false d e p q = q

    -- What leaves a construct, an object that is declared, and where a call is made again, are said besides.
    pub record Besides (alternative : Option ℕ) (a : Asked) : Type 0 where
      pub ends : (loops : ℕ) → a ≡ ends loops → P (on_own n (effects.out_of loops) (leaves go plan barrier alternative None go.behind n c))
      pub left : (p : Pending) → a ≡ is_left_by p → P (leaves go plan barrier alternative (Some p) (go.left p.exception) n c)
      pub object : (at : Pos) (declaration : ℕ) (cells : List ℤ) → a ≡ declares_object at declaration cells → P (with_object declaration cells n c)
      pub again : (loops : ℕ) (r : Again) → a ≡ requeues loops r → P (with_again loops r n c)

    pub done_keeps : (limits : Limits) (alternative : Option ℕ) (a : Asked) → Besides alternative a → P (done go plan barrier limits alternative a n c)
    done_keeps limits alternative (raises_here raise at) f = raised_keeps go plan barrier B P closes raise at n c b h
    done_keeps limits alternative (raises_in_part raise at) f = part_keeps go plan barrier B P closes raise at n c b h
    done_keeps limits alternative (declares up_to z) f = quietly (step.variable_declared go plan barrier up_to z) (λ t. record { status = refl; again = refl; calls = refl; objects = refl })
    done_keeps limits alternative (declares_array at t many) f =
        if_so (nat_le many ELEMENTS) _ _ (quietly (λ u. step.moves_on go plan barrier 0 (effects.declares (replicate many (nearest_zero t)) u)) (λ t. record { status = refl; again = refl; calls = refl; objects = refl }))
        (part_keeps go plan barrier B P closes Storage at n c b h)
    done_keeps limits alternative (declares_tasks at ts) f = declares_keeps go plan barrier B P closes limits at ts n c b busy h
    done_keeps limits alternative (declares_object at declaration cells) f =
        let k : Acting Spot → Acting Spot = (λ u. step.moves_on go plan barrier 0 (effects.declares (pos (length c.shared.objects) ∷ []) u)) in
        if_so (nat_le (suc (length c.shared.objects)) OBJECTS) (alone k n (with_object declaration cells n c)) _
        (quiet_keeps go plan barrier B P closes k n (with_object declaration cells n c) b (record { status = λ u. refl; again = λ u. refl; calls = λ u. refl; objects = λ u. refl }) busy (f.object at declaration cells refl))
        (part_keeps go plan barrier B P closes Storage at n c b h)
    done_keeps limits alternative ends_activation f = control_keeps go plan barrier B P closes n (go.takes 0) _ b (activated_keeps go plan barrier B P closes false n c h)
    done_keeps limits alternative (activates at) f = activates_keeps go plan barrier B P closes at (effects.innermost (own_of n c).opened) n c b h
    done_keeps limits alternative (goes_on part) f = control_keeps go plan barrier B P closes n (go.takes part) c b h
    done_keeps limits alternative (assigns target z) f = quietly (λ u. step.moves_on go plan barrier 0 (step.stored_at go plan barrier target z u)) (λ t. record { status = refl; again = refl; calls = refl; objects = refl })
    done_keeps limits alternative (puts text) f = quietly (λ u. step.moves_on go plan barrier 0 (effects.puts text u)) (λ t. record { status = refl; again = refl; calls = (output_stays text t.shared).0; objects = (output_stays text t.shared).1 })
    done_keeps limits alternative (enters_loop l x y) f = quietly (step.loop_entered go plan barrier l x y) (λ t. loop_alike l x y t)
    done_keeps limits alternative (next_of_loop l) f = quietly (step.loop_continued go plan barrier l) (λ t. next_alike l t)
    done_keeps limits alternative (goes_out loops value) f = quietly (λ u. step.out_of_loops go plan barrier loops (step.with_function_value go plan barrier value u)) (λ t. out_alike loops value t)
    done_keeps limits alternative (raises x at) f = pends_keeps go plan barrier B P closes x at n c b h
    done_keeps limits alternative (raises_again at) f = pends_keeps go plan barrier B P closes _ at n c b h
    done_keeps limits alternative (enters_block at region) f =
        let inner : Acting Spot → Acting Spot = (λ u. step.moves_on go plan barrier 1 (effects.opens for_block region at u.own.display [] 0 u)) in
        quietly (λ u. step.if_room go plan barrier at u (inner u)) (λ t. room_alike at t (inner t) (record { status = refl; again = refl; calls = refl; objects = refl }))
    done_keeps limits alternative (calls_procedure at unit p into) f = procedure_keeps go plan barrier B P closes at unit p into n c b busy h
    done_keeps limits alternative (calls_operation at object unit p into) f = operation_keeps go plan barrier B P closes at object unit p into n c b busy h
    done_keeps limits alternative (calls_own_entry at) f = raised_keeps go plan barrier B P closes _ at n c b h
    done_keeps limits alternative (calls_entry o call) f = made_keeps alternative o call
    done_keeps limits alternative (delays ms at) f = delays_keep go plan barrier B P closes ms at n c b h
    done_keeps limits alternative (accepts a) f = call_keeps go plan barrier B P closes a n c b h
    done_keeps limits alternative (selects has_else waits at) f = selects_keep go plan barrier B P closes alternative has_else waits at n c b h
    done_keeps limits alternative (aborts named at) f = aborts_keep go plan barrier B P closes named at n c b h
    done_keeps limits alternative (requeues loops r) f = f.again loops r refl
    done_keeps limits alternative (ends loops) f = f.ends loops refl
    done_keeps limits alternative (handles p) f =
        closes.task n _ c b (λ t e. goes t.own _ (λ is. busy t e (sym (loops_status t.own.opened t.own) ∙ is)) (loops_again t.own.opened t.own)) h
    done_keeps limits alternative (is_left_by p) f = f.left p refl

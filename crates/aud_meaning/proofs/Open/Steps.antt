-- Steps and runs: between steps no call is queued on an open task entry.
use Rattle.std.proofs.Common.{◌≡◌, ℕ, zero, suc, ◌+◌, ◌%◌, ℤ, pos, nat_le, List, [], ◌∷◌, ◌++◌, length, filter, replicate, Option, Some, None, Bool, true, false, Result, refl, sym, ap, ◌∙◌, subst, if◌then◌else◌, slice_get, slice_index_or, arith}
use Rattle.std.specs.Prelude.{◌&&◌, not, nat_eq, int_le, is_some}
use Rattle.std.proofs.lemmas.Bool.{false≢true, true≢false}
use Rattle.aud_text.specs.declared.place.Pos.{Pos}
use Rattle.aud_text.specs.declared.raise.Raise.{Raise}
use Rattle.aud_text.specs.declared.raise.Raise.TheVariants.{Program, Storage}
use Rattle.aud_text.specs.declared.limits.Limits.{Limits}
use Rattle.aud_text.specs.declared.limits.TheConstants.{OBJECTS, OUTPUT, ELEMENTS}
use Rattle.aud_typed.specs.Tree.{Plan}
use Rattle.aud_meaning.specs.declared.state.Status.{Status}
use Rattle.aud_meaning.specs.declared.state.Status.TheVariants.{Created, Running, Activating, Accepting, Delaying, Calling, Completed, Terminated}
use Rattle.aud_meaning.specs.declared.state.Owner.{Owner}
use Rattle.aud_meaning.specs.declared.state.Owner.TheVariants as owner
use Rattle.aud_meaning.specs.declared.state.OpenAccept.{OpenAccept}
use Rattle.aud_meaning.specs.declared.state.Serving.{Serving}
use Rattle.aud_meaning.specs.declared.state.Restart.{Restart}
use Rattle.aud_meaning.specs.declared.state.Move.{Move}
use Rattle.aud_meaning.specs.Configuration.{Waits, Own, Call, Shared, TaskAt, All, Acting}
use Rattle.aud_meaning.specs.Evaluation.{Sight, nearest_zero}
use Rattle.aud_meaning.specs.Control.{Coming, Asked, raises_here, raises_in_part, declares, declares_array, declares_tasks, declares_object, ends_activation, activates, goes_on, assigns, puts, enters_loop, next_of_loop, goes_out, raises, raises_again, enters_block, calls_procedure, calls_operation, calls_own_entry, calls_entry, delays, accepts, selects, aborts, requeues, ends, handles, is_left_by, Called, Seen, Controls}
use Rattle.aud_meaning.specs.Effects.{has_room, innermost, out_of}
use Rattle.aud_meaning.specs.Effects as effects
use Rattle.aud_meaning.specs.Orders.{Orders, carried_out}
use Rattle.aud_meaning.specs.Parts.{Waiting, acting as acting_task, alone, is_accepting, is_created, own_of, owns, queue, sight_in}
use Rattle.aud_meaning.specs.Tasks as effect
use Rattle.aud_meaning.specs.Step as step
use Rattle.aud_meaning.specs.Step.{call_record, done}
use Rattle.aud_meaning.specs.Run.{Turn, resting, closing, completing, withdrawing, serving, restarting, expiring, cancelling, acting, alternative_or_none, Deferred, at_once, running, usual, under_way, turn_by, turn, turn_at, turn_taken, seen_from, seen, scene_of, step_with, take_by, take_one, run_by, run_with, moves_at, opening_with}
use Rattle.aud_meaning.specs.Statements.{controls}
use Rattle.aud_meaning.specs.Why.Alone.{IsAlone, acts}
use Rattle.aud_meaning.specs.Why.Carried.{carried_by}
use Rattle.aud_meaning.specs.Why.Open.{IsSettled, IsStill, KeepsOpen, NoneMissed, OpenLaw}
use Rattle.aud_meaning.proofs.Alone.{alone_law}
use Rattle.aud_meaning.proofs.Carrying.{carried_law}
use Rattle.aud_meaning.proofs.Limits.Frames.{found_all, numbers_unbegun, Unbegun}
use Rattle.aud_meaning.proofs.Open.Tasks.{Got, Lets, alike, closed_core, got, loops_core, out_core}
use Rattle.aud_meaning.proofs.Open.Kept.{AllIn, Holds, aborts_keeps, activates_keeps, activation_ended_keeps, alone_keeps, call_expires_keeps, calls_object_keeps, calls_operation_keeps, calls_task_keeps, closes_keeps, completes_keeps, declares_tasks_keeps, delay_expires_keeps, delays_for_keeps, either, leaves_keeps, none_missed, on_control_keeps, on_own_keeps, raised_at_keeps, raises_in_part_keeps, rendezvous_keeps, serves_keeps, starts_again_keeps, withdraws_keeps}
use Rattle.aud_meaning.proofs.Open.Queues.{AllUnqueued, blocked_unmet, found_open, none_queued, queue_empty}
use Rattle.aud_meaning.proofs.Open.Picked.{AllMoves, Chosen, FitsNext, FitsTurn, all_chosen, at_number, at_or_first, chosen_still}
use Rattle.aud_meaning.proofs.Open.Offered.{Offered, Offers, program_offers}

-- the task that takes the step
abbrev Mine : ℕ → ℕ → Type 0
Mine n m = m ≡ n

abbrev Nobody : ℕ → Type 0
Nobody n = ⊥

created_rests : (status : Status) → is_created status ≡ true → is_accepting status ≡ false
created_rests Created h = refl
created_rests Running h = refl
created_rests Activating h = refl
created_rests Accepting h = absurd (false≢true h)
created_rests Delaying h = refl
created_rests Calling h = refl
created_rests Completed h = refl
created_rests Terminated h = refl

either_missed : {C : Type 0} (b : Bool) (x y : All C) → NoneMissed C x → NoneMissed C y → NoneMissed C (if b then x else y)
either_missed true x y h i = h
either_missed false x y h i = i

module _ {C : Type 0} (limits : Limits) (go : Orders C) (plan : Plan) (barrier : ℕ → Sight → Result Bool Raise) where
  -- What a task does alone.

  either_acting : (own : Own) (b : Bool) (x y : Acting C) → Lets own x.own → Lets own y.own → Lets own (if b then x else y).own
  either_acting own true x y h i = h
  either_acting own false x y h i = i

  acts_lets : (a : Asked) (t : Acting C) → Lets t.own (acts go plan barrier a t).own
  acts_lets (raises_here raise at) t = alike refl
  acts_lets (declares up_to z) t = alike refl
  acts_lets (declares_array at s n) t = alike refl
  acts_lets (goes_on part) t = alike refl
  acts_lets (assigns target z) t = alike refl
  acts_lets (puts text) t = alike refl
  acts_lets (enters_loop f a b) t = either_acting t.own (int_le a b) _ _ (either_acting t.own (has_room t.own) _ _ (alike refl) (alike refl)) (alike refl)
  acts_lets (next_of_loop f) t =
      either_acting t.own (step.has_next f.backward (step.loop_cell go plan barrier 0 t) (step.loop_cell go plan barrier 1 t)) _ _ (alike refl) (alike (closed_core t.own))
  acts_lets (goes_out loops None) t = alike (out_core loops t.own)
  acts_lets (goes_out loops (Some z)) t = alike (out_core loops (record t.own { opened = effects.sets_value z t.own.opened }))
  acts_lets (raises x at) t = alike refl
  acts_lets (raises_again at) t = alike refl
  acts_lets (enters_block at region) t = either_acting t.own (has_room t.own) _ _ (alike refl) (alike refl)
  acts_lets (calls_procedure at unit p into) t = either_acting t.own (has_room t.own) _ _ (alike refl) (alike refl)
  acts_lets (calls_own_entry at) t = alike refl
  acts_lets (requeues loops r) t = alike (out_core loops (record t.own { again = Some r }))
  acts_lets (handles p) t = alike (loops_core t.own)
  acts_lets a t = alike refl

  either_calls : {A : Type 0} (of : A → List Call) (calls : List Call) (b : Bool) (x y : A) → of x ≡ calls → of y ≡ calls → of (if b then x else y) ≡ calls
  either_calls of calls true x y h i = h
  either_calls of calls false x y h i = i

  abbrev calls_of : Acting C → List Call
  calls_of t = t.shared.calls

  acts_calls : (a : Asked) (t : Acting C) → (acts go plan barrier a t).shared.calls ≡ t.shared.calls
  acts_calls (puts text) t = either_calls (λ (s : Shared). s.calls) t.shared.calls (nat_le (length (t.shared.output ++ text)) OUTPUT) _ _ refl refl
  acts_calls (enters_loop f a b) t = either_calls calls_of t.shared.calls (int_le a b) _ _ (either_calls calls_of t.shared.calls (has_room t.own) _ _ refl refl) refl
  acts_calls (next_of_loop f) t =
      either_calls calls_of t.shared.calls (step.has_next f.backward (step.loop_cell go plan barrier 0 t) (step.loop_cell go plan barrier 1 t)) _ _ refl refl
  acts_calls (goes_out loops None) t = refl
  acts_calls (goes_out loops (Some z)) t = refl
  acts_calls (enters_block at region) t = either_calls calls_of t.shared.calls (has_room t.own) _ _ refl refl
  acts_calls (calls_procedure at unit p into) t = either_calls calls_of t.shared.calls (has_room t.own) _ _ refl refl
  acts_calls a t = refl

  module _ (n : ℕ) where
    abbrev Here : All C → Type 0
    Here c = Holds C (Mine n) c

    abbrev Free : All C → Type 0
    Free c = is_some (own_of n c).serving ≡ false

    alone_done : (alternative : Option ℕ) (a : Asked) → IsAlone a → (c : All C) → Here c → NoneMissed C (done go plan barrier limits alternative a n c)
    alone_done alternative a is c w =
        subst (NoneMissed C) (sym (alone_law go plan barrier limits alternative a is n c))
        (none_missed (alone_keeps (Mine n) (acts go plan barrier a) n c (λ t. acts_lets a (acting_task t c.shared)) (λ t. acts_calls a (acting_task t c.shared)) w))

    abbrev with_object : ℕ → List ℤ → All C → All C
    with_object declaration cells c =
        record c {
          shared = record c.shared {
            frames = c.shared.frames ++ cells ∷ [];
            objects = c.shared.objects ++ record { declaration = declaration; display = (own_of n c).display ++ length c.shared.frames ∷ []; actions = [] } ∷ [];
          };
        }

    numbered_keeps : (cells : List ℤ) (c : All C) → Here c → Here (alone (λ t. step.moves_on go plan barrier 0 (effects.declares cells t)) n c)
    numbered_keeps cells c w = alone_keeps (Mine n) (λ t. step.moves_on go plan barrier 0 (effects.declares cells t)) n c (λ t. alike refl) (λ t. refl) w

    object_declared_keeps : (at : Pos) (declaration : ℕ) (cells : List ℤ) (c : All C) → Here c → Here (step.object_declared go plan barrier at declaration cells n c)
    object_declared_keeps at declaration cells c w =
        either (Mine n) (nat_le (suc (length c.shared.objects)) OBJECTS) _ _
        (numbered_keeps (pos (length c.shared.objects) ∷ []) (with_object declaration cells c) (record { settled = w.settled; unmet = w.unmet; still = w.still }))
        (raises_in_part_keeps (Mine n) go plan barrier Storage at n c w)

    call_made_keeps : (alternative : Option ℕ) (o : Owner) (call : Called) (c : All C) → Here c → Here (step.call_made go plan barrier alternative o call n c)
    call_made_keeps alternative (owner.Task task) call c w = calls_task_keeps (Mine n) go plan barrier alternative (call_record n (owner.Task task) call) task c refl refl w
    call_made_keeps alternative (owner.Object object) call c w = calls_object_keeps (Mine n) go plan barrier (call_record n (owner.Object object) call) object c refl refl refl w

    -- Tasks that are activated.

    abbrev IsNew : All C → ℕ → Type 0
    IsNew c m = is_created (own_of m c).status ≡ true

    all_new : (c : All C) (ns : List ℕ) → Unbegun (λ m. own_of m c) ns → AllIn (IsNew c) go plan barrier ns
    all_new c [] h = tt
    all_new c (m ∷ ms) h = (h.0, all_new c ms h.1)

    activates_done : (at : Pos) (c : All C) → NoneMissed C c → NoneMissed C (effect.activates go plan barrier at n (effect.not_activated go plan barrier (innermost (own_of n c).opened) c) c)
    activates_done at c w =
        let part : ℕ = innermost (own_of n c).opened in
        let ns : List ℕ = effect.not_activated go plan barrier part c in
        none_missed
        (activates_keeps (IsNew c) go plan barrier at n ns c (all_new c ns (numbers_unbegun (λ (t : TaskAt C). nat_eq t.own.part part) 0 c.tasks (λ m. own_of m c) (found_all c.tasks)))
        (record { settled = w.settled; unmet = w.unmet; still = λ m h. (w.settled m).0 (created_rests (own_of m c).status h) }))

    -- Accepts.

    oldest_done : (a : OpenAccept) (ws : List Waiting) (c : All C) → queue n a.entry c.shared.calls ≡ ws → Free c → Here c → NoneMissed C (effect.accepts_oldest go plan barrier a ws n c)
    oldest_done a [] c none free w = blocked_unmet (record { accepts = a ∷ []; delays = []; terminate = false }) a.at n c free (none, tt) (none_missed w)
    oldest_done a (x ∷ xs) c some free w = none_missed (rendezvous_keeps (Mine n) go plan barrier a x.call n c w)

    accepts_done : (a : OpenAccept) (c : All C) → Free c → Here c → NoneMissed C (effect.accepts_call go plan barrier a n c)
    accepts_done a c free w = oldest_done a (queue n a.entry c.shared.calls) c refl free w

    first_done : (ones : List OpenAccept) (c : All C) → Free c → Here c → NoneMissed C (effect.selected_first go plan barrier ones n c)
    first_done [] c free w = none_missed w
    first_done (a ∷ ones) c free w = accepts_done a c free w

    selects_done : (alternative : Option ℕ) (has_else : Bool) (waits : Waits) (at : Pos) (c : All C) → Free c → (alternative ≡ None → AllUnqueued n c.shared.calls waits.accepts) → Here c → NoneMissed C (effect.selects go plan barrier alternative has_else waits at n c)
    selects_done None true waits at c free none w = none_missed (on_control_keeps (Mine n) n (go.takes 0) c w)
    selects_done None false waits at c free none w =
        either_missed (nat_eq (length waits.accepts + length waits.delays) 0 && not waits.terminate) _ _ (none_missed (raised_at_keeps (Mine n) Program at n c w))
        (blocked_unmet waits at n c free (none refl) (none_missed w))
    selects_done (Some a) has_else waits at c free none w = first_done (filter (λ (o : OpenAccept). nat_eq o.alternative a) waits.accepts) c free w

    -- what is asked of a selective accept
    abbrev IsMet : Asked → Option ℕ → List Call → Type 0
    IsMet (selects has_else w at) alternative calls = alternative ≡ None → AllUnqueued n calls w.accepts
    IsMet a alternative calls = Unit {0}

    met : (a : Asked) (x next : Coming) (m : Move) (calls : List Call) → x ≡ next → Offered a next → FitsNext x n calls m → IsMet a m.alternative calls
    met (selects has_else w at) x next m calls e o h = subst (λ y. FitsNext y n calls m) (e ∙ o.0) h o.1
    met a x next m calls e o h = tt

    done_keeps : (alternative : Option ℕ) (a : Asked) (c : All C) → Free c → IsMet a alternative c.shared.calls → Here c → NoneMissed C (done go plan barrier limits alternative a n c)
    done_keeps alternative (raises_here raise at) c free is w = none_missed (raised_at_keeps (Mine n) raise at n c w)
    done_keeps alternative (raises_in_part raise at) c free is w = none_missed (raises_in_part_keeps (Mine n) go plan barrier raise at n c w)
    done_keeps alternative (declares up_to z) c free is w = alone_done alternative (declares up_to z) tt c w
    done_keeps alternative (declares_array at t size) c free is w =
        none_missed
        (either (Mine n) (nat_le size ELEMENTS) _ _ (numbered_keeps (replicate size (nearest_zero t)) c w) (raises_in_part_keeps (Mine n) go plan barrier Storage at n c w))
    done_keeps alternative (declares_tasks at ts) c free is w = none_missed (declares_tasks_keeps (Mine n) go plan barrier limits at ts n c w)
    done_keeps alternative (declares_object at declaration cells) c free is w = none_missed (object_declared_keeps at declaration cells c w)
    done_keeps alternative ends_activation c free is w =
        none_missed (on_control_keeps (Mine n) n (go.takes 0) (effect.activation_ended go plan barrier false n c) (activation_ended_keeps (Mine n) go plan barrier false n c w))
    done_keeps alternative (activates at) c free is w = activates_done at c (none_missed w)
    done_keeps alternative (goes_on part) c free is w = none_missed (on_control_keeps (Mine n) n (go.takes part) c w)
    done_keeps alternative (assigns target z) c free is w = alone_done alternative (assigns target z) tt c w
    done_keeps alternative (puts text) c free is w = alone_done alternative (puts text) tt c w
    done_keeps alternative (enters_loop f a b) c free is w = alone_done alternative (enters_loop f a b) tt c w
    done_keeps alternative (next_of_loop f) c free is w = alone_done alternative (next_of_loop f) tt c w
    done_keeps alternative (goes_out loops value) c free is w = alone_done alternative (goes_out loops value) tt c w
    done_keeps alternative (raises x at) c free is w = alone_done alternative (raises x at) tt c w
    done_keeps alternative (raises_again at) c free is w = alone_done alternative (raises_again at) tt c w
    done_keeps alternative (enters_block at region) c free is w = alone_done alternative (enters_block at region) tt c w
    done_keeps alternative (calls_procedure at unit p into) c free is w = alone_done alternative (calls_procedure at unit p into) tt c w
    done_keeps alternative (calls_operation at object unit p into) c free is w = none_missed (calls_operation_keeps (Mine n) go plan barrier at object unit p into n c w)
    done_keeps alternative (calls_own_entry at) c free is w = none_missed (raised_at_keeps (Mine n) Program at n c w)
    done_keeps alternative (calls_entry o call) c free is w = none_missed (call_made_keeps alternative o call c w)
    done_keeps alternative (delays ms at) c free is w = none_missed (delays_for_keeps (Mine n) go plan barrier ms at n c w)
    done_keeps alternative (accepts a) c free is w = accepts_done a c free w
    done_keeps alternative (selects has_else waits at) c free is w = selects_done alternative has_else waits at c free is w
    done_keeps alternative (aborts ns at) c free is w = none_missed (aborts_keeps (Mine n) go plan barrier ns at n c w)
    done_keeps alternative (requeues loops r) c free is w = alone_done alternative (requeues loops r) tt c w
    done_keeps alternative (ends loops) c free is w =
        none_missed
        (on_own_keeps (Mine n) n (out_of loops) (step.leaves go plan barrier alternative None go.behind n c) (λ own. alike (out_core loops own)) (leaves_keeps (Mine n) go plan barrier alternative None go.behind n c refl w))
    done_keeps alternative (handles p) c free is w = alone_done alternative (handles p) tt c w
    done_keeps alternative (is_left_by p) c free is w = none_missed (leaves_keeps (Mine n) go plan barrier alternative (Some p) (go.left p.exception) n c refl w)

  -- Turns, each with what it tells of the task.

  abbrev Tells : Own → Coming → Turn → Type 0
  Tells own next resting = Unit {0}
  Tells own next closing = Unit {0}
  Tells own next completing = Unit {0}
  Tells own next (withdrawing object) = own.abnormal ≡ true
  Tells own next (serving s) = is_some own.serving ≡ true
  Tells own next (restarting r) = is_accepting own.status ≡ false
  Tells own next (expiring ds) = Unit {0}
  Tells own next (cancelling id) = is_accepting own.status ≡ false
  Tells own next (acting x) = (is_accepting own.status ≡ false) × (is_some own.serving ≡ false) × (x ≡ next)

  module _ (n : ℕ) (x : TaskAt Seen) (s : All Seen) where
    abbrev Told : Turn → Type 0
    Told u = Tells x.own x.control.coming u

    running_told : (r : Option Restart) → x.own.serving ≡ None → x.own.status ≡ Running → Told (running plan barrier r x.control.coming)
    running_told None e h = (ap is_accepting h, ap is_some e, refl)
    running_told (Some r) e h = ap is_accepting h

    usual_told : (v : Option Serving) (status : Status) → x.own.serving ≡ v → x.own.status ≡ status → Told (usual plan barrier v status n x s)
    usual_told (Some v) status e h = ap is_some e
    usual_told None Created e h = tt
    usual_told None Running e h = running_told x.own.restart e h
    usual_told None Activating e h = tt
    usual_told None Accepting e h = tt
    usual_told None Delaying e h = tt
    usual_told None Calling e h = ap is_accepting h
    usual_told None Completed e h = tt
    usual_told None Terminated e h = tt

    once_told : (object : Option ℕ) → x.own.abnormal ≡ true → Told (at_once plan barrier object)
    once_told None h = tt
    once_told (Some object) h = h

    -- of an abnormal task: whether its abort is deferred
    abbrev way : Bool → Turn
    way true = usual plan barrier x.own.serving x.own.status n x s
    way false = at_once plan barrier x.own.withdraw

    way_told : (b : Bool) → x.own.abnormal ≡ true → Told (way b)
    way_told true h = usual_told x.own.serving x.own.status refl refl
    way_told false h = once_told x.own.withdraw h

    under_way_told : (b : Bool) → x.own.abnormal ≡ b → Told (under_way plan barrier b n x s)
    under_way_told false h = usual_told x.own.serving x.own.status refl refl
    under_way_told true h = way_told (Deferred plan barrier n x s) h

    turn_by_told : (status : Status) → Told (turn_by plan barrier status n x s)
    turn_by_told Created = tt
    turn_by_told Running = under_way_told x.own.abnormal refl
    turn_by_told Activating = under_way_told x.own.abnormal refl
    turn_by_told Accepting = under_way_told x.own.abnormal refl
    turn_by_told Delaying = under_way_told x.own.abnormal refl
    turn_by_told Calling = under_way_told x.own.abnormal refl
    turn_by_told Completed = tt
    turn_by_told Terminated = tt

  module _ (m : Move) (c : All C) (w : NoneMissed C c) where
    abbrev n : ℕ
    n = m.task

    all_hold : Holds C Nobody c
    all_hold = record { settled = w.settled; unmet = w.unmet; still = λ i h. absurd h }

    one_still : IsStill (own_of n c) → Holds C (Mine n) c
    one_still still = record { settled = w.settled; unmet = w.unmet; still = λ i h. subst (λ j. IsStill (own_of j c)) (sym h) still }

    taken_keeps : (u : Turn) (next : Coming) (a : Asked) → Tells (own_of n c) next u → Offered a next → FitsTurn u n c.shared.calls m → NoneMissed C (turn_taken go plan barrier limits u a m c)
    taken_keeps resting next a told offered fits = w
    taken_keeps closing next a told offered fits = none_missed (closes_keeps Nobody go plan barrier n c all_hold)
    taken_keeps completing next a told offered fits = none_missed (completes_keeps Nobody go plan barrier None n c all_hold)
    taken_keeps (withdrawing object) next a told offered fits = none_missed (withdraws_keeps (Mine n) go plan barrier object n c refl (one_still (λ e. absurd (true≢false (sym told ∙ e)))))
    taken_keeps (serving v) next a told offered fits = none_missed (serves_keeps (Mine n) go plan barrier m.alternative v n c refl (one_still ((w.settled n).1 told)))
    taken_keeps (restarting r) next a told offered fits = none_missed (starts_again_keeps (Mine n) go plan barrier r n c refl (one_still ((w.settled n).0 told)))
    taken_keeps (expiring ds) next a told offered fits = none_missed (delay_expires_keeps Nobody go plan barrier (alternative_or_none m.alternative) n c all_hold)
    taken_keeps (cancelling id) next a told offered fits = none_missed (call_expires_keeps (Mine n) go plan barrier n c refl (one_still ((w.settled n).0 told)))
    taken_keeps (acting x) next a told offered fits =
        done_keeps n m.alternative a c told.1 (met n a x next m c.shared.calls told.2 offered fits) (one_still ((w.settled n).0 told.0))

-- Steps and runs.

module _ {C : Type 0} (plan : Plan) (k : Controls C) (limits : Limits) (offers : Offers k) where
  abbrev SeenAs : ℕ → List Own → Shared → Option (TaskAt C) → Option (TaskAt Seen) → Type 0
  SeenAs n os shared None x = Unit {0}
  SeenAs n os shared (Some t) None = ⊥
  SeenAs n os shared (Some t) (Some x) = (x.own ≡ t.own) × (x.control.coming ≡ k.coming t.own.pending (sight_in n os shared) t.control)

  seen_as : (n i : ℕ) (ts : List (TaskAt C)) (os : List Own) (shared : Shared) → SeenAs (i + n) os shared (slice_get ts n) (slice_get (seen_from plan k i ts os shared) n)
  seen_as n i [] os shared = tt
  seen_as zero i (t ∷ ts) os shared = let e : i ≡ i + zero = omega arith in (refl, ap (λ j. k.coming t.own.pending (sight_in j os shared) t.control) e)
  seen_as (suc n) i (t ∷ ts) os shared =
      let e : suc i + n ≡ i + suc n = omega arith in
      subst (λ j. SeenAs j os shared (slice_get ts n) (slice_get (seen_from plan k (suc i) ts os shared) n)) e (seen_as n (suc i) ts os shared)

  -- an enabled move
  abbrev IsChosen : All C → Move → Type 0
  IsChosen c m = Chosen plan k.barrier (seen plan k c) m

  carried_keeps : (m : Move) (c : All C) (o : Option (TaskAt C)) → SeenAs m.task (owns c.tasks) c.shared o (slice_get (seen plan k c).tasks m.task) → Got o (own_of m.task c) → IsChosen c m → NoneMissed C c → NoneMissed C (carried_by plan k limits o m c)
  carried_keeps m c None same is h w = w
  carried_keeps m c (Some t) same is h w = by (slice_get (seen plan k c).tasks m.task) same h
    where
      next : All C
      next = record c { steps = suc c.steps }

      asked : Asked
      asked = k.asks t.own.pending (scene_of plan k m.task c) t.control

      by : (x : Option (TaskAt Seen)) → SeenAs m.task (owns c.tasks) c.shared (Some t) x → FitsTurn (turn_at plan k.barrier x m.task (seen plan k c)) m.task c.shared.calls m → NoneMissed C (turn_taken (carried_out k) plan k.barrier limits (turn_at plan k.barrier x m.task (seen plan k c)) asked m next)
      by None s f = absurd s
      by (Some x) s f =
          let u : Turn = turn plan k.barrier m.task x (seen plan k c) in
          let told : Tells limits (carried_out k) plan k.barrier (own_of m.task c) x.control.coming u =
          subst (λ (o : Own). Tells limits (carried_out k) plan k.barrier o x.control.coming u) (s.0 ∙ is) (turn_by_told limits (carried_out k) plan k.barrier m.task x (seen plan k c) x.own.status) in
          taken_keeps limits (carried_out k) plan k.barrier m next (record { settled = w.settled; unmet = w.unmet }) u x.control.coming asked told
          (subst (λ y. Offered asked y) (sym s.1) (offers t.own.pending (scene_of plan k m.task c) t.control)) f

  step_keeps : (c : All C) (m : Move) → IsChosen c m → NoneMissed C c → NoneMissed C (step_with plan k limits c m)
  step_keeps c m h w =
      let e : 0 + m.task ≡ m.task = omega arith in
      subst (λ d. NoneMissed C d) (sym (carried_law plan k limits c m))
      (carried_keeps m c (slice_get c.tasks m.task)
      (subst (λ j. SeenAs j (owns c.tasks) c.shared (slice_get c.tasks m.task) (slice_get (seen plan k c).tasks m.task)) e (seen_as m.task 0 c.tasks (owns c.tasks) c.shared)) (got m.task c.tasks) h w)

  by_keeps : (first : Move) (ms : List Move) (choices : List ℕ) (c : All C) → IsChosen c first → AllMoves (IsChosen c) ms → NoneMissed C c → NoneMissed C (take_by plan k limits first ms choices c)
  by_keeps first ms [] c h all w = step_keeps c first h w
  by_keeps first ms (choice ∷ choices) c h all w =
      let m : Move = slice_index_or ms (choice % length ms) first in
      step_keeps (record c { choices = choices }) m
      (chosen_still plan k.barrier (seen plan k c) choices m (at_or_first (IsChosen c) ms (choice % length ms) first h all))
      (record { settled = w.settled; unmet = w.unmet })

  one_keeps : (m : Move) (ms : List Move) (c : All C) → AllMoves (IsChosen c) (m ∷ ms) → NoneMissed C c → NoneMissed C (take_one plan k limits m ms c)
  one_keeps m [] c all w = step_keeps c m all.0 w
  one_keeps m (x ∷ ms) c all w = by_keeps m (m ∷ x ∷ ms) c.choices c all.0 all w

  run_keeps : (n : ℕ) (c : All C) → NoneMissed C c → NoneMissed C (run_with plan k limits n c)
  run_keeps zero c w = w
  run_keeps (suc n) c w = by (run_keeps n) (moves_at plan k c) (all_chosen plan k.barrier (seen plan k c))
    where
      by : ((d : All C) → NoneMissed C d → NoneMissed C (run_with plan k limits n d)) → (ms : List Move) → AllMoves (IsChosen c) ms → NoneMissed C (run_by plan k limits (run_with plan k limits n) ms c)
      by on [] all = w
      by on (m ∷ ms) all = on (take_one plan k limits m ms c) (one_keeps m ms c all w)

  opening_settled : (name : List ℕ) (left : C) (n : ℕ) → IsSettled (own_of n (opening_with plan name left))
  opening_settled name left zero = (λ _. λ _. refl, λ _. λ _. refl)
  opening_settled name left (suc n) = (λ _. λ _. refl, λ _. λ _. refl)

  pub open_kept : KeepsOpen C plan k limits
  open_kept = record {
    opening = λ name left. record { settled = opening_settled name left; unmet = λ n id queued. absurd (false≢true queued) };
    step = λ c number m e w. step_keeps c m (at_number (IsChosen c) (moves_at plan k c) number m e (all_chosen plan k.barrier (seen plan k c))) w;
    run = run_keeps;
    supply = λ choices c w. record { settled = w.settled; unmet = w.unmet };
    wait = λ milliseconds c w. record { settled = w.settled; unmet = w.unmet };
    none = λ c w n entry is_open. none_queued c w n entry is_open;
    empty = λ c w n entry is_open. queue_empty c w n entry is_open;
    found = found_open;
  }

pub open_law : OpenLaw
open_law limits program = open_kept program.plan (controls program) limits (program_offers program)

-- What a task asks meets what code alone doesn't say, where there are no protected objects.
use Rattle.std.proofs.Common.{◌≡◌, ℕ, ℤ, List, [], ◌∷◌, drop, length, Option, Some, None, Bool, true, false, refl, sym, ap, ◌∙◌, subst, inl, inr, slice_get, slice_index_or}
use Rattle.std.specs.Prelude.{◌⊎◌, ◌&&◌, is_some, nat_eq, not}
use Rattle.std.proofs.lemmas.Bool.{false≢true}
use Rattle.aud_text.specs.declared.place.Pos.{Pos}
use Rattle.aud_typed.specs.Tree.{ObjectPlan, Plan}
use Rattle.aud_meaning.specs.declared.state.Action.{Action}
use Rattle.aud_meaning.specs.declared.state.Again.{Again}
use Rattle.aud_meaning.specs.declared.state.OpenAccept.{OpenAccept}
use Rattle.aud_meaning.specs.declared.state.Owner.TheVariants as owner
use Rattle.aud_meaning.specs.declared.state.Pending.{Pending}
use Rattle.aud_meaning.specs.declared.state.Status.TheVariants.{Running}
use Rattle.aud_meaning.specs.Configuration.{Purpose, for_body, for_block, for_loop, for_procedure, for_operation, for_entry, for_accept, Object, Opened, Own, TaskAt, All}
use Rattle.aud_meaning.specs.Control.{Asked, Scene, declares_object, calls_operation, calls_entry, accepts, selects, requeues}
use Rattle.aud_meaning.specs.Parts.{acts_on, any, contains, is_over, no_object}
use Rattle.aud_meaning.specs.Run.{scene_of}
use Rattle.aud_meaning.specs.Statements.{handled_or_left}
use Rattle.aud_code.specs.Places.{Spot, is_there, loops_of}
use Rattle.aud_code.specs.Eval.{eval}
use Rattle.aud_code.specs.Instruction.{no_operands}
use Rattle.aud_code.specs.Flat.{EndLine, Flat, FlatLine, Last, instructs, end, asked_at, asked_last, end_at, end_from, flat_controls, handler_at, instructions_at, no_end}
use Rattle.aud_code.specs.Frames.{found, found_from, Found, OpensAccept, OpensBlock, OpensLoop}
use Rattle.aud_code.specs.Seen.{IsSeen}
use Rattle.aud_code.specs.Sound.{Counts, IsSound, IsStart}
use Rattle.aud_framed.specs.Held.{Holds, IsOpenAt, OpenedBy, objects_in}
use Rattle.aud_framed.specs.Waiting.{AllOfTasks, is_of_object}
use Rattle.aud_framed.specs.Calls.{EntryFits, RequeueFits, ServesIn}
use Rattle.aud_framed.specs.Framed.{AskedMeets, IsLeaving, MeetsBy}
use Rattle.aud_framed.specs.OfTasks.{IsInAccept, IsOfTasks, LastOfTasks, LeavesAccept, at_end, directly, further, of_block}
use Rattle.aud_framed.specs.Stepping.{AskedBy, IsKept}
use Rattle.aud_framed.proofs.Steps.{here}
use Rattle.aud_framed.proofs.Running.Requeued.{RequeuesBy, requeued}
use Rattle.aud_framed.proofs.Running.Staying.{NoObjects}
use Rattle.aud_framed.proofs.Stepping.Asked.{asks, end_is, line_of}
use Rattle.aud_framed.proofs.Stepping.Lone.{at_step}
use Rattle.aud_framed.proofs.Stepping.Parts.{own_got}

-- Entries are of tasks.

no_entry : (plan : Plan) → plan.objects ≡ [] → (entry : ℕ) → is_of_object plan entry ≡ false
no_entry plan none entry = ap (λ os. any (λ (o : ObjectPlan). contains entry o.entries) os) none

all_of_tasks : (plan : Plan) → plan.objects ≡ [] → (ones : List OpenAccept) → AllOfTasks plan ones
all_of_tasks plan none [] = tt
all_of_tasks plan none (a ∷ more) = (no_entry plan none a.entry, all_of_tasks plan none more)

-- Nobody is in an object's body.

acts_nowhere : (n i : ℕ) (os : List Object) → os ≡ [] → acts_on n (slice_index_or os i no_object) ≡ true → ⊥
acts_nowhere n i os none h = false≢true (subst (λ xs. acts_on n (slice_index_or xs i no_object) ≡ true) none h)

pub changes_nowhere : (n i : ℕ) (os : List Object) → os ≡ [] → any (λ (a : Action). nat_eq a.task n && not a.reading) (slice_index_or os i no_object).actions ≡ true → ⊥
changes_nowhere n i os none h = false≢true (subst (λ xs. any (λ (a : Action). nat_eq a.task n && not a.reading) (slice_index_or xs i no_object).actions ≡ true) none h)

pub no_objects_in : (plan : Plan) (c : All Spot) (n : ℕ) (os : List Opened) → NoObjects c → ServesIn plan c n os → objects_in os ≡ []
no_objects_in plan c n [] none s = refl
no_objects_in plan c n (o ∷ os) none s = by o.purpose s (no_objects_in plan c n os none)
  where
    by : (p : Purpose) → ServesIn plan c n (record o { purpose = p } ∷ os) → (ServesIn plan c n os → objects_in os ≡ []) → objects_in (record o { purpose = p } ∷ os) ≡ []
    by for_body s on = on s.1
    by for_block s on = on s.1
    by for_loop s on = on s.1
    by (for_procedure r) s on = on s.1
    by (for_operation object r) s on = absurd (acts_nowhere n object c.shared.objects none s.0.0)
    by (for_entry object id served back) s on = absurd (changes_nowhere n object c.shared.objects none s.0.1.0)
    by (for_accept id) s on = on s.1

-- Within what an accept does, the call can be made again that it serves.

pub opened_accept : (last : Last) (p : Purpose) → OpensAccept last → OpenedBy last p → (id : ℕ) × (p ≡ for_accept id)
opened_accept last for_body a h = absurd h
opened_accept last for_block a h = absurd (subst OpensAccept h.1 a)
opened_accept last for_loop a h = absurd (subst OpensAccept h.1 a)
opened_accept last (for_procedure r) a h = absurd h
opened_accept last (for_operation n r) a h = absurd h
opened_accept last (for_entry n id served back) a h = absurd h
opened_accept last (for_accept id) a h = (id, refl)

opened_inner : (last : Last) (p : Purpose) → OpensBlock last ⊎ OpensLoop last → OpenedBy last p → (p ≡ for_block) ⊎ (p ≡ for_loop)
opened_inner last for_body b h = absurd h
opened_inner last for_block b h = inl refl
opened_inner last for_loop b h = inr refl
opened_inner last (for_procedure r) b h = absurd h
opened_inner last (for_operation n r) b h = absurd h
opened_inner last (for_entry n id served back) b h = absurd h
opened_inner last (for_accept id) (inl b) (inl h) = absurd (subst OpensBlock h.2 b)
opened_inner last (for_accept id) (inl b) (inr h) = absurd (subst OpensBlock h.1 b)
opened_inner last (for_accept id) (inr b) (inl h) = absurd (subst OpensLoop h.2 b)
opened_inner last (for_accept id) (inr b) (inr h) = absurd (subst OpensLoop h.1 b)

module _ (plan : Plan) (code : Flat) (seen : List ℕ) (c : All Spot) (r : Again) (fits : EntryFits plan c r.owner r.entry) where
  requeue_fits : (w : Option ℕ) (returns : List ℕ) (os : List Opened) → IsInAccept code.lines w → Holds code.lines seen w returns os → RequeueFits plan c r os
  requeue_fits w returns [] i h = absurd h
  requeue_fits w returns (o ∷ os) (directly place l e a) h =
      let held = subst (λ x. Found x (λ l. OpenedBy l.last o.purpose × (IsOpenAt code.lines seen place (length o.saved) × Holds code.lines seen l.within returns os × IsStart code.lines place))) e h in
      let p = opened_accept l.last o.purpose a held.0 in
      subst (λ q. RequeueFits plan c r (record o { purpose = q } ∷ os)) (sym p.1) fits
  requeue_fits w returns (o ∷ os) (further place l e b i) h =
      let held = subst (λ x. Found x (λ l. OpenedBy l.last o.purpose × (IsOpenAt code.lines seen place (length o.saved) × Holds code.lines seen l.within returns os × IsStart code.lines place))) e h in
      by (opened_inner l.last o.purpose b held.0) (requeue_fits l.within returns os i held.1.1)
    where
      by : (o.purpose ≡ for_block) ⊎ (o.purpose ≡ for_loop) → RequeueFits plan c r os → RequeueFits plan c r (o ∷ os)
      by (inl p) k = subst (λ q. RequeueFits plan c r (record o { purpose = q } ∷ os)) (sym p) k
      by (inr p) k = subst (λ q. RequeueFits plan c r (record o { purpose = q } ∷ os)) (sym p) k

-- The line where a task stands.

no_end_there : (ls : List FlatLine) (n : ℕ) → found_from ls ≡ None → end_from ls n ≡ no_end n
no_end_there [] n e = refl
no_end_there (instructs i ∷ ls) n e = no_end_there ls n e
no_end_there (end l ∷ ls) n e = absurd cc

pub line_fine : (plan : Plan) (code : Flat) → IsOfTasks plan code → (place : ℕ) → LastOfTasks code (end_at code place) (end_at code place).last
line_fine plan code of_tasks place = by (found code.lines place) refl
  where
    by : (x : Option EndLine) → found code.lines place ≡ x → LastOfTasks code (end_at code place) (end_at code place).last
    by None e = subst (λ l. LastOfTasks code l l.last) (sym (no_end_there (drop place code.lines) place e)) tt
    by (Some l) e = let k = line_of place code.lines l e in subst (λ x. LastOfTasks code x x.last) (sym (end_is (drop place code.lines) place l e)) (of_tasks.lines k.0 l k.1)

-- where an accept is left, only leaving steps follow
pub leaves_so : (code : Flat) (place : ℕ) (s : Scene) (control : Spot) → control.place ≡ place → LeavesAccept code place → IsLeaving (asked_at code None s control)
leaves_so code place s control is (at_end p next e) = subst (λ last. IsLeaving (asked_last last (loops_of (end_at code control.place).exit) (end_at code control.place).at s (eval false s (instructions_at code control.place) 0 no_operands))) (sym (ap (λ q. (end_at code q).last) is ∙ e)) tt
leaves_so code place s control is (of_block p loops next e more) = subst (λ last. IsLeaving (asked_last last (loops_of (end_at code control.place).exit) (end_at code control.place).at s (eval false s (instructions_at code control.place) 0 no_operands))) (sym (ap (λ q. (end_at code q).last) is ∙ e)) tt

module _ (plan : Plan) (code : Flat) (table : List Counts) (tasks barriers seen : List ℕ) (sound : IsSound code) (fits : IsSeen code table tasks barriers seen) (of_tasks : IsOfTasks plan code) (n : ℕ) (c : All Spot) (w : IsKept plan code seen c) (none : NoObjects c) (t : TaskAt Spot) (is : slice_get c.tasks n ≡ Some t) (running : t.own.status ≡ Running) where
  abbrev line : EndLine
  line = end_at code t.control.place

  frames : objects_in t.own.opened ≡ []
  frames = no_objects_in plan c n t.own.opened none (subst (λ (o : Own). ServesIn plan c n o.opened) (own_got n c.tasks t is) (w.framed.serves n (ap (λ (o : Own). is_over o.status) (own_got n c.tasks t is) ∙ ap is_over running)).opened)

  asked_meets : t.own.pending ≡ None → (a : Asked) → AskedBy line.last (loops_of line.exit) a → RequeuesBy line.last a → AskedMeets plan t.own c a
  asked_meets e (calls_operation at object unit p into) h k = absurd (subst (LastOfTasks code line) h.1 (line_fine plan code of_tasks t.control.place))
  asked_meets e (calls_entry (owner.Task m) call) h k = no_entry plan of_tasks.objects call.entry
  asked_meets e (calls_entry (owner.Object m) call) h k = absurd (subst (LastOfTasks code line) h.1.1 (line_fine plan code of_tasks t.control.place))
  asked_meets e (declares_object at declaration cells) h k = absurd (subst (LastOfTasks code line) h (line_fine plan code of_tasks t.control.place))
  asked_meets e (accepts a) h k = (frames, (no_entry plan of_tasks.objects a.entry, tt))
  asked_meets e (selects has_else waits at) h k = (frames, all_of_tasks plan of_tasks.objects waits.accepts)
  asked_meets e (requeues loops r) h (inl k) =
      let s = at_step plan code seen n c t w.spots is running e w.framed in
      let fine = subst (LastOfTasks code line) k.2.2.0 (line_fine plan code of_tasks t.control.place) in
      requeue_fits plan code seen c r (subst (λ o. EntryFits plan c o r.entry) (sym k.2.2.1) (no_entry plan of_tasks.objects r.entry)) line.within t.control.returns t.own.opened fine.0
      (here code table tasks barriers seen sound fits t.control.place t.control.returns t.own.display t.own.opened line s).1
  asked_meets e (requeues loops r) h (inr k) = absurd (subst (LastOfTasks code line) k.1.1.2 (line_fine plan code of_tasks t.control.place))
  asked_meets e a h k = tt

  abbrev scene : Scene
  scene = scene_of plan (flat_controls plan code) n c

  raised_meets : (p : Pending) (b : Bool) → AskedMeets plan t.own c (handled_or_left b p)
  raised_meets p true = tt
  raised_meets p false = tt

  meets_so : (pending : Option Pending) → t.own.pending ≡ pending → AskedMeets plan t.own c (asked_at code pending (scene_of plan (flat_controls plan code) n c) t.control)
  meets_so (Some p) e = raised_meets p (is_there (handler_at code p.exception t.control))
  meets_so None e =
      let s = at_step plan code seen n c t w.spots is running e w.framed in
      asked_meets e (asked_at code None (scene_of plan (flat_controls plan code) n c) t.control) (asks code sound (scene_of plan (flat_controls plan code) n c) t.control s.begins) (requeued code (scene_of plan (flat_controls plan code) n c) t.control)

  pub declares_none : (at : Pos) (declaration : ℕ) (cells : List ℤ) → asked_at code t.own.pending (scene_of plan (flat_controls plan code) n c) t.control ≡ declares_object at declaration cells → ⊥
  declares_none at declaration cells = by t.own.pending refl
    where
      raised : (p : Pending) (b : Bool) → handled_or_left b p ≡ declares_object at declaration cells → ⊥
      raised p true q = absurd cc
      raised p false q = absurd cc

      by : (p : Option Pending) → t.own.pending ≡ p → asked_at code p (scene_of plan (flat_controls plan code) n c) t.control ≡ declares_object at declaration cells → ⊥
      by (Some p) e q = raised p (is_there (handler_at code p.exception t.control)) q
      by None e q =
          let s = at_step plan code seen n c t w.spots is running e w.framed in
          let h = subst (AskedBy line.last (loops_of line.exit)) q (asks code sound (scene_of plan (flat_controls plan code) n c) t.control s.begins) in
          subst (LastOfTasks code line) h (line_fine plan code of_tasks t.control.place)

  pub task_meets : ((r : Again) → t.own.again ≡ Some r → (t.own.pending ≡ None) × LeavesAccept code t.control.place) → MeetsBy plan code (Some t) n c
  task_meets leaves = (meets_so t.own.pending refl, by t.own.again refl)
    where
      by : (o : Option Again) → t.own.again ≡ o → is_some o ≡ true → IsLeaving (asked_at code t.own.pending (scene_of plan (flat_controls plan code) n c) t.control)
      by None e h = absurd (false≢true h)
      by (Some r) e h =
          let k = leaves r e in
          subst (λ p. IsLeaving (asked_at code p (scene_of plan (flat_controls plan code) n c) t.control)) (sym k.0) (leaves_so code t.control.place (scene_of plan (flat_controls plan code) n c) t.control refl k.1)

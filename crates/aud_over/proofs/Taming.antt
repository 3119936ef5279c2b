-- Effects that open and leave no frame: what is seen stays as it was.
use Rattle.std.proofs.Common.{◌≡◌, ℕ, zero, suc, ℤ, pos, List, [], ◌∷◌, ◌++◌, length, slice_index_or, Option, Some, None, Bool, true, false, ◌||◌, refl, sym, ap, ◌∙◌, subst}
use Rattle.std.specs.Prelude.{if◌then◌else◌, filter, not, ◌&&◌, nat_eq, slice_set, Result, Ok, Err, is_none}
use Rattle.std.proofs.Math.ListN.{length-set}
use Rattle.aud_text.specs.declared.place.Pos.{Pos}
use Rattle.aud_text.specs.declared.raise.Raise.{Raise}
use Rattle.aud_text.specs.declared.raise.Raise.TheVariants.{Program, Tasking}
use Rattle.aud_typed.specs.declared.program.Exception.{Exception}
use Rattle.aud_typed.specs.declared.program.Exception.TheVariants.{Predefined}
use Rattle.aud_typed.specs.Tree.{Plan}
use Rattle.aud_meaning.specs.Orders.{noted}
use Rattle.aud_meaning.specs.declared.state.Status.TheVariants.{Calling}
use Rattle.aud_meaning.specs.declared.state.CallState.TheVariants.{Done, Cancelled}
use Rattle.aud_meaning.specs.declared.state.Owner.{Owner}
use Rattle.aud_meaning.specs.declared.state.Owner.TheVariants as owner
use Rattle.aud_meaning.specs.declared.state.Pending.{Pending}
use Rattle.aud_meaning.specs.declared.state.Action.{Action}
use Rattle.aud_meaning.specs.Configuration.{Frame, Target, Back, Returning, Own, Call, Object, TaskAt, All}
use Rattle.aud_meaning.specs.Evaluation.{Sight, in_range}
use Rattle.aud_meaning.specs.Control.{Moved, takes_part}
use Rattle.aud_meaning.specs.Effects.{pends, copied_back, back_by, with_result, assigned, CopiedBack}
use Rattle.aud_meaning.specs.Parts.{Outcome, succeeds, fails, any, arrives, begin_action, blocks, call_of, calls_on_object, calls_on_task, cancels, changed, contains, end_action, is_created, is_terminated, no_object, no_waits, nobody, on_call, on_control, on_object, on_own, on_task, own_of, owns, raised_at, runs, stands_at_call, with_frames, new_call}
use Rattle.aud_meaning.specs.Tasks as effect
use Rattle.aud_over.specs.Over.{object_names}
use Rattle.aud_over.specs.Standing.{at, bones, around, StandsBut}
use Rattle.aud_over.proofs.Calls.{true_is_not_false}
use Rattle.aud_over.proofs.Bones.{Tame, tame_same, tame_then, tamed, objects_same}

-- Nothing but this has changed.
pub record IsTame (c d : All Moved) : Type 0 where
  pub tasks : (n : ℕ) → Tame (at (owns c.tasks) n) (at (owns d.tasks) n)
  pub objects : (f : ℕ) → any (object_names f) c.shared.objects ≡ any (object_names f) d.shared.objects
  pub frames : length c.shared.frames ≡ length d.shared.frames

pub is_same : (c : All Moved) → IsTame c c
is_same c = record { tasks = λ n. tame_same (at (owns c.tasks) n); objects = λ f. refl; frames = refl }

pub after : (c d e : All Moved) → IsTame c d → IsTame d e → IsTame c e
after c d e s t = record {
  tasks = λ n. tame_then (at (owns c.tasks) n) (at (owns d.tasks) n) (at (owns e.tasks) n) (s.tasks n) (t.tasks n);
  objects = λ f. s.objects f ∙ t.objects f;
  frames = s.frames ∙ t.frames;
}

any_joined : (test : Object → Bool) (os more : List Object) → any test (os ++ more) ≡ (any test os || any test more)
any_joined test [] more = refl
any_joined test (o ∷ os) more = by (test o) (any_joined test os more)
  where
    by : (b : Bool) → any test (os ++ more) ≡ (any test os || any test more) → (b || any test (os ++ more)) ≡ ((b || any test os) || any test more)
    by true e = refl
    by false e = e

pub around_same : (pins : List ℕ) (objects others : List Object) (f : ℕ) → any (object_names f) objects ≡ any (object_names f) others → any (object_names f) (around pins objects) ≡ any (object_names f) (around pins others)
around_same pins objects others f h =
    let pin : List Object = record no_object { display = pins } ∷ [] in
    any_joined (object_names f) objects pin ∙ ap (λ b. b || any (object_names f) pin) h ∙ sym (any_joined (object_names f) others pin)

-- one object more, before the frames that are kept or behind them
pub around_more : (pins : List ℕ) (objects : List Object) (x : Object) (f : ℕ) → any (object_names f) (around pins objects ++ x ∷ []) ≡ any (object_names f) (around pins (objects ++ x ∷ []))
around_more pins objects x f =
    let pin : List Object = record no_object { display = pins } ∷ [] in
    any_joined (object_names f) (around pins objects) (x ∷ [])
    ∙ ap (λ b. b || any (object_names f) (x ∷ [])) (any_joined (object_names f) objects pin)
    ∙ swapped (any (object_names f) objects) (any (object_names f) pin) (any (object_names f) (x ∷ []))
    ∙ ap (λ b. b || any (object_names f) pin) (sym (any_joined (object_names f) objects (x ∷ [])))
    ∙ sym (any_joined (object_names f) (objects ++ x ∷ []) pin)
  where
    swapped : (a b c : Bool) → ((a || b) || c) ≡ ((a || c) || b)
    swapped true b c = refl
    swapped false true true = refl
    swapped false true false = refl
    swapped false false true = refl
    swapped false false false = refl

pub stands_tamed : (pins : List ℕ) (ends : List ℕ → Bool) (c d : All Moved) → IsTame c d → StandsBut ends (owns c.tasks) (around pins c.shared.objects) (length c.shared.frames) → StandsBut ends (owns d.tasks) (around pins d.shared.objects) (length d.shared.frames)
stands_tamed pins ends c d t s =
    subst (StandsBut ends (owns d.tasks) (around pins d.shared.objects)) t.frames
    (objects_same ends (owns d.tasks) (around pins c.shared.objects) (around pins d.shared.objects) (length c.shared.frames) (λ f. around_same pins c.shared.objects d.shared.objects f (t.objects f))
    (tamed ends (owns c.tasks) (owns d.tasks) (around pins c.shared.objects) (length c.shared.frames) t.tasks s))

pub changed_tame : (ts : List (TaskAt Moved)) (n : ℕ) (f : TaskAt Moved → TaskAt Moved) → ((t : TaskAt Moved) → Tame t.own (f t).own) → (m : ℕ) → Tame (at (owns ts) m) (at (owns (changed n f ts)) m)
changed_tame [] n f h m = tame_same nobody
changed_tame (t ∷ ts) zero f h zero = h t
changed_tame (t ∷ ts) zero f h (suc m) = tame_same (at (owns ts) m)
changed_tame (t ∷ ts) (suc n) f h zero = tame_same t.own
changed_tame (t ∷ ts) (suc n) f h (suc m) = changed_tame ts n f h m

changed_pins : (os : List Object) (n : ℕ) (f : Object → Object) → ((o : Object) → (f o).display ≡ o.display) → (i : ℕ) → any (object_names i) os ≡ any (object_names i) (changed n f os)
changed_pins [] n f h i = refl
changed_pins (o ∷ os) zero f h i = ap (λ ds. contains i ds || any (object_names i) os) (sym (h o))
changed_pins (o ∷ os) (suc n) f h i = ap (λ b. object_names i o || b) (changed_pins os n f h i)

pub on_task_tame : (n : ℕ) (f : TaskAt Moved → TaskAt Moved) (c : All Moved) → ((t : TaskAt Moved) → Tame t.own (f t).own) → IsTame c (on_task n f c)
on_task_tame n f c h = record { tasks = changed_tame c.tasks n f h; objects = λ i. refl; frames = refl }

pub on_own_tame : (n : ℕ) (f : Own → Own) (c : All Moved) → ((o : Own) → Tame o (f o)) → IsTame c (on_own n f c)
on_own_tame n f c h = on_task_tame n (λ t. record t { own = f t.own }) c (λ t. h t.own)

pub on_control_tame : (n : ℕ) (f : Moved → Moved) (c : All Moved) → IsTame c (on_control n f c)
on_control_tame n f c = on_task_tame n (λ t. record t { control = f t.control }) c (λ t. tame_same t.own)

pub on_call_tame : (id : ℕ) (f : Call → Call) (c : All Moved) → IsTame c (on_call id f c)
on_call_tame id f c = record { tasks = λ n. tame_same (at (owns c.tasks) n); objects = λ i. refl; frames = refl }

pub new_call_tame : (x : Call) (c : All Moved) → IsTame c (new_call x c)
new_call_tame x c = record { tasks = λ n. tame_same (at (owns c.tasks) n); objects = λ i. refl; frames = refl }

pub on_object_tame : (n : ℕ) (f : Object → Object) (c : All Moved) → ((o : Object) → (f o).display ≡ o.display) → IsTame c (on_object n f c)
on_object_tame n f c h = record { tasks = λ m. tame_same (at (owns c.tasks) m); objects = changed_pins c.shared.objects n f h; frames = refl }

pub frames_tame : (fs : List Frame) (c : All Moved) → length fs ≡ length c.shared.frames → IsTame c (with_frames fs c)
frames_tame fs c h = record { tasks = λ n. tame_same (at (owns c.tasks) n); objects = λ i. refl; frames = sym h }

-- Changes of one task.

-- what keeps its status, or has another one for as long as it is neither created nor terminated
pub keeps : (o x : Own) → x.masters ≡ o.masters → x.display ≡ o.display → bones x.opened ≡ bones o.opened → x.status ≡ o.status → Tame o x
keeps o x a b c d = record { masters = a; display = b; opened = c; ended = λ h. subst (λ s. is_terminated s ≡ true) d h; created = λ h. subst (λ s. is_created s ≡ true) d h }

pub goes_on : (o x : Own) → x.masters ≡ o.masters → x.display ≡ o.display → bones x.opened ≡ bones o.opened → is_terminated x.status ≡ false → is_created x.status ≡ false → Tame o x
goes_on o x a b c d e = record { masters = a; display = b; opened = c; ended = λ h. true_is_not_false (sym h ∙ d); created = λ h. true_is_not_false (sym h ∙ e) }

pub raised_tame : (raise : Raise) (at : Pos) (n : ℕ) (c : All Moved) → IsTame c (raised_at raise at n c)
raised_tame raise at n c = on_own_tame n (pends (Predefined raise) at) c (λ o. keeps o (pends (Predefined raise) at o) refl refl refl refl)

pub pends_tame : (x : Exception) (at : Pos) (n : ℕ) (c : All Moved) → IsTame c (on_own n (pends x at) c)
pends_tame x at n c = on_own_tame n (pends x at) c (λ o. keeps o (pends x at o) refl refl refl refl)

pub cancels_tame : (id : ℕ) (c : All Moved) → IsTame c (cancels id c)
cancels_tame id c = on_call_tame id (λ a. record a { state = Cancelled }) c

pub arrives_tame : (id : ℕ) (c : All Moved) → IsTame c (arrives id c)
arrives_tame id c = record { tasks = λ n. tame_same (at (owns c.tasks) n); objects = λ i. refl; frames = refl }

pub at_call_tame : (task id : ℕ) (at : Pos) (c : All Moved) → IsTame c (stands_at_call task id at c)
at_call_tame task id at c = on_own_tame task (λ own. record (blocks Calling at no_waits own) { call = id }) c (λ o. goes_on o (record (blocks Calling at no_waits o) { call = id }) refl refl refl refl refl)

pub begin_tame : (task object : ℕ) (reading : Bool) (c : All Moved) → IsTame c (begin_action task object reading c)
begin_tame task object reading c = on_object_tame object (λ o. record o { actions = o.actions ++ record { task = task; reading = reading } ∷ [] }) c (λ o. refl)

pub end_tame : (task object : ℕ) (c : All Moved) → IsTame c (end_action task object c)
end_tame task object c =
    let d : All Moved = on_object object (λ o. record o { actions = filter (λ (a : Action). not (nat_eq a.task task)) o.actions }) c in
    after c d (end_action task object c) (on_object_tame object (λ o. record o { actions = filter (λ (a : Action). not (nat_eq a.task task)) o.actions }) c (λ o. refl))
    (on_own_tame task (λ own. record own { serving = None }) d (λ o. keeps o (record o { serving = None }) refl refl refl refl))

runs_tame : (o : Own) → Tame o (runs o)
runs_tame o = goes_on o (runs o) refl refl refl refl refl

-- What is copied back keeps the number of frames.

assigned_length : (frame index : ℕ) (z : ℤ) (fs : List Frame) → length (assigned frame index z fs) ≡ length fs
assigned_length frame index z fs = length-set fs frame (slice_set (slice_index_or fs frame []) index z)

back_length : (n : ℕ) (r : Result ℤ Raise) (t : Target) (fs : List Frame) (go : List Frame → CopiedBack) → length fs ≡ n → ((xs : List Frame) → length xs ≡ n → length (go xs).frames ≡ n) → length (back_by r t fs go).frames ≡ n
back_length n (Ok z) t fs go e h = h (assigned t.frame t.index z fs) (assigned_length t.frame t.index z fs ∙ e)
back_length n (Err raise) t fs go e h = e

pub copied_length : (n : ℕ) (values : List ℤ) (backs : List Back) (fs : List Frame) → length fs ≡ n → length (copied_back values backs fs).frames ≡ n
copied_length n values [] fs e = e
copied_length n values (b ∷ bs) fs e = back_length n (in_range b.target.subtype (slice_index_or values b.formal (pos 0))) b.target fs (λ xs. copied_back values bs xs) e (λ xs h. copied_length n values bs xs h)

pub result_length : (n : ℕ) (into : Option Target) (value : Option ℤ) (b : CopiedBack) → length b.frames ≡ n → length (with_result into value b).frames ≡ n
result_length n None value b e = e
result_length n (Some t) None b e = e
result_length n (Some t) (Some z) b e = back_length n (in_range t.subtype z) t b.frames (λ xs. record { frames = xs; raised = None }) e (λ xs h. h)

module _ (plan : Plan) (barrier : ℕ → Sight → Result Bool Raise) where
  done_tame : (id : ℕ) (c : All Moved) → IsTame c (on_call id (λ a. record a { state = Done }) c)
  done_tame id c = on_call_tame id (λ a. record a { state = Done }) c

  caller_tame : (id : ℕ) (call : Call) (c : All Moved) → IsTame c (effect.caller_goes_on noted plan barrier id call c)
  caller_tame id call c =
      let d : All Moved = on_call id (λ a. record a { state = Done }) c in
      after c d (effect.caller_goes_on noted plan barrier id call c) (done_tame id c) (on_task_tame call.caller (λ t. record { control = takes_part 0 t.control; own = runs t.own }) d (λ t. runs_tame t.own))

  fails_tame : (id : ℕ) (call : Call) (x : Exception) (c : All Moved) → IsTame c (effect.caller_fails noted plan barrier id call x c)
  fails_tame id call x c =
      let d : All Moved = on_call id (λ a. record a { state = Done }) c in
      after c d (effect.caller_fails noted plan barrier id call x c) (done_tame id c) (on_own_tame call.caller (λ own. pends x call.at (runs own)) d (λ o. goes_on o (pends x call.at (runs o)) refl refl refl refl refl))

  ended_tame : (raise : Option Raise) (id : ℕ) (call : Call) (c : All Moved) → IsTame c (effect.ended_by noted plan barrier raise id call c)
  ended_tame None id call c = caller_tame id call c
  ended_tame (Some raise) id call c = fails_tame id call (Predefined raise) c

  end_by_tame : (outcome : Outcome) (id : ℕ) (call : Call) (c : All Moved) → IsTame c (effect.end_call_by noted plan barrier outcome id call c)
  end_by_tame (fails x) id call c = fails_tame id call x c
  end_by_tame (succeeds values) id call c =
      let b = copied_back values call.backs c.shared.frames in
      let d : All Moved = with_frames b.frames c in
      after c d (effect.ended_by noted plan barrier b.raised id call d) (frames_tame b.frames c (copied_length (length c.shared.frames) values call.backs c.shared.frames refl)) (ended_tame b.raised id call d)

  pub end_call_tame : (outcome : Outcome) (id : ℕ) (c : All Moved) → IsTame c (effect.end_call noted plan barrier outcome id c)
  end_call_tame outcome id c = end_by_tame outcome id (call_of id c) c

  pub refuse_tame : (raise : Raise) (ids : List ℕ) (c : All Moved) → IsTame c (effect.refuse noted plan barrier raise ids c)
  refuse_tame raise [] c = is_same c
  refuse_tame raise (id ∷ ids) c =
      let d : All Moved = effect.end_call noted plan barrier (fails (Predefined raise)) id c in
      after c d (effect.refuse noted plan barrier raise ids d) (end_call_tame (fails (Predefined raise)) id c) (refuse_tame raise ids d)

  pub refuse_queues_tame : (n : ℕ) (c : All Moved) → IsTame c (effect.refuse_queues noted plan barrier n c)
  refuse_queues_tame n c = refuse_tame Tasking (calls_on_task n c.shared.calls) c

  -- Activation that ends.

  going_tame : (b : Bool) (o : Own) → Tame o (if b then pends (Predefined Tasking) o.at (runs o) else runs o)
  going_tame true o = goes_on o (pends (Predefined Tasking) o.at (runs o)) refl refl refl refl refl
  going_tame false o = runs_tame o

  if_tame : (b : Bool) (c x y : All Moved) → IsTame c x → IsTame c y → IsTame c (if b then x else y)
  if_tame true c x y h g = h
  if_tame false c x y h g = g

  looks_tame : (n : ℕ) (c : All Moved) → IsTame c (effect.activator_looks noted plan barrier n c)
  looks_tame n c =
      if_tame (effect.is_activating noted plan barrier (own_of n c).status && not (any (effect.is_awaited_by noted plan barrier n) c.tasks)) c (effect.activator_goes_on noted plan barrier n c) c
      (on_task_tame n (λ t. record { control = takes_part 0 t.control; own = if t.own.failed then pends (Predefined Tasking) t.own.at (runs t.own) else runs t.own }) c (λ t. going_tame t.own.failed t.own))
      (is_same c)

  activation_by_tame : (a : Option ℕ) (failed : Bool) (n : ℕ) (c : All Moved) → IsTame c (effect.activation_ended_by noted plan barrier a failed n c)
  activation_by_tame None failed n c = is_same c
  activation_by_tame (Some m) failed n c =
      let f : Own → Own = λ own. record own { activator = None } in
      let g : Own → Own = λ own. record own { failed = own.failed || failed } in
      let d : All Moved = on_own n f c in
      let e : All Moved = on_own m g d in
      after c d (effect.activator_looks noted plan barrier m e) (on_own_tame n f c (λ o. keeps o (f o) refl refl refl refl))
      (after d e (effect.activator_looks noted plan barrier m e) (on_own_tame m g d (λ o. keeps o (g o) refl refl refl refl)) (looks_tame m e))

  pub activation_tame : (failed : Bool) (n : ℕ) (c : All Moved) → IsTame c (effect.activation_ended noted plan barrier failed n c)
  activation_tame failed n c = activation_by_tame (own_of n c).activator failed n c

  -- Objects.

  serviced_by_tame : (ones : Result (List ℕ) Raise) (object : ℕ) (at : Pos) (n : ℕ) (c : All Moved) → IsTame c (effect.serviced_by noted plan barrier ones object at n c)
  serviced_by_tame (Err raise) object at n c =
      let d : All Moved = effect.refuse noted plan barrier Program (calls_on_object object c.shared.calls) c in
      after c d (end_action n object d) (refuse_tame Program (calls_on_object object c.shared.calls) c) (end_tame n object d)
  serviced_by_tame (Ok []) object at n c = end_tame n object c
  serviced_by_tame (Ok (x ∷ xs)) object at n c = on_own_tame n (λ own. record own { serving = Some (record { object = object; at = at }) }) c (λ o. keeps o (record o { serving = Some (record { object = object; at = at }) }) refl refl refl refl)

  pub serviced_tame : (object : ℕ) (at : Pos) (n : ℕ) (c : All Moved) → IsTame c (effect.serviced noted plan barrier object at n c)
  serviced_tame object at n c = serviced_by_tame (effect.eligible plan barrier object c) object at n c

  pub cancelled_tame : (o : Owner) (at : Pos) (n : ℕ) (c : All Moved) → IsTame c (effect.cancelled_on noted plan barrier o at n c)
  cancelled_tame (owner.Task m) at n c = is_same c
  cancelled_tame (owner.Object object) at n c =
      let d : All Moved = begin_action n object false c in
      after c d (effect.serviced noted plan barrier object at n d) (begin_tame n object false c) (serviced_tame object at n d)

  pub goes_to_tame : (part n : ℕ) (c : All Moved) → IsTame c (on_task n (λ t. record { control = takes_part part t.control; own = runs t.own }) c)
  goes_to_tame part n c = on_task_tame n (λ t. record { control = takes_part part t.control; own = runs t.own }) c (λ t. runs_tame t.own)

  pub call_expires_tame : (n : ℕ) (c : All Moved) → IsTame c (effect.call_expires noted plan barrier n c)
  call_expires_tame n c =
      let id = (own_of n c).call in
      let d : All Moved = on_task n (λ t. record { control = takes_part 1 t.control; own = runs t.own }) c in
      let e : All Moved = cancels id d in
      after c d (effect.call_expires noted plan barrier n c) (goes_to_tame 1 n c)
      (after d e (effect.call_expires noted plan barrier n c) (cancels_tame id d) (cancelled_tame (call_of id c).owner (call_of id c).at n e))

  pub withdraws_tame : (object n : ℕ) (c : All Moved) → IsTame c (effect.withdraws noted plan barrier object n c)
  withdraws_tame object n c =
      let f : Own → Own = λ own. record own { withdraw = None } in
      let d : All Moved = on_own n f c in
      let e : All Moved = begin_action n object false d in
      after c d (effect.serviced noted plan barrier object (own_of n c).at n e) (on_own_tame n f c (λ o. keeps o (f o) refl refl refl refl))
      (after d e (effect.serviced noted plan barrier object (own_of n c).at n e) (begin_tame n object false d) (serviced_tame object (own_of n c).at n e))

  -- The end of a procedure.

  given_tame : (b : CopiedBack) (at : Pos) (n : ℕ) (c : All Moved) → length b.frames ≡ length c.shared.frames → IsTame c (effect.given_back noted plan barrier b at n c)
  given_tame b at n c h = by b.raised
    where
      d : All Moved
      d = with_frames b.frames c

      by : (x : Option Raise) → IsTame c (effect.given_back noted plan barrier (record { frames = b.frames; raised = x }) at n c)
      by None = after c (with_frames b.frames c) (effect.given_back noted plan barrier (record { frames = b.frames; raised = None }) at n c) (frames_tame b.frames c h) (on_control_tame n (takes_part 0) (with_frames b.frames c))
      by (Some raise) = after c (with_frames b.frames c) (effect.given_back noted plan barrier (record { frames = b.frames; raised = Some raise }) at n c) (frames_tame b.frames c h) (raised_tame raise at n (with_frames b.frames c))

  abbrev value_of : Returning → Option Raise → CopiedBack → CopiedBack
  value_of r None b = with_result r.into r.value b
  value_of r (Some raise) b = b

  value_length : (k : ℕ) (r : Returning) (x : Option Raise) (b : CopiedBack) → length b.frames ≡ k → length (value_of r x b).frames ≡ k
  value_length k r None b h = result_length k r.into r.value b h
  value_length k r (Some raise) b h = h

  returned_tame : (r : Returning) (frame : ℕ) (at : Pos) (n : ℕ) (c : All Moved) → IsTame c (effect.returned noted plan barrier r frame at n c)
  returned_tame r frame at n c =
      let b = copied_back (slice_index_or c.shared.frames frame []) r.backs c.shared.frames in
      let x = value_of r b.raised b in
      if_tame (r.is_function && is_none r.value) c (raised_at Program at n c) (effect.given_back noted plan barrier x at n c) (raised_tame Program at n c)
      (given_tame x at n c (value_length (length c.shared.frames) r b.raised b (copied_length (length c.shared.frames) (slice_index_or c.shared.frames frame []) r.backs c.shared.frames refl)))

  pub returned_or_tame : (pending : Option Pending) (r : Returning) (frame : ℕ) (at : Pos) (n : ℕ) (c : All Moved) → IsTame c (effect.returned_or noted plan barrier pending r frame at n c)
  returned_or_tame None r frame at n c = returned_tame r frame at n c
  returned_or_tame (Some x) r frame at n c = pends_tame x.exception at n c

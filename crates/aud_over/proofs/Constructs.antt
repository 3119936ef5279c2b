-- What a step does to all tasks keeps programs the same but for what nothing names: procedures, rendezvous, objects, abort.
use Rattle.std.proofs.Common.{◌≡◌, ℕ, ◌+◌, ◌≤◌, ℤ, List, [], ◌∷◌, length, slice_index_or, Option, Some, None, Bool, true, false, refl, ap, ◌∙◌, subst, ◌++◌}
use Rattle.std.specs.Prelude.{if◌then◌else◌, take, filter, not, ◌&&◌, nat_eq, Result, is_none}
use Rattle.aud_text.specs.declared.place.Pos.{Pos}
use Rattle.aud_text.specs.declared.raise.Raise.{Raise}
use Rattle.aud_text.specs.declared.raise.Raise.TheVariants.{Program, Storage, Tasking}
use Rattle.aud_typed.specs.Tree.{Plan}
use Rattle.aud_meaning.specs.Orders.{noted}
use Rattle.aud_meaning.specs.declared.state.Status.TheVariants.{Accepting, Delaying}
use Rattle.aud_meaning.specs.declared.state.CallState.TheVariants.{Selected}
use Rattle.aud_meaning.specs.declared.state.Pending.{Pending}
use Rattle.aud_meaning.specs.declared.state.OpenAccept.{OpenAccept}
use Rattle.aud_meaning.specs.Configuration.{Frame, Target, Returning, Purpose, for_procedure, for_accept, Opened, Waits, Own, Call, All, Acting}
use Rattle.aud_meaning.specs.Evaluation.{Sight, Passed}
use Rattle.aud_meaning.specs.Control.{Moved, takes_part, does_accept, enters_body}
use Rattle.aud_meaning.specs.Effects.{opens, pends, closed, has_room, copied_back, CopiedBack, with_result}
use Rattle.aud_meaning.specs.Parts.{succeeds, fails, Waiting, arrives, alternative_of, blocks, call_number, call_of, in_action, is_callable, new_call, on_call, on_control, on_own, on_task, open_alternatives, own_of, queue, raised_at, runs, stands_at_call, with_frames, alone, unit_of, cancels}
use Rattle.aud_meaning.specs.Tasks as effect
use Rattle.aud_over.specs.Over.{with_kept}
use Rattle.aud_over.specs.Looks.{SeesSame}
use Rattle.aud_over.specs.Looks as looks
use Rattle.aud_over.proofs.Frames.{Agree, agree_at}
use Rattle.aud_over.proofs.Calls.{EachWaiting, same_length, queue_same, queue_kept}
use Rattle.aud_over.proofs.Beside.{Kept, MayHave, Beside, each_taken, beside, at_kept, if_beside, own_names, task_kept, own_kept, control_kept, call_kept, call_added, frames_kept, alone_kept, BesideOne, one_with, beside_one, at_one}
use Rattle.aud_over.proofs.Effects.{BackSame, copied_same, result_same, opens_one, names_closed}
use Rattle.aud_over.proofs.Tasks.{raised_kept, arrives_kept, at_call_kept, call_same, end_call_kept, close_kept, opens_for_kept, cancels_kept}
use Rattle.aud_meaning.specs.declared.state.Again.{Again}
use Rattle.aud_meaning.specs.declared.state.Owner.{Owner}
use Rattle.aud_meaning.specs.declared.state.Owner.TheVariants as owner
use Rattle.aud_typed.specs.declared.program.Exception.TheVariants.{Predefined}

-- barriers look at variables only through what is seen
abbrev pub BarrierLooks : (ℕ → Sight → Result Bool Raise) → Type 0
BarrierLooks barrier = (n : ℕ) (s : Sight) (fs : List Frame) → SeesSame s fs → barrier n s ≡ barrier n (looks.with_frames fs s)

module _ (p : Kept) (plan : Plan) (barrier : ℕ → Sight → Result Bool Raise) where
  -- Procedures.

  pub calls_procedure_kept : (at : Pos) (unit : ℕ) (passed : Passed) (into : Option Target) (n : ℕ) (c d : All Moved) → Beside p c d → Beside p (effect.calls_procedure noted plan barrier at unit passed into n c) (effect.calls_procedure noted plan barrier at unit passed into n d)
  calls_procedure_kept at unit passed into n c d r = at_kept p (effect.calls_procedure noted plan barrier at unit passed into n) c d r (λ fs cs m.
      let e : All Moved = with_kept fs cs c in
      let s : Beside p c e = beside p c fs cs m in
      let u = unit_of plan unit in
      let own = own_of n c in
      let purpose : Purpose = for_procedure (record { is_function = u.is_function; backs = passed.backs; into = into; value = None }) in
      let f = λ (x : All Moved). effect.opens_for noted plan barrier purpose unit at (take u.level own.display) passed.values n (on_control n (enters_body unit) x) in
      if_beside p (has_room own) (f c) (raised_at Storage at n c) (f e) (raised_at Storage at n e)
      (opens_for_kept p plan barrier purpose unit at (take u.level own.display) passed.values n (on_control n (enters_body unit) c) (on_control n (enters_body unit) e)
      (each_taken p.named u.level own.display (own_names p c.tasks n m.tasks).0) tt (control_kept p n (enters_body unit) c e s))
      (raised_kept p Storage at n c e s))

  given_by : (frames gs : List Frame) (raised : Option Raise) (at : Pos) (n : ℕ) (c d : All Moved) → Agree p.named frames gs → p.frames ≤ length frames → Beside p c d → Beside p (effect.given_back noted plan barrier (record { frames = frames; raised = raised }) at n c) (effect.given_back noted plan barrier (record { frames = gs; raised = raised }) at n d)
  given_by frames gs None at n c d a room r = control_kept p n (takes_part 0) (with_frames frames c) (with_frames gs d) (frames_kept p frames gs c d a room r)
  given_by frames gs (Some raise) at n c d a room r = raised_kept p raise at n (with_frames frames c) (with_frames gs d) (frames_kept p frames gs c d a room r)

  given_kept : (b e : CopiedBack) (at : Pos) (n : ℕ) (c d : All Moved) → BackSame p b e → Beside p c d → Beside p (effect.given_back noted plan barrier b at n c) (effect.given_back noted plan barrier e at n d)
  given_kept b e at n c d s r =
      subst (λ x. Beside p (effect.given_back noted plan barrier b at n c) (effect.given_back noted plan barrier (record { frames = e.frames; raised = x }) at n d)) s.raised
      (given_by b.frames e.frames b.raised at n c d s.frames s.room r)

  abbrev with_value_of : Returning → Option Raise → CopiedBack → CopiedBack
  with_value_of r None b = with_result r.into r.value b
  with_value_of r (Some raise) b = b

  -- with these values of the formals
  abbrev returned_with : Returning → List ℤ → Pos → ℕ → All Moved → All Moved
  returned_with r cells at n c =
      let back = copied_back cells r.backs c.shared.frames in
      if r.is_function && is_none r.value then raised_at Program at n c
      else effect.given_back noted plan barrier (with_value_of r back.raised back) at n c

  returned_is : (r : Returning) (frame : ℕ) (at : Pos) (n : ℕ) (c : All Moved) → effect.returned noted plan barrier r frame at n c ≡ returned_with r (slice_index_or c.shared.frames frame []) at n c
  returned_is r frame at n c = refl

  value_same : (r : Returning) (b e : CopiedBack) → BackSame p b e → BackSame p (with_value_of r b.raised b) (with_value_of r e.raised e)
  value_same r b e s = subst (λ x. BackSame p (with_value_of r b.raised b) (with_value_of r x e)) s.raised (by b.raised)
    where
      by : (x : Option Raise) → BackSame p (with_value_of r x b) (with_value_of r x e)
      by None = result_same p r.into r.value b e s
      by (Some raise) = s

  returned_with_kept : (r : Returning) (cells : List ℤ) (at : Pos) (n : ℕ) (c d : All Moved) → Beside p c d → Beside p (returned_with r cells at n c) (returned_with r cells at n d)
  returned_with_kept r cells at n c d b = at_kept p (returned_with r cells at n) c d b (λ fs cs m.
      let e : All Moved = with_kept fs cs c in
      let s : Beside p c e = beside p c fs cs m in
      let x = copied_back cells r.backs c.shared.frames in
      let y = copied_back cells r.backs fs in
      if_beside p (r.is_function && is_none r.value) (raised_at Program at n c) (effect.given_back noted plan barrier (with_value_of r x.raised x) at n c)
      (raised_at Program at n e) (effect.given_back noted plan barrier (with_value_of r y.raised y) at n e)
      (raised_kept p Program at n c e s)
      (given_kept (with_value_of r x.raised x) (with_value_of r y.raised y) at n c e (value_same r x y (copied_same p cells r.backs c.shared.frames fs m.frames m.room)) s))

  returned_kept : (r : Returning) (frame : ℕ) (at : Pos) (n : ℕ) (c d : All Moved) → p.named frame → Beside p c d → Beside p (effect.returned noted plan barrier r frame at n c) (effect.returned noted plan barrier r frame at n d)
  returned_kept r frame at n c d f b = at_kept p (effect.returned noted plan barrier r frame at n) c d b (λ fs cs m.
      let e : All Moved = with_kept fs cs c in
      subst (λ cells. Beside p (effect.returned noted plan barrier r frame at n c) (returned_with r cells at n e)) (agree_at p.named c.shared.frames fs m.frames frame f)
      (returned_with_kept r (slice_index_or c.shared.frames frame []) at n c e (beside p c fs cs m)))

  pub returned_or_kept : (pending : Option Pending) (r : Returning) (frame : ℕ) (at : Pos) (n : ℕ) (c d : All Moved) → p.named frame → Beside p c d → Beside p (effect.returned_or noted plan barrier pending r frame at n c) (effect.returned_or noted plan barrier pending r frame at n d)
  returned_or_kept None r frame at n c d f b = returned_kept r frame at n c d f b
  returned_or_kept (Some x) r frame at n c d f b = own_kept p n (pends x.exception at) c d (λ o h. h) b

  pub closed_kept : (n : ℕ) (c d : All Moved) → Beside p c d → Beside p (on_own n closed c) (on_own n closed d)
  closed_kept n c d r = own_kept p n closed c d (names_closed p) r

  pub block_end_kept : (pending : Option Pending) (o : Opened) (n : ℕ) (c d : All Moved) → Beside p c d → Beside p (effect.at_block_end noted plan barrier pending o n c) (effect.at_block_end noted plan barrier pending o n d)
  block_end_kept None o n c d r = close_kept p plan barrier o.frame (on_own n closed c) (on_own n closed d) (closed_kept n c d r)
  block_end_kept (Some x) o n c d r =
      let f : Own → Own = λ own. pends x.exception o.at (closed own) in
      close_kept p plan barrier o.frame (on_own n f c) (on_own n f d) (own_kept p n f c d (λ own h. names_closed p own h) r)

  pub procedure_end_kept : (pending : Option Pending) (r : Returning) (o : Opened) (n : ℕ) (c d : All Moved) → p.named o.frame → Beside p c d → Beside p (effect.at_procedure_end noted plan barrier pending r o n c) (effect.at_procedure_end noted plan barrier pending r o n d)
  procedure_end_kept pending r o n c d f b =
      returned_or_kept pending r o.frame o.at n (effect.close_master noted plan barrier o.frame (on_own n closed c)) (effect.close_master noted plan barrier o.frame (on_own n closed d)) f
      (close_kept p plan barrier o.frame (on_own n closed c) (on_own n closed d) (closed_kept n c d b))

  -- Rendezvous.

  -- the formals' values now
  pub formals_same : (frame id : ℕ) (c : All Moved) (fs : List Frame) (cs : List Call) → MayHave p c fs cs → p.named frame → p.kept id → effect.formals_now noted plan barrier frame (length (call_of id c).values) c ≡ effect.formals_now noted plan barrier frame (length (call_of id (with_kept fs cs c)).values) (with_kept fs cs c)
  formals_same frame id c fs cs m f k =
      ap (λ (x : Call). take (length x.values) (slice_index_or c.shared.frames frame [])) (call_same p id c fs cs m k)
      ∙ ap (λ cells. take (length (call_of id (with_kept fs cs c)).values) cells) (agree_at p.named c.shared.frames fs m.frames frame f)

  pub present_same : (frame id : ℕ) (c : All Moved) (fs : List Frame) (cs : List Call) → MayHave p c fs cs → p.named frame → p.kept id → effect.present_values noted plan barrier id frame c ≡ effect.present_values noted plan barrier id frame (with_kept fs cs c)
  present_same frame id c fs cs m f k =
      ap (λ vs. vs ++ (call_of id c).unseen) (formals_same frame id c fs cs m f k)
      ∙ ap (λ (x : Call). effect.formals_now noted plan barrier frame (length (call_of id (with_kept fs cs c)).values) (with_kept fs cs c) ++ x.unseen) (call_same p id c fs cs m k)

  abbrev accepted_with : Call → ℕ → OpenAccept → ℕ → ℕ → All Moved → All Moved
  accepted_with call region a id n c =
      alone (λ t. opens (for_accept id) region a.at t.own.display call.values (length call.values) t) n
      (on_task n (λ t. record { control = does_accept a.alternative t.control; own = runs t.own }) c)

  accepted_kept : (call : Call) (region : ℕ) (a : OpenAccept) (id n : ℕ) (c d : All Moved) → p.kept id → Beside p c d → Beside p (accepted_with call region a id n c) (accepted_with call region a id n d)
  accepted_kept call region a id n c d k r =
      let f = λ (x : All Moved). on_task n (λ t. record { control = does_accept a.alternative t.control; own = runs t.own }) x in
      alone_kept p (λ t. opens (for_accept id) region a.at t.own.display call.values (length call.values) t) n (f c) (f d)
      (λ u v h. here_one u v h)
      (task_kept p n (λ t. record { control = does_accept a.alternative t.control; own = runs t.own }) c d (λ t h. h) r)
    where
      here_one : (u v : Acting Moved) → BesideOne p u v → BesideOne p (opens (for_accept id) region a.at u.own.display call.values (length call.values) u) (opens (for_accept id) region a.at v.own.display call.values (length call.values) v)
      here_one u v h = at_one p (λ t. opens (for_accept id) region a.at t.own.display call.values (length call.values) t) u v h (λ fs cs m.
          opens_one p (for_accept id) region a.at u.own.display call.values (length call.values) u (one_with fs cs u) m.own.0 k (beside_one p u fs cs m))

  rendezvous_by_kept : (region : Option ℕ) (a : OpenAccept) (id n : ℕ) (c d : All Moved) → p.kept id → Beside p c d → Beside p (effect.rendezvous_by noted plan barrier region a id n c) (effect.rendezvous_by noted plan barrier region a id n d)
  rendezvous_by_kept None a id n c d k r = at_kept p (effect.rendezvous_by noted plan barrier None a id n) c d r (λ fs cs m.
      let e : All Moved = with_kept fs cs c in
      let f = λ (x : All Moved). on_task n (λ t. record { control = takes_part a.alternative t.control; own = runs t.own }) x in
      subst (λ call. Beside p (effect.rendezvous_by noted plan barrier None a id n c) (effect.end_call noted plan barrier (succeeds (call.values ++ call.unseen)) id (f e))) (call_same p id c fs cs m k)
      (end_call_kept p plan barrier (succeeds ((call_of id c).values ++ (call_of id c).unseen)) id (f c) (f e) k
      (task_kept p n (λ t. record { control = takes_part a.alternative t.control; own = runs t.own }) c e (λ t h. h) (beside p c fs cs m))))
  rendezvous_by_kept (Some region) a id n c d k r = at_kept p (effect.rendezvous_by noted plan barrier (Some region) a id n) c d r (λ fs cs m.
      let e : All Moved = with_kept fs cs c in
      subst (λ call. Beside p (effect.rendezvous_by noted plan barrier (Some region) a id n c) (accepted_with call region a id n e)) (call_same p id c fs cs m k)
      (accepted_kept (call_of id c) region a id n c e k (beside p c fs cs m)))

  rendezvous_kept : (a : OpenAccept) (id n : ℕ) (c d : All Moved) → p.kept id → Beside p c d → Beside p (effect.rendezvous noted plan barrier a id n c) (effect.rendezvous noted plan barrier a id n d)
  rendezvous_kept a id n c d k r =
      let f : Call → Call = λ call. record call { state = Selected } in
      rendezvous_by_kept a.region a id n (on_call id f c) (on_call id f d) k (call_kept p id f c d k r)

  -- Requeue.

  made_again_kept : (alternative : Option ℕ) (ones : List OpenAccept) (id task : ℕ) (c d : All Moved) → p.kept id → Beside p c d → Beside p (effect.made_again noted plan barrier alternative ones id task c) (effect.made_again noted plan barrier alternative ones id task d)
  made_again_kept alternative [] id task c d k r = arrives_kept p id c d k r
  made_again_kept alternative (a ∷ more) id task c d k r = rendezvous_kept (alternative_of alternative a (a ∷ more)) id task c d k r

  abbrev again_with : Option ℕ → Call → ℕ → ℕ → All Moved → All Moved
  again_with alternative call task id c =
      if effect.is_lost noted plan barrier call c then cancels id c
      else if is_callable (own_of task c) then effect.made_again noted plan barrier alternative (open_alternatives (own_of task c) call.entry) id task (on_call id (effect.called_of noted plan barrier (owner.Task task)) c)
      else effect.end_call noted plan barrier (fails (Predefined Tasking)) id c

  again_with_kept : (alternative : Option ℕ) (call : Call) (task id : ℕ) (c d : All Moved) → p.kept id → Beside p c d → Beside p (again_with alternative call task id c) (again_with alternative call task id d)
  again_with_kept alternative call task id c d k r = at_kept p (again_with alternative call task id) c d r (λ fs cs m.
      let e : All Moved = with_kept fs cs c in
      let s : Beside p c e = beside p c fs cs m in
      let f = effect.called_of noted plan barrier (owner.Task task) in
      let ones = open_alternatives (own_of task c) call.entry in
      let g = λ (x : All Moved). effect.made_again noted plan barrier alternative ones id task (on_call id f x) in
      let h = λ (x : All Moved). effect.end_call noted plan barrier (fails (Predefined Tasking)) id x in
      if_beside p (effect.is_lost noted plan barrier call c) (cancels id c) (if is_callable (own_of task c) then g c else h c) (cancels id e) (if is_callable (own_of task c) then g e else h e)
      (cancels_kept p id c e k s)
      (if_beside p (is_callable (own_of task c)) (g c) (h c) (g e) (h e)
      (made_again_kept alternative ones id task (on_call id f c) (on_call id f e) k (call_kept p id f c e k s))
      (end_call_kept p plan barrier (fails (Predefined Tasking)) id c e k s)))

  requeued_kept : (alternative : Option ℕ) (o : Owner) (at : Pos) (id n : ℕ) (c d : All Moved) → p.kept id → Beside p c d → Beside p (effect.requeued_on noted plan barrier alternative o at id n c) (effect.requeued_on noted plan barrier alternative o at id n d)
  requeued_kept alternative (owner.Task task) at id n c d k r = at_kept p (effect.requeued_on noted plan barrier alternative (owner.Task task) at id n) c d r (λ fs cs m.
      let e : All Moved = with_kept fs cs c in
      subst (λ call. Beside p (again_with alternative (call_of id c) task id c) (again_with alternative call task id e)) (call_same p id c fs cs m k)
      (again_with_kept alternative (call_of id c) task id c e k (beside p c fs cs m)))
  requeued_kept alternative (owner.Object object) at id n c d k r =
      own_kept p n (λ own. record own { restart = Some (record { call = id; object = object; at = at }) }) c d (λ o h. (h.0, h.1, k)) r

  accept_ended_kept : (alternative : Option ℕ) (o : Option Again) (values : List ℤ) (id n : ℕ) (c d : All Moved) → p.kept id → Beside p c d → Beside p (effect.accept_ended noted plan barrier alternative o values id n c) (effect.accept_ended noted plan barrier alternative o values id n d)
  accept_ended_kept alternative None values id n c d k r = end_call_kept p plan barrier (succeeds values) id c d k r
  accept_ended_kept alternative (Some x) values id n c d k r =
      let f = effect.retargeted noted plan barrier x values in
      requeued_kept alternative x.owner x.at id n (on_call id f c) (on_call id f d) k (call_kept p id f c d k r)

  pub accept_end_kept : (alternative : Option ℕ) (pending : Option Pending) (id : ℕ) (o : Opened) (n : ℕ) (c d : All Moved) → p.named o.frame → p.kept id → Beside p c d → Beside p (effect.at_accept_end noted plan barrier alternative pending id o n c) (effect.at_accept_end noted plan barrier alternative pending id o n d)
  accept_end_kept alternative None id o n c d f k r = at_kept p (effect.at_accept_end noted plan barrier alternative None id o n) c d r (λ fs cs m.
      let e : All Moved = with_kept fs cs c in
      let g : Own → Own = λ own. record (closed own) { again = None } in
      let values = effect.present_values noted plan barrier id o.frame c in
      let again = (own_of n c).again in
      subst (λ vs. Beside p (effect.accept_ended noted plan barrier alternative again values id n (on_own n g c)) (effect.accept_ended noted plan barrier alternative again vs id n (on_own n g e))) (present_same o.frame id c fs cs m f k)
      (accept_ended_kept alternative again values id n (on_own n g c) (on_own n g e) k (own_kept p n g c e (λ own h. names_closed p own h) (beside p c fs cs m))))
  accept_end_kept alternative (Some x) id o n c d f k r =
      let g : Own → Own = λ own. pends x.exception o.at (record (closed own) { again = None }) in
      end_call_kept p plan barrier (fails x.exception) id (on_own n g c) (on_own n g d) k (own_kept p n g c d (λ own h. names_closed p own h) r)

  oldest_kept : (a : OpenAccept) (ws : List Waiting) (n : ℕ) (c d : All Moved) → EachWaiting p.kept ws → Beside p c d → Beside p (effect.accepts_oldest noted plan barrier a ws n c) (effect.accepts_oldest noted plan barrier a ws n d)
  oldest_kept a [] n c d k r = own_kept p n (blocks Accepting a.at (record { accepts = a ∷ []; delays = []; terminate = false })) c d (λ o h. h) r
  oldest_kept a (w ∷ ws) n c d k r = rendezvous_kept a w.call n c d k.0 r

  pub accepts_call_kept : (a : OpenAccept) (n : ℕ) (c d : All Moved) → Beside p c d → Beside p (effect.accepts_call noted plan barrier a n c) (effect.accepts_call noted plan barrier a n d)
  accepts_call_kept a n c d r = at_kept p (effect.accepts_call noted plan barrier a n) c d r (λ fs cs m.
      let e : All Moved = with_kept fs cs c in
      let ws = queue n a.entry c.shared.calls in
      subst (λ q. Beside p (effect.accepts_oldest noted plan barrier a ws n c) (effect.accepts_oldest noted plan barrier a q n e)) (queue_same p.kept n a.entry c.shared.calls cs m.calls)
      (oldest_kept a ws n c e (queue_kept p.kept n a.entry c.shared.calls cs m.calls) (beside p c fs cs m)))

  -- the call is made, and has this number
  abbrev pub made_at : ℕ → Call → All Moved → All Moved
  made_at id call c = stands_at_call call.caller id call.at (new_call call c)

  pub made_kept : (id : ℕ) (call : Call) (c d : All Moved) → Beside p c d → Beside p (made_at id call c) (made_at id call d)
  made_kept id call c d r = at_call_kept p call.caller id call.at (new_call call c) (new_call call d) (call_added p call c d r)

  -- where nothing but the number of a new call matters
  pub at_number : (f : ℕ → All Moved → All Moved) (c d : All Moved) → ((id : ℕ) (x y : All Moved) → p.kept id → Beside p x y → Beside p (f id x) (f id y)) → Beside p c d → Beside p (f (call_number c) c) (f (call_number d) d)
  at_number f c d keeps r = at_kept p (λ x. f (call_number x) x) c d r (λ fs cs m.
      let e : All Moved = with_kept fs cs c in
      subst (λ id. Beside p (f (call_number c) c) (f id e)) (same_length p.kept 0 c.shared.calls cs m.calls)
      (keeps (call_number c) c e (p.new_call (call_number c) m.call_room) (beside p c fs cs m)))

  calls_open_kept : (alternative : Option ℕ) (ones : List OpenAccept) (call : Call) (task : ℕ) (c d : All Moved) → Beside p c d → Beside p (effect.calls_open noted plan barrier alternative ones call task c) (effect.calls_open noted plan barrier alternative ones call task d)
  calls_open_kept alternative [] call task c d r =
      let f : ℕ → All Moved → All Moved = λ id x. arrives id (made_at id call x) in
      if_beside p (effect.is_conditional noted plan barrier call.form) (on_control call.caller (takes_part 1) c) (f (call_number c) c) (on_control call.caller (takes_part 1) d) (f (call_number d) d)
      (control_kept p call.caller (takes_part 1) c d r)
      (at_number f c d (λ id x y k h. arrives_kept p id (made_at id call x) (made_at id call y) k (made_kept id call x y h)) r)
  calls_open_kept alternative (a ∷ more) call task c d r =
      let o = alternative_of alternative a (a ∷ more) in
      at_number (λ id x. effect.rendezvous noted plan barrier o id task (made_at id call x)) c d (λ id x y k h. rendezvous_kept o id task (made_at id call x) (made_at id call y) k (made_kept id call x y h)) r

  pub calls_task_kept : (alternative : Option ℕ) (call : Call) (task : ℕ) (c d : All Moved) → Beside p c d → Beside p (effect.calls_task noted plan barrier alternative call task c) (effect.calls_task noted plan barrier alternative call task d)
  calls_task_kept alternative call task c d r = at_kept p (effect.calls_task noted plan barrier alternative call task) c d r (λ fs cs m.
      let e : All Moved = with_kept fs cs c in
      let s : Beside p c e = beside p c fs cs m in
      let f = effect.calls_open noted plan barrier alternative (open_alternatives (own_of task c) call.entry) call task in
      if_beside p (in_action call.caller c) (raised_at Program call.at call.caller c) (if is_callable (own_of task c) then f c else raised_at Tasking call.at call.caller c)
      (raised_at Program call.at call.caller e) (if is_callable (own_of task c) then f e else raised_at Tasking call.at call.caller e)
      (raised_kept p Program call.at call.caller c e s)
      (if_beside p (is_callable (own_of task c)) (f c) (raised_at Tasking call.at call.caller c) (f e) (raised_at Tasking call.at call.caller e)
      (calls_open_kept alternative (open_alternatives (own_of task c) call.entry) call task c e s)
      (raised_kept p Tasking call.at call.caller c e s)))

  -- Selective accepts and delays.

  picked_kept : (ones : List OpenAccept) (n : ℕ) (c d : All Moved) → Beside p c d → Beside p (effect.selected_first noted plan barrier ones n c) (effect.selected_first noted plan barrier ones n d)
  picked_kept [] n c d r = r
  picked_kept (o ∷ os) n c d r = accepts_call_kept o n c d r

  pub selects_kept : (alternative : Option ℕ) (has_else : Bool) (waits : Waits) (at : Pos) (n : ℕ) (c d : All Moved) → Beside p c d → Beside p (effect.selects noted plan barrier alternative has_else waits at n c) (effect.selects noted plan barrier alternative has_else waits at n d)
  selects_kept None true waits at n c d r = control_kept p n (takes_part 0) c d r
  selects_kept None false waits at n c d r =
      if_beside p (nat_eq (length waits.accepts + length waits.delays) 0 && not waits.terminate) (raised_at Program at n c) (on_own n (blocks Accepting at waits) c) (raised_at Program at n d) (on_own n (blocks Accepting at waits) d)
      (raised_kept p Program at n c d r) (own_kept p n (blocks Accepting at waits) c d (λ o h. h) r)
  selects_kept (Some a) has_else waits at n c d r = picked_kept (filter (λ (o : OpenAccept). nat_eq o.alternative a) waits.accepts) n c d r

  pub delays_kept : (ms : ℕ) (at : Pos) (n : ℕ) (c d : All Moved) → Beside p c d → Beside p (effect.delays_for noted plan barrier ms at n c) (effect.delays_for noted plan barrier ms at n d)
  delays_kept ms at n c d r = at_kept p (effect.delays_for noted plan barrier ms at n) c d r (λ fs cs m.
      let e : All Moved = with_kept fs cs c in
      let s : Beside p c e = beside p c fs cs m in
      let f : Own → Own = blocks Delaying at (record { accepts = []; delays = record { alternative = 0; time = c.clock + ms } ∷ []; terminate = false }) in
      if_beside p (in_action n c) (raised_at Program at n c) (if nat_eq ms 0 then on_control n (takes_part 0) c else on_own n f c) (raised_at Program at n e) (if nat_eq ms 0 then on_control n (takes_part 0) e else on_own n f e)
      (raised_kept p Program at n c e s)
      (if_beside p (nat_eq ms 0) (on_control n (takes_part 0) c) (on_own n f c) (on_control n (takes_part 0) e) (on_own n f e) (control_kept p n (takes_part 0) c e s) (own_kept p n f c e (λ o h. h) s)))

  pub expires_kept : (alternative n : ℕ) (c d : All Moved) → Beside p c d → Beside p (effect.delay_expires noted plan barrier alternative n c) (effect.delay_expires noted plan barrier alternative n d)
  expires_kept alternative n c d r = task_kept p n (λ t. record { control = takes_part alternative t.control; own = runs t.own }) c d (λ t h. h) r

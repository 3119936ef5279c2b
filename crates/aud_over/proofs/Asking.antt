-- What statements ask is the same where the same is seen.
use Rattle.std.proofs.Common.{◌≡◌, ℕ, suc, ◌+◌, ℤ, pos, List, [], ◌∷◌, ◌++◌, slice_index_or, Option, Some, None, true, false, refl, ap, ◌∙◌}
use Rattle.std.specs.Prelude.{if◌then◌else◌, nat_abs, Result, Ok}
use Rattle.std.proofs.Math.Path.{fun_ext}
use Rattle.aud_text.specs.declared.place.Pos.{Pos}
use Rattle.aud_text.specs.declared.raise.Raise.{Raise}
use Rattle.aud_typed.specs.declared.program.Variable.{Variable}
use Rattle.aud_typed.specs.Tree as tree
use Rattle.aud_typed.specs.Tree.{truth, ValueExpression, TaskName, Reference, CallForm, plainly, conditionally, timed, Callee, of_task, of_object, Argument, by_value, by_copy, Statement, sequence, declare, declare_array, declare_tasks, declare_object, activated, activate, null, assign, put, if_then, plain_loop, while_loop, for_loop, exit, return, return_value, raising, raising_again, block, procedure_call, own_entry_call, operation_call, entry_call, delay, accept, select, abort, Alternatives, no_alternatives, accepting, delaying, terminating, requeue}
use Rattle.aud_meaning.specs.declared.state.Owner.TheVariants as owner
use Rattle.aud_meaning.specs.declared.state.Pending.{Pending}
use Rattle.aud_meaning.specs.declared.state.OpenDelay.{OpenDelay}
use Rattle.aud_meaning.specs.declared.state.Form.{Form}
use Rattle.aud_meaning.specs.declared.state.Form.TheVariants.{TimedTo}
use Rattle.aud_meaning.specs.Configuration.{Frame, Target, Waits, Item, Do, InLoop, InFor, Begin, Ends, Leaving}
use Rattle.aud_meaning.specs.Evaluation.{Sight, cell, number_in, with_value, evaluated, found, subtype_of, task_named, decided, value_of, delay_of, target_at, target_of, option_target, Passed, copied_in, one_more_passed, passed_from, passed}
use Rattle.aud_meaning.specs.Control.{selecting, calling, starting, Called, Asked, Scene}
use Rattle.aud_meaning.specs.Control as asked
use Rattle.aud_meaning.specs.Parts as parts
use Rattle.aud_meaning.specs.Items.{out_by, loops_out}
use Rattle.aud_meaning.specs.Statements.{region_of, if_open, guards_from, delay_expression, timed_from, waits_of, open_or_none, task_or_none, coming_call, coming_statement, both, Stored, stored, components, form_of, called, names_tasks, Entered, entered_with, or_raises, or_raises_in_part, branch, has_else, asked_call, asked_statement, asked_item, asks, coming_item, coming, controls, again_at, asked_requeue}
use Rattle.aud_over.specs.Looks.{SeesSame, Looks, with_frames}
use Rattle.aud_over.proofs.Evaluating.{Alike, alike, alike_extended, extended, then_same, evaluated_same, found_same, named_same, decided_same, value_same, text_same, delay_same}

or_raises_same : {A : Type 0} (r q : Result A Raise) (at : Pos) (f g : A → Asked) → r ≡ q → ((x : A) → f x ≡ g x) → or_raises r at f ≡ or_raises q at g
or_raises_same r q at f g e h = ap (λ x. or_raises x at f) e ∙ ap (or_raises q at) (fun_ext h)

module _ (s : Sight) (fs : List Frame) (h : SeesSame s fs) where
  abbrev t : Sight
  t = with_frames fs s

  a : Alike s t
  a = alike s fs h

  -- the same cell, with the frame that it lies in
  target_same : (r : Reference) → target_of r s ≡ target_of r t
  target_same r = ap (λ x. with_value x (λ v. Ok (target_at (subtype_of r) v s))) (found_same s t a r)

  option_same : (o : Option Reference) → option_target o s ≡ option_target o t
  option_same None = refl
  option_same (Some r) = ap (λ x. with_value x (λ y. Ok (Some y))) (target_same r)

  passed_same : (n : ℕ) (es : List Argument) → passed_from n es s ≡ passed_from n es t
  passed_same n [] = refl
  passed_same n (by_value e ∷ es) =
      then_same (value_of e s) (value_of e t) (λ z. one_more_passed z [] (passed_from (n + 1) es s)) (λ z. one_more_passed z [] (passed_from (n + 1) es t)) (value_same s t a e)
      (λ z. ap (one_more_passed z []) (passed_same (n + 1) es))
  passed_same n (by_copy is_in formal r ∷ es) =
      let f = λ (x : Sight) (v : Variable) (z : ℤ). one_more_passed z (record { formal = n; target = target_at (subtype_of r) v s } ∷ []) (passed_from (n + 1) es x) in
      then_same (found r s) (found r t) (λ v. with_value (copied_in is_in formal (cell v s)) (f s v)) (λ v. with_value (copied_in is_in formal (cell v t)) (f t v)) (found_same s t a r)
      (λ v. then_same (copied_in is_in formal (cell v s)) (copied_in is_in formal (cell v t)) (f s v) (f t v) (ap (copied_in is_in formal) (a.cells v))
      (λ z. ap (one_more_passed z (record { formal = n; target = target_at (subtype_of r) v s } ∷ [])) (passed_same (n + 1) es)))

  entered_same : (c : tree.Calling) → entered_with c s ≡ entered_with c t
  entered_same c =
      then_same (option_target c.into s) (option_target c.into t) (λ into. with_value (passed c.arguments s) (λ p. Ok (record { into = into; passed = p }))) (λ into. with_value (passed c.arguments t) (λ p. Ok (record { into = into; passed = p }))) (option_same c.into)
      (λ into. ap (λ x. with_value x (λ p. Ok (entered_as into p))) (passed_same 0 c.arguments))
    where
      entered_as : Option Target → Passed → Entered
      entered_as into p = record { into = into; passed = p }

  form_same : (form : CallForm) (clock : ℕ) → form_of form clock s ≡ form_of form clock t
  form_same plainly clock = refl
  form_same conditionally clock = refl
  form_same (timed e) clock = ap (λ x. with_value x (λ ms. Ok (TimedTo (clock + ms)))) (delay_same s t a e)

  abbrev called_as : Pos → ℕ → Passed → Form → Called
  called_as at entry p f = record { entry = entry; passed = p; form = f; at = at }

  called_same : (at : Pos) (entry : ℕ) (es : List Argument) (form : CallForm) (clock : ℕ) → called at entry es form clock s ≡ called at entry es form clock t
  called_same at entry es form clock =
      then_same (passed es s) (passed es t) (λ p. with_value (form_of form clock s) (λ f. Ok (called_as at entry p f))) (λ p. with_value (form_of form clock t) (λ f. Ok (called_as at entry p f))) (passed_same 0 es)
      (λ p. ap (λ x. with_value x (λ f. Ok (called_as at entry p f))) (form_same form clock))

  names_same : (ns : List TaskName) → names_tasks ns s ≡ names_tasks ns t
  names_same [] = refl
  names_same (n ∷ ns) =
      then_same (task_named n s) (task_named n t) (λ i. with_value (names_tasks ns s) (λ is. Ok (i ∷ is))) (λ i. with_value (names_tasks ns t) (λ is. Ok (i ∷ is))) (named_same s t a n)
      (λ i. ap (λ x. with_value x (λ is. Ok (i ∷ is))) (names_same ns))

  guarded_same : (g : tree.BooleanExpression) (f : Waits → Waits) (x y : Result Waits Raise) → x ≡ y → with_value (decided g s) (λ b. if_open b f x) ≡ with_value (decided g t) (λ b. if_open b f y)
  guarded_same g f x y e = then_same (decided g s) (decided g t) (λ b. if_open b f x) (λ b. if_open b f y) (decided_same s t a g) (λ b. ap (if_open b f) e)

  guards_same : (n : ℕ) (offered : Alternatives) → guards_from n offered s ≡ guards_from n offered t
  guards_same n no_alternatives = refl
  guards_same n (accepting g at e d p more) = guarded_same g (λ w. record w { accepts = record { alternative = n; entry = e; at = at; region = region_of d } ∷ w.accepts }) (guards_from (suc n) more s) (guards_from (suc n) more t) (guards_same (suc n) more)
  guards_same n (delaying g e p more) = guarded_same g (λ w. record w { delays = record { alternative = n; time = 0 } ∷ w.delays }) (guards_from (suc n) more s) (guards_from (suc n) more t) (guards_same (suc n) more)
  guards_same n (terminating g more) = guarded_same g (λ w. record w { terminate = true }) (guards_from (suc n) more s) (guards_from (suc n) more t) (guards_same (suc n) more)

  timed_same : (ds : List OpenDelay) (offered : Alternatives) (clock : ℕ) → timed_from ds offered clock s ≡ timed_from ds offered clock t
  timed_same [] offered clock = refl
  timed_same (d ∷ ds) offered clock =
      let f = λ (ms : ℕ) (rest : List OpenDelay). let r : Result (List OpenDelay) Raise = Ok (record d { time = clock + ms } ∷ rest) in r in
      then_same (delay_of (delay_expression d.alternative offered) s) (delay_of (delay_expression d.alternative offered) t) (λ ms. with_value (timed_from ds offered clock s) (f ms)) (λ ms. with_value (timed_from ds offered clock t) (f ms)) (delay_same s t a (delay_expression d.alternative offered))
      (λ ms. ap (λ x. with_value x (f ms)) (timed_same ds offered clock))

  waits_same : (offered : Alternatives) (clock : ℕ) → waits_of offered clock s ≡ waits_of offered clock t
  waits_same offered clock =
      let f = λ (w : Waits) (ds : List OpenDelay). let r : Result Waits Raise = Ok (record w { delays = ds }) in r in
      then_same (guards_from 1 offered s) (guards_from 1 offered t) (λ w. with_value (timed_from w.delays offered clock s) (f w)) (λ w. with_value (timed_from w.delays offered clock t) (f w)) (guards_same 1 offered)
      (λ w. ap (λ x. with_value x (f w)) (timed_same w.delays offered clock))

  stored_same : (r : Reference) (e : ValueExpression) → stored r e s ≡ stored r e t
  stored_same r e =
      let f = λ (x : Target) (z : ℤ). let q : Result Stored Raise = Ok (record { target = x; value = z }) in q in
      then_same (target_of r s) (target_of r t) (λ x. with_value (value_of e s) (f x)) (λ x. with_value (value_of e t) (f x)) (target_same r)
      (λ x. ap (λ q. with_value q (f x)) (value_same s t a e))

  both_same : (x y : tree.IntegerExpression) → both (evaluated x s) (evaluated y s) ≡ both (evaluated x t) (evaluated y t)
  both_same x y = ap (λ r. both r (evaluated y s)) (evaluated_same s t a x) ∙ ap (both (evaluated x t)) (evaluated_same s t a y)

  components_same : (es : List ValueExpression) (cells : List ℤ) → components es cells s ≡ components es cells t
  components_same [] cells = refl
  components_same (e ∷ es) cells =
      then_same (value_of e (extended cells s)) (value_of e (extended cells t)) (λ z. components es (cells ++ z ∷ []) s) (λ z. components es (cells ++ z ∷ []) t)
      (value_same (extended cells s) (extended cells t) (alike_extended cells s fs h) e)
      (λ z. components_same es (cells ++ z ∷ []))

  callee_same : (c : tree.EntryCall) (o : Callee) → coming_call c o s ≡ coming_call c o t
  callee_same c (of_task n) = ap (λ x. calling (task_or_none x) c.entry) (named_same s t a n)
  callee_same c (of_object v) = ap (λ z. starting (nat_abs z) false) (a.cells v)

  pub coming_same : (plan : tree.Plan) (x : Statement) → coming_statement plan x s ≡ coming_statement plan x t
  coming_same plan (operation_call at v c) = ap (λ z. starting (nat_abs z) (parts.unit_of plan c.unit).is_function) (a.cells v)
  coming_same plan (entry_call at c p q) = callee_same c c.callee
  coming_same plan (select at offered p) = ap (λ x. selecting (open_or_none x)) (guards_same 1 offered)
  coming_same plan (sequence x y) = refl
  coming_same plan (declare at up_to e) = refl
  coming_same plan (declare_array at y n) = refl
  coming_same plan (declare_tasks at ts) = refl
  coming_same plan (declare_object at n es) = refl
  coming_same plan (activated at) = refl
  coming_same plan (activate at) = refl
  coming_same plan (null at) = refl
  coming_same plan (assign at r e) = refl
  coming_same plan (put at e) = refl
  coming_same plan (if_then at e x p) = refl
  coming_same plan (plain_loop x) = refl
  coming_same plan (while_loop at e x) = refl
  coming_same plan (for_loop f x y z) = refl
  coming_same plan (exit at n e) = refl
  coming_same plan (return at) = refl
  coming_same plan (return_value at e) = refl
  coming_same plan (raising at x) = refl
  coming_same plan (raising_again at) = refl
  coming_same plan (block at n b) = refl
  coming_same plan (procedure_call at c) = refl
  coming_same plan (own_entry_call at es f) = refl
  coming_same plan (delay at e) = refl
  coming_same plan (accept at n d) = refl
  coming_same plan (abort at ns) = refl
  coming_same plan (requeue at r) = refl

-- Asked in a scene.

module _ (s : Scene) (fs : List Frame) (h : SeesSame s.sight fs) where
  abbrev there : Scene
  there = record s { sight = with_frames fs s.sight }

  b : Alike s.sight there.sight
  b = alike s.sight fs h

  called_there : (at : Pos) (c : tree.EntryCall) (o : Callee) → asked_call at c o s ≡ asked_call at c o there
  called_there at c (of_task n) =
      let f = λ (i : ℕ) (call : Called). let r : Result (ℕ × Called) Raise = Ok (i, call) in r in
      ap (λ x. or_raises x at (λ (y : ℕ × Called). asked.calls_entry (owner.Task y.0) y.1))
      (then_same (task_named n s.sight) (task_named n there.sight) (λ i. with_value (called at c.entry c.arguments c.form s.clock s.sight) (f i)) (λ i. with_value (called at c.entry c.arguments c.form s.clock there.sight) (f i)) (named_same s.sight there.sight b n)
      (λ i. ap (λ x. with_value x (f i)) (called_same s.sight fs h at c.entry c.arguments c.form s.clock)))
  called_there at c (of_object v) =
      or_raises_same (called at c.entry c.arguments c.form s.clock s.sight) (called at c.entry c.arguments c.form s.clock there.sight) at (λ call. asked.calls_entry (owner.Object (number_in v s.sight)) call) (λ call. asked.calls_entry (owner.Object (number_in v there.sight)) call)
      (called_same s.sight fs h at c.entry c.arguments c.form s.clock)
      (λ call. ap (λ z. asked.calls_entry (owner.Object (nat_abs z)) call) (b.cells v))

  requeue_there : (at : Pos) (r : tree.Requeue) (o : Callee) (loops : ℕ) → asked_requeue at r o loops s ≡ asked_requeue at r o loops there
  requeue_there at r (of_task n) loops = ap (λ x. or_raises x at (λ i. asked.requeues loops (again_at at r (owner.Task i)))) (named_same s.sight there.sight b n)
  requeue_there at r (of_object v) loops = ap (λ z. asked.requeues loops (again_at at r (owner.Object (nat_abs z)))) (b.cells v)

  pub asked_same : (x : Statement) (loops : ℕ) → asked_statement x loops s ≡ asked_statement x loops there
  asked_same (declare at up_to e) loops = ap (λ x. or_raises_in_part x at (λ z. asked.declares up_to z)) (value_same s.sight there.sight b e)
  asked_same (declare_array at y n) loops = refl
  asked_same (declare_tasks at ts) loops = refl
  asked_same (declare_object at n es) loops = ap (λ x. or_raises_in_part x at (λ cells. asked.declares_object at n cells)) (components_same s.sight fs h es (pos s.objects ∷ []))
  asked_same (activated at) loops = refl
  asked_same (activate at) loops = refl
  asked_same (null at) loops = refl
  asked_same (assign at r e) loops = ap (λ x. or_raises x at (λ (y : Stored). asked.assigns y.target y.value)) (stored_same s.sight fs h r e)
  asked_same (put at e) loops = ap (λ x. or_raises x at (λ text. asked.puts text)) (text_same s.sight there.sight b e)
  asked_same (if_then at e x p) loops = ap (λ y. or_raises y at (λ z. asked.goes_on (branch z))) (decided_same s.sight there.sight b e)
  asked_same (while_loop at e x) loops = ap (λ y. or_raises y at (λ z. asked.goes_on (branch z))) (decided_same s.sight there.sight b e)
  asked_same (for_loop f x y inner) loops = ap (λ r. or_raises r f.at (λ (xy : ℤ × ℤ). asked.enters_loop f xy.0 xy.1)) (both_same s.sight fs h x y)
  asked_same (exit at n e) loops = ap (λ y. or_raises y at (λ z. if z then asked.goes_out loops None else asked.goes_on 0)) (decided_same s.sight there.sight b e)
  asked_same (return at) loops = refl
  asked_same (return_value at e) loops = ap (λ x. or_raises x at (λ z. asked.goes_out loops (Some z))) (value_same s.sight there.sight b e)
  asked_same (raising at x) loops = refl
  asked_same (raising_again at) loops = refl
  asked_same (block at region y) loops = refl
  asked_same (procedure_call at c) loops = ap (λ x. or_raises x at (λ (e : Entered). asked.calls_procedure at c.unit e.passed e.into)) (entered_same s.sight fs h c)
  asked_same (own_entry_call at es form) loops = ap (λ x. or_raises x at (λ e. asked.calls_own_entry at)) (called_same s.sight fs h at 0 es form s.clock)
  asked_same (operation_call at v c) loops =
      or_raises_same (entered_with c s.sight) (entered_with c there.sight) at (λ (e : Entered). asked.calls_operation at (number_in v s.sight) c.unit e.passed e.into) (λ (e : Entered). asked.calls_operation at (number_in v there.sight) c.unit e.passed e.into)
      (entered_same s.sight fs h c) (λ e. ap (λ z. asked.calls_operation at (nat_abs z) c.unit e.passed e.into) (b.cells v))
  asked_same (entry_call at c p q) loops = called_there at c c.callee
  asked_same (delay at e) loops = ap (λ x. or_raises x at (λ ms. asked.delays ms at)) (delay_same s.sight there.sight b e)
  asked_same (accept at entry d) loops = refl
  asked_same (select at offered p) loops = ap (λ x. or_raises x at (λ w. asked.selects (has_else p) w at)) (waits_same s.sight fs h offered s.clock)
  asked_same (abort at ts) loops = ap (λ x. or_raises x at (λ ns. asked.aborts ns at)) (names_same s.sight fs h ts)
  asked_same (requeue at r) loops = requeue_there at r r.callee loops
  asked_same (sequence x y) loops = refl
  asked_same (plain_loop x) loops = refl

  item_same : (items : List Item) → asked_item items s ≡ asked_item items there
  item_same [] = refl
  item_same (Do x ∷ rest) = asked_same x (loops_out (out_by x rest))
  item_same (InLoop x ∷ rest) = refl
  item_same (InFor x ∷ rest) = refl
  item_same (Begin c x y end ∷ rest) = refl
  item_same (Ends c y end ∷ rest) = refl
  item_same (Leaving n end ∷ rest) = refl

  pub asks_same : (pending : Option Pending) (items : List Item) → asks pending s items ≡ asks pending there items
  asks_same None items = item_same items
  asks_same (Some p) items = refl

coming_item_same : (plan : tree.Plan) (s : Sight) (fs : List Frame) (items : List Item) → SeesSame s fs → coming_item plan items s ≡ coming_item plan items (with_frames fs s)
coming_item_same plan s fs [] h = refl
coming_item_same plan s fs (Do x ∷ rest) h = coming_same s fs h plan x
coming_item_same plan s fs (InLoop x ∷ rest) h = refl
coming_item_same plan s fs (InFor x ∷ rest) h = refl
coming_item_same plan s fs (Begin c x y end ∷ rest) h = refl
coming_item_same plan s fs (Ends c y end ∷ rest) h = refl
coming_item_same plan s fs (Leaving n end ∷ rest) h = refl

coming_by : (plan : tree.Plan) (pending : Option Pending) (s : Sight) (fs : List Frame) (items : List Item) → SeesSame s fs → coming plan pending s items ≡ coming plan pending (with_frames fs s) items
coming_by plan None s fs items h = coming_item_same plan s fs items h
coming_by plan (Some p) s fs items h = refl

pub statements_look : (program : tree.Program) → Looks (controls program)
statements_look program = record {
  coming = λ pending s fs items h. coming_by program.plan pending s fs items h;
  asks = λ pending s fs items h. asks_same s fs h pending items;
  barrier = λ n s fs h. decided_same s (with_frames fs s) (alike s fs h) (slice_index_or program.barriers n (truth true));
}

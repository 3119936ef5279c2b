-- What a statement's instructions ask for is what the statement asks for.
use Rattle.std.proofs.Common.{◌≡◌, ℕ, ℤ, ◌+◌, List, [], ◌∷◌, ◌++◌, Bool, false, Option, Some, None, Result, Ok, Err, if◌then◌else◌, refl, sym, ap, ◌∙◌, append-nil}
use Rattle.std.specs.Prelude.{pos}
use Rattle.aud_text.specs.declared.place.Pos.{Pos}
use Rattle.aud_text.specs.declared.raise.Raise.{Raise}
use Rattle.aud_typed.specs.Tree as tree
use Rattle.aud_typed.specs.Tree.{ValueExpression, Argument, CallForm, plainly, conditionally, timed, Callee, of_task, of_object, TaskName, Statement, declare_object, if_then, while_loop, exit, return_value, procedure_call, own_entry_call, operation_call, delay, abort, Part}
use Rattle.aud_meaning.specs.declared.state.Form.TheVariants.{TimedTo}
use Rattle.aud_meaning.specs.Configuration.{Target}
use Rattle.aud_meaning.specs.declared.state.Owner.TheVariants as owner
use Rattle.aud_meaning.specs.Evaluation.{with_value, evaluated, decided, value_of, delay_of, task_named, number_in, option_target, passed, Passed}
use Rattle.aud_meaning.specs.Control.{Scene, Asked, Called}
use Rattle.aud_meaning.specs.Control as asked
use Rattle.aud_meaning.specs.Statements.{or_raises, or_raises_in_part, branch, both, components, names_tasks, called, Entered, entered_with, asked_statement, asked_call, again_at, asked_requeue}
use Rattle.aud_code.specs.Instruction.{Instruction, Name, Mark, Ending, DeclareObject, If, While, Loop, Exit, ReturnValue, Proc, OwnCall, Operation, CallTask, CallObject, Delay, Abort, RequeueTask, Operands, no_operands, Ended}
use Rattle.aud_code.specs.Eval.{on_result, eval, form_in, asked_end, raised_by, asked_ended}
use Rattle.aud_layout.specs.Instructions.{value_code, integer_code, condition_code, delay_code, arguments_code, names_code, components_code, form_kind, called_code, call_code, call_end, requeue_code, requeue_end, entered_code, instructions_of, ending_of}
use Rattle.aud_layout.proofs.Asking.Evals.{Ends, with_assoc, with_into, with_passed, eval_integer, eval_condition, eval_value, eval_into, eval_delay, eval_arguments, eval_task}
use Rattle.aud_layout.proofs.Asking.Lists.{eval_names, eval_components}

-- code that ends a step
pub at_end : (stops : Bool) (s : Scene) (is : List Instruction) (o : Operands) → eval stops s is 0 o ≡ eval stops s (is ++ []) 0 o
at_end stops s is o = ap (λ js. eval stops s js 0 o) (sym (append-nil is))

module _ (loops : ℕ) (at : Pos) (s : Scene) where
  -- an evaluation, and then what is asked, or that it raises
  module _ (e : Ending) (here : (raise : Raise) → raised_by e raise at ≡ asked.raises_here raise at) where
    pub asks_then : {A B : Type 0} (r : Result A Raise) (f : A → Result B Raise) (ask : B → Asked) (go : A → Ended) (x : Ended) → x ≡ on_result r go → ((a : A) → asked_ended e loops at s (go a) ≡ or_raises (f a) at ask) → asked_ended e loops at s x ≡ or_raises (with_value r f) at ask
    asks_then (Ok a) f ask go x is next = ap (asked_ended e loops at s) is ∙ next a
    asks_then (Err raise) f ask go x is next = ap (asked_ended e loops at s) is ∙ here raise

    pub asks_last : {A : Type 0} (r : Result A Raise) (ask : A → Asked) (go : A → Ended) (x : Ended) → x ≡ on_result r go → ((a : A) → asked_ended e loops at s (go a) ≡ ask a) → asked_ended e loops at s x ≡ or_raises r at ask
    asks_last (Ok a) ask go x is next = ap (asked_ended e loops at s) is ∙ next a
    asks_last (Err raise) ask go x is next = ap (asked_ended e loops at s) is ∙ here raise

    -- arguments, and then the delay
    pub asks_called : (entry : ℕ) (arguments : List Argument) (form : CallForm) (ns : List ℕ) (ask : Called → Asked) →
        ((p : Passed) (d : ℕ) → asked_end e loops at s (record no_operands { values = p.values; backs = p.backs; names = ns; delay = d }) ≡ ask (record { entry = entry; passed = p; form = form_in (form_kind form) s.clock d; at = at })) →
        asked_ended e loops at s (Ends false s (called_code arguments form) (record no_operands { names = ns })) ≡ or_raises (called at entry arguments form s.clock s.sight) at ask
    asks_called entry arguments plainly ns ask k =
        let o = record no_operands { names = ns } in
        asks_then (passed arguments s.sight) _ ask (λ p. Ends false s [] (with_passed p o)) _ (eval_arguments false s arguments 0 [] o) (λ p. k p 0)
    asks_called entry arguments conditionally ns ask k =
        let o = record no_operands { names = ns } in
        asks_then (passed arguments s.sight) _ ask (λ p. Ends false s [] (with_passed p o)) _ (eval_arguments false s arguments 0 [] o) (λ p. k p 0)
    asks_called entry arguments (timed x) ns ask k =
        let o = record no_operands { names = ns } in
        asks_then (passed arguments s.sight) _ ask (λ p. Ends false s (delay_code x) (with_passed p o)) _ (eval_arguments false s arguments 0 (delay_code x) o) (λ p.
        asks_then (delay_of x s.sight) _ ask (λ ms. Ends false s [] (record (with_passed p o) { delay = ms })) _ (at_end false s (delay_code x) (with_passed p o) ∙ eval_delay false s x [] (with_passed p o)) (λ ms. k p ms)
        ∙ ap (λ r. or_raises r at ask) (sym (with_assoc (delay_of x s.sight) (λ ms. Ok (TimedTo (s.clock + ms))) (λ f. Ok (record { entry = entry; passed = p; form = f; at = at })))))

    -- where a function's value goes, and then the arguments
    pub asks_entered : (c : tree.Calling) (ask : Option Target → Passed → Asked) →
        ((into : Option Target) (p : Passed) → asked_end e loops at s (with_passed p (with_into into no_operands)) ≡ ask into p) →
        asked_ended e loops at s (Ends false s (entered_code c) no_operands) ≡ or_raises (entered_with c s.sight) at (λ x. ask x.into x.passed)
    asks_entered c ask k =
        let code = arguments_code 0 c.arguments in
        asks_then (option_target c.into s.sight) _ (λ x. ask x.into x.passed) (λ into. Ends false s code (with_into into no_operands)) _ (eval_into false s c.into code no_operands) (go)
      where
        go : (into : Option Target) → asked_ended e loops at s (Ends false s (arguments_code 0 c.arguments) (with_into into no_operands)) ≡ or_raises {A = Entered} (with_value (passed c.arguments s.sight) (λ p. Ok (record { into = into; passed = p }))) at (λ x. ask x.into x.passed)
        go None =
            let code = arguments_code 0 c.arguments in
            asks_then (passed c.arguments s.sight) _ (λ x. ask x.into x.passed) (λ p. Ends false s [] (with_passed p no_operands)) _ (at_end false s code no_operands ∙ eval_arguments false s c.arguments 0 [] no_operands) (λ p. k None p)
        go (Some t) =
            let code = arguments_code 0 c.arguments in
            let o = with_into (Some t) no_operands in
            asks_then (passed c.arguments s.sight) _ (λ x. ask x.into x.passed) (λ p. Ends false s [] (with_passed p o)) _ (at_end false s code o ∙ eval_arguments false s c.arguments 0 [] o) (λ p. k (Some t) p)

  pub asks_in_part : {A : Type 0} (e : Ending) (r : Result A Raise) (ask : A → Asked) (go : A → Ended) (x : Ended) → ((raise : Raise) → raised_by e raise at ≡ asked.raises_in_part raise at) → x ≡ on_result r go → ((a : A) → asked_ended e loops at s (go a) ≡ ask a) → asked_ended e loops at s x ≡ or_raises_in_part r at ask
  asks_in_part e (Ok a) ask go x here is next = ap (asked_ended e loops at s) is ∙ next a
  asks_in_part e (Err raise) ask go x here is next = ap (asked_ended e loops at s) is ∙ here raise

  -- a statement's code, from the step's first instruction
  abbrev pub Asks : Statement → Asked
  Asks a = asked_ended (ending_of a) loops at s (eval false s (instructions_of a) 0 no_operands)

  pub asks_object : (n : ℕ) (es : List ValueExpression) → Asks (declare_object at n es) ≡ asked_statement (declare_object at n es) loops s
  asks_object n es =
      let cells = pos s.objects ∷ [] in
      let o = record no_operands { cells = Some cells } in
      asks_in_part (DeclareObject n) (components es cells s.sight) (λ zs. asked.declares_object at n zs) (λ zs. Ends false s [] (record no_operands { cells = Some zs })) _ (λ raise. refl)
      (at_end false s (components_code es) o ∙ eval_components false s es cells [] no_operands) (λ zs. refl)

  asks_truth : (e : Ending) (here : (raise : Raise) → raised_by e raise at ≡ asked.raises_here raise at) (c : tree.BooleanExpression) (ask : Bool → Asked) → ((b : Bool) → asked_end e loops at s (record no_operands { booleans = b ∷ [] }) ≡ ask b) → asked_ended e loops at s (Ends false s (condition_code c) no_operands) ≡ or_raises (decided c s.sight) at ask
  asks_truth e here c ask k = asks_last e here (decided c s.sight) ask (λ b. Ends false s [] (record no_operands { booleans = b ∷ [] })) _ (at_end false s (condition_code c) no_operands ∙ eval_condition false s c [] no_operands) k

  pub asks_return : (e : ValueExpression) → Asks (return_value at e) ≡ asked_statement (return_value at e) loops s
  asks_return e = asks_last ReturnValue (λ raise. refl) (value_of e s.sight) (λ z. asked.goes_out loops (Some z)) (λ z. Ends false s [] (record no_operands { integers = z ∷ [] })) _ (at_end false s (value_code e) no_operands ∙ eval_value false s e [] no_operands) (λ z. refl)

  pub asks_delay : (e : tree.DelayExpression) → Asks (delay at e) ≡ asked_statement (delay at e) loops s
  asks_delay e = asks_last Delay (λ raise. refl) (delay_of e s.sight) (λ ms. asked.delays ms at) (λ ms. Ends false s [] (record no_operands { delay = ms })) _ (at_end false s (delay_code e) no_operands ∙ eval_delay false s e [] no_operands) (λ ms. refl)

  pub asks_abort : (ts : List TaskName) → Asks (abort at ts) ≡ asked_statement (abort at ts) loops s
  asks_abort ts = asks_last Abort (λ raise. refl) (names_tasks ts s.sight) (λ ns. asked.aborts ns at) (λ ns. Ends false s [] (record no_operands { names = ns })) _ (at_end false s (names_code ts) no_operands ∙ eval_names false s ts [] no_operands) (λ ns. refl)

  -- the bounds of a for loop
  pub asks_for : (f : tree.For) (a b : tree.IntegerExpression) → asked_ended (Loop f) loops at s (Ends false s (integer_code a ++ integer_code b) no_operands) ≡ or_raises (both (evaluated a s.sight) (evaluated b s.sight)) at (λ (xy : ℤ × ℤ). asked.enters_loop f xy.0 xy.1)
  asks_for f a b =
      asks_then (Loop f) (λ raise. refl) (evaluated a s.sight) _ (λ (xy : ℤ × ℤ). asked.enters_loop f xy.0 xy.1) (λ x. Ends false s (integer_code b) (record no_operands { integers = x ∷ [] })) _ (eval_integer false s a (integer_code b) no_operands) (λ x.
      let o = record no_operands { integers = x ∷ [] } in
      asks_then (Loop f) (λ raise. refl) (evaluated b s.sight) _ (λ (xy : ℤ × ℤ). asked.enters_loop f xy.0 xy.1) (λ y. Ends false s [] (record no_operands { integers = y ∷ x ∷ [] })) _ (at_end false s (integer_code b) o ∙ eval_integer false s b [] o) (λ y. refl))

  pub asks_call : (c : tree.EntryCall) (callee : Callee) → asked_ended (call_end callee c.entry c.form) loops at s (Ends false s (call_code callee c.arguments c.form) no_operands) ≡ asked_call at c callee s
  asks_call c (of_object v) =
      asks_called (CallObject v c.entry (form_kind c.form)) (λ raise. refl) c.entry c.arguments c.form [] (λ call. asked.calls_entry (owner.Object (number_in v s.sight)) call) (λ p d. refl)
  asks_call c (of_task t) =
      let e = CallTask c.entry (form_kind c.form) in
      let code = called_code c.arguments c.form in
      let ask = λ (x : ℕ × Called). asked.calls_entry (owner.Task x.0) x.1 in
      let go = λ (n : ℕ). Ends false s code (record no_operands { names = n ∷ [] }) in
      asks_then e (λ raise. refl) (task_named t s.sight) _ ask go _ (eval_task false s t Name (Mark ∷ code) no_operands go (λ z. refl)) (λ n.
      asks_called e (λ raise. refl) c.entry c.arguments c.form (n ∷ []) (λ call. asked.calls_entry (owner.Task n) call) (λ p d. refl)
      ∙ told n (called at c.entry c.arguments c.form s.clock s.sight))
    where
      told : (n : ℕ) (r : Result Called Raise) → or_raises r at (λ call. asked.calls_entry (owner.Task n) call) ≡ or_raises (with_value r (λ call. Ok (n, call))) at (λ (x : ℕ × Called). asked.calls_entry (owner.Task x.0) x.1)
      told n (Ok call) = refl
      told n (Err raise) = refl

  pub asks_requeue : (r : tree.Requeue) (callee : Callee) → asked_ended (requeue_end callee r) loops at s (Ends false s (requeue_code callee) no_operands) ≡ asked_requeue at r callee loops s
  asks_requeue r (of_object v) = refl
  asks_requeue r (of_task t) =
      let go = λ (n : ℕ). Ends false s [] (record no_operands { names = n ∷ [] }) in
      asks_last (RequeueTask r.entry r.with_formals r.with_abort) (λ raise. refl) (task_named t s.sight) (λ n. asked.requeues loops (again_at at r (owner.Task n))) go _ (eval_task false s t Name [] no_operands go (λ z. refl)) (λ n. refl)

  pub asks_procedure : (c : tree.Calling) → Asks (procedure_call at c) ≡ asked_statement (procedure_call at c) loops s
  asks_procedure c = asks_entered (Proc c.unit) (λ raise. refl) c (λ into p. asked.calls_procedure at c.unit p into) (go)
    where
      go : (into : Option Target) (p : Passed) → asked_end (Proc c.unit) loops at s (with_passed p (with_into into no_operands)) ≡ asked.calls_procedure at c.unit p into
      go None p = refl
      go (Some t) p = refl

  pub asks_operation : (v : _) (c : tree.Calling) → Asks (operation_call at v c) ≡ asked_statement (operation_call at v c) loops s
  asks_operation v c = asks_entered (Operation v c.unit) (λ raise. refl) c (λ into p. asked.calls_operation at (number_in v s.sight) c.unit p into) (go)
    where
      go : (into : Option Target) (p : Passed) → asked_end (Operation v c.unit) loops at s (with_passed p (with_into into no_operands)) ≡ asked.calls_operation at (number_in v s.sight) c.unit p into
      go None p = refl
      go (Some t) p = refl

  pub asks_own : (es : List Argument) (form : CallForm) → Asks (own_entry_call at es form) ≡ asked_statement (own_entry_call at es form) loops s
  asks_own es form = asks_called OwnCall (λ raise. refl) 0 es form [] (λ e. asked.calls_own_entry at) (λ p d. refl)

  pub asks_if : (e : tree.BooleanExpression) (a : Statement) (p : Part) → Asks (if_then at e a p) ≡ asked_statement (if_then at e a p) loops s
  asks_if e a p = asks_truth If (λ raise. refl) e (λ b. asked.goes_on (branch b)) (λ b. refl)

  pub asks_while : (e : tree.BooleanExpression) (a : Statement) → Asks (while_loop at e a) ≡ asked_statement (while_loop at e a) loops s
  asks_while e a = asks_truth While (λ raise. refl) e (λ b. asked.goes_on (branch b)) (λ b. refl)

  pub asks_exit : (n : ℕ) (e : tree.BooleanExpression) → Asks (exit at n e) ≡ asked_statement (exit at n e) loops s
  asks_exit n e = asks_truth Exit (λ raise. refl) e (λ b. if b then asked.goes_out loops None else asked.goes_on 0) (λ b. refl)

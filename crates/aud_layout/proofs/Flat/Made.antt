-- The instructions of expressions and statements are fine.
use Rattle.std.proofs.Common.{◌≡◌, ℕ, suc, ◌+◌, List, [], ◌∷◌, ◌++◌, length, true, false, Option, Some, None, refl, sym, subst, append_assoc, append-nil}
use Rattle.aud_typed.specs.Tree as tree
use Rattle.aud_typed.specs.Tree.{IntegerExpression, number, variable, element, unary, binary, count, Reference, scalar, component, TaskName, single, indexed, BooleanExpression, truth, stored, negation, relation, comparison, logical, and_then, or_else, callable, terminated, ValueExpression, whole, boolean, TextExpression, literal, image, image_truth, join, new_line, DelayExpression, milliseconds, seconds, Argument, by_value, by_copy, CallForm, plainly, conditionally, timed, Callee, of_task, of_object, Statement, declare, declare_object, assign, put, if_then, while_loop, for_loop, exit, return_value, procedure_call, own_entry_call, operation_call, entry_call, delay, select, abort, Alternatives, no_alternatives, accepting, delaying, terminating, requeue}
use Rattle.aud_meaning.specs.Statements.{region_of}
use Rattle.aud_code.specs.Instruction.{Instruction, LoadElement, OnOne, OnTwo, Check, Cell, Truth, Negate, Relate, Compare, Combine, PassIfFalse, PassIfTrue, IsCallable, IsTerminated, FindElement, LoadFound, Pass, PassCopy, AppendImage, AppendTruth, Name, Seconds, Component, OpensAccept, OpensDelay, OpensTerminate, Mark, SetTime}
use Rattle.aud_layout.specs.Instructions.{integer_code, loaded_code, reference_code, task_code, condition_code, value_code, text_code, delay_code, into_code, copied_code, arguments_code, form_code, components_code, names_code, guards_code, timed_code, delays_code, called_code, call_code, call_end, requeue_code, requeue_end, entered_code, instructions_of, ending_of}
use Rattle.aud_code.specs.Sound.{Counts, no_counts, AreFine, EndingFine}

module _ (End : Counts → Type 0) where
  said : (a b : List Instruction) (c : Counts) → a ≡ b → AreFine End b 0 c → AreFine End a 0 c
  said a b c e h = subst (λ is. AreFine End is 0 c) (sym e) h

  pub whole_code : (a : List Instruction) (c : Counts) → AreFine End (a ++ []) 0 c → AreFine End a 0 c
  whole_code a c h = subst (λ is. AreFine End is 0 c) (append-nil a) h

  passed : (is rest : List Instruction) (c : Counts) → AreFine End rest 0 c → AreFine End (is ++ rest) (length is) c
  passed [] rest c h = h
  passed (i ∷ is) rest c h = passed is rest c h

  pub fine_integer : (e : IntegerExpression) (rest : List Instruction) (c : Counts) → AreFine End rest 0 (record c { integers = suc c.integers }) → AreFine End (integer_code e ++ rest) 0 c
  fine_integer (number z) rest c h = h
  fine_integer (variable v) rest c h = h
  fine_integer (count v entry) rest c h = h
  fine_integer (element a e) rest c h = said _ _ c (append_assoc (integer_code e) (LoadElement a ∷ []) rest) (fine_integer e (LoadElement a ∷ rest) c h)
  fine_integer (unary f x) rest c h = said _ _ c (append_assoc (integer_code x) (OnOne f ∷ []) rest) (fine_integer x (OnOne f ∷ rest) c h)
  fine_integer (binary f x y) rest c h =
      let flat : integer_code (binary f x y) ++ rest ≡ integer_code x ++ (integer_code y ++ (OnTwo f ∷ rest)) = simp append_assoc in
      said _ _ c flat (fine_integer x (integer_code y ++ (OnTwo f ∷ rest)) c (fine_integer y (OnTwo f ∷ rest) (record c { integers = suc c.integers }) h))

  pub fine_loaded : (r : Reference) (rest : List Instruction) (c : Counts) → AreFine End rest 0 (record c { integers = suc c.integers }) → AreFine End (loaded_code r ++ rest) 0 c
  fine_loaded (scalar v t) rest c h = h
  fine_loaded (component a e t) rest c h = said _ _ c (append_assoc (integer_code e) (LoadElement a ∷ []) rest) (fine_integer e (LoadElement a ∷ rest) c h)

  pub fine_task : (t : TaskName) (rest : List Instruction) (c : Counts) → AreFine End rest 0 (record c { integers = suc c.integers }) → AreFine End (task_code t ++ rest) 0 c
  fine_task (single v) rest c h = h
  fine_task (indexed a e) rest c h = said _ _ c (append_assoc (integer_code e) (LoadElement a ∷ []) rest) (fine_integer e (LoadElement a ∷ rest) c h)

  pub fine_reference : (r : Reference) (rest : List Instruction) (c : Counts) → AreFine End rest 0 (record c { targets = suc c.targets }) → AreFine End (reference_code r ++ rest) 0 c
  fine_reference (scalar v t) rest c h = h
  fine_reference (component a e t) rest c h = said _ _ c (append_assoc (integer_code e) (FindElement a t ∷ []) rest) (fine_integer e (FindElement a t ∷ rest) c h)

  pub fine_condition : (e : BooleanExpression) (rest : List Instruction) (c : Counts) → AreFine End rest 0 (record c { booleans = suc c.booleans }) → AreFine End (condition_code e ++ rest) 0 c
  fine_condition (truth b) rest c h = h
  fine_condition (stored r) rest c h = said _ _ c (append_assoc (loaded_code r) (Truth ∷ []) rest) (fine_loaded r (Truth ∷ rest) c h)
  fine_condition (negation x) rest c h = said _ _ c (append_assoc (condition_code x) (Negate ∷ []) rest) (fine_condition x (Negate ∷ rest) c h)
  fine_condition (relation f x y) rest c h =
      let flat : condition_code (relation f x y) ++ rest ≡ integer_code x ++ (integer_code y ++ (Relate f ∷ rest)) = simp append_assoc in
      said _ _ c flat (fine_integer x (integer_code y ++ (Relate f ∷ rest)) c (fine_integer y (Relate f ∷ rest) (record c { integers = suc c.integers }) h))
  fine_condition (comparison f x y) rest c h =
      let flat : condition_code (comparison f x y) ++ rest ≡ condition_code x ++ (condition_code y ++ (Compare f ∷ rest)) = simp append_assoc in
      said _ _ c flat (fine_condition x (condition_code y ++ (Compare f ∷ rest)) c (fine_condition y (Compare f ∷ rest) (record c { booleans = suc c.booleans }) h))
  fine_condition (logical f x y) rest c h =
      let flat : condition_code (logical f x y) ++ rest ≡ condition_code x ++ (condition_code y ++ (Combine f ∷ rest)) = simp append_assoc in
      said _ _ c flat (fine_condition x (condition_code y ++ (Combine f ∷ rest)) c (fine_condition y (Combine f ∷ rest) (record c { booleans = suc c.booleans }) h))
  fine_condition (and_then x y) rest c h =
      let cy = condition_code y in
      said _ _ c (append_assoc (condition_code x) (PassIfFalse (length cy) ∷ cy) rest) (fine_condition x (PassIfFalse (length cy) ∷ (cy ++ rest)) c (fine_condition y rest c h, passed cy rest (record c { booleans = suc c.booleans }) h))
  fine_condition (or_else x y) rest c h =
      let cy = condition_code y in
      said _ _ c (append_assoc (condition_code x) (PassIfTrue (length cy) ∷ cy) rest) (fine_condition x (PassIfTrue (length cy) ∷ (cy ++ rest)) c (fine_condition y rest c h, passed cy rest (record c { booleans = suc c.booleans }) h))
  fine_condition (callable t) rest c h = said _ _ c (append_assoc (task_code t) (IsCallable ∷ []) rest) (fine_task t (IsCallable ∷ rest) c h)
  fine_condition (terminated t) rest c h = said _ _ c (append_assoc (task_code t) (IsTerminated ∷ []) rest) (fine_task t (IsTerminated ∷ rest) c h)

  pub fine_value : (e : ValueExpression) (rest : List Instruction) (c : Counts) → AreFine End rest 0 (record c { integers = suc c.integers }) → AreFine End (value_code e ++ rest) 0 c
  fine_value (whole t e) rest c h = said _ _ c (append_assoc (integer_code e) (Check t ∷ []) rest) (fine_integer e (Check t ∷ rest) c h)
  fine_value (boolean e) rest c h = said _ _ c (append_assoc (condition_code e) (Cell ∷ []) rest) (fine_condition e (Cell ∷ rest) c h)

  pub fine_text : (t : TextExpression) (rest : List Instruction) (c : Counts) → AreFine End rest 0 c → AreFine End (text_code t ++ rest) 0 c
  fine_text (literal text) rest c h = h
  fine_text new_line rest c h = h
  fine_text (image e) rest c h = said _ _ c (append_assoc (integer_code e) (AppendImage ∷ []) rest) (fine_integer e (AppendImage ∷ rest) c h)
  fine_text (image_truth e) rest c h = said _ _ c (append_assoc (condition_code e) (AppendTruth ∷ []) rest) (fine_condition e (AppendTruth ∷ rest) c h)
  fine_text (join x y) rest c h = said _ _ c (append_assoc (text_code x) (text_code y) rest) (fine_text x (text_code y ++ rest) c (fine_text y rest c h))

  pub fine_delay : (e : DelayExpression) (rest : List Instruction) (c : Counts) → AreFine End rest 0 c → AreFine End (delay_code e ++ rest) 0 c
  fine_delay (milliseconds n) rest c h = h
  fine_delay (seconds e) rest c h = said _ _ c (append_assoc (integer_code e) (Seconds ∷ []) rest) (fine_integer e (Seconds ∷ rest) c h)

  pub fine_arguments : (n : ℕ) (args : List Argument) (rest : List Instruction) (c : Counts) → AreFine End rest 0 c → AreFine End (arguments_code n args ++ rest) 0 c
  fine_arguments n [] rest c h = h
  fine_arguments n (by_value e ∷ more) rest c h =
      let cs = arguments_code (n + 1) more in
      let flat : arguments_code n (by_value e ∷ more) ++ rest ≡ value_code e ++ (Pass ∷ (cs ++ rest)) = simp append_assoc in
      said _ _ c flat (fine_value e (Pass ∷ (cs ++ rest)) c (fine_arguments (n + 1) more rest c h))
  fine_arguments n (by_copy true formal r ∷ more) rest c h =
      let cs = arguments_code (n + 1) more in
      let flat : arguments_code n (by_copy true formal r ∷ more) ++ rest ≡ reference_code r ++ (LoadFound ∷ Check formal ∷ PassCopy n ∷ (cs ++ rest)) = simp append_assoc in
      said _ _ c flat (fine_reference r (LoadFound ∷ Check formal ∷ PassCopy n ∷ (cs ++ rest)) c (fine_arguments (n + 1) more rest c h))
  fine_arguments n (by_copy false formal r ∷ more) rest c h =
      let cs = arguments_code (n + 1) more in
      let cc = copied_code false formal in
      let flat : arguments_code n (by_copy false formal r ∷ more) ++ rest ≡ reference_code r ++ (cc ++ (PassCopy n ∷ (cs ++ rest))) = simp append_assoc in
      said _ _ c flat (fine_reference r (cc ++ (PassCopy n ∷ (cs ++ rest))) c (fine_arguments (n + 1) more rest c h))

  pub fine_form : (f : CallForm) (c : Counts) → End c → AreFine End (form_code f) 0 c
  fine_form plainly c h = h
  fine_form conditionally c h = h
  fine_form (timed e) c h = whole_code (delay_code e) c (fine_delay e [] c h)

  pub fine_called : (args : List Argument) (f : CallForm) (c : Counts) → End c → AreFine End (called_code args f) 0 c
  fine_called args f c h = fine_arguments 0 args (form_code f) c (fine_form f c h)

  pub fine_components : (es : List ValueExpression) (c : Counts) → End c → AreFine End (components_code es) 0 c
  fine_components [] c h = h
  fine_components (e ∷ es) c h = fine_value e (Component ∷ components_code es) c (fine_components es c h)

  pub fine_names : (ts : List TaskName) (c : Counts) → ((d : Counts) → End d) → AreFine End (names_code ts) 0 c
  fine_names [] c h = h c
  fine_names (t ∷ ts) c h = fine_task t (Name ∷ names_code ts) c (fine_names ts (record c { names = suc c.names }) h)

  pub fine_guards : (n : ℕ) (o : Alternatives) (rest : List Instruction) (c : Counts) → AreFine End rest 0 c → AreFine End (guards_code n o ++ rest) 0 c
  fine_guards n no_alternatives rest c h = h
  fine_guards n (accepting g at e d p more) rest c h =
      let i = OpensAccept (record { alternative = n; entry = e; at = at; region = region_of d }) in
      said _ _ c (append_assoc (condition_code g) (i ∷ guards_code (suc n) more) rest) (fine_condition g (i ∷ (guards_code (suc n) more ++ rest)) c (fine_guards (suc n) more rest c h))
  fine_guards n (delaying g e p more) rest c h =
      said _ _ c (append_assoc (condition_code g) (OpensDelay n ∷ guards_code (suc n) more) rest) (fine_condition g (OpensDelay n ∷ (guards_code (suc n) more ++ rest)) c (fine_guards (suc n) more rest c h))
  fine_guards n (terminating g more) rest c h =
      said _ _ c (append_assoc (condition_code g) (OpensTerminate ∷ guards_code (suc n) more) rest) (fine_condition g (OpensTerminate ∷ (guards_code (suc n) more ++ rest)) c (fine_guards (suc n) more rest c h))

  pub fine_delays : (n : ℕ) (o : Alternatives) (c : Counts) → End c → AreFine End (delays_code n o) 0 c
  fine_delays n no_alternatives c h = h
  fine_delays n (accepting g at e d p more) c h = fine_delays (suc n) more c h
  fine_delays n (terminating g more) c h = fine_delays (suc n) more c h
  fine_delays n (delaying g e p more) c h =
      let cs = delays_code (suc n) more in
      let later = fine_delays (suc n) more c h in
      (said _ _ c (append_assoc (delay_code e) (SetTime n ∷ []) cs) (fine_delay e (SetTime n ∷ cs) c later), passed (timed_code n e) cs c later)

  pub fine_into : (r : Option Reference) (rest : List Instruction) (c : Counts) → ((d : Counts) → AreFine End rest 0 d) → AreFine End (into_code r ++ rest) 0 c
  fine_into None rest c h = h c
  fine_into (Some r) rest c h = fine_reference r rest c (h (record c { targets = suc c.targets }))

  pub fine_entered : (c : tree.Calling) (k : Counts) → ((d : Counts) → End d) → AreFine End (entered_code c) 0 k
  fine_entered c k h = fine_into c.into (arguments_code 0 c.arguments) k (λ d. whole_code (arguments_code 0 c.arguments) d (fine_arguments 0 c.arguments [] d (h d)))

fine_call : (c : tree.EntryCall) (callee : Callee) → AreFine (EndingFine (call_end callee c.entry c.form)) (call_code callee c.arguments c.form) 0 no_counts
fine_call c (of_task t) = fine_task _ t _ no_counts (fine_called _ c.arguments c.form (record no_counts { names = 1 }) tt)
fine_call c (of_object v) = fine_called _ c.arguments c.form no_counts tt

fine_requeue : (r : tree.Requeue) (callee : Callee) → AreFine (EndingFine (requeue_end callee r)) (requeue_code callee) 0 no_counts
fine_requeue r (of_task t) = fine_task _ t (Name ∷ []) no_counts tt
fine_requeue r (of_object v) = tt

-- each statement's step finds its operands
pub fine_statement : (a : Statement) → AreFine (EndingFine (ending_of a)) (instructions_of a) 0 no_counts
fine_statement (declare at up_to e) = whole_code _ (value_code e) no_counts (fine_value _ e [] no_counts tt)
fine_statement (declare_object at n es) = fine_components _ es (record no_counts { cells = true }) refl
fine_statement (assign at r e) = fine_reference _ r (value_code e) no_counts (whole_code _ (value_code e) _ (fine_value _ e [] (record no_counts { targets = 1 }) tt))
fine_statement (put at t) = whole_code _ (text_code t) no_counts (fine_text _ t [] no_counts tt)
fine_statement (if_then at e a p) = whole_code _ (condition_code e) no_counts (fine_condition _ e [] no_counts tt)
fine_statement (while_loop at e a) = whole_code _ (condition_code e) no_counts (fine_condition _ e [] no_counts tt)
fine_statement (for_loop f a b s) = fine_integer _ a (integer_code b) no_counts (whole_code _ (integer_code b) _ (fine_integer _ b [] (record no_counts { integers = 1 }) tt))
fine_statement (exit at n e) = whole_code _ (condition_code e) no_counts (fine_condition _ e [] no_counts tt)
fine_statement (return_value at e) = whole_code _ (value_code e) no_counts (fine_value _ e [] no_counts tt)
fine_statement (procedure_call at c) = fine_entered _ c no_counts (λ d. tt)
fine_statement (own_entry_call at es f) = fine_called _ es f no_counts tt
fine_statement (operation_call at v c) = fine_entered _ c no_counts (λ d. tt)
fine_statement (entry_call at c p q) = fine_call c c.callee
fine_statement (delay at e) = whole_code _ (delay_code e) no_counts (fine_delay _ e [] no_counts tt)
fine_statement (select at offered p) = fine_guards _ 1 offered (Mark ∷ delays_code 1 offered) no_counts (fine_delays _ 1 offered no_counts tt)
fine_statement (abort at ts) = fine_names _ ts no_counts (λ d. tt)
fine_statement (requeue at r) = fine_requeue r r.callee
fine_statement a = tt

-- Numbers of frames: what is written at places, and that the instructions of scoped expressions name variables of open frames.
use Rattle.std.proofs.Common.{◌≡◌, ◌⊎◌, inl, inr, ℕ, zero, suc, ◌+◌, ◌≤◌, ◌<◌, List, [], ◌∷◌, ◌++◌, length, slice_get, true, false, Option, Some, None, refl, sym, ap, ◌∙◌, subst, arith, length-append}
use Rattle.std.proofs.lemmas.Bool.{cases_lt}
use Rattle.aud_typed.specs.declared.program.Variable.{Variable}
use Rattle.aud_typed.specs.declared.program.ArrayAt.{ArrayAt}
use Rattle.aud_typed.specs.Tree.{IntegerExpression, number, variable, element, unary, binary, count, Reference, scalar, component, TaskName, single, indexed, BooleanExpression, truth, stored, negation, relation, comparison, logical, and_then, or_else, callable, terminated, ValueExpression, whole, boolean, TextExpression, literal, image, image_truth, join, new_line, DelayExpression, milliseconds, seconds, Argument, by_value, by_copy, CallForm, plainly, conditionally, timed, Callee, of_task, of_object, Statement, sequence, declare, declare_array, declare_tasks, declare_object, assign, put, if_then, while_loop, for_loop, exit, return_value, procedure_call, own_entry_call, operation_call, entry_call, delay, select, abort, Alternatives, no_alternatives, accepting, delaying, terminating, Plan, requeue}
use Rattle.aud_typed.specs.Why.Scoped.{Elaborated, Scope, cells_at, IsElaborated, AreElaborated, IntegerScoped, ReferenceScoped, TaskScoped, AllTasksScoped, BooleanScoped, ValueScoped, ArgumentScoped, ArgumentsScoped, TextScoped, DelayScoped, FormScoped, CalleeScoped, IntoScoped, ComponentsScoped, own_number, in_innermost, declared_up_to, declared_with, scope_after, Entry, AreOpen, StatementScoped, AlternativesScoped}
use Rattle.aud_code.specs.Instruction.{Instruction}
use Rattle.aud_code.specs.Frames.{IsWritten}
use Rattle.aud_code.specs.Seen.{ArrayOpen, Fewer, OutSees}
use Rattle.aud_code.specs.Seen as seen
use Rattle.aud_layout.specs.Layout.{What, does}
use Rattle.aud_layout.specs.Assembly.{instructions_by}
use Rattle.aud_layout.specs.Instructions.{integer_code, loaded_code, reference_code, task_code, names_code, condition_code, value_code, text_code, into_code, argument_code, arguments_code, delay_code, form_code, components_code, called_code, call_code, requeue_code, guards_code, timed_code, delays_code}

pub is_written : (o : Option ℕ) (n : ℕ) (P : ℕ → Type 0) → o ≡ Some n → P n → IsWritten o P
is_written o n P e p = subst (λ x. IsWritten x P) (sym e) p

written_more : (o : Option ℕ) (P Q : ℕ → Type 0) → ((m : ℕ) → P m → Q m) → IsWritten o P → IsWritten o Q
written_more None P Q f h = h
written_more (Some n) P Q f h = f n h

module _ (seen : List ℕ) where
  pub same_there : (place n : ℕ) → slice_get seen place ≡ Some n → Fewer seen 0 n place
  same_there place n e = is_written (slice_get seen place) n (λ m. m + 0 ≡ n) e (omega arith)

  pub one_there : (place n : ℕ) → slice_get seen place ≡ Some n → Fewer seen 1 (suc n) place
  one_there place n e = is_written (slice_get seen place) n (λ m. m + 1 ≡ suc n) e (omega arith)

  pub one_out : (k n place : ℕ) → Fewer seen k n place → Fewer seen (suc k) (suc n) place
  one_out k n place h = written_more (slice_get seen place) (λ m. m + k ≡ n) (λ m. m + suc k ≡ suc n) (λ m e. omega (arith, e)) h

  pub out_same : (w : Option ℕ) (n place : ℕ) → Fewer seen 0 n place → OutSees seen w n place
  out_same None n place h = h
  out_same (Some opened) n place h = written_more (slice_get seen place) (λ m. m + 0 ≡ n) (λ m. m ≤ n) (λ m e. omega (arith, e)) h

  pub out_more : (w : Option ℕ) (opened n place : ℕ) → OutSees seen w n place → OutSees seen (Some opened) (suc n) place
  out_more None opened n place h = written_more (slice_get seen place) (λ m. m + 0 ≡ n) (λ m. m ≤ suc n) (λ m e. omega (arith, e)) h
  out_more (Some other) opened n place h = written_more (slice_get seen place) (λ m. m ≤ n) (λ m. m ≤ suc n) (λ m e. omega (arith, e)) h

-- Lengths of scopes.

in_innermost_long : (f : Elaborated → Elaborated) (scope : Scope) → length (in_innermost f scope) ≡ length scope
in_innermost_long f [] = refl
in_innermost_long f (e ∷ []) = refl
in_innermost_long f (e ∷ x ∷ es) = ap suc (in_innermost_long f (x ∷ es))

pub after_long : (s : Statement) (scope : Scope) → length (scope_after s scope) ≡ length scope
after_long (sequence a b) scope = after_long b (scope_after a scope) ∙ after_long a scope
after_long (declare at up_to e) scope = in_innermost_long (declared_up_to up_to) scope
after_long (declare_array at t n) scope = in_innermost_long (declared_with n) scope
after_long (declare_tasks at ts) scope = in_innermost_long (declared_with ts.length) scope
after_long (declare_object at n es) scope = in_innermost_long (declared_with 1) scope
after_long s scope = refl

pub one_longer : (scope : Scope) (e : Elaborated) (n : ℕ) → length scope ≡ n → length (scope ++ e ∷ []) ≡ suc n
one_longer scope e n is = let l = length-append scope (e ∷ []) in omega (arith, l, is)

pub open_long : (es scope : Scope) → AreOpen es scope → length es ≤ length scope
open_long [] scope h = omega arith
open_long (e ∷ es) [] h = absurd h
open_long (e ∷ es) (x ∷ xs) h = let l = open_long es xs h.1 in omega (arith, l)

-- Variables of open frames.

level_open : (level : ℕ) (scope : Scope) → 0 < cells_at level scope → level < length scope
level_open zero [] h = absurd (omega (arith, h))
level_open (suc n) [] h = absurd (omega (arith, h))
level_open zero (e ∷ es) h = omega arith
level_open (suc n) (e ∷ es) h = let l = level_open n es h in omega (arith, l)

pub variable_open : (v : Variable) (scope : Scope) → IsElaborated v scope → v.level < length scope
variable_open v scope h = level_open v.level scope (omega (arith, h))

array_open : (a : ArrayAt) (scope : Scope) → AreElaborated a scope → ArrayOpen a (length scope)
array_open a scope h = by (cases_lt 0 a.length) where
  by : (0 < a.length) ⊎ (a.length ≤ 0) → ArrayOpen a (length scope)
  by (inl some) = inr (level_open a.first.level scope (omega (arith, some, h)))
  by (inr none) = inl (omega (arith, none))

abbrev pub AllOpen : ℕ → List Instruction → Type 0
AllOpen n is = seen.AllOpen is n

-- those of a step; where it declares an object, that is open behind the first one
abbrev pub StepOpen : ℕ → What → Type 0
StepOpen n (does (declare_object at k es)) = AllOpen (suc n) (components_code es)
StepOpen n w = AllOpen n (instructions_by w)

both : (n : ℕ) (is js : List Instruction) → AllOpen n is → AllOpen n js → AllOpen n (is ++ js)
both n [] js h k = k
both n (i ∷ is) js h k = (h.0, both n is js h.1 k)

module _ (plan : Plan) (scope : Scope) where
  abbrev N : ℕ
  N = length scope

  integer_open : (e : IntegerExpression) → IntegerScoped plan e scope → AllOpen N (integer_code e)
  integer_open (number z) h = (tt, tt)
  integer_open (variable v) h = (variable_open v scope h, tt)
  integer_open (element a e) h = both N (integer_code e) _ (integer_open e h.1) (array_open a scope h.0, tt)
  integer_open (unary f x) h = both N (integer_code x) _ (integer_open x h) (tt, tt)
  integer_open (binary f x y) h = both N (integer_code x) _ (integer_open x h.0) (both N (integer_code y) _ (integer_open y h.1) (tt, tt))
  integer_open (count v entry) h = (variable_open v scope h.0, tt)

  loaded_open : (r : Reference) → ReferenceScoped plan r scope → AllOpen N (loaded_code r)
  loaded_open (scalar v t) h = (variable_open v scope h, tt)
  loaded_open (component a e t) h = both N (integer_code e) _ (integer_open e h.1) (array_open a scope h.0, tt)

  reference_open : (r : Reference) → ReferenceScoped plan r scope → AllOpen N (reference_code r)
  reference_open (scalar v t) h = (variable_open v scope h, tt)
  reference_open (component a e t) h = both N (integer_code e) _ (integer_open e h.1) (array_open a scope h.0, tt)

  task_open : (t : TaskName) → TaskScoped plan t scope → AllOpen N (task_code t)
  task_open (single v) h = (variable_open v scope h, tt)
  task_open (indexed a e) h = both N (integer_code e) _ (integer_open e h.1) (array_open a scope h.0, tt)

  tasks_open : (ts : List TaskName) → AllTasksScoped plan ts scope → AllOpen N (names_code ts)
  tasks_open [] h = tt
  tasks_open (t ∷ ts) h = both N (task_code t) _ (task_open t h.0) (tt, tasks_open ts h.1)

  pub condition_open : (e : BooleanExpression) → BooleanScoped plan e scope → AllOpen N (condition_code e)
  condition_open (truth b) h = (tt, tt)
  condition_open (stored r) h = both N (loaded_code r) _ (loaded_open r h) (tt, tt)
  condition_open (negation x) h = both N (condition_code x) _ (condition_open x h) (tt, tt)
  condition_open (relation f x y) h = both N (integer_code x) _ (integer_open x h.0) (both N (integer_code y) _ (integer_open y h.1) (tt, tt))
  condition_open (comparison f x y) h = both N (condition_code x) _ (condition_open x h.0) (both N (condition_code y) _ (condition_open y h.1) (tt, tt))
  condition_open (logical f x y) h = both N (condition_code x) _ (condition_open x h.0) (both N (condition_code y) _ (condition_open y h.1) (tt, tt))
  condition_open (and_then x y) h = both N (condition_code x) _ (condition_open x h.0) (tt, condition_open y h.1)
  condition_open (or_else x y) h = both N (condition_code x) _ (condition_open x h.0) (tt, condition_open y h.1)
  condition_open (callable t) h = both N (task_code t) _ (task_open t h) (tt, tt)
  condition_open (terminated t) h = both N (task_code t) _ (task_open t h) (tt, tt)

  value_open : (e : ValueExpression) → ValueScoped plan e scope → AllOpen N (value_code e)
  value_open (whole t e) h = both N (integer_code e) _ (integer_open e h) (tt, tt)
  value_open (boolean e) h = both N (condition_code e) _ (condition_open e h) (tt, tt)

  text_open : (t : TextExpression) → TextScoped plan t scope → AllOpen N (text_code t)
  text_open (literal text) h = (tt, tt)
  text_open (image e) h = both N (integer_code e) _ (integer_open e h) (tt, tt)
  text_open (image_truth e) h = both N (condition_code e) _ (condition_open e h) (tt, tt)
  text_open (join x y) h = both N (text_code x) _ (text_open x h.0) (text_open y h.1)
  text_open new_line h = (tt, tt)

  argument_open : (n : ℕ) (a : Argument) → ArgumentScoped plan a scope → AllOpen N (argument_code n a)
  argument_open n (by_value e) h = both N (value_code e) _ (value_open e h) (tt, tt)
  argument_open n (by_copy true formal r) h = both N (reference_code r) _ (reference_open r h) (tt, (tt, (tt, tt)))
  argument_open n (by_copy false formal r) h = both N (reference_code r) _ (reference_open r h) (tt, (tt, tt))

  arguments_open : (n : ℕ) (xs : List Argument) → ArgumentsScoped plan xs scope → AllOpen N (arguments_code n xs)
  arguments_open n [] h = tt
  arguments_open n (x ∷ xs) h = both N (argument_code n x) _ (argument_open n x h.0) (arguments_open (n + 1) xs h.1)

  delay_open : (e : DelayExpression) → DelayScoped plan e scope → AllOpen N (delay_code e)
  delay_open (milliseconds n) h = (tt, tt)
  delay_open (seconds e) h = both N (integer_code e) _ (integer_open e h) (tt, tt)

  form_open : (f : CallForm) → FormScoped plan f scope → AllOpen N (form_code f)
  form_open plainly h = tt
  form_open conditionally h = tt
  form_open (timed e) h = delay_open e h

  called_open : (xs : List Argument) (f : CallForm) → ArgumentsScoped plan xs scope → FormScoped plan f scope → AllOpen N (called_code xs f)
  called_open xs f h k = both N (arguments_code 0 xs) _ (arguments_open 0 xs h) (form_open f k)

  call_open : (c : Callee) (xs : List Argument) (f : CallForm) → CalleeScoped plan c scope → ArgumentsScoped plan xs scope → FormScoped plan f scope → AllOpen N (call_code c xs f)
  call_open (of_task t) xs f h k l = both N (task_code t) _ (task_open t h) (tt, (tt, called_open xs f k l))
  call_open (of_object v) xs f h k l = called_open xs f k l

  requeue_open : (c : Callee) → CalleeScoped plan c scope → AllOpen N (requeue_code c)
  requeue_open (of_task t) h = both N (task_code t) _ (task_open t h) (tt, tt)
  requeue_open (of_object v) h = tt

  into_open : (r : Option Reference) → IntoScoped plan r scope → AllOpen N (into_code r)
  into_open None h = tt
  into_open (Some r) h = reference_open r h

-- of an object that is declared, each sees the earlier ones
components_open : (plan : Plan) (scope : Scope) (es : List ValueExpression) (own : Elaborated) → ComponentsScoped plan es own scope → AllOpen (suc (length scope)) (components_code es)
components_open plan scope [] own h = tt
components_open plan scope (e ∷ es) own h =
    both (suc (length scope)) (value_code e) _ (subst (λ n. AllOpen n (value_code e)) (one_longer scope own (length scope) refl) (value_open plan (scope ++ own ∷ []) e h.0)) (tt, components_open plan scope es (declared_with 1 own) h.1)

module _ (scope : Scope) where
  abbrev M : ℕ
  M = length scope

  module _ (plan : Plan) (entries : List Entry) where
    guards_open : (n : ℕ) (o : Alternatives) → AlternativesScoped plan entries o scope → AllOpen M (guards_code n o)
    guards_open n no_alternatives h = tt
    guards_open n (accepting g at e d p more) h = both M (condition_code g) _ (condition_open plan scope g h.0) (tt, guards_open (suc n) more h.4)
    guards_open n (delaying g e p more) h = both M (condition_code g) _ (condition_open plan scope g h.0) (tt, guards_open (suc n) more h.3)
    guards_open n (terminating g more) h = both M (condition_code g) _ (condition_open plan scope g h.0) (tt, guards_open (suc n) more h.1)

    delays_open : (n : ℕ) (o : Alternatives) → AlternativesScoped plan entries o scope → AllOpen M (delays_code n o)
    delays_open n no_alternatives h = tt
    delays_open n (accepting g at e d p more) h = delays_open (suc n) more h.4
    delays_open n (delaying g e p more) h = (tt, both M (timed_code n e) _ (both M (delay_code e) _ (delay_open plan scope e h.1) (tt, tt)) (delays_open (suc n) more h.3))
    delays_open n (terminating g more) h = delays_open (suc n) more h.1

    -- of a statement's own step
    statement_open : (s : Statement) → StatementScoped plan entries s scope → StepOpen M (does s)
    statement_open (declare at up_to e) h = value_open plan scope e h
    statement_open (assign at r e) h = both M (reference_code r) _ (reference_open plan scope r h.0) (value_open plan scope e h.1)
    statement_open (put at t) h = text_open plan scope t h
    statement_open (if_then at e a p) h = condition_open plan scope e h.0
    statement_open (while_loop at e a) h = condition_open plan scope e h.0
    statement_open (for_loop f a b s) h = both M (integer_code a) _ (integer_open plan scope a h.0) (integer_open plan scope b h.1)
    statement_open (exit at n e) h = condition_open plan scope e h
    statement_open (procedure_call at c) h = both M (into_code c.into) _ (into_open plan scope c.into h.4) (arguments_open plan scope 0 c.arguments h.3)
    statement_open (declare_object at n es) h = components_open plan scope es own_number h.2
    statement_open (return_value at e) h = value_open plan scope e h
    statement_open (own_entry_call at es form) h = called_open plan scope es form h.0 h.1
    statement_open (operation_call at v c) h = both M (into_code c.into) _ (into_open plan scope c.into h.1.5) (arguments_open plan scope 0 c.arguments h.1.4)
    statement_open (entry_call at c p q) h = call_open plan scope c.callee c.arguments c.form h.0.2 h.0.3 h.0.4
    statement_open (delay at e) h = delay_open plan scope e h
    statement_open (select at offered p) h = both M (guards_code 1 offered) _ (guards_open 1 offered h.0) (tt, delays_open 1 offered h.0)
    statement_open (abort at ts) h = tasks_open plan scope ts h
    statement_open (requeue at r) h = requeue_open plan scope r.callee h.1
    statement_open s h = tt

  pub names_open : (plan : Plan) (entries : List Entry) (n : ℕ) (s : Statement) → length scope ≡ n → StatementScoped plan entries s scope → StepOpen n (does s)
  names_open plan entries n s e h = subst (λ m. StepOpen m (does s)) e (statement_open plan entries s h)

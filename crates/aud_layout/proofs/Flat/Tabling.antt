-- The table of a program's code fits: each step's instructions lead from no operands to those of its ending, line by line.
use Rattle.std.proofs.Common.{◌≡◌, ℕ, suc, ◌+◌, List, [], ◌∷◌, ◌++◌, length, map, slice_get, true, false, Option, Some, None, refl, sym, ap, ◌∙◌, subst, arith, append_assoc}
use Rattle.aud_typed.specs.Tree as tree
use Rattle.aud_typed.specs.Tree.{IntegerExpression, number, variable, element, unary, binary, count, Reference, scalar, component, TaskName, single, indexed, BooleanExpression, truth, stored, negation, relation, comparison, logical, and_then, or_else, callable, terminated, ValueExpression, whole, boolean, TextExpression, literal, image, image_truth, join, new_line, DelayExpression, milliseconds, seconds, Argument, by_value, by_copy, CallForm, plainly, conditionally, timed, Callee, of_task, of_object, Statement, declare, declare_object, assign, put, if_then, while_loop, for_loop, exit, return_value, procedure_call, own_entry_call, operation_call, entry_call, delay, select, abort, Alternatives, no_alternatives, accepting, delaying, terminating, Program, requeue}
use Rattle.aud_meaning.specs.Statements.{region_of}
use Rattle.aud_meaning.specs.Evaluation.{nearest_zero}
use Rattle.aud_code.specs.Instruction.{Instruction, Push, Load, LoadElement, OnOne, OnTwo, Count, Check, Cell, PushTruth, Truth, Negate, Relate, Compare, Combine, PassIfFalse, PassIfTrue, IsCallable, IsTerminated, Find, FindElement, LoadFound, Pass, PassCopy, AppendText, AppendImage, AppendTruth, AppendNewLine, Name, Milliseconds, Seconds, BeginObject, Component, OpensAccept, OpensDelay, OpensTerminate, Mark, PassUnlessNext, SetTime, If}
use Rattle.aud_code.specs.Flat.{Last, Does, EndLine, FlatLine, instructs, end}
use Rattle.aud_code.specs.Sound.{Counts, no_counts, AndThen, InstructionFine, EndingFine, LastFine}
use Rattle.aud_code.specs.Tabled.{LeadsTo, BeginsWithNone, Tabled, IsTabled, behind, table_from, table_of}
use Rattle.aud_layout.specs.Layout.{What, does, continues, guards, ends, leaves, Line, code_of}
use Rattle.aud_layout.specs.Instructions.{integer_code, loaded_code, reference_code, task_code, condition_code, value_code, text_code, delay_code, into_code, argument_code, arguments_code, form_code, components_code, names_code, guards_code, timed_code, delays_code, called_code, call_code, call_end, requeue_code, requeue_end, entered_code, instructions_of, ending_of}
use Rattle.aud_layout.specs.Assembly.{instructions_by, last_by, end_line, assembled_from, offset, flat_program}

-- the table of these lines fits, where so many operands stand before the first one
abbrev Fits : Counts → List FlatLine → Type 0
Fits c ls = Tabled ls (table_from c ls)

abbrev AreSome : List FlatLine → Type 0
AreSome [] = ⊥
AreSome (l ∷ ls) = Unit {0}

-- what stands behind all instructions
abbrev run : List Instruction → Counts → Counts
run [] c = c
run (i ∷ is) c = run is (behind i c)

-- instructions that lead from some operands to others, whatever lines follow
record Made (is : List Instruction) (c d : Counts) : Type 0 where
  pub ends : run is c ≡ d
  pub fits : (ls : List FlatLine) → AreSome ls → Fits d ls → Fits c (map instructs is ++ ls)

are_some : (is : List Instruction) (ls : List FlatLine) → AreSome ls → AreSome (map instructs is ++ ls)
are_some [] ls h = h
are_some (i ∷ is) ls h = tt

joined : (is js : List Instruction) (ls : List FlatLine) → map instructs (is ++ js) ++ ls ≡ map instructs is ++ (map instructs js ++ ls)
joined [] js ls = refl
joined (i ∷ is) js ls = ap (λ ks. instructs i ∷ ks) (joined is js ls)

run_on : (is js : List Instruction) (c : Counts) → run (is ++ js) c ≡ run js (run is c)
run_on [] js c = refl
run_on (i ∷ is) js c = run_on is js (behind i c)

nothing : (c : Counts) → Made [] c c
nothing c = record { ends = refl; fits = λ ls some h. h }

both : (is js : List Instruction) (c d e : Counts) → Made is c d → Made js d e → Made (is ++ js) c e
both is js c d e one two = record {
  ends = run_on is js c ∙ (ap (run js) one.ends ∙ two.ends);
  fits = λ ls some h. subst (Fits c) (sym (joined is js ls)) (one.fits (map instructs js ++ ls) (are_some js ls some) (two.fits ls some h));
}

first_of : (c : Counts) (ls : List FlatLine) → AreSome ls → slice_get (table_from c ls) 0 ≡ Some c
first_of c [] h = absurd h
first_of c (l ∷ ls) h = refl

reaches : (is : List Instruction) (c : Counts) (ls : List FlatLine) → AreSome ls → LeadsTo (map instructs is ++ ls) (table_from c (map instructs is ++ ls)) (length is) (run is c)
reaches [] c ls h = (omega arith, first_of c ls h)
reaches (i ∷ is) c ls h = let there = reaches is (behind i c) ls h in (omega (arith, there.0), there.1)

-- one instruction that passes no others
one : (i : Instruction) (c : Counts) → ((go : AndThen) → go 0 (behind i c) → InstructionFine i go c) → Made (i ∷ []) c (behind i c)
one i c fine = record {
  ends = refl;
  fits = λ ls some h. (fine (LeadsTo ls (table_from (behind i c) ls)) (omega arith, first_of (behind i c) ls some), h);
}

-- one that passes others, which it may also go on with
passing : (i : Instruction) (is : List Instruction) (c d : Counts) → ((go : AndThen) → go 0 (behind i c) → go (length is) d → InstructionFine i go c) → Made is (behind i c) d → Made (i ∷ is) c d
passing i is c d fine made = record {
  ends = made.ends;
  fits = λ ls some h.
      let rest = map instructs is ++ ls in
      let go = LeadsTo rest (table_from (behind i c) rest) in
      (fine go (omega arith, first_of (behind i c) rest (are_some is ls some)) (subst (go (length is)) made.ends (reaches is (behind i c) ls some)), made.fits ls some h);
}

-- one instruction, and others behind it
then : (i : Instruction) (is : List Instruction) (c d : Counts) → ((go : AndThen) → go 0 (behind i c) → InstructionFine i go c) → Made is (behind i c) d → Made (i ∷ is) c d
then i is c d fine made = both (i ∷ []) is c (behind i c) d (one i c fine) made

-- others, and one behind them
last : (is : List Instruction) (i : Instruction) (c d : Counts) → Made is c d → ((go : AndThen) → go 0 (behind i d) → InstructionFine i go d) → Made (is ++ i ∷ []) c (behind i d)
last is i c d made fine = both is (i ∷ []) c d (behind i d) made (one i d fine)

abbrev integer_more : Counts → Counts
integer_more c = record c { integers = suc c.integers }

abbrev truth_more : Counts → Counts
truth_more c = record c { booleans = suc c.booleans }

abbrev target_more : Counts → Counts
target_more c = record c { targets = suc c.targets }

made_integer : (e : IntegerExpression) (c : Counts) → Made (integer_code e) c (integer_more c)
made_integer (number z) c = one (Push z) c (λ go h. h)
made_integer (variable v) c = one (Load v) c (λ go h. h)
made_integer (count v entry) c = one (Count v entry) c (λ go h. h)
made_integer (element a e) c = last (integer_code e) (LoadElement a) c (integer_more c) (made_integer e c) (λ go h. h)
made_integer (unary f x) c = last (integer_code x) (OnOne f) c (integer_more c) (made_integer x c) (λ go h. h)
made_integer (binary f x y) c =
    both (integer_code x) (integer_code y ++ OnTwo f ∷ []) c (integer_more c) (integer_more c) (made_integer x c) (last (integer_code y) (OnTwo f) (integer_more c) (integer_more (integer_more c)) (made_integer y (integer_more c)) (λ go h. h))

made_loaded : (r : Reference) (c : Counts) → Made (loaded_code r) c (integer_more c)
made_loaded (scalar v t) c = one (Load v) c (λ go h. h)
made_loaded (component a e t) c = last (integer_code e) (LoadElement a) c (integer_more c) (made_integer e c) (λ go h. h)

made_task : (t : TaskName) (c : Counts) → Made (task_code t) c (integer_more c)
made_task (single v) c = one (Load v) c (λ go h. h)
made_task (indexed a e) c = last (integer_code e) (LoadElement a) c (integer_more c) (made_integer e c) (λ go h. h)

made_reference : (r : Reference) (c : Counts) → Made (reference_code r) c (target_more c)
made_reference (scalar v t) c = one (Find v t) c (λ go h. h)
made_reference (component a e t) c = last (integer_code e) (FindElement a t) c (integer_more c) (made_integer e c) (λ go h. h)

made_condition : (e : BooleanExpression) (c : Counts) → Made (condition_code e) c (truth_more c)
made_condition (truth b) c = one (PushTruth b) c (λ go h. h)
made_condition (stored r) c = last (loaded_code r) Truth c (integer_more c) (made_loaded r c) (λ go h. h)
made_condition (negation x) c = last (condition_code x) Negate c (truth_more c) (made_condition x c) (λ go h. h)
made_condition (relation f x y) c =
    both (integer_code x) (integer_code y ++ Relate f ∷ []) c (integer_more c) (truth_more c) (made_integer x c) (last (integer_code y) (Relate f) (integer_more c) (integer_more (integer_more c)) (made_integer y (integer_more c)) (λ go h. h))
made_condition (comparison f x y) c =
    both (condition_code x) (condition_code y ++ Compare f ∷ []) c (truth_more c) (truth_more c) (made_condition x c) (last (condition_code y) (Compare f) (truth_more c) (truth_more (truth_more c)) (made_condition y (truth_more c)) (λ go h. h))
made_condition (logical f x y) c =
    both (condition_code x) (condition_code y ++ Combine f ∷ []) c (truth_more c) (truth_more c) (made_condition x c) (last (condition_code y) (Combine f) (truth_more c) (truth_more (truth_more c)) (made_condition y (truth_more c)) (λ go h. h))
made_condition (and_then x y) c =
    let cy = condition_code y in
    both (condition_code x) (PassIfFalse (length cy) ∷ cy) c (truth_more c) (truth_more c) (made_condition x c) (passing (PassIfFalse (length cy)) cy (truth_more c) (truth_more c) (λ go h k. (h, k)) (made_condition y c))
made_condition (or_else x y) c =
    let cy = condition_code y in
    both (condition_code x) (PassIfTrue (length cy) ∷ cy) c (truth_more c) (truth_more c) (made_condition x c) (passing (PassIfTrue (length cy)) cy (truth_more c) (truth_more c) (λ go h k. (h, k)) (made_condition y c))
made_condition (callable t) c = last (task_code t) IsCallable c (integer_more c) (made_task t c) (λ go h. h)
made_condition (terminated t) c = last (task_code t) IsTerminated c (integer_more c) (made_task t c) (λ go h. h)

made_value : (e : ValueExpression) (c : Counts) → Made (value_code e) c (integer_more c)
made_value (whole t e) c = last (integer_code e) (Check t) c (integer_more c) (made_integer e c) (λ go h. h)
made_value (boolean e) c = last (condition_code e) Cell c (truth_more c) (made_condition e c) (λ go h. h)

made_text : (t : TextExpression) (c : Counts) → Made (text_code t) c c
made_text (literal text) c = one (AppendText text) c (λ go h. h)
made_text new_line c = one AppendNewLine c (λ go h. h)
made_text (image e) c = last (integer_code e) AppendImage c (integer_more c) (made_integer e c) (λ go h. h)
made_text (image_truth e) c = last (condition_code e) AppendTruth c (truth_more c) (made_condition e c) (λ go h. h)
made_text (join x y) c = both (text_code x) (text_code y) c c c (made_text x c) (made_text y c)

made_delay : (e : DelayExpression) (c : Counts) → Made (delay_code e) c c
made_delay (milliseconds n) c = one (Milliseconds n) c (λ go h. h)
made_delay (seconds e) c = last (integer_code e) Seconds c (integer_more c) (made_integer e c) (λ go h. h)

made_argument : (n : ℕ) (a : Argument) (c : Counts) → Made (argument_code n a) c c
made_argument n (by_value e) c = last (value_code e) Pass c (integer_more c) (made_value e c) (λ go h. h)
made_argument n (by_copy true formal r) c =
    let t = target_more c in
    let copied = then LoadFound (Check formal ∷ PassCopy n ∷ []) t c (λ go h. h) (then (Check formal) (PassCopy n ∷ []) (integer_more t) c (λ go h. h) (one (PassCopy n) (integer_more t) (λ go h. h))) in
    both (reference_code r) (LoadFound ∷ Check formal ∷ PassCopy n ∷ []) c t c (made_reference r c) copied
made_argument n (by_copy false formal r) c =
    let t = target_more c in
    let copied = then (Push (nearest_zero formal)) (PassCopy n ∷ []) t c (λ go h. h) (one (PassCopy n) (integer_more t) (λ go h. h)) in
    both (reference_code r) (Push (nearest_zero formal) ∷ PassCopy n ∷ []) c t c (made_reference r c) copied

made_arguments : (n : ℕ) (args : List Argument) (c : Counts) → Made (arguments_code n args) c c
made_arguments n [] c = nothing c
made_arguments n (a ∷ more) c = both (argument_code n a) (arguments_code (n + 1) more) c c c (made_argument n a c) (made_arguments (n + 1) more c)

made_form : (f : CallForm) (c : Counts) → Made (form_code f) c c
made_form plainly c = nothing c
made_form conditionally c = nothing c
made_form (timed e) c = made_delay e c

made_called : (args : List Argument) (f : CallForm) (c : Counts) → Made (called_code args f) c c
made_called args f c = both (arguments_code 0 args) (form_code f) c c c (made_arguments 0 args c) (made_form f c)

made_components : (es : List ValueExpression) (c : Counts) → Made (components_code es) c c
made_components [] c = nothing c
made_components (e ∷ es) c = both (value_code e) (Component ∷ components_code es) c (integer_more c) c (made_value e c) (then Component (components_code es) (integer_more c) c (λ go h. h) (made_components es c))

made_guards : (n : ℕ) (o : Alternatives) (c : Counts) → Made (guards_code n o) c c
made_guards n no_alternatives c = nothing c
made_guards n (accepting g at e d p more) c =
    let i = OpensAccept (record { alternative = n; entry = e; at = at; region = region_of d }) in
    both (condition_code g) (i ∷ guards_code (suc n) more) c (truth_more c) c (made_condition g c) (then i (guards_code (suc n) more) (truth_more c) c (λ go h. h) (made_guards (suc n) more c))
made_guards n (delaying g e p more) c =
    both (condition_code g) (OpensDelay n ∷ guards_code (suc n) more) c (truth_more c) c (made_condition g c) (then (OpensDelay n) (guards_code (suc n) more) (truth_more c) c (λ go h. h) (made_guards (suc n) more c))
made_guards n (terminating g more) c =
    both (condition_code g) (OpensTerminate ∷ guards_code (suc n) more) c (truth_more c) c (made_condition g c) (then OpensTerminate (guards_code (suc n) more) (truth_more c) c (λ go h. h) (made_guards (suc n) more c))

made_timed : (n : ℕ) (e : DelayExpression) (c : Counts) → Made (timed_code n e) c c
made_timed n e c = last (delay_code e) (SetTime n) c c (made_delay e c) (λ go h. h)

made_delays : (n : ℕ) (o : Alternatives) (c : Counts) → Made (delays_code n o) c c
made_delays n no_alternatives c = nothing c
made_delays n (accepting g at e d p more) c = made_delays (suc n) more c
made_delays n (terminating g more) c = made_delays (suc n) more c
made_delays n (delaying g e p more) c =
    let timed = timed_code n e in
    both (PassUnlessNext n (length timed) ∷ timed) (delays_code (suc n) more) c c c (passing (PassUnlessNext n (length timed)) timed c c (λ go h k. (h, k)) (made_timed n e c)) (made_delays (suc n) more c)

-- instructions that lead from no operands to what an ending wants
record Reaches (is : List Instruction) (End : Counts → Type 0) : Type 0 where
  pub reached : Counts
  pub made : Made is no_counts reached
  pub fine : End reached

abbrev any_end : Counts → Type 0
any_end c = Unit {0}

reach : (is : List Instruction) (End : Counts → Type 0) (c : Counts) → Made is no_counts c → End c → Reaches is End
reach is End c made fine = record { reached = c; made = made; fine = fine }

made_names : (ts : List TaskName) (c : Counts) → (d : Counts) × Made (names_code ts) c d
made_names [] c = (c, nothing c)
made_names (t ∷ ts) c =
    let named = record c { names = suc c.names } in
    let more = made_names ts named in
    (more.0, both (task_code t) (Name ∷ names_code ts) c (integer_more c) more.0 (made_task t c) (then Name (names_code ts) (integer_more c) more.0 (λ go h. h) more.1))

made_into : (r : Option Reference) (c : Counts) → (d : Counts) × Made (into_code r) c d
made_into None c = (c, nothing c)
made_into (Some r) c = (target_more c, made_reference r c)

made_entered : (c : tree.Calling) → Reaches (entered_code c) any_end
made_entered c =
    let into = made_into c.into no_counts in
    reach (entered_code c) any_end into.0 (both (into_code c.into) (arguments_code 0 c.arguments) no_counts into.0 into.0 into.1 (made_arguments 0 c.arguments into.0)) tt

made_call : (c : tree.EntryCall) (callee : Callee) → Reaches (call_code callee c.arguments c.form) (EndingFine (call_end callee c.entry c.form))
made_call c (of_task t) =
    let named = record no_counts { names = 1 } in
    let called = called_code c.arguments c.form in
    reach (call_code (of_task t) c.arguments c.form) (EndingFine (call_end (of_task t) c.entry c.form)) named (both (task_code t) (Name ∷ Mark ∷ called) no_counts (integer_more no_counts) named (made_task t no_counts) (then Name (Mark ∷ called) (integer_more no_counts) named (λ go h. h) (then Mark called named named (λ go h. h) (made_called c.arguments c.form named)))) tt
made_call c (of_object v) = reach (call_code (of_object v) c.arguments c.form) (EndingFine (call_end (of_object v) c.entry c.form)) no_counts (made_called c.arguments c.form no_counts) tt

none : (End : Counts → Type 0) → End no_counts → Reaches [] End
none End h = reach [] End no_counts (nothing no_counts) h

made_requeue : (r : tree.Requeue) (callee : Callee) → Reaches (requeue_code callee) (EndingFine (requeue_end callee r))
made_requeue r (of_task t) =
    let named = record no_counts { names = 1 } in
    reach (requeue_code (of_task t)) (EndingFine (requeue_end (of_task t) r)) named (both (task_code t) (Name ∷ []) no_counts (integer_more no_counts) named (made_task t no_counts) (then Name [] (integer_more no_counts) named (λ go h. h) (nothing named))) tt
made_requeue r (of_object v) = none _ tt

made_statement : (a : Statement) → Reaches (instructions_of a) (EndingFine (ending_of a))
made_statement (declare at up_to e) = reach (value_code e) _ (integer_more no_counts) (made_value e no_counts) tt
made_statement (declare_object at n es) =
    let object = record no_counts { cells = true } in
    reach (BeginObject ∷ components_code es) _ object (then BeginObject (components_code es) no_counts object (λ go h. h) (made_components es object)) refl
made_statement (assign at r e) =
    let found = target_more no_counts in
    reach (reference_code r ++ value_code e) _ (integer_more found) (both (reference_code r) (value_code e) no_counts found (integer_more found) (made_reference r no_counts) (made_value e found)) tt
made_statement (put at t) = reach (text_code t) _ no_counts (made_text t no_counts) tt
made_statement (if_then at e a p) = reach (condition_code e) _ (truth_more no_counts) (made_condition e no_counts) tt
made_statement (while_loop at e a) = reach (condition_code e) _ (truth_more no_counts) (made_condition e no_counts) tt
made_statement (for_loop f a b s) =
    let one = integer_more no_counts in
    reach (integer_code a ++ integer_code b) _ (integer_more one) (both (integer_code a) (integer_code b) no_counts one (integer_more one) (made_integer a no_counts) (made_integer b one)) tt
made_statement (exit at n e) = reach (condition_code e) _ (truth_more no_counts) (made_condition e no_counts) tt
made_statement (return_value at e) = reach (value_code e) _ (integer_more no_counts) (made_value e no_counts) tt
made_statement (procedure_call at c) = made_entered c
made_statement (own_entry_call at es f) = reach (called_code es f) _ no_counts (made_called es f no_counts) tt
made_statement (operation_call at v c) = made_entered c
made_statement (entry_call at c p q) = made_call c c.callee
made_statement (delay at e) = reach (delay_code e) _ no_counts (made_delay e no_counts) tt
made_statement (select at offered p) =
    reach (guards_code 1 offered ++ (Mark ∷ delays_code 1 offered)) _ no_counts (both (guards_code 1 offered) (Mark ∷ delays_code 1 offered) no_counts no_counts no_counts (made_guards 1 offered no_counts) (then Mark (delays_code 1 offered) no_counts no_counts (λ go h. h) (made_delays 1 offered no_counts))) tt
made_statement (abort at ts) = let named = made_names ts no_counts in reach (names_code ts) _ named.0 named.1 tt
made_statement (requeue at r) = made_requeue r r.callee
made_statement a = none _ tt

module _ (f : ℕ → ℕ) where
  made_by : (w : What) → Reaches (instructions_by w) (LastFine (last_by f w))
  made_by (does a) = made_statement a
  made_by (continues x) = none _ tt
  made_by (guards gs) = none _ tt
  made_by (ends c next) = none _ tt
  made_by (leaves n next) = none _ tt

  begins_with_none : (ls : List FlatLine) → BeginsWithNone (table_from no_counts ls)
  begins_with_none [] = tt
  begins_with_none (l ∷ ls) = refl

  -- a line of the layout, before others
  line_fits : (is : List Instruction) (e : EndLine) (rest : List FlatLine) → Reaches is (LastFine e.last) → Fits no_counts rest → Fits no_counts ((map instructs is ++ end e ∷ []) ++ rest)
  line_fits is e rest made h =
      let fits = made.made.fits (end e ∷ rest) tt ((made.fine, begins_with_none rest), h) in
      subst (Fits no_counts) (sym (append_assoc (map instructs is) (end e ∷ []) rest)) fits

  lines_fit : (ls : List Line) → Fits no_counts (assembled_from f ls)
  lines_fit [] = tt
  lines_fit (l ∷ ls) = line_fits (instructions_by l.what) (end_line f l) (assembled_from f ls) (made_by l.what) (lines_fit ls)

-- the table of every program's code fits
pub code_is_tabled : (program : Program) → IsTabled (flat_program program).lines (table_of (flat_program program).lines)
code_is_tabled program =
    let lines = (code_of program).lines in
    (begins_with_none (offset lines) (flat_program program).lines, lines_fit (offset lines) lines)

-- and that of a condition by itself, whose truth value an ending takes
pub condition_tabled : (e : BooleanExpression) (l : EndLine) → l.last ≡ Does If → IsTabled (map instructs (condition_code e) ++ end l ∷ []) (table_of (map instructs (condition_code e) ++ end l ∷ []))
condition_tabled e l is =
    let fine : LastFine l.last (truth_more no_counts) = subst (λ (last : Last). LastFine last (truth_more no_counts)) (sym is) tt in
    (begins_with_none (λ n. n) (map instructs (condition_code e) ++ end l ∷ []), (made_condition e no_counts).fits (end l ∷ []) tt ((fine, tt), tt))

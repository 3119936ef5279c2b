-- The code of an expression gives its value or its exception.
use Rattle.std.proofs.Common.{◌≡◌, ℕ, ℤ, ◌+◌, List, [], ◌∷◌, ◌++◌, length, Bool, true, false, not, Option, Some, None, Result, Ok, Err, refl, sym, ap, ◌∙◌, append_assoc, append-nil, if◌then◌else◌}
use Rattle.std.specs.Prelude.{nat_abs}
use Rattle.aud_text.specs.declared.raise.Raise.{Raise}
use Rattle.aud_text.specs.Integer as integer
use Rattle.aud_typed.specs.declared.program.Variable.{Variable}
use Rattle.aud_typed.specs.declared.program.Subtype.{Subtype}
use Rattle.aud_typed.specs.Tree.{IntegerExpression, number, variable, element, unary, binary, count, Reference, scalar, component, TaskName, single, indexed, BooleanExpression, truth, stored, negation, relation, comparison, logical, and_then, or_else, callable, terminated, ValueExpression, whole, boolean, TextExpression, literal, image, image_truth, join, new_line, DelayExpression, milliseconds, seconds, Argument, by_value, by_copy}
use Rattle.aud_meaning.specs.Configuration.{Target, Back}
use Rattle.aud_meaning.specs.Evaluation.{cell, number_in, cell_of, truth_of, unary_of, binary_of, related, logical_of, with_value, in_range, element_at, evaluated, found, subtype_of, task_named, decided, value_of, image_of_truth, text_of, delay_of, target_at, target_of, option_target, Passed, copied_in, one_more_passed, passed_from}
use Rattle.aud_meaning.specs.Control.{Scene}
use Rattle.aud_code.specs.Instruction.{Instruction, LoadElement, OnOne, OnTwo, Check, Cell, Truth, Negate, Relate, Compare, Combine, PassIfFalse, PassIfTrue, IsCallable, IsTerminated, FindElement, Pass, PassCopy, AppendImage, AppendTruth, Seconds, Operands, Ended}
use Rattle.aud_code.specs.Eval.{on_result, seconds_of, sees, eval}
use Rattle.aud_layout.specs.Instructions.{integer_code, loaded_code, reference_code, task_code, condition_code, value_code, text_code, delay_code, into_code, copied_code, arguments_code}

-- a value, and what is made of it
pub then_value : {A B : Type 0} (a : Result A Raise) (f : A → Result B Raise) (g : B → Ended) (h : A → Ended) (e : Ended) → e ≡ on_result a h → ((x : A) → h x ≡ on_result (f x) g) → e ≡ on_result (with_value a f) g
then_value (Ok x) f g h e r s = r ∙ s x
then_value (Err raise) f g h e r s = r

-- the same in two parts
pub with_assoc : {A B C : Type 0} (a : Result A Raise) (f : A → Result B Raise) (g : B → Result C Raise) → with_value (with_value a f) g ≡ with_value a (λ x. with_value (f x) g)
with_assoc (Ok x) f g = refl
with_assoc (Err raise) f g = refl

-- where a function's value goes
abbrev pub with_into : Option Target → Operands → Operands
with_into None o = o
with_into (Some t) o = record o { targets = t ∷ o.targets }

-- arguments after those before
abbrev pub with_passed : Passed → Operands → Operands
with_passed p o = record o { values = o.values ++ p.values; backs = o.backs ++ p.backs }

module _ (stops : Bool) (s : Scene) where
  -- what follows
  abbrev pub Ends : List Instruction → Operands → Ended
  Ends is o = eval stops s is 0 o

  abbrev Integers : Operands → List Instruction → ℤ → Ended
  Integers o rest z = Ends rest (record o { integers = z ∷ o.integers })

  abbrev Booleans : Operands → List Instruction → Bool → Ended
  Booleans o rest b = Ends rest (record o { booleans = b ∷ o.booleans })

  pub eval_integer : (e : IntegerExpression) (rest : List Instruction) (o : Operands) → Ends (integer_code e ++ rest) o ≡ on_result (evaluated e (sees stops s o)) (λ z. Ends rest (record o { integers = z ∷ o.integers }))
  eval_integer (number z) rest o = refl
  eval_integer (variable v) rest o = refl
  eval_integer (count v entry) rest o = refl
  eval_integer (element a e) rest o =
      let flat : integer_code (element a e) ++ rest ≡ integer_code e ++ (LoadElement a ∷ rest) = simp append_assoc in
      then_value (evaluated e (sees stops s o)) (λ i. with_value (element_at a i) (λ v. Ok (cell v (sees stops s o)))) (Integers o rest) (Integers o (LoadElement a ∷ rest)) _ (ap (λ is. Ends is o) flat ∙ eval_integer e (LoadElement a ∷ rest) o) (λ i.
      then_value (element_at a i) (λ v. Ok (cell v (sees stops s o))) (Integers o rest) (λ v. Integers o rest (cell v (sees stops s o))) _ refl (λ v. refl))
  eval_integer (unary operator x) rest o =
      let flat : integer_code (unary operator x) ++ rest ≡ integer_code x ++ (OnOne operator ∷ rest) = simp append_assoc in
      then_value (evaluated x (sees stops s o)) (unary_of operator) (Integers o rest) (Integers o (OnOne operator ∷ rest)) _ (ap (λ is. Ends is o) flat ∙ eval_integer x (OnOne operator ∷ rest) o) (λ a. refl)
  eval_integer (binary operator x y) rest o =
      let cy = integer_code y in
      let flat : integer_code (binary operator x y) ++ rest ≡ integer_code x ++ (cy ++ (OnTwo operator ∷ rest)) = simp append_assoc in
      then_value (evaluated x (sees stops s o)) (λ v. with_value (evaluated y (sees stops s o)) (λ w. binary_of operator v w)) (Integers o rest) (Integers o (cy ++ (OnTwo operator ∷ rest))) _ (ap (λ is. Ends is o) flat ∙ eval_integer x (cy ++ (OnTwo operator ∷ rest)) o) (λ v.
      then_value (evaluated y (sees stops s o)) (binary_of operator v) (Integers o rest) (λ w. Ends (OnTwo operator ∷ rest) (record o { integers = w ∷ v ∷ o.integers })) _ (eval_integer y (OnTwo operator ∷ rest) (record o { integers = v ∷ o.integers })) (λ w. refl))

  pub eval_loaded : (r : Reference) (rest : List Instruction) (o : Operands) → Ends (loaded_code r ++ rest) o ≡ on_result (found r (sees stops s o)) (λ v. Ends rest (record o { integers = cell v (sees stops s o) ∷ o.integers }))
  eval_loaded (scalar v t) rest o = refl
  eval_loaded (component a e t) rest o =
      let flat : loaded_code (component a e t) ++ rest ≡ integer_code e ++ (LoadElement a ∷ rest) = simp append_assoc in
      then_value (evaluated e (sees stops s o)) (λ i. element_at a i) (λ v. Integers o rest (cell v (sees stops s o))) (Integers o (LoadElement a ∷ rest)) _ (ap (λ is. Ends is o) flat ∙ eval_integer e (LoadElement a ∷ rest) o) (λ i. refl)

  -- a task's number
  pub eval_task : (t : TaskName) (next : Instruction) (rest : List Instruction) (o : Operands) (go : ℕ → Ended) → ((z : ℤ) → Ends (next ∷ rest) (record o { integers = z ∷ o.integers }) ≡ go (nat_abs z)) → Ends (task_code t ++ (next ∷ rest)) o ≡ on_result (task_named t (sees stops s o)) go
  eval_task (single v) next rest o go h = h (cell v (sees stops s o))
  eval_task (indexed a e) next rest o go h =
      let flat : task_code (indexed a e) ++ (next ∷ rest) ≡ integer_code e ++ (LoadElement a ∷ next ∷ rest) = simp append_assoc in
      then_value (evaluated e (sees stops s o)) (λ i. with_value (element_at a i) (λ v. Ok (number_in v (sees stops s o)))) go (Integers o (LoadElement a ∷ next ∷ rest)) _ (ap (λ is. Ends is o) flat ∙ eval_integer e (LoadElement a ∷ next ∷ rest) o) (λ i.
      then_value (element_at a i) (λ v. Ok (number_in v (sees stops s o))) go (λ v. Integers o (next ∷ rest) (cell v (sees stops s o))) _ refl (λ v. h (cell v (sees stops s o))))

  -- instructions that are passed do nothing
  pub passes : (is rest : List Instruction) (o : Operands) → eval stops s (is ++ rest) (length is) o ≡ Ends rest o
  passes [] rest o = refl
  passes (i ∷ is) rest o = passes is rest o

  pub eval_condition : (c : BooleanExpression) (rest : List Instruction) (o : Operands) → Ends (condition_code c ++ rest) o ≡ on_result (decided c (sees stops s o)) (λ b. Ends rest (record o { booleans = b ∷ o.booleans }))
  eval_condition (truth b) rest o = refl
  eval_condition (stored r) rest o =
      let flat : condition_code (stored r) ++ rest ≡ loaded_code r ++ (Truth ∷ rest) = simp append_assoc in
      then_value (found r (sees stops s o)) (λ v. Ok (truth_of (cell v (sees stops s o)))) (Booleans o rest) (λ v. Integers o (Truth ∷ rest) (cell v (sees stops s o))) _ (ap (λ is. Ends is o) flat ∙ eval_loaded r (Truth ∷ rest) o) (λ v. refl)
  eval_condition (negation x) rest o =
      let flat : condition_code (negation x) ++ rest ≡ condition_code x ++ (Negate ∷ rest) = simp append_assoc in
      then_value (decided x (sees stops s o)) (λ v. Ok (not v)) (Booleans o rest) (Booleans o (Negate ∷ rest)) _ (ap (λ is. Ends is o) flat ∙ eval_condition x (Negate ∷ rest) o) (λ v. refl)
  eval_condition (relation operator x y) rest o =
      let cy = integer_code y in
      let flat : condition_code (relation operator x y) ++ rest ≡ integer_code x ++ (cy ++ (Relate operator ∷ rest)) = simp append_assoc in
      then_value (evaluated x (sees stops s o)) (λ v. with_value (evaluated y (sees stops s o)) (λ w. Ok (related operator v w))) (Booleans o rest) (Integers o (cy ++ (Relate operator ∷ rest))) _ (ap (λ is. Ends is o) flat ∙ eval_integer x (cy ++ (Relate operator ∷ rest)) o) (λ v.
      then_value (evaluated y (sees stops s o)) (λ w. Ok (related operator v w)) (Booleans o rest) (λ w. Ends (Relate operator ∷ rest) (record o { integers = w ∷ v ∷ o.integers })) _ (eval_integer y (Relate operator ∷ rest) (record o { integers = v ∷ o.integers })) (λ w. refl))
  eval_condition (comparison operator x y) rest o =
      let cy = condition_code y in
      let flat : condition_code (comparison operator x y) ++ rest ≡ condition_code x ++ (cy ++ (Compare operator ∷ rest)) = simp append_assoc in
      then_value (decided x (sees stops s o)) (λ v. with_value (decided y (sees stops s o)) (λ w. Ok (related operator (cell_of v) (cell_of w)))) (Booleans o rest) (Booleans o (cy ++ (Compare operator ∷ rest))) _ (ap (λ is. Ends is o) flat ∙ eval_condition x (cy ++ (Compare operator ∷ rest)) o) (λ v.
      then_value (decided y (sees stops s o)) (λ w. Ok (related operator (cell_of v) (cell_of w))) (Booleans o rest) (λ w. Ends (Compare operator ∷ rest) (record o { booleans = w ∷ v ∷ o.booleans })) _ (eval_condition y (Compare operator ∷ rest) (record o { booleans = v ∷ o.booleans })) (λ w. refl))
  eval_condition (logical operator x y) rest o =
      let cy = condition_code y in
      let flat : condition_code (logical operator x y) ++ rest ≡ condition_code x ++ (cy ++ (Combine operator ∷ rest)) = simp append_assoc in
      then_value (decided x (sees stops s o)) (λ v. with_value (decided y (sees stops s o)) (λ w. Ok (logical_of operator v w))) (Booleans o rest) (Booleans o (cy ++ (Combine operator ∷ rest))) _ (ap (λ is. Ends is o) flat ∙ eval_condition x (cy ++ (Combine operator ∷ rest)) o) (λ v.
      then_value (decided y (sees stops s o)) (λ w. Ok (logical_of operator v w)) (Booleans o rest) (λ w. Ends (Combine operator ∷ rest) (record o { booleans = w ∷ v ∷ o.booleans })) _ (eval_condition y (Combine operator ∷ rest) (record o { booleans = v ∷ o.booleans })) (λ w. refl))
  eval_condition (and_then x y) rest o =
      let cy = condition_code y in
      let l = PassIfFalse (length cy) in
      let flat : condition_code (and_then x y) ++ rest ≡ condition_code x ++ (l ∷ (cy ++ rest)) = simp append_assoc in
      then_value (decided x (sees stops s o)) (λ a. if a then decided y (sees stops s o) else Ok false) (Booleans o rest) (Booleans o (l ∷ (cy ++ rest))) _ (ap (λ is. Ends is o) flat ∙ eval_condition x (l ∷ (cy ++ rest)) o) (go (passes cy rest (record o { booleans = false ∷ o.booleans })) (eval_condition y rest o))
    where
      go : eval stops s (condition_code y ++ rest) (length (condition_code y)) (record o { booleans = false ∷ o.booleans }) ≡ Booleans o rest false → Ends (condition_code y ++ rest) o ≡ on_result (decided y (sees stops s o)) (Booleans o rest) → (v : Bool) → Booleans o (PassIfFalse (length (condition_code y)) ∷ (condition_code y ++ rest)) v ≡ on_result (if v then decided y (sees stops s o) else Ok false) (Booleans o rest)
      go skip more true = more
      go skip more false = skip
  eval_condition (or_else x y) rest o =
      let cy = condition_code y in
      let l = PassIfTrue (length cy) in
      let flat : condition_code (or_else x y) ++ rest ≡ condition_code x ++ (l ∷ (cy ++ rest)) = simp append_assoc in
      then_value (decided x (sees stops s o)) (λ a. if a then Ok true else decided y (sees stops s o)) (Booleans o rest) (Booleans o (l ∷ (cy ++ rest))) _ (ap (λ is. Ends is o) flat ∙ eval_condition x (l ∷ (cy ++ rest)) o) (go (passes cy rest (record o { booleans = true ∷ o.booleans })) (eval_condition y rest o))
    where
      go : eval stops s (condition_code y ++ rest) (length (condition_code y)) (record o { booleans = true ∷ o.booleans }) ≡ Booleans o rest true → Ends (condition_code y ++ rest) o ≡ on_result (decided y (sees stops s o)) (Booleans o rest) → (v : Bool) → Booleans o (PassIfTrue (length (condition_code y)) ∷ (condition_code y ++ rest)) v ≡ on_result (if v then Ok true else decided y (sees stops s o)) (Booleans o rest)
      go skip more true = skip
      go skip more false = more
  eval_condition (callable t) rest o =
      let flat : condition_code (callable t) ++ rest ≡ task_code t ++ (IsCallable ∷ rest) = simp append_assoc in
      let go = λ (n : ℕ). Booleans o rest ((sees stops s o).facts.callable n) in
      then_value (task_named t (sees stops s o)) (λ n. Ok ((sees stops s o).facts.callable n)) (Booleans o rest) go _ (ap (λ is. Ends is o) flat ∙ eval_task t IsCallable rest o go (λ z. refl)) (λ n. refl)
  eval_condition (terminated t) rest o =
      let flat : condition_code (terminated t) ++ rest ≡ task_code t ++ (IsTerminated ∷ rest) = simp append_assoc in
      let go = λ (n : ℕ). Booleans o rest ((sees stops s o).facts.terminated n) in
      then_value (task_named t (sees stops s o)) (λ n. Ok ((sees stops s o).facts.terminated n)) (Booleans o rest) go _ (ap (λ is. Ends is o) flat ∙ eval_task t IsTerminated rest o go (λ z. refl)) (λ n. refl)

  pub eval_value : (e : ValueExpression) (rest : List Instruction) (o : Operands) → Ends (value_code e ++ rest) o ≡ on_result (value_of e (sees stops s o)) (λ z. Ends rest (record o { integers = z ∷ o.integers }))
  eval_value (whole t e) rest o =
      let flat : value_code (whole t e) ++ rest ≡ integer_code e ++ (Check t ∷ rest) = simp append_assoc in
      then_value (evaluated e (sees stops s o)) (λ z. in_range t z) (Integers o rest) (Integers o (Check t ∷ rest)) _ (ap (λ is. Ends is o) flat ∙ eval_integer e (Check t ∷ rest) o) (λ z. refl)
  eval_value (boolean e) rest o =
      let flat : value_code (boolean e) ++ rest ≡ condition_code e ++ (Cell ∷ rest) = simp append_assoc in
      then_value (decided e (sees stops s o)) (λ b. Ok (cell_of b)) (Integers o rest) (Booleans o (Cell ∷ rest)) _ (ap (λ is. Ends is o) flat ∙ eval_condition e (Cell ∷ rest) o) (λ b. refl)

  pub eval_text : (t : TextExpression) (rest : List Instruction) (o : Operands) → Ends (text_code t ++ rest) o ≡ on_result (text_of t (sees stops s o)) (λ more. Ends rest (record o { text = o.text ++ more }))
  eval_text (literal more) rest o = refl
  eval_text new_line rest o = refl
  eval_text (image e) rest o =
      let flat : text_code (image e) ++ rest ≡ integer_code e ++ (AppendImage ∷ rest) = simp append_assoc in
      then_value (evaluated e (sees stops s o)) (λ z. Ok (integer.image z)) (λ more. Ends rest (record o { text = o.text ++ more })) (Integers o (AppendImage ∷ rest)) _ (ap (λ is. Ends is o) flat ∙ eval_integer e (AppendImage ∷ rest) o) (λ z. refl)
  eval_text (image_truth e) rest o =
      let flat : text_code (image_truth e) ++ rest ≡ condition_code e ++ (AppendTruth ∷ rest) = simp append_assoc in
      then_value (decided e (sees stops s o)) (λ b. Ok (image_of_truth b)) (λ more. Ends rest (record o { text = o.text ++ more })) (Booleans o (AppendTruth ∷ rest)) _ (ap (λ is. Ends is o) flat ∙ eval_condition e (AppendTruth ∷ rest) o) (λ b. refl)
  eval_text (join x y) rest o =
      let cy = text_code y in
      let flat : text_code (join x y) ++ rest ≡ text_code x ++ (cy ++ rest) = simp append_assoc in
      let end = λ (more : List ℕ). Ends rest (record o { text = o.text ++ more }) in
      then_value (text_of x (sees stops s o)) (λ a. with_value (text_of y (sees stops s o)) (λ b. Ok (a ++ b))) end (λ a. Ends (cy ++ rest) (record o { text = o.text ++ a })) _ (ap (λ is. Ends is o) flat ∙ eval_text x (cy ++ rest) o) (λ a.
      then_value (text_of y (sees stops s o)) (λ b. Ok (a ++ b)) end (λ b. Ends rest (record o { text = (o.text ++ a) ++ b })) _ (eval_text y rest (record o { text = o.text ++ a })) (λ b. ap (λ t. Ends rest (record o { text = t })) (append_assoc o.text a b)))

  -- what follows with one more target
  abbrev Found : Operands → List Instruction → Target → Ended
  Found o rest t = Ends rest (record o { targets = t ∷ o.targets })

  -- a reference as a target, and what is made of it
  eval_found : (r : Reference) (rest : List Instruction) (o : Operands) → Ends (reference_code r ++ rest) o ≡ on_result (found r (sees stops s o)) (λ v. Ends rest (record o { targets = target_at (subtype_of r) v (sees stops s o) ∷ o.targets }))
  eval_found (scalar v t) rest o = refl
  eval_found (component a e t) rest o =
      let flat : reference_code (component a e t) ++ rest ≡ integer_code e ++ (FindElement a t ∷ rest) = simp append_assoc in
      then_value (evaluated e (sees stops s o)) (λ i. element_at a i) (λ v. Found o rest (target_at t v (sees stops s o))) (Integers o (FindElement a t ∷ rest)) _ (ap (λ is. Ends is o) flat ∙ eval_integer e (FindElement a t ∷ rest) o) (λ i. refl)

  pub eval_reference : (r : Reference) (rest : List Instruction) (o : Operands) → Ends (reference_code r ++ rest) o ≡ on_result (target_of r (sees stops s o)) (λ t. Ends rest (record o { targets = t ∷ o.targets }))
  eval_reference r rest o =
      then_value (found r (sees stops s o)) (λ v. Ok (target_at (subtype_of r) v (sees stops s o))) (Found o rest) (λ v. Found o rest (target_at (subtype_of r) v (sees stops s o))) _ (eval_found r rest o) (λ v. refl)

  pub eval_into : (r : Option Reference) (rest : List Instruction) (o : Operands) → Ends (into_code r ++ rest) o ≡ on_result (option_target r (sees stops s o)) (λ t. Ends rest (with_into t o))
  eval_into None rest o = refl
  eval_into (Some r) rest o =
      then_value (target_of r (sees stops s o)) (λ t. Ok (Some t)) (λ t. Ends rest (with_into t o)) (Found o rest) _ (eval_reference r rest o) (λ t. refl)

  pub eval_delay : (e : DelayExpression) (rest : List Instruction) (o : Operands) → Ends (delay_code e ++ rest) o ≡ on_result (delay_of e (sees stops s o)) (λ ms. Ends rest (record o { delay = ms }))
  eval_delay (milliseconds n) rest o = refl
  eval_delay (seconds e) rest o =
      let flat : delay_code (seconds e) ++ rest ≡ integer_code e ++ (Seconds ∷ rest) = simp append_assoc in
      then_value (evaluated e (sees stops s o)) (λ z. Ok (seconds_of z)) (λ ms. Ends rest (record o { delay = ms })) (Integers o (Seconds ∷ rest)) _ (ap (λ is. Ends is o) flat ∙ eval_integer e (Seconds ∷ rest) o) (λ z. refl)

  -- Arguments.

  -- one more, and then the others
  one_more : (z : ℤ) (bs : List Back) (r : Result Passed Raise) (rest : List Instruction) (o : Operands) → on_result r (λ p. Ends rest (with_passed p (record o { values = o.values ++ z ∷ []; backs = o.backs ++ bs }))) ≡ on_result (one_more_passed z bs r) (λ p. Ends rest (with_passed p o))
  one_more z bs (Err raise) rest o = refl
  one_more z bs (Ok p) rest o =
      ap (λ vs. Ends rest (record o { values = vs; backs = (o.backs ++ bs) ++ p.backs })) (append_assoc o.values (z ∷ []) p.values)
      ∙ ap (λ bs. Ends rest (record o { values = o.values ++ (z ∷ p.values); backs = bs })) (append_assoc o.backs bs p.backs)

  -- what a formal begins with
  eval_copied : (is_in : Bool) (formal : Subtype) (v : Variable) (r : Reference) (rest : List Instruction) (o : Operands) →
      Ends (copied_code is_in formal ++ rest) (record o { targets = target_at (subtype_of r) v (sees stops s o) ∷ o.targets })
      ≡ on_result (copied_in is_in formal (cell v (sees stops s o))) (λ z. Ends rest (record o { integers = z ∷ o.integers; targets = target_at (subtype_of r) v (sees stops s o) ∷ o.targets }))
  eval_copied true formal v r rest o = refl
  eval_copied false formal v r rest o = refl

  pub eval_arguments : (arguments : List Argument) (n : ℕ) (rest : List Instruction) (o : Operands) → Ends (arguments_code n arguments ++ rest) o ≡ on_result (passed_from n arguments (sees stops s o)) (λ p. Ends rest (with_passed p o))
  eval_arguments [] n rest o = ap (λ vs. Ends rest (record o { values = vs })) (sym (append-nil o.values)) ∙ ap (λ bs. Ends rest (record o { values = o.values ++ []; backs = bs })) (sym (append-nil o.backs))
  eval_arguments (by_value e ∷ more) n rest o =
      let cs = arguments_code (n + 1) more in
      let flat : arguments_code n (by_value e ∷ more) ++ rest ≡ value_code e ++ (Pass ∷ (cs ++ rest)) = simp append_assoc in
      then_value (value_of e (sees stops s o)) (λ z. one_more_passed z [] (passed_from (n + 1) more (sees stops s o))) (λ p. Ends rest (with_passed p o)) (Integers o (Pass ∷ (cs ++ rest))) _ (ap (λ is. Ends is o) flat ∙ eval_value e (Pass ∷ (cs ++ rest)) o) (λ z.
      ap (λ bs. Ends (cs ++ rest) (record o { values = o.values ++ z ∷ []; backs = bs })) (sym (append-nil o.backs))
      ∙ eval_arguments more (n + 1) rest (record o { values = o.values ++ z ∷ []; backs = o.backs ++ [] }) ∙ one_more z [] (passed_from (n + 1) more (sees stops s o)) rest o)
  eval_arguments (by_copy is_in formal r ∷ more) n rest o =
      let cs = arguments_code (n + 1) more in
      let cc = copied_code is_in formal in
      let flat : arguments_code n (by_copy is_in formal r ∷ more) ++ rest ≡ reference_code r ++ (cc ++ (PassCopy n ∷ (cs ++ rest))) = simp append_assoc in
      let tail = passed_from (n + 1) more (sees stops s o) in
      then_value (found r (sees stops s o))
      (λ v. with_value (copied_in is_in formal (cell v (sees stops s o))) (λ z. one_more_passed z (record { formal = n; target = target_at (subtype_of r) v (sees stops s o) } ∷ []) tail))
      (λ p. Ends rest (with_passed p o)) (λ v. Found o (cc ++ (PassCopy n ∷ (cs ++ rest))) (target_at (subtype_of r) v (sees stops s o))) _
      (ap (λ is. Ends is o) flat ∙ eval_found r (cc ++ (PassCopy n ∷ (cs ++ rest))) o) (λ v.
      let b : Back = record { formal = n; target = target_at (subtype_of r) v (sees stops s o) } in
      then_value (copied_in is_in formal (cell v (sees stops s o))) (λ z. one_more_passed z (b ∷ []) tail)
      (λ p. Ends rest (with_passed p o)) (λ z. Ends (PassCopy n ∷ (cs ++ rest)) (record o { integers = z ∷ o.integers; targets = b.target ∷ o.targets })) _
      (eval_copied is_in formal v r (PassCopy n ∷ (cs ++ rest)) o) (λ z.
      eval_arguments more (n + 1) rest (record o { values = o.values ++ z ∷ []; backs = o.backs ++ b ∷ [] }) ∙ one_more z (b ∷ []) tail rest o))

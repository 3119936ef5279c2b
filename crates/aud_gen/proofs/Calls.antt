-- The code of calls, of tasks that are named, of objects that are declared, and of barriers in memory.
use Rattle.std.proofs.Common.{◌≡◌, ℕ, ◌+◌, ◌<◌, List, [], ◌∷◌, ◌++◌, length, drop, get_or, map, Option, Some, None, refl, ap, sym, subst, ◌∙◌, arith, append_assoc, length-append}
use Rattle.std.proofs.lemmas.List.{map-append}
use Rattle.aud_typed.specs.declared.program.Entry.{Entry}
use Rattle.aud_typed.specs.declared.program.EntryBody.{EntryBody}
use Rattle.aud_typed.specs.declared.program.Unit as declared
use Rattle.aud_typed.specs.declared.program.TaskName.{TaskName}
use Rattle.aud_typed.specs.declared.program.ValueExpression.{ValueExpression}
use Rattle.aud_typed.specs.Ties.View.{entry_with, plain_task, plain_task_names, plain_value, plain_values}
use Rattle.aud_typed.specs.Tree as tree
use Rattle.aud_code.specs.declared.line.Barrier.{Barrier}
use Rattle.aud_code.specs.Instruction.{Instruction, Component, Mark, Name, If}
use Rattle.aud_code.specs.Flat.{Does, EndLine, FlatLine, instructs, end, instructions_from}
use Rattle.aud_code.specs.Frames.{found_from, found, Found}
use Rattle.aud_code.specs.Sound.{Counts, TakesTruth}
use Rattle.aud_code.specs.Tabled.{table_of, IsTabled, IsDecided, AllDecided}
use Rattle.aud_code.specs.View.{frames_in, plain_barrier}
use Rattle.aud_layout.specs.Instructions.{call_code, called_code, components_code, condition_code, names_code, task_code, value_code}
use Rattle.aud_layout.proofs.Flat.Tabling.{condition_tabled}
use Rattle.aud_gen.specs.Opening.{frames_before}
use Rattle.aud_gen.specs.Writes.{barrier_in, barriers_in, callee_code, component_code, name_code}
use Rattle.aud_gen.proofs.Loops.{dropped}

-- Whose entry is called, and what the call brings.
pub call_split : (c : tree.Callee) (arguments : List tree.Argument) (form : tree.CallForm) → call_code c arguments form ≡ callee_code c ++ called_code arguments form
call_split (tree.of_task t) arguments form = sym (append_assoc (task_code t) (Name ∷ Mark ∷ []) (called_code arguments form))
call_split (tree.of_object v) arguments form = refl

-- The name of a task, and those behind it.
pub next_name : (xs : List TaskName) (i : ℕ) (x : TaskName) → i < length xs → x ≡ get_or xs i x → names_code (plain_task_names (drop i xs)) ≡ name_code (plain_task x) ++ names_code (plain_task_names (drop (i + 1) xs))
next_name xs i x h e =
    ap (λ ys. names_code (plain_task_names ys)) (dropped xs i x h e)
    ∙ sym (append_assoc (task_code (plain_task x)) (Name ∷ []) (names_code (plain_task_names (drop (i + 1) xs))))

pub next_name_length : (xs : List TaskName) (i : ℕ) (x : TaskName) → i < length xs → x ≡ get_or xs i x → length (names_code (plain_task_names (drop i xs))) ≡ length (task_code (plain_task x)) + 1 + length (names_code (plain_task_names (drop (i + 1) xs)))
next_name_length xs i x h e =
    let rest = names_code (plain_task_names (drop (i + 1) xs)) in
    let all = ap length (next_name xs i x h e) ∙ length-append (name_code (plain_task x)) rest in
    let own = length-append (task_code (plain_task x)) (Name ∷ []) in
    omega (arith, all, own)

-- A component, and those behind it.
pub next_component : (xs : List ValueExpression) (i : ℕ) (x : ValueExpression) → i < length xs → x ≡ get_or xs i x → components_code (plain_values (drop i xs)) ≡ component_code (plain_value x) ++ components_code (plain_values (drop (i + 1) xs))
next_component xs i x h e =
    ap (λ ys. components_code (plain_values ys)) (dropped xs i x h e)
    ∙ sym (append_assoc (value_code (plain_value x)) (Component ∷ []) (components_code (plain_values (drop (i + 1) xs))))

pub next_component_length : (xs : List ValueExpression) (i : ℕ) (x : ValueExpression) → i < length xs → x ≡ get_or xs i x → length (components_code (plain_values (drop i xs))) ≡ length (value_code (plain_value x)) + 1 + length (components_code (plain_values (drop (i + 1) xs)))
next_component_length xs i x h e =
    let rest = components_code (plain_values (drop (i + 1) xs)) in
    let all = ap length (next_component xs i x h e) ∙ length-append (component_code (plain_value x)) rest in
    let own = length-append (value_code (plain_value x)) (Component ∷ []) in
    omega (arith, all, own)

-- A barrier: its instructions, and an ending.

its_instructions : (is : List Instruction) (l : EndLine) → instructions_from (map instructs is ++ end l ∷ []) ≡ is
its_instructions [] l = refl
its_instructions (i ∷ is) l = ap (λ js. i ∷ js) (its_instructions is l)

its_end : (is : List Instruction) (l : EndLine) → found_from (map instructs is ++ end l ∷ []) ≡ Some l
its_end [] l = refl
its_end (i ∷ is) l = its_end is l

pub barrier_plain : (is : List Instruction) (l : EndLine) (lines : List FlatLine) → lines ≡ map instructs is ++ end l ∷ [] → instructions_from lines ≡ is
barrier_plain is l lines e = ap instructions_from e ∙ its_instructions is l

pub barrier_decided : (e : tree.BooleanExpression) (l : EndLine) (lines : List FlatLine) (table : List Counts) → l.last ≡ Does If → lines ≡ map instructs (condition_code e) ++ end l ∷ [] → table ≡ table_of lines → IsTabled lines table × Found (found lines 0) (λ l. TakesTruth l.last)
barrier_decided e l lines table takes are tabled =
    let is = condition_code e in
    let fits = condition_tabled e l takes in (
      subst (IsTabled lines) (sym tabled) (subst (λ ls. IsTabled ls (table_of ls)) (sym are) fits),
      subst (λ o. Found o (λ (k : EndLine). TakesTruth k.last)) (sym (ap found_from are ∙ its_end is l)) (subst TakesTruth (sym takes) tt),
    )

-- All of them, so far and those that are left.

barrier_is : (name : List ℕ) (formals : ℕ) (b : Option EntryBody) → (entry_with name formals b).barrier ≡ barrier_in b
barrier_is name formals None = refl
barrier_is name formals (Some b) = refl

pub next_barrier : (xs : List Entry) (i : ℕ) (x : Entry) → i < length xs → x ≡ get_or xs i x → map condition_code (barriers_in (drop i xs)) ≡ condition_code (barrier_in x.body) ∷ map condition_code (barriers_in (drop (i + 1) xs))
next_barrier xs i x h e =
    ap (λ ys. map condition_code (barriers_in ys)) (dropped xs i x h e)
    ∙ ap (λ b. condition_code b ∷ map condition_code (barriers_in (drop (i + 1) xs))) (barrier_is x.name x.formals x.body)

pub one_barrier : (xs : List Entry) (i : ℕ) (x : Entry) → i < length xs → x ≡ get_or xs i x → (now new : List Barrier) (b : Barrier) (whole : List (List Instruction)) → new ≡ now ++ b ∷ [] → plain_barrier b ≡ condition_code (barrier_in x.body) → map plain_barrier now ++ map condition_code (barriers_in (drop i xs)) ≡ whole → map plain_barrier new ++ map condition_code (barriers_in (drop (i + 1) xs)) ≡ whole
one_barrier xs i x h e now new b whole added is left =
    let rest = map condition_code (barriers_in (drop (i + 1) xs)) in
    ap (λ bs. map plain_barrier bs ++ rest) added
    ∙ ap (λ bs. bs ++ rest) (map-append plain_barrier now (b ∷ []))
    ∙ append_assoc (map plain_barrier now) (plain_barrier b ∷ []) rest
    ∙ ap (λ k. map plain_barrier now ++ (k ∷ rest)) is
    ∙ ap (λ ks. map plain_barrier now ++ ks) (sym (next_barrier xs i x h e))
    ∙ left

pub all_decided : (bs : List Barrier) (b : Barrier) → AllDecided bs → IsDecided b → AllDecided (bs ++ b ∷ [])
all_decided [] b h k = (k, tt)
all_decided (x ∷ bs) b h k = (h.0, all_decided bs b h.1 k)

pub one_before : (units : List declared.Unit) (xs : List Entry) (i : ℕ) (x : Entry) → i < length xs → x ≡ get_or xs i x → (now new : List Barrier) (b : Barrier) (whole : List ℕ) → new ≡ now ++ b ∷ [] → b.frames ≡ frames_before units x → frames_in now ++ map (frames_before units) (drop i xs) ≡ whole → frames_in new ++ map (frames_before units) (drop (i + 1) xs) ≡ whole
one_before units xs i x h e now new b whole added is left =
    let rest = map (frames_before units) (drop (i + 1) xs) in
    ap (λ bs. frames_in bs ++ rest) added
    ∙ ap (λ ns. ns ++ rest) (map-append (λ (k : Barrier). k.frames) now (b ∷ []))
    ∙ append_assoc (frames_in now) (b.frames ∷ []) rest
    ∙ ap (λ n. frames_in now ++ (n ∷ rest)) is
    ∙ ap (λ ys. frames_in now ++ map (frames_before units) ys) (sym (dropped xs i x h e))
    ∙ left

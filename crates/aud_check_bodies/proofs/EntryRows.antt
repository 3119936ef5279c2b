-- Entries, their calls and accepts in small, and what is said of them.
use Rattle.std.specs.Prelude.{ℕ, pos, Bool, true, false, List, [], ◌∷◌, codes, Some, None}
use Rattle.std.proofs.Common.{◌≡◌, refl}
use Rattle.aud_text.specs.declared.place.Pos.{Pos}
use Rattle.aud_text.specs.declared.refusal.Refusal.{Refusal}
use Rattle.aud_text.specs.declared.refusal.Refusal.TheVariants.{NameNotDeclared, DeclaredTwice, WrongKindOfName, WrongType, WrongNumberOfArguments, NotAVariable, WrongNameAtEnd, AcceptOrCountOutOfPlace, FormalsDoNotConform, ExitWithoutLoop}
use Rattle.aud_syntax.specs.declared.tree.Bound.{Bound}
use Rattle.aud_syntax.specs.declared.tree.Mode.{Mode}
use Rattle.aud_syntax.specs.declared.tree.Mode.TheVariants.{Unstated, In, Out, InOut}
use Rattle.aud_syntax.specs.Plain.{Expression, named, no_parts, more_parts, part, Args, no_args, more_args, no_expression, Formal, formal, EntryDeclaration, Declaration, object, array, procedure, task, task_body, Statement, null, call, return, exit, loop, forever, block, accepting, accept, Doing, without_do, with_do, Body, body, no_handlers, Unit, unit}
use Rattle.aud_syntax.specs.Why.Shorthand.{at, id, var_at, num, var, only, statements, declarations}
use Rattle.aud_typed.specs.declared.program.Subtype.TheVariants.{Integer, Boolean}
use Rattle.aud_typed.specs.Tree as tree
use Rattle.aud_fault.specs.declared.fault.Fault.{Fault}
use Rattle.aud_check_bodies.specs.Programs.{faults, typed}

abbrev fault : Pos → Refusal → Fault
fault p refusal = record { at = p; refusal = refusal }

-- M: its declarations from line 1 on, one statement, its end on line 9
abbrev main : List Declaration → Statement → Unit
main ds s = unit [] (at 1 1) (id (codes "M") (at 1 11)) (declarations ds) (body (at 6 1) (statements s []) no_handlers (at 9 1) None (at 9 4))

abbrev nothing : Statement
nothing = null (at 7 1)

-- N : mode type
abbrev one_formal : List ℕ → Pos → Mode → List ℕ → Pos → Formal
one_formal name p mode type q = formal (id name p) [] mode (id type q)

-- entry E (N : in Integer; V : out Boolean); entry F;
abbrev entry_e : EntryDeclaration
entry_e = record { name = id (codes "E") (at 2 20); formals = one_formal (codes "N") (at 2 22) (In (at 2 26)) (codes "INTEGER") (at 2 29) ∷ one_formal (codes "V") (at 2 38) (Out (at 2 42)) (codes "BOOLEAN") (at 2 46) ∷ [] }

abbrev entry_at : List ℕ → Pos → EntryDeclaration
entry_at name p = record { name = id name p; formals = [] }

abbrev entry_f : EntryDeclaration
entry_f = entry_at (codes "F") (at 2 60)

-- task T is .. end; and task type T is .. end;
abbrev task_t : Bool → List EntryDeclaration → Declaration
task_t is_type es = task (at 2 1) is_type (id (codes "T") (at 2 11)) (Some (record { entries = es; end_name = None }))

-- task body T is declarations begin s end;
abbrev body_of_t : List Declaration → Statement → Declaration
body_of_t ds s = task_body (at 4 1) (id (codes "T") (at 4 11)) (declarations ds) (body (at 5 1) (statements s []) no_handlers (at 5 90) None (at 5 93))

-- B : Boolean; and X : T;
abbrev a_b : Declaration
a_b = object (id (codes "B") (at 1 40)) [] (id (codes "BOOLEAN") (at 1 44)) no_expression

abbrev an_x : Declaration
an_x = object (id (codes "X") (at 3 1)) [] (id (codes "T") (at 3 5)) no_expression

abbrev bound : ℕ → Pos → Bound
bound n p = record { negative = false; number = record { value = Some (pos n); at = p } }

-- A : array (1 .. 3) of T;
abbrev an_a : Declaration
an_a = array (id (codes "A") (at 3 1)) [] (bound 1 (at 3 12)) (bound 3 (at 3 17)) (id (codes "T") (at 3 23))

abbrev args : List Expression → Args
args [] = no_args
args (e ∷ es) = more_args e (args es)

-- T.name (..); on line 7
abbrev call_of : List ℕ → List Expression → Statement
call_of name es = call (named (part (id (codes "T") (at 7 1)) no_args) (more_parts (part (id name (at 7 3)) (args es)) no_parts))

-- do s end name;
abbrev doing : Statement → Doing
doing s = with_do (body (at 5 40) (statements s []) no_handlers (at 5 60) None (at 5 63))

-- accept E formals; on line 5
abbrev formals_of_e : Mode → List ℕ → List Formal
formals_of_e mode type = one_formal (codes "N") (at 5 16) Unstated (codes "INTEGER") (at 5 20) ∷ one_formal (codes "V") (at 5 29) mode type (at 5 37) ∷ []

abbrev accept_e : Doing → Statement
accept_e x = accepting (accept (at 5 7) (id (codes "E") (at 5 14)) (formals_of_e (Out (at 5 33)) (codes "BOOLEAN")) x)

abbrev accept_f : Pos → Doing → Statement
accept_f p x = accepting (accept p (id (codes "F") p) [] x)

abbrev with_accept : Statement → Unit
with_accept s = main (task_t false (entry_e ∷ entry_f ∷ []) ∷ body_of_t [] s ∷ []) nothing

abbrev with_call : Statement → Unit
with_call s = main (a_b ∷ task_t false (entry_e ∷ entry_f ∷ []) ∷ body_of_t [] (accept_f (at 5 7) without_do) ∷ []) s

-- What is left.

abbrev hidden_one : List ℕ → tree.Named
hidden_one name = record { name = name; shown = tree.hidden 1 }

abbrev cell : ℕ → ℕ → tree.TaskName
cell level index = tree.single (record { level = level; index = index })

abbrev called : Pos → tree.TaskName → ℕ → List tree.Argument → tree.Statement
called p t entry xs = tree.entry_call p (record { callee = tree.of_task t; entry = entry; arguments = xs; form = tree.plainly }) tree.nothing tree.nothing

-- an accept with its formals, and what is done; the tables have the entries in the order of their declarations
accept_row : typed (with_accept (accept_e (doing (null (at 5 45))))) ≡ tree.program_of_units (record {
  name = codes "M";
  units =
      (record { level = 0; region = 0; is_function = false; at = at 1 1; body = tree.body (tree.some (tree.sequence (tree.declare_tasks (at 2 1) (record { task_type = 0; name = codes "T"; low = pos 0; is_array = false; length = 1 })) (tree.activate (at 6 1)))) (at 6 1) (tree.null (at 7 1)) tree.no_handlers (at 9 1) })
      ∷ (record { level = 1; region = 1; is_function = false; at = at 4 1; body = tree.body (tree.some (tree.activated (at 5 1))) (at 5 1) (tree.accept (at 5 7) 0 (tree.with_do 2 (tree.body tree.nothing (at 5 40) (tree.null (at 5 45)) tree.no_handlers (at 5 60)))) tree.no_handlers (at 5 90) })
      ∷ [];
  tasks = record { unit = 1; entries = 0 ∷ 1 ∷ [] } ∷ [];
  objects = [];
  entries = tree.task_entry (codes "E") 2 ∷ tree.task_entry (codes "F") 0 ∷ [];
  regions = (hidden_one (codes "T") ∷ []) ∷ (hidden_one [] ∷ []) ∷ (record { name = codes "N"; shown = tree.as_whole } ∷ record { name = codes "V"; shown = tree.as_truth } ∷ []) ∷ [];
  exceptions = [];
})
accept_row = refl

accept_fine_row : faults (with_accept (accept_e (doing (null (at 5 45))))) ≡ []
accept_fine_row = refl

abbrev statement_of : List tree.Body → tree.Statement
statement_of [] = tree.null (at 0 0)
statement_of (tree.body d begin s h end ∷ bs) = s

-- what the main procedure does
abbrev does : Unit → tree.Statement
does u = statement_of (typed u).bodies

call_row : does (with_call (call_of (codes "E") (only (num 1 (at 7 6)) ∷ only (var (codes "B") (at 7 9)) ∷ [])))
    ≡ called (at 7 1) (cell 0 1) 0 (tree.by_value (tree.whole Integer (tree.number (pos 1))) ∷ tree.by_copy false Boolean (tree.scalar (record { level = 0; index = 0 }) Boolean) ∷ [])
call_row = refl

call_fine_row : faults (with_call (call_of (codes "E") (only (num 1 (at 7 6)) ∷ only (var (codes "B") (at 7 9)) ∷ []))) ≡ []
call_fine_row = refl

-- an element's entry
abbrev element_call : List Expression → Statement
element_call es = call (named (part (id (codes "A") (at 7 1)) (args es)) (more_parts (part (id (codes "F") (at 7 7)) no_args) no_parts))

abbrev with_array : Statement → Unit
with_array s = main (task_t true (entry_f ∷ []) ∷ an_a ∷ body_of_t [] (accept_f (at 5 7) without_do) ∷ []) s

element_row : does (with_array (element_call (only (num 2 (at 7 4)) ∷ []))) ≡ called (at 7 1) (tree.indexed (record { first = record { level = 0; index = 0 }; low = pos 1; length = 3 }) (tree.number (pos 2))) 0 []
element_row = refl

index_type_row : faults (with_array (element_call (only (var (codes "TRUE") (at 7 4)) ∷ []))) ≡ fault (at 7 4) WrongType ∷ []
index_type_row = refl

two_indexes_row : faults (with_array (element_call (only (num 2 (at 7 4)) ∷ only (num 3 (at 7 5)) ∷ []))) ≡ fault (at 7 1) WrongNumberOfArguments ∷ []
two_indexes_row = refl

no_index_row : faults (with_array (element_call [])) ≡ fault (at 7 1) WrongKindOfName ∷ []
no_index_row = refl

-- in its body a task's entry is named by itself, or behind the task's name; a procedure within it calls it too
own_row : faults (with_accept (call (var_at (codes "F") (at 5 7)))) ≡ []
own_row = refl

behind_own_row : faults (with_accept (call (named (part (id (codes "T") (at 5 7)) no_args) (more_parts (part (id (codes "F") (at 5 9)) no_args) no_parts)))) ≡ []
behind_own_row = refl

-- Faults of calls.

no_entry_row : faults (with_call (call_of (codes "G") [])) ≡ fault (at 7 3) NameNotDeclared ∷ []
no_entry_row = refl

too_many_row : faults (with_call (call_of (codes "F") (only (num 1 (at 7 6)) ∷ []))) ≡ fault (at 7 3) WrongNumberOfArguments ∷ []
too_many_row = refl

value_out_row : faults (with_call (call_of (codes "E") (only (num 1 (at 7 6)) ∷ only (var (codes "TRUE") (at 7 9)) ∷ []))) ≡ fault (at 7 9) NotAVariable ∷ []
value_out_row = refl

-- Faults of declarations.

twice_row : faults (main (task_t false (entry_f ∷ entry_at (codes "F") (at 2 70) ∷ []) ∷ body_of_t [] nothing ∷ []) nothing) ≡ fault (at 2 70) DeclaredTwice ∷ []
twice_row = refl

-- the entries and the declarations of the body are one region
same_region_row : faults (main (task_t false (entry_f ∷ []) ∷ body_of_t (object (id (codes "F") (at 4 20)) [] (id (codes "INTEGER") (at 4 24)) no_expression ∷ []) nothing ∷ []) nothing) ≡ fault (at 4 20) DeclaredTwice ∷ []
same_region_row = refl

abbrev with_mark : List ℕ → Unit
with_mark type = main (task_t false (entry_f ∷ record { name = id (codes "E") (at 2 70); formals = one_formal (codes "N") (at 2 72) Unstated type (at 2 76) ∷ [] } ∷ []) ∷ body_of_t [] nothing ∷ []) nothing

-- in its own formals an entry is not declared yet; those before it are, and the task is
own_mark_row : faults (with_mark (codes "E")) ≡ fault (at 2 76) NameNotDeclared ∷ []
own_mark_row = refl

entry_mark_row : faults (with_mark (codes "F")) ≡ fault (at 2 76) WrongKindOfName ∷ []
entry_mark_row = refl

task_mark_row : faults (with_mark (codes "T")) ≡ fault (at 2 76) WrongKindOfName ∷ []
task_mark_row = refl

-- Faults of accepts.

unknown_row : faults (with_accept (accepting (accept (at 5 7) (id (codes "G") (at 5 14)) [] without_do))) ≡ fault (at 5 14) NameNotDeclared ∷ []
unknown_row = refl

kind_row : faults (with_accept (accepting (accept (at 5 7) (id (codes "T") (at 5 14)) [] without_do))) ≡ fault (at 5 14) WrongKindOfName ∷ []
kind_row = refl

fewer_row : faults (with_accept (accepting (accept (at 5 7) (id (codes "E") (at 5 14)) [] without_do))) ≡ fault (at 5 14) FormalsDoNotConform ∷ []
fewer_row = refl

abbrev as_e : Mode → List ℕ → Statement
as_e mode type = accepting (accept (at 5 7) (id (codes "E") (at 5 14)) (formals_of_e mode type) without_do)

mode_row : faults (with_accept (as_e (InOut (at 5 33)) (codes "BOOLEAN"))) ≡ fault (at 5 14) FormalsDoNotConform ∷ []
mode_row = refl

subtype_row : faults (with_accept (as_e (Out (at 5 33)) (codes "INTEGER"))) ≡ fault (at 5 14) FormalsDoNotConform ∷ []
subtype_row = refl

-- nothing more is said of a faulty subtype
faulty_subtype_row : faults (with_accept (as_e (Out (at 5 33)) (codes "NOTHING"))) ≡ fault (at 5 37) NameNotDeclared ∷ []
faulty_subtype_row = refl

other_name_row : faults (with_accept (accepting (accept (at 5 7) (id (codes "E") (at 5 14)) (one_formal (codes "M") (at 5 16) Unstated (codes "INTEGER") (at 5 20) ∷ one_formal (codes "V") (at 5 29) (Out (at 5 33)) (codes "BOOLEAN") (at 5 37) ∷ []) without_do))) ≡ fault (at 5 14) FormalsDoNotConform ∷ []
other_name_row = refl

-- an accept stands in no accept of its own entry, but in one of another, in blocks and in loops
nested_row : faults (with_accept (accept_f (at 5 7) (doing (accept_f (at 5 45) without_do)))) ≡ fault (at 5 45) AcceptOrCountOutOfPlace ∷ []
nested_row = refl

other_nested_row : faults (with_accept (accept_e (doing (accept_f (at 5 45) without_do)))) ≡ []
other_nested_row = refl

abbrev in_block : Statement → Statement
in_block s = block None (at 5 7) true (declarations []) (body (at 5 8) (statements s []) no_handlers (at 5 70) None (at 5 73))

in_block_row : faults (with_accept (in_block (loop None (at 5 9) forever (statements (accept_f (at 5 20) without_do) []) None (at 5 60)))) ≡ []
in_block_row = refl

-- and in no procedure
in_procedure_row : faults (main (task_t false (entry_f ∷ []) ∷ body_of_t (procedure (at 4 20) (id (codes "P") (at 4 30)) [] (declarations []) (body (at 4 40) (statements (accept_f (at 4 50) without_do) []) no_handlers (at 4 60) None (at 4 63)) ∷ []) nothing ∷ []) nothing)
    ≡ fault (at 4 50) AcceptOrCountOutOfPlace ∷ []
in_procedure_row = refl

-- nor in the body of a task within
inner_task_row : faults (main (task_t false (entry_f ∷ []) ∷ body_of_t (task (at 4 20) false (id (codes "U") (at 4 25)) None ∷ task_body (at 4 30) (id (codes "U") (at 4 40)) (declarations []) (body (at 4 45) (statements (accept_f (at 4 50) without_do) []) no_handlers (at 4 60) None (at 4 63)) ∷ []) nothing ∷ []) nothing)
    ≡ fault (at 4 50) AcceptOrCountOutOfPlace ∷ []
inner_task_row = refl

-- no exit leaves an accept, and a return leaves no more than that
exit_row : faults (with_accept (loop None (at 5 2) forever (statements (accept_f (at 5 7) (doing (exit (at 5 45) None no_expression))) []) None (at 5 80))) ≡ fault (at 5 45) ExitWithoutLoop ∷ []
exit_row = refl

return_row : faults (with_accept (accept_f (at 5 7) (doing (return (at 5 45) no_expression)))) ≡ []
return_row = refl

end_name_row : faults (with_accept (accept_f (at 5 7) (with_do (body (at 5 40) (statements (null (at 5 45)) []) no_handlers (at 5 60) (Some (id (codes "E") (at 5 64))) (at 5 65))))) ≡ fault (at 5 64) WrongNameAtEnd ∷ []
end_name_row = refl

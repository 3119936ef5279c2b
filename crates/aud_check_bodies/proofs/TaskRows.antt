-- Tasks in small, and what is said of them.
use Rattle.std.specs.Prelude.{ℕ, pos, Bool, true, false, List, [], ◌∷◌, codes, Some, None}
use Rattle.std.proofs.Common.{◌≡◌, refl}
use Rattle.aud_text.specs.declared.place.Pos.{Pos}
use Rattle.aud_text.specs.declared.refusal.Refusal.{Refusal}
use Rattle.aud_text.specs.declared.refusal.Refusal.TheVariants.{DeclaredTwice, WrongKindOfName, WrongNameAtEnd, NoMatchingBody, ReturnOutOfPlace}
use Rattle.aud_syntax.specs.declared.tree.Bound.{Bound}
use Rattle.aud_syntax.specs.Plain.{attribute, no_expression, Declaration, object, array, task, task_body, Statement, null, return, if_then, no_arms, no_statements, body, no_handlers, Unit, unit}
use Rattle.aud_syntax.specs.Why.Shorthand.{at, id, var_at, only, statements, declarations}
use Rattle.aud_typed.specs.Tree as tree
use Rattle.aud_fault.specs.declared.fault.Fault.{Fault}
use Rattle.aud_check_bodies.specs.Programs.{faults, typed}

abbrev fault : Pos → Refusal → Fault
fault p refusal = record { at = p; refusal = refusal }

-- M: its declarations from line 2 on, one statement, its end on line 9
abbrev main : List Declaration → Statement → Unit
main ds s = unit [] (at 1 1) (id (codes "M") (at 1 11)) (declarations ds) (body (at 6 1) (statements s []) no_handlers (at 9 1) None (at 9 4))

abbrev nothing : Statement
nothing = null (at 7 1)

-- task T; and task type T;
abbrev task_t : Bool → Declaration
task_t is_type = task (at 2 1) is_type (id (codes "T") (at 2 11)) None

-- task body T is declarations begin s end;
abbrev body_of_t : List Declaration → Statement → Declaration
body_of_t ds s = task_body (at 4 1) (id (codes "T") (at 4 11)) (declarations ds) (body (at 5 1) (statements s []) no_handlers (at 5 50) None (at 5 53))

-- X : T;
abbrev an_x : Declaration
an_x = object (id (codes "X") (at 3 1)) [] (id (codes "T") (at 3 5)) no_expression

abbrev bound : ℕ → Pos → Bound
bound n p = record { negative = false; number = record { value = Some (pos n); at = p } }

-- A : array (2 .. last) of T;
abbrev an_a : ℕ → Declaration
an_a last = array (id (codes "A") (at 3 11)) [] (bound 2 (at 3 20)) (bound last (at 3 25)) (id (codes "T") (at 3 30))

-- if T'Terminated then null; end if;
abbrev asks : Pos → Statement
asks p = if_then p (only (attribute (var_at (codes "T") p) (id (codes "TERMINATED") p) no_expression)) (statements (null p) []) no_arms no_statements

abbrev asked : Pos → tree.TaskName → tree.Statement
asked p name = tree.if_then p (tree.terminated name) (tree.null p) tree.nothing

-- What is left.

abbrev number_of_task : tree.Named
number_of_task = record { name = []; shown = tree.hidden 1 }

abbrev created : Pos → List ℕ → ℕ → Bool → ℕ → tree.Statement
created p name low is_array count = tree.declare_tasks p (record { task_type = 0; name = name; low = pos low; is_array = is_array; length = count })

abbrev own : tree.TaskName
own = tree.single (record { level = 1; index = 0 })

-- tasks of a type are created one by one, and activated at `begin`; in its body the type is the task that runs it
type_row : typed (main (task_t true ∷ an_x ∷ an_a 4 ∷ body_of_t [] (asks (at 5 7)) ∷ []) nothing) ≡ tree.program_of_units (record {
  name = codes "M";
  units =
      (record { level = 0; region = 0; is_function = false; at = at 1 1; body = tree.body (tree.some (tree.sequence (created (at 3 1) (codes "X") 0 false 1) (tree.sequence (created (at 3 11) (codes "A") 2 true 3) (tree.activate (at 6 1))))) (at 6 1) (tree.null (at 7 1)) tree.no_handlers (at 9 1) })
      ∷ (record { level = 1; region = 1; is_function = false; at = at 4 1; body = tree.body (tree.some (tree.activated (at 5 1))) (at 5 1) (asked (at 5 7) own) tree.no_handlers (at 5 50) })
      ∷ [];
  tasks = record { unit = 1; entries = [] } ∷ [];
  objects = [];
  entries = [];
  regions = (record { name = codes "X"; shown = tree.hidden 1 } ∷ record { name = codes "A"; shown = tree.hidden 3 } ∷ []) ∷ (number_of_task ∷ []) ∷ [];
  exceptions = [];
})
type_row = refl

type_fine_row : faults (main (task_t true ∷ an_x ∷ an_a 4 ∷ body_of_t [] (asks (at 5 7)) ∷ []) nothing) ≡ []
type_fine_row = refl

abbrev bodies_of : tree.Program → List tree.Body
bodies_of p = p.bodies

-- a single task is created at its declaration; a task within it is activated behind its own activation
abbrev inner : List Declaration
inner = task (at 4 20) false (id (codes "U") (at 4 25)) None ∷ task_body (at 4 30) (id (codes "U") (at 4 40)) (declarations []) (body (at 4 45) (statements (null (at 4 50)) []) no_handlers (at 4 60) None (at 4 63)) ∷ []

single_row : bodies_of (typed (main (task_t false ∷ body_of_t inner (null (at 5 7)) ∷ []) (asks (at 7 1))))
    ≡ tree.body (tree.some (tree.sequence (created (at 2 1) (codes "T") 0 false 1) (tree.activate (at 6 1)))) (at 6 1) (asked (at 7 1) (tree.single (record { level = 0; index = 0 }))) tree.no_handlers (at 9 1)
    ∷ tree.body (tree.some (tree.sequence (tree.declare_tasks (at 4 20) (record { task_type = 1; name = codes "U"; low = pos 0; is_array = false; length = 1 })) (tree.sequence (tree.activated (at 5 1)) (tree.activate (at 5 1))))) (at 5 1) (tree.null (at 5 7)) tree.no_handlers (at 5 50)
    ∷ tree.body (tree.some (tree.activated (at 4 45))) (at 4 45) (tree.null (at 4 50)) tree.no_handlers (at 4 60) ∷ []
single_row = refl

-- an array without elements is no task, and a type is none
empty_row : bodies_of (typed (main (task_t true ∷ an_a 1 ∷ body_of_t [] (null (at 5 7)) ∷ []) nothing))
    ≡ tree.body (tree.some (created (at 3 11) (codes "A") 2 true 0)) (at 6 1) (tree.null (at 7 1)) tree.no_handlers (at 9 1)
    ∷ tree.body (tree.some (tree.activated (at 5 1))) (at 5 1) (tree.null (at 5 7)) tree.no_handlers (at 5 50) ∷ []
empty_row = refl

-- Faults.

no_body_row : faults (main (task_t false ∷ []) nothing) ≡ fault (at 2 11) NoMatchingBody ∷ []
no_body_row = refl

no_task_row : faults (main (body_of_t [] (null (at 5 7)) ∷ []) nothing) ≡ fault (at 4 11) NoMatchingBody ∷ []
no_task_row = refl

second_body_row : faults (main (task_t false ∷ body_of_t [] (null (at 5 7)) ∷ body_of_t [] (null (at 5 7)) ∷ []) nothing) ≡ fault (at 4 11) NoMatchingBody ∷ []
second_body_row = refl

-- a name that is declared twice waits for no second body
twice_row : faults (main (task_t false ∷ task_t true ∷ body_of_t [] (null (at 5 7)) ∷ []) nothing) ≡ fault (at 2 11) DeclaredTwice ∷ []
twice_row = refl

-- in its body it is no type
own_type_row : faults (main (task_t true ∷ body_of_t (an_x ∷ []) (null (at 5 7)) ∷ []) nothing) ≡ fault (at 3 5) WrongKindOfName ∷ []
own_type_row = refl

end_name_row : faults (main (task (at 2 1) false (id (codes "T") (at 2 6)) (Some (record { entries = []; end_name = Some (id (codes "S") (at 2 20)) })) ∷ body_of_t [] (null (at 5 7)) ∷ []) nothing) ≡ fault (at 2 20) WrongNameAtEnd ∷ []
end_name_row = refl

return_row : faults (main (task_t false ∷ body_of_t [] (return (at 5 7) no_expression) ∷ []) nothing) ≡ fault (at 5 7) ReturnOutOfPlace ∷ []
return_row = refl

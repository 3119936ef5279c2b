-- Procedures in small, and what is said of them.
use Rattle.std.specs.Prelude.{ℕ, pos, true, List, [], ◌∷◌, codes, Some, None}
use Rattle.std.proofs.Common.{false, ◌≡◌, refl}
use Rattle.aud_text.specs.declared.place.Pos.{Pos}
use Rattle.aud_text.specs.declared.refusal.Refusal.{Refusal}
use Rattle.aud_text.specs.declared.refusal.Refusal.TheVariants.{NameNotDeclared, DeclaredTwice, WrongKindOfName, WrongType, WrongNumberOfArguments, NotAVariable, WrongNameAtEnd, ExitWithoutLoop, ReturnOutOfPlace, RaiseWithoutHandler}
use Rattle.aud_syntax.specs.declared.tree.Mode.{Mode}
use Rattle.aud_syntax.specs.declared.tree.Mode.TheVariants.{Unstated, In, Out, InOut}
use Rattle.aud_syntax.specs.declared.tree.Adding.TheVariants.{Plus}
use Rattle.aud_syntax.specs.Plain.{Expression, group, named, no_parts, part, Args, no_args, more_args, no_expression, an_expression, Formal, formal, Declaration, object, procedure, Statement, null, assign, call, loop, forever, block, exit, return, raise, Body, body, Handlers, no_handlers, more_handlers, others, Unit, unit}
use Rattle.aud_syntax.specs.Why.Shorthand.{at, id, var_at, one, num, str, var, sum, adding, only, statements, declarations}
use Rattle.aud_typed.specs.declared.program.Subtype.TheVariants.{Integer}
use Rattle.aud_typed.specs.Tree as tree
use Rattle.aud_fault.specs.declared.fault.Fault.{Fault}
use Rattle.aud_check_bodies.specs.Programs.{faults, typed}

abbrev fault : Pos → Refusal → Fault
fault p refusal = record { at = p; refusal = refusal }

-- M: its declarations from line 2 on, one statement, its end on line 9
abbrev main_body : Statement → Handlers → Body
main_body s hs = body (at 5 1) (statements s []) hs (at 9 1) None (at 9 4)

abbrev main : List Declaration → Statement → Unit
main ds s = unit [] (at 1 1) (id (codes "M") (at 1 11)) (declarations ds) (main_body s no_handlers)

-- the statements of a procedure on line 3, and its end
abbrev own_body : Statement → Body
own_body s = body (at 3 1) (statements s []) no_handlers (at 3 70) None (at 3 73)

-- procedure P (formals) is declarations begin s end;
abbrev p_with : List Formal → List Declaration → Statement → Declaration
p_with fs ds s = procedure (at 2 1) (id (codes "P") (at 2 11)) fs (declarations ds) (own_body s)

abbrev p_of : List Formal → Declaration
p_of fs = p_with fs [] (null (at 3 7))

-- N : mode type
abbrev one_formal : List ℕ → Pos → Mode → List ℕ → Pos → Formal
one_formal spelling p mode type q = formal (id spelling p) [] mode (id type q)

abbrev n_of : Mode → Formal
n_of mode = one_formal (codes "N") (at 2 14) mode (codes "INTEGER") (at 2 25)

-- V : Integer;  B : Boolean;  K : Integer
abbrev a_v : Declaration
a_v = object (id (codes "V") (at 1 20)) [] (id (codes "INTEGER") (at 1 24)) no_expression

abbrev a_b : Declaration
a_b = object (id (codes "B") (at 1 40)) [] (id (codes "BOOLEAN") (at 1 44)) no_expression

abbrev args : List Expression → Args
args [] = no_args
args (e ∷ es) = more_args e (args es)

-- P (..); on line 6
abbrev call_p : List Expression → Statement
call_p es = call (named (part (id (codes "P") (at 6 1)) (args es)) no_parts)

abbrev named_arg : List ℕ → ℕ → Expression
named_arg spelling col = only (var spelling (at 6 col))

-- What is left.

abbrev v_starts : tree.Statement
v_starts = tree.declare (at 1 20) 1 (tree.whole Integer (tree.number (pos 0)))

abbrev shown_whole : List ℕ → tree.Named
shown_whole spelling = record { name = spelling; shown = tree.as_whole }

abbrev scalar_at : ℕ → tree.Reference
scalar_at level = tree.scalar (record { level = level; index = 0 }) Integer

abbrev procedure_call : ℕ → List tree.Argument → tree.Statement
procedure_call number arguments = tree.procedure_call (at 6 1) (record { unit = number; arguments = arguments; into = None })

-- V : Integer; procedure P (N : in out Integer) is begin N := 1; end; begin P (V); end;
abbrev sets : Unit
sets = main (a_v ∷ p_with (n_of (InOut (at 2 18)) ∷ []) [] (assign (var_at (codes "N") (at 3 7)) (only (num 1 (at 3 12)))) ∷ []) (call_p (named_arg (codes "V") 4 ∷ []))

abbrev sets_program : tree.Program
sets_program = tree.program_of_units (record {
  name = codes "M";
  units =
      (record { level = 0; region = 0; is_function = false; at = at 1 1; body = tree.body (tree.some v_starts) (at 5 1) (procedure_call 1 (tree.by_copy true Integer (scalar_at 0) ∷ [])) tree.no_handlers (at 9 1) })
      ∷ (record { level = 1; region = 1; is_function = false; at = at 2 1; body = tree.body tree.nothing (at 3 1) (tree.assign (at 3 7) (scalar_at 1) (tree.whole Integer (tree.number (pos 1)))) tree.no_handlers (at 3 70) })
      ∷ [];
  tasks = [];
  objects = [];
  entries = [];
  regions = (shown_whole (codes "V") ∷ []) ∷ (shown_whole (codes "N") ∷ []) ∷ [];
  exceptions = [];
})

sets_row : typed sets ≡ sets_program
sets_row = refl

sets_fine_row : faults sets ≡ []
sets_fine_row = refl

-- formals and declarations of a body are one region: its own variables are elaborated behind the formals
abbrev units_of : tree.Program → List tree.Body
units_of p = p.bodies

local_row : units_of (typed (main (p_with (n_of Unstated ∷ []) (object (id (codes "X") (at 2 40)) [] (id (codes "INTEGER") (at 2 44)) no_expression ∷ []) (null (at 3 7)) ∷ []) (call_p (only (num 7 (at 6 4)) ∷ []))))
    ≡ tree.body tree.nothing (at 5 1) (procedure_call 1 (tree.by_value (tree.whole Integer (tree.number (pos 7))) ∷ [])) tree.no_handlers (at 9 1)
    ∷ tree.body (tree.some (tree.declare (at 2 40) 2 (tree.whole Integer (tree.number (pos 0))))) (at 3 1) (tree.null (at 3 7)) tree.no_handlers (at 3 70) ∷ []
local_row = refl

-- a procedure within it comes later in the order of declarations, and before what follows it: P with Q inside, and then R, which calls P
abbrev nested : Unit
nested = main
    (p_with [] (procedure (at 2 20) (id (codes "Q") (at 2 30)) [] (declarations []) (own_body (null (at 3 7))) ∷ []) (call (var_at (codes "Q") (at 3 7)))
    ∷ procedure (at 4 1) (id (codes "R") (at 4 11)) [] (declarations []) (own_body (call (var_at (codes "P") (at 3 7))))
    ∷ [])
    (call (var_at (codes "R") (at 6 1)))

abbrev calls_unit : Pos → ℕ → tree.Statement
calls_unit p number = tree.procedure_call p (record { unit = number; arguments = []; into = None })

abbrev body_alone : Pos → tree.Statement → Pos → tree.Body
body_alone begin s end = tree.body tree.nothing begin s tree.no_handlers end

nested_row : units_of (typed nested) ≡ body_alone (at 5 1) (calls_unit (at 6 1) 3) (at 9 1) ∷ body_alone (at 3 1) (calls_unit (at 3 7) 2) (at 3 70) ∷ body_alone (at 3 1) (tree.null (at 3 7)) (at 3 70) ∷ body_alone (at 3 1) (calls_unit (at 3 7) 1) (at 3 70) ∷ []
nested_row = refl

-- what is entered within declarations has its number behind the region that these are of
abbrev levels_of : List tree.UnitPlan → List (ℕ × ℕ)
levels_of [] = []
levels_of (u ∷ us) = (u.level, u.region) ∷ levels_of us

abbrev plan_of : tree.Program → tree.Plan
plan_of p = p.plan

levels_row : levels_of (plan_of (typed nested)).units ≡ (0, 0) ∷ (1, 1) ∷ (2, 2) ∷ (1, 3) ∷ []
levels_row = refl

-- a procedure calls itself, and the main procedure as well
itself_row : units_of (typed (main (p_with [] [] (call (var_at (codes "P") (at 3 7))) ∷ []) (call (var_at (codes "M") (at 6 1))))) ≡ body_alone (at 5 1) (calls_unit (at 6 1) 0) (at 9 1) ∷ body_alone (at 3 1) (calls_unit (at 3 7) 1) (at 3 70) ∷ []
itself_row = refl

-- Names.

-- procedure Integer (N : Integer): its scope begins behind its formals, so the type is visible there
own_name_row : faults (main (procedure (at 2 1) (id (codes "INTEGER") (at 2 11)) (one_formal (codes "N") (at 2 20) Unstated (codes "INTEGER") (at 2 24) ∷ []) (declarations []) (own_body (null (at 3 7))) ∷ []) (null (at 6 1))) ≡ []
own_name_row = refl

-- behind it the name is that of the procedure
behind_row : faults (main (procedure (at 2 1) (id (codes "INTEGER") (at 2 11)) [] (declarations []) (own_body (null (at 3 7))) ∷ a_v ∷ []) (null (at 6 1))) ≡ fault (at 1 24) WrongKindOfName ∷ []
behind_row = refl

-- procedure P (N : P): P is not declared there, but it is in another P within it
own_mark_row : faults (main (p_of (one_formal (codes "N") (at 2 14) Unstated (codes "P") (at 2 18) ∷ []) ∷ []) (null (at 6 1))) ≡ fault (at 2 18) NameNotDeclared ∷ []
own_mark_row = refl

within_row : faults (main (p_with [] (p_of (one_formal (codes "N") (at 2 14) Unstated (codes "P") (at 2 18) ∷ []) ∷ []) (null (at 3 7)) ∷ []) (null (at 6 1))) ≡ fault (at 2 18) WrongKindOfName ∷ []
within_row = refl

-- a program with the name of a type or an exception
program_type_row : faults (unit [] (at 1 1) (id (codes "INTEGER") (at 1 11)) (declarations []) (main_body (null (at 6 1)) no_handlers)) ≡ fault (at 1 11) DeclaredTwice ∷ []
program_type_row = refl

program_exception_row : faults (unit [] (at 1 1) (id (codes "TASKING_ERROR") (at 1 11)) (declarations []) (main_body (null (at 6 1)) no_handlers)) ≡ fault (at 1 11) DeclaredTwice ∷ []
program_exception_row = refl

program_put_row : faults (unit [] (at 1 1) (id (codes "PUT") (at 1 11)) (declarations []) (main_body (null (at 6 1)) no_handlers)) ≡ []
program_put_row = refl

-- procedure P (P : Integer; N : P): the formal hides the procedure, and is no subtype
formal_hides_row : faults (main (p_of (one_formal (codes "P") (at 2 14) Unstated (codes "INTEGER") (at 2 18) ∷ one_formal (codes "N") (at 2 27) Unstated (codes "P") (at 2 31) ∷ []) ∷ []) (null (at 6 1))) ≡ fault (at 2 31) WrongKindOfName ∷ []
formal_hides_row = refl

-- N : N
formal_itself_row : faults (main (p_of (one_formal (codes "N") (at 2 14) Unstated (codes "N") (at 2 18) ∷ []) ∷ []) (null (at 6 1))) ≡ fault (at 2 18) NameNotDeclared ∷ []
formal_itself_row = refl

-- a mark of no subtype
mark_row : faults (main (a_v ∷ p_of (one_formal (codes "N") (at 2 14) Unstated (codes "V") (at 2 18) ∷ []) ∷ []) (null (at 6 1))) ≡ fault (at 2 18) WrongKindOfName ∷ []
mark_row = refl

-- a name twice: two procedures, two formals, a formal and a variable
twice_row : faults (main (p_of [] ∷ procedure (at 4 1) (id (codes "P") (at 4 11)) [] (declarations []) (own_body (null (at 3 7))) ∷ []) (null (at 6 1))) ≡ fault (at 4 11) DeclaredTwice ∷ []
twice_row = refl

formals_twice_row : faults (main (p_of (n_of Unstated ∷ one_formal (codes "N") (at 2 33) Unstated (codes "BOOLEAN") (at 2 37) ∷ []) ∷ []) (null (at 6 1))) ≡ fault (at 2 33) DeclaredTwice ∷ []
formals_twice_row = refl

local_twice_row : faults (main (p_with (n_of Unstated ∷ []) (object (id (codes "N") (at 2 40)) [] (id (codes "INTEGER") (at 2 44)) no_expression ∷ []) (null (at 3 7)) ∷ []) (null (at 6 1))) ≡ fault (at 2 40) DeclaredTwice ∷ []
local_twice_row = refl

-- a procedure is not seen before its declaration, and is no value, no target and no subtype
before_row : faults (main (p_with [] [] (call (var_at (codes "R") (at 3 7))) ∷ procedure (at 4 1) (id (codes "R") (at 4 11)) [] (declarations []) (own_body (null (at 3 7))) ∷ []) (null (at 6 1))) ≡ fault (at 3 7) NameNotDeclared ∷ []
before_row = refl

value_row : faults (main (a_v ∷ p_of [] ∷ []) (assign (var_at (codes "V") (at 6 1)) (named_arg (codes "P") 6))) ≡ fault (at 6 6) WrongKindOfName ∷ []
value_row = refl

target_row : faults (main (p_of [] ∷ []) (assign (var_at (codes "P") (at 6 1)) (only (num 1 (at 6 6))))) ≡ fault (at 6 1) WrongKindOfName ∷ []
target_row = refl

-- the name after its end
end_row : faults (main (procedure (at 2 1) (id (codes "P") (at 2 11)) [] (declarations []) (body (at 3 1) (statements (null (at 3 7)) []) no_handlers (at 3 70) (Some (id (codes "M") (at 3 74))) (at 3 75)) ∷ []) (null (at 6 1))) ≡ fault (at 3 74) WrongNameAtEnd ∷ []
end_row = refl

-- Formals within the body: one of mode in is a constant, the others are variables.

abbrev assigns_n : Mode → Unit
assigns_n mode = main (p_with (n_of mode ∷ []) [] (assign (var_at (codes "N") (at 3 7)) (only (num 1 (at 3 12)))) ∷ []) (null (at 6 1))

constant_row : faults (assigns_n (In (at 2 18))) ≡ fault (at 3 7) NotAVariable ∷ []
constant_row = refl

out_row : faults (assigns_n (Out (at 2 18))) ≡ []
out_row = refl

-- Calls.

abbrev calls : Mode → List Expression → Unit
calls mode es = main (a_v ∷ a_b ∷ p_of (n_of mode ∷ []) ∷ []) (call_p es)

-- too few and too many arguments, beside the faults in those
few_row : faults (calls Unstated []) ≡ fault (at 6 1) WrongNumberOfArguments ∷ []
few_row = refl

many_row : faults (calls Unstated (named_arg (codes "V") 4 ∷ named_arg (codes "Z") 7 ∷ [])) ≡ fault (at 6 1) WrongNumberOfArguments ∷ fault (at 6 7) NameNotDeclared ∷ []
many_row = refl

-- arguments of another type
type_row : faults (calls Unstated (named_arg (codes "B") 4 ∷ [])) ≡ fault (at 6 4) WrongType ∷ []
type_row = refl

text_row : faults (calls Unstated (only (str (codes "x") (at 6 4)) ∷ [])) ≡ fault (at 6 4) WrongType ∷ []
text_row = refl

out_type_row : faults (calls (Out (at 2 18)) (named_arg (codes "B") 4 ∷ [])) ≡ fault (at 6 4) WrongType ∷ []
out_type_row = refl

-- no variable: a number, a sum, a variable in parentheses; False, which is of another type besides
number_row : faults (calls (Out (at 2 18)) (only (num 1 (at 6 4)) ∷ [])) ≡ fault (at 6 4) NotAVariable ∷ []
number_row = refl

sum_row : faults (calls (InOut (at 2 18)) (sum (one (var (codes "V") (at 6 4))) (adding Plus (num 1 (at 6 8)) ∷ []) ∷ [])) ≡ fault (at 6 4) NotAVariable ∷ []
sum_row = refl

group_row : faults (calls (InOut (at 2 18)) (only (group (at 6 4) (named_arg (codes "V") 5)) ∷ [])) ≡ fault (at 6 4) NotAVariable ∷ []
group_row = refl

literal_row : faults (calls (Out (at 2 18)) (named_arg (codes "FALSE") 4 ∷ [])) ≡ fault (at 6 4) NotAVariable ∷ fault (at 6 4) WrongType ∷ []
literal_row = refl

-- an expression with a fault causes no other
unknown_row : faults (calls (Out (at 2 18)) (sum (one (var (codes "Z") (at 6 4))) (adding Plus (num 1 (at 6 8)) ∷ []) ∷ [])) ≡ fault (at 6 4) NameNotDeclared ∷ []
unknown_row = refl

-- of the wrong kind: a subtype and a procedure as arguments
kind_row : faults (calls (Out (at 2 18)) (named_arg (codes "INTEGER") 4 ∷ [])) ≡ fault (at 6 4) WrongKindOfName ∷ []
kind_row = refl

in_kind_row : faults (calls Unstated (named_arg (codes "P") 4 ∷ [])) ≡ fault (at 6 4) WrongKindOfName ∷ []
in_kind_row = refl

-- a formal of mode in is no variable where it is passed on
passed_on_row : faults (main (p_with (n_of Unstated ∷ []) (procedure (at 2 40) (id (codes "Q") (at 2 50)) (one_formal (codes "X") (at 2 53) (Out (at 2 57)) (codes "INTEGER") (at 2 61) ∷ []) (declarations []) (own_body (null (at 3 7))) ∷ []) (call (named (part (id (codes "Q") (at 3 7)) (args (only (var (codes "N") (at 3 10)) ∷ []))) no_parts)) ∷ []) (null (at 6 1))) ≡ fault (at 3 10) NotAVariable ∷ []
passed_on_row = refl

-- Borders.

-- loop .. procedure .. exit; a label and a handler end at a body's border, names do not
abbrev within_loop : Statement → Statement
within_loop s = loop None (at 6 1) forever (statements (block None (at 6 6) true (declarations (p_with [] [] s ∷ [])) (own_body (null (at 7 1)))) []) None (at 8 9)

exit_row : faults (main [] (within_loop (exit (at 3 7) None no_expression))) ≡ fault (at 3 7) ExitWithoutLoop ∷ []
exit_row = refl

raise_row : faults (unit [] (at 1 1) (id (codes "M") (at 1 11)) (declarations []) (main_body (null (at 6 1)) (more_handlers (others (at 7 6)) (statements (block None (at 7 16) true (declarations (p_with [] [] (raise (at 3 7) None) ∷ [])) (own_body (raise (at 8 1) None))) []) no_handlers))) ≡ fault (at 3 7) RaiseWithoutHandler ∷ []
raise_row = refl

-- Returns.

return_row : units_of (typed (main (p_with [] [] (return (at 3 7) no_expression) ∷ []) (return (at 6 1) no_expression))) ≡ body_alone (at 5 1) (tree.return (at 6 1)) (at 9 1) ∷ body_alone (at 3 1) (tree.return (at 3 7)) (at 3 70) ∷ []
return_row = refl

-- with a value, and a fault in that
return_value_row : faults (main [] (return (at 6 1) (an_expression (named_arg (codes "Z") 8)))) ≡ fault (at 6 1) ReturnOutOfPlace ∷ fault (at 6 8) NameNotDeclared ∷ []
return_value_row = refl

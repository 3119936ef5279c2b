-- Delays and select statements in small, and what is said of them.
use Rattle.std.specs.Prelude.{ℕ, pos, true, false, List, [], ◌∷◌, codes, Option, Some, None}
use Rattle.std.proofs.Common.{◌≡◌, refl}
use Rattle.aud_text.specs.declared.place.Pos.{Pos}
use Rattle.aud_text.specs.declared.refusal.Refusal.{Refusal}
use Rattle.aud_text.specs.declared.refusal.Refusal.TheVariants.{NameNotDeclared, WrongKindOfName, WrongType, WrongNumberOfArguments, NumberTooLarge, TooManyDecimals, NotAnEntry}
use Rattle.aud_syntax.specs.declared.tree.Real.{Real}
use Rattle.aud_syntax.specs.Plain.{named, no_parts, more_parts, part, no_args, no_expression, an_expression, Name, object, task, task_body, Statement, null, Delay, delay_real, delay_duration, delaying, select_accept, select_call, accept, without_do, accept_alternative, delay_alternative, terminate_alternative, no_alternatives, more_alternatives, no_statements, more_statements, or_delay, or_else, body, no_handlers, Unit, unit}
use Rattle.aud_syntax.specs.Why.Shorthand.{at, id, var_at, num, var, only, statements, declarations}
use Rattle.aud_typed.specs.Tree as tree
use Rattle.aud_fault.specs.declared.fault.Fault.{Fault}
use Rattle.aud_check_bodies.specs.Programs.{faults, typed}

abbrev fault : Pos → Refusal → Fault
fault p refusal = record { at = p; refusal = refusal }

-- M: a task T with an entry F, whose body has one statement; one statement
abbrev main : Statement → Statement → Unit
main own s = unit [] (at 1 1) (id (codes "M") (at 1 11)) (declarations (
    object (id (codes "X") (at 1 20)) [] (id (codes "INTEGER") (at 1 24)) no_expression
    ∷ task (at 2 1) false (id (codes "T") (at 2 6)) (Some (record { entries = record { name = id (codes "F") (at 2 20); formals = [] } ∷ []; end_name = None }))
    ∷ task_body (at 4 1) (id (codes "T") (at 4 11)) (declarations []) (body (at 5 1) (statements own []) no_handlers (at 5 90) None (at 5 93))
    ∷ []
    )) (body (at 6 1) (statements s []) no_handlers (at 9 1) None (at 9 4))

abbrev does_here : Statement → Unit
does_here s = main (null (at 5 7)) s

abbrev does_in_task : Statement → Unit
does_in_task s = main s (null (at 7 1))

abbrev statements_of : List tree.Body → List tree.Statement
statements_of [] = []
statements_of (tree.body d begin s h end ∷ bs) = s ∷ statements_of bs

abbrev left : Unit → List tree.Statement
left u = statements_of (typed u).bodies

-- 0.250, so many decimals, too large
abbrev real : Option ℕ → Real
real thousandths = record { whole = Some (pos 2); thousandths = thousandths; at = at 7 7 }

abbrev quarter : Delay
quarter = delay_real (at 7 1) (real (Some 250))

delay_row : left (does_here (delaying quarter)) ≡ tree.delay (at 7 1) (tree.milliseconds 2250) ∷ tree.null (at 5 7) ∷ []
delay_row = refl

duration_row : left (does_here (delaying (delay_duration (at 7 1) (at 7 7) (only (num 3 (at 7 17)))))) ≡ tree.delay (at 7 1) (tree.seconds (tree.number (pos 3))) ∷ tree.null (at 5 7) ∷ []
duration_row = refl

decimals_row : faults (does_here (delaying (delay_real (at 7 1) (real None)))) ≡ fault (at 7 7) TooManyDecimals ∷ []
decimals_row = refl

large_row : faults (does_here (delaying (delay_real (at 7 1) (record { whole = None; thousandths = Some 5; at = at 7 7 })))) ≡ fault (at 7 7) NumberTooLarge ∷ []
large_row = refl

duration_type_row : faults (does_here (delaying (delay_duration (at 7 1) (at 7 7) (only (var (codes "TRUE") (at 7 17)))))) ≡ fault (at 7 17) WrongType ∷ []
duration_type_row = refl

-- in a program of that name
hidden_duration_row : faults (unit [] (at 1 1) (id (codes "DURATION") (at 1 11)) (declarations []) (body (at 6 1) (statements (delaying (delay_duration (at 7 1) (at 7 7) (only (num 1 (at 7 17))))) []) no_handlers (at 9 1) None (at 9 4))) ≡ fault (at 7 7) WrongKindOfName ∷ []
hidden_duration_row = refl

-- Timed and conditional calls.

abbrev f_of_t : Name
f_of_t = named (part (id (codes "T") (at 7 8)) no_args) (more_parts (part (id (codes "F") (at 7 10)) no_args) no_parts)

abbrev timed : Name → Statement
timed n = select_call (at 7 1) n (more_statements (null (at 7 20)) no_statements) (or_delay quarter no_statements)

abbrev conditional : Name → Statement
conditional n = select_call (at 7 1) n no_statements (or_else (statements (null (at 7 30)) (null (at 7 36) ∷ [])))

abbrev called : tree.CallForm → tree.Part → tree.Part → tree.Statement
called form p q = tree.entry_call (at 7 1) (record { callee = tree.of_task (tree.single (record { level = 0; index = 1 })); entry = 0; arguments = []; form = form }) p q

timed_row : left (does_here (timed f_of_t)) ≡ called (tree.timed (tree.milliseconds 2250)) (tree.some (tree.null (at 7 20))) tree.nothing ∷ tree.null (at 5 7) ∷ []
timed_row = refl

conditional_row : left (does_here (conditional f_of_t)) ≡ called tree.conditionally tree.nothing (tree.some (tree.sequence (tree.null (at 7 30)) (tree.null (at 7 36)))) ∷ tree.null (at 5 7) ∷ []
conditional_row = refl

-- what is called must be an entry
builtin_row : faults (does_here (conditional (var_at (codes "NEW_LINE") (at 7 8)))) ≡ fault (at 7 8) NotAnEntry ∷ []
builtin_row = refl

put_row : faults (does_here (conditional (var_at (codes "PUT") (at 7 8)))) ≡ fault (at 7 8) NotAnEntry ∷ fault (at 7 8) WrongNumberOfArguments ∷ []
put_row = refl

procedure_row : faults (does_here (timed (var_at (codes "M") (at 7 8)))) ≡ fault (at 7 8) NotAnEntry ∷ []
procedure_row = refl

variable_row : faults (does_here (timed (var_at (codes "X") (at 7 8)))) ≡ fault (at 7 8) WrongKindOfName ∷ []
variable_row = refl

unknown_row : faults (does_here (timed (var_at (codes "Y") (at 7 8)))) ≡ fault (at 7 8) NameNotDeclared ∷ []
unknown_row = refl

-- Selective accepts.

abbrev select_t : Statement
select_t =
    select_accept (at 5 7) (an_expression (only (var (codes "TRUE") (at 5 20)))) (accept_alternative (accept (at 5 30) (id (codes "F") (at 5 37)) [] without_do) (more_statements (null (at 5 40)) no_statements))
    (more_alternatives no_expression (delay_alternative (delay_duration (at 5 50) (at 5 54) (only (num 1 (at 5 60)))) no_statements) (more_alternatives (an_expression (only (var (codes "FALSE") (at 5 65)))) terminate_alternative no_alternatives)) (more_statements (null (at 5 80)) no_statements)

select_row : left (does_in_task select_t)
    ≡ tree.null (at 7 1)
    ∷ tree.select (at 5 7)
    (tree.accepting (tree.truth true) (at 5 30) 0 tree.without_do (tree.some (tree.null (at 5 40))) (tree.delaying (tree.truth true) (tree.seconds (tree.number (pos 1))) tree.nothing (tree.terminating (tree.truth false) tree.no_alternatives)))
    (tree.some (tree.null (at 5 80)))
    ∷ []
select_row = refl

select_fine_row : faults (does_in_task select_t) ≡ []
select_fine_row = refl

guard_row : faults (does_in_task (select_accept (at 5 7) (an_expression (only (num 1 (at 5 20)))) (accept_alternative (accept (at 5 30) (id (codes "F") (at 5 37)) [] without_do) no_statements) no_alternatives no_statements)) ≡ fault (at 5 20) WrongType ∷ []
guard_row = refl

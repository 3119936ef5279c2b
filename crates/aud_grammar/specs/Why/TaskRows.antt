-- Small texts with tasks and their bodies: the trees of some, and the tokens at which others go wrong.
use Rattle.std.specs.Prelude.{◌+◌, [], ◌∷◌, Option, Some, None, codes, true, false, Ok, Err}
use Rattle.aud_syntax.specs.declared.tree.Ident.{Ident}
use Rattle.aud_syntax.specs.Plain as m
use Rattle.aud_syntax.specs.Why.Shorthand.{at, id, var, opposite, product, only, only_term, declarations}
use Rattle.aud_grammar.specs.Parsed.{wrong_at, deep_at}
use Rattle.aud_grammar.specs.Why.Rows.{IsRead, IsReadWithin, DeclarationsAre, StatementsAre, ExpressionIs, ProgramStops, DeclarationsStop, StatementsStop, program, body, col, with_declarations, alone_statement, the_name, a_part}
use Rattle.aud_grammar.specs.Why.ControlRows.{word, bound, variable, nothing}
use Rattle.aud_grammar.specs.Why.ProcedureRows.{nothing_by}

-- a definition with or without a name behind its `end`
abbrev pub ended_by : Option Ident → Option m.TaskDefinition
ended_by i = Some (record { entries = []; end_name = i })

-- RM 9.1
abbrev pub Tasks : Type 0
Tasks =
    DeclarationsAre (codes "task T;")
    (m.task (col 1) false (word (codes "T") 6) None ∷ [])
    × DeclarationsAre (codes "task type T;")
    (m.task (col 1) true (word (codes "T") 11) None ∷ [])
    × DeclarationsAre (codes "task T is end;")
    (m.task (col 1) false (word (codes "T") 6) (ended_by None) ∷ [])
    × DeclarationsAre (codes "task type T is end T;")
    (m.task (col 1) true (word (codes "T") 11) (ended_by (Some (word (codes "T") 20))) ∷ [])
    × DeclarationsAre (codes "TASK t IS END T;")
    (m.task (col 1) false (word (codes "T") 6) (ended_by (Some (word (codes "T") 15))) ∷ [])
    × DeclarationsAre (codes "task T; X : T; task type U is end; A : array (1 .. 3) of U;")
    (m.task (col 1) false (word (codes "T") 6) None ∷ m.object (word (codes "X") 9) [] (word (codes "T") 13) m.no_expression ∷ m.task (col 16) true (word (codes "U") 26) (ended_by None) ∷ m.array (word (codes "A") 36) [] (bound 1 47) (bound 3 52) (word (codes "U") 58) ∷ [])

-- RM 9.1(6)
abbrev pub Bodies : Type 0
Bodies =
    DeclarationsAre (codes "task body T is begin null; end T;")
    (m.task_body (col 1) (word (codes "T") 11) m.no_declarations (nothing_by (codes "T") 16 28) ∷ [])
    × DeclarationsAre (codes "task body T is X : T; begin null; exception when E => null; end T;")
    (m.task_body (col 1) (word (codes "T") 11) (variable 16) (m.body (col 23) (alone_statement (m.null (col 29))) (m.more_handlers (m.exceptions (word (codes "E") 50) []) (alone_statement (m.null (col 55))) m.no_handlers) (col 61) (Some (word (codes "T") 65)) (col 66)) ∷ [])
    × DeclarationsAre (codes "task body T is task U; task body U is begin null; end; begin null; end;")
    (m.task_body (col 1) (word (codes "T") 11) (declarations (m.task (col 16) false (word (codes "U") 21) None ∷ m.task_body (col 24) (word (codes "U") 34) m.no_declarations (nothing 39 51) ∷ [])) (nothing 56 68) ∷ [])
    × StatementsAre (codes "declare task T; task body T is begin null; end T; begin null; end;")
    (m.block None (col 1) true (declarations (m.task (col 9) false (word (codes "T") 14) None ∷ m.task_body (col 17) (word (codes "T") 27) m.no_declarations (nothing_by (codes "T") 32 44) ∷ [])) (nothing 51 63)) []
    × IsRead (codes "procedure P is task T is end T; task body T is begin null; end T; begin null; end P;")
    (Ok (program (m.task (at 1 16) false (id (codes "T") (at 1 21)) (ended_by (Some (id (codes "T") (at 1 30)))) ∷ m.task_body (at 1 33) (id (codes "T") (at 1 43)) m.no_declarations (body (at 1 48) (alone_statement (m.null (at 1 54))) (at 1 60) (Some (id (codes "T") (at 1 64))) (at 1 65)) ∷ [])
    (body (at 1 67) (alone_statement (m.null (at 1 73))) (at 1 79) (Some (id (codes "P") (at 1 83))) (at 1 84))))

-- the attributes of tasks are written as all others (RM 9.9)
abbrev pub Attributes : Type 0
Attributes =
    ExpressionIs (codes "T'Callable")
    (only (m.attribute (the_name (a_part (codes "T") 1 []) []) (word (codes "CALLABLE") 3) m.no_expression))
    × ExpressionIs (codes "not A (I)'Terminated")
    (only_term (product (opposite (col 1) (m.attribute (the_name (a_part (codes "A") 5 (var (codes "I") (col 8) ∷ [])) []) (word (codes "TERMINATED") 11) m.no_expression)) []))

abbrev pub TreesOfTasks : Type 0
TreesOfTasks = Tasks × Bodies × Attributes

abbrev pub WrongTasks : Type 0
WrongTasks =
    DeclarationsStop (codes "task;") 1
    × DeclarationsStop (codes "task task T;") 1
    × DeclarationsStop (codes "task procedure T;") 1
    × DeclarationsStop (codes "task type;") 2
    × DeclarationsStop (codes "task type type T;") 2
    × DeclarationsStop (codes "task type body T is begin null; end;") 2
    × DeclarationsStop (codes "task T") 2
    × DeclarationsStop (codes "task T type is end T;") 2
    × DeclarationsStop (codes "task T, U;") 2
    × DeclarationsStop (codes "task T : U;") 2
    × DeclarationsStop (codes "task T.U;") 2
    × DeclarationsStop (codes "task T (X : U) is end;") 2
    × DeclarationsStop (codes "task type T := 1;") 3
    × DeclarationsStop (codes "T : task;") 2
    × DeclarationsStop (codes "type T;") 0
    × StatementsStop (codes "task T;") 0
    × ProgramStops (codes "procedure P is task") 4
    × ProgramStops (codes "procedure P is task T; end P;") 6

abbrev pub WrongDefinitions : Type 0
WrongDefinitions =
    DeclarationsStop (codes "task T is") 3
    × DeclarationsStop (codes "task T is;") 3
    × DeclarationsStop (codes "task T is null; end;") 3
    × DeclarationsStop (codes "task T is begin null; end;") 3
    × DeclarationsStop (codes "task T is X : U; end;") 3
    × DeclarationsStop (codes "task T is procedure Q; end;") 3
    × DeclarationsStop (codes "task T is private end;") 3
    × DeclarationsStop (codes "task T is end") 4
    × DeclarationsStop (codes "task T is end task;") 4
    × DeclarationsStop (codes "task type T is end T T;") 6
    × DeclarationsStop (codes "task T is end T.U;") 5
    × ProgramStops (codes "procedure P is task T is end") 7

abbrev pub WrongBodies : Type 0
WrongBodies =
    DeclarationsStop (codes "task body;") 2
    × DeclarationsStop (codes "task body type T is begin null; end;") 2
    × DeclarationsStop (codes "task body T;") 3
    × DeclarationsStop (codes "task body T begin null; end;") 3
    × DeclarationsStop (codes "task body T (X : U) is begin null; end;") 3
    × DeclarationsStop (codes "task body T is end;") 4
    × DeclarationsStop (codes "task body T is null; begin null; end;") 4
    × DeclarationsStop (codes "task body T is separate;") 4
    × DeclarationsStop (codes "task body T is begin end;") 5
    × DeclarationsStop (codes "task body T is begin task U; null; end;") 5
    × DeclarationsStop (codes "task body T is begin null; end") 8
    × DeclarationsStop (codes "task body T is begin null; end T U;") 9
    × DeclarationsStop (codes "task body T is X : U; begin null; exception when E => null; is T;") 17
    × DeclarationsStop (codes "body T is begin null; end;") 0
    × StatementsStop (codes "task body T is begin null; end;") 0
    × ProgramStops (codes "procedure P is task body T is") 7
    × ProgramStops (codes "procedure P is task body T is begin null; end T; end P;") 13

abbrev pub FaultsOfTasks : Type 0
FaultsOfTasks = WrongTasks × WrongDefinitions × WrongBodies

-- the declarations and the statements of a task's body open a level each, and close it; the definition of a task opens none
abbrev pub LevelsOfTasks : Type 0
LevelsOfTasks =
    IsReadWithin 0 (with_declarations (codes "task T;")) (Err (deep_at 3))
    × IsReadWithin 1 (with_declarations (codes "task body T is begin null; end;")) (Err (deep_at (3 + 5)))
    × IsReadWithin 1 (with_declarations (codes "task body T is begin end;")) (Err (wrong_at (3 + 5)))
    × IsReadWithin 1 (with_declarations (codes "task body T is X : U; begin null; end;")) (Err (deep_at (3 + 4)))
    × IsReadWithin 1 (with_declarations (codes "task body T is task U; begin null; end;")) (Err (deep_at (3 + 4)))
    × IsReadWithin 2 (with_declarations (codes "task body T is task body U is begin null; end; begin null; end;")) (Err (deep_at (3 + 9)))
    × IsReadWithin 1 (with_declarations (codes "task T is end T;"))
    (Ok (program (m.task (col 1) false (word (codes "T") 6) (ended_by (Some (word (codes "T") 15))) ∷ []) (body (at 3 1) (alone_statement (m.null (at 3 7))) (at 3 13) None (at 3 16))))
    × IsReadWithin 2 (with_declarations (codes "task body T is X : T; begin null; end; task body U is begin null; end;"))
    (Ok (program (m.task_body (col 1) (word (codes "T") 11) (variable 16) (nothing 23 35) ∷ m.task_body (col 40) (word (codes "U") 50) m.no_declarations (nothing 55 67) ∷ []) (body (at 3 1) (alone_statement (m.null (at 3 7))) (at 3 13) None (at 3 16))))

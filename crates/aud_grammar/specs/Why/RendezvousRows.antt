-- Small texts with entries, accept, delay and select statements: the trees of some, and the tokens at which others go wrong.
use Rattle.std.specs.Prelude.{ℕ, ◌+◌, pos, ℤ, List, [], ◌∷◌, codes, Option, Some, None, true, false, Ok, Err}
use Rattle.aud_syntax.specs.declared.tree.Ident.{Ident}
use Rattle.aud_syntax.specs.declared.tree.Real.{Real}
use Rattle.aud_syntax.specs.declared.tree.Mode.{Mode}
use Rattle.aud_syntax.specs.declared.tree.Mode.TheVariants as mode
use Rattle.aud_syntax.specs.declared.tree.Adding.TheVariants.{Plus}
use Rattle.aud_syntax.specs.Plain as m
use Rattle.aud_syntax.specs.Why.Shorthand.{at, num, var, only, sum, one, adding, more, statements}
use Rattle.aud_grammar.specs.Parsed.{deep_at}
use Rattle.aud_grammar.specs.Why.Rows.{IsReadWithin, DeclarationsAre, StatementsAre, DeclarationsStop, StatementsStop, program, body, col, with_statements, alone_statement, the_name, a_part}
use Rattle.aud_grammar.specs.Why.ControlRows.{word}

-- the text stands in the second line, and this is the statement that it is
abbrev pub StatementIs : List ℕ → m.Statement → Type 0
StatementIs source s = StatementsAre source s []

-- trees, written shortly

abbrev pub formal : List ℕ → ℕ → Mode → List ℕ → ℕ → m.Formal
formal name n how subtype k = m.formal (word name n) [] how (word subtype k)

abbrev pub entry : List ℕ → ℕ → List m.Formal → m.EntryDeclaration
entry name n formals = record { name = word name n; formals = formals }

abbrev pub definition : List m.EntryDeclaration → Option Ident → Option m.TaskDefinition
definition entries last = Some (record { entries = entries; end_name = last })

abbrev pub variable : List ℕ → ℕ → m.Expression
variable name n = only (var name (col n))

-- `accept` and a name behind it
abbrev pub accepts : ℕ → List ℕ → m.Accept
accepts n name = m.accept (col n) (word name (n + 7)) [] m.without_do

abbrev pub real : Option ℤ → Option ℕ → ℕ → Real
real whole thousandths n = record { whole = whole; thousandths = thousandths; at = col n }

-- `delay` and so many seconds behind it
abbrev pub delays : ℕ → ℕ → m.Delay
delays n whole = m.delay_real (col n) (real (Some (pos whole)) (Some 0) (n + 6))

abbrev pub guard : List ℕ → ℕ → m.MaybeExpression
guard name n = m.an_expression (variable name n)

abbrev pub free : m.MaybeExpression
free = m.no_expression

abbrev pub then_null : ℕ → m.MoreStatements
then_null n = more (m.null (col n) ∷ [])

abbrev pub calls : List ℕ → ℕ → m.Statement
calls name n = m.call (the_name (a_part name n []) [])

abbrev pub accept_behind : m.MaybeExpression → m.Accept → m.MoreStatements → m.Alternatives → m.Alternatives
accept_behind e x behind others = m.more_alternatives e (m.accept_alternative x behind) others

abbrev pub delay_behind : m.MaybeExpression → m.Delay → m.MoreStatements → m.Alternatives → m.Alternatives
delay_behind e x behind others = m.more_alternatives e (m.delay_alternative x behind) others

abbrev pub terminate_behind : m.MaybeExpression → m.Alternatives → m.Alternatives
terminate_behind e others = m.more_alternatives e m.terminate_alternative others

abbrev pub P_A : m.Name
P_A = the_name (a_part (codes "P") 8 []) (a_part (codes "A") 10 [] ∷ [])

-- RM 9.1(4), 9.5.2(2)
abbrev pub Definitions : Type 0
Definitions =
    DeclarationsAre (codes "task T is entry A; entry B (X : in out T); end;")
    (m.task (col 1) false (word (codes "T") 6) (definition (entry (codes "A") 17 [] ∷ entry (codes "B") 26 (formal (codes "X") 29 (mode.InOut (col 33)) (codes "T") 40 ∷ []) ∷ []) None) ∷ [])
    × DeclarationsAre (codes "task type T is entry A; end T;")
    (m.task (col 1) true (word (codes "T") 11) (definition (entry (codes "A") 22 [] ∷ []) (Some (word (codes "T") 29))) ∷ [])

-- RM 9.6
abbrev pub Delays : Type 0
Delays =
    StatementIs (codes "delay 1.0;")
    (m.delaying (delays 1 1))
    × StatementIs (codes "delay 12.34;")
    (m.delaying (m.delay_real (col 1) (real (Some (pos 12)) (Some 340) 7)))
    × StatementIs (codes "delay 1_0.0_5;")
    (m.delaying (m.delay_real (col 1) (real (Some (pos 10)) (Some 50) 7)))
    × StatementIs (codes "delay 0.1234;")
    (m.delaying (m.delay_real (col 1) (real (Some (pos 0)) None 7)))
    × StatementIs (codes "delay 2147483647.999;")
    (m.delaying (m.delay_real (col 1) (real (Some (pos 2147483647)) (Some 999) 7)))
    × StatementIs (codes "delay 2147483648.1;")
    (m.delaying (m.delay_real (col 1) (real None (Some 100) 7)))
    × StatementIs (codes "delay Duration (X);")
    (m.delaying (m.delay_duration (col 1) (col 7) (variable (codes "X") 17)))
    × StatementIs (codes "delay DURATION (1 + 2);")
    (m.delaying (m.delay_duration (col 1) (col 7) (sum (one (num 1 (col 17))) (adding Plus (num 2 (col 21)) ∷ []))))

-- RM 9.5.2(3)
abbrev pub Accepts : Type 0
Accepts =
    StatementIs (codes "accept A;")
    (m.accepting (accepts 1 (codes "A")))
    × StatementIs (codes "accept B (X : in T; Y : out U);")
    (m.accepting (m.accept (col 1) (word (codes "B") 8) (formal (codes "X") 11 (mode.In (col 15)) (codes "T") 18 ∷ formal (codes "Y") 21 (mode.Out (col 25)) (codes "U") 29 ∷ []) m.without_do))
    × StatementIs (codes "accept A do null; exception when others => null; end A;")
    (m.accepting (m.accept (col 1) (word (codes "A") 8) [] (m.with_do (m.body (col 10) (alone_statement (m.null (col 13))) (m.more_handlers (m.others (col 34)) (alone_statement (m.null (col 44))) m.no_handlers) (col 50) (Some (word (codes "A") 54)) (col 55)))))
    × StatementIs (codes "accept B (X : T) do P; end;")
    (m.accepting (m.accept (col 1) (word (codes "B") 8) (formal (codes "X") 11 mode.Unstated (codes "T") 15 ∷ []) (m.with_do (body (col 18) (alone_statement (calls (codes "P") 21)) (col 24) None (col 27)))))

-- RM 9.7.2, 9.7.3
abbrev pub CallsInSelect : Type 0
CallsInSelect =
    StatementIs (codes "select P.A; or delay 1.0; end select;")
    (m.select_call (col 1) P_A m.no_statements (m.or_delay (delays 16 1) m.no_statements))
    × StatementIs (codes "select P.A (1); null; or delay Duration (X); P; Q; end select;")
    (m.select_call (col 1) (the_name (a_part (codes "P") 8 []) (a_part (codes "A") 10 (num 1 (col 13) ∷ []) ∷ [])) (then_null 17) (m.or_delay (m.delay_duration (col 26) (col 32) (variable (codes "X") 42)) (more (calls (codes "P") 46 ∷ calls (codes "Q") 49 ∷ []))))
    × StatementIs (codes "select P; else null; end select;")
    (m.select_call (col 1) (the_name (a_part (codes "P") 8 []) []) m.no_statements (m.or_else (alone_statement (m.null (col 16)))))
    × StatementIs (codes "select P; null; else null; P; end select;")
    (m.select_call (col 1) (the_name (a_part (codes "P") 8 []) []) (then_null 11) (m.or_else (statements (m.null (col 22)) (calls (codes "P") 28 ∷ []))))

-- RM 9.7.1
abbrev pub SelectiveAccepts : Type 0
SelectiveAccepts =
    StatementIs (codes "select accept A; end select;")
    (m.select_accept (col 1) free (m.accept_alternative (accepts 8 (codes "A")) m.no_statements) m.no_alternatives m.no_statements)
    × StatementIs (codes "select when X => accept A; null; else P; end select;")
    (m.select_accept (col 1) (guard (codes "X") 13) (m.accept_alternative (accepts 18 (codes "A")) (then_null 28)) m.no_alternatives (more (calls (codes "P") 39 ∷ [])))
    × StatementIs (codes "select accept A; or accept B do null; end B; null; or when X => accept C; end select;")
    (m.select_accept (col 1) free (m.accept_alternative (accepts 8 (codes "A")) m.no_statements)
    (accept_behind free (m.accept (col 21) (word (codes "B") 28) [] (m.with_do (body (col 30) (alone_statement (m.null (col 33))) (col 39) (Some (word (codes "B") 43)) (col 44)))) (then_null 46) (accept_behind (guard (codes "X") 60) (accepts 65 (codes "C")) m.no_statements m.no_alternatives))
    m.no_statements)
    × StatementIs (codes "select accept A; or delay 1.0; or accept B; null; or when Y => delay 2.0; null; end select;")
    (m.select_accept (col 1) free (m.accept_alternative (accepts 8 (codes "A")) m.no_statements) (delay_behind free (delays 21 1) m.no_statements (accept_behind free (accepts 35 (codes "B")) (then_null 45) (delay_behind (guard (codes "Y") 59) (delays 64 2) (then_null 75) m.no_alternatives))) m.no_statements)
    × StatementIs (codes "select when X => delay 1.0; null; or delay 2.0; or when Y => accept A; or delay 3.0; or accept B; end select;")
    (m.select_accept (col 1) (guard (codes "X") 13) (m.delay_alternative (delays 18 1) (then_null 29))
    (delay_behind free (delays 38 2) m.no_statements (accept_behind (guard (codes "Y") 57) (accepts 62 (codes "A")) m.no_statements (delay_behind free (delays 75 3) m.no_statements (accept_behind free (accepts 89 (codes "B")) m.no_statements m.no_alternatives))))
    m.no_statements)
    × StatementIs (codes "select accept A; or when X => terminate; or accept B; or when Y => accept C; end select;")
    (m.select_accept (col 1) free (m.accept_alternative (accepts 8 (codes "A")) m.no_statements) (terminate_behind (guard (codes "X") 26) (accept_behind free (accepts 45 (codes "B")) m.no_statements (accept_behind (guard (codes "Y") 63) (accepts 68 (codes "C")) m.no_statements m.no_alternatives))) m.no_statements)
    × StatementIs (codes "select when X => terminate; or accept A; or when Y => accept B; null; end select;")
    (m.select_accept (col 1) (guard (codes "X") 13) m.terminate_alternative (accept_behind free (accepts 32 (codes "A")) m.no_statements (accept_behind (guard (codes "Y") 50) (accepts 55 (codes "B")) (then_null 65) m.no_alternatives)) m.no_statements)

abbrev pub TreesOfRendezvous : Type 0
TreesOfRendezvous = Definitions × Delays × Accepts × CallsInSelect × SelectiveAccepts

abbrev pub WrongDefinitions : Type 0
WrongDefinitions =
    DeclarationsStop (codes "task T is entry A end;") 5
    × DeclarationsStop (codes "task T is X : T; end;") 3
    × DeclarationsStop (codes "task T is entry; end;") 4
    × DeclarationsStop (codes "task T is entry A (1); end;") 6
    × DeclarationsStop (codes "task T is procedure Q; end;") 3
    × DeclarationsStop (codes "task T is entry A, B; end;") 5
    × DeclarationsStop (codes "task T is entry A;") 6
    × DeclarationsStop (codes "task T is null; end;") 3

abbrev pub WrongDelays : Type 0
WrongDelays =
    StatementsStop (codes "delay;") 1
    × StatementsStop (codes "delay 1;") 1
    × StatementsStop (codes "delay until X;") 1
    × StatementsStop (codes "delay Seconds (1);") 1
    × StatementsStop (codes "delay Duration;") 2
    × StatementsStop (codes "delay -1.0;") 1
    × StatementsStop (codes "delay X;") 1
    × StatementsStop (codes "delay 1.0") 2
    × StatementsStop (codes "delay Duration (X)") 5
    × StatementsStop (codes "delay Duration (1, 2);") 4
    × StatementsStop (codes "delay 1.0 + 2.0;") 2
    × StatementsStop (codes "delay Duration (X) + 1;") 5

abbrev pub WrongAccepts : Type 0
WrongAccepts =
    StatementsStop (codes "accept;") 1
    × StatementsStop (codes "accept T.A;") 2
    × StatementsStop (codes "accept A (1);") 3
    × StatementsStop (codes "accept A do end;") 3
    × StatementsStop (codes "accept A begin null; end;") 2
    × StatementsStop (codes "accept A do null; end A") 7
    × StatementsStop (codes "accept A do null; end A.B;") 7
    × StatementsStop (codes "accept A is null; end;") 2
    × StatementsStop (codes "accept A") 2

abbrev pub WrongSelects : Type 0
WrongSelects =
    StatementsStop (codes "select end select;") 1
    × StatementsStop (codes "select else null; end select;") 1
    × StatementsStop (codes "select P; end select;") 3
    × StatementsStop (codes "select P; or accept A; end select;") 4
    × StatementsStop (codes "select P; or delay 1.0; or delay 1.0; end select;") 7
    × StatementsStop (codes "select P; or delay 1.0; else null; end select;") 7
    × StatementsStop (codes "select P; else end select;") 4
    × StatementsStop (codes "select when X => P; else null; end select;") 4
    × StatementsStop (codes "select X := 1; else null; end select;") 2
    × StatementsStop (codes "select delay 1.0; end select;") 4
    × StatementsStop (codes "select delay 1.0; else null; end select;") 4
    × StatementsStop (codes "select delay 1.0; or delay 2.0; or terminate; end select;") 9
    × StatementsStop (codes "select terminate; end select;") 3
    × StatementsStop (codes "select terminate; null; or accept A; end select;") 3
    × StatementsStop (codes "select terminate; else null; end select;") 3
    × StatementsStop (codes "select terminate; or delay 1.0; end select;") 4
    × StatementsStop (codes "select accept A; or delay 1.0; else null; end select;") 8
    × StatementsStop (codes "select accept A; or delay 1.0; or terminate; end select;") 9
    × StatementsStop (codes "select accept A; or delay 1.0; or when X => terminate; end select;") 12
    × StatementsStop (codes "select accept A; or terminate; or terminate; end select;") 8
    × StatementsStop (codes "select accept A; or terminate; or delay 1.0; end select;") 8
    × StatementsStop (codes "select accept A; or terminate; else null; end select;") 7
    × StatementsStop (codes "select accept A; else null; or accept B; end select;") 7
    × StatementsStop (codes "select accept A; or P; end select;") 5
    × StatementsStop (codes "select accept A; or end select;") 5
    × StatementsStop (codes "select accept A; then abort null; end select;") 4
    × StatementsStop (codes "select when accept A; end select;") 2
    × StatementsStop (codes "select when X accept A; end select;") 3
    × StatementsStop (codes "select accept A; end;") 5
    × StatementsStop (codes "select accept A; or accept B") 7
    × StatementsStop (codes "select accept A; end select") 6

abbrev pub FaultsOfRendezvous : Type 0
FaultsOfRendezvous = WrongDefinitions × WrongDelays × WrongAccepts × WrongSelects

-- formal parameters, the statements of an accept statement and of each part of a select statement, and parentheses open a level each, and close it
abbrev pub LevelsOfRendezvous : Type 0
LevelsOfRendezvous =
    IsReadWithin 1 (with_statements (codes "accept A (X : T);")) (Err (deep_at (4 + 2)))
    × IsReadWithin 1 (with_statements (codes "accept A do null; end;")) (Err (deep_at (4 + 3)))
    × IsReadWithin 1 (with_statements (codes "delay Duration (1);")) (Err (deep_at (4 + 2)))
    × IsReadWithin 1 (with_statements (codes "select P; null; else null; end select;")) (Err (deep_at (4 + 3)))
    × IsReadWithin 1 (with_statements (codes "select P; else null; end select;")) (Err (deep_at (4 + 4)))
    × IsReadWithin 2 (with_statements (codes "select accept A (X : T) do P (1); end A; or delay 1.0; null; end select;")) (Err (deep_at (4 + 10)))
    × StatementIs (codes "accept A;")
    (m.accepting (accepts 1 (codes "A")))
    × IsReadWithin 3 (with_statements (codes "select accept A (X : T) do P (1); end A; or delay 1.0; null; end select;"))
    (Ok (program [] (body (at 1 16) (alone_statement (m.select_accept (col 1) free (m.accept_alternative (m.accept (col 8) (word (codes "A") 15) (formal (codes "X") 18 mode.Unstated (codes "T") 22 ∷ []) (m.with_do (body (col 25) (alone_statement (m.call (the_name (a_part (codes "P") 28 (num 1 (col 31) ∷ [])) []))) (col 35) (Some (word (codes "A") 39)) (col 40)))) m.no_statements) (delay_behind free (delays 45 1) (then_null 56) m.no_alternatives) m.no_statements)) (at 3 1) None (at 3 4))))

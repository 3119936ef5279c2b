-- Small texts with protected objects and their bodies: the trees of some, and the tokens at which others go wrong.
use Rattle.std.specs.Prelude.{ℕ, ◌+◌, List, [], ◌∷◌, codes, Some, None, true, Ok, Err}
use Rattle.aud_syntax.specs.declared.tree.Mode.TheVariants as mode
use Rattle.aud_syntax.specs.Plain as m
use Rattle.aud_syntax.specs.Why.Shorthand.{at, num, only, declarations}
use Rattle.aud_grammar.specs.Parsed.{wrong_at, deep_at}
use Rattle.aud_grammar.specs.Why.Rows.{IsReadWithin, DeclarationsAre, ProgramStops, DeclarationsStop, StatementsStop, program, body, col, with_declarations, alone_statement, the_name, a_part}
use Rattle.aud_grammar.specs.Why.ControlRows.{word, nothing}
use Rattle.aud_grammar.specs.Why.ProcedureRows.{nothing_by}
use Rattle.aud_grammar.specs.Why.RendezvousRows.{StatementIs, entry, formal, variable}

-- trees, written shortly

-- a variable X of subtype T, as a component
abbrev pub component : ℕ → m.PrivateItem
component n = m.components (word (codes "X") n) [] (word (codes "T") (n + 4)) m.no_expression

-- an entry and a procedure without formal parameters

abbrev pub an_entry : List ℕ → ℕ → m.Operation
an_entry name n = m.entry_operation (entry name n [])

abbrev pub a_procedure : List ℕ → ℕ → m.Operation
a_procedure name n = m.procedure_operation (word name n) []

-- RM 9.4
abbrev pub ProtectedObjects : Type 0
ProtectedObjects =
    DeclarationsAre (codes "protected P is end;")
    (m.protected (col 1) (word (codes "P") 11) [] None None ∷ [])
    × DeclarationsAre (codes "protected P is private end P;")
    (m.protected (col 1) (word (codes "P") 11) [] (Some []) (Some (word (codes "P") 28)) ∷ [])
    × DeclarationsAre (codes "PROTECTED p IS PROCEDURE q; END p; protected R is end R;")
    (m.protected (col 1) (word (codes "P") 11) (a_procedure (codes "Q") 26 ∷ []) None (Some (word (codes "P") 33)) ∷ m.protected (col 36) (word (codes "R") 46) [] None (Some (word (codes "R") 55)) ∷ [])
    × DeclarationsAre (codes "protected P is entry A; procedure B (X : T); function C (Y : T) return U; private entry D; X, Y : T := 1; procedure Q; Z : U; end P;")
    (m.protected (col 1) (word (codes "P") 11)
    (an_entry (codes "A") 22 ∷ m.procedure_operation (word (codes "B") 35) (formal (codes "X") 38 mode.Unstated (codes "T") 42 ∷ []) ∷ m.function_operation (word (codes "C") 55) (formal (codes "Y") 58 mode.Unstated (codes "T") 62 ∷ []) (word (codes "U") 72) ∷ [])
    (Some (m.private_operation (an_entry (codes "D") 89) ∷ m.components (word (codes "X") 92) (word (codes "Y") 95 ∷ []) (word (codes "T") 99) (m.an_expression (only (num 1 (col 104)))) ∷ m.private_operation (a_procedure (codes "Q") 117) ∷ m.components (word (codes "Z") 120) [] (word (codes "U") 124) m.no_expression ∷ []))
    (Some (word (codes "P") 131)) ∷ [])
    × DeclarationsAre (codes "protected P is function F return T; private X : T; end; protected body P is function F return T is begin return X; end F; end P;")
    (m.protected (col 1) (word (codes "P") 11) (m.function_operation (word (codes "F") 25) [] (word (codes "T") 34) ∷ []) (Some (component 45 ∷ [])) None
    ∷ m.protected_body (col 57) (word (codes "P") 72) (m.more_bodies (m.function_body (col 77) (word (codes "F") 86) [] (word (codes "T") 95) m.no_declarations (body (col 100) (alone_statement (m.return (col 106) (m.an_expression (variable (codes "X") 113)))) (col 116) (Some (word (codes "F") 120)) (col 121))) m.no_bodies) (Some (word (codes "P") 127)) ∷ [])

-- RM 9.4(7, 8), 9.5.2(5, 7)
abbrev pub ProtectedBodies : Type 0
ProtectedBodies =
    DeclarationsAre (codes "protected body P is end P;")
    (m.protected_body (col 1) (word (codes "P") 16) m.no_bodies (Some (word (codes "P") 25)) ∷ [])
    × DeclarationsAre (codes "protected body P is procedure Q is begin null; end Q; end;")
    (m.protected_body (col 1) (word (codes "P") 16) (m.more_bodies (m.procedure_body (col 21) (word (codes "Q") 31) [] m.no_declarations (nothing_by (codes "Q") 36 48)) m.no_bodies) None ∷ [])
    × DeclarationsAre (codes "protected body P is entry A (X : T) when X is begin null; end A; procedure B is begin null; end; function C return T is Y : U; begin return 1; end C; end;")
    (m.protected_body (col 1) (word (codes "P") 16)
    (m.more_bodies (m.entry_body (col 21) (word (codes "A") 27) (formal (codes "X") 30 mode.Unstated (codes "T") 34 ∷ []) (variable (codes "X") 42) m.no_declarations (nothing_by (codes "A") 47 59))
    (m.more_bodies (m.procedure_body (col 66) (word (codes "B") 76) [] m.no_declarations (nothing 81 93))
    (m.more_bodies (m.function_body (col 98) (word (codes "C") 107) [] (word (codes "T") 116) (declarations (m.object (word (codes "Y") 121) [] (word (codes "U") 125) m.no_expression ∷ [])) (body (col 128) (alone_statement (m.return (col 134) (m.an_expression (only (num 1 (col 141)))))) (col 144) (Some (word (codes "C") 148)) (col 149)))
    m.no_bodies)))
    None ∷ [])
    × StatementIs (codes "declare protected P is end P; protected body P is end P; begin null; end;")
    (m.block None (col 1) true (declarations (m.protected (col 9) (word (codes "P") 19) [] None (Some (word (codes "P") 28)) ∷ m.protected_body (col 31) (word (codes "P") 46) m.no_bodies (Some (word (codes "P") 55)) ∷ [])) (nothing 58 70))

-- an operation or an entry is called as any other procedure, and a function within an expression (RM 9.5.1, 6.4)
abbrev pub CallsOfOperations : Type 0
CallsOfOperations =
    StatementIs (codes "P.Q;")
    (m.call (the_name (a_part (codes "P") 1 []) (a_part (codes "Q") 3 [] ∷ [])))
    × StatementIs (codes "P.Q (1, 2);")
    (m.call (the_name (a_part (codes "P") 1 []) (a_part (codes "Q") 3 (num 1 (col 6) ∷ num 2 (col 9) ∷ []) ∷ [])))
    × StatementIs (codes "X := P.F;")
    (m.assign (the_name (a_part (codes "X") 1 []) []) (only (m.name (the_name (a_part (codes "P") 6 []) (a_part (codes "F") 8 [] ∷ [])))))
    × StatementIs (codes "X := P.F (1);")
    (m.assign (the_name (a_part (codes "X") 1 []) []) (only (m.name (the_name (a_part (codes "P") 6 []) (a_part (codes "F") 8 (num 1 (col 11) ∷ []) ∷ [])))))

abbrev pub TreesOfProtected : Type 0
TreesOfProtected = ProtectedObjects × ProtectedBodies × CallsOfOperations

abbrev pub WrongObjects : Type 0
WrongObjects =
    DeclarationsStop (codes "protected;") 1
    × DeclarationsStop (codes "protected type P is end;") 1
    × DeclarationsStop (codes "protected P;") 2
    × DeclarationsStop (codes "protected P, Q is end;") 2
    × DeclarationsStop (codes "protected P (X : T) is end;") 2
    × DeclarationsStop (codes "protected P is new T with end;") 3
    × DeclarationsStop (codes "protected P is X : T; end;") 3
    × DeclarationsStop (codes "protected P is task T; end;") 3
    × DeclarationsStop (codes "protected P is begin null; end;") 3
    × DeclarationsStop (codes "protected P is entry; end;") 4
    × DeclarationsStop (codes "protected P is entry A when X; end;") 5
    × DeclarationsStop (codes "protected P is function F; end;") 5
    × DeclarationsStop (codes "protected P is function F return; end;") 6
    × DeclarationsStop (codes "protected P is function F return T (1); end;") 7
    × DeclarationsStop (codes "protected P is procedure Q return T; end;") 5
    × DeclarationsStop (codes "protected P is procedure Q is begin null; end; end;") 5
    × DeclarationsStop (codes "protected P is private private end;") 4
    × DeclarationsStop (codes "protected P is private X : constant T := 1; end;") 6
    × DeclarationsStop (codes "protected P is private X : exception; end;") 6
    × DeclarationsStop (codes "protected P is private X : array (1 .. 2) of T; end;") 6
    × DeclarationsStop (codes "protected P is private X : T end;") 7
    × DeclarationsStop (codes "protected P is end") 4
    × DeclarationsStop (codes "protected P is end P.Q;") 5
    × DeclarationsStop (codes "protected P is end protected;") 4
    × StatementsStop (codes "protected P is end;") 0
    × ProgramStops (codes "procedure P is protected") 4
    × ProgramStops (codes "procedure P is protected Q is end Q; end P;") 9

abbrev pub WrongBodies : Type 0
WrongBodies =
    DeclarationsStop (codes "protected body;") 2
    × DeclarationsStop (codes "protected body P;") 3
    × DeclarationsStop (codes "protected body P is begin null; end;") 4
    × DeclarationsStop (codes "protected body P is X : T; end;") 4
    × DeclarationsStop (codes "protected body P is private end;") 4
    × DeclarationsStop (codes "protected body P is procedure Q; end;") 6
    × DeclarationsStop (codes "protected body P is entry A is begin null; end; end;") 6
    × DeclarationsStop (codes "protected body P is entry A when is begin null; end; end;") 7
    × DeclarationsStop (codes "protected body P is entry A when X begin null; end; end;") 8
    × DeclarationsStop (codes "protected body P is entry A when X; end;") 8
    × DeclarationsStop (codes "protected body P is procedure Q when X is begin null; end; end;") 6
    × DeclarationsStop (codes "protected body P is function F is begin return 1; end; end;") 6
    × DeclarationsStop (codes "protected body P is function F return T; end;") 8
    × DeclarationsStop (codes "protected body P is procedure Q is begin end; end;") 8
    × DeclarationsStop (codes "protected body P is procedure Q is begin null; end Q;") 13
    × DeclarationsStop (codes "function F return T is begin return 1; end;") 0
    × DeclarationsStop (codes "entry A when X is begin null; end;") 0
    × ProgramStops (codes "procedure P is protected body Q is") 7

abbrev pub FaultsOfProtected : Type 0
FaultsOfProtected = WrongObjects × WrongBodies

-- formal parameters, parentheses, and the declarations and the statements of an operation's body open a level each, and close it; operations,
-- components and bodies of operations open none
abbrev pub LevelsOfProtected : Type 0
LevelsOfProtected =
    IsReadWithin 0 (with_declarations (codes "protected P is end;")) (Err (deep_at 3))
    × IsReadWithin 1 (with_declarations (codes "protected P is procedure Q (X : T); end;")) (Err (deep_at (3 + 5)))
    × IsReadWithin 1 (with_declarations (codes "protected P is private X : T := (1); end;")) (Err (deep_at (3 + 8)))
    × IsReadWithin 1 (with_declarations (codes "protected body P is entry A when (X) is begin null; end; end;")) (Err (deep_at (3 + 7)))
    × IsReadWithin 1 (with_declarations (codes "protected body P is procedure Q is begin null; end; end;")) (Err (deep_at (3 + 8)))
    × IsReadWithin 1 (with_declarations (codes "protected body P is procedure Q is begin end; end;")) (Err (wrong_at (3 + 8)))
    × IsReadWithin 1 (with_declarations (codes "protected body P is function F return T is X : U; begin return 1; end; end;")) (Err (deep_at (3 + 9)))
    × IsReadWithin 2 (with_declarations (codes "protected body P is procedure Q is protected R is function F (X : T) return U; end R; begin null; end; end;")) (Err (deep_at (3 + 12)))
    × IsReadWithin 1 (with_declarations (codes "protected P is entry A; private X : T; end P;"))
    (Ok (program (m.protected (col 1) (word (codes "P") 11) (an_entry (codes "A") 22 ∷ []) (Some (component 33 ∷ [])) (Some (word (codes "P") 44)) ∷ []) (body (at 3 1) (alone_statement (m.null (at 3 7))) (at 3 13) None (at 3 16))))
    × IsReadWithin 2 (with_declarations (codes "protected body P is procedure Q (X : T) is begin null; end; entry A when (X) is begin null; end; end;"))
    (Ok (program (m.protected_body (col 1) (word (codes "P") 16)
    (m.more_bodies (m.procedure_body (col 21) (word (codes "Q") 31) (formal (codes "X") 34 mode.Unstated (codes "T") 38 ∷ []) m.no_declarations (nothing 44 56))
    (m.more_bodies (m.entry_body (col 61) (word (codes "A") 67) [] (only (m.group (col 74) (variable (codes "X") 75))) m.no_declarations (nothing 81 93))
    m.no_bodies))
    None ∷ []) (body (at 3 1) (alone_statement (m.null (at 3 7))) (at 3 13) None (at 3 16))))

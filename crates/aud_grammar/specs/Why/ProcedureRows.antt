-- Small texts with procedures and return statements: the trees of some, and the tokens at which others go wrong.
use Rattle.std.specs.Prelude.{ℕ, ◌+◌, List, [], ◌∷◌, Some, None, codes, true, Ok, Err}
use Rattle.aud_syntax.specs.declared.tree.Adding.TheVariants.{Plus}
use Rattle.aud_syntax.specs.declared.tree.Mode.{Mode}
use Rattle.aud_syntax.specs.declared.tree.Mode.TheVariants.{Unstated, In, Out, InOut}
use Rattle.aud_syntax.specs.Plain as m
use Rattle.aud_syntax.specs.Why.Shorthand.{at, id, called, num, var, opposite, product, one, sum, adding, only, only_term, declarations, statements}
use Rattle.aud_grammar.specs.Parsed.{wrong_at, deep_at}
use Rattle.aud_grammar.specs.Why.Rows.{IsRead, IsReadWithin, DeclarationsAre, StatementsAre, ProgramStops, DeclarationsStop, StatementsStop, program, body, col, with_declarations, with_statements, alone_statement, the_name, a_part}
use Rattle.aud_grammar.specs.Why.ControlRows.{word, variable, nothing}

-- a formal parameter of the second line, and where its name and its subtype T stand
abbrev pub formal : List ℕ → ℕ → Mode → ℕ → m.Formal
formal spelling n how k = m.formal (word spelling n) [] how (word (codes "T") k)

-- a body that does nothing, with a name of one letter behind its `end`, and where its words begin
abbrev pub nothing_by : List ℕ → ℕ → ℕ → m.Body
nothing_by spelling begin end = body (col begin) (alone_statement (m.null (col (begin + 6)))) (col end) (Some (word spelling (end + 4))) (col (end + 5))

-- a procedure without formal parameters and declarations, where it begins, and its body
abbrev pub plainly : List ℕ → ℕ → m.Body → m.Declaration
plainly spelling n b = m.procedure (col n) (word spelling (n + 10)) [] m.no_declarations b

-- RM 6.1
abbrev pub Formals : Type 0
Formals =
    DeclarationsAre (codes "procedure Q (X : T) is begin null; end;")
    (m.procedure (col 1) (word (codes "Q") 11) (formal (codes "X") 14 Unstated 18 ∷ []) m.no_declarations (nothing 24 36) ∷ [])
    × DeclarationsAre (codes "procedure Q (X : in T; Y : out T; Z : in out T) is begin null; end Q;")
    (m.procedure (col 1) (word (codes "Q") 11) (formal (codes "X") 14 (In (col 18)) 21 ∷ formal (codes "Y") 24 (Out (col 28)) 32 ∷ formal (codes "Z") 35 (InOut (col 39)) 46 ∷ []) m.no_declarations (nothing_by (codes "Q") 52 64) ∷ [])
    × DeclarationsAre (codes "procedure Q (A, B : T) is X : T; begin null; end;")
    (m.procedure (col 1) (word (codes "Q") 11) (m.formal (word (codes "A") 14) (word (codes "B") 17 ∷ []) Unstated (word (codes "T") 21) ∷ []) (variable 27) (nothing 34 46) ∷ [])
    × DeclarationsAre (codes "PROCEDURE q (x : IN OUT t) IS BEGIN NULL; END Q;")
    (m.procedure (col 1) (word (codes "Q") 11) (formal (codes "X") 14 (InOut (col 18)) 25 ∷ []) m.no_declarations (nothing_by (codes "Q") 31 43) ∷ [])

-- RM 6.3
abbrev pub Procedures : Type 0
Procedures =
    DeclarationsAre (codes "procedure Q is begin null; end;")
    (plainly (codes "Q") 1 (nothing 16 28) ∷ [])
    × DeclarationsAre (codes "procedure Q is procedure R is begin null; end R; begin null; end Q;")
    (m.procedure (col 1) (word (codes "Q") 11) [] (declarations (plainly (codes "R") 16 (nothing_by (codes "R") 31 43) ∷ [])) (nothing_by (codes "Q") 50 62) ∷ [])
    × DeclarationsAre (codes "X : T; procedure Q is begin null; end; E : exception;")
    (m.object (word (codes "X") 1) [] (word (codes "T") 5) m.no_expression ∷ plainly (codes "Q") 8 (nothing 23 35) ∷ m.exception (word (codes "E") 40) [] ∷ [])
    × DeclarationsAre (codes "procedure Q is begin null; exception when others => null; end;")
    (plainly (codes "Q") 1 (m.body (col 16) (alone_statement (m.null (col 22))) (m.more_handlers (m.others (col 43)) (alone_statement (m.null (col 53))) m.no_handlers) (col 59) None (col 62)) ∷ [])
    × StatementsAre (codes "declare procedure Q is begin null; end; begin Q; end;")
    (m.block None (col 1) true (declarations (plainly (codes "Q") 9 (nothing 24 36) ∷ [])) (body (col 41) (alone_statement (m.call (the_name (a_part (codes "Q") 47 []) []))) (col 50) None (col 53))) []
    × IsRead (codes "procedure P is procedure Q (X : out T) is begin return; end Q; begin Q (Y); end P;")
    (Ok (program (m.procedure (at 1 16) (id (codes "Q") (at 1 26)) (m.formal (id (codes "X") (at 1 29)) [] (Out (at 1 33)) (id (codes "T") (at 1 37)) ∷ []) m.no_declarations (body (at 1 43) (alone_statement (m.return (at 1 49) m.no_expression)) (at 1 57) (Some (id (codes "Q") (at 1 61))) (at 1 62)) ∷ [])
    (body (at 1 64) (alone_statement (called (id (codes "Q") (at 1 70)) (only (var (codes "Y") (at 1 73))))) (at 1 77) (Some (id (codes "P") (at 1 81))) (at 1 82))))

-- RM 6.5, and calls with several arguments (RM 6.4)
abbrev pub Returns : Type 0
Returns =
    StatementsAre (codes "return;")
    (m.return (col 1) m.no_expression) []
    × StatementsAre (codes "return X + 1;")
    (m.return (col 1) (m.an_expression (sum (one (var (codes "X") (col 8))) (adding Plus (num 1 (col 12)) ∷ [])))) []
    × StatementsAre (codes "return (1); return not A;")
    (m.return (col 1) (m.an_expression (only (m.group (col 8) (only (num 1 (col 9)))))))
    (m.return (col 13) (m.an_expression (only_term (product (opposite (col 20) (var (codes "A") (col 24))) []))) ∷ [])
    × StatementsAre (codes "if A then return; end if;")
    (m.if_then (col 1) (only (var (codes "A") (col 4))) (alone_statement (m.return (col 11) m.no_expression)) m.no_arms m.no_statements) []
    × StatementsAre (codes "Q (A (I), S);")
    (m.call (the_name (a_part (codes "Q") 1 (m.name (the_name (a_part (codes "A") 4 (var (codes "I") (col 7) ∷ [])) []) ∷ var (codes "S") (col 11) ∷ [])) [])) []

abbrev pub TreesOfProcedures : Type 0
TreesOfProcedures = Formals × Procedures × Returns

abbrev pub WrongFormals : Type 0
WrongFormals =
    DeclarationsStop (codes "procedure Q () is begin null; end;") 3
    × DeclarationsStop (codes "procedure Q (X) is begin null; end;") 4
    × DeclarationsStop (codes "procedure Q (X : T;) is begin null; end;") 7
    × DeclarationsStop (codes "procedure Q (X : T, Y : T) is begin null; end;") 6
    × DeclarationsStop (codes "procedure Q (X : out in T) is begin null; end;") 6
    × DeclarationsStop (codes "procedure Q (X : in in T) is begin null; end;") 6
    × DeclarationsStop (codes "procedure Q (X : in) is begin null; end;") 6
    × DeclarationsStop (codes "procedure Q (in X : T) is begin null; end;") 3
    × DeclarationsStop (codes "procedure Q (X : constant T) is begin null; end;") 5
    × DeclarationsStop (codes "procedure Q (X : T := 1) is begin null; end;") 6
    × DeclarationsStop (codes "procedure Q (X : array (1 .. 2) of T) is begin null; end;") 5
    × DeclarationsStop (codes "procedure Q (X : T) (Y : T) is begin null; end;") 7
    × ProgramStops (codes "procedure P is procedure Q (X : in") 9

abbrev pub WrongProcedures : Type 0
WrongProcedures =
    DeclarationsStop (codes "procedure;") 1
    × DeclarationsStop (codes "procedure Q;") 2
    × DeclarationsStop (codes "procedure Q begin null; end;") 2
    × DeclarationsStop (codes "procedure Q is null; begin null; end;") 3
    × DeclarationsStop (codes "procedure Q is begin end;") 4
    × DeclarationsStop (codes "procedure Q is begin null; end Q") 8
    × DeclarationsStop (codes "procedure Q is begin procedure R is begin null; end; end;") 4
    × DeclarationsStop (codes "procedure Q.R is begin null; end;") 2
    × DeclarationsStop (codes "procedure Q, R is begin null; end;") 2
    × DeclarationsStop (codes "procedure Q return T is begin return 1; end;") 2
    × DeclarationsStop (codes "function F return T is begin return 1; end;") 0
    × DeclarationsStop (codes "X : T; procedure Q is begin null; end; null;") 12
    × StatementsStop (codes "procedure Q is begin null; end;") 0
    × ProgramStops (codes "procedure P is procedure") 4
    × ProgramStops (codes "procedure P is procedure Q is begin null; end Q; end P;") 12

abbrev pub WrongReturns : Type 0
WrongReturns =
    StatementsStop (codes "return") 1
    × StatementsStop (codes "return 1") 2
    × StatementsStop (codes "return X Y;") 2
    × StatementsStop (codes "return 1, 2;") 2
    × StatementsStop (codes "return := 1;") 1
    × StatementsStop (codes "return when A;") 1
    × StatementsStop (codes "return return;") 1
    × StatementsStop (codes "L : return;") 2
    × StatementsStop (codes "Q (X : T);") 3

abbrev pub FaultsOfProcedures : Type 0
FaultsOfProcedures = WrongFormals × WrongProcedures × WrongReturns

-- the formal parameters, the declarations and the statements of a procedure open a level each, and close it
abbrev pub LevelsOfProcedures : Type 0
LevelsOfProcedures =
    IsReadWithin 0 (with_declarations (codes "procedure Q is begin null; end;")) (Err (deep_at 3))
    × IsReadWithin 1 (with_declarations (codes "procedure Q is begin null; end;")) (Err (deep_at (3 + 4)))
    × IsReadWithin 1 (with_declarations (codes "procedure Q is begin end;")) (Err (wrong_at (3 + 4)))
    × IsReadWithin 1 (with_declarations (codes "procedure Q (X : T) is begin null; end;")) (Err (deep_at (3 + 2)))
    × IsReadWithin 1 (with_declarations (codes "procedure Q is X : T; begin null; end;")) (Err (deep_at (3 + 3)))
    × IsReadWithin 1 (with_declarations (codes "procedure Q is procedure R is begin null; end; begin null; end;")) (Err (deep_at (3 + 3)))
    × IsReadWithin 2 (with_declarations (codes "procedure Q is procedure R is begin null; end; begin null; end;")) (Err (deep_at (3 + 7)))
    × IsReadWithin 1 (with_statements (codes "return (1);")) (Err (deep_at (4 + 1)))
    × IsReadWithin 2 (with_declarations (codes "procedure Q (X : T; Y : T) is begin null; end; procedure R (Z : T) is begin null; end;"))
    (Ok (program (m.procedure (col 1) (word (codes "Q") 11) (formal (codes "X") 14 Unstated 18 ∷ formal (codes "Y") 21 Unstated 25 ∷ []) m.no_declarations (nothing 31 43) ∷ m.procedure (col 48) (word (codes "R") 58) (formal (codes "Z") 61 Unstated 65 ∷ []) m.no_declarations (nothing 71 83) ∷ [])
    (body (at 3 1) (statements (m.null (at 3 7)) []) (at 3 13) None (at 3 16))))

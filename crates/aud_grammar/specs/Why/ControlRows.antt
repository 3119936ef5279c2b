-- Small texts with blocks, exceptions, for loops and arrays: the trees of some, and the tokens at which others go wrong.
use Rattle.std.specs.Prelude.{ℕ, pos, ◌+◌, List, [], ◌∷◌, Some, None, codes, true, false, Ok, Err}
use Rattle.aud_syntax.specs.declared.tree.Bound.{Bound}
use Rattle.aud_syntax.specs.declared.tree.Ident.{Ident}
use Rattle.aud_syntax.specs.declared.tree.Adding.TheVariants.{Plus}
use Rattle.aud_syntax.specs.Plain as m
use Rattle.aud_syntax.specs.Why.Shorthand.{at, id, num, var, addeds, adding, one, declarations}
use Rattle.aud_grammar.specs.Parsed.{wrong_at, deep_at}
use Rattle.aud_grammar.specs.Why.Rows.{IsRead, IsReadWithin, DeclarationsAre, StatementsAre, ExpressionIs, ProgramStops, DeclarationsStop, StatementsStop, program, body, col, with_declarations, with_statements, alone_statement, operand, minus_one, the_name, a_part}

-- an identifier of the second line
abbrev pub word : List ℕ → ℕ → Ident
word spelling n = id spelling (col n)

abbrev pub bound : ℕ → ℕ → Bound
bound value n = record { negative = false; number = record { value = Some (pos value); at = col n } }

abbrev pub minus : ℕ → ℕ → Bound
minus value n = record { negative = true; number = record { value = Some (pos value); at = col n } }

-- arrays (RM 3.6) and exceptions (RM 11.1)
abbrev pub Declarations : Type 0
Declarations =
    DeclarationsAre (codes "A : array (1 .. 3) of Integer;")
    (m.array (word (codes "A") 1) [] (bound 1 12) (bound 3 17) (word (codes "INTEGER") 23) ∷ [])
    × DeclarationsAre (codes "A, B : array (-2 .. -1) of Boolean;")
    (m.array (word (codes "A") 1) (word (codes "B") 4 ∷ []) (minus 2 16) (minus 1 22) (word (codes "BOOLEAN") 28) ∷ [])
    × DeclarationsAre (codes "E, F : exception; X : T;")
    (m.exception (word (codes "E") 1) (word (codes "F") 4 ∷ []) ∷ m.object (word (codes "X") 19) [] (word (codes "T") 23) m.no_expression ∷ [])

-- a variable X of subtype T, declared where X stands
abbrev pub variable : ℕ → m.Declarations
variable n = declarations (m.object (word (codes "X") n) [] (word (codes "T") (n + 4)) m.no_expression ∷ [])

-- a body that does nothing, and where its words begin
abbrev pub nothing : ℕ → ℕ → m.Body
nothing begin end = body (col begin) (alone_statement (m.null (col (begin + 6)))) (col end) None (col (end + 3))

-- the same with a name B behind `end`
abbrev pub nothing_named : ℕ → ℕ → m.Body
nothing_named begin end = body (col begin) (alone_statement (m.null (col (begin + 6)))) (col end) (Some (word (codes "B") (end + 4))) (col (end + 5))

-- RM 5.6
abbrev pub Blocks : Type 0
Blocks =
    StatementsAre (codes "begin null; end;")
    (m.block None (col 1) false m.no_declarations (nothing 1 13)) []
    × StatementsAre (codes "declare begin null; end;")
    (m.block None (col 1) true m.no_declarations (nothing 9 21)) []
    × StatementsAre (codes "declare X : T; begin null; end;")
    (m.block None (col 1) true (variable 9) (nothing 16 28)) []
    × StatementsAre (codes "B : begin null; end B;")
    (m.block (Some (word (codes "B") 1)) (col 5) false m.no_declarations (nothing_named 5 17)) []
    × StatementsAre (codes "B : declare X : T; begin null; end B; null;")
    (m.block (Some (word (codes "B") 1)) (col 5) true (variable 13) (nothing_named 20 32)) (m.null (col 39) ∷ [])

-- two handlers, and where their words begin
abbrev pub two_handlers : m.Handlers
two_handlers = m.more_handlers (m.exceptions (word (codes "A") 28) (word (codes "B") 32 ∷ [])) (alone_statement (m.null (col 37))) (m.more_handlers (m.others (col 48)) (alone_statement (m.raise (col 58) None)) m.no_handlers)

-- RM 11.2, 11.3
abbrev pub Exceptions : Type 0
Exceptions =
    StatementsAre (codes "raise;")
    (m.raise (col 1) None) []
    × StatementsAre (codes "raise E;")
    (m.raise (col 1) (Some (word (codes "E") 7))) []
    × StatementsAre (codes "begin null; exception when A | B => null; when others => raise; end;")
    (m.block None (col 1) false m.no_declarations (m.body (col 1) (alone_statement (m.null (col 7))) two_handlers (col 65) None (col 68))) []
    × IsRead (codes "procedure P is begin null; exception when others => null; end P;")
    (Ok (program [] (m.body (at 1 16) (alone_statement (m.null (at 1 22))) (m.more_handlers (m.others (at 1 43)) (alone_statement (m.null (at 1 53))) m.no_handlers) (at 1 59) (Some (id (codes "P") (at 1 63))) (at 1 64))))

-- RM 5.5(4), and elements of arrays (RM 4.1.1)
abbrev pub ForLoops : Type 0
ForLoops =
    StatementsAre (codes "for I in 1 .. 3 loop null; end loop;")
    (m.loop None (col 1) (m.for (word (codes "I") 5) false (operand (num 1 (col 10))) (operand (num 3 (col 15)))) (alone_statement (m.null (col 22))) None (col 36)) []
    × StatementsAre (codes "L : for I in reverse -1 .. X + 1 loop exit L; end loop L;")
    (m.loop (Some (word (codes "L") 1)) (col 5) (m.for (word (codes "I") 9) true (minus_one 22) (m.simple None (one (var (codes "X") (col 28))) (addeds (adding Plus (num 1 (col 32)) ∷ [])))) (alone_statement (m.exit (col 39) (Some (word (codes "L") 44)) m.no_expression)) (Some (word (codes "L") 56)) (col 57)) []
    × ExpressionIs (codes "A (I)'Image")
    (m.alone (m.unrelated (operand (m.attribute (the_name (a_part (codes "A") 1 (var (codes "I") (col 4) ∷ [])) []) (word (codes "IMAGE") 7) m.no_expression))))

abbrev pub TreesOfControl : Type 0
TreesOfControl = Declarations × Blocks × Exceptions × ForLoops

abbrev pub WrongDeclarations : Type 0
WrongDeclarations =
    DeclarationsStop (codes "A : array 1 .. 3 of T;") 3
    × DeclarationsStop (codes "A : array (1, 2) of T;") 5
    × DeclarationsStop (codes "A : array (1 .. X) of T;") 6
    × DeclarationsStop (codes "A : array (+1 .. 3) of T;") 4
    × DeclarationsStop (codes "A : array (- -1 .. 3) of T;") 5
    × DeclarationsStop (codes "A : array (1 .. 3) T;") 8
    × DeclarationsStop (codes "A : array (1 .. 3) of T := 1;") 10
    × DeclarationsStop (codes "E : exception := 1;") 3
    × DeclarationsStop (codes "E : constant exception;") 3
    × DeclarationsStop (codes "exception;") 0

abbrev pub WrongBlocks : Type 0
WrongBlocks =
    StatementsStop (codes "declare null; begin null; end;") 1
    × StatementsStop (codes "declare X : T; end;") 5
    × StatementsStop (codes "begin end;") 1
    × StatementsStop (codes "begin null; end B C;") 5
    × StatementsStop (codes "B : begin null;") 7
    × ProgramStops (codes "procedure P is declare X : T; begin null; end;") 3

abbrev pub WrongHandlers : Type 0
WrongHandlers =
    StatementsStop (codes "begin null; exception end;") 4
    × StatementsStop (codes "begin null; exception null; end;") 4
    × StatementsStop (codes "begin null; exception when => null; end;") 5
    × StatementsStop (codes "begin null; exception when A, B => null; end;") 6
    × StatementsStop (codes "begin null; exception when A | => null; end;") 7
    × StatementsStop (codes "begin null; exception when A | others => null; end;") 7
    × StatementsStop (codes "begin null; exception when others | A => null; end;") 6
    × StatementsStop (codes "begin null; exception when A null; end;") 6
    × StatementsStop (codes "begin null; exception when A => end;") 7
    × StatementsStop (codes "begin null; exception when A => null; exception when B => null; end;") 9
    × StatementsStop (codes "when A => null;") 0
    × StatementsStop (codes "raise E, F;") 2
    × StatementsStop (codes "raise E.F;") 2
    × StatementsStop (codes "raise 1;") 1
    × ProgramStops (codes "procedure P is begin null; exception") 7

abbrev pub WrongForLoops : Type 0
WrongForLoops =
    StatementsStop (codes "for I loop null; end loop;") 2
    × StatementsStop (codes "for in 1 .. 2 loop null; end loop;") 1
    × StatementsStop (codes "for I in 1 loop null; end loop;") 4
    × StatementsStop (codes "for I in 1 .. 2 .. 3 loop null; end loop;") 6
    × StatementsStop (codes "for I in 1 .. 2 reverse loop null; end loop;") 6
    × StatementsStop (codes "for I in 1 = 2 .. 3 loop null; end loop;") 4
    × StatementsStop (codes "for I, J in 1 .. 2 loop null; end loop;") 2
    × StatementsStop (codes "for I : T in 1 .. 2 loop null; end loop;") 2
    × StatementsStop (codes "for I in 1 .. 2; loop null; end loop;") 6

abbrev pub FaultsOfControl : Type 0
FaultsOfControl = WrongDeclarations × WrongBlocks × WrongHandlers × WrongForLoops

-- declarations, statements and the bounds of arrays open a level each, and close it; and the first fault counts
abbrev pub LevelsOfControl : Type 0
LevelsOfControl =
    IsReadWithin 1 (with_declarations (codes "A : array (1 .. 2) of T;")) (Err (deep_at (3 + 3)))
    × IsReadWithin 1 (with_statements (codes "begin null; end;")) (Err (deep_at (4 + 1)))
    × IsReadWithin 1 (with_statements (codes "begin end;")) (Err (wrong_at (4 + 1)))
    × IsReadWithin 1 (with_statements (codes "declare X : T; begin null; end;")) (Err (deep_at (4 + 1)))
    × IsReadWithin 1 (with_statements (codes "declare begin null; end;")) (Err (deep_at (4 + 2)))
    × IsReadWithin 1 (with_statements (codes "for I in (1) .. 2 loop null; end loop;")) (Err (deep_at (4 + 3)))
    × IsReadWithin 2 (with_statements (codes "begin null; exception when A => begin null; end; end;")) (Err (deep_at (4 + 8)))
    × IsReadWithin 1 (codes "procedure P is begin null; exception when A => null; end;")
    (Ok (program [] (m.body (at 1 16) (alone_statement (m.null (at 1 22))) (m.more_handlers (m.exceptions (id (codes "A") (at 1 43)) []) (alone_statement (m.null (at 1 48))) m.no_handlers) (at 1 54) None (at 1 57))))

-- Small texts: the trees of some, and the tokens at which others go wrong.
use Rattle.std.specs.Prelude.{◌≡◌, ℕ, zero, suc, ◌+◌, ◌-◌, ◌*◌, List, [], ◌∷◌, ◌++◌, replicate, codes, Option, Some, None, Result, Ok, Err}
use Rattle.aud_text.specs.declared.place.Pos.{Pos}
use Rattle.aud_lex.specs.Element.{Element}
use Rattle.aud_lex.specs.Lexed.{lexed}
use Rattle.aud_syntax.specs.declared.tree.Ident.{Ident}
use Rattle.aud_syntax.specs.declared.tree.Sign.TheVariants as sign
use Rattle.aud_syntax.specs.declared.tree.Adding.TheVariants.{Plus, Minus, Join}
use Rattle.aud_syntax.specs.declared.tree.Multiplying.TheVariants.{Times, Divide, Modulo, Remainder}
use Rattle.aud_syntax.specs.declared.tree.Relational.{Relational}
use Rattle.aud_syntax.specs.declared.tree.Relational.TheVariants.{Equal, Unequal, Less, AtMost, Greater, AtLeast}
use Rattle.aud_syntax.specs.declared.tree.Connective.{Connective}
use Rattle.aud_syntax.specs.declared.tree.Connective.TheVariants.{And, Or, Xor, AndThen, OrElse}
use Rattle.aud_syntax.specs.Plain.{Expression, alone, connected, Relations, no_relations, more_relations, Relation, unrelated, related, Simple, simple, added, multiplied, Primary, name, attribute, group, Name, named, part, no_expression, an_expression, Declaration, object, constant, Statement, null, assign, call, Body, Unit, unit, Statements, no_arms, more_arms, if_then, forever, while, loop, exit}
use Rattle.aud_syntax.specs.Plain as m
use Rattle.aud_grammar.specs.Grammar as g
use Rattle.aud_grammar.specs.Actions.{the_unit}
use Rattle.aud_grammar.specs.Parsed.{Fault, wrong_at, deep_at, parsed, parsed_as}
use Rattle.aud_syntax.specs.Why.Shorthand.{at, id, var_at, called, num, too_large, str, var, just, magnitude, opposite, product, multiplying, one, addeds, sum, adding, only, only_term, positive, negative, declarations, more, statements}

-- how tokens are read, where there are tokens
abbrev pub read_by : (List Element → Result Unit Fault) → Result (List Element) Pos → Option (Result Unit Fault)
read_by reads (Ok ts) = Some (reads ts)
read_by reads (Err place) = None

-- the text has tokens, and this is what they are as a program
abbrev pub IsRead : List ℕ → Result Unit Fault → Type 0
IsRead source what = read_by parsed (lexed source) ≡ Some what

-- a program from the first byte on, whose name is P
abbrev pub program : List Declaration → Body → Unit
program ds b = unit [] (at 1 1) (id (codes "P") (at 1 11)) (declarations ds) b

-- a body without handlers
abbrev pub body : Pos → m.Statements → Pos → Option Ident → Pos → Body
body begin inner end last semicolon = m.body begin inner m.no_handlers end last semicolon

-- the text as declarations, statements or an expression, in the second line of a program, and a place there

abbrev pub with_declarations : List ℕ → List ℕ
with_declarations source = codes "procedure P is\n" ++ source ++ codes "\nbegin null; end;"

abbrev pub with_statements : List ℕ → List ℕ
with_statements source = codes "procedure P is begin\n" ++ source ++ codes "\nend;"

abbrev pub with_expression : List ℕ → List ℕ
with_expression source = codes "procedure P is begin X :=\n" ++ source ++ codes "\n; end;"

abbrev pub DeclarationsAre : List ℕ → List Declaration → Type 0
DeclarationsAre source ds = IsRead (with_declarations source) (Ok (program ds (body (at 3 1) (statements (null (at 3 7)) []) (at 3 13) None (at 3 16))))

abbrev pub StatementsAre : List ℕ → Statement → List Statement → Type 0
StatementsAre source first others = IsRead (with_statements source) (Ok (program [] (body (at 1 16) (statements first others) (at 3 1) None (at 3 4))))

abbrev pub ExpressionIs : List ℕ → Expression → Type 0
ExpressionIs source e = IsRead (with_expression source) (Ok (program [] (body (at 1 16) (statements (assign (var_at (codes "X") (at 1 22)) e) []) (at 3 3) None (at 3 6))))

abbrev pub col : ℕ → Pos
col n = at 2 n

-- no program goes on with the token of this number, counted from 0 in the text itself

abbrev pub ProgramStops : List ℕ → ℕ → Type 0
ProgramStops source n = IsRead source (Err (wrong_at n))

abbrev pub DeclarationsStop : List ℕ → ℕ → Type 0
DeclarationsStop source n = IsRead (with_declarations source) (Err (wrong_at (3 + n)))

abbrev pub StatementsStop : List ℕ → ℕ → Type 0
StatementsStop source n = IsRead (with_statements source) (Err (wrong_at (4 + n)))

abbrev pub ExpressionStops : List ℕ → ℕ → Type 0
ExpressionStops source n = IsRead (with_expression source) (Err (wrong_at (6 + n)))

-- the first program of docs/LANGUAGE.md

abbrev pub example : List ℕ
example =
    codes "procedure Sum is\n"
    ++ codes "   X : Integer := 40;\n"
    ++ codes "begin\n"
    ++ codes "   X := X + 2;               -- 42\n"
    ++ codes "   Put_Line (\"x\" & X'Image);\n"
    ++ codes "end Sum;\n"

abbrev pub example_declaration : Declaration
example_declaration = object (id (codes "X") (at 2 4)) [] (id (codes "INTEGER") (at 2 8)) (an_expression (only (num 40 (at 2 19))))

abbrev pub example_assign : Statement
example_assign = assign (var_at (codes "X") (at 4 4)) (sum (one (var (codes "X") (at 4 9))) (adding Plus (num 2 (at 4 13)) ∷ []))

abbrev pub example_image : Primary
example_image = attribute (var_at (codes "X") (at 5 20)) (id (codes "IMAGE") (at 5 22)) no_expression

abbrev pub example_call : Statement
example_call = called (id (codes "PUT_LINE") (at 5 4)) (sum (one (str (codes "x") (at 5 14))) (adding Join example_image ∷ []))

abbrev pub example_body : Body
example_body = body (at 3 1) (statements example_assign (example_call ∷ [])) (at 6 1) (Some (id (codes "SUM") (at 6 5))) (at 6 8)

-- programs (RM 6.3)
abbrev pub Programs : Type 0
Programs =
    IsRead (codes "procedure P is begin null; end;")
    (Ok (program [] (body (at 1 16) (statements (null (at 1 22)) []) (at 1 28) None (at 1 31))))
    × IsRead (codes "PROCEDURE p IS\nBEGIN\n  NULL;\nEND p;")
    (Ok (program [] (body (at 2 1) (statements (null (at 3 3)) []) (at 4 1) (Some (id (codes "P") (at 4 5))) (at 4 6))))
    × IsRead (codes "procedure P is begin null; end Other_Name;")
    (Ok (program [] (body (at 1 16) (statements (null (at 1 22)) []) (at 1 28) (Some (id (codes "OTHER_NAME") (at 1 32))) (at 1 42))))
    × IsRead (codes "-- a comment\n  procedure P is begin null; end;")
    (Ok (unit [] (at 2 3) (id (codes "P") (at 2 13)) (declarations []) (body (at 2 18) (statements (null (at 2 24)) []) (at 2 30) None (at 2 33))))
    × IsRead example (Ok (unit [] (at 1 1) (id (codes "SUM") (at 1 11)) (declarations (example_declaration ∷ [])) example_body))

-- a body that does nothing, behind `procedure P is` at the beginning of a line
abbrev pub nothing : ℕ → Body
nothing line = body (at line 16) (statements (null (at line 22)) []) (at line 28) None (at line 31)

-- context clauses (RM 10.1.2, 8.4)
abbrev pub Clauses : Type 0
Clauses =
    IsRead (codes "with Ada.Text_IO;\nprocedure P is begin null; end;")
    (Ok (unit (m.with_text_io (at 1 1) ∷ []) (at 2 1) (id (codes "P") (at 2 11)) (declarations []) (nothing 2)))
    × IsRead (codes "WITH ADA.TEXT_IO; use ada . text_io;\nprocedure P is begin null; end;")
    (Ok (unit (m.with_text_io (at 1 1) ∷ m.use_text_io (at 1 19) ∷ []) (at 2 1) (id (codes "P") (at 2 11)) (declarations []) (nothing 2)))

-- declarations (RM 3.3.1)
abbrev pub Declarations : Type 0
Declarations =
    DeclarationsAre (codes "X : Integer;")
    (object (id (codes "X") (col 1)) [] (id (codes "INTEGER") (col 5)) no_expression ∷ [])
    × DeclarationsAre (codes "X : T := 1;")
    (object (id (codes "X") (col 1)) [] (id (codes "T") (col 5)) (an_expression (only (num 1 (col 10)))) ∷ [])
    × DeclarationsAre (codes "A, B, C : T;")
    (object (id (codes "A") (col 1)) (id (codes "B") (col 4) ∷ id (codes "C") (col 7) ∷ []) (id (codes "T") (col 11)) no_expression ∷ [])
    × DeclarationsAre (codes "A : T; B, C : U := -1; D : V;")
    (object (id (codes "A") (col 1)) [] (id (codes "T") (col 5)) no_expression
    ∷ object (id (codes "B") (col 8)) (id (codes "C") (col 11) ∷ []) (id (codes "U") (col 15)) (an_expression (negative (col 20) (one (num 1 (col 21))) []))
    ∷ object (id (codes "D") (col 24)) [] (id (codes "V") (col 28)) no_expression
    ∷ [])
    × DeclarationsAre (codes "X : constant T := 1;")
    (constant (id (codes "X") (col 1)) [] (id (codes "T") (col 14)) (only (num 1 (col 19))) ∷ [])
    × DeclarationsAre (codes "A, B : constant T := 1; C : U;")
    (constant (id (codes "A") (col 1)) (id (codes "B") (col 4) ∷ []) (id (codes "T") (col 17)) (only (num 1 (col 22)))
    ∷ object (id (codes "C") (col 25)) [] (id (codes "U") (col 29)) no_expression
    ∷ [])

-- names, written shortly

abbrev pub arguments : List Primary → m.Args
arguments [] = m.no_args
arguments (p ∷ ps) = m.more_args (only p) (arguments ps)

abbrev pub parts : List m.NamePart → m.Parts
parts [] = m.no_parts
parts (x ∷ xs) = m.more_parts x (parts xs)

-- an identifier of the second line, and its arguments
abbrev pub a_part : List ℕ → ℕ → List Primary → m.NamePart
a_part spelling n ps = part (id spelling (col n)) (arguments ps)

abbrev pub the_name : m.NamePart → List m.NamePart → Name
the_name x xs = named x (parts xs)

-- statements (RM 5.1, 5.2, 6.4)
abbrev pub Sequences : Type 0
Sequences =
    StatementsAre (codes "null;")
    (null (col 1)) []
    × StatementsAre (codes "X := 1;")
    (assign (var_at (codes "X") (col 1)) (only (num 1 (col 6)))) []
    × StatementsAre (codes "Put_Line (\"x\");")
    (called (id (codes "PUT_LINE") (col 1)) (only (str (codes "x") (col 11)))) []
    × StatementsAre (codes "Put_Line;")
    (call (var_at (codes "PUT_LINE") (col 1))) []
    × StatementsAre (codes "P (1, X, 2);")
    (call (the_name (a_part (codes "P") 1 (num 1 (col 4) ∷ var (codes "X") (col 7) ∷ num 2 (col 10) ∷ [])) [])) []
    × StatementsAre (codes "A.B := 1;")
    (assign (the_name (a_part (codes "A") 1 []) (a_part (codes "B") 3 [] ∷ [])) (only (num 1 (col 8)))) []
    × StatementsAre (codes "A (1) := 2;")
    (assign (the_name (a_part (codes "A") 1 (num 1 (col 4) ∷ [])) []) (only (num 2 (col 10)))) []
    × StatementsAre (codes "A (1).B.C (2, 3);")
    (call (the_name (a_part (codes "A") 1 (num 1 (col 4) ∷ [])) (a_part (codes "B") 7 [] ∷ a_part (codes "C") 9 (num 2 (col 12) ∷ num 3 (col 15) ∷ []) ∷ []))) []
    × StatementsAre (codes "null; X := 1; P (X); null;")
    (null (col 1))
    (assign (var_at (codes "X") (col 7)) (only (num 1 (col 12)))
    ∷ called (id (codes "P") (col 15)) (only (var (codes "X") (col 18)))
    ∷ null (col 22)
    ∷ [])

abbrev pub alone_statement : Statement → Statements
alone_statement x = statements x []

-- control flow (RM 5.3, 5.5, 5.7)
abbrev pub ControlFlow : Type 0
ControlFlow =
    StatementsAre (codes "if A then null; end if;")
    (if_then (col 1) (only (var (codes "A") (col 4))) (alone_statement (null (col 11))) no_arms m.no_statements) []
    × StatementsAre (codes "if A then null; else null; X := 1; end if;")
    (if_then (col 1) (only (var (codes "A") (col 4))) (alone_statement (null (col 11))) no_arms (more (null (col 22) ∷ assign (var_at (codes "X") (col 28)) (only (num 1 (col 33))) ∷ []))) []
    × StatementsAre (codes "if A then null; elsif B then null; elsif C then null; end if; null;")
    (if_then (col 1) (only (var (codes "A") (col 4))) (alone_statement (null (col 11))) (more_arms (col 17) (only (var (codes "B") (col 23))) (alone_statement (null (col 30))) (more_arms (col 36) (only (var (codes "C") (col 42))) (alone_statement (null (col 49))) no_arms)) m.no_statements) (null (col 63) ∷ [])
    × StatementsAre (codes "loop exit; end loop;")
    (loop None (col 1) forever (alone_statement (exit (col 6) None no_expression)) None (col 20)) []
    × StatementsAre (codes "while A loop null; end loop;")
    (loop None (col 1) (while (only (var (codes "A") (col 7)))) (alone_statement (null (col 14))) None (col 28)) []
    × StatementsAre (codes "L : loop exit L when A; end loop L;")
    (loop (Some (id (codes "L") (col 1))) (col 5) forever (alone_statement (exit (col 10) (Some (id (codes "L") (col 15))) (an_expression (only (var (codes "A") (col 22)))))) (Some (id (codes "L") (col 34))) (col 35)) []
    × StatementsAre (codes "L : while A loop exit when B; exit L; end loop;")
    (loop (Some (id (codes "L") (col 1))) (col 5) (while (only (var (codes "A") (col 11)))) (statements (exit (col 18) None (an_expression (only (var (codes "B") (col 28))))) (exit (col 31) (Some (id (codes "L") (col 36))) no_expression ∷ [])) None (col 47)) []
    × StatementsAre (codes "if A then loop if B then exit; end if; end loop; end if;")
    (if_then (col 1) (only (var (codes "A") (col 4))) (alone_statement (loop None (col 11) forever (alone_statement (if_then (col 16) (only (var (codes "B") (col 19))) (alone_statement (exit (col 26) None no_expression)) no_arms m.no_statements)) None (col 48))) no_arms m.no_statements) []

-- primaries (RM 2.3(5), 2.4.1(4, 5), 2.6(4, 5), 4.1, 4.1.4, 4.4(7))
abbrev pub Primaries : Type 0
Primaries =
    ExpressionIs (codes "7") (only (num 7 (col 1)))
    × ExpressionIs (codes "1_000") (only (num 1000 (col 1)))
    × ExpressionIs (codes "2147483647") (only (num 2147483647 (col 1)))
    × ExpressionIs (codes "2147483648") (only (too_large (col 1)))
    × ExpressionIs (codes "\"say \"\"hi\"\"\"") (only (str (codes "say \"hi\"") (col 1)))
    × ExpressionIs (codes "\"\"") (only (str [] (col 1)))
    × ExpressionIs (codes "Some_Name") (only (var (codes "SOME_NAME") (col 1)))
    × ExpressionIs (codes "X'Image") (only (attribute (var_at (codes "X") (col 1)) (id (codes "IMAGE") (col 3)) no_expression))
    × ExpressionIs (codes "T'Image (X)") (only (attribute (var_at (codes "T") (col 1)) (id (codes "IMAGE") (col 3)) (an_expression (only (var (codes "X") (col 10))))))
    × ExpressionIs (codes "A.B") (only (name (the_name (a_part (codes "A") 1 []) (a_part (codes "B") 3 [] ∷ []))))
    × ExpressionIs (codes "F (1, X)") (only (name (the_name (a_part (codes "F") 1 (num 1 (col 4) ∷ var (codes "X") (col 7) ∷ [])) [])))
    × ExpressionIs (codes "F (G (1))") (only (name (the_name (a_part (codes "F") 1 (name (the_name (a_part (codes "G") 4 (num 1 (col 7) ∷ [])) []) ∷ [])) [])))
    × ExpressionIs (codes "A (1).B'Image") (only (attribute (the_name (a_part (codes "A") 1 (num 1 (col 4) ∷ [])) (a_part (codes "B") 7 [] ∷ [])) (id (codes "IMAGE") (col 9)) no_expression))
    × ExpressionIs (codes "(X)") (only (group (col 1) (only (var (codes "X") (col 2)))))
    × ExpressionIs (codes "((1))") (only (group (col 1) (only (group (col 2) (only (num 1 (col 3)))))))

-- operators; those of one level stand in the order of the text, in which they are taken (RM 4.5(8))
abbrev pub Operators : Type 0
Operators =
    ExpressionIs (codes "1 - 2 + 3")
    (sum (one (num 1 (col 1))) (adding Minus (num 2 (col 5)) ∷ adding Plus (num 3 (col 9)) ∷ []))
    × ExpressionIs (codes "A & B & \"c\"")
    (sum (one (var (codes "A") (col 1))) (adding Join (var (codes "B") (col 5)) ∷ adding Join (str (codes "c") (col 9)) ∷ []))
    × ExpressionIs (codes "1 - (2 + 3)")
    (sum (one (num 1 (col 1))) (adding Minus (group (col 5) (sum (one (num 2 (col 6))) (adding Plus (num 3 (col 10)) ∷ []))) ∷ []))
    × ExpressionIs (codes "8 / 4 * 2")
    (only_term (product (just (num 8 (col 1))) (multiplying Divide (num 4 (col 5)) ∷ multiplying Times (num 2 (col 9)) ∷ [])))
    × ExpressionIs (codes "9 mod 5 rem 3")
    (only_term (product (just (num 9 (col 1))) (multiplying Modulo (num 5 (col 7)) ∷ multiplying Remainder (num 3 (col 13)) ∷ [])))
    × ExpressionIs (codes "1 + 2 * 3 - 4")
    (sum (one (num 1 (col 1))) (added Plus (product (just (num 2 (col 5))) (multiplying Times (num 3 (col 9)) ∷ [])) ∷ adding Minus (num 4 (col 13)) ∷ []))
    × ExpressionIs (codes "(1 + 2) * 3")
    (only_term (product (just (group (col 1) (sum (one (num 1 (col 2))) (adding Plus (num 2 (col 6)) ∷ [])))) (multiplying Times (num 3 (col 11)) ∷ [])))
    × ExpressionIs (codes "+1")
    (positive (col 1) (one (num 1 (col 2))) [])
    × ExpressionIs (codes "-7 mod 2 + 1")
    (negative (col 1) (product (just (num 7 (col 2))) (multiplying Modulo (num 2 (col 8)) ∷ [])) (adding Plus (num 1 (col 12)) ∷ []))
    × ExpressionIs (codes "2 * (-1)")
    (only_term (product (just (num 2 (col 1))) (multiplying Times (group (col 5) (negative (col 6) (one (num 1 (col 7))) [])) ∷ [])))
    × ExpressionIs (codes "abs X + 1")
    (sum (product (magnitude (col 1) (var (codes "X") (col 5))) []) (adding Plus (num 1 (col 9)) ∷ []))
    × ExpressionIs (codes "2 * abs X")
    (only_term (product (just (num 2 (col 1))) (multiplied Times (magnitude (col 5) (var (codes "X") (col 9))) ∷ [])))
    × ExpressionIs (codes "not X & Y")
    (sum (product (opposite (col 1) (var (codes "X") (col 5))) []) (adding Join (var (codes "Y") (col 9)) ∷ []))
    × ExpressionIs (codes "-abs X")
    (negative (col 1) (product (magnitude (col 2) (var (codes "X") (col 6))) []) [])

-- relations and logical expressions, written shortly

abbrev pub operand : Primary → Simple
operand p = simple None (one p) (addeds [])

-- without a comparison
abbrev pub truth : Primary → Relation
truth p = unrelated (operand p)

abbrev pub comparing : Relational → Primary → Primary → Relation
comparing operator p q = related operator (operand p) (operand q)

abbrev pub relations : List Relation → Relations
relations [] = no_relations
relations (x ∷ xs) = more_relations x (relations xs)

abbrev pub joined : Connective → Relation → Relation → List Relation → Expression
joined operator first second others = connected operator first second (relations others)

abbrev pub variable : List ℕ → ℕ → Relation
variable spelling n = truth (var spelling (col n))

abbrev pub opposite_of : ℕ → Primary → Relation
opposite_of n p = unrelated (simple None (product (opposite (col n) p) []) (addeds []))

abbrev pub divided : Primary → Primary → Simple
divided p q = simple None (product (just p) (multiplying Divide q ∷ [])) (addeds [])

abbrev pub minus_one : ℕ → Simple
minus_one n = simple (Some (record { sign = sign.Minus; at = col n })) (one (num 1 (col (n + 1)))) (addeds [])

-- relations: two operands at most (RM 4.4(3), 4.5.2)
abbrev pub Comparisons : Type 0
Comparisons =
    ExpressionIs (codes "1 = 2") (alone (comparing Equal (num 1 (col 1)) (num 2 (col 5))))
    × ExpressionIs (codes "1 /= 2") (alone (comparing Unequal (num 1 (col 1)) (num 2 (col 6))))
    × ExpressionIs (codes "1 < 2") (alone (comparing Less (num 1 (col 1)) (num 2 (col 5))))
    × ExpressionIs (codes "1 <= 2") (alone (comparing AtMost (num 1 (col 1)) (num 2 (col 6))))
    × ExpressionIs (codes "1 > 2") (alone (comparing Greater (num 1 (col 1)) (num 2 (col 5))))
    × ExpressionIs (codes "1 >= 2") (alone (comparing AtLeast (num 1 (col 1)) (num 2 (col 6))))
    × ExpressionIs (codes "Y / X > -1")
    (alone (related Greater (divided (var (codes "Y") (col 1)) (var (codes "X") (col 5))) (minus_one 9)))
    × ExpressionIs (codes "(1 = 2) = (3 < 4)")
    (alone (comparing Equal (group (col 1) (alone (comparing Equal (num 1 (col 2)) (num 2 (col 6))))) (group (col 11) (alone (comparing Less (num 3 (col 12)) (num 4 (col 16)))))))

-- logical operators and short-circuit control forms (RM 4.4(2), 4.5.1)
abbrev pub Logic : Type 0
Logic =
    ExpressionIs (codes "A and B") (joined And (variable (codes "A") 1) (variable (codes "B") 7) [])
    × ExpressionIs (codes "A or B") (joined Or (variable (codes "A") 1) (variable (codes "B") 6) [])
    × ExpressionIs (codes "A xor B") (joined Xor (variable (codes "A") 1) (variable (codes "B") 7) [])
    × ExpressionIs (codes "A and then B") (joined AndThen (variable (codes "A") 1) (variable (codes "B") 12) [])
    × ExpressionIs (codes "A or else B") (joined OrElse (variable (codes "A") 1) (variable (codes "B") 11) [])
    × ExpressionIs (codes "A and B and C and D")
    (joined And (variable (codes "A") 1) (variable (codes "B") 7) (variable (codes "C") 13 ∷ variable (codes "D") 19 ∷ []))
    × ExpressionIs (codes "A or B or C")
    (joined Or (variable (codes "A") 1) (variable (codes "B") 6) (variable (codes "C") 11 ∷ []))
    × ExpressionIs (codes "A xor B xor C")
    (joined Xor (variable (codes "A") 1) (variable (codes "B") 7) (variable (codes "C") 13 ∷ []))
    × ExpressionIs (codes "A and then B and then C")
    (joined AndThen (variable (codes "A") 1) (variable (codes "B") 12) (variable (codes "C") 23 ∷ []))
    × ExpressionIs (codes "A or else B or else C")
    (joined OrElse (variable (codes "A") 1) (variable (codes "B") 11) (variable (codes "C") 21 ∷ []))
    × ExpressionIs (codes "not A and B")
    (joined And (opposite_of 1 (var (codes "A") (col 5))) (variable (codes "B") 11) [])
    × ExpressionIs (codes "(A or B) and C")
    (joined And (truth (group (col 1) (joined Or (variable (codes "A") 2) (variable (codes "B") 7) []))) (variable (codes "C") 14) [])
    × ExpressionIs (codes "X = 1 and then Y / X > 2")
    (joined AndThen (comparing Equal (var (codes "X") (col 1)) (num 1 (col 5))) (related Greater (divided (var (codes "Y") (col 16)) (var (codes "X") (col 20))) (operand (num 2 (col 24)))) [])

abbrev pub TreesOfTexts : Type 0
TreesOfTexts = Programs × Clauses × Declarations × Sequences × ControlFlow × Primaries × Operators × Comparisons × Logic

-- programs that go wrong; the number of tokens stands for their end
abbrev pub WrongPrograms : Type 0
WrongPrograms =
    ProgramStops (codes "") 0
    × ProgramStops (codes "-- nothing\n") 0
    × ProgramStops (codes "begin null; end;") 0
    × ProgramStops (codes "procedure") 1
    × ProgramStops (codes "procedure null is begin null; end;") 1
    × ProgramStops (codes "procedure P") 2
    × ProgramStops (codes "procedure P (X : Integer) is begin null; end;") 2
    × ProgramStops (codes "procedure P is") 3
    × ProgramStops (codes "procedure P is begin") 4
    × ProgramStops (codes "procedure P is begin null;") 6
    × ProgramStops (codes "procedure P is begin null; end") 7
    × ProgramStops (codes "procedure P is begin null; end P") 8
    × ProgramStops (codes "procedure P is begin null; end P.Q;") 8
    × ProgramStops (codes "procedure P is begin null; end; null;") 8

abbrev pub WrongClauses : Type 0
WrongClauses =
    ProgramStops (codes "with") 1
    × ProgramStops (codes "with X;") 1
    × ProgramStops (codes "with Ada;") 2
    × ProgramStops (codes "with Ada.Calendar;") 3
    × ProgramStops (codes "with Ada.Text_IO, Ada.Text_IO;") 4
    × ProgramStops (codes "with Ada.Text_IO.Editing;") 4
    × ProgramStops (codes "with use Ada.Text_IO;") 1
    × ProgramStops (codes "use Ada.Text_IO;") 5
    × ProgramStops (codes "procedure P is begin null; end; use Ada.Text_IO;") 8

abbrev pub WrongDeclarations : Type 0
WrongDeclarations =
    DeclarationsStop (codes "null;") 0
    × DeclarationsStop (codes "X") 1
    × DeclarationsStop (codes "X Y : T;") 1
    × DeclarationsStop (codes "X, : T;") 2
    × DeclarationsStop (codes "X : constant T;") 4
    × DeclarationsStop (codes "X : constant := 1;") 3
    × DeclarationsStop (codes "constant X : T := 1;") 0
    × DeclarationsStop (codes "X : T constant := 1;") 3
    × DeclarationsStop (codes "X : T") 3
    × DeclarationsStop (codes "X : T = 1;") 3
    × DeclarationsStop (codes "X : T :=;") 4
    × DeclarationsStop (codes "X : T := 1, Y : T;") 5
    × DeclarationsStop (codes "X : T; null;") 4

abbrev pub WrongStatements : Type 0
WrongStatements =
    StatementsStop (codes "") 0
    × StatementsStop (codes ";") 0
    × StatementsStop (codes "if") 1
    × StatementsStop (codes "null") 1
    × StatementsStop (codes "X = 1;") 1
    × StatementsStop (codes "X := 1") 3
    × StatementsStop (codes "X := ;") 2
    × StatementsStop (codes "Put_Line ();") 2
    × StatementsStop (codes "Put_Line (\"a\", );") 4
    × StatementsStop (codes "Put_Line (\"a\" \"b\");") 3
    × StatementsStop (codes "A (1) (2) := 3;") 4
    × StatementsStop (codes "A. := 1;") 2
    × StatementsStop (codes "A.B") 3
    × StatementsStop (codes "1 := 2;") 0
    × StatementsStop (codes "Put_Line (\"a\") & \"b\";") 4
    × StatementsStop (codes "null; X : T;") 4

abbrev pub WrongControlFlow : Type 0
WrongControlFlow =
    StatementsStop (codes "if A") 2
    × StatementsStop (codes "if A then") 3
    × StatementsStop (codes "if A null;") 2
    × StatementsStop (codes "if A then end if;") 3
    × StatementsStop (codes "if A then null; end;") 6
    × StatementsStop (codes "if A and then then") 4
    × StatementsStop (codes "if A then null; else end if;") 6
    × StatementsStop (codes "if A then null; else null; elsif B then null; end if;") 8
    × StatementsStop (codes "else null;") 0
    × StatementsStop (codes "elsif A then null;") 0
    × StatementsStop (codes "while A null;") 2
    × StatementsStop (codes "while loop null; end loop;") 1
    × StatementsStop (codes "loop end loop;") 1
    × StatementsStop (codes "loop null; end;") 4
    × StatementsStop (codes "loop null; end loop 1;") 5
    × StatementsStop (codes "L : null;") 2
    × StatementsStop (codes "L : M : loop null; end loop;") 2
    × StatementsStop (codes "L.M : loop null; end loop;") 3
    × StatementsStop (codes "exit 1;") 1
    × StatementsStop (codes "exit L M;") 2
    × StatementsStop (codes "exit when;") 2
    × StatementsStop (codes "exit when A L;") 3

abbrev pub WrongExpressions : Type 0
WrongExpressions =
    ExpressionStops (codes "1.5") 0
    × ExpressionStops (codes "1 2") 1
    × ExpressionStops (codes "1 +") 2
    × ExpressionStops (codes "1 + -1") 2
    × ExpressionStops (codes "2 * -1") 2
    × ExpressionStops (codes "- -1") 1
    × ExpressionStops (codes "abs -1") 1
    × ExpressionStops (codes "abs abs X") 1
    × ExpressionStops (codes "not") 1
    × ExpressionStops (codes "2 ** 3") 1
    × ExpressionStops (codes "= 1") 0
    × ExpressionStops (codes "1 <") 2
    × ExpressionStops (codes "1 = = 2") 2
    × ExpressionStops (codes "1 = 2 = 3") 3
    × ExpressionStops (codes "1 < 2 and 3 < 4 < 5") 7
    × ExpressionStops (codes "not A = not") 4
    × ExpressionStops (codes "A.") 2
    × ExpressionStops (codes "A.1") 2
    × ExpressionStops (codes "A ()") 2
    × ExpressionStops (codes "A (1,)") 4
    × ExpressionStops (codes "A (1 2)") 3
    × ExpressionStops (codes "A (1) (2)") 4
    × ExpressionStops (codes "A'B.C") 3
    × ExpressionStops (codes "1'Image") 1
    × ExpressionStops (codes "X'") 2
    × ExpressionStops (codes "X'Image'Image") 3
    × ExpressionStops (codes "X'Image ()") 4
    × ExpressionStops (codes "()") 1
    × ExpressionStops (codes "(1") 2
    × ExpressionStops (codes "1)") 1

-- logical operators that are mixed, and others that go wrong
abbrev pub WrongLogic : Type 0
WrongLogic =
    ExpressionStops (codes "and A") 0
    × ExpressionStops (codes "A and") 2
    × ExpressionStops (codes "A and then") 3
    × ExpressionStops (codes "A or else") 3
    × ExpressionStops (codes "A xor") 2
    × ExpressionStops (codes "A and B and") 4
    × ExpressionStops (codes "A and or B") 2
    × ExpressionStops (codes "A and else B") 2
    × ExpressionStops (codes "A or then B") 2
    × ExpressionStops (codes "A xor else B") 2
    × ExpressionStops (codes "A then B") 1
    × ExpressionStops (codes "A and B or C") 3
    × ExpressionStops (codes "A or B xor C") 3
    × ExpressionStops (codes "A xor B and C") 3
    × ExpressionStops (codes "A and B and then C") 4
    × ExpressionStops (codes "A and then B and C") 5
    × ExpressionStops (codes "A and then B or else C") 4
    × ExpressionStops (codes "A or B or else C") 4
    × ExpressionStops (codes "A or else B or C") 5

abbrev pub FaultsOfTexts : Type 0
FaultsOfTexts = WrongPrograms × WrongClauses × WrongDeclarations × WrongStatements × WrongControlFlow × WrongExpressions × WrongLogic

-- the same with limit levels, fewer than in the language
abbrev pub IsReadWithin : ℕ → List ℕ → Result Unit Fault → Type 0
IsReadWithin limit source what = read_by (parsed_as the_unit g.Unit limit) (lexed source) ≡ Some what

-- a program with two levels open at a time, and no more

abbrev pub closed_declaration : Declaration
closed_declaration = object (id (codes "X") (at 1 16)) [] (id (codes "T") (at 1 20)) (an_expression (only (group (at 1 25) (only (num 1 (at 1 26))))))

abbrev pub closed_calls : m.Statements
closed_calls = statements (called (id (codes "P") (at 1 36)) (only (num 2 (at 1 39)))) (called (id (codes "P") (at 1 43)) (only (num 3 (at 1 46))) ∷ [])

-- declarations, statements and parentheses open a level each, and close it; and the first fault counts
abbrev pub FewLevels : Type 0
FewLevels =
    IsReadWithin 0 (with_declarations (codes "X : T;")) (Err (deep_at 3))
    × IsReadWithin 0 (with_statements (codes "null;")) (Err (deep_at 4))
    × IsReadWithin 0 (codes "procedure P is begin") (Err (wrong_at 4))
    × IsReadWithin 1 (with_declarations (codes "X : T := (1);")) (Err (deep_at (3 + 4)))
    × IsReadWithin 1 (with_statements (codes "X := (1);")) (Err (deep_at (4 + 2)))
    × IsReadWithin 1 (with_statements (codes "Put_Line (1);")) (Err (deep_at (4 + 1)))
    × IsReadWithin 1 (with_statements (codes "X := Y'Image (1);")) (Err (deep_at (4 + 5)))
    × IsReadWithin 1 (with_statements (codes "X := Y (1);")) (Err (deep_at (4 + 3)))
    × IsReadWithin 1 (with_statements (codes "X.Y (1) := 2;")) (Err (deep_at (4 + 3)))
    × IsReadWithin 2 (with_statements (codes "X (1).Y (2, Z (3)) := 4;")) (Err (deep_at (4 + 10)))
    × IsReadWithin 2 (with_statements (codes "X := (1) + (2 + (3));")) (Err (deep_at (4 + 9)))
    × IsReadWithin 1 (with_statements (codes "X := A < (1) and B;")) (Err (deep_at (4 + 4)))
    × IsReadWithin 1 (with_statements (codes "X := A and (B);")) (Err (deep_at (4 + 4)))
    × IsReadWithin 1 (with_statements (codes "if A then null; end if;")) (Err (deep_at (4 + 3)))
    × IsReadWithin 1 (with_statements (codes "if (A) then null; end if;")) (Err (deep_at (4 + 1)))
    × IsReadWithin 2 (with_statements (codes "if A then null; elsif B then loop null; end loop; end if;")) (Err (deep_at (4 + 9)))
    × IsReadWithin 2 (with_statements (codes "if A then null; else loop null; end loop; end if;")) (Err (deep_at (4 + 7)))
    × IsReadWithin 2 (with_statements (codes "L : while A loop exit when (B); end loop;")) (Err (deep_at (4 + 7)))
    × IsReadWithin 1 (with_statements (codes "loop end loop;")) (Err (wrong_at (4 + 1)))
    × IsReadWithin 2 (with_statements (codes "if A then null; else null; end if; loop exit; end loop; null")) (Err (wrong_at (4 + 18)))
    × IsReadWithin 1 (with_statements (codes "X := );")) (Err (wrong_at (4 + 2)))
    × IsReadWithin 1 (with_statements (codes "X := 1 2 (3);")) (Err (wrong_at (4 + 3)))
    × IsReadWithin 1 (with_statements (codes "X := (1 2);")) (Err (deep_at (4 + 2)))
    × IsReadWithin 2 (codes "procedure P is X : T := (1); begin P (2); P (3); end;")
    (Ok (program (closed_declaration ∷ []) (body (at 1 30) closed_calls (at 1 50) None (at 1 53))))

-- an expression in this number of parentheses, of which the first opens at column n of the second line
abbrev pub nested : ℕ → ℕ → Expression
nested zero n = only (num 1 (col n))
nested (suc deep) n = only (group (col n) (nested deep (n + 1)))

abbrev pub in_parentheses : ℕ → List ℕ
in_parentheses deep = replicate deep 40 ++ codes "1" ++ replicate deep 41

-- this number of loops in one another, and their trees, of which the first begins at column n and ends at column e

abbrev pub repeated : ℕ → List ℕ → List ℕ
repeated zero text = []
repeated (suc n) text = text ++ repeated n text

abbrev pub in_loops : ℕ → List ℕ
in_loops deep = repeated deep (codes "loop ") ++ codes "null;" ++ repeated deep (codes "end loop;")

abbrev pub looped : ℕ → ℕ → ℕ → Statement
looped zero n e = null (col n)
looped (suc deep) n e = loop None (col n) forever (alone_statement (looped deep (n + 5) (e - 9))) None (col e)

-- the statements are one of the 200 levels
abbrev pub AllLevels : Type 0
AllLevels =
    ExpressionIs (in_parentheses 199) (nested 199 1)
    × IsRead (with_expression (in_parentheses 200)) (Err (deep_at (6 + 199)))
    × StatementsAre (in_loops 199) (looped 199 1 (14 * 199 + 5)) []
    × IsRead (with_statements (in_loops 200)) (Err (deep_at (4 + 200)))

abbrev pub LevelsOfTexts : Type 0
LevelsOfTexts = FewLevels × AllLevels

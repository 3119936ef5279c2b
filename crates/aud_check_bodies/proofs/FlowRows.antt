-- If statements, loops and exits in small, and what is said of them.
use Rattle.std.specs.Prelude.{true, false, List, ℕ, [], ◌∷◌, codes, Option, Some, None}
use Rattle.std.proofs.Common.{◌≡◌, refl}
use Rattle.aud_text.specs.declared.place.Pos.{Pos}
use Rattle.aud_text.specs.declared.refusal.Refusal.{Refusal}
use Rattle.aud_text.specs.declared.refusal.Refusal.TheVariants.{WrongType, WrongNameAtEnd, ExitWithoutLoop}
use Rattle.aud_syntax.specs.declared.tree.Ident.{Ident}
use Rattle.aud_syntax.specs.Plain.{Expression, no_expression, an_expression, Statement, null, if_then, loop, exit, no_arms, more_arms, forever, while, Statements}
use Rattle.aud_syntax.specs.Why.Shorthand.{at, id, var, num, only, more, statements}
use Rattle.aud_typed.specs.Tree as tree
use Rattle.aud_fault.specs.declared.fault.Fault.{Fault}
use Rattle.aud_names.specs.Names.{Place, main_place}
use Rattle.aud_check_bodies.specs.Statements.{nothing_around, checked_statement}
use Rattle.aud_check_bodies.specs.Tables.{no_tables}

abbrev place : Place
place = main_place (codes "P")

abbrev faults_of : Statement → List Fault
faults_of s = (checked_statement s nothing_around place no_tables).faults

abbrev typed_of : Statement → tree.Statement
typed_of s = (checked_statement s nothing_around place no_tables).made

abbrev fault : Pos → Refusal → Fault
fault p refusal = record { at = p; refusal = refusal }

abbrev nothing : Pos → Statements
nothing p = statements (null p) []

abbrev true_at : Pos → Expression
true_at p = only (var (codes "TRUE") p)

abbrev false_at : Pos → Expression
false_at p = only (var (codes "FALSE") p)

abbrev one_at : Pos → Expression
one_at p = only (num 1 p)

-- the loop A or B, whose name stands at the column
abbrev a : ℕ → Option Ident
a column = Some (id (codes "A") (at 1 column))

abbrev b : ℕ → Option Ident
b column = Some (id (codes "B") (at 1 column))

-- loop .. end loop; with or without its name
abbrev named_loop : Option Ident → Statements → Option Ident → Statement
named_loop label ss last = loop label (at 1 5) forever ss last (at 9 9)

-- if True then null; elsif False then null; else null; null; end if;
if_row : typed_of (if_then (at 1 1) (true_at (at 1 4)) (nothing (at 2 1)) (more_arms (at 3 1) (false_at (at 3 7)) (nothing (at 4 1)) no_arms) (more (null (at 5 6) ∷ null (at 6 1) ∷ []))) ≡ tree.if_then (at 1 1) (tree.truth true) (tree.null (at 2 1)) (tree.some (tree.if_then (at 3 1) (tree.truth false) (tree.null (at 4 1)) (tree.some (tree.sequence (tree.null (at 5 6)) (tree.null (at 6 1))))))
if_row = refl

-- if 1 then null; elsif 1 then exit; else exit; end if;
conditions_row : faults_of (if_then (at 1 1) (one_at (at 1 4)) (nothing (at 2 1)) (more_arms (at 3 1) (one_at (at 3 7)) (statements (exit (at 4 1) None no_expression) []) no_arms) (more (exit (at 5 6) None no_expression ∷ []))) ≡ fault (at 1 4) WrongType ∷ fault (at 3 7) WrongType ∷ fault (at 4 1) ExitWithoutLoop ∷ fault (at 5 6) ExitWithoutLoop ∷ []
conditions_row = refl

-- while 1 loop exit when 1; end loop;
while_row : faults_of (loop None (at 1 1) (while (one_at (at 1 7))) (statements (exit (at 2 1) None (an_expression (one_at (at 2 11)))) []) None (at 3 9)) ≡ fault (at 1 7) WrongType ∷ fault (at 2 11) WrongType ∷ []
while_row = refl

-- A : loop B : while True loop exit A when False; exit; end loop B; end loop A;
exits_row : typed_of (named_loop (a 1) (statements (loop (b 10) (at 1 14) (while (true_at (at 1 20))) (statements (exit (at 2 1) (a 6) (an_expression (false_at (at 2 13)))) (exit (at 3 1) None no_expression ∷ [])) (b 40) (at 4 9)) []) (a 50)) ≡ tree.plain_loop (tree.while_loop (at 1 10) (tree.truth true) (tree.sequence (tree.exit (at 2 1) 1 (tree.truth false)) (tree.exit (at 3 1) 0 (tree.truth true))))
exits_row = refl

-- A : loop A : loop exit A; end loop A; end loop A;
hidden_label_row : typed_of (named_loop (a 1) (statements (named_loop (a 10) (statements (exit (at 2 1) (a 6) no_expression) []) (a 30)) []) (a 40)) ≡ tree.plain_loop (tree.plain_loop (tree.exit (at 2 1) 0 (tree.truth true)))
hidden_label_row = refl

-- behind its loop a label is not seen
left_label_row : faults_of (named_loop None (statements (named_loop (a 10) (nothing (at 2 1)) (a 30)) (exit (at 3 1) (a 6) no_expression ∷ [])) None) ≡ fault (at 3 1) ExitWithoutLoop ∷ []
left_label_row = refl

-- exit;   A : loop exit B; end loop A;
exit_row : faults_of (exit (at 1 1) None no_expression) ≡ fault (at 1 1) ExitWithoutLoop ∷ []
exit_row = refl

other_label_row : faults_of (named_loop (a 1) (statements (exit (at 2 1) (b 6) no_expression) []) (a 30)) ≡ fault (at 2 1) ExitWithoutLoop ∷ []
other_label_row = refl

-- A : loop null; end loop;   loop null; end loop A;   A : loop null; end loop B;
missing_row : faults_of (named_loop (a 1) (nothing (at 2 1)) None) ≡ fault (at 9 9) WrongNameAtEnd ∷ []
missing_row = refl

needless_row : faults_of (named_loop None (nothing (at 2 1)) (a 30)) ≡ fault (at 1 30) WrongNameAtEnd ∷ []
needless_row = refl

wrong_row : faults_of (named_loop (a 1) (nothing (at 2 1)) (b 30)) ≡ fault (at 1 30) WrongNameAtEnd ∷ []
wrong_row = refl

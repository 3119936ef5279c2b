-- Small programs, and what is said of them.
use Rattle.std.specs.Prelude.{ℕ, pos, true, false, List, [], ◌∷◌, map, codes, Option, Some, None}
use Rattle.std.proofs.Common.{◌≡◌, refl}
use Rattle.aud_text.specs.declared.place.Pos.{Pos}
use Rattle.aud_text.specs.declared.refusal.Refusal.{Refusal}
use Rattle.aud_text.specs.declared.refusal.Refusal.TheVariants.{NameNotDeclared, DeclaredTwice, WrongKindOfName, WrongType, WrongNumberOfArguments, NotAVariable, WrongNameAtEnd, NumberTooLarge}
use Rattle.aud_syntax.specs.declared.tree.Ident.{Ident}
use Rattle.aud_syntax.specs.declared.tree.Adding.TheVariants.{Plus, Minus, Join}
use Rattle.aud_syntax.specs.declared.tree.Signed.{Signed}
use Rattle.aud_syntax.specs.declared.tree.Sign.TheVariants as sign
use Rattle.aud_syntax.specs.declared.tree.Highest.TheVariants.{Not}
use Rattle.aud_syntax.specs.declared.tree.Multiplying.TheVariants.{Times}
use Rattle.aud_syntax.specs.declared.tree.Relational.TheVariants.{Less}
use Rattle.aud_syntax.specs.declared.tree.Connective.TheVariants.{And, AndThen}
use Rattle.aud_syntax.specs.Plain.{Expression, alone, connected, no_relations, more_relations, Relation, unrelated, related, Simple, simple, Primary, Addeds, no_addeds, more_addeds, added, Term, term, no_multiplieds, more_multiplieds, multiplied, factor, integer, name, attribute, group, no_expression, an_expression, named, no_parts, part, no_args, Declaration, object, no_declarations, Statement, null, assign, call, body, no_handlers, Unit, unit}
use Rattle.aud_syntax.specs.Why.Shorthand.{at, id, only, var_at, called, num, str, statements, declarations}
use Rattle.aud_typed.specs.declared.program.Variable.{Variable}
use Rattle.aud_typed.specs.declared.program.Unary.TheVariants.{Negative}
use Rattle.aud_typed.specs.declared.program.Binary.TheVariants.{Sum, Difference}
use Rattle.aud_typed.specs.declared.program.Subtype.TheVariants.{Integer}
use Rattle.aud_typed.specs.declared.program.Relation.TheVariants as relation
use Rattle.aud_typed.specs.Tree as tree
use Rattle.aud_fault.specs.declared.fault.Fault.{Fault}
use Rattle.aud_check_bodies.specs.Programs.{faults, typed}

abbrev fault : Pos → Refusal → Fault
fault place refusal = record { at = place; refusal = refusal }

-- the faults of a program, and what is left of it
abbrev found : Unit → List Fault × tree.Program
found u = (faults u, typed u)

abbrev sum : Option Signed → Term → Addeds → Expression
sum s t rest = alone (unrelated (simple s t rest))

-- procedure P is .. begin .. end P;
abbrev main : List Declaration → Statement → List Statement → Unit
main ds s ss = unit [] (at 1 1) (id (codes "P") (at 1 11)) (declarations ds) (body (at 5 1) (statements s ss) no_handlers (at 9 1) (Some (id (codes "P") (at 9 5))) (at 9 6))

abbrev integer_type : Pos → Ident
integer_type place = id (codes "INTEGER") place

-- A, B : Integer := 7;
abbrev two : Declaration
two = object (id (codes "A") (at 2 1)) (id (codes "B") (at 2 4) ∷ []) (integer_type (at 2 8)) (an_expression (only (num 7 (at 2 19))))

abbrev cell : ℕ → Variable
cell n = record { level = 0; index = n }

abbrev variable : ℕ → tree.IntegerExpression
variable n = tree.variable (cell n)

abbrev whole : tree.IntegerExpression → tree.ValueExpression
whole e = tree.whole Integer e

-- B := ..
abbrev assign_b : tree.IntegerExpression → tree.Statement
assign_b e = tree.assign (at 6 1) (tree.scalar (cell 1) Integer) (whole e)

-- a procedure that is its body alone: the names of its variables, its declarations and its statements
abbrev program : List (List ℕ) → tree.Part → tree.Statement → tree.Program
program names declared s = record {
  name = codes "P";
  plan = record {
    units = record { level = 0; region = 0; is_function = false; at = at 1 1; end = at 9 1 } ∷ [];
    tasks = [];
    entries = [];
    objects = [];
    regions = map (λ n. record { name = n; shown = tree.as_whole }) names ∷ [];
    exceptions = [];
  };
  bodies = tree.body declared (at 5 1) s tree.no_handlers (at 9 1) ∷ [];
  barriers = [];
}

-- of A and B, with these statements
abbrev program_of_two : tree.Statement → tree.Program
program_of_two s = program (codes "A" ∷ codes "B" ∷ []) (tree.some (tree.declare (at 2 1) 2 (whole (tree.number (pos 7))))) s

fine_row : found (main (two ∷ []) (assign (var_at (codes "B") (at 6 1)) (sum (Some (record { sign = sign.Minus; at = at 6 6 })) (term (factor None (name (var_at (codes "A") (at 6 7)))) no_multiplieds) (more_addeds (added Plus (term (factor None (num 2 (at 6 11))) no_multiplieds)) no_addeds))) (called (id (codes "PUT_LINE") (at 7 1)) (only (attribute (var_at (codes "B") (at 7 11)) (id (codes "IMAGE") (at 7 13)) no_expression)) ∷ [])) ≡ ([], program_of_two (tree.sequence (assign_b (tree.binary Sum (tree.unary Negative (variable 0)) (tree.number (pos 2)))) (tree.put (at 7 1) (tree.join (tree.image (variable 1)) tree.new_line))))
fine_row = refl

-- operators of one level go from left to right (RM 4.5(8))
abbrev three : Expression
three = sum None (term (factor None (num 9 (at 6 6))) no_multiplieds) (more_addeds (added Minus (term (factor None (num 3 (at 6 10))) no_multiplieds)) (more_addeds (added Minus (term (factor None (num 2 (at 6 14))) no_multiplieds)) no_addeds))

abbrev left_first : tree.IntegerExpression
left_first = tree.binary Difference (tree.binary Difference (tree.number (pos 9)) (tree.number (pos 3))) (tree.number (pos 2))

chain_row : found (main (two ∷ []) (assign (var_at (codes "B") (at 6 1)) three) []) ≡ ([], program_of_two (assign_b left_first))
chain_row = refl

-- no declarations
null_row : found (main [] (null (at 6 1)) []) ≡ ([], program [] tree.nothing (tree.null (at 6 1)))
null_row = refl

-- a name that is not declared, and a variable in its own initial value
undeclared_row : faults (main [] (assign (var_at (codes "C") (at 6 1)) (only (num 1 (at 6 6)))) []) ≡ fault (at 6 1) NameNotDeclared ∷ []
undeclared_row = refl

own_value_row : faults (main (object (id (codes "A") (at 2 1)) [] (integer_type (at 2 5)) (an_expression (only (name (var_at (codes "A") (at 2 16))))) ∷ []) (null (at 6 1)) []) ≡ fault (at 2 16) NameNotDeclared ∷ []
own_value_row = refl

own_type_row : faults (main (object (id (codes "INTEGER") (at 2 1)) [] (integer_type (at 2 11)) no_expression ∷ []) (null (at 6 1)) []) ≡ fault (at 2 11) NameNotDeclared ∷ []
own_type_row = refl

twice_row : faults (main (two ∷ object (id (codes "C") (at 3 1)) (id (codes "A") (at 3 4) ∷ []) (integer_type (at 3 8)) no_expression ∷ []) (null (at 6 1)) []) ≡ fault (at 3 4) DeclaredTwice ∷ []
twice_row = refl

-- the main procedure is no type, and causes no second fault
kind_row : faults (main (object (id (codes "C") (at 3 1)) [] (id (codes "P") (at 3 5)) no_expression ∷ []) (assign (var_at (codes "C") (at 6 1)) (only (str (codes "x") (at 6 6)))) []) ≡ fault (at 3 5) WrongKindOfName ∷ []
kind_row = refl

attribute_row : faults (main (two ∷ []) (called (id (codes "PUT_LINE") (at 7 1)) (only (attribute (var_at (codes "B") (at 7 11)) (id (codes "FIRST") (at 7 13)) no_expression))) []) ≡ fault (at 7 11) WrongKindOfName ∷ []
attribute_row = refl

-- (1 + 2) * 3 & "x": the left operand begins at its first token
left_row : faults (main [] (called (id (codes "PUT_LINE") (at 7 1)) (sum None (term (factor None (group (at 7 11) (only (num 1 (at 7 12))))) (more_multiplieds (multiplied Times (factor None (num 3 (at 7 17)))) no_multiplieds)) (more_addeds (added Join (term (factor None (str (codes "x") (at 7 21))) no_multiplieds)) no_addeds))) []) ≡ fault (at 7 11) WrongType ∷ []
left_row = refl

right_row : faults (main (two ∷ []) (assign (var_at (codes "A") (at 7 1)) (sum None (term (factor None (num 1 (at 7 6))) no_multiplieds) (more_addeds (added Minus (term (factor None (str (codes "x") (at 7 10))) no_multiplieds)) no_addeds))) []) ≡ fault (at 7 10) WrongType ∷ []
right_row = refl

not_row : faults (main (two ∷ []) (assign (var_at (codes "A") (at 7 1)) (sum None (term (factor (Some (record { highest = Not; at = at 7 6 })) (name (var_at (codes "A") (at 7 10)))) no_multiplieds) no_addeds)) []) ≡ fault (at 7 10) WrongType ∷ []
not_row = refl

-- what is compared

abbrev operand : Primary → Simple
operand p = simple None (term (factor None p) no_multiplieds) no_addeds

abbrev less : Primary → Primary → Relation
less p q = related Less (operand p) (operand q)

abbrev named_at : List ℕ → ℕ → Primary
named_at spelling col = name (var_at spelling (at 7 col))

-- Put_Line (Boolean'Image (..));
abbrev put_truth : Expression → Statement
put_truth e = called (id (codes "PUT_LINE") (at 7 1)) (only (attribute (var_at (codes "BOOLEAN") (at 7 11)) (id (codes "IMAGE") (at 7 19)) (an_expression e)))

abbrev truth_put : tree.BooleanExpression → tree.Statement
truth_put x = tree.put (at 7 1) (tree.join (tree.image_truth x) tree.new_line)

less_row : found (main (two ∷ []) (put_truth (alone (less (named_at (codes "A") 26) (named_at (codes "B") 30)))) []) ≡ ([], program_of_two (truth_put (tree.relation relation.Less (variable 0) (variable 1))))
less_row = refl

-- False before True, compared with what is compared
truth_row : found (main (two ∷ []) (put_truth (alone (less (named_at (codes "TRUE") 26) (group (at 7 33) (alone (less (named_at (codes "A") 34) (named_at (codes "B") 38))))))) []) ≡ ([], program_of_two (truth_put (tree.comparison relation.Less (tree.truth true) (tree.relation relation.Less (variable 0) (variable 1)))))
truth_row = refl

-- operators of one chain go from left to right (RM 4.5(8))
connected_row : found (main (two ∷ []) (put_truth (connected AndThen (less (named_at (codes "A") 26) (named_at (codes "B") 30)) (unrelated (operand (named_at (codes "FALSE") 41))) (more_relations (unrelated (simple None (term (factor (Some (record { highest = Not; at = at 7 56 })) (named_at (codes "TRUE") 60)) no_multiplieds) no_addeds)) no_relations))) []) ≡ ([], program_of_two (truth_put (tree.and_then (tree.and_then (tree.relation relation.Less (variable 0) (variable 1)) (tree.truth false)) (tree.negation (tree.truth true)))))
connected_row = refl

-- the right operand has the type of the left one, which is no text
less_right_row : faults (main (two ∷ []) (put_truth (alone (less (named_at (codes "A") 26) (named_at (codes "TRUE") 30)))) []) ≡ fault (at 7 30) WrongType ∷ []
less_right_row = refl

less_text_row : faults (main (two ∷ []) (put_truth (alone (less (str (codes "x") (at 7 26)) (named_at (codes "TRUE") 32)))) []) ≡ fault (at 7 26) WrongType ∷ []
less_text_row = refl

-- a faulty operand causes no second fault
less_unknown_row : faults (main (two ∷ []) (put_truth (connected And (less (named_at (codes "C") 26) (named_at (codes "TRUE") 30)) (unrelated (operand (named_at (codes "TRUE") 39))) no_relations)) []) ≡ fault (at 7 26) NameNotDeclared ∷ []
less_unknown_row = refl

-- both operands of an operator
and_row : faults (main (two ∷ []) (put_truth (connected And (unrelated (operand (named_at (codes "A") 26))) (unrelated (operand (named_at (codes "B") 32))) no_relations)) []) ≡ fault (at 7 26) WrongType ∷ fault (at 7 32) WrongType ∷ []
and_row = refl

-- A is an Integer
truth_assigned_row : faults (main (two ∷ []) (assign (var_at (codes "A") (at 7 1)) (alone (less (named_at (codes "A") 6) (named_at (codes "B") 10)))) []) ≡ fault (at 7 6) WrongType ∷ []
truth_assigned_row = refl

constant_row : faults (main (two ∷ []) (assign (var_at (codes "TRUE") (at 7 1)) (alone (less (named_at (codes "A") 9) (named_at (codes "B") 13)))) []) ≡ fault (at 7 1) NotAVariable ∷ []
constant_row = refl

put_row : faults (main (two ∷ []) (called (id (codes "PUT_LINE") (at 7 1)) (only (name (var_at (codes "A") (at 7 11))))) []) ≡ fault (at 7 11) WrongType ∷ []
put_row = refl

arguments_row : faults (main (two ∷ []) (called (id (codes "PUT_LINE") (at 7 1)) (only (attribute (named (part (integer_type (at 7 11)) no_args) no_parts) (id (codes "IMAGE") (at 7 19)) no_expression))) []) ≡ fault (at 7 19) WrongNumberOfArguments ∷ []
arguments_row = refl

itself_row : faults (main (two ∷ []) (called (id (codes "P") (at 7 1)) (only (num 1 (at 7 4)))) []) ≡ fault (at 7 1) WrongNumberOfArguments ∷ []
itself_row = refl

-- Put_Line has one argument
alone_row : faults (main [] (call (var_at (codes "PUT_LINE") (at 7 1))) []) ≡ fault (at 7 1) WrongNumberOfArguments ∷ []
alone_row = refl

end_row : faults (unit [] (at 1 1) (id (codes "P") (at 1 11)) no_declarations (body (at 2 1) (statements (null (at 3 1)) []) no_handlers (at 4 1) (Some (id (codes "Q") (at 4 5))) (at 4 6))) ≡ fault (at 4 5) WrongNameAtEnd ∷ []
end_row = refl

large_row : faults (main [] (called (id (codes "PUT_LINE") (at 7 1)) (only (attribute (named (part (integer_type (at 7 11)) no_args) no_parts) (id (codes "IMAGE") (at 7 19)) (an_expression (only (integer (record { value = None; at = at 7 26 }))))))) []) ≡ fault (at 7 26) NumberTooLarge ∷ []
large_row = refl

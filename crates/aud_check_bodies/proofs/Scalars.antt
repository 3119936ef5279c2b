-- Small programs with variables and constants of each subtype, attributes, and names with parts and arguments.
use Rattle.std.specs.Prelude.{ℕ, pos, negsuc, false, List, [], ◌∷◌, codes, None}
use Rattle.std.proofs.Common.{◌≡◌, refl}
use Rattle.aud_text.specs.declared.place.Pos.{Pos}
use Rattle.aud_text.specs.declared.refusal.Refusal.{Refusal}
use Rattle.aud_text.specs.declared.refusal.Refusal.TheVariants.{NameNotDeclared, WrongKindOfName, WrongType, WrongNumberOfArguments, NotAVariable}
use Rattle.aud_syntax.specs.Plain.{Expression, Primary, name, attribute, MaybeExpression, no_expression, an_expression, Name, named, no_parts, more_parts, part, Args, no_args, more_args, Declaration, object, constant, Statement, null, assign, call, body, no_handlers, Unit, unit}
use Rattle.aud_syntax.specs.Why.Shorthand.{at, id, only, var_at, var, called, num, str, statements, declarations}
use Rattle.aud_typed.specs.declared.program.Variable.{Variable}
use Rattle.aud_typed.specs.declared.program.Subtype.TheVariants.{Integer, Natural, Positive, Boolean}
use Rattle.aud_typed.specs.Tree as tree
use Rattle.aud_fault.specs.declared.fault.Fault.{Fault}
use Rattle.aud_check_bodies.specs.Programs.{faults, typed}

abbrev fault : Pos → Refusal → Fault
fault place refusal = record { at = place; refusal = refusal }

-- the faults of a program, and what is left of it
abbrev found : Unit → List Fault × tree.Program
found u = (faults u, typed u)

-- procedure M is .. begin .. end;
abbrev main : List Declaration → Statement → Unit
main ds s = unit [] (at 1 1) (id (codes "M") (at 1 11)) (declarations ds) (body (at 6 1) (statements s []) no_handlers (at 9 1) None (at 9 4))

abbrev first_line : Statement
first_line = null (at 7 1)

-- N : Natural; P : Positive; B : Boolean; C : constant Integer := 3;
abbrev four : List Declaration
four =
    object (id (codes "N") (at 2 1)) [] (id (codes "NATURAL") (at 2 5)) no_expression ∷
    object (id (codes "P") (at 3 1)) [] (id (codes "POSITIVE") (at 3 5)) no_expression ∷
    object (id (codes "B") (at 4 1)) [] (id (codes "BOOLEAN") (at 4 5)) no_expression ∷
    constant (id (codes "C") (at 5 1)) [] (id (codes "INTEGER") (at 5 14)) (only (num 3 (at 5 25))) ∷ []

abbrev cell : ℕ → Variable
cell n = record { level = 0; index = n }

abbrev shown_as : List ℕ → tree.Shown → tree.Named
shown_as spelling shown = record { name = spelling; shown = shown }

abbrev program_of_four : tree.Statement → tree.Program
program_of_four s = tree.program_of_units (record {
  name = codes "M";
  units = (record {
    level = 0;
    region = 0;
    is_function = false;
    at = at 1 1;
    body = tree.body (tree.part_of (
        tree.declare (at 2 1) 1 (tree.whole Natural (tree.number (pos 0))) ∷
        tree.declare (at 3 1) 2 (tree.whole Positive (tree.number (pos 1))) ∷
        tree.declare (at 4 1) 3 (tree.boolean (tree.truth false)) ∷
        tree.declare (at 5 1) 4 (tree.whole Integer (tree.number (pos 3))) ∷ [])) (at 6 1) s tree.no_handlers (at 9 1);
  }) ∷ [];
  tasks = [];
  objects = [];
  entries = [];
  regions = (shown_as (codes "N") tree.as_whole ∷ shown_as (codes "P") tree.as_whole ∷ shown_as (codes "B") tree.as_truth ∷ shown_as (codes "C") tree.as_whole ∷ []) ∷ [];
  exceptions = [];
})

-- each subtype, and what a variable without an initial value starts with
subtypes_row : found (main four first_line) ≡ ([], program_of_four (tree.null (at 7 1)))
subtypes_row = refl

-- a value outside the target's range is no fault
range_row : found (main four (assign (var_at (codes "P") (at 7 1)) (only (var (codes "C") (at 7 6))))) ≡ ([], program_of_four (tree.assign (at 7 1) (tree.scalar (cell 1) Positive) (tree.whole Positive (tree.variable (cell 3)))))
range_row = refl

truth_row : found (main four (assign (var_at (codes "B") (at 7 1)) (only (var (codes "B") (at 7 6))))) ≡ ([], program_of_four (tree.assign (at 7 1) (tree.scalar (cell 2) Boolean) (tree.boolean (tree.stored (tree.scalar (cell 2) Boolean)))))
truth_row = refl

type_row : faults (main four (assign (var_at (codes "B") (at 7 1)) (only (num 1 (at 7 6))))) ≡ fault (at 7 6) WrongType ∷ []
type_row = refl

-- a constant, also one whose type is faulty
constant_row : faults (main four (assign (var_at (codes "C") (at 7 1)) (only (num 1 (at 7 6))))) ≡ fault (at 7 1) NotAVariable ∷ []
constant_row = refl

faulty_constant_row : faults (main (constant (id (codes "K") (at 2 1)) [] (id (codes "T") (at 2 14)) (only (num 3 (at 2 19))) ∷ []) (assign (var_at (codes "K") (at 7 1)) (only (str (codes "x") (at 7 6))))) ≡ fault (at 2 14) NameNotDeclared ∷ fault (at 7 1) NotAVariable ∷ []
faulty_constant_row = refl

-- attributes

abbrev put : Expression → Statement
put e = called (id (codes "PUT") (at 7 1)) e

abbrev attribute_at : List ℕ → List ℕ → MaybeExpression → Primary
attribute_at prefix designator argument = attribute (var_at prefix (at 7 6)) (id designator (at 7 16)) argument

-- Put (..'Image (..));
abbrev put_image : List ℕ → MaybeExpression → Statement
put_image prefix argument = put (only (attribute_at prefix (codes "IMAGE") argument))

image_row : found (main four (put_image (codes "POSITIVE") (an_expression (only (num 0 (at 7 23)))))) ≡ ([], program_of_four (tree.put (at 7 1) (tree.image (tree.number (pos 0)))))
image_row = refl

object_image_row : found (main four (put_image (codes "B") no_expression)) ≡ ([], program_of_four (tree.put (at 7 1) (tree.image_truth (tree.stored (tree.scalar (cell 2) Boolean)))))
object_image_row = refl

image_type_row : faults (main four (put_image (codes "BOOLEAN") (an_expression (only (num 0 (at 7 23)))))) ≡ fault (at 7 23) WrongType ∷ []
image_type_row = refl

abbrev first_of : List ℕ → MaybeExpression → Statement
first_of prefix argument = assign (var_at (codes "N") (at 7 1)) (only (attribute_at prefix (codes "FIRST") argument))

first_row : found (main four (first_of (codes "INTEGER") no_expression)) ≡ ([], program_of_four (tree.assign (at 7 1) (tree.scalar (cell 0) Natural) (tree.whole Natural (tree.number (negsuc 2147483647)))))
first_row = refl

first_argument_row : faults (main four (first_of (codes "NATURAL") (an_expression (only (num 0 (at 7 23)))))) ≡ fault (at 7 16) WrongNumberOfArguments ∷ []
first_argument_row = refl

first_boolean_row : faults (main four (first_of (codes "BOOLEAN") no_expression)) ≡ fault (at 7 6) WrongKindOfName ∷ []
first_boolean_row = refl

-- an attribute of something else, and what is no attribute
length_row : faults (main four (put (only (attribute_at (codes "N") (codes "LENGTH") no_expression)))) ≡ fault (at 7 6) WrongKindOfName ∷ []
length_row = refl

unknown_attribute_row : faults (main four (put (only (attribute_at (codes "N") (codes "SIZE") no_expression)))) ≡ fault (at 7 16) WrongKindOfName ∷ []
unknown_attribute_row = refl

-- names with parts and arguments

-- Ada.Text_IO..
abbrev library : List ℕ → Args → Name
library spelling xs = named (part (id (codes "ADA") (at 7 1)) no_args) (more_parts (part (id (codes "TEXT_IO") (at 7 5)) no_args) (more_parts (part (id spelling (at 7 13)) xs) no_parts))

library_row : found (main four (call (library (codes "PUT_LINE") (more_args (only (str (codes "x") (at 7 23))) no_args)))) ≡ ([], program_of_four (tree.put (at 7 1) (tree.join (tree.literal (codes "x")) tree.new_line)))
library_row = refl

new_line_row : found (main four (call (library (codes "NEW_LINE") no_args))) ≡ ([], program_of_four (tree.put (at 7 1) tree.new_line))
new_line_row = refl

not_in_library_row : faults (main four (call (library (codes "INTEGER") no_args))) ≡ fault (at 7 13) NameNotDeclared ∷ []
not_in_library_row = refl

-- a variable of the name Ada hides the library
own_ada_row : faults (main (object (id (codes "ADA") (at 2 1)) [] (id (codes "NATURAL") (at 2 5)) no_expression ∷ []) (call (library (codes "NEW_LINE") no_args))) ≡ fault (at 7 1) WrongKindOfName ∷ []
own_ada_row = refl

-- a call with too few arguments and one with too many stand at the procedure's name
few_row : faults (main four (call (library (codes "PUT") no_args))) ≡ fault (at 7 13) WrongNumberOfArguments ∷ []
few_row = refl

many_row : faults (main four (call (library (codes "NEW_LINE") (more_args (only (var (codes "X") (at 7 23))) no_args)))) ≡ fault (at 7 23) NameNotDeclared ∷ fault (at 7 13) WrongNumberOfArguments ∷ []
many_row = refl

-- a variable has no arguments; theirs are checked too
argument_row : faults (main four (assign (named (part (id (codes "N") (at 7 1)) (more_args (only (var (codes "X") (at 7 4))) no_args)) no_parts) (only (num 1 (at 7 9))))) ≡ fault (at 7 4) NameNotDeclared ∷ fault (at 7 1) WrongKindOfName ∷ []
argument_row = refl

-- nor anything behind a point
point_row : faults (main four (assign (var_at (codes "N") (at 7 1)) (only (name (named (part (id (codes "P") (at 7 6)) no_args) (more_parts (part (id (codes "X") (at 7 8)) no_args) no_parts)))))) ≡ fault (at 7 6) WrongKindOfName ∷ []
point_row = refl

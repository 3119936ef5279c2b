-- The canonical text of a syntax tree: its words in order, each with a blank or, at the end of a line, a line feed behind it.
use Rattle.std.specs.Prelude.{ℕ, ◌+◌, ◌/◌, ◌%◌, ℤ, List, [], ◌∷◌, ◌++◌, ◌==◌, Bool, true, false, if◌then◌else◌, Option, Some, None, codes, nat_abs}
use Rattle.std.specs.Fmt.{decimal}
use Rattle.aud_lex.specs.Why.Spaced.{Word, word, last_word, spaced}
use Rattle.aud_syntax.specs.declared.tree.Ident.{Ident}
use Rattle.aud_syntax.specs.declared.tree.Number.{Number}
use Rattle.aud_syntax.specs.declared.tree.Real.{Real}
use Rattle.aud_syntax.specs.declared.tree.Literal.{Literal}
use Rattle.aud_syntax.specs.declared.tree.Sign.{Sign}
use Rattle.aud_syntax.specs.declared.tree.Sign.TheVariants as sign
use Rattle.aud_syntax.specs.declared.tree.Signed.{Signed}
use Rattle.aud_syntax.specs.declared.tree.Adding.{Adding}
use Rattle.aud_syntax.specs.declared.tree.Adding.TheVariants as adding
use Rattle.aud_syntax.specs.declared.tree.Multiplying.{Multiplying}
use Rattle.aud_syntax.specs.declared.tree.Multiplying.TheVariants as multiplying
use Rattle.aud_syntax.specs.declared.tree.Highest.{Highest}
use Rattle.aud_syntax.specs.declared.tree.Highest.TheVariants as highest
use Rattle.aud_syntax.specs.declared.tree.Operator.{Operator}
use Rattle.aud_syntax.specs.declared.tree.Relational.{Relational}
use Rattle.aud_syntax.specs.declared.tree.Relational.TheVariants as relational
use Rattle.aud_syntax.specs.declared.tree.Connective.{Connective}
use Rattle.aud_syntax.specs.declared.tree.Connective.TheVariants as connective
use Rattle.aud_syntax.specs.declared.tree.Bound.{Bound}
use Rattle.aud_syntax.specs.declared.tree.Mode.{Mode}
use Rattle.aud_syntax.specs.declared.tree.Mode.TheVariants as mode
use Rattle.aud_syntax.specs.Plain.{Expression, alone, connected, Relations, no_relations, more_relations, Relation, unrelated, related, Simple, simple, Addeds, no_addeds, more_addeds, Added, added, Term, term, Multiplieds, no_multiplieds, more_multiplieds, Multiplied, multiplied, Factor, factor, Primary, integer, text, name, attribute, group, MaybeExpression, no_expression, an_expression, Name, named, Parts, no_parts, more_parts, NamePart, part, Args, no_args, more_args, Formal, formal, EntryDeclaration, TaskDefinition, Operation, entry_operation, procedure_operation, function_operation, PrivateItem, private_operation, components, Delay, delay_real, delay_duration, Names, no_names, more_names, Declaration, object, constant, array, exception, procedure, task, task_body, protected, protected_body, Declarations, no_declarations, more_declarations, Statement, null, assign, call, if_then, loop, exit, block, return, raise, accepting, delaying, select_accept, select_call, abort, requeue, Arms, no_arms, more_arms, Iteration, forever, while, for, Choices, exceptions, others, Statements, in_order, MoreStatements, no_statements, more_statements, Body, body, Handlers, no_handlers, more_handlers, OperationBody, entry_body, procedure_body, function_body, OperationBodies, no_bodies, more_bodies, Accept, accept, Doing, without_do, with_do, Alternative, accept_alternative, delay_alternative, terminate_alternative, Alternatives, no_alternatives, more_alternatives, Otherwise, or_delay, or_else, Context, with_text_io, use_text_io, Unit, unit}

-- a name as the tree has it, in capitals (RM 2.3)
abbrev pub ident_word : Ident → Word
ident_word x = word x.name

-- the digits of a number without its sign, or of the least number that is larger than any Integer (RM 2.4.1)
abbrev pub number_digits : Option ℤ → List ℕ
number_digits (Some value) = decimal (nat_abs value)
number_digits None = codes "2147483648"

abbrev pub number_word : Number → Word
number_word x = word (number_digits x.value)

-- the digits behind the point of a real number: three, or four where more than three were written (RM 2.4.1)
abbrev pub decimal_digits : Option ℕ → List ℕ
decimal_digits (Some n) = (48 + n / 100 % 10) ∷ (48 + n / 10 % 10) ∷ (48 + n % 10) ∷ []
decimal_digits None = codes "0000"

abbrev pub real_digits : Option ℤ → Option ℕ → List ℕ
real_digits whole thousandths = number_digits whole ++ (46 ∷ decimal_digits thousandths)

abbrev pub real_word : Real → Word
real_word x = word (real_digits x.whole x.thousandths)

-- a quote is written as two (RM 2.6(4))
abbrev pub doubled : List ℕ → List ℕ
doubled [] = []
doubled (byte ∷ bytes) = if byte == 34 then 34 ∷ 34 ∷ doubled bytes else byte ∷ doubled bytes

-- a string literal of these characters (RM 2.6)
abbrev pub quoted : List ℕ → List ℕ
quoted characters = 34 ∷ (doubled characters ++ (34 ∷ []))

abbrev pub literal_word : Literal → Word
literal_word x = word (quoted x.text)

-- RM 4.5
abbrev pub sign_spelling : Sign → List ℕ
sign_spelling sign.Plus = codes "+"
sign_spelling sign.Minus = codes "-"

abbrev pub sign_words : Option Signed → List Word
sign_words None = []
sign_words (Some x) = word (sign_spelling x.sign) ∷ []

abbrev pub adding_spelling : Adding → List ℕ
adding_spelling adding.Plus = codes "+"
adding_spelling adding.Minus = codes "-"
adding_spelling adding.Join = codes "&"

abbrev pub multiplying_spelling : Multiplying → List ℕ
multiplying_spelling multiplying.Times = codes "*"
multiplying_spelling multiplying.Divide = codes "/"
multiplying_spelling multiplying.Modulo = codes "mod"
multiplying_spelling multiplying.Remainder = codes "rem"

abbrev pub highest_spelling : Highest → List ℕ
highest_spelling highest.Magnitude = codes "abs"
highest_spelling highest.Not = codes "not"

abbrev pub operator_words : Option Operator → List Word
operator_words None = []
operator_words (Some x) = word (highest_spelling x.highest) ∷ []

abbrev pub relational_spelling : Relational → List ℕ
relational_spelling relational.Equal = codes "="
relational_spelling relational.Unequal = codes "/="
relational_spelling relational.Less = codes "<"
relational_spelling relational.AtMost = codes "<="
relational_spelling relational.Greater = codes ">"
relational_spelling relational.AtLeast = codes ">="

abbrev pub connective_words : Connective → List Word
connective_words connective.And = word (codes "and") ∷ []
connective_words connective.Or = word (codes "or") ∷ []
connective_words connective.Xor = word (codes "xor") ∷ []
connective_words connective.AndThen = word (codes "and") ∷ word (codes "then") ∷ []
connective_words connective.OrElse = word (codes "or") ∷ word (codes "else") ∷ []

abbrev pub in_parentheses : List Word → List Word
in_parentheses ws = word (codes "(") ∷ (ws ++ (word (codes ")") ∷ []))

-- RM 4.1, 4.4
abbrev mutual
  pub expression_words : Expression → List Word
  expression_words (alone x) = relation_words x
  expression_words (connected c x y xs) = relation_words x ++ (connective_words c ++ relation_words y) ++ relations_words c xs

  pub relations_words : Connective → Relations → List Word
  relations_words c no_relations = []
  relations_words c (more_relations x xs) = (connective_words c ++ relation_words x) ++ relations_words c xs

  pub relation_words : Relation → List Word
  relation_words (unrelated x) = simple_words x
  relation_words (related operator x y) = simple_words x ++ (word (relational_spelling operator) ∷ simple_words y)

  pub simple_words : Simple → List Word
  simple_words (simple s t rest) = sign_words s ++ term_words t ++ addeds_words rest

  pub addeds_words : Addeds → List Word
  addeds_words no_addeds = []
  addeds_words (more_addeds x xs) = added_words x ++ addeds_words xs

  pub added_words : Added → List Word
  added_words (added operator t) = word (adding_spelling operator) ∷ term_words t

  pub term_words : Term → List Word
  term_words (term x rest) = factor_words x ++ multiplieds_words rest

  pub multiplieds_words : Multiplieds → List Word
  multiplieds_words no_multiplieds = []
  multiplieds_words (more_multiplieds x xs) = multiplied_words x ++ multiplieds_words xs

  pub multiplied_words : Multiplied → List Word
  multiplied_words (multiplied operator x) = word (multiplying_spelling operator) ∷ factor_words x

  pub factor_words : Factor → List Word
  factor_words (factor operator x) = operator_words operator ++ primary_words x

  pub primary_words : Primary → List Word
  primary_words (integer x) = number_word x ∷ []
  primary_words (text x) = literal_word x ∷ []
  primary_words (name x) = name_words x
  primary_words (attribute x y e) = name_words x ++ (word (codes "'") ∷ ident_word y ∷ argument_words e)
  primary_words (group at e) = in_parentheses (expression_words e)

  -- an attribute's argument (RM 4.1.4)
  pub argument_words : MaybeExpression → List Word
  argument_words no_expression = []
  argument_words (an_expression e) = in_parentheses (expression_words e)

  -- RM 4.1
  pub name_words : Name → List Word
  name_words (named x xs) = part_words x ++ parts_words xs

  pub parts_words : Parts → List Word
  parts_words no_parts = []
  parts_words (more_parts x xs) = (word (codes ".") ∷ part_words x) ++ parts_words xs

  pub part_words : NamePart → List Word
  part_words (part i xs) = ident_word i ∷ args_words xs

  -- RM 6.4
  pub args_words : Args → List Word
  args_words no_args = []
  args_words (more_args e xs) = in_parentheses (expression_words e ++ more_args_words xs)

  pub more_args_words : Args → List Word
  more_args_words no_args = []
  more_args_words (more_args e xs) = word (codes ",") ∷ (expression_words e ++ more_args_words xs)

-- a further relation behind the operator
abbrev pub connected_words : Connective → Relation → List Word
connected_words c x = connective_words c ++ relation_words x

-- a word and the expression behind it, if there is one
abbrev pub maybe_words : List ℕ → MaybeExpression → List Word
maybe_words spelling no_expression = []
maybe_words spelling (an_expression e) = word spelling ∷ expression_words e

-- names, with this delimiter between each two
abbrev pub more_ident_words : List ℕ → List Ident → List Word
more_ident_words delimiter [] = []
more_ident_words delimiter (x ∷ xs) = word delimiter ∷ ident_word x ∷ more_ident_words delimiter xs

abbrev pub separated_words : List ℕ → Ident → List Ident → List Word
separated_words delimiter x xs = ident_word x ∷ more_ident_words delimiter xs

-- RM 3.3.1
abbrev pub idents_words : Ident → List Ident → List Word
idents_words x xs = separated_words (codes ",") x xs

abbrev pub initial_words : MaybeExpression → List Word
initial_words e = maybe_words (codes ":=") e

abbrev pub object_words : Ident → List Ident → Ident → MaybeExpression → List Word
object_words x xs subtype value = idents_words x xs ++ (word (codes ":") ∷ ident_word subtype ∷ (initial_words value ++ (last_word (codes ";") ∷ [])))

abbrev pub constant_words : Ident → List Ident → Ident → Expression → List Word
constant_words x xs subtype value = idents_words x xs ++ (word (codes ":") ∷ word (codes "constant") ∷ ident_word subtype ∷ word (codes ":=") ∷ (expression_words value ++ (last_word (codes ";") ∷ [])))

-- RM 3.6.1
abbrev pub minus_words : Bool → List Word
minus_words true = word (codes "-") ∷ []
minus_words false = []

abbrev pub bound_words : Bound → List Word
bound_words x = minus_words x.negative ++ (number_word x.number ∷ [])

-- two bounds (RM 3.5)
abbrev pub range_words : List Word → List Word → List Word
range_words low high = low ++ (word (codes "..") ∷ high)

-- the bounds of an index (RM 3.6)
abbrev pub index_words : Bound → Bound → List Word
index_words low high = in_parentheses (range_words (bound_words low) (bound_words high))

abbrev pub array_words : Ident → List Ident → Bound → Bound → Ident → List Word
array_words x xs low high subtype = idents_words x xs ++ (word (codes ":") ∷ word (codes "array") ∷ (index_words low high ++ (word (codes "of") ∷ ident_word subtype ∷ last_word (codes ";") ∷ [])))

-- RM 11.1
abbrev pub exception_words : Ident → List Ident → List Word
exception_words x xs = idents_words x xs ++ (word (codes ":") ∷ word (codes "exception") ∷ last_word (codes ";") ∷ [])

-- RM 6.1
abbrev pub mode_words : Mode → List Word
mode_words mode.Unstated = []
mode_words (mode.In at) = word (codes "in") ∷ []
mode_words (mode.Out at) = word (codes "out") ∷ []
mode_words (mode.InOut at) = word (codes "in") ∷ word (codes "out") ∷ []

abbrev pub formal_words : Formal → List Word
formal_words (formal x xs how subtype) = idents_words x xs ++ (word (codes ":") ∷ (mode_words how ++ (ident_word subtype ∷ [])))

abbrev pub more_formals_words : List Formal → List Word
more_formals_words [] = []
more_formals_words (x ∷ xs) = last_word (codes ";") ∷ (formal_words x ++ more_formals_words xs)

abbrev pub formals_words : List Formal → List Word
formals_words [] = []
formals_words (x ∷ xs) = in_parentheses (formal_words x ++ more_formals_words xs)

-- RM 5.1(6)
abbrev pub null_words : List Word
null_words = word (codes "null") ∷ last_word (codes ";") ∷ []

-- RM 5.2
abbrev pub assignment_words : Name → Expression → List Word
assignment_words x e = name_words x ++ (word (codes ":=") ∷ (expression_words e ++ (last_word (codes ";") ∷ [])))

-- RM 6.4
abbrev pub call_words : Name → List Word
call_words x = name_words x ++ (last_word (codes ";") ∷ [])

-- the name after `end`, the loop that is left, and the exception that is raised (RM 5.5, 5.7, 6.3, 9.1, 11.3)
abbrev pub end_words : Option Ident → List Word
end_words None = []
end_words (Some x) = ident_word x ∷ []

-- RM 9.1
abbrev pub type_words : Bool → List Word
type_words true = word (codes "type") ∷ []
type_words false = []

-- a word, a name and formal parameters
abbrev pub head_words : List ℕ → Ident → List Formal → List Word
head_words spelling x formals = word spelling ∷ ident_word x ∷ formals_words formals

-- RM 9.5.2(2)
abbrev pub entry_words : EntryDeclaration → List Word
entry_words x = head_words (codes "entry") x.name x.formals ++ (last_word (codes ";") ∷ [])

abbrev pub entries_words : List EntryDeclaration → List Word
entries_words [] = []
entries_words (x ∷ xs) = entry_words x ++ entries_words xs

-- RM 9.1(4)
abbrev pub definition_words : Option TaskDefinition → List Word
definition_words None = []
definition_words (Some x) = last_word (codes "is") ∷ (entries_words x.entries ++ (word (codes "end") ∷ end_words x.end_name))

abbrev pub task_words : Bool → Ident → Option TaskDefinition → List Word
task_words is_type x definition = word (codes "task") ∷ (type_words is_type ++ (ident_word x ∷ (definition_words definition ++ (last_word (codes ";") ∷ []))))

-- the name before a loop or a block (RM 5.5, 5.6)
abbrev pub label_words : Option Ident → List Word
label_words None = []
label_words (Some x) = ident_word x ∷ word (codes ":") ∷ []

-- RM 5.5(4)
abbrev pub reverse_words : Bool → List Word
reverse_words true = word (codes "reverse") ∷ []
reverse_words false = []

-- RM 5.5(3)
abbrev pub iteration_words : Iteration → List Word
iteration_words forever = []
iteration_words (while e) = word (codes "while") ∷ expression_words e
iteration_words (for x reverse low high) = word (codes "for") ∷ ident_word x ∷ word (codes "in") ∷ (reverse_words reverse ++ range_words (simple_words low) (simple_words high))

-- RM 5.7
abbrev pub condition_words : MaybeExpression → List Word
condition_words e = maybe_words (codes "when") e

abbrev pub exit_words : Option Ident → MaybeExpression → List Word
exit_words label e = word (codes "exit") ∷ (end_words label ++ (condition_words e ++ (last_word (codes ";") ∷ [])))

-- RM 6.5
abbrev pub value_words : MaybeExpression → List Word
value_words no_expression = []
value_words (an_expression e) = expression_words e

abbrev pub return_words : MaybeExpression → List Word
return_words e = word (codes "return") ∷ (value_words e ++ (last_word (codes ";") ∷ []))

-- RM 11.3
abbrev pub raise_words : Option Ident → List Word
raise_words x = word (codes "raise") ∷ (end_words x ++ (last_word (codes ";") ∷ []))

-- RM 9.6

abbrev pub seconds_words : Real → List Word
seconds_words x = word (codes "delay") ∷ real_word x ∷ last_word (codes ";") ∷ []

abbrev pub duration_words : Expression → List Word
duration_words e = word (codes "delay") ∷ word (codes "DURATION") ∷ (in_parentheses (expression_words e) ++ (last_word (codes ";") ∷ []))

abbrev pub delay_words : Delay → List Word
delay_words (delay_real at x) = seconds_words x
delay_words (delay_duration at name_at e) = duration_words e

-- RM 9.8
abbrev pub more_names_words : Names → List Word
more_names_words no_names = []
more_names_words (more_names x xs) = (word (codes ",") ∷ name_words x) ++ more_names_words xs

abbrev pub abort_words : Name → Names → List Word
abort_words x xs = word (codes "abort") ∷ ((name_words x ++ more_names_words xs) ++ (last_word (codes ";") ∷ []))

-- RM 9.5.4
abbrev pub with_abort_words : Bool → List Word
with_abort_words true = word (codes "with") ∷ word (codes "abort") ∷ []
with_abort_words false = []

abbrev pub requeue_words : Name → Bool → List Word
requeue_words x with_abort = word (codes "requeue") ∷ (name_words x ++ (with_abort_words with_abort ++ (last_word (codes ";") ∷ [])))

-- the condition in front of an alternative (RM 9.7.1(2))
abbrev pub guard_words : MaybeExpression → List Word
guard_words no_expression = []
guard_words (an_expression e) = word (codes "when") ∷ (expression_words e ++ (last_word (codes "=>") ∷ []))

-- RM 9.4(5)
abbrev pub operation_words : Operation → List Word
operation_words (entry_operation x) = entry_words x
operation_words (procedure_operation x formals) = head_words (codes "procedure") x formals ++ (last_word (codes ";") ∷ [])
operation_words (function_operation x formals subtype) = head_words (codes "function") x formals ++ (word (codes "return") ∷ ident_word subtype ∷ last_word (codes ";") ∷ [])

abbrev pub operations_words : List Operation → List Word
operations_words [] = []
operations_words (x ∷ xs) = operation_words x ++ operations_words xs

-- RM 9.4(6)
abbrev pub private_item_words : PrivateItem → List Word
private_item_words (private_operation x) = operation_words x
private_item_words (components x xs subtype value) = object_words x xs subtype value

abbrev pub private_items_words : List PrivateItem → List Word
private_items_words [] = []
private_items_words (x ∷ xs) = private_item_words x ++ private_items_words xs

abbrev pub private_words : Option (List PrivateItem) → List Word
private_words None = []
private_words (Some xs) = word (codes "private") ∷ private_items_words xs

-- `end`, the name behind it and a semicolon
abbrev pub ending_words : Option Ident → List Word
ending_words last = word (codes "end") ∷ (end_words last ++ (last_word (codes ";") ∷ []))

-- RM 9.4(3, 4)
abbrev pub protected_words : Ident → List Operation → Option (List PrivateItem) → Option Ident → List Word
protected_words x operations hidden last = word (codes "protected") ∷ ident_word x ∷ last_word (codes "is") ∷ (operations_words operations ++ (private_words hidden ++ ending_words last))

-- RM 5.6
abbrev pub declare_words : Bool → List Word
declare_words true = last_word (codes "declare") ∷ []
declare_words false = []

-- RM 11.2(5)
abbrev pub choices_words : Choices → List Word
choices_words (exceptions x xs) = separated_words (codes "|") x xs
choices_words (others at) = word (codes "others") ∷ []

-- the choices and the statements of a handler (RM 11.2(3))
abbrev pub handler_words : Choices → List Word → List Word
handler_words x statements = word (codes "when") ∷ (choices_words x ++ (last_word (codes "=>") ∷ statements))

-- `exception` and the words of the handlers behind it, if there are any (RM 11.2(2))
abbrev pub handled_words : Handlers → List Word → List Word
handled_words no_handlers handlers = []
handled_words (more_handlers x s xs) handlers = last_word (codes "exception") ∷ handlers

-- `if` or `elsif`, the condition and the statements (RM 5.3)
abbrev pub arm_words : List ℕ → List Word → List Word → List Word
arm_words spelling condition statements = word spelling ∷ (condition ++ (last_word (codes "then") ∷ statements))

-- `else` and the words of the statements behind it, if there are any (RM 5.3)
abbrev pub otherwise_words : MoreStatements → List Word → List Word
otherwise_words no_statements statements = []
otherwise_words (more_statements x xs) statements = last_word (codes "else") ∷ statements

-- statements behind `begin` or `do`, with their handlers (RM 11.2, 9.5.2(3))
abbrev pub enclosed_words : List ℕ → List Word → List Word → Option Ident → List Word
enclosed_words spelling statements handlers last = last_word spelling ∷ (statements ++ (handlers ++ ending_words last))

-- the head of an operation's body, and the declarations and statements in it
abbrev pub headed_words : List ℕ → Ident → List Formal → List Word → List Word → List Word
headed_words spelling x formals further inside = head_words spelling x formals ++ (further ++ (last_word (codes "is") ∷ inside))

-- RM 9.7.1(7)
abbrev pub terminate_words : List Word
terminate_words = word (codes "terminate") ∷ last_word (codes ";") ∷ []

-- `end select;`
abbrev pub end_select_words : List Word
end_select_words = word (codes "end") ∷ word (codes "select") ∷ last_word (codes ";") ∷ []

-- declarations, statements and bodies (RM 3.1, 5.1, 11.2)
abbrev mutual
  pub declaration_words : Declaration → List Word
  declaration_words (object x xs subtype value) = object_words x xs subtype value
  declaration_words (constant x xs subtype value) = constant_words x xs subtype value
  declaration_words (array x xs low high subtype) = array_words x xs low high subtype
  declaration_words (exception x xs) = exception_words x xs
  declaration_words (procedure at x formals declarations rest) = word (codes "procedure") ∷ ident_word x ∷ (formals_words formals ++ (last_word (codes "is") ∷ (declarations_words declarations ++ body_words rest)))
  declaration_words (task at is_type x definition) = task_words is_type x definition
  declaration_words (task_body at x declarations rest) = word (codes "task") ∷ word (codes "body") ∷ ident_word x ∷ last_word (codes "is") ∷ (declarations_words declarations ++ body_words rest)
  declaration_words (protected at x operations hidden last) = protected_words x operations hidden last
  declaration_words (protected_body at x bodies last) = word (codes "protected") ∷ word (codes "body") ∷ ident_word x ∷ last_word (codes "is") ∷ (operation_bodies_words bodies ++ ending_words last)

  pub declarations_words : Declarations → List Word
  declarations_words no_declarations = []
  declarations_words (more_declarations x xs) = declaration_words x ++ declarations_words xs

  pub statement_words : Statement → List Word
  statement_words (null at) = null_words
  statement_words (assign x e) = assignment_words x e
  statement_words (call x) = call_words x
  statement_words (if_then at e statements arms otherwise) = arm_words (codes "if") (expression_words e) (statements_words statements) ++ (arms_words arms ++ (otherwise_words otherwise (more_statements_words otherwise) ++ (word (codes "end") ∷ word (codes "if") ∷ last_word (codes ";") ∷ [])))
  statement_words (loop label at i statements last semicolon) = label_words label ++ (iteration_words i ++ (last_word (codes "loop") ∷ (statements_words statements ++ (word (codes "end") ∷ word (codes "loop") ∷ (end_words last ++ (last_word (codes ";") ∷ []))))))
  statement_words (exit at label e) = exit_words label e
  statement_words (block label at declare declarations rest) = label_words label ++ (declare_words declare ++ (declarations_words declarations ++ body_words rest))
  statement_words (return at e) = return_words e
  statement_words (raise at x) = raise_words x
  statement_words (accepting x) = accept_words x
  statement_words (delaying x) = delay_words x
  statement_words (select_accept at e x xs otherwise) = last_word (codes "select") ∷ ((guard_words e ++ alternative_words x) ++ (alternatives_words xs ++ (otherwise_words otherwise (more_statements_words otherwise) ++ end_select_words)))
  statement_words (select_call at x behind otherwise) = last_word (codes "select") ∷ (call_words x ++ (more_statements_words behind ++ (other_words otherwise ++ end_select_words)))
  statement_words (abort at x xs) = abort_words x xs
  statement_words (requeue at x with_abort) = requeue_words x with_abort

  pub more_statements_words : MoreStatements → List Word
  more_statements_words no_statements = []
  more_statements_words (more_statements x xs) = statement_words x ++ more_statements_words xs

  pub statements_words : Statements → List Word
  statements_words (in_order x xs) = statement_words x ++ more_statements_words xs

  pub arms_words : Arms → List Word
  arms_words no_arms = []
  arms_words (more_arms at e statements arms) = arm_words (codes "elsif") (expression_words e) (statements_words statements) ++ arms_words arms

  -- RM 11.2
  pub body_words : Body → List Word
  body_words (body begin statements handlers end last semicolon) = enclosed_words (codes "begin") (statements_words statements) (handled_words handlers (handlers_words handlers)) last

  pub handlers_words : Handlers → List Word
  handlers_words no_handlers = []
  handlers_words (more_handlers x s xs) = handler_words x (statements_words s) ++ handlers_words xs

  -- RM 9.4(8)
  pub operation_body_words : OperationBody → List Word
  operation_body_words (entry_body at x formals e declarations rest) = headed_words (codes "entry") x formals (word (codes "when") ∷ expression_words e) (declarations_words declarations ++ body_words rest)
  operation_body_words (procedure_body at x formals declarations rest) = headed_words (codes "procedure") x formals [] (declarations_words declarations ++ body_words rest)
  operation_body_words (function_body at x formals subtype declarations rest) = headed_words (codes "function") x formals (word (codes "return") ∷ ident_word subtype ∷ []) (declarations_words declarations ++ body_words rest)

  pub operation_bodies_words : OperationBodies → List Word
  operation_bodies_words no_bodies = []
  operation_bodies_words (more_bodies x xs) = operation_body_words x ++ operation_bodies_words xs

  -- RM 9.5.2(3)
  pub accept_words : Accept → List Word
  accept_words (accept at x formals doing) = head_words (codes "accept") x formals ++ doing_words doing

  pub doing_words : Doing → List Word
  doing_words without_do = last_word (codes ";") ∷ []
  doing_words (with_do (body begin statements handlers end last semicolon)) = enclosed_words (codes "do") (statements_words statements) (handled_words handlers (handlers_words handlers)) last

  -- RM 9.7.1(3)
  pub alternative_words : Alternative → List Word
  alternative_words (accept_alternative x behind) = accept_words x ++ more_statements_words behind
  alternative_words (delay_alternative x behind) = delay_words x ++ more_statements_words behind
  alternative_words terminate_alternative = terminate_words

  -- RM 9.7.1(2)
  pub alternatives_words : Alternatives → List Word
  alternatives_words no_alternatives = []
  alternatives_words (more_alternatives e x xs) = (last_word (codes "or") ∷ (guard_words e ++ alternative_words x)) ++ alternatives_words xs

  -- RM 9.7.2, 9.7.3
  pub other_words : Otherwise → List Word
  other_words (or_delay x behind) = last_word (codes "or") ∷ (delay_words x ++ more_statements_words behind)
  other_words (or_else statements) = last_word (codes "else") ∷ statements_words statements

-- RM 9.7.1(2)
abbrev pub guarded_words : MaybeExpression → Alternative → List Word
guarded_words e x = guard_words e ++ alternative_words x

-- a body behind this word
abbrev pub words_behind : List ℕ → Body → List Word
words_behind spelling (body begin statements handlers end last semicolon) = enclosed_words spelling (statements_words statements) (handled_words handlers (handlers_words handlers)) last

-- RM 8.4, 10.1.2
abbrev pub context_spelling : Context → List ℕ
context_spelling (with_text_io at) = codes "with"
context_spelling (use_text_io at) = codes "use"

-- a clause for Ada.Text_IO
abbrev pub clause_words : List ℕ → List Word
clause_words spelling = word spelling ∷ word (codes "ADA") ∷ word (codes ".") ∷ word (codes "TEXT_IO") ∷ last_word (codes ";") ∷ []

abbrev pub context_words : Context → List Word
context_words x = clause_words (context_spelling x)

abbrev pub contexts_words : List Context → List Word
contexts_words [] = []
contexts_words (x ∷ xs) = context_words x ++ contexts_words xs

-- RM 6.3, 10.1.1
abbrev pub unit_words : Unit → List Word
unit_words (unit context at x declarations rest) = contexts_words context ++ (word (codes "procedure") ∷ ident_word x ∷ last_word (codes "is") ∷ (declarations_words declarations ++ body_words rest))

abbrev pub printed : Unit → List ℕ
printed u = spaced (unit_words u)

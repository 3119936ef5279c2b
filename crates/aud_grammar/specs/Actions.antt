-- How the tree of each phrase is made from those of its symbols.
use Rattle.std.specs.Prelude.{ℕ, List, [], ◌∷◌, Bool, true, false, Option, Some, None}
use Rattle.aud_text.specs.Name.{capitals}
use Rattle.aud_text.specs.declared.place.Pos.{Pos}
use Rattle.aud_lex.specs.Element.{Element}
use Rattle.aud_syntax.specs.declared.tree.Ident.{Ident}
use Rattle.aud_syntax.specs.declared.tree.Number.{Number}
use Rattle.aud_syntax.specs.declared.tree.Real.{Real}
use Rattle.aud_syntax.specs.declared.tree.Literal.{Literal}
use Rattle.aud_syntax.specs.declared.tree.Signed.{Signed}
use Rattle.aud_syntax.specs.declared.tree.Sign.TheVariants as sign
use Rattle.aud_syntax.specs.declared.tree.Adding.{Adding}
use Rattle.aud_syntax.specs.declared.tree.Adding.TheVariants as adding
use Rattle.aud_syntax.specs.declared.tree.Multiplying.{Multiplying}
use Rattle.aud_syntax.specs.declared.tree.Multiplying.TheVariants as multiplying
use Rattle.aud_syntax.specs.declared.tree.Operator.{Operator}
use Rattle.aud_syntax.specs.declared.tree.Relational.{Relational}
use Rattle.aud_syntax.specs.declared.tree.Relational.TheVariants as relational
use Rattle.aud_syntax.specs.declared.tree.Connective.{Connective}
use Rattle.aud_syntax.specs.declared.tree.Connective.TheVariants as connective
use Rattle.aud_syntax.specs.declared.tree.Highest.TheVariants as highest
use Rattle.aud_syntax.specs.declared.tree.Bound.{Bound}
use Rattle.aud_syntax.specs.declared.tree.Mode.{Mode}
use Rattle.aud_syntax.specs.declared.tree.Mode.TheVariants as mode
use Rattle.aud_syntax.specs.Plain as m
use Rattle.aud_grammar.specs.Grammar as g
use Rattle.aud_grammar.specs.Values.{number_value, whole_part, decimals, unquoted}

-- what is read so far, from the front: a token, nothing, a list, or a tree of one of these sorts
pub data Item : Type 0 where
  token : Element → Item
  none : Item
  cons : Item → Item → Item
  an_ident : Ident → Item
  a_number : Number → Item
  a_literal : Literal → Item
  a_sign : Signed → Item
  an_adding : Adding → Item
  a_multiplying : Multiplying → Item
  an_operator : Operator → Item
  -- an expression in parentheses, and where they open
  in_parens : Pos → m.Expression → Item
  -- an attribute's name and its argument
  an_attribute : Ident → m.MaybeExpression → Item
  some_args : m.Args → Item
  a_part : m.NamePart → Item
  a_name : m.Name → Item
  a_primary : m.Primary → Item
  a_factor : m.Factor → Item
  a_multiplied : m.Multiplied → Item
  a_term : m.Term → Item
  an_added : m.Added → Item
  a_simple : m.Simple → Item
  a_relational : Relational → Item
  -- what the first operand of a relation is compared with
  a_compared : Relational → m.Simple → Item
  a_relation : m.Relation → Item
  -- the operator behind the first relation, the second relation and those behind it
  a_chain : Connective → m.Relation → m.Relations → Item
  an_expression : m.Expression → Item
  -- what follows a name with which a statement begins: what is assigned, or nothing
  assigned : m.Expression → Item
  called : Item
  -- the same with the arguments and the other parts of the name
  assigns : m.Args → m.Parts → m.Expression → Item
  calls : m.Args → m.Parts → Item
  a_statement : m.Statement → Item
  some_statements : m.Statements → Item
  -- a further condition of an if statement: where it begins, the condition, and the statements behind it
  an_arm : Pos → m.Expression → m.Statements → Item
  -- how often a loop is gone through, and where that is said
  an_iteration : Pos → m.Iteration → Item
  -- a word of which only the tree says whether it is there
  there : Item
  -- the declarations of a block, and where `declare` stands
  a_declare : Pos → m.Declarations → Item
  some_choices : m.Choices → Item
  a_handler : m.Choices → m.Statements → Item
  a_body : m.Body → Item
  -- the first name of a declaration, and the others
  some_names : Ident → List Ident → Item
  -- what follows the names of variables and constants
  a_variable : Ident → m.MaybeExpression → Item
  a_constant : Ident → m.Expression → Item
  a_bound : Bound → Item
  -- the bounds of an index, the least first
  an_index : Bound → Bound → Item
  -- what follows the names of arrays and exceptions
  an_array : Bound → Bound → Ident → Item
  an_exception : Item
  -- how formal parameters are passed, and those that are declared together
  a_mode : Mode → Item
  a_formal : m.Formal → Item
  -- the definition of a task
  a_definition : m.TaskDefinition → Item
  -- what follows `task`: whether a type is declared, the name, and the definition, if there is one
  a_task : Bool → Ident → Option m.TaskDefinition → Item
  -- the same of a body: the name, the declarations and the body
  a_task_body : Ident → m.Declarations → m.Body → Item
  a_declaration : m.Declaration → Item
  a_context : m.Context → Item
  a_unit : m.Unit → Item
  a_real : Real → Item
  -- for how long a delay is; where Duration stands
  seconds : Real → Item
  duration_of : Pos → m.Expression → Item
  a_delay : m.Delay → Item
  an_entry : m.EntryDeclaration → Item
  a_doing : m.Doing → Item
  an_accept : m.Accept → Item
  an_alternative : m.Alternative → Item
  -- an alternative behind `or` and its guard
  guarded : m.MaybeExpression → m.Alternative → Item
  -- alternatives, of which the guard of the first stands further in front, and the statements behind `else`
  unguarded : m.Alternative → m.Alternatives → m.MoreStatements → Item
  -- what follows an alternative
  further : m.Alternatives → m.MoreStatements → Item
  -- what follows `select`: the guard of the first alternative as well; of an entry call, what its statement has
  selects : m.MaybeExpression → m.Alternative → m.Alternatives → m.MoreStatements → Item
  selects_call : m.Name → m.MoreStatements → m.Otherwise → Item
  an_otherwise : m.Otherwise → Item
  an_operation : m.Operation → Item
  a_private_item : m.PrivateItem → Item
  some_private : List m.PrivateItem → Item
  -- what follows `protected`
  a_protected : Ident → List m.Operation → Option (List m.PrivateItem) → Option Ident → Item
  a_protected_body : Ident → m.OperationBodies → Option Ident → Item
  an_operation_body : m.OperationBody → Item

abbrev pub top : List Item → Item
top [] = none
top (x ∷ st) = x

abbrev pub pop : List Item → List Item
pop [] = []
pop (x ∷ st) = st

-- an item as a tree of its sort; what it is at an item of another sort does not matter

abbrev no_place : Pos
no_place = record { line = 1; col = 1 }

abbrev pub the_text : Item → List ℕ
the_text (token t) = t.text
the_text _ = []

abbrev pub place : Item → Pos
place (token t) = t.at
place _ = no_place

abbrev no_ident : Ident
no_ident = record { name = []; at = no_place }

abbrev pub the_ident : Item → Ident
the_ident (an_ident x) = x
the_ident _ = no_ident

abbrev pub is_there : Item → Bool
is_there there = true
is_there _ = false

abbrev pub opt_ident : Item → Option Ident
opt_ident (an_ident x) = Some x
opt_ident _ = None

abbrev pub the_idents : Item → List Ident
the_idents (cons x xs) = the_ident x ∷ the_idents xs
the_idents _ = []

abbrev pub first_name : Item → Ident
first_name (some_names x xs) = x
first_name _ = no_ident

abbrev pub other_names : Item → List Ident
other_names (some_names x xs) = xs
other_names _ = []

abbrev pub the_number : Item → Number
the_number (a_number x) = x
the_number _ = record { value = None; at = no_place }

abbrev pub the_literal : Item → Literal
the_literal (a_literal x) = x
the_literal _ = record { text = []; at = no_place }

abbrev pub opt_sign : Item → Option Signed
opt_sign (a_sign x) = Some x
opt_sign _ = None

abbrev pub the_adding : Item → Adding
the_adding (an_adding x) = x
the_adding _ = adding.Plus

abbrev pub the_multiplying : Item → Multiplying
the_multiplying (a_multiplying x) = x
the_multiplying _ = multiplying.Times

abbrev pub opt_operator : Item → Option Operator
opt_operator (an_operator x) = Some x
opt_operator _ = None

-- names and expressions

abbrev no_name : m.Name
no_name = m.named (m.part no_ident m.no_args) m.no_parts

abbrev no_primary : m.Primary
no_primary = m.name no_name

abbrev no_factor : m.Factor
no_factor = m.factor None no_primary

abbrev no_term : m.Term
no_term = m.term no_factor m.no_multiplieds

abbrev no_simple : m.Simple
no_simple = m.simple None no_term m.no_addeds

abbrev no_relation : m.Relation
no_relation = m.unrelated no_simple

abbrev pub nothing : m.Expression
nothing = m.alone no_relation

abbrev pub opening : Item → Pos
opening (in_parens at x) = at
opening _ = no_place

abbrev pub inside : Item → m.Expression
inside (in_parens at x) = x
inside _ = nothing

abbrev pub opt_inside : Item → m.MaybeExpression
opt_inside (in_parens at x) = m.an_expression x
opt_inside _ = m.no_expression

abbrev pub the_args : Item → m.Args
the_args (some_args x) = x
the_args _ = m.no_args

abbrev pub the_part : Item → m.NamePart
the_part (a_part x) = x
the_part _ = m.part no_ident m.no_args

abbrev pub the_parts : Item → m.Parts
the_parts (cons x xs) = m.more_parts (the_part x) (the_parts xs)
the_parts _ = m.no_parts

abbrev pub the_name : Item → m.Name
the_name (a_name x) = x
the_name _ = no_name

abbrev pub the_primary : Item → m.Primary
the_primary (a_primary x) = x
the_primary _ = no_primary

abbrev pub the_factor : Item → m.Factor
the_factor (a_factor x) = x
the_factor _ = no_factor

abbrev pub the_multiplied : Item → m.Multiplied
the_multiplied (a_multiplied x) = x
the_multiplied _ = m.multiplied multiplying.Times no_factor

abbrev pub the_multiplieds : Item → m.Multiplieds
the_multiplieds (cons x xs) = m.more_multiplieds (the_multiplied x) (the_multiplieds xs)
the_multiplieds _ = m.no_multiplieds

abbrev pub the_term : Item → m.Term
the_term (a_term x) = x
the_term _ = no_term

abbrev pub the_added : Item → m.Added
the_added (an_added x) = x
the_added _ = m.added adding.Plus no_term

abbrev pub the_addeds : Item → m.Addeds
the_addeds (cons x xs) = m.more_addeds (the_added x) (the_addeds xs)
the_addeds _ = m.no_addeds

abbrev pub the_simple : Item → m.Simple
the_simple (a_simple x) = x
the_simple _ = no_simple

abbrev pub the_relational : Item → Relational
the_relational (a_relational x) = x
the_relational _ = relational.Equal

abbrev pub the_relation : Item → m.Relation
the_relation (a_relation x) = x
the_relation _ = no_relation

abbrev pub the_relations : Item → m.Relations
the_relations (cons x xs) = m.more_relations (the_relation x) (the_relations xs)
the_relations _ = m.no_relations

abbrev pub the_expression : Item → m.Expression
the_expression (an_expression x) = x
the_expression _ = nothing

-- a list of expressions
abbrev pub expression_args : Item → m.Args
expression_args (cons x xs) = m.more_args (the_expression x) (expression_args xs)
expression_args _ = m.no_args

abbrev pub opt_expression : Item → m.MaybeExpression
opt_expression (an_expression x) = m.an_expression x
opt_expression _ = m.no_expression

abbrev no_statement : m.Statement
no_statement = m.null no_place

abbrev pub the_statement : Item → m.Statement
the_statement (a_statement x) = x
the_statement _ = no_statement

abbrev pub more_statements : Item → m.MoreStatements
more_statements (cons x xs) = m.more_statements (the_statement x) (more_statements xs)
more_statements _ = m.no_statements

abbrev no_statements : m.Statements
no_statements = m.in_order no_statement m.no_statements

abbrev pub the_statements : Item → m.Statements
the_statements (some_statements x) = x
the_statements _ = no_statements

-- all statements of a sequence
abbrev all_of : m.Statements → m.MoreStatements
all_of (m.in_order x xs) = m.more_statements x xs

-- the statements behind `else`, if there are any
abbrev pub otherwise : Item → m.MoreStatements
otherwise (some_statements x) = all_of x
otherwise _ = m.no_statements

abbrev pub with_arm : Item → m.Arms → m.Arms
with_arm (an_arm at e x) xs = m.more_arms at e x xs
with_arm _ xs = xs

abbrev pub the_arms : Item → m.Arms
the_arms (cons x xs) = with_arm x (the_arms xs)
the_arms _ = m.no_arms

abbrev pub the_iteration : Item → m.Iteration
the_iteration (an_iteration at x) = x
the_iteration _ = m.forever

-- where a loop begins: at its iteration scheme, or at `loop`
abbrev pub loop_place : Item → Item → Pos
loop_place (an_iteration at x) y = at
loop_place _ y = place y

abbrev no_declaration : m.Declaration
no_declaration = m.object no_ident [] no_ident m.no_expression

abbrev pub the_declaration : Item → m.Declaration
the_declaration (a_declaration x) = x
the_declaration _ = no_declaration

abbrev pub the_declarations : Item → m.Declarations
the_declarations (cons x xs) = m.more_declarations (the_declaration x) (the_declarations xs)
the_declarations _ = m.no_declarations

abbrev no_bound : Bound
no_bound = record { negative = false; number = record { value = None; at = no_place } }

abbrev pub the_bound : Item → Bound
the_bound (a_bound x) = x
the_bound _ = no_bound

abbrev pub low : Item → Bound
low (an_index x y) = x
low _ = no_bound

abbrev pub high : Item → Bound
high (an_index x y) = y
high _ = no_bound

-- where `in` stands, and whether `out` stands behind it
abbrev pub in_mode : Pos → Bool → Mode
in_mode at true = mode.InOut at
in_mode at false = mode.In at

abbrev pub the_mode : Item → Mode
the_mode (a_mode x) = x
the_mode _ = mode.Unstated

abbrev no_formal : m.Formal
no_formal = m.formal no_ident [] mode.Unstated no_ident

abbrev pub the_formal : Item → m.Formal
the_formal (a_formal x) = x
the_formal _ = no_formal

abbrev pub the_formals : Item → List m.Formal
the_formals (cons x xs) = the_formal x ∷ the_formals xs
the_formals _ = []

abbrev pub opt_definition : Item → Option m.TaskDefinition
opt_definition (a_definition x) = Some x
opt_definition _ = None

abbrev no_choices : m.Choices
no_choices = m.others no_place

abbrev pub the_choices : Item → m.Choices
the_choices (some_choices x) = x
the_choices _ = no_choices

abbrev pub with_handler : Item → m.Handlers → m.Handlers
with_handler (a_handler c x) xs = m.more_handlers c x xs
with_handler _ xs = xs

abbrev pub the_handlers : Item → m.Handlers
the_handlers (cons x xs) = with_handler x (the_handlers xs)
the_handlers _ = m.no_handlers

abbrev no_body : m.Body
no_body = m.body no_place no_statements m.no_handlers no_place None no_place

abbrev pub the_body : Item → m.Body
the_body (a_body x) = x
the_body _ = no_body

-- the declarations of a block, where it begins, and whether it does so with `declare`

abbrev pub block_declarations : Item → m.Declarations
block_declarations (a_declare at x) = x
block_declarations _ = m.no_declarations

abbrev pub is_declare : Item → Bool
is_declare (a_declare at x) = true
is_declare _ = false

abbrev pub begin_of : m.Body → Pos
begin_of (m.body begin _ _ _ _ _) = begin

abbrev pub block_place : Item → m.Body → Pos
block_place (a_declare at x) y = at
block_place _ y = begin_of y

abbrev pub the_context : Item → m.Context
the_context (a_context x) = x
the_context _ = m.with_text_io no_place

abbrev pub the_contexts : Item → List m.Context
the_contexts (cons x xs) = the_context x ∷ the_contexts xs
the_contexts _ = []

abbrev pub the_unit : Item → m.Unit
the_unit (a_unit x) = x
the_unit _ = m.unit [] no_place no_ident m.no_declarations no_body

-- the primary that begins with a name, by what follows the name (RM 4.1, 4.1.4)
abbrev pub with_attribute : m.Name → Item → m.Primary
with_attribute n (an_attribute j e) = m.attribute n j e
with_attribute n _ = m.name n

-- the relation that begins with an operand, by what follows the operand (RM 4.4(3))
abbrev pub compared : m.Simple → Item → m.Relation
compared x (a_compared operator y) = m.related operator x y
compared x _ = m.unrelated x

-- the expression that begins with a relation, by what follows the relation (RM 4.4(2))
abbrev pub connected : m.Relation → Item → m.Expression
connected x (a_chain operator y ys) = m.connected operator x y ys
connected x _ = m.alone x

-- what follows the first identifier of a statement's name, by what follows the name (RM 5.2, 6.4)
abbrev pub followed : m.Args → m.Parts → Item → Item
followed xs ps (assigned e) = assigns xs ps e
followed xs ps _ = calls xs ps

-- a loop or a block behind its name (RM 5.5(2), 5.6(2))
abbrev pub labelled : Ident → m.Statement → m.Statement
labelled i (m.loop label at x statements end semicolon) = m.loop (Some i) at x statements end semicolon
labelled i (m.block label at declare ds x) = m.block (Some i) at declare ds x
labelled i x = x

-- the statement that begins with an identifier, by what follows it (RM 5.2, 5.5, 5.6, 6.4)
abbrev pub begun : Ident → Item → m.Statement
begun i (assigns xs ps e) = m.assign (m.named (m.part i xs) ps) e
begun i (calls xs ps) = m.call (m.named (m.part i xs) ps)
begun i (a_statement x) = labelled i x
begun i _ = no_statement

-- the declaration that begins with some names, by what follows them (RM 3.3.1, 11.1)
abbrev pub declared : Ident → List Ident → Item → m.Declaration
declared x xs (a_variable i e) = m.object x xs i e
declared x xs (a_constant i e) = m.constant x xs i e
declared x xs (an_array l h i) = m.array x xs l h i
declared x xs an_exception = m.exception x xs
declared x xs _ = no_declaration

-- the declaration that begins with `task` at a place, by what follows it (RM 9.1)
abbrev pub task_declared : Pos → Item → m.Declaration
task_declared at (a_task is_type i definition) = m.task at is_type i definition
task_declared at (a_task_body i ds x) = m.task_body at i ds x
task_declared at _ = no_declaration

-- entries, accept, delay and select statements

abbrev pub the_real : Item → Real
the_real (a_real x) = x
the_real _ = record { whole = None; thousandths = None; at = no_place }

-- the delay statement that begins at a place, by what follows `delay` (RM 9.6)
abbrev pub delayed : Pos → Item → m.Delay
delayed at (seconds x) = m.delay_real at x
delayed at (duration_of named e) = m.delay_duration at named e
delayed at _ = m.delay_duration at no_place nothing

abbrev pub the_delay : Item → m.Delay
the_delay (a_delay x) = x
the_delay _ = m.delay_duration no_place no_place nothing

abbrev no_entry : m.EntryDeclaration
no_entry = record { name = no_ident; formals = [] }

abbrev pub the_entry : Item → m.EntryDeclaration
the_entry (an_entry x) = x
the_entry _ = no_entry

abbrev pub the_entries : Item → List m.EntryDeclaration
the_entries (cons x xs) = the_entry x ∷ the_entries xs
the_entries _ = []

abbrev pub the_doing : Item → m.Doing
the_doing (a_doing x) = x
the_doing _ = m.without_do

abbrev pub the_accept : Item → m.Accept
the_accept (an_accept x) = x
the_accept _ = m.accept no_place no_ident [] m.without_do

abbrev pub the_alternative : Item → m.Alternative
the_alternative (an_alternative x) = x
the_alternative _ = m.terminate_alternative

abbrev pub with_guarded : Item → m.Alternatives → m.Alternatives
with_guarded (guarded e x) xs = m.more_alternatives e x xs
with_guarded _ xs = xs

abbrev pub the_alternatives : Item → m.Alternatives
the_alternatives (cons x xs) = with_guarded x (the_alternatives xs)
the_alternatives _ = m.no_alternatives

abbrev pub first_alternative : Item → m.Alternative
first_alternative (unguarded x xs inner) = x
first_alternative _ = m.terminate_alternative

abbrev pub other_alternatives : Item → m.Alternatives
other_alternatives (unguarded x xs inner) = xs
other_alternatives (further xs inner) = xs
other_alternatives _ = m.no_alternatives

abbrev pub else_part : Item → m.MoreStatements
else_part (unguarded x xs inner) = inner
else_part (further xs inner) = inner
else_part _ = m.no_statements

abbrev pub the_otherwise : Item → m.Otherwise
the_otherwise (an_otherwise x) = x
the_otherwise _ = m.or_else no_statements

-- the statement that begins with `select` at a place, by what follows it (RM 9.7)
abbrev pub selected : Pos → Item → m.Statement
selected at (selects e x xs statements) = m.select_accept at e x xs statements
selected at (selects_call x behind other) = m.select_call at x behind other
selected at _ = no_statement

-- protected objects

abbrev pub the_operation : Item → m.Operation
the_operation (an_operation x) = x
the_operation _ = m.entry_operation no_entry

abbrev pub the_operations : Item → List m.Operation
the_operations (cons x xs) = the_operation x ∷ the_operations xs
the_operations _ = []

abbrev pub the_private_item : Item → m.PrivateItem
the_private_item (a_private_item x) = x
the_private_item _ = m.private_operation (m.entry_operation no_entry)

abbrev pub the_private_items : Item → List m.PrivateItem
the_private_items (cons x xs) = the_private_item x ∷ the_private_items xs
the_private_items _ = []

abbrev pub opt_private : Item → Option (List m.PrivateItem)
opt_private (some_private xs) = Some xs
opt_private _ = None

abbrev pub the_operation_body : Item → m.OperationBody
the_operation_body (an_operation_body x) = x
the_operation_body _ = m.procedure_body no_place no_ident [] m.no_declarations no_body

abbrev pub the_operation_bodies : Item → m.OperationBodies
the_operation_bodies (cons x xs) = m.more_bodies (the_operation_body x) (the_operation_bodies xs)
the_operation_bodies _ = m.no_bodies

-- the declaration that begins with `protected` at a place, by what follows it (RM 9.4)
abbrev pub protected_declared : Pos → Item → m.Declaration
protected_declared at (a_protected i operations hidden end) = m.protected at i operations hidden end
protected_declared at (a_protected_body i bodies end) = m.protected_body at i bodies end
protected_declared at _ = no_declaration

-- further tasks to be aborted (RM 9.8(2))
abbrev pub the_names : Item → m.Names
the_names (cons x xs) = m.more_names (the_name x) (the_names xs)
the_names _ = m.no_names

-- an identifier's letters are kept as capitals (RM 2.3(5))
abbrev pub ident_of : Item → Ident
ident_of x = record { name = capitals (the_text x); at = place x }

abbrev pub number_of : Item → Number
number_of x = record { value = number_value (the_text x); at = place x }

abbrev pub real_of : Item → Real
real_of x = record { whole = whole_part (the_text x); thousandths = decimals (the_text x); at = place x }

abbrev pub literal_of : Item → Literal
literal_of x = record { text = unquoted (the_text x); at = place x }

-- two trees put in front of a list
abbrev pub listed : List Item → List Item
listed st = cons (top st) (top (pop st)) ∷ pop (pop st)

-- the second relation and those behind it, with the operator between each two
abbrev pub chained : Connective → List Item → List Item
chained operator st = a_chain operator (the_relation (top st)) (the_relations (top (pop st))) ∷ pop (pop st)

-- the tree of a phrase from what its rule has read, in front of what comes after it
abbrev pub made : g.Phrase → List Item → List Item
made g.Unit st = a_unit (m.unit (the_contexts (top st)) (place (top (pop st))) (the_ident (top (pop (pop st)))) (the_declarations (top (pop (pop (pop st))))) (the_body (top (pop (pop (pop (pop st))))))) ∷ pop (pop (pop (pop (pop st))))
made g.WithClause st = a_context (m.with_text_io (place (top st))) ∷ pop (pop st)
made g.UseClause st = a_context (m.use_text_io (place (top st))) ∷ pop (pop st)
made g.Library st = none ∷ pop (pop st)
made g.DeclarationList st = listed st
made g.NamedDeclaration st = a_declaration (declared (first_name (top st)) (other_names (top st)) (top (pop st))) ∷ pop (pop st)
made g.Variable st = a_variable (the_ident (top st)) (opt_expression (top (pop st))) ∷ pop (pop st)
made g.Constant st = a_constant (the_ident (top st)) (the_expression (top (pop st))) ∷ pop (pop st)
made g.Identifiers st = some_names (the_ident (top st)) (the_idents (top (pop st))) ∷ pop (pop st)
made g.ArrayRest st = an_array (low (top st)) (high (top st)) (the_ident (top (pop st))) ∷ pop (pop st)
made g.InIndex st = an_index (the_bound (top st)) (the_bound (top (pop st))) ∷ pop (pop st)
made g.Bound st = a_bound (record { negative = is_there (top st); number = the_number (top (pop st)) }) ∷ pop (pop st)
made g.Negated st = there ∷ st
made g.ExceptionRest st = an_exception ∷ st
made g.Procedure st = a_declaration (m.procedure (place (top st)) (the_ident (top (pop st))) (the_formals (top (pop (pop st)))) (the_declarations (top (pop (pop (pop st))))) (the_body (top (pop (pop (pop (pop st))))))) ∷ pop (pop (pop (pop (pop st))))
made g.InFormals st = listed st
made g.Formal st = a_formal (m.formal (first_name (top st)) (other_names (top st)) (the_mode (top (pop st))) (the_ident (top (pop (pop st))))) ∷ pop (pop (pop st))
made g.InMode st = a_mode (in_mode (place (top st)) (is_there (top (pop st)))) ∷ pop (pop st)
made g.InOut st = there ∷ st
made g.OutMode st = a_mode (mode.Out (place (top st))) ∷ pop st
made g.Task st = a_declaration (task_declared (place (top st)) (top (pop st))) ∷ pop (pop st)
made g.TaskDeclaration st = a_task (is_there (top st)) (the_ident (top (pop st))) (opt_definition (top (pop (pop st)))) ∷ pop (pop (pop st))
made g.TaskType st = there ∷ st
made g.TaskDefinition st = a_definition (record { entries = the_entries (top st); end_name = opt_ident (top (pop st)) }) ∷ pop (pop st)
made g.TaskBody st = a_task_body (the_ident (top st)) (the_declarations (top (pop st))) (the_body (top (pop (pop st)))) ∷ pop (pop (pop st))
made g.Body st = a_body (m.body (place (top st)) (the_statements (top (pop st))) (the_handlers (top (pop (pop st)))) (place (top (pop (pop (pop st))))) (opt_ident (top (pop (pop (pop (pop st)))))) (place (top (pop (pop (pop (pop (pop st)))))))) ∷ pop (pop (pop (pop (pop (pop st)))))
made g.HandlerList st = listed st
made g.Handler st = a_handler (the_choices (top st)) (the_statements (top (pop st))) ∷ pop (pop st)
made g.Others st = some_choices (m.others (place (top st))) ∷ pop st
made g.NamedChoices st = some_choices (m.exceptions (the_ident (top st)) (the_idents (top (pop st)))) ∷ pop (pop st)
made g.StatementList st = some_statements (m.in_order (the_statement (top st)) (more_statements (top (pop st)))) ∷ pop (pop st)
made g.NullStatement st = a_statement (m.null (place (top st))) ∷ pop st
made g.NameStatement st = a_statement (begun (the_ident (top st)) (top (pop st))) ∷ pop (pop st)
made g.Assignment st = assigned (the_expression (top st)) ∷ pop st
made g.NamedStatement st = followed (the_args (top st)) (the_parts (top (pop st))) (top (pop (pop st))) ∷ pop (pop (pop st))
made g.Call st = called ∷ st
made g.If st = a_statement (m.if_then (place (top st)) (the_expression (top (pop st))) (the_statements (top (pop (pop st)))) (the_arms (top (pop (pop (pop st))))) (otherwise (top (pop (pop (pop (pop st))))))) ∷ pop (pop (pop (pop (pop st))))
made g.Elsif st = an_arm (place (top st)) (the_expression (top (pop st))) (the_statements (top (pop (pop st)))) ∷ pop (pop (pop st))
made g.Loop st = a_statement (m.loop None (loop_place (top st) (top (pop st))) (the_iteration (top st)) (the_statements (top (pop (pop st)))) (opt_ident (top (pop (pop (pop st))))) (place (top (pop (pop (pop (pop st))))))) ∷ pop (pop (pop (pop (pop st))))
made g.While st = an_iteration (place (top st)) (m.while (the_expression (top (pop st)))) ∷ pop (pop st)
made g.For st = an_iteration (place (top st)) (m.for (the_ident (top (pop st))) (is_there (top (pop (pop st)))) (the_simple (top (pop (pop (pop st))))) (the_simple (top (pop (pop (pop (pop st))))))) ∷ pop (pop (pop (pop (pop st))))
made g.Reverse st = there ∷ st
made g.Block st = a_statement (m.block None (block_place (top st) (the_body (top (pop st)))) (is_declare (top st)) (block_declarations (top st)) (the_body (top (pop st)))) ∷ pop (pop st)
made g.Declare st = a_declare (place (top st)) (the_declarations (top (pop st))) ∷ pop (pop st)
made g.Return st = a_statement (m.return (place (top st)) (opt_expression (top (pop st)))) ∷ pop (pop st)
made g.Raise st = a_statement (m.raise (place (top st)) (opt_ident (top (pop st)))) ∷ pop (pop st)
made g.Exit st = a_statement (m.exit (place (top st)) (opt_ident (top (pop st))) (opt_expression (top (pop (pop st))))) ∷ pop (pop (pop st))
made g.Expression st = an_expression (connected (the_relation (top st)) (top (pop st))) ∷ pop (pop st)
made g.AndThen st = chained connective.AndThen st
made g.AndOnly st = chained connective.And st
made g.OrElse st = chained connective.OrElse st
made g.OrOnly st = chained connective.Or st
made g.XorLogic st = chained connective.Xor st
made g.Relation st = a_relation (compared (the_simple (top st)) (top (pop st))) ∷ pop (pop st)
made g.Compared st = a_compared (the_relational (top st)) (the_simple (top (pop st))) ∷ pop (pop st)
made g.Equal st = a_relational relational.Equal ∷ st
made g.Unequal st = a_relational relational.Unequal ∷ st
made g.Less st = a_relational relational.Less ∷ st
made g.AtMost st = a_relational relational.AtMost ∷ st
made g.Greater st = a_relational relational.Greater ∷ st
made g.AtLeast st = a_relational relational.AtLeast ∷ st
made g.Simple st = a_simple (m.simple (opt_sign (top st)) (the_term (top (pop st))) (the_addeds (top (pop (pop st))))) ∷ pop (pop (pop st))
made g.Positive st = a_sign (record { sign = sign.Plus; at = place (top st) }) ∷ pop st
made g.Negative st = a_sign (record { sign = sign.Minus; at = place (top st) }) ∷ pop st
made g.Added st = an_added (m.added (the_adding (top st)) (the_term (top (pop st)))) ∷ pop (pop st)
made g.Plus st = an_adding adding.Plus ∷ st
made g.Minus st = an_adding adding.Minus ∷ st
made g.Join st = an_adding adding.Join ∷ st
made g.Term st = a_term (m.term (the_factor (top st)) (the_multiplieds (top (pop st)))) ∷ pop (pop st)
made g.Multiplied st = a_multiplied (m.multiplied (the_multiplying (top st)) (the_factor (top (pop st)))) ∷ pop (pop st)
made g.Times st = a_multiplying multiplying.Times ∷ st
made g.Divide st = a_multiplying multiplying.Divide ∷ st
made g.Modulo st = a_multiplying multiplying.Modulo ∷ st
made g.Remainder st = a_multiplying multiplying.Remainder ∷ st
made g.Factor st = a_factor (m.factor (opt_operator (top st)) (the_primary (top (pop st)))) ∷ pop (pop st)
made g.Magnitude st = an_operator (record { highest = highest.Magnitude; at = place (top st) }) ∷ pop st
made g.Not st = an_operator (record { highest = highest.Not; at = place (top st) }) ∷ pop st
made g.Integer st = a_primary (m.integer (the_number (top st))) ∷ pop st
made g.String st = a_primary (m.text (the_literal (top st))) ∷ pop st
made g.Named st = a_primary (with_attribute (the_name (top st)) (top (pop st))) ∷ pop (pop st)
made g.Attribute st = an_attribute (the_ident (top st)) (opt_inside (top (pop st))) ∷ pop (pop st)
made g.Group st = a_primary (m.group (opening (top st)) (inside (top st))) ∷ pop st
made g.InParens st = in_parens (place (top st)) (the_expression (top (pop st))) ∷ pop (pop st)
made g.Name st = a_name (m.named (the_part (top st)) (the_parts (top (pop st)))) ∷ pop (pop st)
made g.NamePart st = a_part (m.part (the_ident (top st)) (the_args (top (pop st)))) ∷ pop (pop st)
made g.InArgs st = some_args (m.more_args (the_expression (top st)) (expression_args (top (pop st)))) ∷ pop (pop st)
made g.Identifier st = an_ident (ident_of (top st)) ∷ pop st
made g.Number st = a_number (number_of (top st)) ∷ pop st
made g.Literal st = a_literal (literal_of (top st)) ∷ pop st
made g.Real st = a_real (real_of (top st)) ∷ pop st
made g.DelayStatement st = a_statement (m.delaying (the_delay (top st))) ∷ pop st
made g.Delay st = a_delay (delayed (place (top st)) (top (pop st))) ∷ pop (pop st)
made g.Seconds st = seconds (the_real (top st)) ∷ pop st
made g.DurationOf st = duration_of (place (top st)) (inside (top (pop st))) ∷ pop (pop st)
made g.EntryDeclaration st = an_entry (record { name = the_ident (top st); formals = the_formals (top (pop st)) }) ∷ pop (pop st)
made g.AcceptStatement st = a_statement (m.accepting (the_accept (top st))) ∷ pop st
made g.Accept st = an_accept (m.accept (place (top st)) (the_ident (top (pop st))) (the_formals (top (pop (pop st)))) (the_doing (top (pop (pop (pop st)))))) ∷ pop (pop (pop (pop st)))
made g.Do st = a_doing (m.with_do (m.body (place (top st)) (the_statements (top (pop st))) (the_handlers (top (pop (pop st)))) (place (top (pop (pop (pop st))))) (opt_ident (top (pop (pop (pop (pop st)))))) (place (top (pop (pop (pop (pop (pop st))))))))) ∷ pop (pop (pop (pop (pop (pop st)))))
made g.WithoutDo st = a_doing m.without_do ∷ st
made g.Select st = a_statement (selected (place (top st)) (top (pop st))) ∷ pop (pop st)
made g.CallSelect st = selects_call (the_name (top st)) (otherwise (top (pop st))) (the_otherwise (top (pop (pop st)))) ∷ pop (pop (pop st))
made g.OrDelay st = an_otherwise (m.or_delay (the_delay (top st)) (otherwise (top (pop st)))) ∷ pop (pop st)
made g.OrElsePart st = an_otherwise (m.or_else (the_statements (top st))) ∷ pop st
made g.AcceptSelect st = selects (opt_expression (top st)) (first_alternative (top (pop st))) (other_alternatives (top (pop st))) (else_part (top (pop st))) ∷ pop (pop st)
made g.AcceptsOnly st = unguarded (the_alternative (top st)) (other_alternatives (top (pop st))) (else_part (top (pop st))) ∷ pop (pop st)
made g.SelectElse st = further m.no_alternatives (otherwise (top st)) ∷ pop st
made g.OrAny st = further (m.more_alternatives (opt_expression (top st)) (first_alternative (top (pop st))) (other_alternatives (top (pop st)))) (else_part (top (pop st))) ∷ pop (pop st)
made g.WithDelays st = unguarded (the_alternative (top st)) (the_alternatives (top (pop st))) m.no_statements ∷ pop (pop st)
made g.WithTerminate st = unguarded (the_alternative (top st)) (the_alternatives (top (pop st))) m.no_statements ∷ pop (pop st)
made g.DelaysAccept st = unguarded (the_alternative (top st)) (the_alternatives (top (pop st))) m.no_statements ∷ pop (pop st)
made g.OrEither st = guarded (opt_expression (top st)) (the_alternative (top (pop st))) ∷ pop (pop st)
made g.OrAccept st = guarded (opt_expression (top st)) (the_alternative (top (pop st))) ∷ pop (pop st)
made g.DelaysFirst st = unguarded (the_alternative (top st)) (m.more_alternatives (opt_expression (top (pop st))) (first_alternative (top (pop (pop st)))) (other_alternatives (top (pop (pop st))))) (else_part (top (pop (pop st)))) ∷ pop (pop (pop st))
made g.TerminateFirst st = unguarded (the_alternative (top st)) (with_guarded (top (pop st)) (the_alternatives (top (pop (pop st))))) m.no_statements ∷ pop (pop (pop st))
made g.AcceptAlternative st = an_alternative (m.accept_alternative (the_accept (top st)) (otherwise (top (pop st)))) ∷ pop (pop st)
made g.DelayAlternative st = an_alternative (m.delay_alternative (the_delay (top st)) (otherwise (top (pop st)))) ∷ pop (pop st)
made g.TerminateAlternative st = an_alternative m.terminate_alternative ∷ st
made g.Protected st = a_declaration (protected_declared (place (top st)) (top (pop st))) ∷ pop (pop st)
made g.ProtectedDeclaration st = a_protected (the_ident (top st)) (the_operations (top (pop st))) (opt_private (top (pop (pop st)))) (opt_ident (top (pop (pop (pop st))))) ∷ pop (pop (pop (pop st)))
made g.PrivatePart st = some_private (the_private_items (top st)) ∷ pop st
made g.PrivateOperation st = a_private_item (m.private_operation (the_operation (top st))) ∷ pop st
made g.Components st = a_private_item (m.components (first_name (top st)) (other_names (top st)) (the_ident (top (pop st))) (opt_expression (top (pop (pop st))))) ∷ pop (pop (pop st))
made g.EntryOperation st = an_operation (m.entry_operation (the_entry (top st))) ∷ pop st
made g.ProcedureOperation st = an_operation (m.procedure_operation (the_ident (top st)) (the_formals (top (pop st)))) ∷ pop (pop st)
made g.FunctionOperation st = an_operation (m.function_operation (the_ident (top st)) (the_formals (top (pop st))) (the_ident (top (pop (pop st))))) ∷ pop (pop (pop st))
made g.ProtectedBody st = a_protected_body (the_ident (top st)) (the_operation_bodies (top (pop st))) (opt_ident (top (pop (pop st)))) ∷ pop (pop (pop st))
made g.EntryBody st = an_operation_body (m.entry_body (place (top st)) (the_ident (top (pop st))) (the_formals (top (pop (pop st)))) (the_expression (top (pop (pop (pop st))))) (the_declarations (top (pop (pop (pop (pop st)))))) (the_body (top (pop (pop (pop (pop (pop st)))))))) ∷ pop (pop (pop (pop (pop (pop st)))))
made g.ProcedureBody st = an_operation_body (m.procedure_body (place (top st)) (the_ident (top (pop st))) (the_formals (top (pop (pop st)))) (the_declarations (top (pop (pop (pop st))))) (the_body (top (pop (pop (pop (pop st))))))) ∷ pop (pop (pop (pop (pop st))))
made g.FunctionBody st = an_operation_body (m.function_body (place (top st)) (the_ident (top (pop st))) (the_formals (top (pop (pop st)))) (the_ident (top (pop (pop (pop st))))) (the_declarations (top (pop (pop (pop (pop st)))))) (the_body (top (pop (pop (pop (pop (pop st)))))))) ∷ pop (pop (pop (pop (pop (pop st)))))
made g.Abort st = a_statement (m.abort (place (top st)) (the_name (top (pop st))) (the_names (top (pop (pop st))))) ∷ pop (pop (pop st))
made g.Requeue st = a_statement (m.requeue (place (top st)) (the_name (top (pop st))) (is_there (top (pop (pop st))))) ∷ pop (pop (pop st))
made g.WithAbort st = there ∷ st
made _ st = st

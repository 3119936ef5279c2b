-- Syntax trees as plain data, with nothing of where they lie in memory (RM 3 to 6, 9, 11). The grammar says which of them programs have.
use Rattle.std.specs.Prelude.{List, Option, Bool}
use Rattle.aud_text.specs.declared.place.Pos.{Pos}
use Rattle.aud_syntax.specs.declared.tree.Ident.{Ident}
use Rattle.aud_syntax.specs.declared.tree.Number.{Number}
use Rattle.aud_syntax.specs.declared.tree.Real.{Real}
use Rattle.aud_syntax.specs.declared.tree.Literal.{Literal}
use Rattle.aud_syntax.specs.declared.tree.Signed.{Signed}
use Rattle.aud_syntax.specs.declared.tree.Adding.{Adding}
use Rattle.aud_syntax.specs.declared.tree.Multiplying.{Multiplying}
use Rattle.aud_syntax.specs.declared.tree.Operator.{Operator}
use Rattle.aud_syntax.specs.declared.tree.Relational.{Relational}
use Rattle.aud_syntax.specs.declared.tree.Connective.{Connective}
use Rattle.aud_syntax.specs.declared.tree.Bound.{Bound}
use Rattle.aud_syntax.specs.declared.tree.Mode.{Mode}

-- expressions and names (RM 4.1, 4.4)
mutual
  -- one relation, or the first, the second and further ones with the same operator between each two
  pub data Expression : Type 0 where
    alone : Relation → Expression
    connected : Connective → Relation → Relation → Relations → Expression

  pub data Relations : Type 0 where
    no_relations : Relations
    more_relations : Relation → Relations → Relations

  pub data Relation : Type 0 where
    unrelated : Simple → Relation
    related : Relational → Simple → Simple → Relation

  pub data Simple : Type 0 where
    simple : Option Signed → Term → Addeds → Simple

  pub data Addeds : Type 0 where
    no_addeds : Addeds
    more_addeds : Added → Addeds → Addeds

  pub data Added : Type 0 where
    added : Adding → Term → Added

  pub data Term : Type 0 where
    term : Factor → Multiplieds → Term

  pub data Multiplieds : Type 0 where
    no_multiplieds : Multiplieds
    more_multiplieds : Multiplied → Multiplieds → Multiplieds

  pub data Multiplied : Type 0 where
    multiplied : Multiplying → Factor → Multiplied

  pub data Factor : Type 0 where
    factor : Option Operator → Primary → Factor

  pub data Primary : Type 0 where
    integer : Number → Primary
    text : Literal → Primary
    name : Name → Primary
    attribute : Name → Ident → MaybeExpression → Primary
    -- in parentheses, which open at a place
    group : Pos → Expression → Primary

  pub data MaybeExpression : Type 0 where
    no_expression : MaybeExpression
    an_expression : Expression → MaybeExpression

  -- the first part, and those after points
  pub data Name : Type 0 where
    named : NamePart → Parts → Name

  pub data Parts : Type 0 where
    no_parts : Parts
    more_parts : NamePart → Parts → Parts

  pub data NamePart : Type 0 where
    part : Ident → Args → NamePart

  -- no arguments: no parentheses
  pub data Args : Type 0 where
    no_args : Args
    more_args : Expression → Args → Args

-- formal parameters: the first name, the others, how they are passed, and their subtype (RM 6.1)
pub data Formal : Type 0 where
  formal : Ident → List Ident → Mode → Ident → Formal

-- RM 9.5.2(2)
pub record EntryDeclaration : Type 0 where
  pub name : Ident
  pub formals : List Formal

-- what stands in the declaration of a task behind `is`: its entries, and the name behind `end` (RM 9.1(4))
pub record TaskDefinition : Type 0 where
  pub entries : List EntryDeclaration
  pub end_name : Option Ident

-- what a protected object does for others (RM 9.4(5)); the subtype of a function's value is last
pub data Operation : Type 0 where
  entry_operation : EntryDeclaration → Operation
  procedure_operation : Ident → List Formal → Operation
  function_operation : Ident → List Formal → Ident → Operation

-- what stands behind `private` (RM 9.4(6)): operations; components, with their subtype and value
pub data PrivateItem : Type 0 where
  private_operation : Operation → PrivateItem
  components : Ident → List Ident → Ident → MaybeExpression → PrivateItem

-- where `delay` stands, and for how long: so many seconds, or Duration, which stands there, of an expression (RM 9.6)
pub data Delay : Type 0 where
  delay_real : Pos → Real → Delay
  delay_duration : Pos → Pos → Expression → Delay

-- further names, each behind a comma (RM 9.8(2))
pub data Names : Type 0 where
  no_names : Names
  more_names : Name → Names → Names

-- RM 5.5(3)
pub data Iteration : Type 0 where
  forever : Iteration
  while : Expression → Iteration
  -- the parameter, whether its values come in reverse, and their bounds (RM 5.5(4))
  for : Ident → Bool → Simple → Simple → Iteration

-- for what a handler is: for these exceptions, or for all that no handler before it names, and where `others` stands (RM 11.2(5))
pub data Choices : Type 0 where
  exceptions : Ident → List Ident → Choices
  others : Pos → Choices

-- declarations, statements and bodies (RM 3.1, 5.1, 11.2)
mutual
  -- of each but procedures and tasks the first name and the others
  pub data Declaration : Type 0 where
    -- the subtype and the value (RM 3.3.1)
    object : Ident → List Ident → Ident → MaybeExpression → Declaration
    constant : Ident → List Ident → Ident → Expression → Declaration
    -- the bounds of the index, and the subtype of the elements (RM 3.3.1, 3.6)
    array : Ident → List Ident → Bound → Bound → Ident → Declaration
    -- RM 11.1
    exception : Ident → List Ident → Declaration
    -- where `procedure` stands, the name, the formal parameters, the declarations and the body (RM 6.3)
    procedure : Pos → Ident → List Formal → Declarations → Body → Declaration
    -- where `task` stands, whether a type is declared, the name, and the definition, if there is one (RM 9.1)
    task : Pos → Bool → Ident → Option TaskDefinition → Declaration
    -- where `task` stands, the name, the declarations and the body (RM 9.1(6))
    task_body : Pos → Ident → Declarations → Body → Declaration
    -- where `protected` stands, the name, the operations, what stands behind `private`, if it does, and the name behind `end` (RM 9.4)
    protected : Pos → Ident → List Operation → Option (List PrivateItem) → Option Ident → Declaration
    -- the same of a body: where it stands, the name, the bodies of the operations, and the name behind `end` (RM 9.4(7))
    protected_body : Pos → Ident → OperationBodies → Option Ident → Declaration

  pub data Declarations : Type 0 where
    no_declarations : Declarations
    more_declarations : Declaration → Declarations → Declarations

  pub data Statement : Type 0 where
    null : Pos → Statement
    assign : Name → Expression → Statement
    -- its arguments are those of the name
    call : Name → Statement
    -- where `if` stands, its condition and statements, those behind each `elsif`, and the statements behind `else` (RM 5.3)
    if_then : Pos → Expression → Statements → Arms → MoreStatements → Statement
    -- its name, where its first word behind that stands, the name behind `end loop`, and where the semicolon stands (RM 5.5)
    loop : Option Ident → Pos → Iteration → Statements → Option Ident → Pos → Statement
    -- where it stands, the name of the loop, and the condition (RM 5.7)
    exit : Pos → Option Ident → MaybeExpression → Statement
    -- its name, where its first word behind that stands, whether that is `declare`, the declarations and the body (RM 5.6)
    block : Option Ident → Pos → Bool → Declarations → Body → Statement
    -- where it stands, and the value, if there is one (RM 6.5)
    return : Pos → MaybeExpression → Statement
    -- where it stands, and the exception; none is named where one is raised again (RM 11.3)
    raise : Pos → Option Ident → Statement
    accepting : Accept → Statement
    delaying : Delay → Statement
    -- where `select` stands, the guard of the first alternative, that alternative, the others, and the statements behind `else` (RM 9.7.1)
    select_accept : Pos → MaybeExpression → Alternative → Alternatives → MoreStatements → Statement
    -- where `select` stands, the entry call, the statements behind it, and what is done in place of it (RM 9.7.2, 9.7.3)
    select_call : Pos → Name → MoreStatements → Otherwise → Statement
    -- where it stands, the first task, and the others (RM 9.8)
    abort : Pos → Name → Names → Statement
    -- where it stands, the entry, and whether `with abort` stands behind it (RM 9.5.4)
    requeue : Pos → Name → Bool → Statement

  -- the first statement, and those behind it (RM 5.1(2))
  pub data Statements : Type 0 where
    in_order : Statement → MoreStatements → Statements

  pub data MoreStatements : Type 0 where
    no_statements : MoreStatements
    more_statements : Statement → MoreStatements → MoreStatements

  -- of each: where `elsif` stands
  pub data Arms : Type 0 where
    no_arms : Arms
    more_arms : Pos → Expression → Statements → Arms → Arms

  -- where `begin` stands, the statements, the handlers, where `end` stands, the name after it, and where the semicolon stands (RM 11.2)
  pub data Body : Type 0 where
    body : Pos → Statements → Handlers → Pos → Option Ident → Pos → Body

  -- RM 11.2(3)
  pub data Handlers : Type 0 where
    no_handlers : Handlers
    more_handlers : Choices → Statements → Handlers → Handlers

  -- of each: where its first word stands, the name, the formal parameters, the declarations and the body (RM 9.4(8))
  pub data OperationBody : Type 0 where
    -- and the barrier (RM 9.5.2(5, 7))
    entry_body : Pos → Ident → List Formal → Expression → Declarations → Body → OperationBody
    procedure_body : Pos → Ident → List Formal → Declarations → Body → OperationBody
    -- and the subtype of its value
    function_body : Pos → Ident → List Formal → Ident → Declarations → Body → OperationBody

  pub data OperationBodies : Type 0 where
    no_bodies : OperationBodies
    more_bodies : OperationBody → OperationBodies → OperationBodies

  -- where `accept` stands, the entry, the formal parameters, and what is done (RM 9.5.2(3))
  pub data Accept : Type 0 where
    accept : Pos → Ident → List Formal → Doing → Accept

  -- statements with handlers, which stand behind `do` in place of `begin`
  pub data Doing : Type 0 where
    without_do : Doing
    with_do : Body → Doing

  -- what is waited for, and the statements behind it (RM 9.7.1(3))
  pub data Alternative : Type 0 where
    accept_alternative : Accept → MoreStatements → Alternative
    delay_alternative : Delay → MoreStatements → Alternative
    terminate_alternative : Alternative

  -- each behind its guard, if it has one (RM 9.7.1(2))
  pub data Alternatives : Type 0 where
    no_alternatives : Alternatives
    more_alternatives : MaybeExpression → Alternative → Alternatives → Alternatives

  -- in place of an entry call: a delay and the statements behind it, or statements (RM 9.7.2, 9.7.3)
  pub data Otherwise : Type 0 where
    or_delay : Delay → MoreStatements → Otherwise
    or_else : Statements → Otherwise

-- a context clause for Ada.Text_IO, and where it begins (RM 10.1.2, 8.4)
pub data Context : Type 0 where
  with_text_io : Pos → Context
  use_text_io : Pos → Context

-- its context clauses, where `procedure` stands, its name, its declarations and its body (RM 10.1.1)
pub data Unit : Type 0 where
  unit : List Context → Pos → Ident → Declarations → Body → Unit

-- The sorts of trees that phrases make.
use Rattle.std.specs.Prelude.{ℕ, List, codes}
use Rattle.aud_syntax.specs.declared.tree.Connective.{Connective}
use Rattle.aud_syntax.specs.declared.tree.Connective.TheVariants as connective
use Rattle.aud_grammar.specs.Grammar as g
use Rattle.aud_grammar.specs.Grammar.{Phrase}

pub data Sort : Type 0 where
  s_context s_library s_declaration_rest s_index s_bound s_negated : Sort
  s_formals s_formal s_more_formal s_mode s_in_out : Sort
  s_task_rest s_task_type s_definition : Sort
  s_behind s_selected s_more_arg : Sort
  s_unit s_declarations s_declaration s_idents s_initial s_body s_statements s_statement s_rest : Sort
  s_expression s_logic s_and_rest s_or_rest s_relation s_compared s_relational s_simple s_sign s_added s_adding s_term s_multiplied s_multiplying s_factor s_operator : Sort
  s_primary s_attribute s_parens s_name s_part s_args s_ident s_number s_literal : Sort
  s_arm s_else s_unlabelled s_iteration s_reverse s_when s_declare s_handlers s_handler_list s_handler s_choices : Sort
  s_real s_time s_delay s_entry s_doing s_accept s_select_rest s_otherwise s_guard s_alternative s_guarded s_unguarded s_further : Sort
  s_operation s_private_item s_private s_protected_rest s_operation_body s_more_name s_with_abort : Sort
  -- a further name behind this delimiter
  s_more_ident : List ℕ → Sort
  -- a further relation behind this operator
  s_more_relation : Connective → Sort

-- of each phrase
abbrev pub sort : Phrase → Sort
sort g.Unit = s_unit
sort g.Clause = s_context
sort g.WithClause = s_context
sort g.UseClause = s_context
sort g.Library = s_library
sort g.Declarations = s_declarations
sort g.DeclarationList = s_declarations
sort g.Declaration = s_declaration
sort g.NamedDeclaration = s_declaration
sort g.Procedure = s_declaration
sort g.Formals = s_formals
sort g.InFormals = s_formals
sort g.Formal = s_formal
sort g.MoreFormals = s_more_formal
sort g.Mode = s_mode
sort g.InMode = s_mode
sort g.InOut = s_in_out
sort g.OutMode = s_mode
sort g.Task = s_declaration
sort g.TaskRest = s_task_rest
sort g.TaskDeclaration = s_task_rest
sort g.TaskType = s_task_type
sort g.TaskDefinition = s_definition
sort g.TaskBody = s_task_rest
sort g.Identifiers = s_idents
sort g.MoreIdentifiers = s_more_ident (codes ",")
sort g.DeclarationRest = s_declaration_rest
sort g.Variable = s_declaration_rest
sort g.Constant = s_declaration_rest
sort g.ArrayRest = s_declaration_rest
sort g.Index = s_index
sort g.InIndex = s_index
sort g.Bound = s_bound
sort g.Negated = s_negated
sort g.ExceptionRest = s_declaration_rest
sort g.Initial = s_initial
sort g.Body = s_body
sort g.Handlers = s_handlers
sort g.HandlerList = s_handler_list
sort g.Handler = s_handler
sort g.Choices = s_choices
sort g.Others = s_choices
sort g.NamedChoices = s_choices
sort g.MoreChoices = s_more_ident (codes "|")
sort g.Statements = s_statements
sort g.StatementList = s_statements
sort g.Statement = s_statement
sort g.NullStatement = s_statement
sort g.NameStatement = s_statement
sort g.NameRest = s_behind
sort g.NamedStatement = s_behind
sort g.StatementRest = s_rest
sort g.Assignment = s_rest
sort g.Call = s_rest
sort g.Labelled = s_behind
sort g.If = s_statement
sort g.Elsif = s_arm
sort g.ElsePart = s_else
sort g.Labellable = s_unlabelled
sort g.Loop = s_unlabelled
sort g.Iteration = s_iteration
sort g.While = s_iteration
sort g.For = s_iteration
sort g.Reverse = s_reverse
sort g.Block = s_unlabelled
sort g.Declare = s_declare
sort g.Return = s_statement
sort g.Raise = s_statement
sort g.Exit = s_statement
sort g.When = s_when
sort g.Expression = s_expression
sort g.Logic = s_logic
sort g.AndLogic = s_logic
sort g.AndRest = s_and_rest
sort g.AndThen = s_and_rest
sort g.AndOnly = s_and_rest
sort g.MoreAndThen = s_more_relation connective.AndThen
sort g.MoreAnd = s_more_relation connective.And
sort g.OrLogic = s_logic
sort g.OrRest = s_or_rest
sort g.OrElse = s_or_rest
sort g.OrOnly = s_or_rest
sort g.MoreOrElse = s_more_relation connective.OrElse
sort g.MoreOr = s_more_relation connective.Or
sort g.XorLogic = s_logic
sort g.MoreXor = s_more_relation connective.Xor
sort g.Relation = s_relation
sort g.Compared = s_compared
sort g.RelationalOperator = s_relational
sort g.Equal = s_relational
sort g.Unequal = s_relational
sort g.Less = s_relational
sort g.AtMost = s_relational
sort g.Greater = s_relational
sort g.AtLeast = s_relational
sort g.Simple = s_simple
sort g.Sign = s_sign
sort g.Positive = s_sign
sort g.Negative = s_sign
sort g.Added = s_added
sort g.AddingOperator = s_adding
sort g.Plus = s_adding
sort g.Minus = s_adding
sort g.Join = s_adding
sort g.Term = s_term
sort g.Multiplied = s_multiplied
sort g.MultiplyingOperator = s_multiplying
sort g.Times = s_multiplying
sort g.Divide = s_multiplying
sort g.Modulo = s_multiplying
sort g.Remainder = s_multiplying
sort g.Factor = s_factor
sort g.Operator = s_operator
sort g.Magnitude = s_operator
sort g.Not = s_operator
sort g.Primary = s_primary
sort g.Integer = s_primary
sort g.String = s_primary
sort g.Named = s_primary
sort g.Attribute = s_attribute
sort g.Group = s_primary
sort g.Parens = s_parens
sort g.InParens = s_parens
sort g.Name = s_name
sort g.NamePart = s_part
sort g.Selected = s_selected
sort g.MoreArgs = s_more_arg
sort g.Args = s_args
sort g.InArgs = s_args
sort g.Identifier = s_ident
sort g.Number = s_number
sort g.Literal = s_literal
sort g.Real = s_real
sort g.DelayStatement = s_statement
sort g.Delay = s_delay
sort g.DelayTime = s_time
sort g.Seconds = s_time
sort g.DurationOf = s_time
sort g.EntryDeclaration = s_entry
sort g.AcceptStatement = s_statement
sort g.Accept = s_accept
sort g.AcceptRest = s_doing
sort g.Do = s_doing
sort g.WithoutDo = s_doing
sort g.Select = s_statement
sort g.SelectRest = s_select_rest
sort g.CallSelect = s_select_rest
sort g.Otherwise = s_otherwise
sort g.OrDelay = s_otherwise
sort g.OrElsePart = s_otherwise
sort g.AcceptSelect = s_select_rest
sort g.Guard = s_guard
sort g.FirstAlternative = s_unguarded
sort g.AcceptsOnly = s_unguarded
sort g.AfterAccept = s_further
sort g.SelectElse = s_further
sort g.OrAny = s_further
sort g.AnyAlternative = s_unguarded
sort g.WithDelays = s_unguarded
sort g.OrEither = s_guarded
sort g.Either = s_alternative
sort g.WithTerminate = s_unguarded
sort g.OrAccept = s_guarded
sort g.DelaysFirst = s_unguarded
sort g.NeedAccept = s_unguarded
sort g.DelaysAccept = s_unguarded
sort g.TerminateFirst = s_unguarded
sort g.AcceptAlternative = s_alternative
sort g.DelayAlternative = s_alternative
sort g.TerminateAlternative = s_alternative
sort g.Protected = s_declaration
sort g.ProtectedRest = s_protected_rest
sort g.ProtectedDeclaration = s_protected_rest
sort g.PrivatePart = s_private
sort g.PrivateItem = s_private_item
sort g.PrivateOperation = s_private_item
sort g.Components = s_private_item
sort g.Operation = s_operation
sort g.EntryOperation = s_operation
sort g.ProcedureOperation = s_operation
sort g.FunctionOperation = s_operation
sort g.ProtectedBody = s_protected_rest
sort g.OperationBody = s_operation_body
sort g.EntryBody = s_operation_body
sort g.ProcedureBody = s_operation_body
sort g.FunctionBody = s_operation_body
sort g.Abort = s_statement
sort g.MoreNames = s_more_name
sort g.Requeue = s_statement
sort g.WithAbort = s_with_abort

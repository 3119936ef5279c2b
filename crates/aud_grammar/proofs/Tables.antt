-- What the laws need to know of each phrase. Written by tools/grammar_tables.py, and checked in Reading and Ends.
use Rattle.std.specs.Prelude.{ℕ, List, [], ◌∷◌}
use Rattle.aud_grammar.specs.Grammar.{Phrase, Unit, Clause, WithClause, UseClause, Library, Declarations, DeclarationList, Declaration, NamedDeclaration, Identifiers, MoreIdentifiers, DeclarationRest, Variable, Constant, Initial, ArrayRest, Index, InIndex, Bound, Negated, ExceptionRest, Procedure, Formals, InFormals, MoreFormals, Formal, Mode, InMode, InOut, OutMode, Task, TaskRest, TaskDeclaration, TaskType, TaskDefinition, TaskBody, Body, Handlers, HandlerList, Handler, Choices, Others, NamedChoices, MoreChoices, Statements, StatementList, Statement, NullStatement, NameStatement, NameRest, Labelled, Labellable, NamedStatement, StatementRest, Assignment, Call, If, Elsif, ElsePart, Loop, Iteration, While, For, Reverse, Block, Declare, Exit, When, Return, Raise, Expression, Logic, AndLogic, AndRest, AndThen, AndOnly, MoreAndThen, MoreAnd, OrLogic, OrRest, OrElse, OrOnly, MoreOrElse, MoreOr, XorLogic, MoreXor, Relation, Compared, RelationalOperator, Equal, Unequal, Less, AtMost, Greater, AtLeast, Simple, Sign, Positive, Negative, Added, AddingOperator, Plus, Minus, Join, Term, Multiplied, MultiplyingOperator, Times, Divide, Modulo, Remainder, Factor, Operator, Magnitude, Not, Primary, Integer, String, Named, Attribute, Group, Parens, InParens, Name, NamePart, Selected, Args, InArgs, MoreArgs, Identifier, Number, Literal, Real, DelayStatement, Delay, DelayTime, Seconds, DurationOf, EntryDeclaration, AcceptStatement, Accept, AcceptRest, Do, WithoutDo, Select, SelectRest, CallSelect, Otherwise, OrDelay, OrElsePart, AcceptSelect, Guard, FirstAlternative, AcceptsOnly, AfterAccept, SelectElse, OrAny, AnyAlternative, WithDelays, OrEither, Either, WithTerminate, OrAccept, DelaysFirst, NeedAccept, DelaysAccept, TerminateFirst, AcceptAlternative, DelayAlternative, TerminateAlternative, Protected, ProtectedRest, ProtectedDeclaration, PrivatePart, PrivateItem, PrivateOperation, Components, Operation, EntryOperation, ProcedureOperation, FunctionOperation, ProtectedBody, OperationBody, EntryBody, ProcedureBody, FunctionBody, Abort, MoreNames, Requeue, WithAbort}

-- the kinds that may come behind some phrases, as numbers; 999 is the end of the tokens
abbrev behind_unit : List ℕ
behind_unit = 999 ∷ []

abbrev behind_clause : List ℕ
behind_clause = 48 ∷ 69 ∷ 72 ∷ []

abbrev behind_declarations : List ℕ
behind_declarations = 10 ∷ []

abbrev behind_declaration : List ℕ
behind_declaration = 10 ∷ 48 ∷ 49 ∷ 64 ∷ 100 ∷ []

abbrev behind_identifiers : List ℕ
behind_identifiers = 84 ∷ []

abbrev behind_more_identifiers : List ℕ
behind_more_identifiers = 80 ∷ 84 ∷ []

abbrev behind_initial : List ℕ
behind_initial = 85 ∷ []

abbrev behind_index : List ℕ
behind_index = 39 ∷ []

abbrev behind_bound : List ℕ
behind_bound = 77 ∷ 91 ∷ []

abbrev behind_negated : List ℕ
behind_negated = 101 ∷ []

abbrev behind_formals : List ℕ
behind_formals = 18 ∷ 32 ∷ 56 ∷ 70 ∷ 85 ∷ []

abbrev behind_more_formals : List ℕ
behind_more_formals = 77 ∷ 85 ∷ []

abbrev behind_mode : List ℕ
behind_mode = 100 ∷ []

abbrev behind_body : List ℕ
behind_body = 0 ∷ 3 ∷ 10 ∷ 14 ∷ 15 ∷ 19 ∷ 20 ∷ 21 ∷ 22 ∷ 23 ∷ 24 ∷ 25 ∷ 26 ∷ 29 ∷ 34 ∷ 38 ∷ 40 ∷ 48 ∷ 49 ∷ 50 ∷ 55 ∷ 56 ∷ 58 ∷ 64 ∷ 70 ∷ 71 ∷ 100 ∷ 999 ∷ []

abbrev behind_handlers : List ℕ
behind_handlers = 21 ∷ []

abbrev behind_handler : List ℕ
behind_handler = 21 ∷ 70 ∷ []

abbrev behind_choices : List ℕ
behind_choices = 90 ∷ []

abbrev behind_more_choices : List ℕ
behind_more_choices = 89 ∷ 90 ∷ []

abbrev behind_statements : List ℕ
behind_statements = 19 ∷ 20 ∷ 21 ∷ 23 ∷ 40 ∷ 70 ∷ []

abbrev behind_statement : List ℕ
behind_statement = 0 ∷ 3 ∷ 10 ∷ 14 ∷ 15 ∷ 19 ∷ 20 ∷ 21 ∷ 23 ∷ 24 ∷ 25 ∷ 29 ∷ 34 ∷ 38 ∷ 40 ∷ 50 ∷ 55 ∷ 56 ∷ 58 ∷ 70 ∷ 71 ∷ 100 ∷ []

abbrev behind_elsif : List ℕ
behind_elsif = 19 ∷ 20 ∷ 21 ∷ []

abbrev behind_iteration : List ℕ
behind_iteration = 34 ∷ []

abbrev behind_reverse : List ℕ
behind_reverse = 1 ∷ 37 ∷ 76 ∷ 79 ∷ 81 ∷ 100 ∷ 101 ∷ 103 ∷ []

abbrev behind_expression : List ℕ
behind_expression = 32 ∷ 34 ∷ 66 ∷ 77 ∷ 80 ∷ 85 ∷ 90 ∷ 999 ∷ []

abbrev behind_more_and_then : List ℕ
behind_more_and_then = 7 ∷ 32 ∷ 34 ∷ 66 ∷ 77 ∷ 80 ∷ 85 ∷ 90 ∷ 999 ∷ []

abbrev behind_more_or_else : List ℕ
behind_more_or_else = 32 ∷ 34 ∷ 40 ∷ 66 ∷ 77 ∷ 80 ∷ 85 ∷ 90 ∷ 999 ∷ []

abbrev behind_more_xor : List ℕ
behind_more_xor = 32 ∷ 34 ∷ 66 ∷ 73 ∷ 77 ∷ 80 ∷ 85 ∷ 90 ∷ 999 ∷ []

abbrev behind_relation : List ℕ
behind_relation = 7 ∷ 32 ∷ 34 ∷ 40 ∷ 66 ∷ 73 ∷ 77 ∷ 80 ∷ 85 ∷ 90 ∷ 999 ∷ []

abbrev behind_simple : List ℕ
behind_simple = 7 ∷ 32 ∷ 34 ∷ 40 ∷ 66 ∷ 73 ∷ 77 ∷ 80 ∷ 85 ∷ 86 ∷ 87 ∷ 88 ∷ 90 ∷ 91 ∷ 93 ∷ 94 ∷ 95 ∷ 999 ∷ []

abbrev behind_sign : List ℕ
behind_sign = 1 ∷ 37 ∷ 76 ∷ 100 ∷ 101 ∷ 103 ∷ []

abbrev behind_added : List ℕ
behind_added = 7 ∷ 32 ∷ 34 ∷ 40 ∷ 66 ∷ 73 ∷ 74 ∷ 77 ∷ 79 ∷ 80 ∷ 81 ∷ 85 ∷ 86 ∷ 87 ∷ 88 ∷ 90 ∷ 91 ∷ 93 ∷ 94 ∷ 95 ∷ 999 ∷ []

abbrev behind_multiplied : List ℕ
behind_multiplied = 7 ∷ 32 ∷ 34 ∷ 35 ∷ 40 ∷ 53 ∷ 66 ∷ 73 ∷ 74 ∷ 77 ∷ 78 ∷ 79 ∷ 80 ∷ 81 ∷ 83 ∷ 85 ∷ 86 ∷ 87 ∷ 88 ∷ 90 ∷ 91 ∷ 93 ∷ 94 ∷ 95 ∷ 999 ∷ []

abbrev behind_operator : List ℕ
behind_operator = 76 ∷ 100 ∷ 101 ∷ 103 ∷ []

abbrev behind_name : List ℕ
behind_name = 7 ∷ 32 ∷ 34 ∷ 35 ∷ 40 ∷ 53 ∷ 66 ∷ 72 ∷ 73 ∷ 74 ∷ 75 ∷ 77 ∷ 78 ∷ 79 ∷ 80 ∷ 81 ∷ 83 ∷ 85 ∷ 86 ∷ 87 ∷ 88 ∷ 90 ∷ 91 ∷ 93 ∷ 94 ∷ 95 ∷ 999 ∷ []

abbrev behind_name_part : List ℕ
behind_name_part = 7 ∷ 32 ∷ 34 ∷ 35 ∷ 40 ∷ 53 ∷ 66 ∷ 72 ∷ 73 ∷ 74 ∷ 75 ∷ 77 ∷ 78 ∷ 79 ∷ 80 ∷ 81 ∷ 82 ∷ 83 ∷ 85 ∷ 86 ∷ 87 ∷ 88 ∷ 90 ∷ 91 ∷ 92 ∷ 93 ∷ 94 ∷ 95 ∷ 999 ∷ []

abbrev behind_more_args : List ℕ
behind_more_args = 77 ∷ 80 ∷ []

abbrev behind_identifier : List ℕ
behind_identifier = 7 ∷ 18 ∷ 30 ∷ 32 ∷ 34 ∷ 35 ∷ 40 ∷ 53 ∷ 56 ∷ 66 ∷ 70 ∷ 72 ∷ 73 ∷ 74 ∷ 75 ∷ 76 ∷ 77 ∷ 78 ∷ 79 ∷ 80 ∷ 81 ∷ 82 ∷ 83 ∷ 84 ∷ 85 ∷ 86 ∷ 87 ∷ 88 ∷ 89 ∷ 90 ∷ 91 ∷ 92 ∷ 93 ∷ 94 ∷ 95 ∷ 999 ∷ []

abbrev behind_entry_declaration : List ℕ
behind_entry_declaration = 21 ∷ 22 ∷ 26 ∷ 47 ∷ 48 ∷ 100 ∷ []

abbrev behind_guard : List ℕ
behind_guard = 3 ∷ 15 ∷ 65 ∷ []

abbrev behind_or_either : List ℕ
behind_or_either = 21 ∷ 40 ∷ []

abbrev behind_accept_alternative : List ℕ
behind_accept_alternative = 19 ∷ 21 ∷ 40 ∷ []

abbrev behind_private_item : List ℕ
behind_private_item = 21 ∷ 22 ∷ 26 ∷ 48 ∷ 100 ∷ []

abbrev behind_operation_body : List ℕ
behind_operation_body = 21 ∷ 22 ∷ 26 ∷ 48 ∷ []

abbrev behind_more_names : List ℕ
behind_more_names = 80 ∷ 85 ∷ []

abbrev known : Phrase → ℕ × List ℕ
known Unit = (5, behind_unit)
known Clause = (3, behind_clause)
known WithClause = (1, behind_clause)
known UseClause = (1, behind_clause)
known Library = (1, behind_clause)
known Declarations = (8, behind_declarations)
known DeclarationList = (6, behind_declarations)
known Declaration = (5, behind_declaration)
known NamedDeclaration = (3, behind_declaration)
known Identifiers = (2, behind_identifiers)
known MoreIdentifiers = (1, behind_more_identifiers)
known DeclarationRest = (4, behind_declaration)
known Variable = (2, behind_declaration)
known Constant = (1, behind_declaration)
known Initial = (1, behind_initial)
known ArrayRest = (1, behind_declaration)
known Index = (3, behind_index)
known InIndex = (1, behind_index)
known Bound = (3, behind_bound)
known Negated = (1, behind_negated)
known ExceptionRest = (1, behind_declaration)
known Procedure = (1, behind_declaration)
known Formals = (3, behind_formals)
known InFormals = (1, behind_formals)
known MoreFormals = (1, behind_more_formals)
known Formal = (3, behind_more_formals)
known Mode = (3, behind_mode)
known InMode = (1, behind_mode)
known InOut = (1, behind_mode)
known OutMode = (1, behind_mode)
known Task = (1, behind_declaration)
known TaskRest = (5, behind_declaration)
known TaskDeclaration = (3, behind_declaration)
known TaskType = (1, behind_mode)
known TaskDefinition = (1, behind_initial)
known TaskBody = (1, behind_declaration)
known Body = (1, behind_body)
known Handlers = (1, behind_handlers)
known HandlerList = (2, behind_handlers)
known Handler = (1, behind_handler)
known Choices = (4, behind_choices)
known Others = (1, behind_choices)
known NamedChoices = (2, behind_choices)
known MoreChoices = (1, behind_more_choices)
known Statements = (10, behind_statements)
known StatementList = (8, behind_statements)
known Statement = (7, behind_statement)
known NullStatement = (1, behind_statement)
known NameStatement = (2, behind_statement)
known NameRest = (7, behind_statement)
known Labelled = (1, behind_statement)
known Labellable = (7, behind_statement)
known NamedStatement = (5, behind_statement)
known StatementRest = (3, behind_statement)
known Assignment = (1, behind_statement)
known Call = (1, behind_statement)
known If = (1, behind_statement)
known Elsif = (1, behind_elsif)
known ElsePart = (1, behind_handlers)
known Loop = (5, behind_statement)
known Iteration = (3, behind_iteration)
known While = (1, behind_iteration)
known For = (1, behind_iteration)
known Reverse = (1, behind_reverse)
known Block = (3, behind_statement)
known Declare = (1, behind_declarations)
known Exit = (1, behind_statement)
known When = (1, behind_initial)
known Return = (1, behind_statement)
known Raise = (1, behind_statement)
known Expression = (11, behind_expression)
known Logic = (4, behind_expression)
known AndLogic = (1, behind_expression)
known AndRest = (13, behind_expression)
known AndThen = (1, behind_expression)
known AndOnly = (11, behind_expression)
known MoreAndThen = (1, behind_more_and_then)
known MoreAnd = (1, behind_more_and_then)
known OrLogic = (1, behind_expression)
known OrRest = (13, behind_expression)
known OrElse = (1, behind_expression)
known OrOnly = (11, behind_expression)
known MoreOrElse = (1, behind_more_or_else)
known MoreOr = (1, behind_more_or_else)
known XorLogic = (2, behind_expression)
known MoreXor = (1, behind_more_xor)
known Relation = (10, behind_relation)
known Compared = (4, behind_relation)
known RelationalOperator = (3, behind_reverse)
known Equal = (1, behind_reverse)
known Unequal = (1, behind_reverse)
known Less = (1, behind_reverse)
known AtMost = (1, behind_reverse)
known Greater = (1, behind_reverse)
known AtLeast = (1, behind_reverse)
known Simple = (9, behind_simple)
known Sign = (3, behind_sign)
known Positive = (1, behind_sign)
known Negative = (1, behind_sign)
known Added = (4, behind_added)
known AddingOperator = (3, behind_sign)
known Plus = (1, behind_sign)
known Minus = (1, behind_sign)
known Join = (1, behind_sign)
known Term = (8, behind_added)
known Multiplied = (4, behind_multiplied)
known MultiplyingOperator = (3, behind_sign)
known Times = (1, behind_sign)
known Divide = (1, behind_sign)
known Modulo = (1, behind_sign)
known Remainder = (1, behind_sign)
known Factor = (7, behind_multiplied)
known Operator = (3, behind_operator)
known Magnitude = (1, behind_operator)
known Not = (1, behind_operator)
known Primary = (6, behind_multiplied)
known Integer = (2, behind_multiplied)
known String = (2, behind_multiplied)
known Named = (4, behind_multiplied)
known Attribute = (1, behind_multiplied)
known Group = (4, behind_multiplied)
known Parens = (3, behind_multiplied)
known InParens = (1, behind_multiplied)
known Name = (3, behind_name)
known NamePart = (2, behind_name_part)
known Selected = (1, behind_name_part)
known Args = (3, behind_name_part)
known InArgs = (1, behind_name_part)
known MoreArgs = (1, behind_more_args)
known Identifier = (1, behind_identifier)
known Number = (1, behind_multiplied)
known Literal = (1, behind_multiplied)
known Real = (1, behind_initial)
known DelayStatement = (2, behind_statement)
known Delay = (1, behind_statement)
known DelayTime = (4, behind_initial)
known Seconds = (2, behind_initial)
known DurationOf = (1, behind_initial)
known EntryDeclaration = (1, behind_entry_declaration)
known AcceptStatement = (2, behind_statement)
known Accept = (1, behind_statement)
known AcceptRest = (3, behind_statement)
known Do = (1, behind_statement)
known WithoutDo = (1, behind_statement)
known Select = (1, behind_statement)
known SelectRest = (8, behind_handlers)
known CallSelect = (4, behind_handlers)
known Otherwise = (4, behind_handlers)
known OrDelay = (1, behind_handlers)
known OrElsePart = (2, behind_handlers)
known AcceptSelect = (6, behind_handlers)
known Guard = (1, behind_guard)
known FirstAlternative = (5, behind_handlers)
known AcceptsOnly = (3, behind_handlers)
known AfterAccept = (4, behind_handlers)
known SelectElse = (2, behind_handlers)
known OrAny = (1, behind_handlers)
known AnyAlternative = (5, behind_handlers)
known WithDelays = (3, behind_handlers)
known OrEither = (1, behind_or_either)
known Either = (4, behind_or_either)
known WithTerminate = (2, behind_handlers)
known OrAccept = (1, behind_or_either)
known DelaysFirst = (3, behind_handlers)
known NeedAccept = (5, behind_handlers)
known DelaysAccept = (3, behind_handlers)
known TerminateFirst = (2, behind_handlers)
known AcceptAlternative = (2, behind_accept_alternative)
known DelayAlternative = (2, behind_or_either)
known TerminateAlternative = (1, behind_or_either)
known Protected = (1, behind_declaration)
known ProtectedRest = (4, behind_declaration)
known ProtectedDeclaration = (2, behind_declaration)
known PrivatePart = (1, behind_handlers)
known PrivateItem = (7, behind_private_item)
known PrivateOperation = (5, behind_private_item)
known Components = (3, behind_private_item)
known Operation = (4, behind_entry_declaration)
known EntryOperation = (2, behind_entry_declaration)
known ProcedureOperation = (1, behind_entry_declaration)
known FunctionOperation = (1, behind_entry_declaration)
known ProtectedBody = (1, behind_declaration)
known OperationBody = (3, behind_operation_body)
known EntryBody = (1, behind_operation_body)
known ProcedureBody = (1, behind_operation_body)
known FunctionBody = (1, behind_operation_body)
known Abort = (1, behind_statement)
known MoreNames = (1, behind_more_names)
known Requeue = (1, behind_statement)
known WithAbort = (1, behind_initial)

-- how many rules may be entered before a token of the phrase is passed, its own among them
abbrev pub rank : Phrase → ℕ
rank p = (known p).0

-- the kinds that may come behind the phrase
abbrev pub follow : Phrase → List ℕ
follow p = (known p).1

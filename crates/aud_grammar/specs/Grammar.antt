-- The grammar, as data: each phrase is a list of symbols.
use Rattle.std.specs.Prelude.{List, [], ◌∷◌}
use Rattle.aud_lex.specs.declared.token.Kind.{Kind}
use Rattle.aud_lex.specs.declared.token.Kind.TheVariants as kind

-- the names of the grammar's phrases
pub data Phrase : Type 0 where
  Unit Declarations DeclarationList Declaration Identifiers MoreIdentifiers Initial Body : Phrase
  Clause WithClause UseClause Library NamedDeclaration DeclarationRest Variable Constant : Phrase
  Procedure Formals InFormals Formal MoreFormals Mode InMode InOut OutMode : Phrase
  Task TaskRest TaskDeclaration TaskType TaskDefinition TaskBody : Phrase
  ArrayRest Index InIndex Bound Negated ExceptionRest : Phrase
  Selected MoreArgs NamedStatement StatementRest : Phrase
  Statements StatementList Statement NullStatement NameStatement NameRest Assignment Call : Phrase
  Labelled Labellable If Elsif ElsePart Loop Iteration While For Reverse Exit When : Phrase
  Block Declare Return Raise Handlers HandlerList Handler Choices Others NamedChoices MoreChoices : Phrase
  Expression Logic AndLogic AndRest AndThen AndOnly MoreAndThen MoreAnd : Phrase
  OrLogic OrRest OrElse OrOnly MoreOrElse MoreOr XorLogic MoreXor : Phrase
  Relation Compared RelationalOperator Equal Unequal Less AtMost Greater AtLeast : Phrase
  Simple Sign Positive Negative Added AddingOperator Plus Minus Join : Phrase
  Term Multiplied MultiplyingOperator Times Divide Modulo Remainder : Phrase
  Factor Operator Magnitude Not : Phrase
  Primary Integer String Named Attribute Group Parens InParens : Phrase
  Name NamePart Args InArgs : Phrase
  Identifier Number Literal : Phrase
  Real DelayStatement Delay DelayTime Seconds DurationOf : Phrase
  EntryDeclaration AcceptStatement Accept AcceptRest Do WithoutDo : Phrase
  Select SelectRest CallSelect Otherwise OrDelay OrElsePart : Phrase
  AcceptSelect Guard FirstAlternative AcceptsOnly AfterAccept SelectElse OrAny AnyAlternative : Phrase
  WithDelays OrEither Either WithTerminate OrAccept DelaysFirst NeedAccept DelaysAccept TerminateFirst : Phrase
  AcceptAlternative DelayAlternative TerminateAlternative : Phrase
  Protected ProtectedRest ProtectedDeclaration PrivatePart PrivateItem PrivateOperation Components : Phrase
  Operation EntryOperation ProcedureOperation FunctionOperation : Phrase
  ProtectedBody OperationBody EntryBody ProcedureBody FunctionBody : Phrase
  Abort MoreNames Requeue WithAbort : Phrase

-- the identifiers that the grammar names (RM A.10.1, 9.6)
pub data Word : Type 0 where
  Ada TextIo Duration : Word

-- a symbol of a rule
pub data Symbol : Type 0 where
  -- a word or a delimiter
  T : Kind → Symbol
  -- a token of which the tree keeps something
  P : Kind → Symbol
  -- an identifier that the grammar names
  W : Word → Symbol
  -- a phrase
  N : Phrase → Symbol
  -- a phrase that lies one level deeper, and the end of a level
  L : Phrase → Symbol
  Down : Symbol
  -- one of several phrases
  A : List Phrase → Symbol
  -- a phrase or nothing, and any number of a phrase
  Opt : Phrase → Symbol
  Rep : Phrase → Symbol

abbrev pub rule : Phrase → List Symbol
-- a program is its main procedure, behind context clauses for Ada.Text_IO (RM 10.1.1, 6.3, 10.1.2, 8.4)
rule Unit = Rep Clause ∷ P kind.Procedure ∷ N Identifier ∷ T kind.Is ∷ Opt Declarations ∷ N Body ∷ []
rule Clause = A (WithClause ∷ UseClause ∷ []) ∷ []
rule WithClause = P kind.With ∷ N Library ∷ []
rule UseClause = P kind.Use ∷ N Library ∷ []
rule Library = W Ada ∷ T kind.Point ∷ W TextIo ∷ T kind.Semicolon ∷ []
-- declarations lie one level deeper (RM 3.11)
rule Declarations = L DeclarationList ∷ Down ∷ []
rule DeclarationList = N Declaration ∷ Rep Declaration ∷ []
rule Declaration = A (NamedDeclaration ∷ Procedure ∷ Task ∷ Protected ∷ []) ∷ []
-- variables, constants and arrays (RM 3.3.1), and exceptions (RM 11.1)
rule NamedDeclaration = N Identifiers ∷ T kind.Colon ∷ N DeclarationRest ∷ []
rule Identifiers = N Identifier ∷ Rep MoreIdentifiers ∷ []
rule MoreIdentifiers = T kind.Comma ∷ N Identifier ∷ []
rule DeclarationRest = A (Variable ∷ Constant ∷ ArrayRest ∷ ExceptionRest ∷ []) ∷ []
rule Variable = N Identifier ∷ Opt Initial ∷ T kind.Semicolon ∷ []
rule Constant = T kind.Constant ∷ N Identifier ∷ N Initial ∷ T kind.Semicolon ∷ []
rule Initial = T kind.Becomes ∷ N Expression ∷ []
-- RM 3.6
rule ArrayRest = T kind.Array ∷ N Index ∷ T kind.Of ∷ N Identifier ∷ T kind.Semicolon ∷ []
rule Index = L InIndex ∷ Down ∷ []
rule InIndex = T kind.LeftParenthesis ∷ N Bound ∷ T kind.DoubleDot ∷ N Bound ∷ T kind.RightParenthesis ∷ []
rule Bound = Opt Negated ∷ N Number ∷ []
rule Negated = T kind.Minus ∷ []
rule ExceptionRest = T kind.Exception ∷ T kind.Semicolon ∷ []
-- RM 6.3, 6.1
rule Procedure = P kind.Procedure ∷ N Identifier ∷ Opt Formals ∷ T kind.Is ∷ Opt Declarations ∷ N Body ∷ []
rule Formals = L InFormals ∷ Down ∷ []
rule InFormals = T kind.LeftParenthesis ∷ N Formal ∷ Rep MoreFormals ∷ T kind.RightParenthesis ∷ []
rule MoreFormals = T kind.Semicolon ∷ N Formal ∷ []
rule Formal = N Identifiers ∷ T kind.Colon ∷ Opt Mode ∷ N Identifier ∷ []
rule Mode = A (InMode ∷ OutMode ∷ []) ∷ []
rule InMode = P kind.In ∷ Opt InOut ∷ []
rule InOut = T kind.Out ∷ []
rule OutMode = P kind.Out ∷ []
-- RM 9.1: a task or a task type, or the body of one
rule Task = P kind.Task ∷ N TaskRest ∷ []
rule TaskRest = A (TaskBody ∷ TaskDeclaration ∷ []) ∷ []
rule TaskDeclaration = Opt TaskType ∷ N Identifier ∷ Opt TaskDefinition ∷ T kind.Semicolon ∷ []
rule TaskType = T kind.Type ∷ []
rule TaskDefinition = T kind.Is ∷ Rep EntryDeclaration ∷ T kind.End ∷ Opt Identifier ∷ []
rule TaskBody = T kind.Body ∷ N Identifier ∷ T kind.Is ∷ Opt Declarations ∷ N Body ∷ []
-- RM 6.3, 11.2
rule Body = P kind.Begin ∷ N Statements ∷ Opt Handlers ∷ P kind.End ∷ Opt Identifier ∷ P kind.Semicolon ∷ []
rule Handlers = T kind.Exception ∷ N HandlerList ∷ []
rule HandlerList = N Handler ∷ Rep Handler ∷ []
rule Handler = T kind.When ∷ N Choices ∷ T kind.Arrow ∷ N Statements ∷ []
rule Choices = A (Others ∷ NamedChoices ∷ []) ∷ []
rule Others = P kind.Others ∷ []
rule NamedChoices = N Identifier ∷ Rep MoreChoices ∷ []
rule MoreChoices = T kind.Bar ∷ N Identifier ∷ []
-- statements lie one level deeper (RM 5.1)
rule Statements = L StatementList ∷ Down ∷ []
rule StatementList = N Statement ∷ Rep Statement ∷ []
rule Statement = A (NullStatement ∷ NameStatement ∷ If ∷ Loop ∷ Block ∷ Exit ∷ Return ∷ Raise ∷ AcceptStatement ∷ DelayStatement ∷ Select ∷ Abort ∷ Requeue ∷ []) ∷ []
rule NullStatement = P kind.Null ∷ T kind.Semicolon ∷ []
-- a loop or a block behind its name, an assignment or a call (RM 5.5, 5.6, 5.2, 6.4)
rule NameStatement = N Identifier ∷ N NameRest ∷ []
rule NameRest = A (Labelled ∷ NamedStatement ∷ []) ∷ []
rule Labelled = T kind.Colon ∷ N Labellable ∷ []
rule Labellable = A (Loop ∷ Block ∷ []) ∷ []
rule NamedStatement = Opt Args ∷ Rep Selected ∷ N StatementRest ∷ []
rule StatementRest = A (Assignment ∷ Call ∷ []) ∷ []
rule Assignment = T kind.Becomes ∷ N Expression ∷ T kind.Semicolon ∷ []
rule Call = T kind.Semicolon ∷ []
-- RM 5.3
rule If = P kind.If ∷ N Expression ∷ T kind.Then ∷ N Statements ∷ Rep Elsif ∷ Opt ElsePart ∷ T kind.End ∷ T kind.If ∷ T kind.Semicolon ∷ []
rule Elsif = P kind.Elsif ∷ N Expression ∷ T kind.Then ∷ N Statements ∷ []
rule ElsePart = T kind.Else ∷ N Statements ∷ []
-- RM 5.5
rule Loop = Opt Iteration ∷ P kind.Loop ∷ N Statements ∷ T kind.End ∷ T kind.Loop ∷ Opt Identifier ∷ P kind.Semicolon ∷ []
rule Iteration = A (While ∷ For ∷ []) ∷ []
rule While = P kind.While ∷ N Expression ∷ []
rule For = P kind.For ∷ N Identifier ∷ T kind.In ∷ Opt Reverse ∷ N Simple ∷ T kind.DoubleDot ∷ N Simple ∷ []
rule Reverse = T kind.Reverse ∷ []
-- RM 5.6
rule Block = Opt Declare ∷ N Body ∷ []
rule Declare = P kind.Declare ∷ Opt Declarations ∷ []
-- RM 5.7
rule Exit = P kind.Exit ∷ Opt Identifier ∷ Opt When ∷ T kind.Semicolon ∷ []
rule When = T kind.When ∷ N Expression ∷ []
-- RM 6.5
rule Return = P kind.Return ∷ Opt Expression ∷ T kind.Semicolon ∷ []
-- RM 11.3
rule Raise = P kind.Raise ∷ Opt Identifier ∷ T kind.Semicolon ∷ []
-- RM 4.4: between the relations of an expression stands the same operator
rule Expression = N Relation ∷ Opt Logic ∷ []
rule Logic = A (AndLogic ∷ OrLogic ∷ XorLogic ∷ []) ∷ []
rule AndLogic = T kind.And ∷ N AndRest ∷ []
rule AndRest = A (AndThen ∷ AndOnly ∷ []) ∷ []
rule AndThen = T kind.Then ∷ N Relation ∷ Rep MoreAndThen ∷ []
rule AndOnly = N Relation ∷ Rep MoreAnd ∷ []
rule MoreAndThen = T kind.And ∷ T kind.Then ∷ N Relation ∷ []
rule MoreAnd = T kind.And ∷ N Relation ∷ []
rule OrLogic = T kind.Or ∷ N OrRest ∷ []
rule OrRest = A (OrElse ∷ OrOnly ∷ []) ∷ []
rule OrElse = T kind.Else ∷ N Relation ∷ Rep MoreOrElse ∷ []
rule OrOnly = N Relation ∷ Rep MoreOr ∷ []
rule MoreOrElse = T kind.Or ∷ T kind.Else ∷ N Relation ∷ []
rule MoreOr = T kind.Or ∷ N Relation ∷ []
rule XorLogic = N MoreXor ∷ Rep MoreXor ∷ []
rule MoreXor = T kind.Xor ∷ N Relation ∷ []
rule Relation = N Simple ∷ Opt Compared ∷ []
rule Compared = N RelationalOperator ∷ N Simple ∷ []
rule RelationalOperator = A (Equal ∷ Unequal ∷ Less ∷ AtMost ∷ Greater ∷ AtLeast ∷ []) ∷ []
rule Equal = T kind.Equal ∷ []
rule Unequal = T kind.NotEqual ∷ []
rule Less = T kind.Less ∷ []
rule AtMost = T kind.LessOrEqual ∷ []
rule Greater = T kind.Greater ∷ []
rule AtLeast = T kind.GreaterOrEqual ∷ []
rule Simple = Opt Sign ∷ N Term ∷ Rep Added ∷ []
rule Sign = A (Positive ∷ Negative ∷ []) ∷ []
rule Positive = P kind.Plus ∷ []
rule Negative = P kind.Minus ∷ []
rule Added = N AddingOperator ∷ N Term ∷ []
rule AddingOperator = A (Plus ∷ Minus ∷ Join ∷ []) ∷ []
rule Plus = T kind.Plus ∷ []
rule Minus = T kind.Minus ∷ []
rule Join = T kind.Ampersand ∷ []
rule Term = N Factor ∷ Rep Multiplied ∷ []
rule Multiplied = N MultiplyingOperator ∷ N Factor ∷ []
rule MultiplyingOperator = A (Times ∷ Divide ∷ Modulo ∷ Remainder ∷ []) ∷ []
rule Times = T kind.Star ∷ []
rule Divide = T kind.Slash ∷ []
rule Modulo = T kind.Mod ∷ []
rule Remainder = T kind.Rem ∷ []
rule Factor = Opt Operator ∷ N Primary ∷ []
rule Operator = A (Magnitude ∷ Not ∷ []) ∷ []
rule Magnitude = P kind.Abs ∷ []
rule Not = P kind.Not ∷ []
rule Primary = A (Integer ∷ String ∷ Named ∷ Group ∷ []) ∷ []
rule Integer = N Number ∷ []
rule String = N Literal ∷ []
-- a name, or an attribute (RM 4.1.4)
rule Named = N Name ∷ Opt Attribute ∷ []
rule Attribute = T kind.Apostrophe ∷ N Identifier ∷ Opt Parens ∷ []
rule Group = N Parens ∷ []
-- what stands in parentheses lies one level deeper
rule Parens = L InParens ∷ Down ∷ []
rule InParens = P kind.LeftParenthesis ∷ N Expression ∷ T kind.RightParenthesis ∷ []
-- RM 4.1: parts between points, each with the arguments of a call or an index (RM 4.1.1, 4.1.3, 6.4)
rule Name = N NamePart ∷ Rep Selected ∷ []
rule NamePart = N Identifier ∷ Opt Args ∷ []
rule Selected = T kind.Point ∷ N NamePart ∷ []
rule Args = L InArgs ∷ Down ∷ []
rule InArgs = T kind.LeftParenthesis ∷ N Expression ∷ Rep MoreArgs ∷ T kind.RightParenthesis ∷ []
rule MoreArgs = T kind.Comma ∷ N Expression ∷ []
rule Identifier = P kind.Identifier ∷ []
rule Number = P kind.Integer ∷ []
rule Literal = P kind.Text ∷ []
rule Real = P kind.Real ∷ []
-- RM 9.6
rule DelayStatement = N Delay ∷ []
rule Delay = P kind.Delay ∷ N DelayTime ∷ T kind.Semicolon ∷ []
rule DelayTime = A (Seconds ∷ DurationOf ∷ []) ∷ []
rule Seconds = N Real ∷ []
rule DurationOf = W Duration ∷ N Parens ∷ []
-- RM 9.5.2
rule EntryDeclaration = T kind.Entry ∷ N Identifier ∷ Opt Formals ∷ T kind.Semicolon ∷ []
rule AcceptStatement = N Accept ∷ []
rule Accept = P kind.Accept ∷ N Identifier ∷ Opt Formals ∷ N AcceptRest ∷ []
rule AcceptRest = A (Do ∷ WithoutDo ∷ []) ∷ []
rule Do = P kind.Do ∷ N Statements ∷ Opt Handlers ∷ P kind.End ∷ Opt Identifier ∷ P kind.Semicolon ∷ []
rule WithoutDo = T kind.Semicolon ∷ []
-- timed and conditional calls (RM 9.7.2, 9.7.3), and selective accepts
rule Select = P kind.Select ∷ N SelectRest ∷ T kind.End ∷ T kind.Select ∷ T kind.Semicolon ∷ []
rule SelectRest = A (CallSelect ∷ AcceptSelect ∷ []) ∷ []
rule CallSelect = N Name ∷ T kind.Semicolon ∷ Opt Statements ∷ N Otherwise ∷ []
rule Otherwise = A (OrDelay ∷ OrElsePart ∷ []) ∷ []
rule OrDelay = T kind.Or ∷ N Delay ∷ Opt Statements ∷ []
rule OrElsePart = N ElsePart ∷ []
-- at least one accept, and beside accepts either delays, one terminate or an else part (RM 9.7.1): which of these there are decides what
-- may follow
rule AcceptSelect = Opt Guard ∷ N FirstAlternative ∷ []
rule Guard = T kind.When ∷ N Expression ∷ T kind.Arrow ∷ []
rule FirstAlternative = A (AcceptsOnly ∷ DelaysFirst ∷ TerminateFirst ∷ []) ∷ []
-- accepts so far
rule AcceptsOnly = N AcceptAlternative ∷ Opt AfterAccept ∷ []
rule AfterAccept = A (SelectElse ∷ OrAny ∷ []) ∷ []
rule SelectElse = N ElsePart ∷ []
rule OrAny = T kind.Or ∷ Opt Guard ∷ N AnyAlternative ∷ []
rule AnyAlternative = A (AcceptsOnly ∷ WithDelays ∷ WithTerminate ∷ []) ∷ []
-- a delay behind accepts
rule WithDelays = N DelayAlternative ∷ Rep OrEither ∷ []
rule OrEither = T kind.Or ∷ Opt Guard ∷ N Either ∷ []
rule Either = A (AcceptAlternative ∷ DelayAlternative ∷ []) ∷ []
-- a terminate behind accepts
rule WithTerminate = N TerminateAlternative ∷ Rep OrAccept ∷ []
rule OrAccept = T kind.Or ∷ Opt Guard ∷ N AcceptAlternative ∷ []
-- delays so far, and an accept behind them
rule DelaysFirst = N DelayAlternative ∷ T kind.Or ∷ Opt Guard ∷ N NeedAccept ∷ []
rule NeedAccept = A (DelaysFirst ∷ DelaysAccept ∷ []) ∷ []
rule DelaysAccept = N AcceptAlternative ∷ Rep OrEither ∷ []
-- a terminate, and accepts behind it
rule TerminateFirst = N TerminateAlternative ∷ N OrAccept ∷ Rep OrAccept ∷ []
rule AcceptAlternative = N Accept ∷ Opt Statements ∷ []
rule DelayAlternative = N Delay ∷ Opt Statements ∷ []
rule TerminateAlternative = T kind.Terminate ∷ T kind.Semicolon ∷ []
-- RM 9.4: a protected object, or the body of one
rule Protected = P kind.Protected ∷ N ProtectedRest ∷ []
rule ProtectedRest = A (ProtectedBody ∷ ProtectedDeclaration ∷ []) ∷ []
rule ProtectedDeclaration = N Identifier ∷ T kind.Is ∷ Rep Operation ∷ Opt PrivatePart ∷ T kind.End ∷ Opt Identifier ∷ T kind.Semicolon ∷ []
rule PrivatePart = T kind.Private ∷ Rep PrivateItem ∷ []
rule PrivateItem = A (PrivateOperation ∷ Components ∷ []) ∷ []
rule PrivateOperation = N Operation ∷ []
rule Components = N Identifiers ∷ T kind.Colon ∷ N Identifier ∷ Opt Initial ∷ T kind.Semicolon ∷ []
rule Operation = A (EntryOperation ∷ ProcedureOperation ∷ FunctionOperation ∷ []) ∷ []
rule EntryOperation = N EntryDeclaration ∷ []
rule ProcedureOperation = T kind.Procedure ∷ N Identifier ∷ Opt Formals ∷ T kind.Semicolon ∷ []
rule FunctionOperation = T kind.Function ∷ N Identifier ∷ Opt Formals ∷ T kind.Return ∷ N Identifier ∷ T kind.Semicolon ∷ []
rule ProtectedBody = T kind.Body ∷ N Identifier ∷ T kind.Is ∷ Rep OperationBody ∷ T kind.End ∷ Opt Identifier ∷ T kind.Semicolon ∷ []
rule OperationBody = A (EntryBody ∷ ProcedureBody ∷ FunctionBody ∷ []) ∷ []
rule EntryBody = P kind.Entry ∷ N Identifier ∷ Opt Formals ∷ T kind.When ∷ N Expression ∷ T kind.Is ∷ Opt Declarations ∷ N Body ∷ []
rule ProcedureBody = P kind.Procedure ∷ N Identifier ∷ Opt Formals ∷ T kind.Is ∷ Opt Declarations ∷ N Body ∷ []
rule FunctionBody = P kind.Function ∷ N Identifier ∷ Opt Formals ∷ T kind.Return ∷ N Identifier ∷ T kind.Is ∷ Opt Declarations ∷ N Body ∷ []
-- RM 9.8
rule Abort = P kind.Abort ∷ N Name ∷ Rep MoreNames ∷ T kind.Semicolon ∷ []
rule MoreNames = T kind.Comma ∷ N Name ∷ []
-- RM 9.5.4
rule Requeue = P kind.Requeue ∷ N Name ∷ Opt WithAbort ∷ T kind.Semicolon ∷ []
rule WithAbort = T kind.With ∷ T kind.Abort ∷ []

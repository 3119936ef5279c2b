-- The number and the words of each refusal.
use Rattle.std.specs.Prelude.{ℕ, List, codes}
use Rattle.aud_text.specs.declared.refusal.Refusal.{Refusal}
use Rattle.aud_text.specs.declared.refusal.Refusal.TheVariants.{UnknownCommand, BadArgument, LineTooLong, JournalFull, NoProgram, NoSuchTask, NoSuchMove, StepBudget, ChoicesFull, NotAscii, Lexical, Syntax, SourceTooLong, TooDeep, NameNotDeclared, DeclaredTwice, WrongKindOfName, WrongType, WrongNumberOfArguments, NotAVariable, WrongNameAtEnd, NoMatchingBody, AcceptOrCountOutOfPlace, FormalsDoNotConform, ExitWithoutLoop, ReturnOutOfPlace, RaiseWithoutHandler, BadHandlerChoice, FunctionCallOutOfPlace, NumberTooLarge, TooManyDecimals, ChangeWithinFunction, ParameterInBarrier, NotAnEntry, RequeueOutOfPlace, ExternalRequeue, TargetDeclaredInside, OutOfMemory}

abbrev pub told : Refusal → ℕ × List ℕ
told UnknownCommand = (10, codes "unknown command")
told BadArgument = (11, codes "bad argument")
told LineTooLong = (12, codes "line too long")
told JournalFull = (13, codes "journal full")
told NoProgram = (14, codes "no program")
told NoSuchTask = (15, codes "no such task")
told NoSuchMove = (16, codes "no such move")
told StepBudget = (17, codes "step budget")
told ChoicesFull = (18, codes "choice list full")
told NotAscii = (19, codes "not ASCII")
told Lexical = (20, codes "lexical")
told Syntax = (21, codes "syntax")
told SourceTooLong = (22, codes "source too long")
told TooDeep = (23, codes "too deep")
told NameNotDeclared = (30, codes "name not declared")
told DeclaredTwice = (31, codes "declared twice")
told WrongKindOfName = (32, codes "wrong kind of name")
told WrongType = (33, codes "wrong type")
told WrongNumberOfArguments = (34, codes "wrong number of arguments")
told NotAVariable = (35, codes "not a variable")
told WrongNameAtEnd = (36, codes "wrong name at end")
told NoMatchingBody = (37, codes "no matching body")
told AcceptOrCountOutOfPlace = (38, codes "accept or Count out of place")
told FormalsDoNotConform = (39, codes "formals do not conform")
told ExitWithoutLoop = (40, codes "exit without loop")
told ReturnOutOfPlace = (41, codes "return out of place")
told RaiseWithoutHandler = (42, codes "raise without handler")
told BadHandlerChoice = (43, codes "bad handler choice")
told FunctionCallOutOfPlace = (44, codes "function call out of place")
told NumberTooLarge = (45, codes "number too large")
told TooManyDecimals = (46, codes "too many decimals")
told ChangeWithinFunction = (47, codes "change within a function")
told ParameterInBarrier = (48, codes "parameter in barrier")
told NotAnEntry = (49, codes "not an entry")
told RequeueOutOfPlace = (50, codes "requeue out of place")
told ExternalRequeue = (51, codes "external requeue in a protected body")
told TargetDeclaredInside = (52, codes "target declared inside")
told OutOfMemory = (90, codes "out of memory")

-- the number after the letter E; of two faults at one place the one with the lesser number is reported
abbrev pub number : Refusal → ℕ
number why = (told why).0

abbrev pub words : Refusal → List ℕ
words why = (told why).1

-- Small texts are read by computing.
use Rattle.std.proofs.Common.{refl}
use Rattle.aud_grammar.specs.Why.Rows.{Programs, Clauses, Declarations, Sequences, ControlFlow, Primaries, Operators, Comparisons, Logic, WrongPrograms, WrongClauses, WrongDeclarations, WrongStatements, WrongControlFlow, WrongExpressions, WrongLogic, FewLevels, AllLevels}

pub programs : Programs
programs = (refl, refl, refl, refl, refl)

pub clauses : Clauses
clauses = (refl, refl)

pub declarations : Declarations
declarations = (refl, refl, refl, refl, refl, refl)

pub sequences : Sequences
sequences = (refl, refl, refl, refl, refl, refl, refl, refl, refl)

pub control_flow : ControlFlow
control_flow = (refl, refl, refl, refl, refl, refl, refl, refl)

pub primaries : Primaries
primaries = (refl, refl, refl, refl, refl, refl, refl, refl, refl, refl, refl, refl, refl, refl, refl)

pub operators : Operators
operators = (refl, refl, refl, refl, refl, refl, refl, refl, refl, refl, refl, refl, refl, refl)

pub comparisons : Comparisons
comparisons = (refl, refl, refl, refl, refl, refl, refl, refl)

pub logic : Logic
logic = (refl, refl, refl, refl, refl, refl, refl, refl, refl, refl, refl, refl, refl)

pub wrong_programs : WrongPrograms
wrong_programs = (refl, refl, refl, refl, refl, refl, refl, refl, refl, refl, refl, refl, refl, refl)

pub wrong_clauses : WrongClauses
wrong_clauses = (refl, refl, refl, refl, refl, refl, refl, refl, refl)

pub wrong_declarations : WrongDeclarations
wrong_declarations = (refl, refl, refl, refl, refl, refl, refl, refl, refl, refl, refl, refl, refl)

pub wrong_statements : WrongStatements
wrong_statements = (refl, refl, refl, refl, refl, refl, refl, refl, refl, refl, refl, refl, refl, refl, refl, refl)

pub wrong_control_flow : WrongControlFlow
wrong_control_flow = (refl, refl, refl, refl, refl, refl, refl, refl, refl, refl, refl, refl, refl, refl, refl, refl, refl, refl, refl, refl, refl, refl)

pub wrong_expressions : WrongExpressions
wrong_expressions = (refl, refl, refl, refl, refl, refl, refl, refl, refl, refl, refl, refl, refl, refl, refl, refl, refl, refl, refl, refl, refl, refl, refl, refl, refl, refl, refl, refl, refl, refl)

pub wrong_logic : WrongLogic
wrong_logic = (refl, refl, refl, refl, refl, refl, refl, refl, refl, refl, refl, refl, refl, refl, refl, refl, refl, refl, refl)

pub few_levels : FewLevels
few_levels = (refl, refl, refl, refl, refl, refl, refl, refl, refl, refl, refl, refl, refl, refl, refl, refl, refl, refl, refl, refl, refl, refl, refl, refl)

pub all_levels : AllLevels
all_levels = (refl, refl, refl, refl)

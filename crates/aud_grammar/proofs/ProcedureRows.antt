-- Small texts with procedures and return statements are read by computing.
use Rattle.std.proofs.Common.{refl}
use Rattle.aud_grammar.specs.Why.ProcedureRows.{Formals, Procedures, Returns, WrongFormals, WrongProcedures, WrongReturns, LevelsOfProcedures}

pub formals : Formals
formals = (refl, refl, refl, refl)

pub procedures : Procedures
procedures = (refl, refl, refl, refl, refl, refl)

pub return_statements : Returns
return_statements = (refl, refl, refl, refl, refl)

pub wrong_formals : WrongFormals
wrong_formals = (refl, refl, refl, refl, refl, refl, refl, refl, refl, refl, refl, refl, refl)

pub wrong_procedures : WrongProcedures
wrong_procedures = (refl, refl, refl, refl, refl, refl, refl, refl, refl, refl, refl, refl, refl, refl, refl)

pub wrong_returns : WrongReturns
wrong_returns = (refl, refl, refl, refl, refl, refl, refl, refl, refl)

pub levels_of_procedures : LevelsOfProcedures
levels_of_procedures = (refl, refl, refl, refl, refl, refl, refl, refl, refl)

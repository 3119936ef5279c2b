use Rattle.aud_grammar.proofs.ProcedureRows.{formals, procedures, return_statements}
use Rattle.aud_grammar.proofs.laws.trees_of_procedures.Goals as goal

pub returns : goal.returns
returns c = (formals, procedures, return_statements)

use Rattle.aud_grammar.proofs.ProcedureRows.{wrong_formals, wrong_procedures, wrong_returns}
use Rattle.aud_grammar.proofs.laws.faults_of_procedures.Goals as goal

pub returns : goal.returns
returns c = (wrong_formals, wrong_procedures, wrong_returns)

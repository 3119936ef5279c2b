use Rattle.aud_grammar.proofs.ProcedureRows.{levels_of_procedures}
use Rattle.aud_grammar.proofs.laws.levels_of_procedures.Goals as goal

pub returns : goal.returns
returns c = levels_of_procedures

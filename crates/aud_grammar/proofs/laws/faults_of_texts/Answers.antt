use Rattle.aud_grammar.proofs.Rows.{wrong_programs, wrong_clauses, wrong_declarations, wrong_statements, wrong_control_flow, wrong_expressions, wrong_logic}
use Rattle.aud_grammar.proofs.laws.faults_of_texts.Goals as goal

pub returns : goal.returns
returns c = (wrong_programs, wrong_clauses, wrong_declarations, wrong_statements, wrong_control_flow, wrong_expressions, wrong_logic)

use Rattle.aud_grammar.proofs.Rows.{programs, clauses, declarations, sequences, control_flow, primaries, operators, comparisons, logic}
use Rattle.aud_grammar.proofs.laws.trees_of_texts.Goals as goal

pub returns : goal.returns
returns c = (programs, clauses, declarations, sequences, control_flow, primaries, operators, comparisons, logic)

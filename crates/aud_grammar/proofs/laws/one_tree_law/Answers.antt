use Rattle.aud_grammar.proofs.Spelled.{one_tree}
use Rattle.aud_grammar.proofs.laws.one_tree_law.Goals as goal

pub returns : goal.returns
returns c = one_tree

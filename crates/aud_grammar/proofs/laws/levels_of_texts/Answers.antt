use Rattle.aud_grammar.proofs.Rows.{few_levels, all_levels}
use Rattle.aud_grammar.proofs.laws.levels_of_texts.Goals as goal

pub returns : goal.returns
returns c = (few_levels, all_levels)

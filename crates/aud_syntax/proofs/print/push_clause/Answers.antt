use Rattle.aud_syntax.proofs.Written.{◌then◌}
use Rattle.aud_syntax.proofs.print.push_clause.Goals as goal

pub returns : goal.returns
returns c = c.push_two_words.ensures then c.push_two_words-2.ensures then c.push_last_word.ensures

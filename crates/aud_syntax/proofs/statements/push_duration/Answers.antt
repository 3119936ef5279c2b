use Rattle.aud_syntax.proofs.Written.{◌then◌}
use Rattle.aud_syntax.proofs.statements.push_duration.Goals as goal

pub returns : goal.returns
returns c = c.push_two_words.ensures then c.push_in_parentheses.ensures then c.push_last_word.ensures

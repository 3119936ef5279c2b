use Rattle.std.proofs.Common.{[], rules}
use Rattle.aud_grammar.specs.Ties.Outcome.{o_no_word}
use Rattle.aud_cursor.proofs.Passing.{word_passes}
use Rattle.aud_cursor.proofs.cursor.word.Goals as goal

pub returns-in-Some : goal.returns-in-Some
returns-in-Some c = record { reads = λ r. word_passes c.in-Some.ensures.reads; shorter = search rules }

pub returns-in-None : goal.returns-in-None
returns-in-None c = record { reads = λ r k. ([], o_no_word c.in-None.ensures.reads); shorter = tt }

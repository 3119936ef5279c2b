use Rattle.std.proofs.Common.{refl}
use Rattle.aud_grammar.specs.Grammar.{Duration}
use Rattle.aud_cursor.proofs.cursor.duration.Goals as goal

pub returns : goal.returns
returns c = c.spelled.ensures Duration refl

use Rattle.std.proofs.Common.{sym, ◌∙◌}
use Rattle.aud_cursor.proofs.Passing.{more_text}
use Rattle.aud_cursor.proofs.cursor.+same.Goals as goal

pub returns-then-is_empty-2 : goal.returns-then-is_empty-2
returns-then-is_empty-2 t c = more_text _ _ (sym c.is_empty.ensures ∙ c.if-is_empty.false) (sym c.is_empty-2.ensures ∙ c.if-is_empty-2.true)

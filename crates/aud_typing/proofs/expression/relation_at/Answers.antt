use Rattle.aud_syntax.proofs.Opened.{comparison_open}
use Rattle.aud_typing.proofs.expression.relation_at.Goals as goal

pub returns-in-Related : goal.returns-in-Related
returns-in-Related c = rw (c.in-Related.is, comparison_open c.in-Related.comparison.value) (rw c.deref.ensures at c.simple_at-in-Related.ensures)

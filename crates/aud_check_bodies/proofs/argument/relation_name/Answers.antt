use Rattle.aud_syntax.proofs.Opened.{comparison_open}
use Rattle.aud_check_bodies.proofs.argument.relation_name.Goals as goal

pub returns-in-Related : goal.returns-in-Related
returns-in-Related c = rw (c.in-Related.is, comparison_open c.in-Related.field-0.value)
